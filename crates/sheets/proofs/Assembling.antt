-- The bodies of a sheet, written one behind the other, are the sheet of the class.
-- Assumes nothing.
use Prim.Native.Nat.{ℕ, ◌+◌, ◌*◌, ◌/◌, ◌%◌, ◌<◌, ◌≤◌}
use native.Mathlib.Omega.{arith}
use mathlib.Core.Path.{◌≡◌, refl, sym, ◌∙◌, ap, subst}
use mathlib.Core.List.{List, [], ◌∷◌, ◌++◌, map, append-nil}
use lib.ListN.{length, drop, length-append, length-map}
use lib.Seq.{sets-eq}
use Rattle.model.specs.Tree.{Class}
use Rattle.model.specs.Replies.{written}
use Rattle.encoding.specs.Records.{fours, eights, number}
use Rattle.encoding.specs.Encoding.{class_records, state_records, state_bytes, when_records, all_guards, action_records, statement_records, gathered, contents, sheet_of}
use Rattle.encoding.specs.Within.{Within}
use Rattle.encoding.proofs.StateRecord.{length_states}
use Rattle.model.proofs.Lists.{length_listed}
use Rattle.records.specs.Bytes.{u32}
use Rattle.encoding.proofs.From.{length_fours, length_eights}
use Rattle.encoding.proofs.SheetLaws.{laid}
use Rattle.pen.specs.Writing.{Puts}
use Rattle.pen.proofs.Puts.{puts_on}
use Rattle.grammar.specs.Grammar.{Text}
use Rattle.grammar.specs.Reading.{Says}
use mathlib.Core.Bool.{true}
use Rattle.naming.specs.NameLists.{Lists, class_sets}
use Rattle.naming.specs.Naming.{class_in}
use Rattle.naming.specs.Known.{text_known}
use Rattle.lists.specs.Lent.{lent, sets_in}
use Rattle.sizes.specs.Sized.{sizes_in}
use Rattle.sizes.specs.declared.Sizes.{Sizes}
use Rattle.clauses.specs.Bodies.{WritesStates, WritesActions}
use Rattle.whens.specs.Whens.{WritesWhens}
use Rattle.statements.specs.Statements.{WritesStatements}
use Rattle.sheets.specs.Sheets.{body_sizes, sheet_size, table_size}
use Rattle.laying.specs.Laying.{contents_bytes, sets_bytes}
use Rattle.laying.proofs.SheetParts.{contents_are, sets_are}

-- the six bodies of a class
abbrev pub six : Class → List (List ℕ)
six c =
    fours (class_records c) ∷ state_bytes (state_records c.states 0 0) ∷ fours (when_records c) ∷ eights (all_guards c) ∷ fours (action_records c)
    ∷ eights (statement_records c) ∷ []

-- a sheet of a class within the limits is short
pub short : (c : Class) → Within c → length (sheet_of c) ≤ 18616
short c w =
    let a = w.classes in
    let b = w.states in
    let d = w.whens in
    let e = w.guards in
    let f = w.actions in
    let g = w.statements in
    omega (arith, (laid c).long)

-- so its contents hold its places
small : (c : Class) → Within c → 24 + length (gathered (λ b. b) (six c)) < 65536
unfolding sheet_of contents
small c w =
    let six_entries : length (contents 24 (six c)) ≡ 6 = six_of c in
    omega (arith, short c w, length-append (fours (contents 24 (six c))) (gathered (λ b. b) (six c)), length_fours (contents 24 (six c)))
  where
    six_of : (c : Class) → length (contents 24 (six c)) ≡ 6
    six_of c = refl

module _ (c : Class) (w : Within c) {sizes b0 b1 b2 b3 b4 b5 b6 b7 : List ℕ} {r1 r2 r3 r4 r5 r6 r7 : ℕ} where
  pub assembled : sizes ≡ map length (six c) → Puts (contents_bytes 24 sizes) b0 0 b1 r1 → Puts (sets_bytes c.children) b1 r1 b2 r2
      → Puts (state_bytes (state_records c.states 0 0)) b2 r2 b3 r3 → Puts (fours (when_records c)) b3 r3 b4 r4 → Puts (eights (all_guards c)) b4 r4 b5 r5
      → Puts (fours (action_records c)) b5 r5 b6 r6 → Puts (eights (statement_records c)) b6 r6 b7 r7 → Puts (sheet_of c) b0 0 b7 r7
  unfolding sheet_of gathered
  assembled e p0 p1 p2 p3 p4 p5 p6 =
      puts_on (subst (λ (x : List ℕ). Puts x b0 0 b1 r1) (ap (contents_bytes 24) e ∙ contents_are 24 (six c) (small c w)) p0)
      (puts_on (subst (λ (x : List ℕ). Puts x b1 r1 b2 r2) (sets_are c.children w.numbers.sets) p1)
      (puts_on p2 (puts_on p3 (puts_on p4 (puts_on p5 (subst (λ (x : List ℕ). Puts x b6 r6 b7 r7) (sym (append-nil (eights (statement_records c)))) p6))))))

-- with room for it, the buffer holds it, and behind it what it held
pub all_written : (bytes before after : List ℕ) (r : ℕ) → Puts bytes before 0 after r → length bytes ≤ length before → after ≡ written bytes before
all_written bytes before after r p h = p.buffer ∙ (sets-eq bytes before 0 (omega arith) ∙ ap (λ (n : ℕ). bytes ++ drop n before) (let z : 0 + length bytes ≡ length bytes = omega arith in z))

-- the lengths of the bodies of a class within the limits
pub sizes_are : (c : Class) → Within c → (K : ℕ) (n : Sizes) → K ≡ length c.children → n ≡ sizes_in c → body_sizes K n ≡ map length (six c)
unfolding sizes_in
sizes_are c w K n e f =
    (λ i. size 4 K (length c.children) (length (fours (class_records c))) e (omega (arith, w.classes)) (omega (arith, length_fours (class_records c), length-map c.children number)) i
    ∷ size 4 n.states (length c.states) (length (state_bytes (state_records c.states 0 0))) (ap (λ (x : Sizes). x.states) f) (omega (arith, w.states)) (omega (arith, length_fours (state_records c.states 0 0), length_states c.states 0 0)) i
    ∷ size 4 n.whens (length (when_records c)) (length (fours (when_records c))) (ap (λ (x : Sizes). x.whens) f) (omega (arith, w.whens)) (length_fours (when_records c)) i
    ∷ size 8 n.guards (length (all_guards c)) (length (eights (all_guards c))) (ap (λ (x : Sizes). x.guards) f) (omega (arith, w.guards)) (length_eights (all_guards c)) i
    ∷ size 4 n.actions (length (action_records c)) (length (fours (action_records c))) (ap (λ (x : Sizes). x.actions) f) (omega (arith, w.actions)) (length_fours (action_records c)) i
    ∷ size 8 n.statements (length (statement_records c)) (length (eights (statement_records c))) (ap (λ (x : Sizes). x.statements) f) (omega (arith, w.statements)) (length_eights (statement_records c)) i
    ∷ [])
  where
    size : (bytes m k long : ℕ) → m ≡ k → k < 8192 → long ≡ k * bytes → m % 8192 * bytes ≡ long
    size bytes m k long e l h = let z : m % 8192 ≡ k = omega arith in ap (λ (x : ℕ). x * bytes) z ∙ sym h

-- the writers one after the other
module _ (text names commands classes : List ℕ) (t : Text) (n : Sizes) (guards : List ℕ) {b0 b1 b2 b3 b4 b5 b6 b7 : List ℕ} {r1 r2 r3 r4 r5 r6 r7 : ℕ} where
  pub sheet_written : Says text t → text_known (lent names commands classes) t ≡ true → Within (class_in (lent names commands classes) t)
      → n ≡ sizes_in (class_in (lent names commands classes) t) → guards ≡ eights (all_guards (class_in (lent names commands classes) t))
      → {sizes : List ℕ} → sizes ≡ body_sizes (length classes / 36) n → Puts (contents_bytes 24 sizes) b0 0 b1 r1 → Puts (sets_bytes (sets_in classes)) b1 r1 b2 r2
      → WritesStates text b2 r2 b3 r3 → WritesWhens text b3 r3 b4 r4 → Puts guards b4 r4 b5 r5 → WritesActions text commands b5 r5 b6 r6
      → WritesStatements text commands classes b6 r6 b7 r7 → Puts (sheet_of (class_in (lent names commands classes) t)) b0 0 b7 r7
  unfolding class_in class_sets sets_in
  sheet_written says known w e f g p0 p1 p2 p3 p4 p5 p6 =
      let l : Lists = lent names commands classes in
      let c = class_in l t in
      assembled c w (g ∙ sizes_are c w (length classes / 36) n (sym (length_listed 0 (length classes / 36) (λ i. u32 classes (i * 36 + 32)))) e) p0 p1 (p2.of_text l t says w) (p3 l t says known w)
      (subst (λ (x : List ℕ). Puts x b4 r4 b5 r5) f p4) (p5.of_text l t refl says known w) (p6 names t says known w)

-- the sizes counted are those of the sheet and of the table
pub sheet_size_is : (c : Class) → Within c → (K : ℕ) (n : Sizes) → K ≡ length c.children → n ≡ sizes_in c → sheet_size K n ≡ length (sheet_of c)
unfolding sizes_in
sheet_size_is c w K n e f =
    let s : n.states ≡ length c.states = ap (λ (x : Sizes). x.states) f in
    let h : n.whens ≡ length (when_records c) = ap (λ (x : Sizes). x.whens) f in
    let g : n.guards ≡ length (all_guards c) = ap (λ (x : Sizes). x.guards) f in
    let a : n.actions ≡ length (action_records c) = ap (λ (x : Sizes). x.actions) f in
    let t : n.statements ≡ length (statement_records c) = ap (λ (x : Sizes). x.statements) f in
    omega (arith, (laid c).long, w.classes, w.states, w.whens, w.guards, w.actions, w.statements)

pub table_size_is : (c : Class) → Within c → (n : Sizes) → n ≡ sizes_in c → table_size n ≡ 32 * length c.states
unfolding sizes_in
table_size_is c w n f = let s : n.states ≡ length c.states = ap (λ (x : Sizes). x.states) f in omega (arith, w.states)
