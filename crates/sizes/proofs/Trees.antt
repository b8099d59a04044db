-- What the words of each tree add to what is counted.
-- Assumes nothing.
use Prim.Native.Nat.{ℕ, suc, ◌+◌, ◌-◌, ◌≤◌, max}
use native.Mathlib.Omega.{arith}
use mathlib.Core.Path.{◌≡◌, refl, ◌∙◌, ap}
use mathlib.Core.Bool.{Bool, true, false}
use mathlib.Core.List.{List, [], ◌∷◌, ◌++◌, map}
use lib.ListN.{length, length-append}
use Rattle.model.specs.Tree as M
use Rattle.grammar.specs.Grammar as G
use Rattle.grammar.specs.Grammar.{Token, fixed, name, Name, all_word, or_word, and_word, close_word, right_word, comma_word, do_word, move_word, if_word, then_word, else_word, endif_word, end_word, quantifier_word, side_word, kin_words, names_words, set_words, guard_words, conj_words, operand_words, referrer_words, when_words, part_words, action_words, state_words}
use Rattle.grammar.specs.Kinds.{kind_of}
use Rattle.grammar.specs.Words.{position}
use Rattle.naming.specs.NameLists.{Lists, command_names, number_in}
use Rattle.naming.specs.Naming.{in_order, action_names, pattern_of, guard_of, conj_of, operand_of, part_of, when_of, action_of, state_of}
use Rattle.naming.proofs.Rows.{list_words, state_as_lists}
use Rattle.encoding.specs.Encoding.{guard_records, part_guards, statement_guards, gathered, when_guards, action_guards, state_guards}
use Rattle.encoding.specs.Limits.{part_depth}
use Rattle.encoding.proofs.RecordCounts.{part_size, summed, summed_append}
use Rattle.sizes.specs.Counting.{counted, tally}
use Rattle.sizes.specs.Sized.{deepest_in}
use Rattle.sizes.specs.declared.Sizes.{Sizes}

-- sizes are the same that are the same number by number
pub same_sizes : (n m : Sizes) → n.states ≡ m.states → n.whens ≡ m.whens → n.guards ≡ m.guards → n.actions ≡ m.actions → n.statements ≡ m.statements → n.deepest ≡ m.deepest → n ≡ m
same_sizes n m a b c d e f = λ i. record { states = a i; whens = b i; guards = c i; actions = d i; statements = e i; deepest = f i }

-- with another number of guard records; with what a part adds
abbrev with_guards : Sizes → ℕ → Sizes
with_guards n g = record { states = n.states; whens = n.whens; guards = g; actions = n.actions; statements = n.statements; deepest = n.deepest }

abbrev with_part : Sizes → ℕ → ℕ → ℕ → Sizes
with_part n g s d = record { states = n.states; whens = n.whens; guards = g; actions = n.actions; statements = s; deepest = d }

-- words that are not counted, and the one that a guard's atom is counted by
module _ (a : Bool) (o : ℕ) where
  past_quantifier : (q : G.Quantifier) (ws : List Token) (n : Sizes) → tally n a o (fixed (quantifier_word q) ∷ ws) ≡ tally n a o ws
  unfolding quantifier_word kind_of counted tally
  past_quantifier G.any ws n = refl
  past_quantifier G.all ws n = refl

  past_side : (s : G.Side) (ws : List Token) (n : Sizes) → tally n a o (fixed (side_word s) ∷ ws) ≡ tally (with_guards n (n.guards + 1)) a o ws
  unfolding side_word kind_of counted tally
  past_side G.inside ws n = refl
  past_side G.outside ws n = refl

  past_kin : (k : G.Kin) (ws : List Token) (n : Sizes) → tally n a o (kin_words k ws) ≡ tally n a o ws
  unfolding kin_words kind_of counted tally
  past_kin G.children ws n = refl
  past_kin (G.kin x) ws n = refl

  past_names : (xs : G.Names) (ws : List Token) (n : Sizes) → tally n a o (names_words xs ws) ≡ tally n a o ws
  unfolding names_words kind_of counted tally
  past_names (G.one x) ws n = refl
  past_names (G.more xs x) ws n = past_names xs (fixed comma_word ∷ name x ∷ ws) n

  past_set : (t : G.Set) (ws : List Token) (n : Sizes) → tally n a o (set_words t ws) ≡ tally n a o ws
  unfolding set_words kind_of counted tally
  past_set (G.single x) ws n = refl
  past_set (G.braces xs) ws n = past_names xs (fixed right_word ∷ ws) n

-- a guard adds its records
abbrev guard_size : M.Guard → ℕ
guard_size g = length (guard_records g)

both_size : (g h : M.Guard) → guard_size (M.both g h) ≡ guard_size g + guard_size h + 1
unfolding guard_records
both_size g h = let e = length-append (guard_records g) (guard_records h) in omega arith

either_size : (g h : M.Guard) → guard_size (M.either g h) ≡ guard_size g + guard_size h + 1
unfolding guard_records
either_size g h = let e = length-append (guard_records g) (guard_records h) in omega arith

opposite_size : (g : M.Guard) → guard_size (M.opposite g) ≡ guard_size g + 1
unfolding guard_records
opposite_size g = omega arith

module _ (l : Lists) (a : Bool) (o : ℕ) where
  mutual
    unfolding guard_words guard_of kind_of counted tally guard_records

    guard_adds : (g : G.Guard) (ws : List Token) (n : Sizes) (m : ℕ) → m ≡ n.guards + guard_size (guard_of g l) → tally n a o (guard_words g ws) ≡ tally (with_guards n m) a o ws
    guard_adds (G.just c) ws n m e = conj_adds c ws n m e
    guard_adds (G.or g c) ws n m e =
        let x : ℕ = n.guards + guard_size (guard_of g l) in
        let z : m ≡ x + 1 + guard_size (conj_of c l) = omega (arith, either_size (guard_of g l) (conj_of c l)) in
        guard_adds g (fixed or_word ∷ conj_words c ws) n x refl ∙ conj_adds c ws (with_guards n (x + 1)) m z

    conj_adds : (c : G.Conj) (ws : List Token) (n : Sizes) (m : ℕ) → m ≡ n.guards + guard_size (conj_of c l) → tally n a o (conj_words c ws) ≡ tally (with_guards n m) a o ws
    conj_adds (G.only u) ws n m e = operand_adds u ws n m e
    conj_adds (G.and c u) ws n m e =
        let x : ℕ = n.guards + guard_size (conj_of c l) in
        let z : m ≡ x + 1 + guard_size (operand_of u l) = omega (arith, both_size (conj_of c l) (operand_of u l)) in
        conj_adds c (fixed and_word ∷ operand_words u ws) n x refl ∙ operand_adds u ws (with_guards n (x + 1)) m z

    operand_adds : (u : G.Operand) (ws : List Token) (n : Sizes) (m : ℕ) → m ≡ n.guards + guard_size (operand_of u l) → tally n a o (operand_words u ws) ≡ tally (with_guards n m) a o ws
    operand_adds (G.not u) ws n m e = operand_adds u ws (with_guards n (n.guards + 1)) m (omega (arith, opposite_size (operand_of u l)))
    operand_adds (G.brackets g) ws n m e = guard_adds g (fixed close_word ∷ ws) n m e
    operand_adds (G.atom q k s t) ws n m e =
        past_quantifier a o q (kin_words k (fixed (side_word s) ∷ set_words t ws)) n
        ∙ (past_kin a o k (fixed (side_word s) ∷ set_words t ws) n
        ∙ (past_side a o s (set_words t ws) n
        ∙ (past_set a o t ws (with_guards n (n.guards + 1)) ∙ ap (λ (x : ℕ). tally (with_guards n x) a o ws) (let z : n.guards + 1 ≡ m = omega arith in z))))

-- what stands before other statements adds its own numbers to theirs
record Sums (f : M.Part → M.Part) (q : M.Part) : Type 0 where
  guards : length (part_guards (f q)) ≡ length (part_guards (f M.end)) + length (part_guards q)
  statements : part_size (f q) ≡ part_size (f M.end) + part_size q
  depth : part_depth (f q) ≡ max (part_depth (f M.end)) (part_depth q)

sums_then : (f : M.Part → M.Part) → ((q : M.Part) → Sums f q) → (s : M.Statement) (q : M.Part) → Sums (λ q. f (M.◌then◌ s q)) q
unfolding part_guards part_size part_depth
sums_then f h s q =
    let x = h (M.◌then◌ s q) in
    let y = h (M.◌then◌ s M.end) in
    let e = length-append (statement_guards s) (part_guards q) in
    let d = length-append (statement_guards s) (part_guards M.end) in
    record { guards = omega (arith, x.guards, y.guards); statements = omega (arith, x.statements, y.statements); depth = omega (arith, x.depth, y.depth) }

-- the numbers of an if that stands alone
if_guards : (g : M.Guard) (a b : M.Part) → length (part_guards (M.◌then◌ (M.branch g a b) M.end)) ≡ guard_size g + length (part_guards a) + length (part_guards b)
unfolding part_guards
if_guards g a b =
    let x = length-append (guard_records g ++ (part_guards a ++ part_guards b)) (part_guards M.end) in
    let y = length-append (guard_records g) (part_guards a ++ part_guards b) in
    let z = length-append (part_guards a) (part_guards b) in
    omega arith

-- how deep it makes a part that is otherwise p deep, behind D, where o ifs are open
if_deep : (D o p i x d : ℕ) → x ≡ max p (max (suc i) 0) → d ≡ max D (o + x) → d ≡ max (max D (o + p)) (o + 1 + i)
if_deep D o p i x d h e = omega arith

part_deep : (E o a : ℕ) → max E (o + 1 + max a 0) ≡ max (max E (o + 1)) (o + 1 + a)
part_deep E o a = omega arith

parts_deep : (E o a b : ℕ) → max E (o + 1 + max a b) ≡ max (max (max E (o + 1)) (o + 1 + a)) (o + 1 + b)
parts_deep E o a b = omega arith

-- with more when clauses, which have so many guard records; with more action clauses; with more states
abbrev with_whens : Sizes → List M.When → Sizes
with_whens n ws =
    record {
      states = n.states;
      whens = n.whens + length ws;
      guards = n.guards + length (gathered when_guards ws);
      actions = n.actions;
      statements = n.statements;
      deepest = n.deepest;
    }

abbrev with_actions : Sizes → List M.Action → Sizes
with_actions n xs =
    record {
      states = n.states;
      whens = n.whens;
      guards = n.guards + length (gathered action_guards xs);
      actions = n.actions + length xs;
      statements = n.statements + summed (λ x. part_size x.body) xs;
      deepest = max n.deepest (deepest_in xs);
    }

abbrev pub with_states : Sizes → List M.State → Sizes
with_states n ss =
    let xs : List M.Action = gathered (λ s. s.actions) ss in
    record {
      states = n.states + length ss;
      whens = n.whens + length (gathered (λ s. s.whens) ss);
      guards = n.guards + length (gathered state_guards ss);
      actions = n.actions + length xs;
      statements = n.statements + summed (λ x. part_size x.body) xs;
      deepest = max n.deepest (deepest_in xs);
    }

-- whether an action: stands before, behind these clauses
abbrev acting_behind : Bool → List G.Action → Bool
acting_behind a [] = a
acting_behind a (x ∷ xs) = acting_behind true xs

deepest_append : (xs ys : List M.Action) → deepest_in (xs ++ ys) ≡ max (deepest_in xs) (deepest_in ys)
unfolding deepest_in
deepest_append [] ys = omega arith
deepest_append (x ∷ xs) ys = let e = deepest_append xs ys in omega arith

module _ (l : Lists) (own : List Name) where
  -- the statements of a text
  abbrev sent : Name → G.Kin → M.Statement
  sent c k = M.send (number_in (command_names l) c) (pattern_of l k)

  abbrev gone : Name → M.Statement
  gone s = M.go_to (position own s)

  abbrev branched : G.Guard → G.Part → M.Part → M.Statement
  branched g a b = M.branch (guard_of g l) (part_of l own a M.end) b

  part_sums : (p : G.Part) (q : M.Part) → Sums (part_of l own p) q
  unfolding part_of part_guards part_size part_depth
  part_sums G.nothing q = record { guards = omega arith; statements = omega arith; depth = omega arith }
  part_sums (G.send p c k) q = sums_then (part_of l own p) (part_sums p) (sent c k) q
  part_sums (G.go_to p s) q = sums_then (part_of l own p) (part_sums p) (gone s) q
  part_sums (G.if_then p g a) q = sums_then (part_of l own p) (part_sums p) (branched g a M.end) q
  part_sums (G.if_else p g a b) q = sums_then (part_of l own p) (part_sums p) (branched g a (part_of l own b M.end)) q

  -- the numbers of a part
  abbrev guards_of_part : G.Part → ℕ
  guards_of_part p = length (part_guards (part_of l own p M.end))

  abbrev statements_of_part : G.Part → ℕ
  statements_of_part p = part_size (part_of l own p M.end)

  abbrev depth_of_part : G.Part → ℕ
  depth_of_part p = part_depth (part_of l own p M.end)

  -- a part adds them, where o ifs are open
  part_adds : (p : G.Part) (ws : List Token) (n : Sizes) (o g s d : ℕ) → o ≤ n.deepest → g ≡ n.guards + guards_of_part p → s ≡ n.statements + statements_of_part p
      → d ≡ max n.deepest (o + depth_of_part p) → tally n true o (part_words p ws) ≡ tally (with_part n g s d) true o ws
  unfolding part_words part_of part_guards part_size part_depth kind_of counted tally
  part_adds G.nothing ws n o g s d h eg es ed =
      ap (λ (m : Sizes). tally m true o ws) (same_sizes n (with_part n g s d) refl refl (omega arith) refl (omega arith) (omega arith))
  part_adds (G.send p c k) ws n o g s d h eg es ed =
      let x = part_sums p (M.◌then◌ (sent c k) M.end) in
      let s₁ : ℕ = n.statements + statements_of_part p in
      part_adds p (fixed do_word ∷ name c ∷ fixed all_word ∷ kin_words k ws) n o g s₁ d h (omega (arith, x.guards)) refl (omega (arith, x.depth))
      ∙ (past_kin true o k ws (with_part n g (s₁ + 1) d)
      ∙ ap (λ (y : ℕ). tally (with_part n g y d) true o ws) (let z : s₁ + 1 ≡ s = omega (arith, x.statements) in z))
  part_adds (G.go_to p t) ws n o g s d h eg es ed =
      let x = part_sums p (M.◌then◌ (gone t) M.end) in
      let s₁ : ℕ = n.statements + statements_of_part p in
      part_adds p (fixed move_word ∷ name t ∷ ws) n o g s₁ d h (omega (arith, x.guards)) refl (omega (arith, x.depth))
      ∙ ap (λ (y : ℕ). tally (with_part n g y d) true o ws) (let z : s₁ + 1 ≡ s = omega (arith, x.statements) in z)
  part_adds (G.if_then p y a) ws n o g s d h eg es ed =
      let A : M.Part = part_of l own a M.end in
      let x = part_sums p (M.◌then◌ (branched y a M.end) M.end) in
      let q = if_guards (guard_of y l) A M.end in
      let g₁ : ℕ = n.guards + guards_of_part p in
      let s₁ : ℕ = n.statements + statements_of_part p in
      let d₁ : ℕ = max n.deepest (o + depth_of_part p) in
      let g₂ : ℕ = g₁ + guard_size (guard_of y l) in
      let d₂ : ℕ = max d₁ (o + 1) in
      part_adds p (fixed if_word ∷ guard_words y (fixed then_word ∷ part_words a (fixed endif_word ∷ ws))) n o g₁ s₁ d₁ h refl refl refl
      ∙ (guard_adds l true (o + 1) y (fixed then_word ∷ part_words a (fixed endif_word ∷ ws)) (with_part n g₁ (s₁ + 1) d₂) g₂ refl
      ∙ (part_adds a (fixed endif_word ∷ ws) (with_part n g₂ (s₁ + 1) d₂) (o + 1) g s d (omega arith) (omega (arith, x.guards)) (omega (arith, x.statements))
      (if_deep n.deepest o (depth_of_part p) (max (part_depth A) 0) _ d x.depth ed ∙ part_deep d₁ o (part_depth A))
      ∙ ap (λ (i : ℕ). tally (with_part n g s d) true i ws) (let z : o + 1 - 1 ≡ o = omega arith in z)))
  part_adds (G.if_else p y a b) ws n o g s d h eg es ed =
      let A : M.Part = part_of l own a M.end in
      let B : M.Part = part_of l own b M.end in
      let x = part_sums p (M.◌then◌ (branched y a B) M.end) in
      let q = if_guards (guard_of y l) A B in
      let g₁ : ℕ = n.guards + guards_of_part p in
      let s₁ : ℕ = n.statements + statements_of_part p in
      let d₁ : ℕ = max n.deepest (o + depth_of_part p) in
      let g₂ : ℕ = g₁ + guard_size (guard_of y l) in
      let d₂ : ℕ = max d₁ (o + 1) in
      let g₃ : ℕ = g₂ + guards_of_part a in
      let s₃ : ℕ = s₁ + 1 + statements_of_part a in
      let d₃ : ℕ = max d₂ (o + 1 + depth_of_part a) in
      part_adds p (fixed if_word ∷ guard_words y (fixed then_word ∷ part_words a (fixed else_word ∷ part_words b (fixed endif_word ∷ ws)))) n o g₁ s₁ d₁ h refl refl refl
      ∙ (guard_adds l true (o + 1) y (fixed then_word ∷ part_words a (fixed else_word ∷ part_words b (fixed endif_word ∷ ws))) (with_part n g₁ (s₁ + 1) d₂) g₂ refl
      ∙ (part_adds a (fixed else_word ∷ part_words b (fixed endif_word ∷ ws)) (with_part n g₂ (s₁ + 1) d₂) (o + 1) g₃ s₃ d₃ (omega arith) refl refl refl
      ∙ (part_adds b (fixed endif_word ∷ ws) (with_part n g₃ s₃ d₃) (o + 1) g s d (omega arith) (omega (arith, x.guards)) (omega (arith, x.statements))
      (if_deep n.deepest o (depth_of_part p) (max (part_depth A) (part_depth B)) _ d x.depth ed ∙ parts_deep d₁ o (part_depth A) (part_depth B))
      ∙ ap (λ (i : ℕ). tally (with_part n g s d) true i ws) (let z : o + 1 - 1 ≡ o = omega arith in z))))

  -- a referrer is no statement
  past_referrer : (r : G.Referrer) (ws : List Token) (n : Sizes) → tally n false 0 (referrer_words r ws) ≡ tally n false 0 ws
  unfolding referrer_words kind_of counted tally
  past_referrer (G.move_to x) ws n = refl
  past_referrer (G.run x) ws n = refl
  past_referrer G.stay ws n = refl
  past_referrer (G.stay_in x) ws n = refl

  whens_add : (actions : List Name) (xs : List G.When) (ws : List Token) (n : Sizes)
      → tally n false 0 (list_words when_words xs ws) ≡ tally (with_whens n (map (when_of l own actions) xs)) false 0 ws
  unfolding list_words when_words when_of gathered kind_of counted tally
  whens_add actions [] ws n = ap (λ (m : Sizes). tally m false 0 ws) (same_sizes n (with_whens n []) refl (omega arith) (omega arith) refl refl refl)
  whens_add actions (x ∷ xs) ws n =
      let g : ℕ = n.guards + guard_size (guard_of x.guard l) in
      let m : Sizes = record { states = n.states; whens = n.whens + 1; guards = g; actions = n.actions; statements = n.statements; deepest = n.deepest } in
      let e = length-append (guard_records (guard_of x.guard l)) (gathered when_guards (map (when_of l own actions) xs)) in
      guard_adds l false 0 x.guard (referrer_words x.referrer (list_words when_words xs ws)) (record { states = n.states; whens = n.whens + 1; guards = n.guards; actions = n.actions; statements = n.statements; deepest = n.deepest }) g refl
      ∙ (past_referrer x.referrer (list_words when_words xs ws) m
      ∙ (whens_add actions xs ws m
      ∙ ap (λ (m : Sizes). tally m false 0 ws)
      (same_sizes (with_whens m (map (when_of l own actions) xs)) (with_whens n (map (when_of l own actions) (x ∷ xs))) refl (omega arith) (omega arith) refl refl refl)))

  actions_add : (xs : List G.Action) (a : Bool) (ws : List Token) (n : Sizes)
      → tally n a 0 (list_words action_words xs ws) ≡ tally (with_actions n (map (action_of l own) xs)) (acting_behind a xs) 0 ws
  unfolding list_words action_words action_of gathered summed deepest_in kind_of counted tally
  actions_add [] a ws n = ap (λ (m : Sizes). tally m a 0 ws) (same_sizes n (with_actions n []) refl refl (omega arith) (omega arith) (omega arith) (omega arith))
  actions_add (x ∷ xs) a ws n =
      let p : G.Part = x.body in
      let k : Sizes = record { states = n.states; whens = n.whens; guards = n.guards; actions = n.actions + 1; statements = n.statements; deepest = n.deepest } in
      let g : ℕ = n.guards + guards_of_part p in
      let s : ℕ = n.statements + statements_of_part p in
      let d : ℕ = max n.deepest (0 + depth_of_part p) in
      let e = length-append (part_guards (part_of l own p M.end)) (gathered action_guards (map (action_of l own) xs)) in
      part_adds p (list_words action_words xs ws) k 0 g s d (omega arith) refl refl refl
      ∙ (actions_add xs true ws (with_part k g s d)
      ∙ ap (λ (m : Sizes). tally m (acting_behind true xs) 0 ws)
      (same_sizes (with_actions (with_part k g s d) (map (action_of l own) xs)) (with_actions n (map (action_of l own) (x ∷ xs))) refl refl (omega arith) (omega arith) (omega arith) (omega arith)))

  pub states_add : (ss : List G.State) (a : Bool) (n : Sizes) → tally n a 0 (list_words state_words ss (fixed end_word ∷ [])) ≡ with_states n (map (state_of l own) ss)
  unfolding list_words state_of gathered summed deepest_in kind_of counted tally
  states_add [] a n = same_sizes n (with_states n []) (omega arith) (omega arith) (omega arith) (omega arith) (omega arith) (omega arith)
  states_add (s ∷ ss) a n =
      let rest : List Token = list_words state_words ss (fixed end_word ∷ []) in
      let behind : List M.State = map (state_of l own) ss in
      let ws : List M.When = map (when_of l own (action_names s)) (in_order s.whens []) in
      let xs : List M.Action = map (action_of l own) (in_order s.actions []) in
      let k : Sizes = record { states = n.states + 1; whens = n.whens; guards = n.guards; actions = n.actions; statements = n.statements; deepest = n.deepest } in
      let m : Sizes = with_actions (with_whens k ws) xs in
      let more : List M.Action = gathered (λ s. s.actions) behind in
      let e₁ = length-append ws (gathered (λ s. s.whens) behind) in
      let e₂ = length-append (gathered when_guards ws ++ gathered action_guards xs) (gathered state_guards behind) in
      let e₃ = length-append (gathered when_guards ws) (gathered action_guards xs) in
      let e₄ = length-append xs more in
      let e₅ = summed_append (λ x. part_size x.body) xs more in
      let e₆ = deepest_append xs more in
      ap (tally n a 0) (state_as_lists s rest)
      ∙ (whens_add (action_names s) (in_order s.whens []) (list_words action_words (in_order s.actions []) rest) k
      ∙ (actions_add (in_order s.actions []) false rest (with_whens k ws)
      ∙ (states_add ss (acting_behind false (in_order s.actions [])) m
      ∙ same_sizes (with_states m behind) (with_states n (map (state_of l own) (s ∷ ss))) (omega arith) (omega arith) (omega arith) (omega arith) (omega arith) (omega arith))))
