-- The ways to an answer.
-- Assumes nothing.
use Prim.Native.Nat.{ℕ, ◌+◌, ◌*◌, ◌/◌, ◌<◌, ◌≤◌}
use native.Mathlib.Omega.{arith}
use mathlib.Core.Path.{◌≡◌, refl, sym, ◌∙◌, ap, subst}
use mathlib.Core.Bool.{Bool, true, false, ◌&&◌, and-false}
use mathlib.Core.List.{List, map}
use lib.Dec.{leb}
use lib.ListN.{length, take, drop}
use mathlib.Core.Logic.{inr}
use lib.Seq.{sets}
use Rattle.naming.proofs.TableLaws as Table
use borrow.Author.Tests.{lt-leb, le-leb, leb-true}
use Rattle.std.specs.Prelude.{Result, Ok, Err}
use Rattle.model.specs.declared.Misread.TheVariants.{Refused, WrongWord}
use Rattle.model.specs.Answers.{ReadAnswer}
use Rattle.model.proofs.Words.{and_left, and_right, and_both}
use Rattle.model.proofs.Lists.{length_listed}
use Rattle.model.specs.Replies.{written}
use Rattle.model.specs.Tree.{Class}
use Rattle.records.specs.Bytes.{u32}
use Rattle.grammar.specs.Grammar.{Text}
use Rattle.grammar.specs.Reading.{Says, WrongAt}
use Rattle.recognised.specs.Recognised.{Recognised}
use Rattle.model.specs.declared.Refusal.TheVariants.{Room, Naming, Limit}
use Rattle.naming.specs.NameLists.{Lists, class_sets, class_names, child_names, command_names, records_in, lists_right, lists_within, padded}
use Rattle.lists.specs.Lent.{sets_in}
use Rattle.naming.specs.Naming.{class_in, table_of, joined}
use Rattle.naming.specs.Known.{text_known}
use Rattle.encoding.specs.Within.{Within}
use Rattle.sizes.specs.Sized.{sizes_in, Sized}
use Rattle.encoding.specs.Records.{eights}
use Rattle.encoding.specs.Encoding.{all_guards, when_records}
use Rattle.encoding.specs.Limits.{guards_of, counts_within, sets_within, guards_within, depths_within, within_limits}
use Rattle.limits.specs.Counts.{few_enough, FewTold}
use Rattle.limits.specs.Shallow.{shallow}
use Rattle.limits.proofs.CountLaws.{few_tells}
use Rattle.limits.proofs.ShallowLaws.{shallow_tells}
use Rattle.encoding.proofs.Order.{guards_written}
use Rattle.naming.proofs.NumbersRight.{class_by_sets}
use Rattle.prefixed.specs.Walking.{Ordered}
use Rattle.sizes.specs.declared.Sizes.{Sizes}
use Rattle.pen.specs.Writing.{Puts}
use Rattle.own.specs.Ahead.{names_from}
use Rattle.own.proofs.Trees.{own_from}
use Rattle.laying.specs.Laying.{table_bytes}
use Rattle.sheets.specs.Sheets.{sheet_size, table_size, WritesSheet}
use Rattle.sheets.proofs.Assembling.{sheet_size_is, table_size_is}
use Rattle.readings.specs.Readings.{Lent, class_for, sheet_for, own_states, known, within, room, filled, refused, read, unwritten, outcome, Answers}
use Rattle.readings.proofs.ReadLaws.{states_counted}
use Rattle.readings.proofs.WaysOut.{written_sets, goes_wrong, lists_wrong, name_unknown, all_known, room_wanting, is_read}
use Rattle.readings.specs.Promise.{Answered}
use Rattle.reading.specs.Ways.{OfText, OfKnown, OfWithin}

-- 16
pub found_wrong : (q : Lent) (f : Result (Unit {0}) ℕ) (p : ℕ) → Recognised q.text f → f ≡ Err p → Answered q (Err (WrongWord p)) q.sheet q.table
unfolding Recognised
found_wrong q f p r e = let w : WrongAt q.text p = rw e at r in goes_wrong q p w

-- a text of the grammar
pub found_fine : (q : Lent) (f : Result (Unit {0}) ℕ) (u : Unit {0}) (a : ReadAnswer) (sheet table : List ℕ) → Recognised q.text f → f ≡ Ok u → OfText q a sheet table
    → Answered q a sheet table
unfolding Recognised
found_fine q f u a sheet table r e o = let w : (t : Text) × Says q.text t = rw e at r in o w.0 w.1

-- what the sizes say of the room
sheet_long : (q : Lent) (t : Text) (n : Sizes) → Within (class_for q t) → n ≡ sizes_in (class_for q t)
    → sheet_size (length q.lists.classes / 36) n ≡ length (sheet_for q t)
unfolding class_in class_sets
sheet_long q t n w e =
    sheet_size_is (class_for q t) w (length q.lists.classes / 36) n
    (sym (length_listed 0 (length q.lists.classes / 36) (λ i. u32 q.lists.classes (i * 36 + 32)))) e

table_long : (q : Lent) (t : Text) (n : Sizes) → Within (class_for q t) → n ≡ sizes_in (class_for q t) → table_size n ≡ 32 * own_states t
table_long q t n w e = table_size_is (class_for q t) w n e ∙ ap (λ (k : ℕ). 32 * k) (sym (states_counted q.lists t))

module _ (q : Lent) (n : Sizes) (guards : List ℕ) where
  module _ (m : ℕ) (a : m ≡ sheet_size (length q.lists.classes / 36) n) where
    -- 15
    pub short_sheet : length q.sheet < m → OfWithin q n guards (Err (Refused Room)) q.sheet q.table
    unfolding room
    short_sheet h t says known w within e g =
        room_wanting q t says known w (rw (lt-leb (length (sheet_for q t)) (length q.sheet) (omega (arith, a, sheet_long q t n within e))))

    module _ (k : ℕ) (b : k ≡ table_size n) where
      pub short_table : length q.table < k → OfWithin q n guards (Err (Refused Room)) q.sheet q.table
      unfolding room
      short_table h t says known w within e g =
          room_wanting q t says known w (rw (lt-leb (32 * own_states t) (length q.table) (omega (arith, b, table_long q t n within e)), and-false))

      -- read
      pub all_read : (sheet table : List ℕ) (r s : ℕ) → m ≤ length q.sheet → k ≤ length q.table
          → WritesSheet q.text q.lists.commands q.lists.classes n guards q.sheet sheet r
          → Puts (table_bytes (names_from q.text 2 26 0)) q.table 0 table s
          → OfWithin q n guards (Ok (m, n.states)) sheet table
      unfolding room filled known table_of table_bytes sizes_in
      all_read sheet table r s h i p u t says kn w within e g =
          let L = a ∙ sheet_long q t n within e in
          let T = b ∙ table_long q t n within e in
          let c = is_read q t says kn w (and_both (leb (length (sheet_for q t)) (length q.sheet)) (leb (32 * own_states t) (length q.table))
          (le-leb (length (sheet_for q t)) (length q.sheet) (omega (arith, L))) (le-leb (32 * own_states t) (length q.table) (omega (arith, T)))) in
          let x : sheet ≡ written (sheet_for q t) q.sheet =
          (p q.lists.names t says (and_right (lists_right q.lists) (text_known q.lists t) kn) within e g).buffer ∙ written_sets (sheet_for q t) q.sheet (omega (arith, L)) in
          let y : table ≡ written (table_of t) q.table =
          u.buffer ∙ (ap (λ (ns : List (List ℕ)). sets q.table 0 (joined (map padded ns))) (own_from q.text t says)
          ∙ written_sets (table_of t) q.table (omega (arith, T, Table.table_long q.text t says))) in
          let z : n.states ≡ own_states t = ap (λ (x : Sizes). x.states) e ∙ sym (states_counted q.lists t) in
          subst (Answers q) (λ i. record { reading = read (sym L i) (sym z i); sheet = sym x i; table = sym y i }) c

-- 17
pub wrong_lists : (q : Lent) → lists_right q.lists ≡ false → OfText q (Err (Refused Naming)) q.sheet q.table
wrong_lists q h t says = lists_wrong q t says h

pub unknown_name : (q : Lent) (b : Bool) → ((t : Text) → Says q.text t → b ≡ text_known q.lists t) → b ≡ false → OfText q (Err (Refused Naming)) q.sheet q.table
unknown_name q b f h t says = name_unknown q t says (sym (f t says) ∙ h)

pub names_known : (q : Lent) (b : Bool) (r : ReadAnswer) (sheet table : List ℕ) → lists_right q.lists ≡ true
    → ((t : Text) → Says q.text t → b ≡ text_known q.lists t) → b ≡ true → OfKnown q r sheet table → OfText q r sheet table
names_known q b r sheet table h f k o t says = o t says (all_known q t says h (sym (f t says) ∙ k))

-- 18 in its two tests
without_guards : (a b c g d : Bool) → (a && (b && (c && d))) ≡ false → (a && (b && (c && (g && d)))) ≡ false
without_guards false b c g d e = refl
without_guards true false c g d e = refl
without_guards true true false g d e = refl
without_guards true true true false d e = refl
without_guards true true true true d e = e

with_guards : (a b c g d : Bool) → (a && (b && (c && d))) ≡ true → g ≡ true → (a && (b && (c && (g && d)))) ≡ true
with_guards a b c g d e f = rw f e

deep_guards : (a b c g d : Bool) → g ≡ false → (a && (b && (c && (g && d)))) ≡ false
deep_guards a b c g d f = rw (f, and-false, and-false, and-false) refl

-- what the limits say of the lists and of the guard records
names_few : (l : Lists) → lists_within l ≡ true → length (child_names l) ≤ 32
unfolding lists_within
names_few l h = leb-true (length (child_names l)) 32 (and_left (leb (length (child_names l)) 32) (leb (length (command_names l)) 64) h)

classes_few : (l : Lists) (t : Text) → counts_within (class_in l t) ≡ true → length (class_names l) ≤ 8
unfolding counts_within class_in class_sets records_in
classes_few l t h =
    let n = length l.classes / 36 in
    let a = leb-true (length (class_sets l)) 8 (and_left (leb (length (class_sets l)) 8) _ h) in
    omega (arith, length_listed 0 n (λ i. u32 l.classes (i * 36 + 32)), length_listed 0 n (λ i. take 32 (drop (i * 36) l.classes)))

guards_few : (c : Class) → counts_within c ≡ true → length (all_guards c) ≤ 1024
unfolding counts_within
guards_few c h =
    let a = and_right (leb (length c.children) 8) _ h in
    let b = and_right (leb 1 (length c.states)) _ a in
    let d = and_right (leb (length c.states) 32) _ b in
    let e = and_right (leb (length (when_records c)) 256) _ d in
    leb-true (length (all_guards c)) 1024 (and_left (leb (length (all_guards c)) 1024) _ e)

-- 18 by both tests as one
passed : (q : Lent) (t : Text) → Says q.text t → known q t ≡ true → within q t ≡ false → Answers q (unwritten q (refused 18))
unfolding outcome
passed q t says k h = inr (t, says, rw (k, h) refl)

within_is : (q : Lent) (t : Text) → within q t ≡ (lists_within q.lists && (counts_within (class_for q t) && (sets_within (class_for q t) && (guards_within (class_for q t) && depths_within (class_for q t)))))
unfolding within within_limits
within_is q t = refl

module _ (q : Lent) (n : Sizes) (z : Sized q.text n) where
  few_is : (t : Text) → Says q.text t
      → few_enough n q.lists ≡ (lists_within q.lists && (counts_within (class_for q t) && (sets_within (class_for q t) && depths_within (class_for q t))))
  few_is t says = few_tells q.lists t n (z.of_text q.lists t says) (z.depths q.lists t says)

  pub too_many : (b : Bool) → FewTold n q.lists b → b ≡ false → OfKnown q (Err (Refused Limit)) q.sheet q.table
  too_many b f h t says k =
      passed q t says k
      (within_is q t
      ∙ without_guards (lists_within q.lists) (counts_within (class_for q t)) (sets_within (class_for q t)) (guards_within (class_for q t)) (depths_within (class_for q t))
      (sym (few_is t says) ∙ (sym f.is ∙ h)))

  module _ (b : Bool) (f : FewTold n q.lists b) (h : b ≡ true) (bytes : List ℕ) (count : ℕ) (o : Ordered q.text q.lists.names q.lists.classes bytes count)
      (room : length bytes ≡ 8192) where
    all_few : (t : Text) → Says q.text t
        → (lists_within q.lists && (counts_within (class_for q t) && (sets_within (class_for q t) && depths_within (class_for q t)))) ≡ true
    all_few t says = sym (few_is t says) ∙ (sym f.is ∙ h)

    -- the guard records are the class's
    sorted : (t : Text) → Says q.text t → known q t ≡ true → take (count * 8) bytes ≡ eights (all_guards (class_for q t))
    unfolding known
    sorted t says k =
        let l = q.lists in
        let c = class_for q t in
        let few = all_few t says in
        let lw = and_left (lists_within l) (counts_within c && (sets_within c && depths_within c)) few in
        let cw = and_left (counts_within c) (sets_within c && depths_within c) (and_right (lists_within l) (counts_within c && (sets_within c && depths_within c)) few) in
        let g = guards_few c cw in
        (o.right l t refl refl says (and_right (lists_right l) (text_known l t) k) (names_few l lw) (classes_few l t cw) g (omega (arith, room))).1

    tells : (t : Text) → Says q.text t → known q t ≡ true → shallow (take (count * 8) bytes) ≡ guards_within (class_for q t)
    unfolding guards_within
    tells t says k = ap shallow (sorted t says k ∙ ap eights (guards_written (class_for q t))) ∙ shallow_tells (guards_of (class_for q t))

    pub too_deep : shallow (take (count * 8) bytes) ≡ false → OfKnown q (Err (Refused Limit)) q.sheet q.table
    too_deep d t says k =
        passed q t says k
        (within_is q t
        ∙ deep_guards (lists_within q.lists) (counts_within (class_for q t)) (sets_within (class_for q t)) (guards_within (class_for q t)) (depths_within (class_for q t))
        (sym (tells t says k) ∙ d))

    pub not_deep : (r : ReadAnswer) (sheet table : List ℕ) → shallow (take (count * 8) bytes) ≡ true → OfWithin q n (take (count * 8) bytes) r sheet table
        → OfKnown q r sheet table
    unfolding known within_limits class_sets sets_in
    not_deep r sheet table d w t says k =
        let l = q.lists in
        let c = class_for q t in
        let all = with_guards (lists_within l) (counts_within c) (sets_within c) (guards_within c) (depths_within c) (all_few t says) (sym (tells t says k) ∙ d) in
        let rest = counts_within c && (sets_within c && (guards_within c && depths_within c)) in
        w t says k (within_is q t ∙ all)
        (class_by_sets q.text l t says (f.fits h) (and_left (lists_within l) rest all) (and_right (lists_right l) (text_known l t) k) (and_right (lists_within l) rest all))
        (z.of_text l t says) (sorted t says k)
