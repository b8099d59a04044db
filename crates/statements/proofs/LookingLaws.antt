-- One turn of the loop that counts a part ahead; numbers, counts and depths by cases.
-- Assumes nothing.
use Prim.Native.Nat.{ℕ, ◌+◌, ◌-◌, ◌<◌, ◌≤◌}
use native.Mathlib.Omega.{arith}
use mathlib.Core.Path.{◌≡◌, refl, sym, ◌∙◌, ap}
use mathlib.Core.Bool.{Bool, true, false, ◌||◌}
use mathlib.Core.List.{List, [], ◌∷◌}
use lib.Dec.{eqb}
use lib.ListN.{length}
use borrow.Author.Tests.{ne_eqb, eq-eqb, eqb-true}
use Rattle.model.specs.Words.{choose}
use Rattle.model.proofs.Words.{true_not_false, or_first, or_second, not_not_true, choose_case}
use Rattle.grammar.specs.Kinds.{kind_of, token_as}
use Rattle.naming.specs.NameLists.{padded, records_in}
use Rattle.words.specs.Scanning.{tokens_from, stretch, end_kind, Next}
use Rattle.words.proofs.Turns.{turn, last, kind_as}
use Rattle.lists.specs.Lent.{found_from}
use Rattle.std.specs.Prelude.{Option}
use Rattle.whens.specs.Ahead.{found_number}
use Rattle.statements.specs.Statements.{is_statement, count_after, depth_after, ends_part, PartAhead, part_ahead, else_size, number_of}
use Rattle.statements.specs.Parts.{else_at, PartEnds}

-- the number in a list
pub number_told : (size : ℕ) (list word : List ℕ) (f : Option ℕ) (r : ℕ) → f ≡ found_from 0 (records_in size list) (padded word) → r ≡ found_number f → r ≡ number_of size list word
unfolding number_of
number_told size list word f r e h = h ∙ ap found_number e

-- a statement more, or none
pub count_more : (n k : ℕ) → is_statement k ≡ true → n + 1 ≡ count_after n k
unfolding count_after
count_more n k e = rw e

pub count_same : (n k : ℕ) → is_statement k ≡ false → n ≡ count_after n k
unfolding count_after
count_same n k e = rw e

count_up : (n k : ℕ) → count_after n k ≤ n + 1
unfolding count_after
count_up n k = choose_case (λ (m : ℕ). m ≤ n + 1) (is_statement k) (λ _. n + 1) (λ _. n) (λ e. omega arith) (λ e. omega arith)

-- an if more is open, or one less
pub depth_more : (d k : ℕ) → k ≡ 11 → d + 1 ≡ depth_after d k
unfolding depth_after
depth_more d k e = rw (eq-eqb k 11 e)

pub depth_same : (d k : ℕ) → (k ≡ 11 → ⊥) → (k ≡ 14 → ⊥) → d ≡ depth_after d k
unfolding depth_after
depth_same d k e f = rw (ne_eqb k 11 e, ne_eqb k 14 f)

pub depth_less : (d k r : ℕ) → (k ≡ 11 → ⊥) → k ≡ 14 → r ≡ d - 1 → r ≡ depth_after d k
unfolding depth_after
depth_less d k r e f z = rw (ne_eqb k 11 e, eq-eqb k 14 f) z

depth_up : (d k : ℕ) → depth_after d k ≤ d + 1
unfolding depth_after
depth_up d k =
    choose_case (λ (m : ℕ). m ≤ d + 1) (eqb k 11) (λ _. d + 1) (λ _. choose (eqb k 14) (λ _. d - 1) (λ _. d)) (λ e. omega arith)
    (λ e. choose_case (λ (m : ℕ). m ≤ d + 1) (eqb k 14) (λ _. d - 1) (λ _. d) (λ f. omega arith) (λ f. omega arith))

-- the part from the start on is the part from here on, n of whose statements are passed
pub record Counting (text : List ℕ) (at here depth n : ℕ) : Type 0 where
  pub deep : depth ≤ here
  pub few : n ≤ here
  pub part : part_ahead 0 0 (tokens_from text at) ≡ part_ahead depth n (tokens_from text here)

pub counting_first : (text : List ℕ) (at : ℕ) → Counting text at at 0 0
counting_first text at = record { deep = omega arith; few = omega arith; part = refl }

module _ (text : List ℕ) (at here depth n k start end : ℕ) (C : Counting text at here depth n) (N : Next text here k start end) where
  at_stop : (b : Bool) → ends_part depth k ≡ b → (b || eqb k 26) ≡ true → PartEnds text at n k end
  unfolding part_ahead else_size kind_of depth_after count_after
  at_stop true e t =
      let P : part_ahead depth n (tokens_from text here) ≡ record { size = n; behind = token_as k (stretch text start end) ∷ tokens_from text end } =
      rw (turn text here k start end N (λ z. true_not_false e (ap (ends_part depth) z)), kind_as k (stretch text start end), e) in
      record {
        counted = sym (ap (λ (p : PartAhead). p.size) (C.part ∙ P));
        other = ap (λ (p : PartAhead). else_size p.behind) (C.part ∙ P) ∙ rw (kind_as k (stretch text start end));
      }
  at_stop false e t =
      let z : k ≡ 26 = eqb-true k 26 t in
      let P : part_ahead depth n (tokens_from text here) ≡ record { size = n; behind = [] } = rw (last text here k start end N z) in
      record {
        counted = sym (ap (λ (p : PartAhead). p.size) (C.part ∙ P));
        other = ap (λ (p : PartAhead). else_size p.behind) (C.part ∙ P) ∙ rw z;
      }

  pub part_stop : (ends_part depth k || eqb k 26) ≡ true → PartEnds text at n k end
  part_stop t = at_stop (ends_part depth k) refl t

  module _ (t : (ends_part depth k || eqb k 26) ≡ false) where
    pub goes_on : k ≡ end_kind → ⊥
    goes_on e = true_not_false (or_second (ends_part depth k) (eqb k 26) (eq-eqb k 26 e)) t

    pub count_room : (depth < length text) × (n < length text)
    count_room =
        let m = N.moves goes_on in
        let o = N.onward in
        let i = N.inside goes_on in
        let a = C.deep in
        let b = C.few in
        (omega arith, omega arith)

    pub part_next : (d m : ℕ) → d ≡ depth_after depth k → m ≡ count_after n k → Counting text at end d m
    unfolding part_ahead
    part_next d m p q =
        let o = N.onward in
        let v = N.moves goes_on in
        let a = C.deep in
        let b = C.few in
        let x = depth_up depth k in
        let y = count_up n k in
        let E : ends_part depth k ≡ false = not_not_true (ends_part depth k) (λ z. true_not_false (or_first (ends_part depth k) (eqb k 26) z) t) in
        let P : part_ahead depth n (tokens_from text here) ≡ part_ahead d m (tokens_from text end) =
        rw (turn text here k start end N goes_on, kind_as k (stretch text start end), E, ← p, ← q) in
        record { deep = omega arith; few = omega arith; part = C.part ∙ P }

-- the else-part
pub no_else : (text : List ℕ) (kind end : ℕ) → (kind ≡ 13 → ⊥) → 0 ≡ else_at text kind end
no_else text kind end h = rw (ne_eqb kind 13 h)

pub some_else : (text : List ℕ) (kind end size k e : ℕ) → kind ≡ 13 → PartEnds text end size k e → size ≡ else_at text kind end
some_else text kind end size k e h P = rw (eq-eqb kind 13 h) P.counted
