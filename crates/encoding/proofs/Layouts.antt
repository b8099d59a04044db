-- Every guard record of a class within the limits keeps its layout.
-- Assumes nothing.
use Prim.Native.Nat.{ℕ, suc, ◌≤◌}
use native.Mathlib.Omega.{arith}
use mathlib.Core.Path.{◌≡◌, refl, ◌∙◌, ap}
use mathlib.Core.Bool.{true}
use mathlib.Core.List.{List, [], ◌∷◌, ◌++◌}
use lib.ListN.{length}
use lib.Dec.{leb}
use borrow.Author.Tests.{ne_eqb}
use Rattle.model.specs.Tree.{Kind, any_in, any_not_in, all_in, all_not_in, Guard, atom, both, either, opposite, Statement, send, go_to, branch, Part, end, ◌then◌, State}
use Rattle.records.specs.Bytes.{record_at}
use Rattle.records.specs.GuardRecords.{record_right}
use Rattle.encoding.specs.Records.{Eight, bytes8, eights}
use Rattle.encoding.specs.Encoding.{kind_number, pattern_number, guard_records, operator_record, part_guards, statement_guards, gathered, when_guards, action_guards, state_guards}
use Rattle.encoding.specs.Numbers.{Every, GuardNumbers, PartNumbers, StatementNumbers}
use Rattle.encoding.proofs.From.{From, next_one, again32, record_eights}
use Rattle.encoding.proofs.ReadParts.{pattern_fits}
use Rattle.encoding.proofs.All.{All, every_append, every_gathered}
use Rattle.encoding.proofs.Inside.{WhenInside, ActionInside, StateInside}
use Rattle.encoding.proofs.Small.{Small8, four_small, zeros_small, number_small, pattern_small, kind_small}

kind_low : (k : Kind) → leb (kind_number k) 3 ≡ true
unfolding kind_number
kind_low any_in = refl
kind_low any_not_in = refl
kind_low all_in = refl
kind_low all_not_in = refl

module _ (K : ℕ) (few : K ≤ 8) where
  abbrev pub Fits : Eight → Type 0
  Fits r = (record_right K (bytes8 r []) ≡ true) × Small8 r

  operator_small : (k : ℕ) → k ≤ 6 → Small8 (operator_record k)
  operator_small k l = (four_small k 0 0 0 (omega arith) (omega arith) (omega arith) (omega arith), zeros_small)

  guard_fits : (g : Guard) → GuardNumbers g K → Every Fits (guard_records g)
  unfolding guard_records
  guard_fits (atom k p s) w = (
    (
      (rw (kind_low k, pattern_fits p K w.0, again32 s) (rw (ne_eqb s 0 (λ e. let z = w.1 in omega arith)))),
      (four_small (kind_number k) (pattern_number p) 0 0 (kind_small k) (pattern_small p K few w.0) (omega arith) (omega arith), number_small s w.2),
    ),
    tt,
  )
  guard_fits (both g h) w = ((refl, operator_small 4 (omega arith)), every_append Fits (guard_records g) (guard_records h) (guard_fits g w.0) (guard_fits h w.1))
  guard_fits (either g h) w = ((refl, operator_small 5 (omega arith)), every_append Fits (guard_records g) (guard_records h) (guard_fits g w.0) (guard_fits h w.1))
  guard_fits (opposite g) w = ((refl, operator_small 6 (omega arith)), guard_fits g w)

  mutual
    unfolding part_guards PartNumbers

    part_fits : (p : Part) (S : ℕ) → PartNumbers p K S → Every Fits (part_guards p)
    part_fits end S w = tt
    part_fits (s then p) S w = every_append Fits (statement_guards s) (part_guards p) (statement_fits s S w.0) (part_fits p S w.1)

    statement_fits : (s : Statement) (S : ℕ) → StatementNumbers s K S → Every Fits (statement_guards s)
    statement_fits (send c p) S w = tt
    statement_fits (go_to q) S w = tt
    statement_fits (branch g a b) S w =
        every_append Fits (guard_records g) (part_guards a ++ part_guards b) (guard_fits g w.0)
        (every_append Fits (part_guards a) (part_guards b) (part_fits a S w.1) (part_fits b S w.2))

  pub states_fit : (S : ℕ) (ss : List State) → Every (StateInside K S) ss → Every Fits (gathered state_guards ss)
  states_fit S =
      every_gathered Fits (StateInside K S) state_guards
      (λ s w. every_append Fits (gathered when_guards s.whens) (gathered action_guards s.actions)
      (every_gathered Fits (WhenInside K S (length s.actions)) when_guards (λ x v. guard_fits x.guard v.1.0) s.whens w.whens)
      (every_gathered Fits (ActionInside K S) action_guards (λ a v. part_fits a.body S v.numbers.1) s.actions w.actions))

  pub records_fit : (rs xs : List Eight) (n : ℕ) → From rs n xs → Every Fits xs → All (λ i r. record_right K (record_at (eights rs) i) ≡ true) n xs
  records_fit rs [] n f a = tt
  records_fit rs (x ∷ xs) n f a =
      ((ap (λ (b : List ℕ). record_right K b) (record_eights rs n x xs f) ∙ a.0.0), records_fit rs xs (suc n) (next_one rs n x xs f) a.1)
