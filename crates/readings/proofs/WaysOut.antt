-- The answer at each way out of a reader, from what it has found.
-- Assumes nothing.
use Prim.Native.Nat.{ℕ, ◌+◌, ◌≤◌}
use native.Mathlib.Omega.{arith}
use mathlib.Core.Path.{◌≡◌, refl, ◌∙◌, ap}
use mathlib.Core.Bool.{true, false, and-false}
use mathlib.Core.List.{List, ◌++◌}
use mathlib.Core.Logic.{inl, inr}
use lib.ListN.{length, drop}
use lib.Seq.{sets, sets-eq}
use Rattle.model.specs.Replies.{written}
use Rattle.model.proofs.Words.{and_both}
use Rattle.grammar.specs.Grammar.{Text}
use Rattle.grammar.specs.Reading.{Says, WrongAt}
use Rattle.naming.specs.NameLists.{lists_right, lists_within}
use Rattle.naming.specs.Known.{text_known}
use Rattle.encoding.specs.Limits.{within_limits}
use Rattle.readings.specs.Readings.{Lent, wrong, refused, unwritten, class_for, known, within, room, filled, outcome, Answers}

-- what is stored byte by byte from the head on is written there
pub written_sets : (bytes out : List ℕ) → length bytes ≤ length out → sets out 0 bytes ≡ written bytes out
written_sets bytes out l = sets-eq bytes out 0 (omega arith) ∙ ap (λ (k : ℕ). bytes ++ drop k out) (let z : 0 + length bytes ≡ length bytes = omega arith in z)

module _ (q : Lent) where
  -- 16
  pub goes_wrong : (p : ℕ) → WrongAt q.text p → Answers q (unwritten q (wrong p))
  goes_wrong p w = inl (p, w, refl)

  module _ (t : Text) (says : Says q.text t) where
    -- 17
    pub lists_wrong : lists_right q.lists ≡ false → Answers q (unwritten q (refused 17))
    unfolding outcome known
    lists_wrong h = inr (t, says, (rw h))

    pub name_unknown : text_known q.lists t ≡ false → Answers q (unwritten q (refused 17))
    unfolding outcome known
    name_unknown h = inr (t, says, (rw (h, and-false)))

    -- the tests of 17 and 18 as one
    pub all_known : lists_right q.lists ≡ true → text_known q.lists t ≡ true → known q t ≡ true
    unfolding known
    all_known h k = and_both (lists_right q.lists) (text_known q.lists t) h k

    pub all_within : lists_within q.lists ≡ true → within_limits (class_for q t) ≡ true → within q t ≡ true
    unfolding within
    all_within h k = and_both (lists_within q.lists) (within_limits (class_for q t)) h k

    -- 18
    pub lists_passed : known q t ≡ true → lists_within q.lists ≡ false → Answers q (unwritten q (refused 18))
    unfolding outcome within
    lists_passed k h = inr (t, says, (rw (k, h)))

    pub limit_passed : known q t ≡ true → within_limits (class_for q t) ≡ false → Answers q (unwritten q (refused 18))
    unfolding outcome within
    limit_passed k h = inr (t, says, (rw (k, h, and-false)))

    -- 15, and read
    pub room_wanting : known q t ≡ true → within q t ≡ true → room q t ≡ false → Answers q (unwritten q (refused 15))
    unfolding outcome
    room_wanting k w h = inr (t, says, (rw (k, w, h)))

    pub is_read : known q t ≡ true → within q t ≡ true → room q t ≡ true → Answers q (filled q t)
    unfolding outcome
    is_read k w h = inr (t, says, (rw (k, w, h)))
