-- Laws for the judge's checks: the table of bodies, where the bodies lie, and the rules in their order.
-- Assumes nothing.
use Prim.Native.Nat.{ℕ, suc, ◌+◌, ◌<◌, ◌≤◌}
use mathlib.Core.Path.{◌≡◌, refl, sym, ap, ◌∙◌}
use mathlib.Core.Bool.{Bool, true, false, ◌&&◌, ◌||◌, not}
use mathlib.Core.List.{List, [], ◌∷◌}
use mathlib.Core.Logic.{◌⊎◌, inl, inr}
use lib.Dec.{eqb, ltb, leb}
use lib.ListN.{length}
use borrow.Author.Tests.{eq-eqb, ne_eqb, not-true, not-false, lt-ltb, le-ltb, lt-leb, le-leb}
use Rattle.model.specs.Words.{each}
use Rattle.model.proofs.Words.{lt_or_le}
use Rattle.sheet.specs.Contents.{start, size, length_right, bodies_follow, counts_in_range, contents_right, Bodies}
use Rattle.records.specs.Bytes.{in_fours, in_eights}
use Rattle.sheet.specs.Rules.{checked, refusal_in, refusal}
use Rattle.bodies.specs.BodyRules.{classes_right, counts_right, records_right, guards_right, targets_right, actions_right, statements_right}
use Rattle.sheet.specs.Verdict.{verdict}

-- the body behind body k starts where k ends
abbrev pub follows : List ℕ → ℕ → Bool
follows b k = eqb (start b (k + 1)) (start b k + size b k)

-- the first start is wrong, or some body is not followed by the next, or the last end decides
module _ (b : List ℕ) where
  pub start_wrong : {f : ℕ} → f ≡ start b 0 → (f ≡ 24 → ⊥) → eqb f 24 ≡ bodies_follow b
  unfolding bodies_follow
  start_wrong {f} e h = rw (← e, ne_eqb f 24 h)

  module _ {f : ℕ} (e : f ≡ start b 0) (z : f ≡ 24) {m : Bool} (em : m ≡ each 5 (follows b)) where
    pub follows_wrong : m ≡ false → m ≡ bodies_follow b
    unfolding bodies_follow
    follows_wrong h = rw (eq-eqb (start b 0) 24 (sym e ∙ z), ← em, h)

    pub follows_told : m ≡ true → {s n : ℕ} → s ≡ start b 5 → n ≡ size b 5 → eqb (s + n) (length b) ≡ bodies_follow b
    unfolding bodies_follow
    follows_told h es en = rw (es, en, eq-eqb (start b 0) 24 (sym e ∙ z), ← em, h)

-- the rules on the bodies from one on
abbrev pub from_9 : Bodies → ℕ
from_9 s = checked (statements_right (in_fours s.classes) (in_fours s.states) s.guards s.actions s.statements) 9 λ _. 0

abbrev pub from_8 : Bodies → ℕ
from_8 s = checked (actions_right s.states s.actions (in_eights s.statements)) 8 λ _. from_9 s

abbrev pub from_7 : Bodies → ℕ
from_7 s = checked (targets_right s.states s.whens) 7 λ _. from_8 s

abbrev pub from_6 : Bodies → ℕ
from_6 s = checked (guards_right s.guards s.whens) 6 λ _. from_7 s

abbrev pub from_5 : Bodies → ℕ
from_5 s = checked (records_right (in_fours s.classes) s.guards) 5 λ _. from_6 s

abbrev pub from_4 : Bodies → ℕ
from_4 s = checked (counts_right s.states (in_fours s.whens) (in_fours s.actions)) 4 λ _. from_5 s

abbrev pub from_3 : Bodies → ℕ
from_3 s = checked (classes_right s.classes) 3 λ _. from_4 s

pub from_first : (s : Bodies) → refusal_in s ≡ from_3 s
unfolding refusal_in
from_first s = refl

-- a check of those, as read: what follows where it passed, and the answer where it did not
module _ {r ok : Bool} {x : ℕ} (n : ℕ) (rest : ℕ) (e : x ≡ checked ok (suc n) (λ _. rest)) (h : r ≡ ok) where
  pub goes_on : not r ≡ false → x ≡ rest
  goes_on t = e ∙ ap (λ (ok : Bool). checked ok (suc n) (λ _. rest)) (sym h ∙ not-false r t)

  pub stops : not r ≡ true → suc n ≡ x
  stops t = let f : ok ≡ false = sym h ∙ not-true r t in rw (e, f)

-- the check of the length, as the judge makes it
below_or_not : (a b : ℕ) → leb a b ≡ not (ltb b a)
below_or_not a b = go (lt_or_le b a)
  where
    go : (b < a) ⊎ (a ≤ b) → leb a b ≡ not (ltb b a)
    go (inl l) = rw (lt-leb a b l, lt-ltb b a l)
    go (inr l) = rw (le-leb a b l, le-ltb b a l)

neither : (a b : Bool) → (not a && not b) ≡ not (a || b)
neither true b = refl
neither false b = refl

abbrev pub outside : List ℕ → Bool
outside b = ltb (length b) 24 || ltb 18616 (length b)

pub length_told : (b : List ℕ) → length_right b ≡ not (outside b)
unfolding length_right
length_told b = rw (below_or_not 24 (length b), below_or_not (length b) 18616) (neither (ltb (length b) 24) (ltb 18616 (length b)))

pub length_wrong : (b : List ℕ) → outside b ≡ true → 1 ∷ [] ≡ verdict b
unfolding verdict refusal
length_wrong b h = let f : length_right b ≡ false = length_told b ∙ ap not h in rw f

pub length_fits : (b : List ℕ) → outside b ≡ false → length_right b ≡ true
length_fits b h = length_told b ∙ ap not h

-- the check of the contents, as the judge makes it
module _ (b : List ℕ) {f r : Bool} (ef : f ≡ bodies_follow b) (er : r ≡ counts_in_range b) where
  pub contents_wrong : length_right b ≡ true → not (f && r) ≡ true → 2 ∷ [] ≡ verdict b
  unfolding verdict refusal contents_right
  contents_wrong l h =
      let e : (bodies_follow b && counts_in_range b) ≡ false = rw (ef, er) at (not-true (f && r) h) in
      rw (l, e)

  pub contents_fit : not (f && r) ≡ false → contents_right b ≡ true
  unfolding contents_right
  contents_fit h = rw (ef, er) at (not-false (f && r) h)
