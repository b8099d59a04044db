-- Laws about specs/Running.antt: where a part moves to, and how much it sends, at most one command for each statement and child; and that the
-- clause for a command is one of the state's.
-- Assumes nothing.
use Prim.Native.Nat.{ℕ, suc, ◌+◌, ◌*◌, ◌<◌, ◌≤◌}
use native.Mathlib.Omega.{arith}
use mathlib.Core.Path.{◌≡◌, refl}
use mathlib.Core.Bool.{Bool, true, false}
use mathlib.Core.List.{List, [], ◌∷◌, ◌++◌, Memᴰ}
use mathlib.Core.Option.{Option, none, some}
use lib.Dec.{eqb}
use lib.ListN.{length, length-append}
use borrow.Author.Tests.{ltb-true}
use Rattle.model.specs.Words.{choose, maybe, kept}
use Rattle.model.specs.Tree.{Child, Pattern, Guard, Statement, send, go_to, branch, Part, end, ◌then◌, Action}
use Rattle.model.specs.Guards.{concerns, holds}
use Rattle.model.specs.Running.{Ran, sent_to, and_then, run_one, run_part, goes, goes_one}
use Rattle.model.specs.Commands.{clause_for}
use Rattle.model.specs.Sound.{statement_within, part_within}
use Rattle.model.proofs.Words.{clash, and_left, and_right}

-- where a part goes: by its first statement, else by the rest
then_moved : (r : Ran) (rest : Unit {0} → Ran) → (and_then r rest).moved ≡ maybe r.moved (λ _. (rest tt).moved) some
then_moved r rest = go r.moved refl
  where
    go : (o : Option ℕ) → r.moved ≡ o → (maybe o (λ _. record { sent = r.sent ++ (rest tt).sent; moved = (rest tt).moved }) (λ t. r)).moved ≡ maybe o (λ _. (rest tt).moved) some
    go none e = refl
    go (some t) e = e

pub goes_end : (l : List Child) → goes end l ≡ none
unfolding goes run_part
goes_end l = refl

pub goes_then : (s : Statement) (p : Part) (l : List Child) → goes (s then p) l ≡ maybe (goes_one s l) (λ _. goes p l) some
unfolding goes goes_one run_part
goes_then s p l = then_moved (run_one s l) (λ _. run_part p l)

pub goes_send : (m : ℕ) (x : Pattern) (p : Part) (l : List Child) → goes (send m x then p) l ≡ goes p l
unfolding goes run_part run_one
goes_send m x p l = refl

pub goes_go : (t : ℕ) (p : Part) (l : List Child) → goes (go_to t then p) l ≡ some t
unfolding goes run_part run_one
goes_go t p l = refl

pub goes_branch : (g : Guard) (a b : Part) (l : List Child) → goes_one (branch g a b) l ≡ choose (holds g l) (λ _. goes a l) (λ _. goes b l)
unfolding goes goes_one run_one
goes_branch g a b l = go (holds g l)
  where
    go : (h : Bool) → (choose h (λ _. run_part a l) (λ _. run_part b l)).moved ≡ choose h (λ _. (run_part a l).moved) (λ _. (run_part b l).moved)
    go true = refl
    go false = refl

-- how many statements there are, those of an if's parts counted
unfoldable mutual
  pub one_size : Statement → ℕ
  one_size (send m p) = 1
  one_size (go_to t) = 1
  one_size (branch g a b) = 1 + (part_size a + part_size b)

  pub part_size : Part → ℕ
  part_size end = 0
  part_size (s then p) = one_size s + part_size p

-- a do sends to each child at most once
sent_few : (m : ℕ) (p : Pattern) (i : ℕ) (ks : List Child) → length (sent_to m p i ks) ≤ length ks
unfolding sent_to
sent_few m p i [] = omega arith
sent_few m p i (k ∷ ks) = go (concerns p k) (sent_few m p (i + 1) ks)
  where
    go : (b : Bool) → length (sent_to m p (i + 1) ks) ≤ length ks → length (kept b (record { place = i; command = m }) (sent_to m p (i + 1) ks)) ≤ suc (length ks)
    go true l = omega arith
    go false l = omega arith

-- so that statements send at most so often as there are statements, to each child
mutual
  unfolding run_one run_part one_size part_size

  one_sends : (s : Statement) (ks : List Child) → length (run_one s ks).sent ≤ one_size s * length ks
  one_sends (send m p) ks = let l = sent_few m p 0 ks in omega arith
  one_sends (go_to t) ks = omega arith
  one_sends (branch g a b) ks = go (holds g ks) (part_sends a ks) (part_sends b ks)
    where
      go : (x : Bool) → length (run_part a ks).sent ≤ part_size a * length ks → length (run_part b ks).sent ≤ part_size b * length ks
          → length (choose x (λ _. run_part a ks) (λ _. run_part b ks)).sent ≤ (1 + (part_size a + part_size b)) * length ks
      go true l m = omega arith
      go false l m = omega arith

  pub part_sends : (p : Part) (ks : List Child) → length (run_part p ks).sent ≤ part_size p * length ks
  part_sends end ks = omega arith
  part_sends (s then p) ks = go (run_one s ks).moved (one_sends s ks) (part_sends p ks)
    where
      go : (o : Option ℕ) → length (run_one s ks).sent ≤ one_size s * length ks → length (run_part p ks).sent ≤ part_size p * length ks
          → length (maybe o (λ _. record { sent = (run_one s ks).sent ++ (run_part p ks).sent; moved = (run_part p ks).moved }) (λ _. run_one s ks)).sent ≤ (one_size s + part_size p) * length ks
      go none l m = omega (arith, length-append (run_one s ks).sent (run_part p ks).sent)
      go (some t) l m = omega arith

-- statements whose moves lead below S move to a state below S
mutual
  unfolding statement_within part_within run_one run_part

  one_moves : (s : Statement) (ks : List Child) (S : ℕ) → statement_within s S ≡ true → (t : ℕ) → (run_one s ks).moved ≡ some t → t < S
  one_moves (send m p) ks S h t e = absurd (clash (cc))
  one_moves (go_to u) ks S h t e = let z : u ≡ t = cc in let l = ltb-true u S h in omega arith
  one_moves (branch g a b) ks S h t e =
      go (holds g ks) e (λ x. part_moves a ks S (and_left (part_within a S) (part_within b S) h) t x) (λ x. part_moves b ks S (and_right (part_within a S) (part_within b S) h) t x)
    where
      go : (x : Bool) → (choose x (λ _. run_part a ks) (λ _. run_part b ks)).moved ≡ some t → ((run_part a ks).moved ≡ some t → t < S) → ((run_part b ks).moved ≡ some t → t < S) → t < S
      go true e f g = f e
      go false e f g = g e

  pub part_moves : (p : Part) (ks : List Child) (S : ℕ) → part_within p S ≡ true → (t : ℕ) → (run_part p ks).moved ≡ some t → t < S
  part_moves end ks S h t e = absurd (clash (cc))
  part_moves (s then p) ks S h t e =
      go (run_one s ks).moved e (λ x. one_moves s ks S (and_left (statement_within s S) (part_within p S) h) t x) (λ x. part_moves p ks S (and_right (statement_within s S) (part_within p S) h) t x)
    where
      go : (o : Option ℕ) → (maybe o (λ _. record { sent = (run_one s ks).sent ++ (run_part p ks).sent; moved = (run_part p ks).moved }) (λ _. run_one s ks)).moved ≡ some t
          → ((run_one s ks).moved ≡ some t → t < S) → ((run_part p ks).moved ≡ some t → t < S) → t < S
      go none e f g = g e
      go (some u) e f g = f e

-- the clause for a command is one of the state's
pub clause_listed : (m : ℕ) (xs : List Action) (p : Part) → clause_for m xs ≡ some p → (a : Action) × Memᴰ a xs × (a.body ≡ p)
unfolding clause_for
clause_listed m [] p e = absurd (clash (cc))
clause_listed m (a ∷ rest) p e = go (eqb a.command m) e (clause_listed m rest p)
  where
    go : (x : Bool) → choose x (λ _. some a.body) (λ _. clause_for m rest) ≡ some p → (clause_for m rest ≡ some p → (b : Action) × Memᴰ b rest × (b.body ≡ p)) → (b : Action) × Memᴰ b (a ∷ rest) × (b.body ≡ p)
    go true e r = (a, Memᴰ.head refl, cc)
    go false e r = let (b, n, f) = r e in (b, Memᴰ.tail n, f)
