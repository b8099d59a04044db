-- The test of the limits says what the limits are.
-- Assumes nothing.
use Prim.Native.Nat.{ℕ, ◌<◌, ◌≤◌}
use mathlib.Core.Path.{◌≡◌, refl}
use mathlib.Core.Bool.{Bool, true, ◌&&◌}
use mathlib.Core.List.{List, [], ◌∷◌}
use lib.ListN.{length}
use lib.Dec.{ltb, leb}
use borrow.Author.Tests.{lt-ltb, le-leb, ltb-true, leb-true}
use Rattle.model.specs.Words.{every}
use Rattle.model.specs.Tree.{Class}
use Rattle.model.proofs.Words.{and_left, and_right, and_both}
use Rattle.encoding.specs.Encoding.{when_records, all_guards, action_records, statement_records}
use Rattle.encoding.specs.Limits.{operators, part_depth, guards_of, actions_of, counts_within, sets_within, guards_within, depths_within, within_limits}
use Rattle.encoding.specs.Numbers.{Every, Numbers}
use Rattle.encoding.specs.Within.{Within}

-- the test b says what P says
pub record Says (b : Bool) (P : Type 0) : Type 0 where
  pub if_true : b ≡ true → P
  pub only : P → b ≡ true

more : (a b : ℕ) → Says (ltb a b) (a < b)
more a b = record { if_true = ltb-true a b; only = lt-ltb a b }

most : (a b : ℕ) → Says (leb a b) (a ≤ b)
most a b = record { if_true = leb-true a b; only = le-leb a b }

and : {a b : Bool} {P Q : Type 0} → Says a P → Says b Q → Says (a && b) (P × Q)
and {a} {b} p q = record { if_true = λ h. (p.if_true (and_left a b h), q.if_true (and_right a b h)); only = λ x. and_both a b (p.only x.0) (q.only x.1) }

all : {A : Type 0} (f : A → Bool) (P : A → Type 0) → ((x : A) → Says (f x) (P x)) → (xs : List A) → Says (every f xs) (Every P xs)
unfolding every
all f P h [] = record { if_true = λ _. tt; only = λ _. refl }
all f P h (x ∷ xs) = and (h x) (all f P h xs)

module _ (c : Class) where
  abbrev Counts : Type 0
  Counts =
      (length c.children ≤ 8) × ((1 ≤ length c.states) × ((length c.states ≤ 32) × ((length (when_records c) ≤ 256)
      × ((length (all_guards c) ≤ 1024) × ((length (action_records c) ≤ 256) × (length (statement_records c) ≤ 1024))))))

  counts_say : Says (counts_within c) Counts
  unfolding counts_within
  counts_say =
      and (most (length c.children) 8) (and (most 1 (length c.states)) (and (most (length c.states) 32) (and (most (length (when_records c)) 256)
      (and (most (length (all_guards c)) 1024) (and (most (length (action_records c)) 256) (most (length (statement_records c)) 1024))))))

  sets_say : Says (sets_within c) (Every (λ s. 0 < s) c.children)
  unfolding sets_within
  sets_say = all (λ s. ltb 0 s) (λ s. 0 < s) (more 0) c.children

  guards_say : Says (guards_within c) (Every (λ g. operators g ≤ 16) (guards_of c))
  unfolding guards_within
  guards_say = all (λ g. leb (operators g) 16) (λ g. operators g ≤ 16) (λ g. most (operators g) 16) (guards_of c)

  depths_say : Says (depths_within c) (Every (λ a. part_depth a.body ≤ 8) (actions_of c))
  unfolding depths_within
  depths_say = all (λ a. leb (part_depth a.body) 8) (λ a. part_depth a.body ≤ 8) (λ a. most (part_depth a.body) 8) (actions_of c)

  -- a class that passes no limit and whose numbers are right is one that a sheet can stand for
  pub within : within_limits c ≡ true → Numbers c → Within c
  unfolding within_limits
  within h n =
      let ok = (and counts_say (and sets_say (and guards_say depths_say))).if_true h in
      let k = ok.0 in
      record {
        numbers = n;
        classes = k.0;
        some_state = k.1.0;
        states = k.1.1.0;
        whens = k.1.1.1.0;
        guards = k.1.1.1.1.0;
        actions = k.1.1.1.1.1.0;
        statements = k.1.1.1.1.1.1;
        sets = ok.1.0;
        paths = ok.1.1.0;
        depths = ok.1.1.1;
      }

  -- and only such a class is
  pub within_only : Within c → (within_limits c ≡ true) × Numbers c
  unfolding within_limits
  within_only w = (
    (and counts_say (and sets_say (and guards_say depths_say))).only
        ((w.classes, (w.some_state, (w.states, (w.whens, (w.guards, (w.actions, w.statements)))))), (w.sets, (w.paths, w.depths))),
    w.numbers,
  )
