-- A sheet is accepted exactly if the nine rules are right.
-- Assumes nothing.
use Prim.Native.Nat.{ℕ, suc}
use native.Mathlib.Omega.{arith}
use mathlib.Core.Path.{◌≡◌, refl}
use mathlib.Core.Bool.{Bool, true, false}
use mathlib.Core.List.{List}
use Rattle.sheet.specs.Contents.{bodies, Bodies, length_right, contents_right}
use Rattle.records.specs.Bytes.{in_fours, in_eights}
use Rattle.sheet.specs.Rules.{checked, refusal_in, refusal, Accepted}
use Rattle.bodies.specs.BodyRules.{classes_right, counts_right, records_right, guards_right, targets_right, actions_right, statements_right}

-- a check that gives no refusal passed, and so did those behind it
pub checked_zero : (ok : Bool) (n : ℕ) (rest : Unit {0} → ℕ) → checked ok (suc n) rest ≡ 0 → (ok ≡ true) × (rest tt ≡ 0)
checked_zero true n rest h = (refl, h)
checked_zero false n rest h = absurd (let z : suc n ≡ 0 = h in omega arith)

-- the rules on the bodies, 3 to 9
pub record BodiesRight (s : Bodies) : Type 0 where
  pub classes : classes_right s.classes ≡ true
  pub counts : counts_right s.states (in_fours s.whens) (in_fours s.actions) ≡ true
  pub records : records_right (in_fours s.classes) s.guards ≡ true
  pub guards : guards_right s.guards s.whens ≡ true
  pub targets : targets_right s.states s.whens ≡ true
  pub actions : actions_right s.states s.actions (in_eights s.statements) ≡ true
  pub statements : statements_right (in_fours s.classes) (in_fours s.states) s.guards s.actions s.statements ≡ true

-- all nine rules
pub record Right (b : List ℕ) : Type 0 where
  pub length : length_right b ≡ true
  pub contents : contents_right b ≡ true
  pub bodies : BodiesRight (bodies b)

-- bodies that get no refusal keep the rules 3 to 9
pub none_bodies_right : (s : Bodies) → refusal_in s ≡ 0 → BodiesRight s
unfolding refusal_in
none_bodies_right s h =
    let (r3, h3) = checked_zero (classes_right s.classes) 2 _ h in
    let (r4, h4) = checked_zero (counts_right s.states (in_fours s.whens) (in_fours s.actions)) 3 _ h3 in
    let (r5, h5) = checked_zero (records_right (in_fours s.classes) s.guards) 4 _ h4 in
    let (r6, h6) = checked_zero (guards_right s.guards s.whens) 5 _ h5 in
    let (r7, h7) = checked_zero (targets_right s.states s.whens) 6 _ h6 in
    let (r8, h8) = checked_zero (actions_right s.states s.actions (in_eights s.statements)) 7 _ h7 in
    let (r9, h9) = checked_zero (statements_right (in_fours s.classes) (in_fours s.states) s.guards s.actions s.statements) 8 _ h8 in
    record { classes = r3; counts = r4; records = r5; guards = r6; targets = r7; actions = r8; statements = r9 }

-- and bodies that keep them get none
pub bodies_right_none : (s : Bodies) → BodiesRight s → refusal_in s ≡ 0
unfolding refusal_in
bodies_right_none s r = rw (r.classes, r.counts, r.records, r.guards, r.targets, r.actions, r.statements)

-- an accepted sheet keeps all nine rules
pub accepted_right : (b : List ℕ) → Accepted b → Right b
unfolding refusal
accepted_right b h =
    let (r1, h1) = checked_zero (length_right b) 0 _ h in
    let (r2, h2) = checked_zero (contents_right b) 1 _ h1 in
    record { length = r1; contents = r2; bodies = none_bodies_right (bodies b) h2 }

-- and a byte string that keeps them is accepted
pub right_accepted : (b : List ℕ) → Right b → Accepted b
unfolding refusal
right_accepted b r = rw (r.length, r.contents) (bodies_right_none (bodies b) r.bodies)
