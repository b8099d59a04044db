-- What an accepted sheet's bodies hold: how many of each record there are, where a state's clauses stand, and that each guard and each list of
-- statements is read.
-- Assumes nothing.
use Prim.Native.Nat.{ℕ, ◌+◌, ◌*◌, ◌/◌, ◌<◌, ◌≤◌}
use native.Mathlib.Omega.{arith}
use mathlib.Core.Path.{◌≡◌, refl, sym}
use mathlib.Core.Bool.{true}
use mathlib.Core.List.{List}
use mathlib.Core.Option.{Option, none, some}
use lib.ListN.{length, get_or}
use Rattle.model.specs.Words.{maybe, is_some}
use Rattle.model.specs.Tree.{When, Part, end, no_action}
use Rattle.model.specs.Node.{own_states, state_of, action_of}
use Rattle.model.proofs.Words.{each_elim, clash}
use Rattle.model.proofs.Lists.{get_or_listed}
use Rattle.records.specs.Bytes.{in_fours, in_eights}
use Rattle.records.specs.GuardRecords.{Read, got, broken, is_read, guard_from}
use Rattle.bodies.specs.Clauses.{when_count, first_when, action_count, first_action, guard_place, first_statement, statement_bytes, body_of}
use Rattle.bodies.specs.BodyRules.{guards_right, statements_right}
use Rattle.bodies.specs.PartChecks.{Reads}
use Rattle.bodies.proofs.CheckLaws.{sum_next}
use Rattle.bodies.proofs.StatementLaws.{sum_inside, statements_whole}
use Rattle.sheet.specs.Contents.{body, bodies}
use Rattle.sheet.specs.Reading.{guard_in, when_in, action_in, state_in, class_of}
use Rattle.sheet.specs.Verdict.{Stands}
use Rattle.sheet.specs.declared.judging.Places.{Places}
use Rattle.sheet.proofs.Contents.{counted, body_most, body_whole}
use Rattle.sheet.proofs.Reading.{own_states_in, state_of_in, whens_in, actions_in, action_of_in}
use Rattle.sheet.proofs.Rules.{accepted_right}
use Rattle.sheet.proofs.Sizes.{all_whens as all_whens_in, all_actions as all_actions_in, all_statements as all_statements_in}
use Rattle.accepted.proofs.ReaderLaws.{stands_right}

-- an accepted sheet has at most 256 when clauses, 32 states and 1,024 guard records
module _ (b : List ℕ) (p : Places) (stands : Stands b p) where
  pub whens_few : in_fours (body b 2) ≤ 256
  unfolding bodies
  whens_few = (counted b (stands_right b p stands)).whens_most

  pub states_few : in_fours (body b 1) ≤ 32
  unfolding bodies
  states_few = (counted b (stands_right b p stands)).states_most

  pub states_some : 1 ≤ in_fours (body b 1)
  unfolding bodies
  states_some = (counted b (stands_right b p stands)).states_least

  pub classes_few : in_fours (body b 0) ≤ 8
  unfolding bodies
  classes_few = (counted b (stands_right b p stands)).classes_most

  pub guards_short : length (body b 3) ≤ 8192
  guards_short =
      let m : length (body b 3) / 8 ≤ 1024 = body_most b (stands_right b p stands) 3 (omega arith) in
      let w : length (body b 3) ≡ length (body b 3) / 8 * 8 = body_whole b (stands_right b p stands) 3 (omega arith) in
      omega arith

  pub states_are : own_states (class_of b) ≡ in_fours (body b 1)
  unfolding class_of bodies
  states_are = own_states_in (bodies b)

  pub actions_few : in_fours (body b 4) ≤ 256
  unfolding bodies
  actions_few = (counted b (stands_right b p stands)).actions_most

  -- the when clauses of all states are W, their action clauses A, and the statements of these T
  pub all_whens : first_when (body b 1) (in_fours (body b 1)) ≡ in_fours (body b 2)
  unfolding bodies
  all_whens = all_whens_in (bodies b) (accepted_right b stands.accepted).bodies

  pub all_actions : first_action (body b 1) (in_fours (body b 1)) ≡ in_fours (body b 4)
  unfolding bodies
  all_actions = all_actions_in (bodies b) (accepted_right b stands.accepted).bodies

  pub all_statements : first_statement (body b 4) (in_fours (body b 4)) ≡ in_eights (body b 5)
  unfolding bodies
  all_statements = all_statements_in (bodies b) (accepted_right b stands.accepted).bodies

  -- those of state q stand between its first and that of the next state
  pub next_first : (q : ℕ) → first_when (body b 1) (q + 1) ≡ first_when (body b 1) q + when_count (body b 1) q
  next_first q = sym (sum_next (body b 1) 0 q (first_when (body b 1) q) (when_count (body b 1) q) refl refl)

  pub next_action : (q : ℕ) → first_action (body b 1) (q + 1) ≡ first_action (body b 1) q + action_count (body b 1) q
  next_action q = sym (sum_next (body b 1) 2 q (first_action (body b 1) q) (action_count (body b 1) q) refl refl)

  pub first_inside : (q : ℕ) → q < in_fours (body b 1) → first_when (body b 1) (q + 1) ≤ in_fours (body b 2)
  first_inside q l = sum_inside (body b 1) 0 q (in_fours (body b 1)) (in_fours (body b 2)) l all_whens

  -- clause j of state q
  pub when_of : (q j : ℕ) (d : When) → q < in_fours (body b 1) → j < when_count (body b 1) q → get_or (state_of (class_of b) q).whens j d ≡ when_in (bodies b) (first_when (body b 1) q + j)
  unfolding class_of bodies state_in
  when_of q j d l m =
      rw (state_of_in (bodies b) q l) (get_or_listed (first_when (body b 1) q) (when_count (body b 1) q) (when_in (bodies b)) d j (first_when (body b 1) q + j) m refl)

  pub when_number : (q : ℕ) → q < in_fours (body b 1) → length (state_of (class_of b) q).whens ≡ when_count (body b 1) q
  unfolding class_of bodies
  when_number q l = whens_in (bodies b) q l

  -- its guard is read
  pub guard_read : (w : ℕ) → w < in_fours (body b 2) → (e : ℕ) × (guard_from (body b 3) (guard_place (body b 2) w) ≡ got (when_in (bodies b) w).guard e)
  unfolding guards_right bodies when_in guard_in
  guard_read w l =
      go (guard_from (body b 3) (guard_place (body b 2) w)) refl
      (each_elim (in_fours (body b 2)) (λ w. is_read (guard_from (body b 3) (guard_place (body b 2) w))) (accepted_right b stands.accepted).bodies.guards w l)
    where
      go : (o : Read) → guard_from (body b 3) (guard_place (body b 2) w) ≡ o → is_read o ≡ true → (e : ℕ) × (guard_from (body b 3) (guard_place (body b 2) w) ≡ got (when_in (bodies b) w).guard e)
      go (got g e) q h = (e, rw q)
      go broken q h = absurd (clash (cc))

  -- the part that action clause a reads as
  abbrev pub body_at : ℕ → Part
  body_at a = (action_in (bodies b) a).body

  pub body_read : (a : ℕ) → a < in_fours (body b 4) → Reads (body b 3) (statement_bytes (body b 4) (body b 5) a) (body_at a)
  unfolding bodies statements_right action_in body_of
  body_read a l =
      go (body_of (in_fours (body b 0)) (in_fours (body b 1)) (body b 3) (body b 4) (body b 5) a) refl
      (each_elim (in_fours (body b 4)) (λ a. is_some (body_of (in_fours (body b 0)) (in_fours (body b 1)) (body b 3) (body b 4) (body b 5) a)) (accepted_right b stands.accepted).bodies.statements a l)
    where
      go : (o : Option Part) → body_of (in_fours (body b 0)) (in_fours (body b 1)) (body b 3) (body b 4) (body b 5) a ≡ o → is_some o ≡ true
          → Reads (body b 3) (statement_bytes (body b 4) (body b 5) a) (maybe o (λ _. end) (λ p. p))
      go none e h = absurd (clash (cc))
      go (some p) e h = record { depth = 8; classes = in_fours (body b 0); states = in_fours (body b 1); reads = rw (statements_whole (body b 4) (body b 5) a) e }

  -- action clause a of state q
  pub action_number : (q : ℕ) → q < in_fours (body b 1) → length (state_of (class_of b) q).actions ≡ action_count (body b 1) q
  unfolding class_of bodies
  action_number q l = actions_in (bodies b) q l

  pub action_at : (q a : ℕ) → q < in_fours (body b 1) → a < action_count (body b 1) q → action_of (class_of b) q a ≡ action_in (bodies b) (first_action (body b 1) q + a)
  unfolding class_of bodies
  action_at q a l m = action_of_in (bodies b) q a no_action l m
