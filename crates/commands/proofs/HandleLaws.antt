-- Laws about the handling of a command alone: the action clause that was found, and what running it comes to.
-- Assumes nothing.
use Prim.Native.Nat.{ℕ, ◌+◌, ◌<◌, ◌≤◌}
use native.Mathlib.Omega.{arith}
use mathlib.Core.Path.{◌≡◌, refl, sym, ◌∙◌, ap}
use mathlib.Core.Bool.{Bool, true, false}
use mathlib.Core.List.{List, [], ◌∷◌}
use mathlib.Core.Logic.{◌⊎◌, inl, inr}
use mathlib.Core.Option.{Option, some}
use lib.Dec.{eqb}
use lib.ListN.{length}
use lib.Seq.{sets}
use Rattle.std.specs.Prelude.{Some, None, unwrap_or}
use Rattle.model.specs.Words.{maybe, listed, least}
use Rattle.model.specs.Tree.{Child, Action, State, no_action}
use Rattle.model.specs.Running.{run_part}
use Rattle.model.specs.Node.{own_states, state_of, action_of}
use Rattle.model.specs.Commands as Tree
use Rattle.model.specs.Commands.{left_by}
use Rattle.model.specs.declared.OwnState.{OwnState}
use Rattle.model.specs.declared.Handling.{Handling}
use Rattle.model.specs.declared.Handling.TheVariants.{Ignored, Handled}
use Rattle.model.proofs.CommandLaws.{left_within}
use Rattle.model.proofs.Words.{lt_or_le, least_some, least_none}
use Rattle.sheet.specs.Contents.{body, bodies}
use Rattle.bodies.specs.Clauses.{first_action, action_count, action_command}
use Rattle.records.specs.Bytes.{in_fours}
use Rattle.children.specs.ChildList.{children_of, sent_bytes}
use Rattle.sheet.specs.Reading.{action_in, state_in, class_of}
use Rattle.sheet.proofs.Contents.{counted}
use Rattle.sheet.proofs.Reading.{own_states_in, state_of_in, state_of_past, action_of_in}
use Rattle.sheet.proofs.Sound.{bodies_in}
use Rattle.sheet.proofs.Rules.{Right}
use Rattle.running.specs.Running.{Moved, moved_as, RunsAction}
use Rattle.running.specs.declared.Ran.{Ran}
use Rattle.bodies.proofs.CheckLaws.{past_count}
use Rattle.running.proofs.ActionLaws.{state_inside}
use Rattle.commands.specs.Handling.{bytes_of_handling, handling_values}
use Rattle.commands.specs.Commands.{first_action_for, left_in, RunsCommand}
use Rattle.commands.proofs.HandlingLaws.{left_told}
use Rattle.commands.proofs.ClauseLaws.{none_least, some_least, clause_none, clause_found}

-- action clause a of state q is the one for command m
pub record Chosen (b : List ℕ) (q m a : ℕ) : Type 0 where
  pub there : a < action_count (body b 1) q
  pub handled : (ks : List Child) → Tree.command (class_of b) ks q m ≡ Tree.handled_by q (run_part (action_of (class_of b) q a).body ks)

module _ (b : List ℕ) (right : Right b) (q m : ℕ) where
  abbrev own : ℕ → Bool
  own j = eqb (action_command (body b 4) (first_action (body b 1) q + j)) m

  -- the action clauses of state q, be it one of the sheet's or not
  actions_listed : (state_of (class_of b) q).actions ≡ listed (first_action (body b 1) q) (action_count (body b 1) q) (action_in (bodies b))
  unfolding class_of bodies state_in listed
  actions_listed = go (lt_or_le q (in_fours (body b 1)))
    where
      go : (q < in_fours (body b 1)) ⊎ (in_fours (body b 1) ≤ q) → (state_of (class_of b) q).actions ≡ listed (first_action (body b 1) q) (action_count (body b 1) q) (action_in (bodies b))
      go (inl l) = ap (λ (x : State). x.actions) (state_of_in (bodies b) q l)
      go (inr l) =
          ap (λ (x : State). x.actions) (state_of_past (bodies b) q l)
          ∙ ap (λ (n : ℕ). listed (first_action (body b 1) q) n (action_in (bodies b))) (sym (past_count (body b 1) 2 q (counted b right.contents).states_whole l))

  pub ignored_told : (ks : List Child) → first_action_for b q m ≡ None → Tree.command (class_of b) ks q m ≡ Tree.ignored q
  unfolding Tree.command first_action_for bodies action_in
  ignored_told ks e =
      let none_is = none_least (least (action_count (body b 1) q) own) e in
      rw (
        actions_listed,
        clause_none (first_action (body b 1) q) (action_count (body b 1) q) (action_in (bodies b)) m
            (λ j a l h. rw h (least_none (action_count (body b 1) q) own none_is j l)),
      )

  -- the clause that was found is the one for the command
  clause_told : (hit : ℕ) → hit < action_count (body b 1) q → own hit ≡ true → ((j : ℕ) → j < hit → own j ≡ false)
      → Tree.clause_for m (state_of (class_of b) q).actions ≡ some (action_of (class_of b) q hit).body
  unfolding class_of bodies action_in
  clause_told hit l t h =
      let z = ap (λ (x : Action). x.body) (action_of_in (bodies b) q hit no_action (state_inside b right q hit l) l) in
      rw z (ap (Tree.clause_for m) actions_listed
      ∙ clause_found (first_action (body b 1) q) (action_count (body b 1) q) (action_in (bodies b)) m hit (first_action (body b 1) q + hit) l refl t (λ j c k x. rw x (h j k)))

  pub chosen_told : (hit : ℕ) → first_action_for b q m ≡ Some hit → Chosen b q m hit
  unfolding first_action_for Tree.command
  chosen_told hit e =
      let (l, t, h) = least_some (action_count (body b 1) q) own hit (some_least (least (action_count (body b 1) q) own) hit e) in
      record { there = l; handled = λ ks. rw (clause_told hit l t h) }

-- the state after a move, or with none
pub moved_told : (q : OwnState) (m : Moved) → maybe (moved_as m) (λ _. q.0) (λ t. t) ≡ (unwrap_or m q).0
moved_told q None = refl
moved_told q (Some t) = refl

-- an ignored command writes nothing
pub ignored_runs : (b list : List ℕ) (q : OwnState) (m : ℕ) (out : List ℕ) → Tree.command (class_of b) (children_of list) q.0 m ≡ Tree.ignored q.0
    → RunsCommand b list q.0 m out out (Ignored q)
unfolding handling_values bytes_of_handling sent_bytes
ignored_runs b list q m out e = record { values_are = sym (ap handling_values e); written = sym (ap (λ (h : Tree.Handling). sets out 0 (bytes_of_handling h)) e) }

-- a handled one writes what its clause sends
pub handled_runs : (b list : List ℕ) (q m a : ℕ) → Chosen b q m a → (before after : List ℕ) (w : Ran) → RunsAction b list q a before after 0 w
    → (s : OwnState) → maybe (moved_as w.moved) (λ _. q) (λ t. t) ≡ s.0 → RunsCommand b list q m before after (Handled s w.at)
unfolding handling_values bytes_of_handling
handled_runs b list q m a C before after w E s em =
    let sent = (run_part (action_of (class_of b) q a).body (children_of list)).sent in
    let n : w.at ≡ length (sent_bytes sent) = omega (arith, E.writes.place) in
    let h : Tree.command (class_of b) (children_of list) q m ≡ Tree.handled sent s.0 =
    C.handled (children_of list) ∙ ap (Tree.handled sent) (ap (λ (o : Option ℕ). maybe o (λ _. q) (λ t. t)) (sym E.moved) ∙ em)
    in
    record {
      values_are = ap (λ (k : ℕ). 1 ∷ s.0 ∷ k ∷ []) n ∙ sym (ap handling_values h);
      written = E.writes.buffer ∙ sym (ap (λ (h : Tree.Handling). sets before 0 (bytes_of_handling h)) h);
    }

-- the state that is left is one of the sheet's
pub left_inside : (b list : List ℕ) (q m : ℕ) → q < in_fours (body b 1) → (before after : List ℕ) (r : Handling) → RunsCommand b list q m before after r
    → (s : OwnState) → s ≡ left_in r → s.0 < in_fours (body b 1)
unfolding class_of bodies
left_inside b list q m low before after r R s e =
    let c = class_of b in
    let S : own_states c ≡ in_fours (body b 1) = own_states_in (bodies b) in
    let h : s.0 ≡ left_by (Tree.command c (children_of list) q m) = ap (λ (x : OwnState). x.0) e ∙ left_told (Tree.command c (children_of list) q m) r R.values_are in
    omega (arith, left_within c (children_of list) q m (bodies_in (bodies b) q) (let l : q < own_states c = omega arith in l))
