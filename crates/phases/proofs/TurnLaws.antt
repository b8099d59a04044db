-- Laws about one turn: what a DO that was run comes to, what follows from each answer of the probe, and how much a turn sends.
-- Assumes nothing.
use Prim.Native.Nat.{ℕ, ◌+◌, ◌<◌, ◌≤◌}
use native.Mathlib.Omega.{arith}
use mathlib.Core.Path.{◌≡◌, refl, sym, ◌∙◌, ap, subst}
use mathlib.Core.List.{List, []}
use mathlib.Core.Option.{none, some}
use lib.ListN.{length, get_or}
use Rattle.std.specs.Prelude.{Some, None}
use Rattle.model.specs.Tree.{Child, everyone, any_in, atom, move_to, run, stay, When, Part, Action, no_action}
use Rattle.model.specs.Running as Tree
use Rattle.model.specs.Running.{run_part}
use Rattle.model.specs.Node.{state_of, action_of, Probed, nothing, found, probe, by_none, by_stay, by_do, Turn, stops, moves, turn_by, turn_for, turn, sent_in, sends}
use Rattle.model.specs.Sound.{ReferrerRight}
use Rattle.model.specs.declared.OwnState.{OwnState}
use Rattle.model.specs.declared.Ending.TheVariants.{ByNone, ByStay, ByDo}
use Rattle.model.specs.Answers as Code
use Rattle.model.specs.declared.Referrer.{Referrer}
use Rattle.model.specs.declared.Referrer.TheVariants.{MoveTo, Do, Stay}
use Rattle.model.proofs.NodeLaws.{get_or_mem, probe_found, sent_by, sends_is}
use Rattle.bodies.specs.Clauses.{action_count, first_action, action_command}
use Rattle.sheet.specs.Contents.{body, bodies}
use Rattle.sheet.specs.Reading.{action_in, class_in, class_of}
use Rattle.sheet.proofs.Reading.{actions_in, action_of_in, mem_whens}
use Rattle.sheet.proofs.Rules.{Right}
use Rattle.sheet.proofs.Sound.{referrers_in}
use Rattle.accepted.specs.Runs.{RunIs}
use Rattle.accepted.specs.declared.readers.Run.{Run}
use Rattle.children.specs.ChildList.{children_of, sent_bytes}
use Rattle.children.specs.NameSets.{Crewed}
use Rattle.children.proofs.ChildListLaws.{half, bytes_most}
use Rattle.node.specs.Probing.{Probes}
use Rattle.running.specs.Running.{moved_as, Writes}
use Rattle.running.specs.declared.Ran.{Ran}
use Rattle.running.proofs.ActionLaws.{state_inside, action_read}
use Rattle.phases.specs.Phases.{turn_as, TurnIs, Turns, RunsDo}
use Rattle.phases.specs.declared.Turn.TheVariants.{Stops, Moves}
use Rattle.phases.specs.declared.Turned.{Turned}

-- an action clause's command, read of the bodies
pub command_read : (b actions : List ℕ) (q a m : ℕ) (r : Run) → RunIs r (body b 1) 2 q → actions ≡ body b 4
    → m ≡ action_command actions (r.first + a) → m ≡ action_command (body b 4) (first_action (body b 1) q + a)
command_read b actions q a m r i e f = f ∙ rw (e, i.first_is)

-- a turn that sends nothing writes nothing
pub turn_silent : (t : Turn) (out : List ℕ) (at : ℕ) (r : Turned) → sent_in t ≡ [] → turn_as r.turn [] ≡ t → r.at ≡ at → TurnIs t out out at r
unfolding sent_bytes
turn_silent t out at r e f g =
    record {
      turn_is = rw e f;
      writes = record { buffer = rw e; place = rw e (let z : r.at ≡ at + 0 = omega arith in z) };
    }

-- a DO that was run: its clause reached a move_to, or not
module _ (m : ℕ) (ran : Tree.Ran) (before after : List ℕ) (at : ℕ) (r : Ran) (w : Writes ran.sent before after at r.at) (e : moved_as r.moved ≡ ran.moved) where
  pub do_moves : (t : OwnState) → r.moved ≡ Some t → TurnIs (turn_by m ran) before after at (record { turn = Moves t; at = r.at })
  do_moves t f =
      let z : ran.moved ≡ some t.0 = sym e ∙ ap moved_as f in
      rw z (record { turn_is = refl; writes = w })

  pub do_stops : (x : ℕ) → r.moved ≡ None → x ≡ m → TurnIs (turn_by m ran) before after at (record { turn = Stops (ByDo x); at = r.at })
  do_stops x f g =
      let z : ran.moved ≡ none = sym e ∙ ap moved_as f in
      rw z (record { turn_is = ap (λ (y : ℕ). stops (by_do y) ran.sent) g; writes = w })

-- nothing sent has no bytes
silent : length (sent_bytes []) ≤ 12582912
unfolding sent_bytes
silent = omega arith

module _ (b : List ℕ) (right : Right b) (q : ℕ) where
  -- the action clause that a clause found of state q runs is there
  pub do_there : (ks : List Child) (i a : ℕ) → probe (class_of b) ks q ≡ found i (run a) → a < action_count (body b 1) q
  unfolding class_of bodies
  do_there ks i a e =
      let s = bodies b in
      let d : When = record { guard = atom any_in everyone 0; referrer = stay } in
      let H = probe_found (class_in s) ks d q i (run a) e in
      let m = get_or_mem (state_of (class_in s) q).whens i d H.listed in
      let (j, l, u, z) = mem_whens s q (get_or (state_of (class_in s) q).whens i d) m in
      let there : a < length (state_of (class_in s) q).actions = subst (ReferrerRight (class_in s) q) H.referrer (referrers_in s right.bodies q (get_or (state_of (class_in s) q).whens i d) m) in
      rw (actions_in s q l) at there

  -- its command
  pub command_told : (a : ℕ) → a < action_count (body b 1) q → (action_of (class_of b) q a).command ≡ action_command (body b 4) (first_action (body b 1) q + a)
  unfolding class_of bodies action_in
  command_told a l = ap (λ (x : Action). x.command) (action_of_in (bodies b) q a no_action (state_inside b right q a l) l)

  -- what is known of a probe that found a DO
  pub found_do : (sets : List ℕ) (ks : List Child) (r : Code.Probed) → Probes b sets q r → Crewed sets ks → (i a : ℕ) (x : Referrer) → r ≡ Some (i, x) → x ≡ Do a → probe (class_of b) ks q ≡ found i (run a)
  found_do sets ks r probes crewed i a x e f = sym (rw (e, f) at (probes ks crewed))

  -- the turn by each answer of the probe
  module _ (list sets : List ℕ) (crewed : Crewed sets (children_of list)) (r : Code.Probed) (probes : Probes b sets q r) (out : List ℕ) (at : ℕ) where
    pub turns_none : r ≡ None → Turns b list q out out at (record { turn = Stops ByNone; at = at })
    unfolding turn turn_for
    turns_none e = rw (sym (rw e at (probes (children_of list) crewed))) (turn_silent (stops by_none []) out at (record { turn = Stops ByNone; at = at }) refl refl refl)

    pub turns_moves : (i : ℕ) (x : Referrer) → r ≡ Some (i, x) → (t : OwnState) → x ≡ MoveTo t → Turns b list q out out at (record { turn = Moves t; at = at })
    unfolding turn turn_for
    turns_moves i x e t f = rw (sym (rw (e, f) at (probes (children_of list) crewed))) (turn_silent (moves t.0 []) out at (record { turn = Moves t; at = at }) refl refl refl)

    pub turns_stay : (i : ℕ) (x : Referrer) → r ≡ Some (i, x) → x ≡ Stay → Turns b list q out out at (record { turn = Stops ByStay; at = at })
    unfolding turn turn_for
    turns_stay i x e f = rw (sym (rw (e, f) at (probes (children_of list) crewed))) (turn_silent (stops by_stay []) out at (record { turn = Stops ByStay; at = at }) refl refl refl)

    pub turns_do : (i : ℕ) (x : Referrer) → r ≡ Some (i, x) → (a : ℕ) → x ≡ Do a → (after : List ℕ) (t : Turned) → RunsDo b list q a out after at t → Turns b list q out after at t
    unfolding turn turn_for
    turns_do i x e a f after t h = rw (found_do sets (children_of list) r probes crewed i a x e f) h

  -- a turn sends at most one command for each of 1,024 statements and 4,096 children
  pub sends_most : (list : List ℕ) → length list ≤ 8192 → length (sent_bytes (sends (class_of b) (children_of list) q)) ≤ 12582912
  sends_most list short = rw (sends_is (class_of b) (children_of list) q) (go (probe (class_of b) (children_of list) q) refl)
    where
      go : (x : Probed) → probe (class_of b) (children_of list) q ≡ x → length (sent_bytes (sent_by (class_of b) (children_of list) q x)) ≤ 12582912
      go nothing e = silent
      go (found i (move_to t)) e = silent
      go (found i (run a)) e =
          let A = action_read b right q a (do_there (children_of list) i a e) (first_action (body b 1) q + a) refl in
          subst (λ (p : Part). length (sent_bytes (run_part p (children_of list)).sent) ≤ 12582912) (sym A.body_is) (bytes_most A.part (children_of list) A.small (omega (arith, half list)))
      go (found i stay) e = silent
