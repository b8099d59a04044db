-- How large the numbers of an answer are, for a sheet of bytes that is accepted.
-- Assumes nothing.
use Prim.Native.Nat.{ℕ, zero, suc, ◌+◌, ◌*◌, ◌<◌, ◌≤◌}
use native.Mathlib.Omega.{arith}
use mathlib.Core.Path.{◌≡◌, refl, sym, ◌∙◌, ap, subst}
use mathlib.Core.List.{List, []}
use mathlib.Core.Option.{Option, none, some}
use lib.ListN.{length, get_or}
use Rattle.model.specs.Words.{maybe}
use Rattle.model.specs.Tree.{Child, Referrer, move_to, run, stay, When, Class, Part, Action, no_action, atom, any_in, everyone}
use Rattle.model.specs.Running.{Sent, run_part}
use Rattle.model.specs.Node.{own_states, state_of, action_of, found, probe, by_do, turn, stops, next}
use Rattle.model.specs.Moves.{after}
use Rattle.model.specs.Commands.{ignored, handled_by, command, clause_for, left_by}
use Rattle.model.specs.Sound.{ReferrerRight}
use Rattle.model.proofs.Moves.{after_within}
use Rattle.model.proofs.NodeLaws.{get_or_mem, probe_found, turn_runs, next_within}
use Rattle.model.proofs.RunLaws.{part_size, clause_listed}
use Rattle.model.proofs.CommandLaws.{left_within}
use Rattle.model.specs.Words.{Bytes}
use Rattle.bodies.specs.Clauses.{referrer_of}
use Rattle.records.specs.Bytes.{in_eights}
use Rattle.records.proofs.Bytes.{u16_below}
use Rattle.sheet.specs.Contents.{bodies}
use Rattle.sheet.specs.Rules.{Accepted}
use Rattle.sheet.specs.Reading.{class_of, when_in, action_in}
use Rattle.sheet.proofs.Contents.{body_bytes, counted}
use Rattle.sheet.proofs.Reading.{own_states_in, whens_in, mem_whens, mem_actions, body_sized}
use Rattle.sheet.proofs.Rules.{accepted_right}
use Rattle.sheet.proofs.Sound.{sound}
use Rattle.children.specs.ChildList.{sent_bytes}
use Rattle.children.proofs.ChildListLaws.{bytes_most}
use Rattle.commands.specs.Handling.{bytes_of_handling}

-- what sends nothing
nothing : length (sent_bytes []) ≤ 12582912
unfolding sent_bytes
nothing = omega arith

-- a referrer's target is a byte
abbrev pub Small : Referrer → Type 0
Small (move_to t) = t < 256
Small (run a) = a < 256
Small stay = Unit {0}

referrer_small : (number t : ℕ) → t < 256 → Small (referrer_of number t)
unfolding referrer_of
referrer_small zero t l = l
referrer_small (suc zero) t l = l
referrer_small (suc (suc n)) t l = tt

module _ (b : List ℕ) (h : Bytes b) (a : Accepted b) (ks : List Child) where
  abbrev c : Class
  c = class_of b

  -- at most 32 states
  pub few : own_states c ≤ 32
  unfolding class_of
  few = omega (arith, own_states_in (bodies b), (counted b (accepted_right b a).contents).states_most)

  -- what stands past the end of a state's when clauses
  abbrev past : When
  past = record { guard = atom any_in everyone 0; referrer = stay }

  -- the probe's clause has a number of two bytes and a target of one
  pub found_small : (q i : ℕ) (r : Referrer) → probe c ks q ≡ found i r → (i < 65536) × Small r
  unfolding class_of bodies when_in
  found_small q i r e =
      let H = probe_found c ks past q i r e in
      let (j, l, k, f) = mem_whens (bodies b) q (get_or (state_of c q).whens i past) (get_or_mem (state_of c q).whens i past H.listed) in
      let n = whens_in (bodies b) q l in
      let u = u16_below (bodies b).states (body_bytes b h 1) (q * 4 + 0) in
      let v = H.listed in
      ((omega arith), subst Small (sym (ap (λ (w : When). w.referrer) f) ∙ H.referrer) (referrer_small _ _ (body_bytes b h 2 _)))

  -- the command of a state's action clause is a byte
  command_small : (q n : ℕ) → n < length (state_of c q).actions → (action_of c q n).command < 256
  unfolding class_of bodies action_in
  command_small q n l =
      let (j, k, m, f) = mem_actions (bodies b) q (get_or (state_of c q).actions n no_action) (get_or_mem (state_of c q).actions n no_action l) in
      subst (λ (x : Action). x.command < 256) (sym f) (body_bytes b h 4 _)

  -- so is that of a DO
  pub do_small : (q m : ℕ) (sent : List Sent) → turn c ks q ≡ stops (by_do m) sent → m < 256
  unfolding turn
  do_small q m sent e =
      let (i, n, f, g, z) = turn_runs c ks q m (probe c ks q) sent e in
      let H = probe_found c ks past q i (run n) f in
      let w = get_or (state_of c q).whens i past in
      let l : n < length (state_of c q).actions = subst (ReferrerRight c q) H.referrer ((sound b h a).referrers q w (get_or_mem (state_of c q).whens i past H.listed)) in
      rw (← g) (command_small q n l)

  module _ (q : ℕ) (low : q < own_states c) where
    -- a state that moves lead to
    pub reached_small : (n r : ℕ) → after (next c ks) n q ≡ some r → r < 256
    reached_small n r e = let l = after_within (next c ks) (own_states c) (next_within c ks (sound b h a)) n q r low e in let f = few in omega arith

    -- the state that a command leaves is below S
    pub left_low : (m : ℕ) → left_by (command c ks q m) < own_states c
    left_low m = left_within c ks q m ((sound b h a).bodies q) low

    pub left_small : (m : ℕ) → left_by (command c ks q m) < 256
    left_small m = let l = left_low m in let n = few in omega arith

    -- what a command itself sends to at most 4,096 children
    pub own_most : (m : ℕ) → length ks ≤ 4096 → length (bytes_of_handling (command c ks q m)) ≤ 12582912
    unfolding command bytes_of_handling class_of
    own_most m k = go (clause_for m (state_of c q).actions) refl
      where
        go : (o : Option Part) → clause_for m (state_of c q).actions ≡ o → length (bytes_of_handling (maybe o (λ _. ignored q) (λ p. handled_by q (run_part p ks)))) ≤ 12582912
        go none f = nothing
        go (some p) f =
            let (x, y, z) = clause_listed m (state_of c q).actions p f in
            let (j, u, v, w) = mem_actions (bodies b) q x y in
            let n : part_size p ≤ in_eights (bodies b).statements = subst (λ (p : Part). part_size p ≤ in_eights (bodies b).statements) (sym (ap (λ (x : Action). x.body) w) ∙ z) (body_sized (bodies b) _) in
            let l : part_size p ≤ 1024 = omega (arith, (counted b (accepted_right b a).contents).statements_most) in
            bytes_most p ks l k
