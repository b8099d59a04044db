-- The machine that reads a text word by word. Its place is the part of the tree that is read, as far as it is read.
-- Assumes nothing.
use Rattle.std.specs.Prelude.{ℕ, List, [], ◌∷◌, eqb}
use Rattle.std.proofs.Math.Option.{Option, some}
use Rattle.model.specs.Words.{choose, maybe}
use Rattle.grammar.specs.Grammar.{Token, fixed, name, Name, class_word, state_word, action_word, top_word, any_word, all_word, when_word, move_word, do_word, stay_word, if_word, then_word, else_word, endif_word, and_word, or_word, not_word, in_word, out_word, children_word, open_word, close_word, left_word, right_word, comma_word, end_word, Row, none, ◌then◌, Kin, children, kin, Names, one, more, Set, single, braces, Quantifier, any, all, Side, inside, outside, Guard, just, or, Conj, only, and, Operand, not, brackets, atom, move_to, run, stay, stay_in, When, Part, nothing, send, go_to, if_then, if_else, Action, State, Text}

-- the state that is being read: its class, the states before it, its name
pub record Within : Type 0 where
  pub class : Name
  pub earlier : Row State
  pub own : Name

-- the statement list that is being read
pub data list_of : Type 0 where
  body : Within → Row When → Row Action → Name → list_of
  then_part : list_of → Part → Guard → list_of
  else_part : list_of → Part → Guard → Part → list_of

-- what the guard belongs to that is being read
pub data Owner : Type 0 where
  a_when : Within → Row When → Owner
  an_if : list_of → Part → Owner

-- where a guard, a conj, an operand is being read
mutual
  pub data guard_in : Type 0 where
    owned : Owner → guard_in
    bracket : operand_in → guard_in

  pub data conj_in : Type 0 where
    first : guard_in → conj_in
    after_or : guard_in → Guard → conj_in

  pub data operand_in : Type 0 where
    first_of : conj_in → operand_in
    after_and : conj_in → Conj → operand_in
    after_not : operand_in → operand_in

-- where the set of an atom is being read
pub record atom_in : Type 0 where
  pub place : operand_in
  pub quantifier : Quantifier
  pub kin : Kin
  pub side : Side

-- what has been read, and so what is wanted next
pub data At : Type 0 where
  start : At
  class_read : At
  top_read : At
  class_named : Name → At
  state_read : Name → Row State → At
  in_whens : Within → Row When → At
  operand_wanted : operand_in → At
  kin_wanted : operand_in → Quantifier → At
  side_wanted : operand_in → Quantifier → Kin → At
  set_wanted : atom_in → At
  left_read : atom_in → At
  comma_read : atom_in → Names → At
  names_read : atom_in → Names → At
  operand_read : conj_in → Conj → At
  move_read : Within → Row When → Guard → At
  do_read : Within → Row When → Guard → At
  stay_read : Within → Row When → Guard → At
  action_read : Within → Row When → Row Action → At
  statements : list_of → Part → At
  send_read : list_of → Part → At
  command_read : list_of → Part → Name → At
  send_all_read : list_of → Part → Name → At
  go_read : list_of → Part → At
  finished : Text → At

-- a word that can stand next, and what has been read then
pub data Move : Type 0 where
  on : ℕ → At → Move
  on_name : (Name → At) → Move

-- an operand has been read
unfoldable pub filled : operand_in → Operand → At
filled (first_of h) u = operand_read h (only u)
filled (after_and h c) u = operand_read h (and c u)
filled (after_not h) u = filled h (not u)

abbrev pub outer : conj_in → guard_in
outer (first h) = h
outer (after_or h g) = h

-- the guard that ends with this conj
abbrev pub whole : conj_in → Conj → Guard
whole (first h) c = just c
whole (after_or h g) c = or g c

abbrev pub guard_wanted : guard_in → At
guard_wanted h = operand_wanted (first_of (first h))

unfoldable pub owner_moves : Owner → Guard → List Move
owner_moves (a_when s ws) g = on move_word (move_read s ws g) ∷ on do_word (do_read s ws g) ∷ on stay_word (stay_read s ws g) ∷ []
owner_moves (an_if l p) g = on then_word (statements (then_part l p g) nothing) ∷ []

unfoldable pub closing_moves : guard_in → Guard → List Move
closing_moves (owned o) g = owner_moves o g
closing_moves (bracket h) g = on close_word (filled h (brackets g)) ∷ []

abbrev pub state_of : Within → Row When → Row Action → State
state_of s ws as' = record { own = s.own; whens = ws; actions = as' }

unfoldable pub action_moves : Within → Row When → Row Action → List Move
action_moves s ws as' =
    on action_word (action_read s ws as')
    ∷ on state_word (state_read s.class (s.earlier then state_of s ws as'))
    ∷ on end_word (finished (record { class = s.class; earlier = s.earlier; last = state_of s ws as' }))
    ∷ []

unfoldable pub when_moves : Within → Row When → List Move
when_moves s ws = on when_word (guard_wanted (owned (a_when s ws))) ∷ action_moves s ws none

unfoldable pub ending_moves : list_of → Part → List Move
ending_moves (body s ws as' c) p = action_moves s ws (as' then record { command = c; body = p })
ending_moves (then_part l p g) q = on else_word (statements (else_part l p g q) nothing) ∷ on endif_word (statements l (if_then p g q)) ∷ []
ending_moves (else_part l p g q) r = on endif_word (statements l (if_else p g q r)) ∷ []

abbrev pub atom_of : atom_in → Set → Operand
atom_of a t = atom a.quantifier a.kin a.side t

-- the words that can stand next
unfoldable pub moves : At → List Move
moves start = on class_word class_read ∷ []
moves class_read = on top_word top_read ∷ []
moves top_read = on_name class_named ∷ []
moves (class_named c) = on state_word (state_read c none) ∷ []
moves (state_read c ss) = on_name (λ n. in_whens (record { class = c; earlier = ss; own = n }) none) ∷ []
moves (in_whens s ws) = when_moves s ws
moves (operand_wanted h) =
    on not_word (operand_wanted (after_not h)) ∷ on open_word (guard_wanted (bracket h)) ∷ on any_word (kin_wanted h any) ∷ on all_word (kin_wanted h all) ∷ []
moves (kin_wanted h q) = on children_word (side_wanted h q children) ∷ on_name (λ n. side_wanted h q (kin n)) ∷ []
moves (side_wanted h q k) =
    on in_word (set_wanted (record { place = h; quantifier = q; kin = k; side = inside }))
    ∷ on out_word (set_wanted (record { place = h; quantifier = q; kin = k; side = outside }))
    ∷ []
moves (set_wanted a) = on_name (λ n. filled a.place (atom_of a (single n))) ∷ on left_word (left_read a) ∷ []
moves (left_read a) = on_name (λ n. names_read a (one n)) ∷ []
moves (comma_read a ns) = on_name (λ n. names_read a (more ns n)) ∷ []
moves (names_read a ns) = on comma_word (comma_read a ns) ∷ on right_word (filled a.place (atom_of a (braces ns))) ∷ []
moves (operand_read h c) =
    on and_word (operand_wanted (after_and h c))
    ∷ on or_word (operand_wanted (first_of (after_or (outer h) (whole h c))))
    ∷ closing_moves (outer h) (whole h c)
moves (move_read s ws g) = on_name (λ n. in_whens s (ws then record { guard = g; referrer = move_to n })) ∷ []
moves (do_read s ws g) = on_name (λ n. in_whens s (ws then record { guard = g; referrer = run n })) ∷ []
moves (stay_read s ws g) =
    on_name (λ n. in_whens s (ws then record { guard = g; referrer = stay_in n })) ∷ when_moves s (ws then record { guard = g; referrer = stay })
moves (action_read s ws as') = on_name (λ n. statements (body s ws as' n) nothing) ∷ []
moves (statements l p) =
    on do_word (send_read l p) ∷ on move_word (go_read l p) ∷ on if_word (guard_wanted (owned (an_if l p))) ∷ ending_moves l p
moves (send_read l p) = on_name (command_read l p) ∷ []
moves (command_read l p c) = on all_word (send_all_read l p c) ∷ []
moves (send_all_read l p c) = on children_word (statements l (send p c children)) ∷ on_name (λ n. statements l (send p c (kin n))) ∷ []
moves (go_read l p) = on_name (λ n. statements l (go_to p n)) ∷ []
moves (finished t) = []

-- what a move makes of a word
unfoldable pub answer : Move → Token → Option At
answer (on k s) (fixed j) = choose (eqb j k) (λ _. some s) (λ _. Option.none)
answer (on k s) (name n) = Option.none
answer (on_name f) (fixed j) = Option.none
answer (on_name f) (name n) = some (f n)

unfoldable pub next : List Move → Token → Option At
next [] w = Option.none
next (m ∷ ms) w = maybe (answer m w) (λ _. next ms w) some

-- the whole text was read; or the first of these words cannot stand
pub data Outcome : Type 0 where
  read : Text → Outcome
  refused : List Token → Outcome

unfoldable pub end_of : At → Outcome
end_of start = refused []
end_of class_read = refused []
end_of top_read = refused []
end_of (class_named c) = refused []
end_of (state_read c ss) = refused []
end_of (in_whens s ws) = refused []
end_of (operand_wanted h) = refused []
end_of (kin_wanted h q) = refused []
end_of (side_wanted h q k) = refused []
end_of (set_wanted a) = refused []
end_of (left_read a) = refused []
end_of (comma_read a ns) = refused []
end_of (names_read a ns) = refused []
end_of (operand_read h c) = refused []
end_of (move_read s ws g) = refused []
end_of (do_read s ws g) = refused []
end_of (stay_read s ws g) = refused []
end_of (action_read s ws as') = refused []
end_of (statements l p) = refused []
end_of (send_read l p) = refused []
end_of (command_read l p c) = refused []
end_of (send_all_read l p c) = refused []
end_of (go_read l p) = refused []
end_of (finished t) = read t

unfoldable pub reads : At → List Token → Outcome
reads s [] = end_of s
reads s (w ∷ ws) = maybe (next (moves s) w) (λ _. refused (w ∷ ws)) (λ t. reads t ws)
