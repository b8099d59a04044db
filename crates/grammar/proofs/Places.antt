-- Every place of the machine can be completed to a text, so the first word without a move is the place of 16.
-- Assumes nothing.
use mathlib.Core.Path.{◌≡◌, refl, sym, ◌∙◌}
use mathlib.Core.List.{List, [], ◌∷◌}
use mathlib.Core.Option.{Option}
use Rattle.grammar.specs.Grammar.{Token, fixed, name, Name, class_word, state_word, top_word, any_word, all_word, stay_word, then_word, endif_word, in_word, children_word, close_word, right_word, end_word, Row, none, ◌then◌, Kin, children, Names, one, more, single, braces, Quantifier, any, inside, Guard, just, or, Conj, only, and, Operand, not, brackets, move_to, run, stay, stay_in, When, Part, nothing, send, go_to, if_then, if_else, State, Text, referrer_words}
use Rattle.grammar.specs.Machine.{Within, list_of, body, then_part, else_part, Owner, a_when, an_if, guard_in, owned, bracket, conj_in, first, after_or, operand_in, first_of, after_and, after_not, atom_in, At, start, class_read, top_read, class_named, state_read, in_whens, operand_wanted, kin_wanted, side_wanted, set_wanted, left_read, comma_read, names_read, operand_read, move_read, do_read, stay_read, action_read, statements, send_read, command_read, send_all_read, go_read, finished, filled, state_of, atom_of, moves, next, read, refused, end_of, reads}
use Rattle.grammar.proofs.Machine.{clash}
use Rattle.grammar.proofs.Complete.{steps, guard_read, close_run, then_run, referrer_run}

-- some words lead from here to a text
pub record Ends (s : At) : Type 0 where
  pub words : List Token
  pub text : Text
  pub ends : reads s words ≡ read text

-- one word before
ahead : (s t : At) (w : Token) → ((rest : List Token) → reads s (w ∷ rest) ≡ reads t rest) → Ends t → Ends s
ahead s t w h e = record { words = w ∷ e.words; text = e.text; ends = h e.words ∙ e.ends }

whens_end : (s : Within) (ws : Row When) → Ends (in_whens s ws)
unfolding steps end_of
whens_end s ws = record { words = fixed end_word ∷ []; text = record { class = s.class; earlier = s.earlier; last = state_of s ws none }; ends = refl }

list_ends : (l : list_of) (p : Part) → Ends (statements l p)
unfolding steps end_of
list_ends (body s ws as' c) p =
    record { words = fixed end_word ∷ []; text = record { class = s.class; earlier = s.earlier; last = state_of s ws (as' then record { command = c; body = p }) }; ends = refl }
list_ends (then_part l p g) q = ahead (statements (then_part l p g) q) (statements l (if_then p g q)) (fixed endif_word) (λ rest. refl) (list_ends l (if_then p g q))
list_ends (else_part l p g q) r =
    ahead (statements (else_part l p g q) r) (statements l (if_else p g q r)) (fixed endif_word) (λ rest. refl) (list_ends l (if_else p g q r))

stay_ends : (s : Within) (ws : Row When) (g : Guard) → Ends (stay_read s ws g)
unfolding steps
stay_ends s ws g =
    let v : Row When = ws then record { guard = g; referrer = stay_in (120 ∷ []) } in
    ahead (stay_read s ws g) (in_whens s v) (name (120 ∷ [])) (λ rest. refl) (whens_end s v)

owner_ends : (o : Owner) (g : Guard) → Ends (guard_read (owned o) g)
unfolding referrer_words
owner_ends (a_when s ws) g = ahead (guard_read (owned (a_when s ws)) g) (stay_read s ws g) (fixed stay_word) (λ rest. referrer_run stay g s ws rest) (stay_ends s ws g)
owner_ends (an_if l p) g =
    ahead (guard_read (owned (an_if l p)) g) (statements (then_part l p g) nothing) (fixed then_word) (λ rest. then_run g l p rest) (list_ends (then_part l p g) nothing)

mutual
  unfolding guard_read filled

  guard_ends : (h : guard_in) (g : Guard) → Ends (guard_read h g)
  guard_ends (owned o) g = owner_ends o g
  guard_ends (bracket h) g = ahead (guard_read (bracket h) g) (filled h (brackets g)) (fixed close_word) (λ rest. close_run g h rest) (operand_ends h (brackets g))

  conj_ends : (h : conj_in) (c : Conj) → Ends (operand_read h c)
  conj_ends (first h) c = guard_ends h (just c)
  conj_ends (after_or h g) c = guard_ends h (or g c)

  operand_ends : (h : operand_in) (u : Operand) → Ends (filled h u)
  operand_ends (first_of h) u = conj_ends h (only u)
  operand_ends (after_and h c) u = conj_ends h (and c u)
  operand_ends (after_not h) u = operand_ends h (not u)

-- the name that completions use
abbrev x : Name
x = 120 ∷ []

set_ends : (a : atom_in) → Ends (set_wanted a)
unfolding steps
set_ends a = ahead (set_wanted a) (filled a.place (atom_of a (single x))) (name x) (λ rest. refl) (operand_ends a.place (atom_of a (single x)))

names_end : (a : atom_in) (ns : Names) → Ends (names_read a ns)
unfolding steps
names_end a ns = ahead (names_read a ns) (filled a.place (atom_of a (braces ns))) (fixed right_word) (λ rest. refl) (operand_ends a.place (atom_of a (braces ns)))

side_ends : (h : operand_in) (q : Quantifier) (k : Kin) → Ends (side_wanted h q k)
unfolding steps
side_ends h q k =
    let a : atom_in = record { place = h; quantifier = q; kin = k; side = inside } in
    ahead (side_wanted h q k) (set_wanted a) (fixed in_word) (λ rest. refl) (set_ends a)

kin_ends : (h : operand_in) (q : Quantifier) → Ends (kin_wanted h q)
unfolding steps
kin_ends h q = ahead (kin_wanted h q) (side_wanted h q children) (fixed children_word) (λ rest. refl) (side_ends h q children)

named_ends : (c : Name) (ss : Row State) → Ends (state_read c ss)
unfolding steps
named_ends c ss =
    let s : Within = record { class = c; earlier = ss; own = x } in
    ahead (state_read c ss) (in_whens s none) (name x) (λ rest. refl) (whens_end s none)

class_ends : (c : Name) → Ends (class_named c)
unfolding steps
class_ends c = ahead (class_named c) (state_read c none) (fixed state_word) (λ rest. refl) (named_ends c none)

top_ends : Ends top_read
unfolding steps
top_ends = ahead top_read (class_named x) (name x) (λ rest. refl) (class_ends x)

class_read_ends : Ends class_read
unfolding steps
class_read_ends = ahead class_read top_read (fixed top_word) (λ rest. refl) top_ends

send_ends : (l : list_of) (p : Part) (c : Name) → Ends (send_all_read l p c)
unfolding steps
send_ends l p c = ahead (send_all_read l p c) (statements l (send p c children)) (fixed children_word) (λ rest. refl) (list_ends l (send p c children))

command_ends : (l : list_of) (p : Part) (c : Name) → Ends (command_read l p c)
unfolding steps
command_ends l p c = ahead (command_read l p c) (send_all_read l p c) (fixed all_word) (λ rest. refl) (send_ends l p c)

-- every place can be completed
pub completed : (s : At) → Ends s
unfolding steps end_of
completed start = ahead start class_read (fixed class_word) (λ rest. refl) class_read_ends
completed class_read = class_read_ends
completed top_read = top_ends
completed (class_named c) = class_ends c
completed (state_read c ss) = named_ends c ss
completed (in_whens s ws) = whens_end s ws
completed (operand_wanted h) = ahead (operand_wanted h) (kin_wanted h any) (fixed any_word) (λ rest. refl) (kin_ends h any)
completed (kin_wanted h q) = kin_ends h q
completed (side_wanted h q k) = side_ends h q k
completed (set_wanted a) = set_ends a
completed (left_read a) = ahead (left_read a) (names_read a (one x)) (name x) (λ rest. refl) (names_end a (one x))
completed (comma_read a ns) = ahead (comma_read a ns) (names_read a (more ns x)) (name x) (λ rest. refl) (names_end a (more ns x))
completed (names_read a ns) = names_end a ns
completed (operand_read h c) = conj_ends h c
completed (move_read s ws g) =
    let v : Row When = ws then record { guard = g; referrer = move_to x } in ahead (move_read s ws g) (in_whens s v) (name x) (λ rest. refl) (whens_end s v)
completed (do_read s ws g) =
    let v : Row When = ws then record { guard = g; referrer = run x } in ahead (do_read s ws g) (in_whens s v) (name x) (λ rest. refl) (whens_end s v)
completed (stay_read s ws g) = stay_ends s ws g
completed (action_read s ws as') =
    ahead (action_read s ws as') (statements (body s ws as' x) nothing) (name x) (λ rest. refl) (list_ends (body s ws as' x) nothing)
completed (statements l p) = list_ends l p
completed (send_read l p) = ahead (send_read l p) (command_read l p x) (name x) (λ rest. refl) (command_ends l p x)
completed (command_read l p c) = command_ends l p c
completed (send_all_read l p c) = send_ends l p c
completed (go_read l p) = ahead (go_read l p) (statements l (go_to p x)) (name x) (λ rest. refl) (list_ends l (go_to p x))
completed (finished t) = record { words = []; text = t; ends = refl }

-- where the words end, none is refused
pub end_rest : (s : At) (rest : List Token) → end_of s ≡ refused rest → rest ≡ []
unfolding end_of
end_rest start rest e = cc
end_rest class_read rest e = cc
end_rest top_read rest e = cc
end_rest (class_named c) rest e = cc
end_rest (state_read c ss) rest e = cc
end_rest (in_whens s ws) rest e = cc
end_rest (operand_wanted h) rest e = cc
end_rest (kin_wanted h q) rest e = cc
end_rest (side_wanted h q k) rest e = cc
end_rest (set_wanted a) rest e = cc
end_rest (left_read a) rest e = cc
end_rest (comma_read a ns) rest e = cc
end_rest (names_read a ns) rest e = cc
end_rest (operand_read h c) rest e = cc
end_rest (move_read s ws g) rest e = cc
end_rest (do_read s ws g) rest e = cc
end_rest (stay_read s ws g) rest e = cc
end_rest (action_read s ws as') rest e = cc
end_rest (statements l p) rest e = cc
end_rest (send_read l p) rest e = cc
end_rest (command_read l p c) rest e = cc
end_rest (send_all_read l p c) rest e = cc
end_rest (go_read l p) rest e = cc
end_rest (finished t) rest e = absurd (clash (cc))

-- without a move a word is refused, and so no text is read
reads_stuck : (s : At) (w : Token) (zs : List Token) → next (moves s) w ≡ Option.none → reads s (w ∷ zs) ≡ refused (w ∷ zs)
unfolding reads
reads_stuck s w zs p = rw p

pub wrong : (s : At) (w : Token) (zs : List Token) (t : Text) → next (moves s) w ≡ Option.none → reads s (w ∷ zs) ≡ read t → ⊥
wrong s w zs t p q = let r : refused (w ∷ zs) ≡ read t = sym (reads_stuck s w zs p) ∙ q in clash (cc)
