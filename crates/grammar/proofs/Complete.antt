-- The machine reads what the grammar writes: every text of the grammar, from its words.
-- Assumes nothing.
use Prim.Native.Nat.{ℕ}
use mathlib.Core.Path.{◌≡◌, refl, sym, ◌∙◌, ap}
use mathlib.Core.List.{List, [], ◌∷◌}
use Rattle.grammar.specs.Grammar.{Token, fixed, name, Name, state_word, action_word, all_word, when_word, move_word, do_word, if_word, then_word, else_word, endif_word, and_word, or_word, close_word, right_word, comma_word, end_word, Row, none, ◌then◌, Kin, children, kin, Names, one, more, Set, single, braces, Quantifier, any, all, Side, inside, outside, Guard, just, or, Conj, only, and, Operand, not, brackets, atom, Referrer, move_to, run, stay, stay_in, When, Part, nothing, send, go_to, if_then, if_else, Action, State, Text, row_words, kin_words, names_words, set_words, quantifier_word, side_word, guard_words, conj_words, operand_words, referrer_words, when_words, part_words, action_words, state_words, text_words}
use Rattle.grammar.specs.Machine.{Within, list_of, body, then_part, else_part, a_when, an_if, guard_in, owned, bracket, conj_in, first, after_or, operand_in, first_of, after_and, after_not, atom_in, At, start, class_named, state_read, in_whens, operand_wanted, kin_wanted, side_wanted, set_wanted, left_read, names_read, operand_read, stay_read, action_read, statements, send_all_read, filled, guard_wanted, owner_moves, closing_moves, state_of, action_moves, when_moves, ending_moves, atom_of, moves, answer, next, read, end_of, reads}

-- one name that opens the machine
unfoldable pub steps : Unit {0}
unfolding reads next answer moves owner_moves closing_moves action_moves when_moves ending_moves filled
steps = tt

names_run : (ns : Names) (a : atom_in) (rest : List Token) → reads (left_read a) (names_words ns rest) ≡ reads (names_read a ns) rest
unfolding steps names_words
names_run (one n) a rest = refl
names_run (more ns n) a rest = names_run ns a (fixed comma_word ∷ name n ∷ rest)

set_run : (t : Set) (a : atom_in) (rest : List Token) → reads (set_wanted a) (set_words t rest) ≡ reads (filled a.place (atom_of a t)) rest
unfolding steps set_words
set_run (single n) a rest = refl
set_run (braces ns) a rest = names_run ns a (fixed right_word ∷ rest)

side_run : (s : Side) (h : operand_in) (q : Quantifier) (k : Kin) (rest : List Token)
    → reads (side_wanted h q k) (fixed (side_word s) ∷ rest) ≡ reads (set_wanted (record { place = h; quantifier = q; kin = k; side = s })) rest
unfolding steps side_word
side_run inside h q k rest = refl
side_run outside h q k rest = refl

kin_run : (k : Kin) (h : operand_in) (q : Quantifier) (rest : List Token) → reads (kin_wanted h q) (kin_words k rest) ≡ reads (side_wanted h q k) rest
unfolding steps kin_words
kin_run children h q rest = refl
kin_run (kin n) h q rest = refl

quantifier_run : (q : Quantifier) (h : operand_in) (rest : List Token)
    → reads (operand_wanted h) (fixed (quantifier_word q) ∷ rest) ≡ reads (kin_wanted h q) rest
unfolding steps quantifier_word
quantifier_run any h rest = refl
quantifier_run all h rest = refl

-- a guard has been read, and may go on
unfoldable pub guard_read : guard_in → Guard → At
guard_read h (just c) = operand_read (first h) c
guard_read h (or g c) = operand_read (after_or h g) c

pub or_run : (g : Guard) (h : guard_in) (rest : List Token) → reads (guard_read h g) (fixed or_word ∷ rest) ≡ reads (operand_wanted (first_of (after_or h g))) rest
unfolding steps guard_read
or_run (just c) h rest = refl
or_run (or g c) h rest = refl

pub close_run : (g : Guard) (h : operand_in) (rest : List Token) → reads (guard_read (bracket h) g) (fixed close_word ∷ rest) ≡ reads (filled h (brackets g)) rest
unfolding steps guard_read
close_run (just c) h rest = refl
close_run (or g c) h rest = refl

mutual
  unfolding steps guard_words guard_read

  guard_run : (g : Guard) (h : guard_in) (rest : List Token) → reads (guard_wanted h) (guard_words g rest) ≡ reads (guard_read h g) rest
  guard_run (just c) h rest = conj_run c (first h) rest
  guard_run (or g c) h rest =
      guard_run g h (fixed or_word ∷ conj_words c rest) ∙ (or_run g h (conj_words c rest) ∙ conj_run c (after_or h g) rest)

  conj_run : (c : Conj) (h : conj_in) (rest : List Token) → reads (operand_wanted (first_of h)) (conj_words c rest) ≡ reads (operand_read h c) rest
  conj_run (only u) h rest = operand_run u (first_of h) rest
  conj_run (and c u) h rest = conj_run c h (fixed and_word ∷ operand_words u rest) ∙ operand_run u (after_and h c) rest

  operand_run : (u : Operand) (h : operand_in) (rest : List Token) → reads (operand_wanted h) (operand_words u rest) ≡ reads (filled h u) rest
  operand_run (not u) h rest = operand_run u (after_not h) rest
  operand_run (brackets g) h rest = guard_run g (bracket h) (fixed close_word ∷ rest) ∙ close_run g h rest
  operand_run (atom q k s t) h rest =
      quantifier_run q h (kin_words k (fixed (side_word s) ∷ set_words t rest))
      ∙ (kin_run k h q (fixed (side_word s) ∷ set_words t rest)
      ∙ (side_run s h q k (set_words t rest)
      ∙ set_run t (record { place = h; quantifier = q; kin = k; side = s }) rest))

pub then_run : (g : Guard) (l : list_of) (p : Part) (rest : List Token)
    → reads (guard_read (owned (an_if l p)) g) (fixed then_word ∷ rest) ≡ reads (statements (then_part l p g) nothing) rest
unfolding steps guard_read
then_run (just c) l p rest = refl
then_run (or g c) l p rest = refl

send_run : (k : Kin) (l : list_of) (p : Part) (c : Name) (rest : List Token) → reads (send_all_read l p c) (kin_words k rest) ≡ reads (statements l (send p c k)) rest
unfolding steps kin_words
send_run children l p c rest = refl
send_run (kin n) l p c rest = refl

part_run : (p : Part) (l : list_of) (rest : List Token) → reads (statements l nothing) (part_words p rest) ≡ reads (statements l p) rest
unfolding steps part_words
part_run nothing l rest = refl
part_run (send p c k) l rest = part_run p l (fixed do_word ∷ name c ∷ fixed all_word ∷ kin_words k rest) ∙ send_run k l p c rest
part_run (go_to p s) l rest = part_run p l (fixed move_word ∷ name s ∷ rest)
part_run (if_then p g q) l rest =
    part_run p l (fixed if_word ∷ guard_words g (fixed then_word ∷ part_words q (fixed endif_word ∷ rest)))
    ∙ (guard_run g (owned (an_if l p)) (fixed then_word ∷ part_words q (fixed endif_word ∷ rest))
    ∙ (then_run g l p (part_words q (fixed endif_word ∷ rest))
    ∙ part_run q (then_part l p g) (fixed endif_word ∷ rest)))
part_run (if_else p g q r) l rest =
    part_run p l (fixed if_word ∷ guard_words g (fixed then_word ∷ part_words q (fixed else_word ∷ part_words r (fixed endif_word ∷ rest))))
    ∙ (guard_run g (owned (an_if l p)) (fixed then_word ∷ part_words q (fixed else_word ∷ part_words r (fixed endif_word ∷ rest)))
    ∙ (then_run g l p (part_words q (fixed else_word ∷ part_words r (fixed endif_word ∷ rest)))
    ∙ (part_run q (then_part l p g) (fixed else_word ∷ part_words r (fixed endif_word ∷ rest))
    ∙ part_run r (else_part l p g q) (fixed endif_word ∷ rest))))

-- when clauses have been read: behind a bare stay_in_state a name may still stand
abbrev when_read : Within → Row When → Guard → Referrer → At
when_read s ws g (move_to n) = in_whens s (ws then record { guard = g; referrer = move_to n })
when_read s ws g (run n) = in_whens s (ws then record { guard = g; referrer = run n })
when_read s ws g stay = stay_read s ws g
when_read s ws g (stay_in n) = in_whens s (ws then record { guard = g; referrer = stay_in n })

abbrev whens_read : Within → Row When → At
whens_read s none = in_whens s none
whens_read s (ws then w) = when_read s ws w.guard w.referrer

-- at a fixed word that makes no difference
settled : (ws : Row When) (s : Within) (k : ℕ) (rest : List Token) → reads (whens_read s ws) (fixed k ∷ rest) ≡ reads (in_whens s ws) (fixed k ∷ rest)
unfolding steps
settled none s k rest = refl
settled (ws then w) s k rest = go w.referrer
  where
    go : (r : Referrer) → reads (when_read s ws w.guard r) (fixed k ∷ rest) ≡ reads (in_whens s (ws then record { guard = w.guard; referrer = r })) (fixed k ∷ rest)
    go (move_to n) = refl
    go (run n) = refl
    go stay = refl
    go (stay_in n) = refl

pub referrer_run : (r : Referrer) (g : Guard) (s : Within) (ws : Row When) (rest : List Token)
    → reads (guard_read (owned (a_when s ws)) g) (referrer_words r rest) ≡ reads (when_read s ws g r) rest
unfolding steps guard_read referrer_words
referrer_run (move_to n) (just c) s ws rest = refl
referrer_run (run n) (just c) s ws rest = refl
referrer_run stay (just c) s ws rest = refl
referrer_run (stay_in n) (just c) s ws rest = refl
referrer_run (move_to n) (or g c) s ws rest = refl
referrer_run (run n) (or g c) s ws rest = refl
referrer_run stay (or g c) s ws rest = refl
referrer_run (stay_in n) (or g c) s ws rest = refl

-- a when behind others
when_run : (w : When) (ws : Row When) (s : Within) (rest : List Token)
    → reads (whens_read s ws) (when_words w rest) ≡ reads (when_read s ws w.guard w.referrer) rest
unfolding steps when_words
when_run w ws s rest =
    settled ws s when_word (guard_words w.guard (referrer_words w.referrer rest))
    ∙ (guard_run w.guard (owned (a_when s ws)) (referrer_words w.referrer rest) ∙ referrer_run w.referrer w.guard s ws rest)

whens_run : (ws : Row When) (s : Within) (rest : List Token) → reads (in_whens s none) (row_words when_words ws rest) ≡ reads (whens_read s ws) rest
unfolding row_words
whens_run none s rest = refl
whens_run (ws then w) s rest = whens_run ws s (when_words w rest) ∙ when_run w ws s rest

-- action clauses have been read
abbrev actions_read : Within → Row When → Row Action → At
actions_read s ws none = in_whens s ws
actions_read s ws (as' then a) = statements (body s ws as' a.command) a.body

action_run : (as' : Row Action) (s : Within) (ws : Row When) (rest : List Token)
    → reads (actions_read s ws as') (fixed action_word ∷ rest) ≡ reads (action_read s ws as') rest
unfolding steps
action_run none s ws rest = refl
action_run (as' then a) s ws rest = refl

state_run : (as' : Row Action) (s : Within) (ws : Row When) (rest : List Token)
    → reads (actions_read s ws as') (fixed state_word ∷ rest) ≡ reads (state_read s.class (s.earlier then state_of s ws as')) rest
unfolding steps
state_run none s ws rest = refl
state_run (as' then a) s ws rest = refl

end_run : (as' : Row Action) (s : Within) (ws : Row When)
    → reads (actions_read s ws as') (fixed end_word ∷ []) ≡ read (record { class = s.class; earlier = s.earlier; last = state_of s ws as' })
unfolding steps end_of
end_run none s ws = refl
end_run (as' then a) s ws = refl

actions_run : (as' : Row Action) (s : Within) (ws : Row When) (k : ℕ) (rest : List Token)
    → reads (whens_read s ws) (row_words action_words as' (fixed k ∷ rest)) ≡ reads (actions_read s ws as') (fixed k ∷ rest)
unfolding steps row_words action_words
actions_run none s ws k rest = settled ws s k rest
actions_run (as' then a) s ws k rest =
    actions_run as' s ws action_word (name a.command ∷ part_words a.body (fixed k ∷ rest))
    ∙ (action_run as' s ws (name a.command ∷ part_words a.body (fixed k ∷ rest))
    ∙ part_run a.body (body s ws as' a.command) (fixed k ∷ rest))

-- a state behind its word, up to a fixed word
one_state : (u : State) (c : Name) (ss : Row State) (k : ℕ) (rest : List Token)
    → reads (state_read c ss) (name u.own ∷ row_words when_words u.whens (row_words action_words u.actions (fixed k ∷ rest)))
    ≡ reads (actions_read (record { class = c; earlier = ss; own = u.own }) u.whens u.actions) (fixed k ∷ rest)
unfolding steps
one_state u c ss k rest =
    let s : Within = record { class = c; earlier = ss; own = u.own } in
    whens_run u.whens s (row_words action_words u.actions (fixed k ∷ rest)) ∙ actions_run u.actions s u.whens k rest

states_run : (ss : Row State) (c : Name) (rest : List Token)
    → reads (class_named c) (row_words state_words ss (fixed state_word ∷ rest)) ≡ reads (state_read c ss) rest
unfolding steps row_words state_words
states_run none c rest = refl
states_run (ss then u) c rest =
    states_run ss c (name u.own ∷ row_words when_words u.whens (row_words action_words u.actions (fixed state_word ∷ rest)))
    ∙ (one_state u c ss state_word rest ∙ state_run u.actions (record { class = c; earlier = ss; own = u.own }) u.whens rest)

-- the machine reads every text of the grammar
pub text_run : (t : Text) → reads start (text_words t) ≡ read t
unfolding steps text_words state_words
text_run t =
    let s : Within = record { class = t.class; earlier = t.earlier; own = t.last.own } in
    states_run t.earlier t.class (name t.last.own ∷ row_words when_words t.last.whens (row_words action_words t.last.actions (fixed end_word ∷ [])))
    ∙ (one_state t.last t.class t.earlier end_word [] ∙ end_run t.last.actions s t.last.whens)

-- (a) one tree for one list of words
pub one_tree : (t u : Text) → text_words t ≡ text_words u → t ≡ u
one_tree t u e =
    let p : read t ≡ read u = sym (text_run t) ∙ (ap (reads start) e ∙ text_run u) in
    cc
