-- What stands before the machine's place: the words that have been read. Each move adds its word.
-- Assumes nothing.
use Prim.Native.Nat.{ℕ}
use native.Mathlib.Omega.{arith}
use mathlib.Core.Path.{◌≡◌, refl, sym, ◌∙◌, subst}
use mathlib.Core.Bool.{Bool, true, false}
use mathlib.Core.List.{List, [], ◌∷◌}
use mathlib.Core.Option.{Option, some}
use lib.Dec.{eqb}
use borrow.Author.Tests.{eqb-true}
use Rattle.model.specs.Words.{choose, maybe}
use Rattle.grammar.specs.Grammar.{Token, fixed, name, Name, class_word, state_word, action_word, top_word, all_word, when_word, move_word, do_word, stay_word, if_word, then_word, else_word, and_word, or_word, not_word, open_word, close_word, left_word, comma_word, end_word, Row, none, ◌then◌, single, braces, Guard, Conj, Operand, not, brackets, stay, When, Part, Action, Text, row_words, kin_words, names_words, set_words, quantifier_word, side_word, guard_words, conj_words, operand_words, referrer_words, when_words, part_words, action_words, state_words, text_words}
use Rattle.grammar.specs.Machine.{Within, list_of, body, then_part, else_part, Owner, a_when, an_if, guard_in, owned, bracket, conj_in, first, after_or, operand_in, first_of, after_and, after_not, atom_in, At, start, class_read, top_read, class_named, state_read, in_whens, operand_wanted, kin_wanted, side_wanted, set_wanted, left_read, comma_read, names_read, operand_read, move_read, do_read, stay_read, action_read, statements, send_read, command_read, send_all_read, go_read, finished, Move, on, on_name, filled, outer, whole, owner_moves, closing_moves, action_moves, when_moves, ending_moves, atom_of, moves, answer, next, read, refused, end_of, reads}

pub clash : ◌≡◌ {A = ℕ} 0 1 → ⊥
clash z = omega arith

-- the words before a place, in front of any others

unfoldable pub within_words : Within → List Token → List Token
within_words s rest =
    fixed class_word ∷ fixed top_word ∷ name s.class ∷ row_words state_words s.earlier (fixed state_word ∷ name s.own ∷ rest)

unfoldable pub list_words : list_of → List Token → List Token
list_words (body s ws as' c) rest = within_words s (row_words when_words ws (row_words action_words as' (fixed action_word ∷ name c ∷ rest)))
list_words (then_part l p g) rest = list_words l (part_words p (fixed if_word ∷ guard_words g (fixed then_word ∷ rest)))
list_words (else_part l p g q) rest =
    list_words l (part_words p (fixed if_word ∷ guard_words g (fixed then_word ∷ part_words q (fixed else_word ∷ rest))))

unfoldable pub owner_words : Owner → List Token → List Token
owner_words (a_when s ws) rest = within_words s (row_words when_words ws (fixed when_word ∷ rest))
owner_words (an_if l p) rest = list_words l (part_words p (fixed if_word ∷ rest))

unfoldable mutual
  pub guard_in_words : guard_in → List Token → List Token
  guard_in_words (owned o) rest = owner_words o rest
  guard_in_words (bracket h) rest = operand_in_words h (fixed open_word ∷ rest)

  pub conj_in_words : conj_in → List Token → List Token
  conj_in_words (first h) rest = guard_in_words h rest
  conj_in_words (after_or h g) rest = guard_in_words h (guard_words g (fixed or_word ∷ rest))

  pub operand_in_words : operand_in → List Token → List Token
  operand_in_words (first_of h) rest = conj_in_words h rest
  operand_in_words (after_and h c) rest = conj_in_words h (conj_words c (fixed and_word ∷ rest))
  operand_in_words (after_not h) rest = operand_in_words h (fixed not_word ∷ rest)

unfoldable pub atom_in_words : atom_in → List Token → List Token
atom_in_words a rest = operand_in_words a.place (fixed (quantifier_word a.quantifier) ∷ kin_words a.kin (fixed (side_word a.side) ∷ rest))

unfoldable pub before : At → List Token → List Token
before start rest = rest
before class_read rest = fixed class_word ∷ rest
before top_read rest = fixed class_word ∷ fixed top_word ∷ rest
before (class_named c) rest = fixed class_word ∷ fixed top_word ∷ name c ∷ rest
before (state_read c ss) rest = fixed class_word ∷ fixed top_word ∷ name c ∷ row_words state_words ss (fixed state_word ∷ rest)
before (in_whens s ws) rest = within_words s (row_words when_words ws rest)
before (operand_wanted h) rest = operand_in_words h rest
before (kin_wanted h q) rest = operand_in_words h (fixed (quantifier_word q) ∷ rest)
before (side_wanted h q k) rest = operand_in_words h (fixed (quantifier_word q) ∷ kin_words k rest)
before (set_wanted a) rest = atom_in_words a rest
before (left_read a) rest = atom_in_words a (fixed left_word ∷ rest)
before (comma_read a ns) rest = atom_in_words a (fixed left_word ∷ names_words ns (fixed comma_word ∷ rest))
before (names_read a ns) rest = atom_in_words a (fixed left_word ∷ names_words ns rest)
before (operand_read h c) rest = conj_in_words h (conj_words c rest)
before (move_read s ws g) rest = owner_words (a_when s ws) (guard_words g (fixed move_word ∷ rest))
before (do_read s ws g) rest = owner_words (a_when s ws) (guard_words g (fixed do_word ∷ rest))
before (stay_read s ws g) rest = owner_words (a_when s ws) (guard_words g (fixed stay_word ∷ rest))
before (action_read s ws as') rest = within_words s (row_words when_words ws (row_words action_words as' (fixed action_word ∷ rest)))
before (statements l p) rest = list_words l (part_words p rest)
before (send_read l p) rest = list_words l (part_words p (fixed do_word ∷ rest))
before (command_read l p c) rest = list_words l (part_words p (fixed do_word ∷ name c ∷ rest))
before (send_all_read l p c) rest = list_words l (part_words p (fixed do_word ∷ name c ∷ fixed all_word ∷ rest))
before (go_read l p) rest = list_words l (part_words p (fixed move_word ∷ rest))
before (finished t) rest =
    fixed class_word ∷ fixed top_word ∷ name t.class ∷ row_words state_words t.earlier (state_words t.last (fixed end_word ∷ rest))

-- a move adds its word
unfoldable pub Adds : At → Move → Type 0
Adds s (on k t) = (rest : List Token) → before t rest ≡ before s (fixed k ∷ rest)
Adds s (on_name f) = (n : Name) (rest : List Token) → before (f n) rest ≡ before s (name n ∷ rest)

unfoldable pub All-add : At → List Move → Type 0
All-add s [] = Unit {0}
All-add s (m ∷ ms) = Adds s m × All-add s ms

-- an operand read stands behind what was before it
pub filled_words : (h : operand_in) (u : Operand) (rest : List Token) → before (filled h u) rest ≡ operand_in_words h (operand_words u rest)
unfolding before filled operand_in_words conj_words
filled_words (first_of h) u rest = refl
filled_words (after_and h c) u rest = refl
filled_words (after_not h) u rest = filled_words h (not u) rest

-- a conj read ends its guard
pub whole_words : (h : conj_in) (c : Conj) (rest : List Token) → conj_in_words h (conj_words c rest) ≡ guard_in_words (outer h) (guard_words (whole h c) rest)
unfolding conj_in_words guard_words
whole_words (first h) c rest = refl
whole_words (after_or h g) c rest = refl

-- every move of every place adds its word

action_right : (s : Within) (ws : Row When) (as' : Row Action) (t : At)
    → ((rest : List Token) → before t rest ≡ within_words s (row_words when_words ws (row_words action_words as' rest)))
    → All-add t (action_moves s ws as')
unfolding All-add Adds action_moves before within_words row_words state_words
action_right s ws as' t e =
    ((λ rest. sym (e (fixed action_word ∷ rest))), ((λ rest. sym (e (fixed state_word ∷ rest))), ((λ rest. sym (e (fixed end_word ∷ rest))), tt)))

when_right : (s : Within) (ws : Row When) (t : At) → ((rest : List Token) → before t rest ≡ within_words s (row_words when_words ws rest))
    → All-add t (when_moves s ws)
unfolding All-add Adds when_moves before owner_words operand_in_words row_words
when_right s ws t e = ((λ rest. sym (e (fixed when_word ∷ rest))), action_right s ws none t e)

owner_right : (o : Owner) (g : Guard) (t : At) → ((rest : List Token) → before t rest ≡ owner_words o (guard_words g rest)) → All-add t (owner_moves o g)
unfolding All-add Adds owner_moves before owner_words list_words part_words
owner_right (a_when s ws) g t e =
    ((λ rest. sym (e (fixed move_word ∷ rest))), ((λ rest. sym (e (fixed do_word ∷ rest))), ((λ rest. sym (e (fixed stay_word ∷ rest))), tt)))
owner_right (an_if l p) g t e = ((λ rest. sym (e (fixed then_word ∷ rest))), tt)

closing_right : (h : guard_in) (g : Guard) (t : At) → ((rest : List Token) → before t rest ≡ guard_in_words h (guard_words g rest)) → All-add t (closing_moves h g)
unfolding All-add Adds closing_moves guard_in_words operand_words
closing_right (owned o) g t e = owner_right o g t e
closing_right (bracket h) g t e = ((λ rest. filled_words h (brackets g) rest ∙ sym (e (fixed close_word ∷ rest))), tt)

ending_right : (l : list_of) (p : Part) → All-add (statements l p) (ending_moves l p)
unfolding All-add Adds ending_moves before list_words part_words row_words action_words
ending_right (body s ws as' c) p = action_right s ws (as' then record { command = c; body = p }) (statements (body s ws as' c) p) (λ rest. refl)
ending_right (then_part l p g) q = ((λ rest. refl), ((λ rest. refl), tt))
ending_right (else_part l p g q) r = ((λ rest. refl), tt)

pub all_right : (s : At) → All-add s (moves s)
unfolding All-add Adds moves before within_words row_words operand_in_words quantifier_word side_word kin_words atom_in_words names_words set_words owner_words list_words part_words operand_words when_words referrer_words
all_right start = ((λ rest. refl), tt)
all_right class_read = ((λ rest. refl), tt)
all_right top_read = ((λ n rest. refl), tt)
all_right (class_named c) = ((λ rest. refl), tt)
all_right (state_read c ss) = ((λ n rest. refl), tt)
all_right (in_whens s ws) = when_right s ws (in_whens s ws) (λ rest. refl)
all_right (operand_wanted h) = ((λ rest. refl), ((λ rest. refl), ((λ rest. refl), ((λ rest. refl), tt))))
all_right (kin_wanted h q) = ((λ rest. refl), ((λ n rest. refl), tt))
all_right (side_wanted h q k) = ((λ rest. refl), ((λ rest. refl), tt))
all_right (set_wanted a) = ((λ n rest. filled_words a.place (atom_of a (single n)) rest), ((λ rest. refl), tt))
all_right (left_read a) = ((λ n rest. refl), tt)
all_right (comma_read a ns) = ((λ n rest. refl), tt)
all_right (names_read a ns) = ((λ rest. refl), ((λ rest. filled_words a.place (atom_of a (braces ns)) rest), tt))
all_right (operand_read h c) = (
  (λ rest. refl),
  (
    (λ rest. sym (whole_words h c (fixed or_word ∷ rest))),
    closing_right (outer h) (whole h c) (operand_read h c) (λ rest. whole_words h c rest),
  ),
)
all_right (move_read s ws g) = ((λ n rest. refl), tt)
all_right (do_read s ws g) = ((λ n rest. refl), tt)
all_right (stay_read s ws g) =
    ((λ n rest. refl), when_right s (ws then record { guard = g; referrer = stay }) (stay_read s ws g) (λ rest. refl))
all_right (action_read s ws as') = ((λ n rest. refl), tt)
all_right (statements l p) = ((λ rest. refl), ((λ rest. refl), ((λ rest. refl), ending_right l p)))
all_right (send_read l p) = ((λ n rest. refl), tt)
all_right (command_read l p c) = ((λ rest. refl), tt)
all_right (send_all_read l p c) = ((λ rest. refl), ((λ n rest. refl), tt))
all_right (go_read l p) = ((λ n rest. refl), tt)
all_right (finished t) = tt

-- so a step adds its word
answer_adds : (s : At) (m : Move) (w : Token) (t : At) → Adds s m → answer m w ≡ some t → (rest : List Token) → before t rest ≡ before s (w ∷ rest)
unfolding Adds answer
answer_adds s (on k u) (name n) t h e rest = absurd (clash (cc))
answer_adds s (on_name f) (fixed j) t h e rest = absurd (clash (cc))
answer_adds s (on_name f) (name n) t h e rest = let p : f n ≡ t = cc in subst (λ x. before x rest ≡ before s (name n ∷ rest)) p (h n rest)
answer_adds s (on k u) (fixed j) t h e rest = go (eqb j k) refl e
  where
    go : (b : Bool) → eqb j k ≡ b → choose b (λ _. some u) (λ _. Option.none) ≡ some t → before t rest ≡ before s (fixed j ∷ rest)
    go false p q = absurd (clash (cc))
    go true p q =
        let a : u ≡ t = cc in
        let b : k ≡ j = sym (eqb-true j k p) in
        subst (λ x. before x rest ≡ before s (fixed j ∷ rest)) a (subst (λ i. before u rest ≡ before s (fixed i ∷ rest)) b (h rest))

step_adds : (s : At) (ms : List Move) → All-add s ms → (w : Token) (t : At) → next ms w ≡ some t → (rest : List Token) → before t rest ≡ before s (w ∷ rest)
unfolding All-add next
step_adds s [] r w t e rest = absurd (clash (cc))
step_adds s (m ∷ ms) r w t e rest = go (answer m w) refl e (λ q. step_adds s ms r.1 w t q rest)
  where
    go : (a : Option At) → answer m w ≡ a → maybe a (λ _. next ms w) some ≡ some t → (next ms w ≡ some t → before t rest ≡ before s (w ∷ rest))
        → before t rest ≡ before s (w ∷ rest)
    go Option.none p q k = k q
    go (some u) p q k = answer_adds s m w t r.0 (p ∙ q) rest

-- only the place behind the end gives a text
pub end_words : (s : At) (t : Text) → end_of s ≡ read t → text_words t ≡ before s []
unfolding end_of before text_words
end_words start t e = absurd (clash (cc))
end_words class_read t e = absurd (clash (cc))
end_words top_read t e = absurd (clash (cc))
end_words (class_named c) t e = absurd (clash (cc))
end_words (state_read c ss) t e = absurd (clash (cc))
end_words (in_whens s ws) t e = absurd (clash (cc))
end_words (operand_wanted h) t e = absurd (clash (cc))
end_words (kin_wanted h q) t e = absurd (clash (cc))
end_words (side_wanted h q k) t e = absurd (clash (cc))
end_words (set_wanted a) t e = absurd (clash (cc))
end_words (left_read a) t e = absurd (clash (cc))
end_words (comma_read a ns) t e = absurd (clash (cc))
end_words (names_read a ns) t e = absurd (clash (cc))
end_words (operand_read h c) t e = absurd (clash (cc))
end_words (move_read s ws g) t e = absurd (clash (cc))
end_words (do_read s ws g) t e = absurd (clash (cc))
end_words (stay_read s ws g) t e = absurd (clash (cc))
end_words (action_read s ws as') t e = absurd (clash (cc))
end_words (statements l p) t e = absurd (clash (cc))
end_words (send_read l p) t e = absurd (clash (cc))
end_words (command_read l p c) t e = absurd (clash (cc))
end_words (send_all_read l p c) t e = absurd (clash (cc))
end_words (go_read l p) t e = absurd (clash (cc))
end_words (finished u) t e = let p : u ≡ t = cc in subst (λ x. text_words x ≡ before (finished u) []) p refl

-- what the machine reads is written with the words that it read
pub reads_words : (s : At) (ws : List Token) (t : Text) → reads s ws ≡ read t → text_words t ≡ before s ws
unfolding reads
reads_words s [] t e = end_words s t e
reads_words s (w ∷ ws) t e = go (next (moves s) w) refl e (λ u. reads_words u ws t)
  where
    go : (a : Option At) → next (moves s) w ≡ a → maybe a (λ _. refused (w ∷ ws)) (λ u. reads u ws) ≡ read t
        → ((u : At) → reads u ws ≡ read t → text_words t ≡ before u ws) → text_words t ≡ before s (w ∷ ws)
    go Option.none p q k = absurd (clash (cc))
    go (some u) p q k = k u q ∙ step_adds s (moves s) (all_right s) w u p ws
