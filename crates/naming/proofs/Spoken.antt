-- Every name of a text is a name: the words of a byte string are fixed words and names, and the words of a text are its names and fixed words.
-- Assumes nothing.
use Prim.Native.Nat.{ℕ, zero, suc, ◌-◌}
use mathlib.Core.Path.{◌≡◌, refl, sym, subst}
use mathlib.Core.Bool.{Bool, true, false}
use mathlib.Core.List.{List, [], ◌∷◌}
use lib.Dec.{ltb}
use lib.ListN.{take}
use Rattle.model.specs.Words.{choose}
use Rattle.grammar.specs.Grammar.{Token, fixed, name, foreign_word, Row, none, ◌then◌, Kin, children, kin, Names, one, more, Set, single, braces, Guard, just, or, Conj, only, and, Operand, not, brackets, atom, Referrer, move_to, run, stay, stay_in, When, Part, nothing, send, go_to, if_then, if_else, Action, State, Text, row_words, kin_words, names_words, set_words, guard_words, conj_words, operand_words, referrer_words, when_words, part_words, action_words, state_words, text_words}
use Rattle.grammar.specs.Words.{white, is_name, position, fixed_words, word_length, token_of, word_at, end_at, cut, words, tokens}
use Rattle.grammar.specs.Reading.{Says}
use Rattle.encoding.specs.Numbers.{Every}
use Rattle.naming.specs.Naming.{in_order, all_states}

-- a word that is a name, as a name is
abbrev pub Named : Token → Type 0
Named (fixed k) = Unit {0}
Named (name n) = is_name n ≡ true

-- the words of a byte string are such
token_named : (w : List ℕ) → Named (token_of w)
unfolding token_of
token_named w = go (ltb (position fixed_words w) 25) (is_name w) refl
  where
    go : (f n : Bool) → is_name w ≡ n → Named (choose f (λ _. fixed (position fixed_words w)) (λ _. choose n (λ _. name w) (λ _. fixed foreign_word)))
    go true n e = tt
    go false true e = e
    go false false e = tt

cut_named : (l : List ℕ) (k at : ℕ) → Every Named (tokens (cut k at l))
unfolding cut tokens end_at word_at
cut_named [] k at = (tt, tt)
cut_named (b ∷ bs) (suc k) at = cut_named bs k (suc at)
cut_named (b ∷ bs) zero at =
    go (white b) (cut_named bs zero (suc at)) (cut_named bs (word_length (b ∷ bs) - 1) (suc at))
  where
    go : (t : Bool) → Every Named (tokens (cut zero (suc at) bs)) → Every Named (tokens (cut (word_length (b ∷ bs) - 1) (suc at) bs))
        → Every Named (tokens (choose t (λ _. cut zero (suc at) bs) (λ _. word_at at (b ∷ bs) (word_length (b ∷ bs)) ∷ cut (word_length (b ∷ bs) - 1) (suc at) bs)))
    go true p q = p
    go false p q = (token_named (take (word_length (b ∷ bs)) (b ∷ bs)), q)

pub words_named : (b : List ℕ) → Every Named (tokens (words b))
unfolding words
words_named b = cut_named b 0 0

-- what holds of every word of a part of the text and behind it holds of those behind it
module _ (P : Token → Type 0) where
  kin_past : (k : Kin) (rest : List Token) → Every P (kin_words k rest) → Every P rest
  unfolding kin_words
  kin_past children rest h = h.1
  kin_past (kin n) rest h = h.1

  names_past : (ns : Names) (rest : List Token) → Every P (names_words ns rest) → Every P rest
  unfolding names_words
  names_past (one n) rest h = h.1
  names_past (more ns n) rest h = (names_past ns _ h).1.1

  set_past : (t : Set) (rest : List Token) → Every P (set_words t rest) → Every P rest
  unfolding set_words
  set_past (single n) rest h = h.1
  set_past (braces ns) rest h = (names_past ns _ h.1).1

  mutual
    unfolding guard_words

    guard_past : (g : Guard) (rest : List Token) → Every P (guard_words g rest) → Every P rest
    guard_past (just c) rest h = conj_past c rest h
    guard_past (or g c) rest h = conj_past c rest (guard_past g _ h).1

    conj_past : (c : Conj) (rest : List Token) → Every P (conj_words c rest) → Every P rest
    conj_past (only u) rest h = operand_past u rest h
    conj_past (and c u) rest h = operand_past u rest (conj_past c _ h).1

    operand_past : (u : Operand) (rest : List Token) → Every P (operand_words u rest) → Every P rest
    operand_past (not u) rest h = operand_past u rest h.1
    operand_past (brackets g) rest h = (guard_past g _ h.1).1
    operand_past (atom q k s t) rest h = set_past t rest (kin_past k _ h.1).1

  referrer_past : (r : Referrer) (rest : List Token) → Every P (referrer_words r rest) → Every P rest
  unfolding referrer_words
  referrer_past (move_to n) rest h = h.1.1
  referrer_past (run n) rest h = h.1.1
  referrer_past stay rest h = h.1
  referrer_past (stay_in n) rest h = h.1.1

  when_past : (w : When) (rest : List Token) → Every P (when_words w rest) → Every P rest
  unfolding when_words
  when_past w rest h = referrer_past w.referrer rest (guard_past w.guard _ h.1)

  part_past : (p : Part) (rest : List Token) → Every P (part_words p rest) → Every P rest
  unfolding part_words
  part_past nothing rest h = h
  part_past (send p c k) rest h = kin_past k rest (part_past p _ h).1.1.1
  part_past (go_to p s) rest h = (part_past p _ h).1.1
  part_past (if_then p g q) rest h = (part_past q _ (guard_past g _ (part_past p _ h).1).1).1
  part_past (if_else p g q r) rest h = (part_past r _ (part_past q _ (guard_past g _ (part_past p _ h).1).1).1).1

  -- of rows: the words of each entry tell Q of it
  module _ {A : Type 0} (f : A → List Token → List Token) (Q : A → Type 0)
      (tells : (x : A) (rest : List Token) → Every P (f x rest) → Q x × Every P rest) where
    row_past : (xs : Row A) (rest : List Token) → Every P (row_words f xs rest) → Every P rest
    unfolding row_words
    row_past none rest h = h
    row_past (xs then x) rest h = (tells x rest (row_past xs _ h)).1

    row_tells : (xs : Row A) (rest : List Token) (ys : List A) → Every P (row_words f xs rest) → Every Q ys → Every Q (in_order xs ys)
    unfolding row_words in_order
    row_tells none rest ys h k = k
    row_tells (xs then x) rest ys h k = row_tells xs _ (x ∷ ys) h ((tells x rest (row_past xs _ h)).0, k)

  -- of a state: its name and its actions' names
  abbrev pub Spoken : State → Type 0
  Spoken s = P (name s.own) × Every (λ (a : Action). P (name a.command)) (in_order s.actions [])

  when_tells : (w : When) (rest : List Token) → Every P (when_words w rest) → Unit {0} × Every P rest
  when_tells w rest h = (tt, when_past w rest h)

  action_tells : (a : Action) (rest : List Token) → Every P (action_words a rest) → P (name a.command) × Every P rest
  unfolding action_words
  action_tells a rest h = (h.1.0, part_past a.body rest h.1.1)

  state_tells : (s : State) (rest : List Token) → Every P (state_words s rest) → Spoken s × Every P rest
  unfolding state_words
  state_tells s rest h =
      let k = row_past when_words (λ _. Unit {0}) when_tells s.whens _ h.1.1 in (
        (h.1.0, row_tells action_words (λ (a : Action). P (name a.command)) action_tells s.actions rest [] k tt),
        row_past action_words (λ (a : Action). P (name a.command)) action_tells s.actions rest k,
      )

  text_tells : (t : Text) → Every P (text_words t) → Every Spoken (all_states t)
  unfolding text_words all_states
  text_tells t h =
      let k = row_past state_words Spoken state_tells t.earlier _ h.1.1.1 in
      row_tells state_words Spoken state_tells t.earlier _ (t.last ∷ []) h.1.1.1 ((state_tells t.last _ k).0, tt)

-- every state of a text and every action of it has a name that is one
pub states_named : (b : List ℕ) (t : Text) → Says b t → Every (Spoken Named) (all_states t)
states_named b t e = text_tells Named t (subst (Every Named) (sym e) (words_named b))
