-- The states of a text are those of its class.
-- Assumes nothing.
use Prim.Native.Nat.{ℕ, suc, ◌+◌}
use native.Mathlib.Omega.{arith}
use native.Mathlib.Nat.{mod-mod}
use mathlib.Core.Path.{◌≡◌, refl, sym, ◌∙◌, ap}
use mathlib.Core.Bool.{Bool, false}
use mathlib.Core.List.{List, [], ◌∷◌, map}
use lib.ListN.{length, length-replicate, length-map}
use Rattle.model.specs.Tree as M
use Rattle.grammar.specs.Grammar.{Token, fixed, Name, When, Action, State, Text, end_word, when_words, action_words, state_words, text_words}
use Rattle.grammar.specs.Kinds.{kind_of}
use Rattle.naming.specs.NameLists.{Lists}
use Rattle.naming.specs.Naming.{in_order, all_states, own_names, action_names, when_of, action_of, state_of, class_in}
use Rattle.naming.proofs.Rows.{list_words, state_as_lists, text_as_list}
use Rattle.encoding.specs.Encoding.{state_record, state_records}
use Rattle.encoding.specs.Numbers.{Every}
use Rattle.encoding.specs.Within.{Within}
use Rattle.whens.proofs.Passing.{other_kind, in_clause, in_when, in_part, Passes, clause_pass, when_pass, part_pass}
use Rattle.clauses.specs.Ahead.{number_ahead, whens_ahead, actions_ahead}
use Rattle.clauses.specs.Bodies.{state_as, states_from}
use Rattle.clauses.proofs.Fitting.{Countable, high_byte, all_countable}

-- what is neither counted nor an end is passed over
whens_pass : (P : ℕ → Bool) → P 2 ≡ false → P 7 ≡ false → Passes P (λ n ws. whens_ahead ws)
unfolding number_ahead
whens_pass P a b n w ws e = rw (other_kind P 2 (kind_of w) a e, other_kind P 7 (kind_of w) b e)

actions_pass : (P : ℕ → Bool) → P 2 ≡ false → P 3 ≡ false → Passes P (λ n ws. actions_ahead ws)
unfolding number_ahead
actions_pass P a b n w ws e = rw (other_kind P 2 (kind_of w) a e, other_kind P 3 (kind_of w) b e)

states_pass : (P : ℕ → Bool) → P 2 ≡ false → Passes P (λ n ws. states_from ws)
unfolding states_from
states_pass P a n w ws e = rw (other_kind P 2 (kind_of w) a e)

module _ (l : Lists) where
  -- when clauses: each is counted
  whens_whens : (xs : List When) (rest : List Token) → whens_ahead (list_words when_words xs rest) ≡ length xs + whens_ahead rest
  unfolding list_words when_words number_ahead kind_of
  whens_whens [] rest = omega arith
  whens_whens (x ∷ xs) rest =
      let e = clause_pass l (λ n ws. whens_ahead ws) (whens_pass in_clause refl refl) x 0 (list_words when_words xs rest) in
      let h = whens_whens xs rest in
      ap (λ (n : ℕ). n + 1) (e ∙ h) ∙ (let z : length xs + whens_ahead rest + 1 ≡ suc (length xs) + whens_ahead rest = omega arith in z)

  actions_whens : (xs : List When) (rest : List Token) → actions_ahead (list_words when_words xs rest) ≡ actions_ahead rest
  unfolding list_words
  actions_whens [] rest = refl
  actions_whens (x ∷ xs) rest = when_pass l (λ n ws. actions_ahead ws) (actions_pass in_when refl refl) x 0 (list_words when_words xs rest) ∙ actions_whens xs rest

  states_whens : (xs : List When) (rest : List Token) → states_from (list_words when_words xs rest) ≡ states_from rest
  unfolding list_words
  states_whens [] rest = refl
  states_whens (x ∷ xs) rest = when_pass l (λ n ws. states_from ws) (states_pass in_when refl) x 0 (list_words when_words xs rest) ∙ states_whens xs rest

  -- action clauses
  whens_actions : (xs : List Action) (rest : List Token) → whens_ahead (list_words action_words xs rest) ≡ whens_ahead rest
  unfolding list_words action_words number_ahead kind_of
  whens_actions [] rest = refl
  whens_actions (x ∷ xs) rest = part_pass l (λ n ws. whens_ahead ws) (whens_pass in_part refl refl) x.body 0 (list_words action_words xs rest) ∙ whens_actions xs rest

  actions_actions : (xs : List Action) (rest : List Token) → actions_ahead (list_words action_words xs rest) ≡ length xs + actions_ahead rest
  unfolding list_words action_words number_ahead kind_of
  actions_actions [] rest = omega arith
  actions_actions (x ∷ xs) rest =
      let e = part_pass l (λ n ws. actions_ahead ws) (actions_pass in_part refl refl) x.body 0 (list_words action_words xs rest) in
      ap (λ (n : ℕ). n + 1) (e ∙ actions_actions xs rest)
      ∙ (let z : length xs + actions_ahead rest + 1 ≡ suc (length xs) + actions_ahead rest = omega arith in z)

  states_actions : (xs : List Action) (rest : List Token) → states_from (list_words action_words xs rest) ≡ states_from rest
  unfolding list_words action_words states_from kind_of
  states_actions [] rest = refl
  states_actions (x ∷ xs) rest = part_pass l (λ n ws. states_from ws) (states_pass in_part refl) x.body 0 (list_words action_words xs rest) ∙ states_actions xs rest

  -- a state: what stands behind it ends its clauses
  pub record Ended (rest : List Token) : Type 0 where
    pub whens : whens_ahead rest ≡ 0
    pub actions : actions_ahead rest ≡ 0

  behind_states : (ss : List State) → Ended (list_words state_words ss (fixed end_word ∷ []))
  unfolding list_words state_words number_ahead kind_of
  behind_states [] = record { whens = refl; actions = refl }
  behind_states (s ∷ ss) = record { whens = refl; actions = refl }

  state_from : (s : State) (rest : List Token) → Ended rest
      → states_from (state_words s rest) ≡ state_as (length (in_order s.whens [])) (length (in_order s.actions [])) ∷ states_from rest
  unfolding states_from number_ahead kind_of
  state_from s rest e =
      let ws = in_order s.whens [] in
      let xs = in_order s.actions [] in
      let tail : List Token = list_words action_words xs rest in
      let W : whens_ahead (list_words when_words ws tail) ≡ length ws =
      whens_whens ws tail ∙ (ap (λ (n : ℕ). length ws + n) (whens_actions xs rest ∙ e.whens) ∙ (let z : length ws + 0 ≡ length ws = omega arith in z)) in
      let A : actions_ahead (list_words when_words ws tail) ≡ length xs =
      actions_whens ws tail ∙ (actions_actions xs rest ∙ (ap (λ (n : ℕ). length xs + n) e.actions ∙ (let z : length xs + 0 ≡ length xs = omega arith in z))) in
      let R : states_from (list_words when_words ws tail) ≡ states_from rest = states_whens ws tail ∙ states_actions xs rest in
      ap states_from (state_as_lists s rest) ∙ (λ i. state_as (W i) (A i) ∷ R i)

  -- the record of a state of so many clauses
  state_same : (s : M.State) (m n w a : ℕ) → m ≡ length s.whens → n ≡ length s.actions → Countable s → state_as m n ≡ state_record s w a
  unfolding state_as
  state_same s m n w a p q (h, k) =
      rw (length-replicate, length-replicate, p, q, mod-mod (length s.whens) 256, mod-mod (length s.actions) 256, high_byte (length s.whens) (omega arith), high_byte (length s.actions) (omega arith))

  states_listed : (own : List Name) (ss : List State) (w a : ℕ) → Every Countable (map (state_of l own) ss)
      → states_from (list_words state_words ss (fixed end_word ∷ [])) ≡ state_records (map (state_of l own) ss) w a
  unfolding list_words state_records state_of states_from kind_of
  states_listed own [] w a h = refl
  states_listed own (s ∷ ss) w a h =
      let S : M.State = state_of l own s in
      let ws = in_order s.whens [] in
      let xs = in_order s.actions [] in
      let r : state_as (length ws) (length xs) ≡ state_record S w a =
      state_same S (length ws) (length xs) w a (sym (length-map ws (when_of l own (action_names s)))) (sym (length-map xs (action_of l own))) h.0 in
      let q = states_listed own ss (w + length S.whens) (a + length S.actions) h.1 in
      state_from s (list_words state_words ss (fixed end_word ∷ [])) (behind_states ss) ∙ (λ i. r i ∷ q i)

-- a text
pub text_states : (l : Lists) (t : Text) → Within (class_in l t) → states_from (text_words t) ≡ state_records (class_in l t).states 0 0
unfolding class_in states_from kind_of
text_states l t w = ap states_from (text_as_list t) ∙ states_listed l (own_names t) (all_states t) 0 0 (all_countable (class_in l t) w)
