-- Only the end leads behind the end; so of the words of a text a word is refused, and never the end of the list.
-- Assumes nothing.
use Prim.Native.Nat.{ℕ, zero, suc, ◌-◌}
use mathlib.Core.Path.{◌≡◌, refl, sym, ◌∙◌, ap}
use mathlib.Core.Bool.{Bool, true, false}
use mathlib.Core.List.{List, [], ◌∷◌, ◌++◌}
use mathlib.Core.Option.{Option, some}
use lib.Dec.{eqb}
use Rattle.model.specs.Words.{choose, maybe}
use Rattle.grammar.specs.Grammar.{Token, fixed, end_word, Row, none, ◌then◌, Guard, stay, When, Part, Action, Text}
use Rattle.grammar.specs.Machine.{Within, list_of, body, then_part, else_part, a_when, an_if, guard_in, owned, bracket, At, start, class_read, top_read, class_named, state_read, in_whens, operand_wanted, kin_wanted, side_wanted, set_wanted, left_read, comma_read, names_read, operand_read, move_read, do_read, stay_read, action_read, statements, send_read, command_read, send_all_read, go_read, finished, Move, on, on_name, outer, whole, owner_moves, closing_moves, action_moves, when_moves, ending_moves, moves, answer, next, refused, end_of, reads}
use Rattle.grammar.proofs.Machine.{clash}
use Rattle.grammar.specs.Words.{tokens, cut, word_at, end_at, white, word_length}

abbrev Closed : Move → Type 0
Closed (on k t) = eqb end_word k ≡ true → (u : Text) × (t ≡ finished u)
Closed (on_name f) = Unit {0}

unfoldable All-closed : List Move → Type 0
All-closed [] = Unit {0}
All-closed (m ∷ ms) = Closed m × All-closed ms

actions_closed : (s : Within) (ws : Row When) (as' : Row Action) → All-closed (action_moves s ws as')
unfolding All-closed action_moves
actions_closed s ws as' = ((λ e. absurd (clash (cc))), ((λ e. absurd (clash (cc))), ((λ e. (_, refl)), tt)))

whens_closed : (s : Within) (ws : Row When) → All-closed (when_moves s ws)
unfolding All-closed when_moves
whens_closed s ws = ((λ e. absurd (clash (cc))), actions_closed s ws none)

closing_closed : (h : guard_in) (g : Guard) → All-closed (closing_moves h g)
unfolding All-closed closing_moves owner_moves
closing_closed (owned (a_when s ws)) g = ((λ e. absurd (clash (cc))), ((λ e. absurd (clash (cc))), ((λ e. absurd (clash (cc))), tt)))
closing_closed (owned (an_if l p)) g = ((λ e. absurd (clash (cc))), tt)
closing_closed (bracket h) g = ((λ e. absurd (clash (cc))), tt)

ending_closed : (l : list_of) (p : Part) → All-closed (ending_moves l p)
unfolding All-closed ending_moves
ending_closed (body s ws as' c) p = actions_closed s ws (as' then record { command = c; body = p })
ending_closed (then_part l p g) q = ((λ e. absurd (clash (cc))), ((λ e. absurd (clash (cc))), tt))
ending_closed (else_part l p g q) r = ((λ e. absurd (clash (cc))), tt)

all_closed : (s : At) → All-closed (moves s)
unfolding All-closed moves
all_closed start = ((λ e. absurd (clash (cc))), tt)
all_closed class_read = ((λ e. absurd (clash (cc))), tt)
all_closed top_read = (tt, tt)
all_closed (class_named c) = ((λ e. absurd (clash (cc))), tt)
all_closed (state_read c ss) = (tt, tt)
all_closed (in_whens s ws) = whens_closed s ws
all_closed (operand_wanted h) = ((λ e. absurd (clash (cc))), ((λ e. absurd (clash (cc))), ((λ e. absurd (clash (cc))), ((λ e. absurd (clash (cc))), tt))))
all_closed (kin_wanted h q) = ((λ e. absurd (clash (cc))), (tt, tt))
all_closed (side_wanted h q k) = ((λ e. absurd (clash (cc))), ((λ e. absurd (clash (cc))), tt))
all_closed (set_wanted a) = (tt, ((λ e. absurd (clash (cc))), tt))
all_closed (left_read a) = (tt, tt)
all_closed (comma_read a ns) = (tt, tt)
all_closed (names_read a ns) = ((λ e. absurd (clash (cc))), ((λ e. absurd (clash (cc))), tt))
all_closed (operand_read h c) = ((λ e. absurd (clash (cc))), ((λ e. absurd (clash (cc))), closing_closed (outer h) (whole h c)))
all_closed (move_read s ws g) = (tt, tt)
all_closed (do_read s ws g) = (tt, tt)
all_closed (stay_read s ws g) = (tt, whens_closed s (ws then record { guard = g; referrer = stay }))
all_closed (action_read s ws as') = (tt, tt)
all_closed (statements l p) = ((λ e. absurd (clash (cc))), ((λ e. absurd (clash (cc))), ((λ e. absurd (clash (cc))), ending_closed l p)))
all_closed (send_read l p) = (tt, tt)
all_closed (command_read l p c) = ((λ e. absurd (clash (cc))), tt)
all_closed (send_all_read l p c) = ((λ e. absurd (clash (cc))), (tt, tt))
all_closed (go_read l p) = (tt, tt)
all_closed (finished t) = tt

-- the word of the end leads to a whole text
ended : (ms : List Move) → All-closed ms → (t : At) → next ms (fixed end_word) ≡ some t → (u : Text) × (t ≡ finished u)
unfolding All-closed next answer
ended [] r t e = absurd (clash (cc))
ended (m ∷ ms) r t e = go m r.0 (ended ms r.1 t) e
  where
    pick : (k : ℕ) (s : At) (b : Bool) → eqb end_word k ≡ b → (eqb end_word k ≡ true → (u : Text) × (s ≡ finished u)) → (next ms (fixed end_word) ≡ some t → (u : Text) × (t ≡ finished u))
        → maybe (choose b (λ _. some s) (λ _. Option.none)) (λ _. next ms (fixed end_word)) some ≡ some t → (u : Text) × (t ≡ finished u)
    pick k s true p c f e = let (u, q) = c p in let z : t ≡ s = cc in (u, z ∙ q)
    pick k s false p c f e = f e

    go : (m : Move) → Closed m → (next ms (fixed end_word) ≡ some t → (u : Text) × (t ≡ finished u)) → maybe (answer m (fixed end_word)) (λ _. next ms (fixed end_word)) some ≡ some t
        → (u : Text) × (t ≡ finished u)
    go (on k s) c f e = pick k s (eqb end_word k) refl c f (by_answer k s e)
      where
        by_answer : (k : ℕ) (s : At) → maybe (answer (on k s) (fixed end_word)) (λ _. next ms (fixed end_word)) some ≡ some t
            → maybe (choose (eqb end_word k) (λ _. some s) (λ _. Option.none)) (λ _. next ms (fixed end_word)) some ≡ some t
        by_answer k s e = e
    go (on_name n) c f e = f e

-- a list of words that ends with the end is never refused behind its last word
pub some_word : (s : At) (ws : List Token) → reads s (ws ++ (fixed end_word ∷ [])) ≡ refused [] → ⊥
unfolding reads end_of
some_word s [] e = go (next (moves s) (fixed end_word)) refl e
  where
    go : (a : Option At) → next (moves s) (fixed end_word) ≡ a → maybe a (λ _. refused (fixed end_word ∷ [])) (λ t. end_of t) ≡ refused [] → ⊥
    go Option.none p q = clash (cc)
    go (some t) p q = let (u, z) = ended (moves s) (all_closed s) t p in finished_read u (sym (ap end_of z) ∙ q)
      where
        finished_read : (u : Text) → end_of (finished u) ≡ refused [] → ⊥
        finished_read u q = clash (cc)
some_word s (w ∷ ws) e = go (next (moves s) w) refl e (λ t. some_word t ws)
  where
    go : (a : Option At) → next (moves s) w ≡ a → maybe a (λ _. refused (w ∷ (ws ++ (fixed end_word ∷ [])))) (λ t. reads t (ws ++ (fixed end_word ∷ []))) ≡ refused []
        → ((t : At) → reads t (ws ++ (fixed end_word ∷ [])) ≡ refused [] → ⊥) → ⊥
    go Option.none p q k = clash (cc)
    go (some t) p q k = k t q

-- the words of a text end with the end
pub last_word : (l : List ℕ) (k at : ℕ) → (ws : List Token) × (tokens (cut k at l) ≡ ws ++ (fixed end_word ∷ []))
unfolding cut tokens end_at
last_word [] k at = ([], refl)
last_word (b ∷ bs) (suc k) at = last_word bs k (suc at)
last_word (b ∷ bs) zero at = go (white b) (last_word bs 0 (suc at)) (last_word bs (word_length (b ∷ bs) - 1) (suc at))
  where
    n : ℕ
    n = word_length (b ∷ bs)

    go : (t : Bool) → (ws : List Token) × (tokens (cut 0 (suc at) bs) ≡ ws ++ (fixed end_word ∷ []))
        → (ws : List Token) × (tokens (cut (word_length (b ∷ bs) - 1) (suc at) bs) ≡ ws ++ (fixed end_word ∷ []))
        → (ws : List Token)
        × (tokens (choose t (λ _. cut 0 (suc at) bs) (λ _. word_at at (b ∷ bs) (word_length (b ∷ bs)) ∷ cut (word_length (b ∷ bs) - 1) (suc at) bs)) ≡ ws ++ (fixed end_word ∷ []))
    go true p q = p
    go false p q = let (ws, e) = q in ((word_at at (b ∷ bs) (word_length (b ∷ bs))).token ∷ ws, ap (◌∷◌ (word_at at (b ∷ bs) (word_length (b ∷ bs))).token) e)
