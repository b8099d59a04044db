-- The machine on its way through the words of a text: what it has read, and what it knows where it stops.
-- Assumes nothing.
use Prim.Native.Nat.{ℕ}
use mathlib.Core.Path.{◌≡◌, refl, sym, ◌∙◌, ap}
use mathlib.Core.List.{List, [], ◌∷◌, ◌++◌}
use mathlib.Core.Option.{Option, none, some}
use Rattle.model.specs.Words.{maybe}
use Rattle.grammar.specs.Grammar.{Token, Text}
use Rattle.grammar.specs.Words.{Word, words, tokens}
use Rattle.grammar.specs.Machine.{At, start, moves, next, Outcome, read, refused, end_of, reads}
use Rattle.grammar.specs.Reading.{Says, WrongAt}
use Rattle.grammar.proofs.Machine.{reads_words, before}
use Rattle.grammar.proofs.Complete.{text_run}
use Rattle.grammar.proofs.Places.{completed, end_rest, wrong}
use Rattle.grammar.proofs.Ends.{some_word, last_word}

-- over the words before these the machine comes to the place
pub record Reached (b : List ℕ) (ws : List Word) (s : At) : Type 0 where
  pub passed : List Word
  pub split : words b ≡ passed ++ ws
  pub reaches : (zs : List Token) → reads start (tokens passed ++ zs) ≡ reads s zs

-- the tokens of words with others behind them
pub tokens_behind : (ws vs : List Word) (zs : List Token) → tokens (ws ++ vs) ++ zs ≡ tokens ws ++ (tokens vs ++ zs)
unfolding tokens
tokens_behind [] vs zs = refl
tokens_behind (w ∷ ws) vs zs = ap (◌∷◌ w.token) (tokens_behind ws vs zs)

pub tokens_append : (ws vs : List Word) → tokens (ws ++ vs) ≡ tokens ws ++ tokens vs
unfolding tokens
tokens_append [] vs = refl
tokens_append (w ∷ ws) vs = ap (◌∷◌ w.token) (tokens_append ws vs)

one_more : (ws : List Word) (w : Word) (vs : List Word) → ws ++ (w ∷ vs) ≡ (ws ++ (w ∷ [])) ++ vs
one_more [] w vs = refl
one_more (u ∷ ws) w vs = ap (◌∷◌ u) (one_more ws w vs)

pub reached_none : (b : List ℕ) → Reached b (words b) start
unfolding tokens
reached_none b = record { passed = []; split = refl; reaches = λ zs. refl }

reads_next : (s t : At) (w : Token) (zs : List Token) → next (moves s) w ≡ some t → reads s (w ∷ zs) ≡ reads t zs
unfolding reads
reads_next s t w zs e = rw e

pub reached_next : (b : List ℕ) (w : Word) (ws : List Word) (s t : At) → Reached b (w ∷ ws) s → next (moves s) w.token ≡ some t → Reached b ws t
unfolding tokens
reached_next b w ws s t r e =
    record {
      passed = r.passed ++ (w ∷ []);
      split = r.split ∙ one_more r.passed w ws;
      reaches = λ zs. ap (reads start) (tokens_behind r.passed (w ∷ []) zs) ∙ (r.reaches (w.token ∷ zs) ∙ reads_next s t w.token zs e);
    }

-- a word without a move is the word that is wrong: the place can be completed, and no text goes on with that word
pub reached_stuck : (b : List ℕ) (w : Word) (ws : List Word) (s : At) → Reached b (w ∷ ws) s → next (moves s) w.token ≡ none → WrongAt b w.start
unfolding before
reached_stuck b w ws s r e =
    let f = completed s in
    record {
      before = r.passed;
      word = w;
      behind = ws;
      split = r.split;
      starts = refl;
      text = f.text;
      rest = f.words;
      some_text = reads_words start (tokens r.passed ++ f.words) f.text (r.reaches f.words ∙ f.ends);
      no_text = λ t zs p. wrong s w.token zs t e (sym (r.reaches (w.token ∷ zs)) ∙ (ap (reads start) (sym p) ∙ text_run t));
    }

-- behind all its words a text has been read
pub reached_end : (b : List ℕ) (s : At) → Reached b [] s → (t : Text) × Says b t
unfolding reads before words tokens
reached_end b s r = go (end_of s) refl
  where
    whole : reads start (tokens (words b)) ≡ end_of s
    whole = ap (reads start) (ap tokens r.split ∙ tokens_append r.passed []) ∙ r.reaches []

    go : (o : Outcome) → end_of s ≡ o → (t : Text) × Says b t
    go (read t) e = (t, reads_words start (tokens (words b)) t (whole ∙ e))
    go (refused rest) e =
        let (ws, f) = last_word b 0 0 in
        absurd (some_word start ws (sym (ap (reads start) f) ∙ (whole ∙ (e ∙ ap refused (end_rest s rest e)))))

-- where the first word starts for which the machine has no move
unfoldable pub stuck_at : At → List Word → Option ℕ
stuck_at s [] = none
stuck_at s (w ∷ ws) = maybe (next (moves s) w.token) (λ _. some w.start) (λ t. stuck_at t ws)

-- what it says that there is such a word, and that there is none
unfoldable pub Settled : List ℕ → Option ℕ → Type 0
Settled b none = (t : Text) × Says b t
Settled b (some p) = WrongAt b p

pub settled : (b : List ℕ) (ws : List Word) (s : At) → Reached b ws s → Settled b (stuck_at s ws)
unfolding stuck_at Settled
settled b [] s r = reached_end b s r
settled b (w ∷ ws) s r = go (next (moves s) w.token) refl (λ t. settled b ws t)
  where
    go : (a : Option At) → next (moves s) w.token ≡ a → ((t : At) → Reached b ws t → Settled b (stuck_at t ws))
        → Settled b (maybe a (λ _. some w.start) (λ t. stuck_at t ws))
    go none e k = reached_stuck b w ws s r e
    go (some t) e k = k t (reached_next b w ws s t r e)
