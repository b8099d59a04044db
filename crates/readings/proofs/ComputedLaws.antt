-- The computed answer is the answer.
-- Assumes nothing.
use Prim.Native.Nat.{ℕ}
use mathlib.Core.Path.{◌≡◌, refl, sym, ◌∙◌, ap}
use mathlib.Core.List.{List, [], ◌∷◌}
use mathlib.Core.Option.{Option, none, some}
use mathlib.Core.Logic.{inl, inr}
use Rattle.model.specs.Words.{maybe}
use Rattle.grammar.specs.Grammar.{Text}
use Rattle.grammar.specs.Words.{Word, words, tokens}
use Rattle.grammar.specs.Machine as Machine
use Rattle.grammar.specs.Reading.{Says}
use Rattle.grammar.proofs.Complete.{text_run}
use Rattle.grammar.proofs.Reached.{Reached, tokens_append, reached_none, reached_next, reached_stuck, reached_end}
use Rattle.readings.specs.Readings.{Lent, wrong, Outcome, unwritten, Answers}
use Rattle.readings.specs.Computed.{at_end, over, computed}
use Rattle.readings.proofs.RowLaws.{one_of_each}

-- behind the last word the machine has read the text's tree
ended : (b : List ℕ) (s : Machine.At) (t : Text) → Reached b [] s → Says b t → Machine.end_of s ≡ Machine.read t
unfolding Machine.reads tokens
ended b s t r says =
    sym (ap (Machine.reads Machine.start) (ap tokens r.split ∙ tokens_append r.passed []) ∙ r.reaches [])
    ∙ (ap (Machine.reads Machine.start) (sym says) ∙ text_run t)

over_answers : (q : Lent) (ws : List Word) (s : Machine.At) → Reached q.text ws s → Answers q (over q s ws)
unfolding over at_end
over_answers q [] s r = let (t, says) = reached_end q.text s r in inr (t, says, ap (at_end q) (ended q.text s t r says))
over_answers q (w ∷ ws) s r = go (Machine.next (Machine.moves s) w.token) refl (λ t. over_answers q ws t)
  where
    go : (a : Option Machine.At) → Machine.next (Machine.moves s) w.token ≡ a → ((t : Machine.At) → Reached q.text ws t → Answers q (over q t ws))
        → Answers q (maybe a (λ _. unwritten q (wrong w.start)) (λ t. over q t ws))
    go none e k = inl (w.start, reached_stuck q.text w ws s r e, refl)
    go (some t) e k = k t (reached_next q.text w ws s t r e)

pub computed_answers : (q : Lent) → Answers q (computed q)
unfolding computed
computed_answers q = over_answers q (words q.text) Machine.start (reached_none q.text)

-- so whatever is the answer is the computed one
pub answer_computed : (q : Lent) (o : Outcome) → Answers q o → o ≡ computed q
answer_computed q o a = one_of_each.one_answer q o (computed q) a (computed_answers q)
