-- The record of a statement, by its kind and the words ahead of it.
-- Assumes nothing.
use Prim.Native.Nat.{ℕ, ◌/◌}
use mathlib.Core.Path.{◌≡◌, ◌∙◌, ap}
use mathlib.Core.Bool.{Bool, true, false}
use mathlib.Core.List.{List, [], ◌∷◌}
use lib.ListN.{drop}
use borrow.Author.Tests.{ne_eqb, eq-eqb}
use Rattle.grammar.specs.Grammar.{Name}
use Rattle.grammar.specs.Kinds.{bytes_of, token_as}
use Rattle.words.specs.Scanning.{tokens_from, stretch, end_kind, Next}
use Rattle.words.proofs.Turns.{turn, last, kind_as}
use Rattle.encoding.specs.Records.{Four, four, eight, zeros, fours, eights}
use Rattle.pen.specs.Writing.{Puts}
use Rattle.pen.proofs.Puts.{puts_on}
use Rattle.own.specs.Ahead.{first_bytes}
use Rattle.whens.specs.Ahead.{low4, low8}
use Rattle.whens.specs.Naming.{NameAhead}
use Rattle.whens.specs.Whens.{own_number}
use Rattle.whens.proofs.AheadLaws.{front}
use Rattle.statements.specs.Statements.{on_after, kin_ahead, move_ahead, do_ahead, if_ahead, statement_ahead, number_of, statement_at}
use Rattle.statements.specs.Parts.{else_at, PartEnds}

-- behind an action: statements stand, behind a state: none
pub on_action : (on : Bool) (k : ℕ) → k ≡ 3 → true ≡ on_after on k
unfolding on_after
on_action on k e = rw (eq-eqb k 3 e)

pub on_state : (on : Bool) (k : ℕ) → (k ≡ 3 → ⊥) → k ≡ 2 → false ≡ on_after on k
unfolding on_after
on_state on k e f = rw (ne_eqb k 3 e, eq-eqb k 2 f)

pub on_other : (on : Bool) (k : ℕ) → (k ≡ 3 → ⊥) → (k ≡ 2 → ⊥) → on ≡ on_after on k
unfolding on_after
on_other on k e f = rw (ne_eqb k 3 e, ne_eqb k 2 f)

-- the two halves of a record
pub halves_put : (f b : Four) {before middle after : List ℕ} {at i r : ℕ} → Puts (fours (low4 f ∷ [])) before at middle i → Puts (fours (low4 b ∷ [])) middle i after r
    → Puts (eights (low8 (eight f b) ∷ [])) before at after r
unfolding fours eights
halves_put f b p q = puts_on p q

-- the kin that is next
module _ (text : List ℕ) (class : Name → ℕ) (at k start end : ℕ) (N : Next text at k start end) where
  pub kin_everyone : k ≡ 20 → 255 ≡ kin_ahead class (tokens_from text at)
  unfolding kin_ahead
  kin_everyone e = rw (front text at k start end N, kind_as k (stretch text start end), eq-eqb k 20 e)

  pub kin_named : (k ≡ 20 → ⊥) → (from to r : ℕ) → NameAhead text at from to → r ≡ class (stretch text from to) → r ≡ kin_ahead class (tokens_from text at)
  unfolding kin_ahead first_bytes
  kin_named e from to r A h =
      let F = front text at k start end N in
      let b : stretch text from to ≡ bytes_of (token_as k (stretch text start end)) = A.bytes ∙ ap first_bytes F in
      h ∙ (ap class b ∙ rw (F, kind_as k (stretch text start end), ne_eqb k 20 e))

  -- behind two words
  pub kin_short : k ≡ end_kind → 0 ≡ kin_ahead class (drop 2 (tokens_from text at))
  unfolding kin_ahead
  kin_short e = rw (last text at k start end N e)

  module _ (h : k ≡ end_kind → ⊥) (j from to : ℕ) (O : Next text end j from to) where
    pub kin_cut : j ≡ end_kind → 0 ≡ kin_ahead class (drop 2 (tokens_from text at))
    unfolding kin_ahead
    kin_cut e = rw (turn text at k start end N h, last text end j from to O e)

    pub kin_third : (j ≡ end_kind → ⊥) → (r : ℕ) → r ≡ kin_ahead class (tokens_from text to) → r ≡ kin_ahead class (drop 2 (tokens_from text at))
    kin_third e r p = p ∙ rw (turn text at k start end N h, turn text end j from to O e)

-- the records of the three statements
module _ (text : List ℕ) (here : ℕ) (before after : List ℕ) (at r : ℕ) where
  pub move_put : (start end own : ℕ) → NameAhead text here start end → own ≡ own_number text (stretch text start end)
      → Puts (eights (low8 (eight (four 1 own 0 0) zeros) ∷ [])) before at after r → Puts (eights (move_ahead (own_number text) (tokens_from text here) ∷ [])) before at after r
  move_put start end own A e p = rw (← A.bytes, ← e) p

  pub do_put : (commands classes : List ℕ) (start end command pattern : ℕ) → NameAhead text here start end → command ≡ number_of 32 commands (stretch text start end)
      → pattern ≡ kin_ahead (number_of 36 classes) (drop 2 (tokens_from text here))
      → Puts (eights (low8 (eight (four 0 command pattern 0) zeros) ∷ [])) before at after r
      → Puts (eights (do_ahead (number_of 32 commands) (number_of 36 classes) (tokens_from text here) ∷ [])) before at after r
  do_put commands classes start end command pattern A e f p = rw (← A.bytes, ← e, ← f) p

  pub if_put : (n a k e b : ℕ) → PartEnds text here a k e → b ≡ else_at text k e
      → Puts (eights (low8 (eight (four 2 0 n (n / 256)) (four a (a / 256) b (b / 256))) ∷ [])) before at after r → Puts (eights (if_ahead n (tokens_from text here) ∷ [])) before at after r
  if_put n a k e b P h p = rw (← P.counted, P.other, ← h) p

  -- by its kind
  module _ (commands classes : List ℕ) (k n : ℕ) where
    abbrev Due : Type 0
    Due = Puts (eights (statement_at text commands classes here n k ∷ [])) before at after r

    pub as_move : k ≡ 8 → Puts (eights (move_ahead (own_number text) (tokens_from text here) ∷ [])) before at after r → Due
    unfolding statement_ahead
    as_move e p = rw (eq-eqb k 8 e) p

    pub as_do : (k ≡ 8 → ⊥) → k ≡ 9 → Puts (eights (do_ahead (number_of 32 commands) (number_of 36 classes) (tokens_from text here) ∷ [])) before at after r → Due
    unfolding statement_ahead
    as_do e f p = rw (ne_eqb k 8 e, eq-eqb k 9 f) p

    pub as_if : (k ≡ 8 → ⊥) → (k ≡ 9 → ⊥) → Puts (eights (if_ahead n (tokens_from text here) ∷ [])) before at after r → Due
    unfolding statement_ahead
    as_if e f p = rw (ne_eqb k 8 e, ne_eqb k 9 f) p
