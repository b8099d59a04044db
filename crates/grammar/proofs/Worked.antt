-- Worked examples: where texts go wrong, one that does not, and which runs are names.
-- Assumes nothing.
use Prim.Native.Nat.{ℕ}
use Prim.Native.String.{String}
use mathlib.Core.Path.{◌≡◌, refl, sym, subst}
use mathlib.Core.Bool.{true, not}
use mathlib.Core.List.Memᴰ
use mathlib.Core.List.{List, [], ◌∷◌, ◌++◌, map, Memᴰ}
use mathlib.Core.Option.{Option, none, some}
use mathlib.Core.Logic.{◌⊎◌, inl, inr}
use lib.ListN.{length}
use Rattle.model.specs.Words.{every, keep, listed}
use Rattle.grammar.specs.Grammar.{Text}
use Rattle.grammar.specs.Words.{spelled, is_name, white, name_char, same, run_length, position, colon_run, fixed_words, bare_runs, run_end, dollar_length, word_length, token_of, word_at, end_at, cut, words, tokens}
use Rattle.grammar.specs.Machine.{start}
use Rattle.grammar.specs.Reading.{Says, WrongAt}
use Rattle.grammar.proofs.Complete.{steps}
use Rattle.grammar.proofs.Reached.{reached_none, stuck_at, Settled, settled}

-- where a text goes wrong, if it does
unfoldable pub place_of : List ℕ → Option ℕ
place_of text = stuck_at start (words text)

-- one name that opens all that is computed here
unfoldable pub wording : Unit {0}
unfolding spelled is_name every listed colon_run white name_char same run_length position fixed_words bare_runs run_end dollar_length word_length token_of word_at end_at cut words tokens stuck_at place_of steps
wording = tt

-- the bytes that are white space, and those that are name characters
pub bytes_apart : (keep white (listed 0 256 (λ i. i)) ≡ 9 ∷ 10 ∷ 13 ∷ 32 ∷ [])
    × (keep name_char (listed 0 256 (λ i. i)) ≡ spelled "0123456789ABCDEFGHIJKLMNOPQRSTUVWXYZ_abcdefghijklmnopqrstuvwxyz")
unfolding wording keep
bytes_apart = (refl, refl)

-- the runs that are no names
pub reserved : every (λ (s : String). not (is_name (spelled s)))
    ("class" ∷ "state" ∷ "action" ∷ "when" ∷ "move_to" ∷ "do" ∷ "stay_in_state" ∷ "if" ∷ "then" ∷ "else" ∷ "endif" ∷ "and" ∷ "or" ∷ "not" ∷ "in_state" ∷ "not_in_state"
    ∷ "FwCHILDREN" ∷ "FWPART_" ∷ "TOP" ∷ "ANY" ∷ "ALL" ∷ []) ≡ true
unfolding wording
reserved = refl

-- and runs that look like them and are names, the last one of 31 characters
pub near_misses : every (λ (s : String). is_name (spelled s))
    ("When" ∷ "any" ∷ "classes" ∷ "empty" ∷ "wait" ∷ "in_states" ∷ "do_" ∷ "FwCHILDREN_" ∷ "0" ∷ "_" ∷ "abcdefghijklmnopqrstuvwxyz01234" ∷ []) ≡ true
unfolding wording
near_misses = refl

-- no run of none or 32 characters is a name, nor one with a byte that is no name character
pub no_names : every (λ (s : String). not (is_name (spelled s))) ("" ∷ "abcdefghijklmnopqrstuvwxyz012345" ∷ "A-B" ∷ "A B" ∷ "class:" ∷ "$ANY$" ∷ "(" ∷ []) ≡ true
unfolding wording
no_names = refl

pub record Example : Type 0 where
  pub text : List ℕ
  pub place : ℕ

abbrev at : String → ℕ → Example
at s p = record { text = spelled s; place = p }

-- texts that go wrong, each with its place
unfoldable pub wrong_texts : List Example
wrong_texts =
    at "" 0
    ∷ at "class: $FWPART_$TOP$X " 22
    ∷ at "class: $FWPART_$TOP$X sta" 22
    ∷ at "class: $FWPART_$TOP$X state A" 22
    ∷ at "class: $FWPART_$TOP X state: A" 7
    ∷ at "class: $FWPART_$TOP$X state: when" 29
    ∷ at "class: $FWPART_$TOP$X state: A-B" 30
    ∷ at "class: $FWPART_$TOP$X state: A class: $FWPART_$TOP$Y state: B" 31
    ∷ at "class: $FWPART_$TOP$X state: A when $any$K in_state P" 36
    ∷ at "class: $FWPART_$TOP$X state: A when $ANY$K in_state {P,}" 55
    ∷ at "class: $FWPART_$TOP$X state: A when ( $ANY$K in_state P move_to A" 56
    ∷ at "class: $FWPART_$TOP$X state: A when $ANY$K in_state P ) move_to A" 54
    ∷ at "class: $FWPART_$TOP$X state: A action: go when $ANY$K in_state P move_to A" 42
    ∷ at "class: $FWPART_$TOP$X state: A action: go do stop $ANY$K" 50
    ∷ at "class: $FWPART_$TOP$X state: A action: go if $ANY$K in_state P then else else endif" 73
    ∷ at "class: $FWPART_$TOP$X state: abcdefghijklmnopqrstuvwxyz012345" 29
    ∷ record { text = spelled "class:" ++ (11 ∷ spelled "$FWPART_$TOP$X state: A"); place = 6 }
    ∷ []

computed : map (λ (e : Example). place_of e.text) wrong_texts ≡ map (λ (e : Example). some e.place) wrong_texts
unfolding wording wrong_texts
computed = refl

each_computed : (es : List Example) → map (λ (e : Example). place_of e.text) es ≡ map (λ (e : Example). some e.place) es → (e : Example) → Memᴰ e es
    → place_of e.text ≡ some e.place
each_computed [] h e m = absurd (Memᴰ.not-nil m)
each_computed (x ∷ xs) h e m = go (Memᴰ.cases_cons m) (each_computed xs (cc) e)
  where
    go : (e ≡ x) ⊎ Memᴰ e xs → (Memᴰ e xs → place_of e.text ≡ some e.place) → place_of e.text ≡ some e.place
    go (inl p) k = let h : place_of x.text ≡ some x.place = cc in subst (λ (y : Example). place_of y.text ≡ some y.place) (sym p) h
    go (inr n) k = k n

-- each of these texts goes wrong there
pub wrong_there : (e : Example) → Memᴰ e wrong_texts → WrongAt e.text e.place
unfolding place_of Settled
wrong_there e m =
    subst (Settled e.text) (each_computed wrong_texts computed e m) (settled e.text (words e.text) start (reached_none e.text))

-- the text of the press with two states
unfoldable pub press : List ℕ
press = spelled "class: $FWPART_$TOP$PRESS\n  state: READY\n    when ( $ANY$HEATER not_in_state HOT ) move_to HOLD\n  state: HOLD\n    when ( $ANY$HEATER in_state HOT ) move_to READY\n"

press_fine : (place_of press ≡ none) × (length (words press) ≡ 26)
unfolding wording press
press_fine = (refl, refl)

-- it is a text of the grammar
pub press_says : (t : Text) × Says press t
unfolding place_of Settled
press_says = subst (Settled press) press_fine.0 (settled press (words press) start (reached_none press))
