-- When clauses as they are written, and their records, computed from the bytes of the text.
-- Assumes nothing.
use Prim.Native.String.{String}
use mathlib.Core.Path.{◌≡◌, refl}
use mathlib.Core.List.{List, [], ◌∷◌}
use Rattle.grammar.specs.Words.{spelled}
use Rattle.grammar.specs.Kinds.{kind_of, bytes_of}
use Rattle.grammar.proofs.Worked.{wording}
use Rattle.words.specs.Scanning.{words_from, tokens_from}
use Rattle.lists.specs.Lent.{found_from}
use Rattle.own.specs.Ahead.{first_bytes, names_ahead, names_from}
use Rattle.encoding.specs.Records.{Four, four}
use Rattle.whens.specs.Ahead.{guards_after}
use Rattle.whens.specs.Whens.{referrer_ahead, when_ahead, whens_from, own_number, whens_left}

unfoldable pub records_of : String → List Four
records_of text = whens_left (spelled text) 0 0

unfoldable pub writing : Unit {0}
unfolding wording kind_of bytes_of words_from tokens_from found_from first_bytes names_ahead names_from guards_after referrer_ahead when_ahead whens_from own_number records_of
writing = tt

-- MOVE_TO a state that stands behind; DO the second action of its state; STAY, with a state and without; guards of ifs count where they stand
pub worked : records_of "class: $FWPART_$TOP$T state: A when $ANY$K in_state P and not ($ALL$K in_state Q) move_to B when $ANY$K in_state P do GO when $ALL$FwCHILDREN not_in_state {P,Q} stay_in_state B action: STOP if $ANY$K in_state P or $ANY$K in_state Q then move_to B endif action: GO state: B when $ANY$L in_state Q move_to A when $ANY$L in_state Q stay_in_state when $ANY$L in_state Q do GO action: GO"
    ≡ four 0 0 0 1 ∷ four 4 0 1 1 ∷ four 5 0 2 0 ∷ four 9 0 0 0 ∷ four 10 0 2 0 ∷ four 11 0 1 0 ∷ []
unfolding writing
worked = refl
