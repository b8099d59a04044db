-- Statements as they are written, and their records, computed from the bytes of the text.
-- Assumes nothing.
use Prim.Native.String.{String}
use mathlib.Core.Path.{◌≡◌, refl}
use mathlib.Core.Bool.{false}
use mathlib.Core.List.{List, [], ◌∷◌, ◌++◌}
use Rattle.grammar.specs.Words.{spelled}
use Rattle.naming.specs.NameLists.{padded, records_in}
use Rattle.encoding.specs.Records.{Eight, four, eight, zeros, pair}
use Rattle.whens.proofs.Worked.{writing}
use Rattle.statements.specs.Statements.{count_after, depth_after, part_ahead, else_size, on_after, kin_ahead, statement_ahead, statements_from, number_of, statements_left}

-- commands STOP and GO, child classes K and L
unfoldable pub records_of : String → List Eight
records_of text =
    statements_left (spelled text) (padded (spelled "STOP") ++ padded (spelled "GO"))
    (padded (spelled "K") ++ (1 ∷ 0 ∷ 0 ∷ 0 ∷ []) ++ padded (spelled "L") ++ (1 ∷ 0 ∷ 0 ∷ 0 ∷ [])) false 0 0

-- the ifs' guards are 6 and 7; an else-part of one; statements behind a move_to; the do and the move_to of when clauses are none
pub worked : records_of "class: $FWPART_$TOP$T state: A when $ANY$K in_state P and not ($ALL$K in_state Q) move_to B when $ANY$K in_state P do GO when $ALL$FwCHILDREN not_in_state {P,Q} stay_in_state B action: STOP do STOP $ALL$K if $ANY$K in_state P then move_to B if $ANY$K in_state Q then do GO $ALL$FwCHILDREN endif else move_to A endif do GO $ALL$L action: GO state: B when $ANY$L in_state Q move_to A action: STOP if $ANY$K in_state P then else endif"
    ≡ eight (four 0 0 0 0) zeros ∷ eight (four 2 0 6 0) (pair 3 1) ∷ eight (four 1 1 0 0) zeros ∷ eight (four 2 0 7 0) (pair 1 0) ∷ eight (four 0 1 255 0) zeros
    ∷ eight (four 1 0 0 0) zeros ∷ eight (four 0 1 1 0) zeros ∷ eight (four 2 0 9 0) (pair 0 0) ∷ []
unfolding writing records_of padded records_in number_of count_after depth_after part_ahead else_size on_after kin_ahead statement_ahead statements_from
worked = refl
