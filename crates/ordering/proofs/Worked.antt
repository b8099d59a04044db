-- Guards as they are written, and their records, computed from the bytes of the text.
-- Assumes nothing.
use Prim.Native.String.{String}
use mathlib.Core.Path.{◌≡◌, refl}
use mathlib.Core.List.{List, [], ◌∷◌, map}
use Rattle.model.specs.Words.{every, listed, has}
use Rattle.grammar.specs.Kinds.{kind_of}
use Rattle.grammar.specs.Words.{spelled, is_name, white, name_char, same, run_length, position, colon_run, fixed_words, bare_runs, run_end, dollar_length, word_length, token_of, word_at, end_at, cut, words, tokens}
use Rattle.naming.specs.NameLists.{padded, number_in}
use Rattle.encoding.specs.Records.{Eight}
use Rattle.encoding.specs.Encoding.{operator_record}
use Rattle.ordering.specs.Ordering.{run, inserted, atom_record, pattern_in, with_name, braced, set_ahead, side_ahead, atom_ahead, mark_of, turn, walked, in_prefix_order}

-- child states A, B, C, D and child classes K, L
unfoldable pub records_of : String → List Eight
records_of text =
    in_prefix_order (padded (spelled "A") ∷ padded (spelled "B") ∷ padded (spelled "C") ∷ padded (spelled "D") ∷ []) (padded (spelled "K") ∷ padded (spelled "L") ∷ [])
    (tokens (words (spelled text)))

unfoldable pub walking : Unit {0}
unfolding spelled is_name every listed has colon_run white name_char same run_length position fixed_words bare_runs run_end dollar_length word_length token_of word_at end_at cut words tokens padded number_in kind_of run inserted pattern_in with_name braced set_ahead side_ahead atom_ahead mark_of turn walked in_prefix_order records_of
walking = tt

-- the atoms $ANY$K in_state of these texts
abbrev in_a : Eight
in_a = atom_record 0 0 1

abbrev in_b : Eight
in_b = atom_record 0 0 2

abbrev in_c : Eight
in_c = atom_record 0 0 4

abbrev in_d : Eight
in_d = atom_record 0 0 8

abbrev and_of : Eight
and_of = operator_record 4

abbrev or_of : Eight
or_of = operator_record 5

abbrev not_of : Eight
not_of = operator_record 6

-- equals from the left
from_left : map records_of (
    "when $ANY$K in_state A and $ANY$K in_state B and $ANY$K in_state C"
    ∷ "when $ANY$K in_state A or $ANY$K in_state B or $ANY$K in_state C"
    ∷ "when $ANY$K in_state A and ($ANY$K in_state B and $ANY$K in_state C)"
    ∷ [])
    ≡ (and_of ∷ and_of ∷ in_a ∷ in_b ∷ in_c ∷ [])
    ∷ (or_of ∷ or_of ∷ in_a ∷ in_b ∷ in_c ∷ [])
    ∷ (and_of ∷ in_a ∷ and_of ∷ in_b ∷ in_c ∷ [])
    ∷ []
unfolding walking
from_left = refl

-- not before and, and before or
tightest_first : map records_of (
    "when not $ANY$K in_state A and $ANY$K in_state B or $ANY$K in_state C"
    ∷ "when $ANY$K in_state A or $ANY$K in_state B and not not $ANY$K in_state C"
    ∷ "when not ($ANY$K in_state A and $ANY$K in_state B) or $ANY$K in_state C"
    ∷ [])
    ≡ (or_of ∷ and_of ∷ not_of ∷ in_a ∷ in_b ∷ in_c ∷ [])
    ∷ (or_of ∷ in_a ∷ and_of ∷ in_b ∷ not_of ∷ not_of ∷ in_c ∷ [])
    ∷ (or_of ∷ not_of ∷ and_of ∷ in_a ∷ in_b ∷ in_c ∷ [])
    ∷ []
unfolding walking
tightest_first = refl

-- brackets only group
brackets_go : map records_of (
    "when ((((($ANY$K in_state A))) or (($ANY$K in_state B)))) and (((((((((((((((((($ANY$K in_state C))))))))))))))))))"
    ∷ "when ($ANY$K in_state A and ($ANY$K in_state B or $ANY$K in_state C)) and $ANY$K in_state D"
    ∷ [])
    ≡ (and_of ∷ or_of ∷ in_a ∷ in_b ∷ in_c ∷ [])
    ∷ (and_of ∷ and_of ∷ in_a ∷ or_of ∷ in_b ∷ in_c ∷ in_d ∷ [])
    ∷ []
unfolding walking
brackets_go = refl

-- each guard is its own, and a do has none
each_its_own : records_of
    "when $ANY$K in_state A and $ANY$K in_state B do X action: X do Y $ALL$L if not $ANY$K in_state C or $ANY$K in_state D then do Y $ALL$FwCHILDREN endif"
    ≡ and_of ∷ in_a ∷ in_b ∷ or_of ∷ not_of ∷ in_c ∷ in_d ∷ []
unfolding walking
each_its_own = refl

-- the atoms: quantifier and side, kin, and a set in which a name counts once
atoms : map records_of (
    "when $ANY$L in_state B" ∷ "when $ANY$L not_in_state B" ∷ "when $ALL$L in_state B" ∷ "when $ALL$L not_in_state B" ∷ "when $ANY$FwCHILDREN in_state {C}"
    ∷ "when $ALL$K in_state {D, A, D, A, B}" ∷ [])
    ≡ (atom_record 0 1 2 ∷ []) ∷ (atom_record 1 1 2 ∷ []) ∷ (atom_record 2 1 2 ∷ []) ∷ (atom_record 3 1 2 ∷ []) ∷ (atom_record 0 255 4 ∷ [])
    ∷ (atom_record 2 0 11 ∷ []) ∷ []
unfolding walking
atoms = refl
