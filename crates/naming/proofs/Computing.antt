-- One name that opens every definition of the naming, and what it rests on, so that a closed question computes: `unfolding computing`.
-- Assumes nothing.
use Rattle.model.specs.Words.{some_in, each}
use Rattle.grammar.specs.Grammar.{text_words, state_words, when_words, action_words, part_words, referrer_words, row_words, guard_words, kin_words, set_words, names_words, quantifier_word, side_word}
use Rattle.grammar.specs.Machine.{reads, end_of}
use Rattle.grammar.proofs.Worked.{wording}
use Rattle.encoding.proofs.Computing.{computing as computing_encoding}
use Rattle.naming.specs.NameLists.{padded, characters, record_right, records_in, none_twice, list_right, class_sets, bits_named, lists_right, lists_within, number_in, listed_in}
use Rattle.naming.specs.Naming.{in_order, all_states, own_names, action_names, names_set, set_of, pattern_of, kind_of, guard_of, part_of, referrer_of, when_of, action_of, state_of, class_in, joined, table_of}
use Rattle.naming.specs.Known.{among, names_known, set_known, kin_known, guard_known, part_known, referrer_known, when_known, action_known, state_known, text_known}

unfoldable pub computing : Unit {0}
unfolding some_in each text_words state_words when_words action_words part_words referrer_words row_words guard_words kin_words set_words names_words quantifier_word side_word reads end_of wording computing_encoding padded characters record_right records_in none_twice list_right class_sets bits_named lists_right lists_within number_in listed_in in_order all_states own_names action_names names_set set_of pattern_of kind_of guard_of part_of referrer_of when_of action_of state_of class_in joined table_of among names_known set_known kin_known guard_known part_known referrer_known when_known action_known state_known text_known
computing = tt
