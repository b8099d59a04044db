use Rattle.kinds.proofs.Laws.{too_short, too_long, other_bytes, some_fixed, none_fixed, fixed_word, name_by_runs}
use mathlib.Core.Path.{sym, ◌∙◌}
use Rattle.kinds.proofs.is_name.Goals as goal

pub returns-then-word-lt1 : goal.returns-then-word-lt1
returns-then-word-lt1 c = sym (too_short _ c.if-word-lt1.true)

pub returns-then-word-gt31 : goal.returns-then-word-gt31
returns-then-word-gt31 c = sym (too_long _ c.if-word-gt31.true)

pub returns-then-not-all_name_chars : goal.returns-then-not-all_name_chars
returns-then-not-all_name_chars c = sym (other_bytes _ (sym c.all_name_chars.ensures ∙ c.if-not-all_name_chars.true))

pub returns-then-is_some : goal.returns-then-is_some
returns-then-is_some c = sym (fixed_word _ (some_fixed _ _ c.fixed_number.ensures (sym c.is_some.ensures ∙ c.if-is_some.true)))

pub returns : goal.returns
returns c =
    name_by_runs _ c.if-word-lt1.false c.if-word-gt31.false (sym c.all_name_chars.ensures ∙ c.if-not-all_name_chars.false)
    (none_fixed _ _ c.fixed_number.ensures (sym c.is_some.ensures ∙ c.if-is_some.false)) _ c.is_plain.ensures
