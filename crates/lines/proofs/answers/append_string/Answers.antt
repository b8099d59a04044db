-- The empty field, or the space and the digits behind it.
-- Assumes nothing.
use Rattle.std.proofs.Common.{rules, tests}
use Rattle.texts.proofs.Appending.{appended_then, appended_same}
use Rattle.lines.proofs.LineLaws.{no_bytes, some_bytes}
use Rattle.lines.proofs.answers.append_string.Goals as goal

pub returns-then-is_empty : goal.returns-then-is_empty
returns-then-is_empty c = appended_same _ _ _ _ _ _ (no_bytes c.args.bytes.now (search (rules, tests))) c.append_empty.ensures

pub returns : goal.returns
returns c = appended_same _ _ _ _ _ _ (some_bytes c.args.bytes.now (search (rules, tests))) (appended_then _ _ _ _ _ _ _ _ c.append_byte-next.ensures c.append_hex.ensures)
