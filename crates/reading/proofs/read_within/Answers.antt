-- `read_within` meets its contract: a buffer is too short, or all is written.
-- Assumes nothing.
use Rattle.reading.proofs.Answering.{short_sheet, short_table, all_read}
use Rattle.reading.proofs.read_within.Goals as goal

pub returns-then-sheet-length : goal.returns-then-sheet-length
returns-then-sheet-length c = short_sheet _ _ _ _ c.sheet_length-length.ensures c.if-sheet-length.true

pub returns-then-table-table_length : goal.returns-then-table-table_length
returns-then-table-table_length c = short_table _ _ _ _ c.sheet_length-length.ensures _ c.table_length.ensures c.if-table-table_length.true

pub returns : goal.returns
returns c = all_read _ _ _ _ c.sheet_length-length.ensures _ c.table_length.ensures _ _ _ _ c.if-sheet-length.false c.if-table-table_length.false c.write_sheet.ensures c.write_table.ensures
