use Rattle.sheets.proofs.Assembling.{sheet_written}
use Rattle.sheets.proofs.write_sheet.Goals as goal

pub returns : goal.returns
returns c names t says known w e f =
    sheet_written _ names _ _ t _ _ says known w e f c.body_sizes.ensures c.write_contents-a.ensures c.write_classes-b.ensures
    c.write_states-c.ensures c.write_whens-d.ensures c.put_bytes-e.ensures c.write_actions-f.ensures
    c.write_statements.ensures
