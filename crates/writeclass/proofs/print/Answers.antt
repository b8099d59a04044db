use Rattle.classfile.proofs.PartLaws.{counted}
use Rattle.writeclass.proofs.Making.{text_inside}
use borrow.Author.Rules.{rules}
use Rattle.writeclass.proofs.print.Goals as goal

pub slice_bounds-write_all-count : goal.slice_bounds-write_all-count
slice_bounds-write_all-count c = let h = text_inside c.args.file.now c.args.text.now _ c.requires _ c.in-Ok.is in search rules

pub slice_bounds-write_all-start : goal.slice_bounds-write_all-start
slice_bounds-write_all-start c = let h = text_inside c.args.file.now c.args.text.now _ c.requires _ c.in-Ok.is in search rules

pub slice_bounds-write_all-end : goal.slice_bounds-write_all-end
slice_bounds-write_all-end c = let h = text_inside c.args.file.now c.args.text.now _ c.requires _ c.in-Ok.is in search rules

pub slice_bounds-write_all-end-in-Ok : goal.slice_bounds-write_all-end-in-Ok
slice_bounds-write_all-end-in-Ok c = counted _ _ (text_inside c.args.file.now c.args.text.now _ c.requires _ c.in-Ok.is).2
