use Rattle.classfile.proofs.PartLaws.{counted}
use Rattle.readclass.proofs.converting.lists_made.Goals as goal

pub slice_bounds-filled-end : goal.slice_bounds-filled-end
slice_bounds-filled-end c = counted _ _ c.requires.fits.names

pub slice_bounds-filled-end-2 : goal.slice_bounds-filled-end-2
slice_bounds-filled-end-2 c = counted _ _ c.requires.fits.commands

pub slice_bounds-filled-end-3 : goal.slice_bounds-filled-end-3
slice_bounds-filled-end-3 c = counted _ _ c.requires.fits.classes
