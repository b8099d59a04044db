use Rattle.model.proofs.Words.{passed, not_passed}
use Rattle.classfile.proofs.PartLaws.{counted}
use Rattle.writeclass.proofs.Making.{own_long, own, not_own}
use mathlib.Core.Path.{ap}
use mathlib.Core.Bool.{not}
use Rattle.writeclass.proofs.converting.own_made.Goals as goal

pub returns-then-not-is_own : goal.returns-then-not-is_own
returns-then-not-is_own c = not_own _ _ _ _ _ _ _ c.requires.fits (not_passed c.is_own.ensures (ap not c.if-not-is_own.true)) _ _

pub slice_bounds-own-end : goal.slice_bounds-own-end
slice_bounds-own-end c = counted c.args.lists.classes.now _ (own_long _ _ _ _ c.requires.fits (passed c.is_own.ensures (ap not c.if-not-is_own.false)))

pub slice_bounds-own-end-2 : goal.slice_bounds-own-end-2
slice_bounds-own-end-2 c = counted _ _ c.requires.fits.names

pub returns : goal.returns
returns c = own _ _ _ _ _ _ _ c.requires.fits (passed c.is_own.ensures (ap not c.if-not-is_own.false)) _ _ c.second_made.ensures
