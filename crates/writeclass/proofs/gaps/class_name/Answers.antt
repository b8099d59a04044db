use Rattle.writeclass.proofs.Making.{moved}
use Rattle.writeclass.proofs.gaps.class_name.Goals as goal

pub is_class-requires : goal.is_class-requires
is_class-requires c = let h = c.next_field-field.ensures in (h.order, h.inside)

pub next_field-requires : goal.next_field-requires
next_field-requires c = c.next_field-field.ensures.inside

pub loop-field-smaller-then-is_class : goal.loop-field-smaller-then-is_class
loop-field-smaller-then-is_class c = moved _ _ _ _ _ c.next_field-field.ensures c.in_default.not-FileEnd

pub loop-field-preserved-then-is_class : goal.loop-field-preserved-then-is_class
loop-field-preserved-then-is_class c = c.next_field-field.ensures.inside

pub loop-field-smaller : goal.loop-field-smaller
loop-field-smaller c = moved _ _ _ _ _ c.next_field-field.ensures c.in_default.not-FileEnd

pub loop-field-preserved : goal.loop-field-preserved
loop-field-preserved c = c.next_field-field.ensures.inside
