use mathlib.Core.Path.{◌∙◌, ap}
use Rattle.std.specs.Prelude.{Option, Ok}
use Rattle.classfile.specs.declared.heads.Line.{Line}
use Rattle.classfile.specs.declared.heads.Used.{Used}
use Rattle.classfile.proofs.LoopLaws.{way_none, way_on, shorter, ends, is_over, is_bad}
use Rattle.classfile.proofs.heads.read_head.Goals as goal

pub loop-names-init : goal.loop-names-init
loop-names-init c = way_none _ _ _ _

pub returns-in-FileEnd : goal.returns-in-FileEnd
returns-in-FileEnd c = rw c.wrong_at.ensures (let both = ends _ _ _ _ _ _ _ _ c.loop-names.used _ _ _ _ c.loop-names.invariant c.next_field-field.ensures c.in-FileEnd.is in record { inside = both.0; head_read = both.1 })

pub loop-names-smaller : goal.loop-names-smaller
loop-names-smaller c = shorter _ _ _ _ _ c.next_field-field.ensures c.in_default.not-FileEnd

pub loop-names-preserved : goal.loop-names-preserved
loop-names-preserved c = way_on _ _ _ _ _ _ _ _ c.loop-names.used _ _ _ _ c.loop-names.invariant c.next_field-field.ensures c.in_default.not-FileEnd _ _ _ _ c.field_turn-turned.ensures _ _ (c.in-Ok-Some.is ∙ ap (λ (o : Option (Line × Used)). Ok o) (rw c.in-Ok-Some.is at c.in-Ok-Some.field-0-is)) (record { names = c.field_turn-turned.auto.names; commands = c.field_turn-turned.auto.commands; classes = c.field_turn-turned.auto.classes })

pub returns-in-Ok-None : goal.returns-in-Ok-None
returns-in-Ok-None c = let both = is_over _ _ _ _ _ _ _ _ c.loop-names.used _ _ _ _ c.loop-names.invariant c.next_field-field.ensures c.in_default.not-FileEnd _ _ _ _ c.field_turn-turned.ensures (c.in-Ok-None.is ∙ ap (λ (o : Option (Line × Used)). Ok o) (rw c.in-Ok-None.is at c.in-Ok-None.field-0-is)) in record { inside = both.0; head_read = both.1 }

pub returns-in-Err : goal.returns-in-Err
returns-in-Err c = rw c.wrong_at-in-Err.ensures (let both = is_bad _ _ _ _ _ _ _ _ c.loop-names.used _ _ _ _ c.loop-names.invariant c.next_field-field.ensures c.in_default.not-FileEnd _ _ _ _ c.field_turn-turned.ensures _ c.in-Err.is in record { inside = both.0; head_read = both.1 })
