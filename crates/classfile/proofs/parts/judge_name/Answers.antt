use Rattle.classfile.proofs.PartLaws.{found_listed, no_name, name_twice, no_room, name_fine}
use mathlib.Core.Path.{sym, ◌∙◌}
use Rattle.classfile.proofs.parts.judge_name.Goals as goal

pub returns-then-not-is_name : goal.returns-then-not-is_name
returns-then-not-is_name c = no_name _ _ _ _ (sym c.is_name.ensures ∙ c.if-not-is_name.true)

pub returns-then-is_some : goal.returns-then-is_some
returns-then-is_some c =
    name_twice _ _ _ _ (sym c.is_name.ensures ∙ c.if-not-is_name.false)
    (sym (found_listed _ _ _ c.number_in.ensures) ∙ (sym c.is_some.ensures ∙ c.if-is_some.true))

pub returns-then-left-size : goal.returns-then-left-size
returns-then-left-size c =
    no_room _ _ _ _ (sym c.is_name.ensures ∙ c.if-not-is_name.false)
    (sym (found_listed _ _ _ c.number_in.ensures) ∙ (sym c.is_some.ensures ∙ c.if-is_some.false)) c.if-left-size.true

pub returns : goal.returns
returns c =
    name_fine _ _ _ _ (sym c.is_name.ensures ∙ c.if-not-is_name.false)
    (sym (found_listed _ _ _ c.number_in.ensures) ∙ (sym c.is_some.ensures ∙ c.if-is_some.false)) c.if-left-size.false
