-- The six questions on a sheet, over bytes: which refusal or answer each gets, and what its lent buffer holds afterwards.
-- Assumes nothing.
use Rattle.std.specs.Prelude.{ℕ, List, [], leb, ltb}
use Rattle.model.specs.Tree.{Class}
use Rattle.model.specs.Node.{own_states, Probed, probe, Phase, phase}
use Rattle.model.specs.Commands.{Commanded, command_then_phase}
use Rattle.model.specs.Replies.{Reply, give, check, told_as}
use Rattle.sheet.specs.Asked.{on_sheet}
use Rattle.children.specs.ChildList.{children_of, list_right}
use Rattle.commands.specs.Handling.{reply_commanded}
use Rattle.phases.specs.Phasing.{reply_phase}
use Rattle.configurations.specs.LoopAnswer.{Loops}
use Rattle.loops.specs.LoopQuestion.{reply_loop}
use Rattle.writings.specs.Layout.{Named}
use Rattle.writings.specs.Writings.{reply_text}

-- a sheet; beside it the child list, the asked state, the asked command, the present classes, the names, the lent buffer
pub data Question : Type 0 where
  judge : List ℕ → Question
  probe_in : List ℕ → List ℕ → ℕ → Question
  phase_from : List ℕ → List ℕ → ℕ → List ℕ → Question
  command_in : List ℕ → List ℕ → ℕ → ℕ → List ℕ → Question
  loop_with : List ℕ → ℕ → List ℕ → Question
  text_of : List ℕ → Named → List ℕ → Question

pub data Answer : Type 0 where
  accepted : Answer
  probed : Probed → Answer
  phased : Phase → Answer
  commanded : Commanded → Answer
  looped : Loops → Answer
  wrote : ℕ → Answer

-- 10 and 11: the child list and the asked state, behind the sheet's own refusals
unfoldable pub placed : {A : Type 0} → List ℕ → List ℕ → ℕ → (Class → Reply A) → Reply A
placed b l q rest = on_sheet b λ c. check (list_right c l) 10 λ _. check (ltb q (own_states c)) 11 λ _. rest c

-- 12 and 15: the asked command, and the room for what it and the when phase behind it send
unfoldable pub reply_command : Class → List ℕ → ℕ → ℕ → List ℕ → Reply Commanded
reply_command c l q m out = check (leb m 63) 12 λ _. reply_commanded (command_then_phase c (children_of l) q m) out

unfoldable pub reply : Question → Reply Answer
reply (judge b) = on_sheet b λ c. give accepted []
reply (probe_in b l q) = placed b l q λ c. give (probed (probe c (children_of l) q)) []
reply (phase_from b l q out) = placed b l q λ c. told_as phased (reply_phase (phase c (children_of l) q) out)
reply (command_in b l q m out) = placed b l q λ c. told_as commanded (reply_command c l q m out)
reply (loop_with b present out) = on_sheet b λ c. told_as looped (reply_loop c present out)
reply (text_of b n out) = on_sheet b λ c. told_as wrote (reply_text n c out)

-- the lent buffer before the call; none is lent to the judge and the probe
abbrev pub lent : Question → List ℕ
lent (judge b) = []
lent (probe_in b l q) = []
lent (phase_from b l q out) = out
lent (command_in b l q m out) = out
lent (loop_with b present out) = out
lent (text_of b n out) = out
