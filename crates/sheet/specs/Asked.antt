-- What is asked of a byte string offered as a sheet: its own refusal, 1 to 9, or what a question on its class gives.
-- Assumes nothing.
use Rattle.std.specs.Prelude.{ℕ, List, eqb}
use Rattle.model.specs.Tree.{Class}
use Rattle.model.specs.Replies.{Reply, check}
use Rattle.sheet.specs.Rules.{refusal}
use Rattle.sheet.specs.Reading.{class_of}

unfoldable pub on_sheet : {A : Type 0} → List ℕ → (Class → Reply A) → Reply A
on_sheet b rest = check (eqb (refusal b) 0) (refusal b) (λ _. rest (class_of b))
