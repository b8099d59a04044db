-- What `judged` promises says what the judge promises: so one answer is left of it, too (`one_verdict`).
-- Assumes nothing.
use Prim.Native.Nat.{ℕ}
use mathlib.Core.Path.{◌≡◌, refl, ap}
use mathlib.Core.List.{List}
use denote.Ref.{Bor}
use Rattle.std.specs.Prelude.{Result, Ok, Err, IfOk, IfErr}
use Rattle.model.specs.declared.Refusal.{Refusal}
use Rattle.sheet.specs.Verdict.{Verdict, verdict, verdict_numbers, outcome}
use Rattle.accepted.specs.declared.held.Sheet.{Sheet}

-- the places of the sheet that is held, or the refusal
abbrev pub places_in : Result Sheet Refusal → Verdict
places_in (Ok s) = Ok s.places
places_in (Err x) = Err x

pub judged_verdict : (b : Bor (List ℕ)) (r : Result Sheet Refusal) → IfOk r (λ s. s.bytes ≡ b) → IfErr r (λ x. verdict_numbers (Err x) ≡ verdict b.now)
    → verdict_numbers (places_in r) ≡ verdict b.now
unfolding verdict
judged_verdict b (Ok s) h k = rw (← h, s.stands.accepted, s.stands.places) refl
judged_verdict b (Err x) h k = k
