-- Laws about specs/Asked.antt: what the judge's verdict says of every question on a sheet.
-- Assumes nothing.
use Prim.Native.Nat.{ℕ, ◌≤◌}
use native.Mathlib.Omega.{arith}
use mathlib.Core.Path.{◌≡◌}
use mathlib.Core.List.{List}
use borrow.Author.Tests.{eq-eqb, ne_eqb}
use Rattle.std.specs.Prelude.{Ok, Err}
use Rattle.model.specs.Tree.{Class}
use Rattle.model.specs.Refusals.{number_of}
use Rattle.model.specs.declared.Refusal.{Refusal}
use Rattle.model.specs.Replies.{Reply, refuse}
use Rattle.sheet.specs.Rules.{refusal, Accepted}
use Rattle.sheet.specs.Reading.{class_of}
use Rattle.sheet.specs.Verdict.{Verdict, verdict_numbers, verdict, Stands}
use Rattle.sheet.specs.Asked.{on_sheet}
use Rattle.sheet.specs.declared.judging.Places.{Places}
use Rattle.sheet.proofs.VerdictLaws.{told_accepted, told_refused}

-- a sheet that is refused gets its number, whatever is asked; one that is accepted is asked
pub refused_first : {A : Type 0} (b : List ℕ) (rest : Class → Reply A) (n : ℕ) → n ≡ refusal b → 1 ≤ n → on_sheet b rest ≡ refuse n
unfolding on_sheet
refused_first b rest n e l = rw (← e, ne_eqb n 0 (λ z. let w : n ≡ 0 = z in omega arith))

pub asked : {A : Type 0} (b : List ℕ) (rest : Class → Reply A) → Accepted b → on_sheet b rest ≡ rest (class_of b)
unfolding on_sheet
asked b rest a = rw (eq-eqb (refusal b) 0 a)

-- the judge accepted: the sheet stands
pub stands : (b : List ℕ) (r : Verdict) → verdict_numbers r ≡ verdict b → (p : Places) → r ≡ Ok p → Stands b p
stands b r e p f = let (a, w) = told_accepted b r e p f in record { accepted = a; places = w }

-- the judge refused: so does the question, whatever it is
pub refused_too : {A : Type 0} (b : List ℕ) (r : Verdict) → verdict_numbers r ≡ verdict b → (x : Refusal) → r ≡ Err x → (rest : Class → Reply A)
    → on_sheet b rest ≡ refuse (number_of x)
refused_too b r e x f rest = let (n, l, u) = told_refused b r e x f in refused_first b rest (number_of x) n l
