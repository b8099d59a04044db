-- The answer in the code's terms: what a function that reads a class text promises.
-- Assumes nothing.
use Rattle.std.specs.Prelude.{ℕ, List, Ok, Err}
use Rattle.model.specs.declared.Misread.TheVariants.{Refused, WrongWord}
use Rattle.model.specs.Answers.{ReadAnswer}
use Rattle.model.specs.Refusals.{number_of}
use Rattle.readings.specs.Readings.{Lent, Reading, wrong, refused, read, Outcome, Answers}

-- an answer as the definitions have it
abbrev pub reading_as : ReadAnswer → Reading
reading_as (Err (Refused x)) = refused (number_of x)
reading_as (Err (WrongWord place)) = wrong place
reading_as (Ok (length, states)) = read length states

-- what was lent
abbrev pub asked : List ℕ → List ℕ → List ℕ → List ℕ → List ℕ → List ℕ → Lent
asked text names commands classes sheet table = record { text = text; lists = record { names = names; commands = commands; classes = classes }; sheet = sheet; table = table }

-- what came of it
abbrev pub came : ReadAnswer → List ℕ → List ℕ → Outcome
came r sheet table = record { reading = reading_as r; sheet = sheet; table = table }

-- it is the answer
abbrev pub Answered : Lent → ReadAnswer → List ℕ → List ℕ → Type 0
Answered q r sheet table = Answers q (came r sheet table)
