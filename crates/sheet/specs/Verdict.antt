-- What the judge answers: the refusal, or acceptance with the places of the six bodies.
-- Assumes nothing.
use Rattle.std.specs.Prelude.{ℕ, ◌≤◌, ◌≡◌, List, [], ◌∷◌, true, eqb, length, Result, Ok, Err}
use Rattle.model.specs.Words.{choose}
use Rattle.model.specs.Refusals.{number_of}
use Rattle.model.specs.declared.Refusal.{Refusal}
use Rattle.sheet.specs.Contents.{Bodies, start, length_right, contents_right}
use Rattle.sheet.specs.Rules.{refusal, Accepted as IsAccepted}
use Rattle.sheet.specs.declared.judging.Places.{Places}

-- where each body starts, as the contents say
abbrev pub places_of : List ℕ → Places
places_of b = record { classes = start b 0; states = start b 1; whens = start b 2; guards = start b 3; actions = start b 4; statements = start b 5 }

abbrev pub place_numbers : Places → List ℕ
place_numbers p = p.classes ∷ p.states ∷ p.whens ∷ p.guards ∷ p.actions ∷ p.statements ∷ []

abbrev pub Verdict : Type 0
Verdict = Result Places Refusal

-- the paper's number and values of each case
abbrev pub verdict_numbers : Verdict → List ℕ
verdict_numbers (Ok p) = 0 ∷ place_numbers p
verdict_numbers (Err x) = number_of x ∷ []

-- a refusal's number, 0 for none
abbrev pub refused_number : {A : Type 0} → Result A Refusal → ℕ
refused_number (Ok _) = 0
refused_number (Err x) = number_of x

-- those of a refusal number, 0 for none, and of places
abbrev pub outcome : ℕ → Places → List ℕ
outcome n p = choose (eqb n 0) (λ _. 0 ∷ place_numbers p) (λ _. n ∷ [])

-- those that the rules give to a byte string
unfoldable pub verdict : List ℕ → List ℕ
verdict b = outcome (refusal b) (places_of b)

-- six bodies together
abbrev pub together : List ℕ → List ℕ → List ℕ → List ℕ → List ℕ → List ℕ → Bodies
together classes states whens guards actions statements =
    record { classes = classes; states = states; whens = whens; guards = guards; actions = actions; statements = statements }

-- no body of 4-byte records has more than 256 of them
pub record ShortBodies (classes states whens actions : List ℕ) : Type 0 where
  pub classes_short : length classes ≤ 1024
  pub states_short : length states ≤ 1024
  pub whens_short : length whens ≤ 1024
  pub actions_short : length actions ≤ 1024

-- these are the places of six bodies that follow one another in a byte string that keeps the rules 1 and 2
pub record Marked (b : List ℕ) (p : Places) : Type 0 where
  pub length_fits : length_right b ≡ true
  pub contents_fit : contents_right b ≡ true
  pub places : p ≡ places_of b
  pub states : p.classes ≤ p.states
  pub whens : p.states ≤ p.whens
  pub guards : p.whens ≤ p.guards
  pub actions : p.guards ≤ p.actions
  pub statements : p.actions ≤ p.statements
  pub end : p.statements ≤ length b

-- the places of such a byte string, or the verdict on one that breaks rule 1 or 2
abbrev pub Found : List ℕ → Verdict → Type 0
Found b (Ok p) = Marked b p
Found b (Err x) = number_of x ∷ [] ≡ verdict b

-- the sheet is accepted, and these are the places of its bodies
pub record Stands (b : List ℕ) (p : Places) : Type 0 where
  pub accepted : IsAccepted b
  pub places : p ≡ places_of b
