-- What the functions promise that read a text of the grammar, each where what was tested before it passed.
-- Assumes nothing.
use Rattle.std.specs.Prelude.{ℕ, ◌≡◌, true, List}
use Rattle.grammar.specs.Grammar.{Text}
use Rattle.grammar.specs.Reading.{Says}
use Rattle.encoding.specs.Records.{eights}
use Rattle.encoding.specs.Encoding.{all_guards}
use Rattle.encoding.specs.Within.{Within}
use Rattle.sizes.specs.Sized.{sizes_in}
use Rattle.sizes.specs.declared.Sizes.{Sizes}
use Rattle.lists.specs.Lent.{lists_of}
use Rattle.lists.specs.declared.Lists as Code
use Rattle.readings.specs.Readings.{Lent, class_for, known, within}
use Rattle.readings.specs.Promise.{Answered}
use Rattle.model.specs.Answers.{ReadAnswer}

-- what was lent, where the code's struct holds the lists
abbrev pub asked_of : List ℕ → Code.Lists → List ℕ → List ℕ → Lent
asked_of text l sheet table = record { text = text; lists = lists_of l; sheet = sheet; table = table }

-- the text is one of the grammar
abbrev pub OfText : Lent → ReadAnswer → List ℕ → List ℕ → Type 0
OfText q r sheet table = (t : Text) → Says q.text t → Answered q r sheet table

-- and 17 is not given
abbrev pub OfKnown : Lent → ReadAnswer → List ℕ → List ℕ → Type 0
OfKnown q r sheet table = (t : Text) → Says q.text t → known q t ≡ true → Answered q r sheet table

-- nor 18, and the sizes and guard records are the class's
abbrev pub OfWithin : Lent → Sizes → List ℕ → ReadAnswer → List ℕ → List ℕ → Type 0
OfWithin q n guards r sheet table =
    (t : Text) → Says q.text t → known q t ≡ true → within q t ≡ true → Within (class_for q t) → n ≡ sizes_in (class_for q t)
    → guards ≡ eights (all_guards (class_for q t)) → Answered q r sheet table
