-- What is open behind a word, by its kind: brackets, the guard of an if, ifs with or without their else.
-- Assumes nothing.
use Rattle.std.specs.Prelude.{ℕ, suc, ◌-◌, Bool, true, false, ◌&&◌, ◌||◌, not, List, [], ◌∷◌, eqb}
use Rattle.model.specs.Words.{choose}
use Rattle.grammar.specs.Grammar.{if_word, then_word, else_word, endif_word, open_word, close_word}
use Rattle.steps.specs.declared.Open.{Open}

-- one more behind a word of kind up, one less behind one of kind down
unfoldable pub counted : ℕ → ℕ → ℕ → ℕ → ℕ
counted n k up down = choose (eqb k up) (λ _. suc n) (λ _. choose (eqb k down) (λ _. n - 1) (λ _. n))

-- a guard is an if's from if to then
unfoldable pub nested_after : Bool → ℕ → Bool
nested_after i k = eqb k (suc if_word) || (not (eqb k (suc then_word)) && i)

-- what is open by numbers
unfoldable pub open_after : Open → ℕ → Open
open_after o k =
    record {
      brackets = counted o.brackets k (suc open_word) (suc close_word);
      nested = nested_after o.nested k;
      ifs = counted o.ifs k (suc then_word) (suc endif_word);
    }

-- the open ifs, the innermost one first: whether each had its else
abbrev pub Ifs : Type 0
Ifs = List Bool

-- the innermost one has its else now
unfoldable pub with_else : Ifs → Ifs
with_else [] = []
with_else (e ∷ b) = true ∷ b

-- all but the innermost one
unfoldable pub closed : Ifs → Ifs
closed [] = []
closed (e ∷ b) = b

-- whether the innermost one had its else
unfoldable pub had_else : Ifs → Bool
had_else [] = false
had_else (e ∷ b) = e

-- the open ifs behind a word
unfoldable pub ifs_after : Ifs → ℕ → Ifs
ifs_after b k =
    choose (eqb k (suc then_word)) (λ _. false ∷ b)
    (λ _. choose (eqb k (suc else_word)) (λ _. with_else b) (λ _. choose (eqb k (suc endif_word)) (λ _. closed b) (λ _. b)))
