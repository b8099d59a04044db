-- `first_name` meets its contract: the numbers below the first are not in the set.
-- Assumes nothing.
use Rattle.std.proofs.Common.{◌≡◌, true, false, rules, tests}
use Rattle.std.proofs.lemmas.Iterator.{first_from_Range}
use Rattle.model.specs.Words.{has}
use Rattle.spelling.proofs.SpellingLaws.{first_told}
use Rattle.spelling.proofs.first_name.Goals as goal

pub returns : goal.returns
returns c =
    let s = c.args.set in
    first_told _ _
    (first_from_Range _ _ _ _ (λ i. has s i ≡ true) (λ i. has s i ≡ false) c.find.ensures.ran
    (λ x q k. search (rules, tests))
    (λ x q k. (search rules, search (rules, tests))))
