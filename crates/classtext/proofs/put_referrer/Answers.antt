-- The words of a referrer, by its kind.
-- Assumes nothing.
use mathlib.Core.Path.{ap}
use Rattle.model.specs.Words.{listed}
use Rattle.grammar.specs.Words.{spelled}
use Rattle.model.specs.Answers.{referrer_as}
use Rattle.pen.proofs.Puts.{puts_on}
use Rattle.classtext.specs.ClassText.{referrer_words}
use Rattle.classtext.proofs.put_referrer.Goals as goal

pub returns-in-MoveTo : goal.returns-in-MoveTo
unfolding listed spelled referrer_words
returns-in-MoveTo c =
    let k = ap referrer_as c.in-MoveTo.is in
    rw k (puts_on c.put_bytes-a.ensures c.put_name.ensures)

pub returns-in-Do : goal.returns-in-Do
unfolding listed spelled referrer_words
returns-in-Do c =
    let k = ap referrer_as c.in-Do.is in
    rw k (puts_on c.put_bytes-a-in-Do.ensures (rw (← c.action_command-command.ensures) c.put_name-in-Do.ensures))

pub returns-in-Stay : goal.returns-in-Stay
unfolding listed spelled referrer_words
returns-in-Stay c =
    let k = ap referrer_as c.in-Stay.is in
    rw k (puts_on c.put_bytes-a-in-Stay.ensures c.put_name-in-Stay.ensures)
