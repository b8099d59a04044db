-- The words of a when clause, one behind the other.
-- Assumes nothing.
use Rattle.model.specs.Words.{listed}
use Rattle.grammar.specs.Words.{spelled}
use Rattle.classtext.proofs.ClassLaws.{when_small, when_puts}
use Rattle.classtext.proofs.put_when.Goals as goal

pub guard_place-requires : goal.guard_place-requires
guard_place-requires c = when_small _ _ c.args.sheet.stands _ _ c.requires

pub referrer_at-referrer-requires : goal.referrer_at-referrer-requires
referrer_at-referrer-requires c = when_small _ _ c.args.sheet.stands _ _ c.requires

pub returns : goal.returns
unfolding listed spelled
returns c = when_puts _ _ c.args.sheet.stands _ _ c.requires _ _ _ _ _ _ _ _ c.body-guards.ensures c.body-whens.ensures c.body-actions.ensures c.guard_place.ensures c.clauses_of-clauses.ensures.first_is c.referrer_at-referrer.ensures c.put_indent-a.ensures c.put_bytes-b.ensures c.put_guard-c.ensures c.put_bytes-d.ensures c.put_referrer-e.ensures c.put_bytes.ensures
