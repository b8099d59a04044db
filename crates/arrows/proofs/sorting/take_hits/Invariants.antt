-- `take_hits`: after the clauses before m, the words have what these take, and the rest remains.
-- Assumes nothing.
use Rattle.arrows.proofs.SortingLaws.{Taking}
use Rattle.arrows.proofs.sorting.take_hits.Given as goal

abbrev pub invariant-loop-m : goal.invariant-loop-m
invariant-loop-m l = Taking l.places l.aims l.words l.first l.last l.counted l.initial.table l.m l.remaining l.table
