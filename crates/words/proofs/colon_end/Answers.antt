use Rattle.model.specs.Words.{listed}
use Rattle.grammar.specs.Words.{spelled}
use Rattle.words.proofs.Laws.{run_past, run_plain, run_colon, run_bare, colon_of}
use Rattle.words.proofs.colon_end.Goals as goal

pub returns-then-text-end : goal.returns-then-text-end
returns-then-text-end c = run_past _ _ _ c.requires.0 c.if-text-end.true

pub returns-then-text-end-ne58 : goal.returns-then-text-end-ne58
returns-then-text-end-ne58 c = run_plain _ _ _ c.requires.0 c.if-text-end-ne58.true

pub returns-then-is_same : goal.returns-then-is_same
unfolding spelled listed
returns-then-is_same c =
    let a = c.requires in
    let o = colon_of _ _ _ _ _ c.is_same.ensures c.is_same-2.ensures c.is_same-3.ensures c.if-is_same.true in
    run_colon _ _ _ c.requires.0 c.if-text-end-ne58.false o

pub returns : goal.returns
unfolding spelled listed
returns c =
    let a = c.requires in
    let o = colon_of _ _ _ _ _ c.is_same.ensures c.is_same-2.ensures c.is_same-3.ensures c.if-is_same.false in
    run_bare _ _ _ c.requires.0 o
