-- `prefixed::walks::put_record` meets its contract.
-- Assumes nothing.
use borrow.Author.Rules.{rules}
use Rattle.prefixed.proofs.WalkLaws.{put_full, put_no_room, put_done}
use Rattle.prefixed.proofs.walks.put_record.Goals as goal

pub returns-then-keys-count : goal.returns-then-keys-count
returns-then-keys-count c = put_full _ _ _ c.requires.0 _ _ _ c.if-keys-count.true

pub returns-then-bytes-count : goal.returns-then-bytes-count
returns-then-bytes-count c = put_no_room _ _ _ c.requires.0 _ _ _ c.if-bytes-count.true

pub returns : goal.returns
returns c =
    let p = c.requires in
    put_done _ _ _ p.0 _ _ _ p.1 c.if-keys-count.false c.if-bytes-count.false _ (search rules) c.insert.ensures
