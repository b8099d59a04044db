use borrow.Author.Tests.{lt-ltb, le-ltb}
use Rattle.classfile.proofs.heads.once.Goals as goal

pub returns-then-bytes-gt0 : goal.returns-then-bytes-gt0
returns-then-bytes-gt0 c = rw (lt-ltb 0 _ c.if-bytes-gt0.true)

pub returns : goal.returns
returns c = rw (le-ltb 0 _ c.if-bytes-gt0.false)
