-- The when phase as a reply: refusal 15, what it gives, and the bytes that it writes.
-- Assumes nothing.
use Rattle.std.specs.Prelude.{ℕ, List, length}
use Rattle.model.specs.Node.{Phase, settled, loops, sent_of}
use Rattle.model.specs.Values.{settled_values, loop_values}
use Rattle.model.specs.Replies.{Reply, in_room}
use Rattle.children.specs.ChildList.{sent_bytes}

-- a settled phase writes what it sent; one that loops writes nothing
unfoldable pub bytes_of_phase : Phase → List ℕ
bytes_of_phase p = sent_bytes (sent_of p)

-- 15: the room for what is written, so none for a phase that loops
unfoldable pub reply_phase : Phase → List ℕ → Reply Phase
reply_phase p out = in_room p (bytes_of_phase p) out

-- the paper's values: by what it settled, with the state, the moves, the number of bytes written and the command of a closing DO; or loop
unfoldable pub phasing_values : Phase → List ℕ
phasing_values (settled e q m sent) = settled_values e q m (length (sent_bytes sent))
phasing_values (loops q m) = loop_values q m
