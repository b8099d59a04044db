-- A child list as bytes, pairs (class, name), at most 4,096 children; and the bytes of commands sent to children.
-- Assumes nothing.
use Rattle.std.specs.Prelude.{ℕ, ◌*◌, ◌/◌, ◌%◌, Bool, ◌&&◌, List, [], ◌∷◌, eqb, leb, length}
use Rattle.model.specs.Words.{every}
use Rattle.model.specs.Tree.{Child, Class}
use Rattle.model.specs.Running.{Sent}
use Rattle.model.specs.Crews.{in_class}

unfoldable pub children_of : List ℕ → List Child
children_of [] = []
children_of (class ∷ []) = []
children_of (class ∷ name ∷ rest) = record { class = class; name = name } ∷ children_of rest

-- no refusal 10: an even number of bytes, at most 4,096 children, each of a class below K with a name in its class
unfoldable pub list_right : Class → List ℕ → Bool
list_right c l = eqb (length l % 2) 0 && (leb (length l) (2 * 4096) && every (in_class c) (children_of l))

-- a list of children as pairs of bytes
unfoldable pub pairs : List Child → List ℕ
pairs [] = []
pairs (k ∷ ks) = k.class ∷ k.name ∷ pairs ks

-- three bytes for each command sent: its child's place in the list, the command
unfoldable pub sent_bytes : List Sent → List ℕ
sent_bytes [] = []
sent_bytes (s ∷ ss) = s.place % 256 ∷ s.place / 256 ∷ s.command ∷ sent_bytes ss
