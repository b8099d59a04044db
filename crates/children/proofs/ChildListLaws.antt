-- Laws about specs/ChildList.antt: how many children a list of bytes has, and how many bytes the commands that are sent to them take.
-- Assumes nothing.
use Prim.Native.Nat.{ℕ, ◌*◌, ◌%◌, ◌≤◌}
use native.Mathlib.Omega.{arith}
use native.Mathlib.Nat.{mul-le-mul_right}
use mathlib.Core.Path.{◌≡◌, refl}
use mathlib.Core.Bool.{true, ◌&&◌}
use mathlib.Core.List.{List, [], ◌∷◌}
use lib.Dec.{eqb, leb}
use lib.ListN.{length}
use borrow.Author.Tests.{leb-true}
use Rattle.model.specs.Words.{every}
use Rattle.model.specs.Tree.{Child, Part, Class}
use Rattle.model.specs.Crews.{in_class}
use Rattle.model.specs.Running.{Sent, run_part}
use Rattle.model.proofs.Words.{and_left, and_right}
use Rattle.model.proofs.RunLaws.{part_size, part_sends}
use Rattle.children.specs.ChildList.{children_of, list_right, pairs, sent_bytes}

-- two bytes for each child
pub half : (l : List ℕ) → 2 * length (children_of l) ≤ length l
unfolding children_of
half [] = omega arith
half (class ∷ []) = omega arith
half (class ∷ name ∷ rest) = omega (arith, half rest)

-- a list that rule 10 takes has at most 4,096 children
pub children_most : (c : Class) (l : List ℕ) → list_right c l ≡ true → length (children_of l) ≤ 4096
unfolding list_right
children_most c l e =
    let x = leb-true (length l) (2 * 4096) (and_left (leb (length l) (2 * 4096)) (every (in_class c) (children_of l)) (and_right (eqb (length l % 2) 0) (leb (length l) (2 * 4096) && every (in_class c) (children_of l)) e)) in
    omega (arith, half l)

-- two bytes for each child of a list that is written
pub pairs_length : (ks : List Child) → length (pairs ks) ≡ 2 * length ks
unfolding pairs
pairs_length [] = refl
pairs_length (k ∷ ks) = omega (arith, pairs_length ks)

-- three bytes for each command sent
pub three_each : (sent : List Sent) → length (sent_bytes sent) ≡ 3 * length sent
unfolding sent_bytes
three_each [] = refl
three_each (s ∷ ss) = omega (arith, three_each ss)

-- at most 1,024 statements and 4,096 children: the bytes that a part sends can be counted in 32 bits
pub bytes_most : (p : Part) (ks : List Child) → part_size p ≤ 1024 → length ks ≤ 4096 → length (sent_bytes (run_part p ks).sent) ≤ 12582912
bytes_most p ks l m = omega (arith, three_each (run_part p ks).sent, part_sends p ks, mul-le-mul_right (length ks) l)
