-- Whatever part is read of statement records has right numbers, and ifs no deeper than its reader allows; at most 16 operators lie on a path of their guards.
-- Assumes nothing.
use Prim.Native.Nat.{ℕ, suc, ◌≤◌}
use native.Mathlib.Omega.{arith}
use mathlib.Core.Path.{◌≡◌}
use mathlib.Core.Bool.{true, ◌&&◌}
use mathlib.Core.List.{List}
use lib.Dec.{eqb, leb, ltb}
use borrow.Author.Tests.{leb-true, ltb-true}
use Rattle.model.specs.Words.{Bytes}
use Rattle.model.specs.Tree.{Guard, Statement, send, go_to, branch, Part, end, ◌then◌}
use Rattle.model.proofs.Words.{and_left, and_right}
use Rattle.records.specs.Bytes.{byte, u32}
use Rattle.records.specs.GuardRecords.{pattern_right, pattern_of}
use Rattle.bodies.specs.StatementRecords.{do_right, part_at}
use Rattle.bodies.specs.BodyRules.{records_right}
use Rattle.bodies.proofs.Parts.{Of, every_part}
use Rattle.encoding.specs.Limits.{part_depth, statement_depth, part_guards_of, statement_guards_of}
use Rattle.encoding.specs.Numbers.{Every, PartNumbers, StatementNumbers}
use Rattle.encoding.proofs.All.{every_append}
use Rattle.encoding.proofs.Inside.{Shallow}
use Rattle.judged.proofs.Guards.{Fits, pattern_numbers, from_fits}

-- a part whose numbers are right, with ifs at most d deep, whose guards are shallow
pub record PartFits (K S d : ℕ) (p : Part) : Type 0 where
  pub numbers : PartNumbers p K S
  pub depth : part_depth p ≤ d
  pub paths : Every Shallow (part_guards_of p)

-- the same of a statement
record StatementFits (K S d : ℕ) (s : Statement) : Type 0 where
  pub numbers : StatementNumbers s K S
  pub depth : statement_depth s ≤ d
  pub paths : Every Shallow (statement_guards_of s)

-- a do, a move_to and an if that keep their layout
do_fits : (K S d : ℕ) (r : List ℕ) → do_right K r ≡ true → StatementFits K S d (send (byte r 1) (pattern_of (byte r 2)))
unfolding StatementNumbers statement_depth statement_guards_of
do_fits K S d r h =
    let rest = eqb (byte r 3) 0 && eqb (u32 r 4) 0 in
    let pattern = and_left (pattern_right K (byte r 2)) rest (and_right (leb (byte r 1) 63) (pattern_right K (byte r 2) && rest) h) in
    record {
      numbers = (leb-true (byte r 1) 63 (and_left (leb (byte r 1) 63) (pattern_right K (byte r 2) && rest) h), pattern_numbers K (byte r 2) pattern);
      depth = omega arith;
      paths = tt;
    }

move_fits : (K S d t : ℕ) → ltb t S ≡ true → StatementFits K S d (go_to t)
unfolding StatementNumbers statement_depth statement_guards_of
move_fits K S d t h = record { numbers = ltb-true t S h; depth = omega arith; paths = tt }

if_fits : (K S d : ℕ) (g : Guard) (a b : Part) → Fits K 16 g → PartFits K S d a → PartFits K S d b → StatementFits K S (suc d) (branch g a b)
unfolding StatementNumbers statement_depth statement_guards_of
if_fits K S d g a b h x y =
    record {
      numbers = (h.0, x.numbers, y.numbers);
      depth = omega (arith, x.depth, y.depth);
      paths = (h.1, every_append Shallow (part_guards_of a) (part_guards_of b) x.paths y.paths);
    }

-- no statement, and one more
pub end_fits : (K S d : ℕ) → PartFits K S d end
unfolding PartNumbers part_depth part_guards_of
end_fits K S d = record { numbers = tt; depth = omega arith; paths = tt }

then_fits : (K S d : ℕ) (s : Statement) (p : Part) → StatementFits K S d s → PartFits K S d p → PartFits K S d (s then p)
unfolding PartNumbers part_depth part_guards_of
then_fits K S d s p x y =
    record {
      numbers = (x.numbers, y.numbers);
      depth = omega (arith, x.depth, y.depth);
      paths = every_append Shallow (statement_guards_of s) (part_guards_of p) x.paths y.paths;
    }

-- so of every part that is read, where the guard records keep their layout
pub part_fits : (K S : ℕ) (gs : List ℕ) → Bytes gs → records_right K gs ≡ true → (d : ℕ) (rs : List (List ℕ)) → Of (PartFits K S d) (part_at d K S gs rs)
part_fits K S gs bytes right =
    every_part K S gs (λ d _ p. PartFits K S d p) (λ d _ s. StatementFits K S d s)
    (λ d m n p l h. h)
    (λ d n r h. do_fits K S d r h)
    (λ d n t l. move_fits K S d t l)
    (λ d m n i e g a b r h k. if_fits K S d g a b (from_fits K gs bytes right i e g r) h k)
    (λ d. end_fits K S d)
    (λ d m n s p h k. then_fits K S d s p h k)
