-- Laws about an action clause of a state: its statements, cut out of the bodies, read as the body that the class has there.
-- Assumes nothing.
use Prim.Native.Nat.{ℕ, ◌+◌, ◌<◌, ◌≤◌}
use native.Mathlib.Omega.{arith}
use mathlib.Core.Path.{◌≡◌, refl, ap, ◌∙◌}
use mathlib.Core.Bool.{true}
use mathlib.Core.List.{List}
use mathlib.Core.Logic.{◌⊎◌, inl, inr}
use mathlib.Core.Option.{Option, none, some}
use lib.Dec.{eqb}
use borrow.Author.Tests.{eqb-true}
use Rattle.model.specs.Words.{is_some}
use Rattle.model.specs.Tree.{Part, Action, no_action}
use Rattle.model.specs.Running as Tree
use Rattle.model.specs.Node.{action_of}
use Rattle.model.proofs.Words.{clash, and_right, lt_or_le, each_elim}
use Rattle.model.proofs.RunLaws.{part_size}
use Rattle.records.specs.Bytes.{in_fours}
use Rattle.bodies.specs.Clauses.{count_sum, first_action, action_count, statement_bytes, body_of}
use Rattle.bodies.specs.PartChecks.{Reads}
use Rattle.bodies.specs.BodyRules.{counts_right, statements_right}
use Rattle.bodies.proofs.CheckLaws.{sum_next, past_count}
use Rattle.bodies.proofs.Parts.{body_sized}
use Rattle.bodies.proofs.StatementLaws.{sum_inside, statements_whole}
use Rattle.sheet.specs.Contents.{body, bodies}
use Rattle.sheet.specs.Reading.{action_in, class_of}
use Rattle.sheet.proofs.Contents.{counted}
use Rattle.sheet.proofs.Reading.{action_of_in}
use Rattle.sheet.proofs.Rules.{Right}
use Rattle.children.specs.ChildList.{children_of}
use Rattle.children.proofs.ChildListLaws.{half, bytes_most}
use Rattle.running.specs.Running.{Does, Runnable, Room, RunsPart}
use Rattle.running.specs.declared.Ran.{Ran}

-- a value that is there
is_there {ℓ} : {A : Type ℓ} (o : Option A) → is_some o ≡ true → (a : A) × (o ≡ some a)
is_there none e = absurd (clash (cc))
is_there (some a) e = (a, refl)

-- action clause a of state q, which is clause n of the sheet: the part that its statements read as, and that it has few statements
pub record ActionRead (b : List ℕ) (q a n : ℕ) : Type 0 where
  pub few : n < 1024
  pub part : Part
  pub small : part_size part ≤ 1024
  pub reads : Reads (body b 3) (statement_bytes (body b 4) (body b 5) n) part
  pub body_is : (action_of (class_of b) q a).body ≡ part

module _ (b : List ℕ) (right : Right b) (q a : ℕ) (there : a < action_count (body b 1) q) where
  -- the state is one of the sheet's
  pub state_inside : q < in_fours (body b 1)
  unfolding bodies
  state_inside = go (lt_or_le q (in_fours (body b 1)))
    where
      go : (q < in_fours (body b 1)) ⊎ (in_fours (body b 1) ≤ q) → q < in_fours (body b 1)
      go (inl h) = h
      go (inr h) = absurd (let z = past_count (body b 1) 2 q (counted b right.contents).states_whole h in omega arith)

  -- and so is the clause
  action_inside : first_action (body b 1) q + a < in_fours (body b 4)
  unfolding bodies counts_right
  action_inside =
      let A = in_fours (body b 4) in
      let e = eqb-true (count_sum (body b 1) 2 (in_fours (body b 1))) A (and_right (eqb (count_sum (body b 1) 0 (in_fours (body b 1))) (in_fours (body b 2))) (eqb (count_sum (body b 1) 2 (in_fours (body b 1))) A) right.bodies.counts) in
      let z = sum_inside (body b 1) 2 q (in_fours (body b 1)) A state_inside e in
      let y = sum_next (body b 1) 2 q (first_action (body b 1) q) (action_count (body b 1) q) refl refl in
      omega arith

  -- the body that the class has there is what was read
  body_told : (n : ℕ) (p : Part) → n ≡ first_action (body b 1) q + a → body_of (in_fours (body b 0)) (in_fours (body b 1)) (body b 3) (body b 4) (body b 5) n ≡ some p → (action_of (class_of b) q a).body ≡ p
  unfolding class_of bodies action_in
  body_told n p e r = ap (λ (x : Action). x.body) (action_of_in (bodies b) q a no_action state_inside there) ∙ rw (← e, r)

  pub action_read : (n : ℕ) → n ≡ first_action (body b 1) q + a → ActionRead b q a n
  unfolding bodies statements_right body_of
  action_read n e =
      let inside : n < in_fours (body b 4) = omega (arith, action_inside) in
      let body_at = body_of (in_fours (body b 0)) (in_fours (body b 1)) (body b 3) (body b 4) (body b 5) in
      let (p, r) = is_there (body_at n) (each_elim (in_fours (body b 4)) (λ a. is_some (body_at a)) right.bodies.statements n inside) in
      record {
        few = omega (arith, (counted b right.contents).actions_most);
        part = p;
        small = omega (arith, (counted b right.contents).statements_most, body_sized (in_fours (body b 0)) (in_fours (body b 1)) (body b 3) (body b 4) (body b 5) n p r);
        reads = record { depth = 8; classes = in_fours (body b 0); states = in_fours (body b 1); reads = rw (statements_whole (body b 4) (body b 5) n) r };
        body_is = body_told n p e r;
      }

-- its statements as they were cut out of the bodies
module _ (b : List ℕ) (q a n : ℕ) (C : ActionRead b q a n) (guards actions statements p : List ℕ) (eg : guards ≡ body b 3) (ea : actions ≡ body b 4) (es : statements ≡ body b 5) (ep : p ≡ statement_bytes actions statements n) where
  -- read as its part
  statements_read : Reads guards p C.part
  statements_read = rw (ep, eg, ea, es) C.reads

  -- what they send to a list of at most 4,096 children can be counted
  pub statements_room : (sets list : List ℕ) (at : ℕ) → Runnable sets list → at < 900000000000 → Room sets guards list p at
  statements_room sets list at r l =
      record {
        crewed = r.crewed;
        short = r.short;
        tree = C.part;
        reads = statements_read;
        counted = omega (arith, bytes_most C.part (children_of list) C.small (omega (arith, half list, r.short)));
      }

  -- and running them is running the clause
  pub statements_run : (list before after : List ℕ) (at : ℕ) (r : Ran) → RunsPart guards list p before after at r
      → Does (Tree.run_part (action_of (class_of b) q a).body (children_of list)) before after at r
  statements_run list before after at r h = rw C.body_is (h C.part statements_read)
