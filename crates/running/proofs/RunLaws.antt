-- Laws about running statements: what is done one statement after the other, what the rest of a list is run with, and a law for each way
-- out of the code that runs them.
-- Assumes nothing.
use Prim.Native.Nat.{ℕ, ◌+◌, ◌<◌}
use native.Mathlib.Omega.{arith}
use mathlib.Core.Path.{◌≡◌, refl, sym, ◌∙◌, ap, subst}
use mathlib.Core.Bool.{Bool, true, false}
use mathlib.Core.List.{List, ◌++◌}
use mathlib.Core.Option.{Option, none, some}
use lib.ListN.{length}
use lib.Seq.{sets}
use Rattle.std.specs.Prelude.{Some, None}
use Rattle.model.specs.Words.{maybe}
use Rattle.model.specs.Tree.{Child, Guard, Statement, send, branch, Part, ◌then◌}
use Rattle.model.specs.Guards.{holds}
use Rattle.model.specs.Running as Tree
use Rattle.model.specs.declared.OwnState.{OwnState}
use Rattle.records.specs.GuardRecords.{got, guard_from}
use Rattle.records.specs.Patterns.{pattern_as}
use Rattle.bodies.specs.PartChecks.{Reads}
use Rattle.bodies.specs.StatementReaders.{statement_record, then_part, else_part, behind_statement}
use Rattle.records.specs.declared.kinds.Pattern.{Pattern}
use Rattle.bodies.specs.declared.statements.Branch.{Branch}
use Rattle.bodies.specs.declared.statements.StatementRecord.{StatementRecord}
use Rattle.bodies.specs.declared.statements.StatementRecord.TheVariants.{Do, MoveTo, If, Unknown}
use Rattle.bodies.proofs.ReadLaws.{Begins, BeginsIf, read_end, read_do, read_move, read_if}
use Rattle.children.specs.ChildList.{children_of, sent_bytes}
use Rattle.node.specs.Values.{truth_of}
use Rattle.children.specs.NameSets.{Crewed}
use Rattle.node.proofs.Agree.{agree}
use Rattle.running.specs.Running.{Writes, Counted, Does, Room, RunsPart, RunsIf}
use Rattle.running.specs.declared.Ran.{Ran}
use Rattle.running.proofs.SendLaws.{sets_append, bytes_append, bytes_sum}

-- a run, and the run after it, which sends too unless the first moved
module _ (a b : Tree.Ran) where
  -- all can be counted, so the first can
  counted_first : (at : ℕ) → Counted (Tree.and_then a (λ _. b)).sent at → Counted a.sent at
  counted_first at c = go a.moved c
    where
      go : (o : Option ℕ) → Counted (maybe o (λ _. record { sent = a.sent ++ b.sent; moved = b.moved }) (λ _. a)).sent at → Counted a.sent at
      go none c = omega (arith, bytes_sum a.sent b.sent)
      go (some t) c = c

  does_stop : (t : ℕ) → a.moved ≡ some t → {before after : List ℕ} {at : ℕ} {r : Ran} → Does a before after at r → Does (Tree.and_then a (λ _. b)) before after at r
  does_stop t h {before} {after} {at} {r} d =
      subst (λ (t : Tree.Ran). Does t before after at r) (sym (ap (λ (o : Option ℕ). maybe o (λ _. record { sent = a.sent ++ b.sent; moved = b.moved }) (λ _. a)) h)) d

  module _ (h : a.moved ≡ none) where
    counted_on : (at next : ℕ) → next ≡ at + length (sent_bytes a.sent) → Counted (Tree.and_then a (λ _. b)).sent at → Counted b.sent next
    counted_on at next e c =
        let w : at + length (sent_bytes (a.sent ++ b.sent)) < 1000000000000 = rw h at c in
        omega (arith, bytes_sum a.sent b.sent)

    does_on : {before mid after : List ℕ} {at next : ℕ} {r : Ran} → Writes a.sent before mid at next → Does b mid after next r → Does (Tree.and_then a (λ _. b)) before after at r
    does_on {before} {at = at} w d =
        rw h
        (record {
          writes =
              record {
                buffer = d.writes.buffer ∙ rw (w.buffer, w.place, bytes_append a.sent b.sent, sets_append before at (sent_bytes a.sent) (sent_bytes b.sent));
                place = omega (arith, bytes_sum a.sent b.sent, d.writes.place, w.place);
              };
          moved = d.moved;
        })

-- what an if's guard chooses of two
abbrev pub either {ℓ} : {A : Type ℓ} → Bool → A → A → A
either true a b = a
either false a b = b

-- in the bytes as in the tree
either_reads : (x : Bool) (g p q : List ℕ) (a b : Part) → Reads g p a → Reads g q b → Reads g (either x p q) (either x a b)
either_reads true g p q a b h k = h
either_reads false g p q a b h k = k

either_runs : (x : Bool) (y : Guard) (a b : Part) (ks : List Child) → holds y ks ≡ x → Tree.run_one (branch y a b) ks ≡ Tree.run_part (either x a b) ks
unfolding Tree.run_one
either_runs true y a b ks h = rw h
either_runs false y a b ks h = rw h

-- the code's guard is the tree's
truth_is : (sets g : List ℕ) (ks : List Child) (place : ℕ) (x : Bool) (y : Guard) (n : ℕ) → Crewed sets ks → x ≡ truth_of sets (guard_from g place) → guard_from g place ≡ got y n → holds y ks ≡ x
unfolding truth_of
truth_is sets g ks place x y n c ex er = sym (ex ∙ ap (truth_of sets) er ∙ agree sets ks c.eight c.shows c.small y)

module _ (g list part : List ℕ) (at : ℕ) where
  abbrev ks : List Child
  ks = children_of list

  -- an if at the front of a list, in what the list reads as
  module _ (b : Branch) (e : If b ≡ statement_record part) (p : Part) (h : Reads g part p) where
    abbrev read : BeginsIf g part p b
    read = read_if g part p h b e

    abbrev the_if : Statement
    the_if = branch read.guard read.first read.second

    -- was run
    if_done : {before mid : List ℕ} {ran : Ran} → RunsIf g list part before mid at ran → Does (Tree.run_one the_if ks) before mid at ran
    if_done done = done the_if read.begins.rest (rw read.begins.is at h)

    -- and runs the part that its guard chooses
    module _ (sets : List ℕ) (c : Crewed sets ks) (x : Bool) (ex : x ≡ truth_of sets (guard_from g b.guard)) where
      abbrev side : Part
      side = either x read.first read.second

      side_reads : (q : List ℕ) → q ≡ either x (then_part b part) (else_part b part) → Reads g q side
      side_reads q eq = rw eq (either_reads x g (then_part b part) (else_part b part) read.first read.second read.first_reads read.second_reads)

      side_runs : Tree.run_one the_if ks ≡ Tree.run_part side ks
      side_runs = either_runs x read.guard read.first read.second ks (truth_is sets g ks b.guard x read.guard read.stop c ex read.guard_reads)

  -- with room for what a list reads as there is room for what its first statement sends, and for the rest
  module _ (sets : List ℕ) (R : Room sets g list part at) where
    room : (p : List ℕ) (next : ℕ) (t : Part) → Reads g p t → Counted (Tree.run_part t ks).sent next → Room sets g list p next
    room p next t h c = record { crewed = R.crewed; short = R.short; tree = t; reads = h; counted = c }

    module _ (r : StatementRecord) (s : Statement) (B : Begins g part r R.tree s) where
      counted_all : Counted (Tree.and_then (Tree.run_one s ks) (λ _. Tree.run_part B.rest ks)).sent at
      unfolding Tree.run_part
      counted_all = rw B.is at R.counted

      counted_one : Counted (Tree.run_one s ks).sent at
      counted_one = counted_first (Tree.run_one s ks) (Tree.run_part B.rest ks) at counted_all

      room_behind : (p : List ℕ) (next : ℕ) → p ≡ behind_statement r part → (Tree.run_one s ks).moved ≡ none → next ≡ at + length (sent_bytes (Tree.run_one s ks).sent) → Room sets g list p next
      room_behind p next ep h f =
          room p next B.rest (rw ep B.reads) (counted_on (Tree.run_one s ks) (Tree.run_part B.rest ks) h at next f counted_all)

    -- a do
    module _ (m : ℕ) (c : Pattern) (e : Do m c ≡ statement_record part) where
      pub room_send : Counted (Tree.sent_to m (pattern_as c) 0 ks) at
      unfolding Tree.run_one
      room_send = counted_one (Do m c) (send m (pattern_as c)) (read_do g part R.tree R.reads m c e)

      pub room_sent : {before mid : List ℕ} (p : List ℕ) (next : ℕ) → Writes (Tree.sent_to m (pattern_as c) 0 ks) before mid at next → p ≡ behind_statement (Do m c) part → Room sets g list p next
      unfolding Tree.run_one
      room_sent p next w ep = room_behind (Do m c) (send m (pattern_as c)) (read_do g part R.tree R.reads m c e) p next ep refl w.place

    -- an if
    module _ (b : Branch) (e : If b ≡ statement_record part) where
      pub room_in : (x : Bool) (p : List ℕ) → x ≡ truth_of sets (guard_from g b.guard) → p ≡ either x (then_part b part) (else_part b part) → Room sets g list p at
      room_in x p ex ep =
          let c = counted_one (If b) (the_if b e R.tree R.reads) (read b e R.tree R.reads).begins in
          room p at (side b e R.tree R.reads sets R.crewed x ex) (side_reads b e R.tree R.reads sets R.crewed x ex p ep)
          (rw (side_runs b e R.tree R.reads sets R.crewed x ex) at c)

      pub room_ran : {before mid : List ℕ} {ran : Ran} (p : List ℕ) → RunsIf g list part before mid at ran → ran.moved ≡ None → p ≡ behind_statement (If b) part → Room sets g list p ran.at
      room_ran {ran = ran} p done h ep =
          let D = if_done b e R.tree R.reads done in
          room_behind (If b) (the_if b e R.tree R.reads) (read b e R.tree R.reads).begins p ran.at ep (sym D.moved ∙ rw h) D.writes.place

  -- the ways out of `run_if`
  pub run_in : (b : Branch) → If b ≡ statement_record part → (sets : List ℕ) → Crewed sets ks → (x : Bool) → x ≡ truth_of sets (guard_from g b.guard) → {before after : List ℕ} {ran : Ran} (p : List ℕ)
      → p ≡ either x (then_part b part) (else_part b part) → RunsPart g list p before after at ran → RunsIf g list part before after at ran
  run_in b e sets c x ex p ep on s q h =
      let z : s ≡ the_if b e (s then q) h = let w = (read b e (s then q) h).begins.is in cc in
      rw (z, side_runs b e (s then q) h sets c x ex) (on (side b e (s then q) h sets c x ex) (side_reads b e (s then q) h sets c x ex p ep))

  -- the ways out of `run_list`
  module _ (before : List ℕ) where
    pub run_nothing : Unknown ≡ statement_record part → RunsPart g list part before before at (record { at = at; moved = None })
    unfolding Tree.run_part sent_bytes
    run_nothing e p h = rw (read_end g part p h e) (record { writes = record { buffer = refl; place = omega arith }; moved = refl })

    pub run_go : (t : OwnState) → MoveTo t ≡ statement_record part → RunsPart g list part before before at (record { at = at; moved = Some t })
    unfolding Tree.run_part Tree.run_one sent_bytes
    run_go t e p h = rw (read_move g part p h t e).is (record { writes = record { buffer = refl; place = omega arith }; moved = refl })

    pub run_sent : (m : ℕ) (c : Pattern) → Do m c ≡ statement_record part → {mid after : List ℕ} {next : ℕ} {last : Ran} (rest : List ℕ) → Writes (Tree.sent_to m (pattern_as c) 0 ks) before mid at next
        → rest ≡ behind_statement (Do m c) part → RunsPart g list rest mid after next last → RunsPart g list part before after at last
    unfolding Tree.run_part Tree.run_one
    run_sent m c e rest w er on p h =
        let B = read_do g part p h m c e in
        rw B.is (does_on (Tree.run_one (send m (pattern_as c)) ks) (Tree.run_part B.rest ks) refl w (on B.rest (rw er B.reads)))

    module _ (b : Branch) (e : If b ≡ statement_record part) {mid : List ℕ} {ran : Ran} (done : RunsIf g list part before mid at ran) where
      pub run_moved : (t : OwnState) → ran.moved ≡ Some t → RunsPart g list part before mid at ran
      unfolding Tree.run_part
      run_moved t em p h =
          let B = (read b e p h).begins in
          let D = if_done b e p h done in
          let z : some t.0 ≡ (Tree.run_one (the_if b e p h) ks).moved = rw em at D.moved in
          rw B.is (does_stop (Tree.run_one (the_if b e p h) ks) (Tree.run_part B.rest ks) t.0 (sym z) D)

      pub run_on : {after : List ℕ} {last : Ran} (rest : List ℕ) → ran.moved ≡ None → rest ≡ behind_statement (If b) part → RunsPart g list rest mid after ran.at last → RunsPart g list part before after at last
      unfolding Tree.run_part
      run_on rest em er on p h =
          let B = (read b e p h).begins in
          let D = if_done b e p h done in
          rw B.is (does_on (Tree.run_one (the_if b e p h) ks) (Tree.run_part B.rest ks) (sym D.moved ∙ rw em) D.writes (on B.rest (rw er B.reads)))
