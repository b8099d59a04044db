-- Laws about writing statements as text: a law for each way out of the code that writes them.
-- Assumes nothing.
use Prim.Native.Nat.{ℕ, suc, ◌+◌, ◌<◌, ◌≤◌}
use native.Mathlib.Omega.{arith}
use native.Mathlib.Numerals.{add-one}
use mathlib.Core.Path.{◌≡◌}
use mathlib.Core.List.{List, [], ◌∷◌, ◌++◌}
use lib.ListN.{length}
use lib.Seq.{length-sets}
use Rattle.model.specs.Tree.{Statement, send, go_to, branch, Part, end, ◌then◌}
use Rattle.model.specs.declared.OwnState.{OwnState}
use Rattle.grammar.specs.Words.{spelled}
use Rattle.records.specs.Patterns.{pattern_as}
use Rattle.records.specs.declared.kinds.Pattern.{Pattern}
use Rattle.bodies.specs.PartChecks.{Reads}
use Rattle.bodies.specs.StatementReaders.{statement_record, then_part, else_part, behind_statement}
use Rattle.bodies.specs.declared.statements.Branch.{Branch}
use Rattle.bodies.specs.declared.statements.StatementRecord.{StatementRecord}
use Rattle.bodies.specs.declared.statements.StatementRecord.TheVariants.{Do, MoveTo, If, Unknown}
use Rattle.bodies.proofs.ReadLaws.{Begins, read_end, read_some, read_do, read_move, read_if}
use Rattle.bodies.proofs.ReaderLaws.{record_none}
use Rattle.naming.specs.NameLists.{Lists}
use Rattle.pen.specs.Writing.{last_place, Puts}
use Rattle.pen.proofs.Puts.{puts_none, puts_on}
use Rattle.writings.specs.Layout.{indent, line, else_text, own_text, command_text, part_text, statement_text}
use Rattle.bodytext.specs.BodyText.{do_line, move_line, if_line, PutsHead, PutsPart, PutsIf}

-- nothing behind what was written
pub puts_still : {xs l m : List ℕ} {at i : ℕ} → Puts xs l at m i → Puts [] m i m i
puts_still {xs} {l} {m} {at} {i} p =
    puts_none m i (rw (p.buffer, length-sets l at xs) p.room) (omega (arith, p.place))

-- a line
pub puts_line : (v : ℕ) {words l m n o : List ℕ} {at i j k : ℕ} → Puts (indent v) l at m i → Puts words m i n j → Puts (10 ∷ []) n j o k → Puts (line v words) l at o k
unfolding line
puts_line v a b c = puts_on (puts_on a b) c

-- a turn of the loop: whoever writes the rest of the list from here on has written the list
pub record Putting (g part : List ℕ) (v : ℕ) (own : List ℕ) (l : Lists) (before : List ℕ) (at : ℕ) (rest mid : List ℕ) (next : ℕ) : Type 0 where
  pub short : length rest ≤ length part
  pub small : next ≤ last_place
  pub on : (after : List ℕ) (last : ℕ) → PutsPart g rest v own l mid next after last → PutsPart g part v own l before at after last

module _ {g part : List ℕ} {v : ℕ} {own : List ℕ} {l : Lists} {before : List ℕ} {at : ℕ} where
  pub putting_none : at ≤ last_place → Putting g part v own l before at part before at
  putting_none k = record { short = omega arith; small = k; on = λ after last h. h }

  pub putting_on : {rest mid after : List ℕ} {next last : ℕ} → Putting g part v own l before at rest mid next → (behind : List ℕ) → length behind ≤ length rest → last ≤ last_place
      → ((end : List ℕ) (to : ℕ) → PutsPart g behind v own l after last end to → PutsPart g rest v own l mid next end to) → Putting g part v own l before at behind after last
  putting_on p behind h k f = let s = p.short in record { short = omega arith; small = k; on = λ end to x. p.on end to (f end to x) }

module _ (own : List ℕ) (l : Lists) (g part : List ℕ) (v : ℕ) where
  -- the end of a list
  pub part_none : (before : List ℕ) (at : ℕ) → length before ≤ last_place → at ≤ last_place → Unknown ≡ statement_record part → PutsPart g part v own l before at before at
  unfolding part_text
  part_none before at h k e p r = rw (read_end g part p r e) (puts_none before at h k)

  -- a statement, and the list behind it
  one_on : (r : StatementRecord) {before mid after : List ℕ} {at next last : ℕ} (rest : List ℕ) → rest ≡ behind_statement r part → PutsPart g rest v own l mid next after last
      → (p : Part) (s : Statement) → Begins g part r p s → Puts (statement_text own l s v) before at mid next → Puts (part_text own l p v) before at after last
  unfolding part_text
  one_on r rest er on p s B done = rw B.is (puts_on done (on B.rest (rw er B.reads)))

  pub do_on : (m : ℕ) (c : Pattern) → Do m c ≡ statement_record part → {before mid after : List ℕ} {at next last : ℕ} (rest : List ℕ)
      → Puts (do_line v l.commands l.classes m (pattern_as c)) before at mid next → rest ≡ behind_statement (Do m c) part → PutsPart g rest v own l mid next after last
      → PutsPart g part v own l before at after last
  unfolding statement_text do_line command_text
  do_on m c e rest done er on p h = one_on (Do m c) rest er on p (send m (pattern_as c)) (read_do g part p h m c e) done

  pub move_on : (t : OwnState) → MoveTo t ≡ statement_record part → {before mid after : List ℕ} {at next last : ℕ} (rest : List ℕ)
      → Puts (move_line v own t.0) before at mid next → rest ≡ behind_statement (MoveTo t) part → PutsPart g rest v own l mid next after last
      → PutsPart g part v own l before at after last
  unfolding statement_text move_line own_text
  move_on t e rest done er on p h = one_on (MoveTo t) rest er on p (go_to t.0) (read_move g part p h t e) done

  pub if_on : (b : Branch) → If b ≡ statement_record part → {before mid after : List ℕ} {at next last : ℕ} (rest : List ℕ)
      → PutsIf g part v own l before at mid next → rest ≡ behind_statement (If b) part → PutsPart g rest v own l mid next after last
      → PutsPart g part v own l before at after last
  if_on b e rest done er on p h =
      let R = read_if g part p h b e in
      let s = branch R.guard R.first R.second in
      one_on (If b) rest er on p s R.begins (done s R.begins.rest (rw R.begins.is at h))

  -- an if: its line, its parts, its end
  module _ (b : Branch) (e : If b ≡ statement_record part) {before m0 m1 : List ℕ} {at i0 i1 : ℕ}
      (head : PutsHead g b.guard v l.names l.classes before at m0 i0)
      (thens : List ℕ) (et : thens ≡ then_part b part) (first : PutsPart g thens (v + 1) own l m0 i0 m1 i1)
      (elses : List ℕ) (ee : elses ≡ else_part b part) where
    -- the if that the list begins with
    abbrev the_if : (p : Part) → Reads g part p → Statement
    the_if p h = let R = read_if g part p h b e in branch R.guard R.first R.second

    abbrev second : (p : Part) → Reads g part p → Part
    second p h = (read_if g part p h b e).second

    front : (p : Part) (h : Reads g part p)
        → Puts (if_line v l.names l.classes (read_if g part p h b e).guard ++ part_text own l (read_if g part p h b e).first (suc v)) before at m1 i1
    front p h =
        let R = read_if g part p h b e in
        let z = add-one v in
        puts_on (head R.guard R.stop R.guard_reads) (rw z at (first R.first (rw et R.first_reads)))

    is_if : (s : Statement) (p : Part) (h : Reads g part (s then p)) → s ≡ the_if (s then p) h
    is_if s p h = let w = (read_if g part (s then p) h b e).begins.is in cc

    -- with what was written between its parts
    closed : (p : Part) (h : Reads g part p) {m2 m3 : List ℕ} {i2 i3 : ℕ} → Puts (else_text (second p h) v (part_text own l (second p h) (suc v))) m1 i1 m2 i2
        → Puts (line v (spelled "endif")) m2 i2 m3 i3 → Puts (statement_text own l (the_if p h) v) before at m3 i3
    unfolding statement_text if_line
    closed p h between stop = puts_on (puts_on (front p h) between) stop

    -- no else-part
    pub if_alone : {m2 : List ℕ} {i2 : ℕ} → length elses < 8 → Puts (line v (spelled "endif")) m1 i1 m2 i2 → PutsIf g part v own l before at m2 i2
    if_alone short stop s p h =
        let R = read_if g part (s then p) h b e in
        let z : second (s then p) h ≡ end = read_end g elses _ (rw ee R.second_reads) (record_none elses short) in
        rw (is_if s p h) (closed (s then p) h (rw z (puts_still (front (s then p) h))) stop)

    -- an else-part
    pub if_both : {m2 m3 m4 : List ℕ} {i2 i3 i4 : ℕ} → 8 ≤ length elses → Puts (line v (spelled "else")) m1 i1 m2 i2 → PutsPart g elses (v + 1) own l m2 i2 m3 i3
        → Puts (line v (spelled "endif")) m3 i3 m4 i4 → PutsIf g part v own l before at m4 i4
    if_both {m2} {m3} {i2 = i2} {i3 = i3} long other on stop s p h =
        let R = read_if g part (s then p) h b e in
        let r : Reads g elses R.second = rw ee R.second_reads in
        let (t, q, z) = read_some g elses R.second r long in
        let body : Puts (part_text own l (t then q) (suc v)) m2 i2 m3 i3 = rw (z, add-one v) at (on R.second r) in
        rw (is_if s p h) (closed (s then p) h (rw z (puts_on other body)) stop)
