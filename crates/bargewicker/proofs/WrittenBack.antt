-- A written text is read back: specs/WrittenBack.antt holds.
-- Assumes nothing.
use Prim.Native.Nat.{ℕ, ◌*◌, ◌≤◌}
use mathlib.Core.Path.{◌≡◌, refl, sym, ◌∙◌, ap}
use mathlib.Core.Bool.{Bool, true, false, ◌&&◌}
use mathlib.Core.List.{List, []}
use mathlib.Core.Logic.{inl, inr}
use lib.Dec.{leb}
use lib.ListN.{length, take}
use borrow.Author.Tests.{leb-true, le-leb}
use Rattle.std.specs.Prelude.{Ok, Err}
use Rattle.model.specs.declared.Misread.TheVariants.{Refused}
use Rattle.model.specs.Answers.{ReadAnswer}
use Rattle.model.specs.Words.{Bytes}
use Rattle.model.specs.Tree.{Class}
use Rattle.model.specs.Replies.{Reply, Answered as Replied}
use Rattle.model.specs.declared.Refusal.TheVariants.{Room}
use Rattle.model.proofs.Words.{and_left, and_right, clash}
use Rattle.model.proofs.AnswerLaws.{same_judge, same_probe, same_phase_answer, same_command, same_loop, same_write}
use Rattle.model.proofs.ReplyLaws.{answered_once}
use Rattle.grammar.specs.Grammar.{Text}
use Rattle.grammar.proofs.OneWay.{one_way}
use Rattle.sheet.specs.Rules.{Accepted}
use Rattle.sheet.specs.Reading.{class_of}
use Rattle.sheet.specs.Asked.{on_sheet}
use Rattle.sheet.proofs.AskedLaws.{asked}
use Rattle.encoding.specs.Encoding.{all_guards, sheet_of}
use Rattle.encoding.specs.Within.{Within}
use Rattle.encoding.specs.Encoded.{Encoded}
use Rattle.encoding.proofs.SheetLaws.{encoded}
use Rattle.naming.specs.NameLists.{Lists, lists_right, lists_within}
use Rattle.naming.specs.Naming.{class_in}
use Rattle.readings.specs.Readings.{Lent, check, filled, outcome, known, within, room}
use Rattle.readings.specs.Promise.{came, Answered}
use Rattle.readings.proofs.ReadLaws.{reads}
use Rattle.writings.specs.Layout.{Named, class_text}
use Rattle.writings.specs.Missing.{own_right, lent_right, class_named, names_right}
use Rattle.writings.specs.Writings.{guards_few}
use Rattle.judged.specs.Judged.{Judged}
use Rattle.judged.proofs.Judged.{judged, judged_within, judged_limits}
use Rattle.readback.specs.Trees.{text_tree}
use Rattle.readback.specs.Back.{ReadBack}
use Rattle.readback.proofs.Back.{written as text_written}
use Rattle.bargewicker.specs.Questions.{Answer, judge, probe_in, phase_from, command_in, loop_with, text_of, placed, reply}
use Rattle.bargewicker.specs.Numbers.{values}
use Rattle.bargewicker.specs.WrittenBack.{Writable, sheet_back, Roomy, ReadsBack, SameAnswers, kinds_of, WrittenBack}
use Rattle.bargewicker.proofs.Unique.{reading_told}

module _ (b : List ℕ) (n : Named) (W : Writable b n) where
  abbrev c : Class
  c = class_of b

  abbrev tree : Text
  tree = text_tree n c

  -- the class is within the limits, so its own sheet stands for it
  held : Judged c
  held = judged b W.bytes W.accepted

  few : length (all_guards c) ≤ 1024
  unfolding guards_few
  few = leb-true (length (all_guards c)) 1024 W.few

  pub class_within : Within c
  class_within = judged_within c held few

  pub sheet_encoded : Encoded c
  sheet_encoded = encoded c class_within

  back : ReadBack n c
  back = text_written.read_back n c W.named held.numbers held.some_state

  -- the lists are right, and within the limits
  lent_named : lent_right n c ≡ true
  unfolding names_right
  lent_named = and_left (lent_right n c) (class_named n.lists c) (and_right (own_right n c) (lent_right n c && class_named n.lists c) W.named)

  right : lists_right n.lists ≡ true
  unfolding lent_right
  right = and_left (lists_right n.lists) _ lent_named

  short : lists_within n.lists ≡ true
  unfolding lent_right
  short = and_left (lists_within n.lists) _ (and_right (lists_right n.lists) _ lent_named)

  -- what is read back, with the same lists
  module _ (q : Lent) (same : q.lists ≡ n.lists) where
    class_back : class_in q.lists tree ≡ c
    class_back = ap (λ (l : Lists). class_in l tree) same ∙ back.class

    never_17 : known q tree ≡ true
    unfolding known
    never_17 = rw (same, right, back.known)

    never_18 : within q tree ≡ true
    unfolding within
    never_18 = rw (class_back, same, short, judged_limits c held few)

    answer : outcome q tree ≡ check q (room q tree) 15 (λ _. filled q tree)
    unfolding outcome
    answer = rw (never_17, never_18)

    roomy : room q tree ≡ leb (length (sheet_back b)) (length q.sheet) && leb (32 * length c.states) (length q.table)
    unfolding room
    roomy = rw (class_back, back.states)

    is_roomy : room q tree ≡ true → Roomy b q
    is_roomy e =
        let z = sym roomy ∙ e in
        let s = leb (length (sheet_back b)) (length q.sheet) in
        let t = leb (32 * length c.states) (length q.table) in
        (leb-true _ _ (and_left s t z), leb-true _ _ (and_right s t z))

    roomy_is : Roomy b q → room q tree ≡ true
    roomy_is (x, y) = roomy ∙ rw (le-leb _ _ x, le-leb _ _ y)

    by_room : (v : Bool) → room q tree ≡ v → (r : ReadAnswer) (sheet table : List ℕ) → came r sheet table ≡ check q v 15 (λ _. filled q tree) → ReadsBack b n q r sheet table
    unfolding filled
    by_room true e r sheet table h =
        record {
          with_room = λ _. (
            reading_told r (Ok (length (sheet_back b), length c.states)) (ap (λ o. o.reading) h ∙ rw (class_back, back.states)),
            ap (λ o. o.sheet) h ∙ rw class_back,
            ap (λ o. o.table) h ∙ rw back.table,
          );
          without = λ small. absurd (small (is_roomy e));
        }
    by_room false e r sheet table h =
        record {
          with_room = λ large. absurd (let z : false ≡ true = sym e ∙ roomy_is large in clash (cc));
          without = λ _. (reading_told r (Err (Refused Room)) (ap (λ o. o.reading) h), ap (λ o. o.sheet) h, ap (λ o. o.table) h);
        }

    pub reads_back : q.text ≡ class_text n c → (r : ReadAnswer) (sheet table : List ℕ) → Answered q r sheet table → ReadsBack b n q r sheet table
    reads_back et r sheet table (inl (p, wrong, e)) = absurd (one_way.never_both q.text tree p (rw et back.says) wrong)
    reads_back et r sheet table (inr (t, says, e)) =
        let z : t ≡ tree = one_way.one_tree q.text t tree says (rw et back.says) in
        by_room (room q tree) refl r sheet table (e ∙ ap (outcome q) z ∙ answer)

-- two accepted sheets with one tree are answered alike
module _ (b d : List ℕ) (x : Accepted b) (y : Accepted d) (same : class_of b ≡ class_of d) where
  alike : {A : Type 0} (rest : Class → Reply A) → on_sheet b rest ≡ on_sheet d rest
  alike rest = asked b rest x ∙ ap rest same ∙ sym (asked d rest y)

  -- the numbers and the buffer of one reply are those of the other
  one_reply : (p q : Reply Answer) → p ≡ q → (out ns ms u v : List ℕ) → Replied values p out ns u → Replied values q out ms v → (ns ≡ ms) × (u ≡ v)
  one_reply p q e out ns ms u v f g = answered_once values q out ns ms u v (rw e at f) g

  pub same_answers : SameAnswers b d
  unfolding reply placed
  same_answers =
      record {
        judging = λ r s u v f g. let (e, k) = one_reply (reply (judge b)) (reply (judge d)) (alike _) [] _ _ u v f g in (same_judge r s e, k);
        probing = λ l q r s u v f g. let (e, k) = one_reply (reply (probe_in b l q)) (reply (probe_in d l q)) (alike _) [] _ _ u v f g in (same_probe r s e, k);
        phasing = λ l q out r s u v f g. let (e, k) = one_reply (reply (phase_from b l q out)) (reply (phase_from d l q out)) (alike _) out _ _ u v f g in (same_phase_answer r s e, k);
        commanding = λ l q m out r s u v f g. let (e, k) = one_reply (reply (command_in b l q m out)) (reply (command_in d l q m out)) (alike _) out _ _ u v f g in (same_command r s e, k);
        looping = λ present out r s u v f g. let (e, k) = one_reply (reply (loop_with b present out)) (reply (loop_with d present out)) (alike _) out _ _ u v f g in (same_loop r s e, k);
        writing = λ n out r s u v f g. let (e, k) = one_reply (reply (text_of b n out)) (reply (text_of d n out)) (alike _) out _ _ u v f g in (same_write r s e, k);
      }

-- a sheet that came from a text is the sheet of its class
from_text : (q : Lent) (long states : ℕ) (sheet table : List ℕ) → Bytes q.lists.classes → Answered q (Ok (long, states)) sheet table → sheet_back (take long sheet) ≡ take long sheet
from_text q long states sheet table bytes a =
    let (t, right) = reads.right q (came (Ok (long, states)) sheet table) bytes a long states refl in
    ap sheet_of right.stands ∙ sym right.sheet

one_tree : (b d : List ℕ) (n : Named) → Writable b n → Writable d n → class_text n (class_of b) ≡ class_text n (class_of d) → class_of b ≡ class_of d
one_tree b d n W U e =
    let x = held b n W in
    let y = held d n U in
    text_written.same_text n (class_of b) (class_of d) W.named U.named x.numbers y.numbers x.some_state y.some_state e

pub written_back : WrittenBack
written_back =
    record {
      read_back = λ b n W q et el r sheet table a. reads_back b n W q el et r sheet table a;
      same_tree = λ b n W. ((sheet_encoded b n W).accepted, (sheet_encoded b n W).stands);
      same_answers = λ b n W. same_answers b (sheet_back b) W.accepted (sheet_encoded b n W).accepted (sym (sheet_encoded b n W).stands);
      from_text = from_text;
      one_tree = one_tree;
      quantifiers = λ b d n W U differ e. differ (ap kinds_of (one_tree b d n W U e));
      at_most = λ b n W. text_written.at_most n (class_of b) W.named (class_within b n W);
    }
