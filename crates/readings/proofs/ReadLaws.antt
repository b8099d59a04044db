-- What was read: the sheet of the text's class, accepted and standing for it, and the table of its own states' names.
-- Assumes nothing.
use Prim.Native.Nat.{ℕ, ◌*◌, ◌≤◌}
use native.Mathlib.Omega.{arith}
use mathlib.Core.Path.{◌≡◌, refl, sym, ◌∙◌, ap, subst}
use mathlib.Core.Bool.{true}
use mathlib.Core.List.{List}
use mathlib.Core.Logic.{inl, inr}
use lib.Dec.{leb}
use lib.ListN.{length, take, drop, length-append, length-drop, length-map}
use lib.Seq.{take_at, drop_at}
use borrow.Author.Tests.{leb-true}
use Rattle.model.specs.Words.{Bytes}
use Rattle.model.specs.Tree.{Class}
use Rattle.model.specs.Replies.{Reply, written}
use Rattle.model.proofs.Words.{clash, and_left, and_right}
use Rattle.grammar.specs.Grammar.{Text}
use Rattle.grammar.specs.Reading.{Says}
use Rattle.grammar.proofs.OneWay.{one_way}
use Rattle.sheet.specs.Rules.{refusal, Accepted}
use Rattle.sheet.specs.Reading.{class_of}
use Rattle.sheet.specs.Asked.{on_sheet}
use Rattle.naming.specs.NameLists.{Lists, lists_right, lists_within, records_in, list_right}
use Rattle.naming.specs.Naming.{all_states, own_names, state_of, class_in, table_of}
use Rattle.naming.specs.Known.{text_known}
use Rattle.naming.proofs.NumbersRight.{class_encoded}
use Rattle.naming.proofs.TableLaws.{table_long, table_records, table_right, known_once}
use Rattle.encoding.specs.Limits.{within_limits}
use Rattle.encoding.specs.Encoded.{Encoded}
use Rattle.readings.specs.Readings.{Lent, wrong, read, Outcome, class_for, sheet_for, own_states, known, within, room, filled, outcome, Answers}
use Rattle.readings.specs.Reads.{ReadRight, Reads}
use Rattle.readings.proofs.RowLaws.{one_of_each, rows}

-- bytes that are written at the head of a buffer with room for them stand there, the others are kept, and so is the length
pub written_head : (bytes out : List ℕ) (n : ℕ) → length bytes ≡ n → take n (written bytes out) ≡ bytes
written_head bytes out n e = take_at bytes (drop (length bytes) out) n e

pub written_kept : (bytes out : List ℕ) (n : ℕ) → length bytes ≡ n → drop n (written bytes out) ≡ drop n out
written_kept bytes out n e = drop_at bytes (drop (length bytes) out) n e ∙ ap (λ (k : ℕ). drop k out) e

pub written_long : (bytes out : List ℕ) → length bytes ≤ length out → length (written bytes out) ≡ length out
written_long bytes out l = omega (arith, length-append bytes (drop (length bytes) out), length-drop (length bytes) out)

-- what is asked of an accepted sheet is asked of its class
asked_of : {A : Type 0} (b : List ℕ) → Accepted b → (rest : Class → Reply A) → on_sheet b rest ≡ rest (class_of b)
unfolding on_sheet
asked_of b a rest = rw a

-- the class has a state for each name
pub states_counted : (l : Lists) (t : Text) → length (own_names t) ≡ length (class_in l t).states
unfolding own_names class_in
states_counted l t = length-map (all_states t) (λ s. s.own) ∙ sym (length-map (all_states t) (state_of l (own_names t)))

module _ (q : Lent) (bytes : Bytes q.lists.classes) (t : Text) (says : Says q.text t)
    (k : known q t ≡ true) (w : within q t ≡ true) (r : room q t ≡ true) where
  named : text_known q.lists t ≡ true
  unfolding known
  named = and_right (lists_right q.lists) (text_known q.lists t) k

  pub sheet_right : Encoded (class_for q t)
  unfolding within
  sheet_right =
      let few = lists_within q.lists in
      let limits = within_limits (class_for q t) in
      class_encoded q.text q.lists t says bytes (and_left few limits w) named (and_right few limits w)

  sheet_room : length (sheet_for q t) ≤ length q.sheet
  unfolding room
  sheet_room =
      let s = leb (length (sheet_for q t)) (length q.sheet) in
      leb-true (length (sheet_for q t)) (length q.sheet) (and_left s (leb (32 * own_states t) (length q.table)) r)

  table_room : 32 * own_states t ≤ length q.table
  unfolding room
  table_room =
      let s = leb (length (sheet_for q t)) (length q.sheet) in
      leb-true (32 * own_states t) (length q.table) (and_right s (leb (32 * own_states t) (length q.table)) r)

  filled_right : ReadRight q (filled q t) (length (sheet_for q t)) (own_states t) t
  unfolding filled
  filled_right =
      let head = written_head (sheet_for q t) q.sheet (length (sheet_for q t)) refl in
      let long = table_long q.text t says in
      let names = written_head (table_of t) q.table (32 * own_states t) long in
      let stands : class_of (take (length (sheet_for q t)) (written (sheet_for q t) q.sheet)) ≡ class_for q t = ap class_of head ∙ sheet_right.stands in
      let accepted : Accepted (take (length (sheet_for q t)) (written (sheet_for q t) q.sheet)) = ap refusal head ∙ sheet_right.accepted in
      record {
        says = says;
        only = λ u v. one_way.one_tree q.text u t v says;
        sheet = head;
        accepted = accepted;
        stands = stands;
        sheet_kept = written_kept (sheet_for q t) q.sheet (length (sheet_for q t)) refl;
        sheet_long = written_long (sheet_for q t) q.sheet sheet_room;
        asked = λ rest. asked_of _ accepted rest ∙ ap rest stands;
        states = refl;
        class_states = states_counted q.lists t;
        table = ap (records_in 32) names ∙ table_records q.text t says;
        table_right = ap (list_right 32) names ∙ table_right q.text t says (known_once q.lists t named);
        table_kept = written_kept (table_of t) q.table (32 * own_states t) long;
        table_long = written_long (table_of t) q.table (let z = table_room in omega arith);
      }

  outcome_filled : outcome q t ≡ filled q t
  unfolding outcome
  outcome_filled = rw (k, w, r)

-- the same of an outcome that is that
moved : (q : Lent) (o : Outcome) (L S : ℕ) (t : Text) → o ≡ filled q t → o.reading ≡ read L S
    → ReadRight q (filled q t) (length (sheet_for q t)) (own_states t) t → ReadRight q o L S t
unfolding filled
moved q o L S t f h x =
    let z : read (length (sheet_for q t)) (own_states t) ≡ read L S = sym (ap (λ (y : Outcome). y.reading) f) ∙ h in
    let l : length (sheet_for q t) ≡ L = cc in
    let s : own_states t ≡ S = cc in
    subst (λ (y : Outcome). ReadRight q y L S t) (sym f)
    (subst (λ (n : ℕ). ReadRight q (filled q t) L n t) s (subst (λ (n : ℕ). ReadRight q (filled q t) n (own_states t) t) l x))

-- of every answer that says read
right : (q : Lent) (o : Outcome) → Bytes q.lists.classes → Answers q o → (L S : ℕ) → o.reading ≡ read L S → (t : Text) × ReadRight q o L S t
right q o bytes (inl (p, w, e)) L S h = absurd (let z : wrong p ≡ read L S = sym (ap (λ (x : Outcome). x.reading) e) ∙ h in clash (cc))
right q o bytes (inr (t, s, e)) L S h =
    let (k, w, r) = ((rows q o (inr (t, s, e))).read_exactly t s).0 (L, S, h) in
    (t, moved q o L S t (e ∙ outcome_filled q bytes t s k w r) h (filled_right q bytes t s k w r))

pub reads : Reads
reads = record { one = one_of_each; rows = rows; right = right }
