-- How large the numbers of an answer to a class text are, and how much room is enough.
-- Assumes nothing.
use Prim.Native.Nat.{ℕ, ◌*◌, ◌≤◌}
use native.Mathlib.Omega.{arith}
use mathlib.Core.Path.{◌≡◌, sym, ◌∙◌, ap, subst}
use mathlib.Core.Bool.{true}
use mathlib.Core.List.{List, [], ◌∷◌, ◌++◌}
use mathlib.Core.Logic.{inl, inr}
use lib.Dec.{leb}
use lib.ListN.{length}
use borrow.Author.Tests.{le-leb}
use Rattle.model.specs.Words.{Bytes}
use Rattle.model.proofs.Words.{clash, true_not_false, and_left, and_right, and_both}
use Rattle.grammar.specs.Grammar.{Text}
use Rattle.grammar.specs.Words.{Word, words}
use Rattle.grammar.specs.Reading.{Says, WrongAt}
use Rattle.grammar.proofs.Words.{Rising, words_rise}
use Rattle.naming.specs.NameLists.{lists_right, lists_within}
use Rattle.naming.specs.Known.{text_known}
use Rattle.naming.proofs.NumbersRight.{class_within}
use Rattle.encoding.specs.Limits.{within_limits}
use Rattle.encoding.specs.Within.{Within}
use Rattle.encoding.proofs.SheetLaws.{laid}
use Rattle.readings.specs.Readings.{Lent, wrong, refused, read, Outcome, class_for, sheet_for, own_states, known, within, room, filled, outcome, Answers}
use Rattle.readings.proofs.ReadLaws.{reads, states_counted}
use Rattle.bw.specs.PackedReading.{RoomEnough}

-- no word begins behind the text, so no place of 16 does
begins_inside : (before : List Word) (w : Word) (behind : List Word) (from size : ℕ) → Rising from size (before ++ (w ∷ behind)) → w.start ≤ size
unfolding Rising
begins_inside [] w behind from size (a, b, c, d) = omega arith
begins_inside (v ∷ vs) w behind from size (a, b, c, d) = begins_inside vs w behind v.end size d

pub place_inside : (b : List ℕ) (p : ℕ) → WrongAt b p → p ≤ length b
unfolding words
place_inside b p w =
    let rising : Rising 0 (length b) (words b) = words_rise b 0 0 0 (length b) (omega arith) (omega arith) (omega arith) in
    let l = begins_inside w.before w.word w.behind 0 (length b) (subst (Rising 0 (length b)) w.split rising) in
    omega (arith, w.starts)

module _ (q : Lent) (bytes : Bytes q.lists.classes) (t : Text) (says : Says q.text t) (k : known q t ≡ true) (w : within q t ≡ true) where
  -- the class of a text whose names are known is within the limits
  fits : Within (class_for q t)
  unfolding known within
  fits =
      let few = lists_within q.lists in
      let limits = within_limits (class_for q t) in
      class_within q.text q.lists t says bytes (and_left few limits w) (and_right (lists_right q.lists) (text_known q.lists t) k) (and_right few limits w)

  -- so its sheet has at most 18,616 bytes, and it has at most 32 own states
  pub sheet_short : length (sheet_for q t) ≤ 18616
  sheet_short =
      let f = fits in
      let a = f.classes in
      let b = f.states in
      let c = f.whens in
      let d = f.guards in
      let e = f.actions in
      let g = f.statements in
      omega (arith, (laid (class_for q t)).long)

  pub states_few : own_states t ≤ 32
  states_few = let f = fits.states in omega (arith, states_counted q.lists t)

-- what a text that is read is answered
tree_read : (q : Lent) (t : Text) → known q t ≡ true → within q t ≡ true → room q t ≡ true → (outcome q t).reading ≡ read (length (sheet_for q t)) (own_states t)
unfolding outcome filled
tree_read q t k w r = rw (k, w, r)

-- the numbers of a text that was read
pub read_small : (q : Lent) (o : Outcome) → Bytes q.lists.classes → Answers q o → (l s : ℕ) → o.reading ≡ read l s → (l ≤ 18616) × (s ≤ 32)
read_small q o bytes (inl (p, w, e)) l s h = absurd (let z : wrong p ≡ read l s = sym (ap (λ (x : Outcome). x.reading) e) ∙ h in clash (cc))
read_small q o bytes (inr (t, says, e)) l s h =
    let (k, w, r) = ((reads.rows q o (inr (t, says, e))).read_exactly t says).0 (l, s, h) in
    let z : read (length (sheet_for q t)) (own_states t) ≡ read l s = sym (tree_read q t k w r) ∙ sym (ap (λ (x : Outcome). x.reading) e) ∙ h in
    let long : length (sheet_for q t) ≡ l = cc in
    let count : own_states t ≡ s = cc in
    (omega (arith, sheet_short q bytes t says k w), omega (arith, states_few q bytes t says k w))

-- with so much room 15 is never given
pub room_enough : RoomEnough
unfolding room
room_enough q o bytes sheet table (inl (p, w, e)) h = let z : wrong p ≡ refused 15 = sym (ap (λ (x : Outcome). x.reading) e) ∙ h in clash (cc)
room_enough q o bytes sheet table (inr (t, says, e)) h =
    let (k, w, r) = ((reads.rows q o (inr (t, says, e))).fifteen t says).0 h in
    let a = sheet_short q bytes t says k w in
    let b = states_few q bytes t says k w in
    let c = le-leb (length (sheet_for q t)) (length q.sheet) (omega arith) in
    let d = le-leb (32 * own_states t) (length q.table) (omega arith) in
    true_not_false (and_both (leb (length (sheet_for q t)) (length q.sheet)) (leb (32 * own_states t) (length q.table)) c d) r
