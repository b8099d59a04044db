-- One turn of the loop that writes the statements, and its end.
-- Assumes nothing.
use Prim.Native.Nat.{ℕ, ◌+◌, ◌<◌, ◌≤◌}
use native.Mathlib.Omega.{arith}
use mathlib.Core.Path.{◌≡◌, refl, ◌∙◌, ap}
use mathlib.Core.Bool.{Bool, true, false, ◌&&◌}
use mathlib.Core.List.{List, [], ◌∷◌, ◌++◌}
use lib.ListN.{length}
use lib.Seq.{length-sets}
use Rattle.model.specs.Words.{kept}
use Rattle.grammar.specs.Grammar.{fixed, end_word}
use Rattle.grammar.specs.Words.{position}
use Rattle.grammar.specs.Kinds.{kind_of}
use Rattle.naming.specs.NameLists.{padded, records_in, number_in, listed_in}
use Rattle.naming.specs.Naming.{class_in}
use Rattle.words.specs.Scanning.{stretch, end_kind, Next}
use Rattle.words.proofs.Turns.{turn, last, kind_as}
use Rattle.lists.specs.Lent.{lent, found_from}
use Rattle.encoding.specs.Records.{eights}
use Rattle.encoding.specs.Encoding.{statement_records}
use Rattle.pen.specs.Writing.{last_place, Puts}
use Rattle.pen.proofs.Puts.{Writing, writing_more, writing_end}
use Rattle.whens.specs.Ahead.{guards_after}
use Rattle.whens.specs.Whens.{own_number}
use Rattle.whens.proofs.WritingLaws.{all_words, own_found, guards_up}
use Rattle.statements.specs.Statements.{is_statement, on_after, statements_from, number_of, statement_at, statements_left, WritesStatements}
use Rattle.statements.proofs.StatementLaws.{FindsIn, text_statements}

-- a listed name has its number
listed_found : (size : ℕ) (list : List ℕ) → FindsIn (number_of size list) (records_in size list)
unfolding number_of found_from listed_in number_in
listed_found size list n e = rw e (let z : 0 + position (records_in size list) (padded n) ≡ position (records_in size list) (padded n) = omega arith in z)

module _ (text commands classes : List ℕ) where
  abbrev left : Bool → ℕ → ℕ → List ℕ
  left on here n = eights (statements_left text commands classes on here n)

  -- at the end nothing is left
  none_left : (on : Bool) (n : ℕ) → statements_from (own_number text) (number_of 32 commands) (number_of 36 classes) on n (fixed end_word ∷ []) ≡ []
  unfolding statements_from kind_of
  none_left true n = refl
  none_left false n = refl

  -- what the loop keeps
  pub record Turning (before : List ℕ) (at : ℕ) (out : List ℕ) (here : ℕ) (on : Bool) (n end : ℕ) : Type 0 where
    pub same_length : length out ≡ length before
    pub few : n ≤ here
    pub fits : end ≤ last_place
    pub writing : Writing (left false 0 0) before at (left on here n) out end

  pub first_turn : (out : List ℕ) (at : ℕ) → at ≤ last_place → Turning out at out 0 false 0 at
  first_turn out at f = record { same_length = refl; few = omega arith; fits = f; writing = λ after r p. p }

  module _ (before : List ℕ) (at : ℕ) (out : List ℕ) (here : ℕ) (on : Bool) (n end k start to : ℕ) (T : Turning before at out here on n end) (N : Next text here k start to) where
    pub statements_end : k ≡ end_kind → length out ≤ last_place → WritesStatements text commands classes before at out end
    unfolding eights
    statements_end h a names t s known within =
        let e : left on here n ≡ [] = rw (last text here k start to N h) (ap eights (none_left on n)) in
        let P : Puts (left false 0 0) before at out end = writing_end T.writing e a T.fits in
        let W : statements_left text commands classes false 0 0 ≡ statement_records (class_in (lent names commands classes) t) =
        ap (statements_from (own_number text) (number_of 32 commands) (number_of 36 classes) false 0) (all_words text t s)
        ∙ text_statements (lent names commands classes) t (own_number text) (number_of 32 commands) (number_of 36 classes) (own_found text t s)
        (listed_found 32 commands) (listed_found 36 classes) known within in
        rw W at P

    pub count_room : (k ≡ end_kind → ⊥) → n < length text
    count_room h =
        let a = N.moves h in
        let b = N.onward in
        let i = N.inside h in
        let c = T.few in
        omega arith

    module _ (h : k ≡ end_kind → ⊥) (m : ℕ) (g : m ≡ guards_after n k) (next_on : Bool) (o : next_on ≡ on_after on k) where
      few_on : m ≤ to
      few_on =
          let u = guards_up n k in
          let a = N.moves h in
          let b = N.onward in
          let c = T.few in
          omega arith

      left_on : left on here n ≡ eights (kept (on && is_statement k) (statement_at text commands classes to n k) (statements_left text commands classes next_on to m))
      unfolding statements_from
      left_on = rw (turn text here k start to N h, kind_as k (stretch text start to), ← g, ← o)

      pub statements_pass : (on && is_statement k) ≡ false → Turning before at out to next_on m end
      statements_pass f =
          let e : left on here n ≡ left next_on to m = left_on ∙ rw f in
          record { same_length = T.same_length; few = few_on; fits = T.fits; writing = λ after r p. T.writing after r (rw e p) }

      pub statements_put : (on && is_statement k) ≡ true → (next : List ℕ) (r : ℕ) → Puts (eights (statement_at text commands classes to n k ∷ [])) out end next r
          → Turning before at next to next_on m r
      unfolding eights
      statements_put f next r P =
          let e : left on here n ≡ eights (statement_at text commands classes to n k ∷ []) ++ left next_on to m = left_on ∙ rw f in
          record {
            same_length = ap length P.buffer ∙ (length-sets out end (eights (statement_at text commands classes to n k ∷ [])) ∙ T.same_length);
            few = few_on;
            fits = (let p = P.place in omega arith);
            writing = writing_more T.writing e P;
          }
