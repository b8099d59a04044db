-- One turn of the loop that writes the when clauses, and its end.
-- Assumes nothing.
use Prim.Native.Nat.{ℕ, ◌+◌, ◌<◌, ◌≤◌}
use native.Mathlib.Omega.{arith}
use mathlib.Core.Path.{◌≡◌, refl, sym, ◌∙◌, ap}
use mathlib.Core.List.{List, [], ◌∷◌, ◌++◌}
use lib.Dec.{eqb}
use lib.ListN.{length}
use lib.Seq.{length-sets}
use borrow.Author.Tests.{ne_eqb, eq-eqb}
use Rattle.model.specs.Words.{kept}
use Rattle.model.proofs.Words.{choose_case}
use Rattle.grammar.specs.Grammar.{Name, Text, text_words}
use Rattle.grammar.specs.Words.{words, position}
use Rattle.grammar.specs.Kinds.{kind_of}
use Rattle.grammar.specs.Reading.{Says}
use Rattle.naming.specs.Naming.{own_names, class_in}
use Rattle.naming.specs.Known.{among}
use Rattle.words.specs.Scanning.{words_from, tokens_from, stretch, end_kind, Next}
use Rattle.words.proofs.Turns.{turn, last, kind_as}
use Rattle.lists.specs.Lent.{found_from}
use Rattle.own.proofs.Trees.{own_from}
use Rattle.encoding.specs.Records.{fours}
use Rattle.encoding.specs.Encoding.{when_records}
use Rattle.pen.specs.Writing.{last_place, Puts}
use Rattle.pen.proofs.Puts.{Writing, writing_more, writing_end}
use Rattle.whens.specs.Ahead.{guard_kind, guards_after, number_among}
use Rattle.whens.specs.Whens.{whens_from, own_number, when_at, whens_left, WritesWhens}
use Rattle.whens.proofs.WhenLaws.{Finds, text_whens}

-- the words of a text that says a tree
pub all_words : (text : List ℕ) (t : Text) → Says text t → tokens_from text 0 ≡ text_words t
unfolding tokens_from words_from words
all_words text t s = sym s

-- a name that is among others has its number
pub among_found : (ns : List Name) → Finds (number_among ns) ns
unfolding found_from among
among_found ns n k = rw k (let z : 0 + position ns n ≡ position ns n = omega arith in z)

-- own states have their numbers
pub own_found : (text : List ℕ) (t : Text) → Says text t → Finds (own_number text) (own_names t)
unfolding own_number
own_found text t s n k = rw (own_from text t s) (among_found (own_names t) n k)

pub guards_up : (n k : ℕ) → guards_after n k ≤ n + 1
unfolding guards_after
guards_up n k = choose_case (λ (m : ℕ). m ≤ n + 1) (guard_kind k) (λ _. n + 1) (λ _. n) (λ e. omega arith) (λ e. omega arith)

-- what the loop keeps
pub record Turning (text before : List ℕ) (at : ℕ) (out : List ℕ) (here n end : ℕ) : Type 0 where
  pub same_length : length out ≡ length before
  pub few : n ≤ here
  pub fits : end ≤ last_place
  pub writing : Writing (fours (whens_left text 0 0)) before at (fours (whens_left text here n)) out end

pub first_turn : (text out : List ℕ) (at : ℕ) → at ≤ last_place → Turning text out at out 0 0 at
first_turn text out at f = record { same_length = refl; few = omega arith; fits = f; writing = λ after r p. p }

module _ (text before : List ℕ) (at : ℕ) (out : List ℕ) (here n end k start to : ℕ) (T : Turning text before at out here n end) (N : Next text here k start to) where
  pub whens_end : k ≡ end_kind → length out ≤ last_place → WritesWhens text before at out end
  unfolding whens_from fours kind_of guards_after
  whens_end h a l t s known within =
      let e : fours (whens_left text here n) ≡ [] = rw (last text here k start to N h) in
      let P : Puts (fours (whens_left text 0 0)) before at out end = writing_end T.writing e a T.fits in
      let W : whens_left text 0 0 ≡ when_records (class_in l t) =
      ap (whens_from (own_number text) number_among 0) (all_words text t s) ∙ text_whens l t (own_number text) number_among (own_found text t s) among_found known within in
      rw W at P

  pub count_room : (k ≡ end_kind → ⊥) → n < length text
  count_room h =
      let a = N.moves h in
      let b = N.onward in
      let i = N.inside h in
      let c = T.few in
      omega arith

  module _ (h : k ≡ end_kind → ⊥) (m : ℕ) (g : m ≡ guards_after n k) where
    few_on : m ≤ to
    few_on =
        let u = guards_up n k in
        let a = N.moves h in
        let b = N.onward in
        let c = T.few in
        omega arith

    left_on : fours (whens_left text here n) ≡ fours (kept (eqb k 7) (when_at text to n) (whens_left text to m))
    unfolding whens_from
    left_on = rw (turn text here k start to N h, kind_as k (stretch text start to), ← g)

    pub whens_pass : (k ≡ 7 → ⊥) → Turning text before at out to m end
    whens_pass f =
        let e : fours (whens_left text here n) ≡ fours (whens_left text to m) = left_on ∙ rw (ne_eqb k 7 f) in
        record { same_length = T.same_length; few = few_on; fits = T.fits; writing = λ after r p. T.writing after r (rw e p) }

    pub whens_put : k ≡ 7 → (next : List ℕ) (r : ℕ) → Puts (fours (when_at text to n ∷ [])) out end next r → Turning text before at next to m r
    unfolding fours
    whens_put f next r P =
        let e : fours (whens_left text here n) ≡ fours (when_at text to n ∷ []) ++ fours (whens_left text to m) = left_on ∙ rw (eq-eqb k 7 f) in
        record {
          same_length = ap length P.buffer ∙ (length-sets out end (fours (when_at text to n ∷ [])) ∙ T.same_length);
          few = few_on;
          fits = (let p = P.place in omega arith);
          writing = writing_more T.writing e P;
        }
