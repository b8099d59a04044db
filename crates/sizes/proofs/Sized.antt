-- What the words of a text come to are the sizes of its class, whatever the lists.
-- Assumes nothing.
use Prim.Native.Nat.{ℕ, max}
use native.Mathlib.Omega.{arith}
use mathlib.Core.Path.{◌≡◌, sym, ◌∙◌, ap}
use mathlib.Core.Bool.{Bool, false, ◌&&◌}
use mathlib.Core.List.{List, [], ◌∷◌, map}
use lib.Dec.{leb}
use borrow.Author.Tests.{le-leb, leb-true}
use Rattle.model.specs.Words.{every}
use Rattle.model.specs.Tree.{Action}
use Rattle.model.proofs.Words.{both_ways, and_left, and_right, and_both}
use Rattle.grammar.specs.Grammar.{Text, text_words}
use Rattle.grammar.specs.Words.{words, tokens}
use Rattle.grammar.specs.Kinds.{kind_of}
use Rattle.naming.specs.NameLists.{Lists}
use Rattle.naming.specs.Naming.{all_states, own_names, state_of, class_in}
use Rattle.naming.proofs.Rows.{text_as_list}
use Rattle.encoding.specs.Limits.{part_depth, actions_of, depths_within}
use Rattle.encoding.proofs.RecordCounts.{when_number, action_number, statement_number}
use Rattle.sizes.specs.Counting.{counted, tally, nothing_yet}
use Rattle.sizes.specs.Sized.{deepest_in, sizes_in, Sized}
use Rattle.sizes.specs.declared.Sizes.{Sizes}
use Rattle.sizes.proofs.Trees.{same_sizes, with_states, states_add}

-- a text
pub text_counted : (l : Lists) (t : Text) → tally nothing_yet false 0 (text_words t) ≡ sizes_in (class_in l t)
unfolding sizes_in class_in kind_of counted tally
text_counted l t =
    let c = class_in l t in
    let e₁ = when_number c in
    let e₂ = action_number c in
    let e₃ = statement_number c in
    ap (tally nothing_yet false 0) (text_as_list t)
    ∙ (states_add l (own_names t) (all_states t) false nothing_yet
    ∙ same_sizes (with_states nothing_yet (map (state_of l (own_names t)) (all_states t))) (sizes_in c) (omega arith) (omega arith) (omega arith) (omega arith) (omega arith) (omega arith))

-- the greater of two is at most k where both are
most_of : (a b k : ℕ) → leb (max a b) k ≡ (leb a k && leb b k)
most_of a b k =
    both_ways (leb (max a b) k) (leb a k && leb b k)
    (λ h. let z = leb-true (max a b) k h in and_both (leb a k) (leb b k) (le-leb a k (omega arith)) (le-leb b k (omega arith)))
    (λ h.
    let x = leb-true a k (and_left (leb a k) (leb b k) h) in
    let y = leb-true b k (and_right (leb a k) (leb b k) h) in
    le-leb (max a b) k (omega arith))

pub deepest_within : (k : ℕ) (xs : List Action) → leb (deepest_in xs) k ≡ every (λ x. leb (part_depth x.body) k) xs
unfolding deepest_in every
deepest_within k [] = le-leb 0 k (omega arith)
deepest_within k (x ∷ xs) = most_of (part_depth x.body) (deepest_in xs) k ∙ ap (λ (b : Bool). leb (part_depth x.body) k && b) (deepest_within k xs)

-- the promise
pub sized : {b : List ℕ} {r : Sizes} → r ≡ tally nothing_yet false 0 (tokens (words b)) → Sized b r
unfolding sizes_in depths_within
sized {b} {r} h =
    let told : (l : Lists) (t : Text) → text_words t ≡ tokens (words b) → r ≡ sizes_in (class_in l t) = λ l t e. h ∙ (ap (tally nothing_yet false 0) (sym e) ∙ text_counted l t) in
    record {
      counted = h;
      of_text = told;
      depths = λ l t e. ap (λ (n : Sizes). leb n.deepest 8) (told l t e) ∙ deepest_within 8 (actions_of (class_in l t));
    }
