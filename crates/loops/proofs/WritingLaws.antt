-- Laws about the list that is written: a pair more behind what is written.
-- Assumes nothing.
use Prim.Native.Nat.{ℕ, suc, ◌+◌, ◌*◌, ◌/◌, ◌%◌, ◌^◌, ◌<◌, ◌≤◌}
use native.Mathlib.Omega.{arith}
use native.Mathlib.Numerals.{add-one}
use mathlib.Core.Path.{◌≡◌, refl, sym, ap, ◌∙◌}
use mathlib.Core.Bool.{Bool, true, false}
use mathlib.Core.List.{List, [], ◌∷◌, ◌++◌, append-nil}
use lib.Dec.{eqb}
use lib.Bits.{bit_and}
use lib.ListN.{length, get_or, set, length-append, length-set}
use borrow.Author.Tests.{ne_eqb}
use Rattle.model.specs.Words.{has, kept, listed}
use Rattle.model.specs.Tree.{Child}
use Rattle.model.specs.Replies.{written}
use Rattle.model.proofs.Bits.{has_half}
use Rattle.model.proofs.Lists.{length_listed, listed_more}
use Rattle.model.proofs.Masks.{has_zero, shifted}
use Rattle.children.specs.ChildList.{pairs}
use Rattle.configurations.specs.Configurations.{chosen}
use Rattle.configurations.specs.Cells.{cells_from}

-- what is chosen of a list with one entry more
chosen_more : (xs : List Child) (k : ℕ) (x : Child) → chosen (xs ++ (x ∷ [])) k ≡ chosen xs k ++ kept (has k (length xs)) x []
unfolding chosen
chosen_more [] k x = rw (has_zero k)
chosen_more (y ∷ xs) k x = rw (chosen_more xs (k / 2) x, has_half k (length xs)) (go (eqb (k % 2) 1))
  where
    go : (t : Bool) → kept t y (chosen xs (k / 2) ++ kept (has (k / 2) (length xs)) x []) ≡ kept t y (chosen xs (k / 2)) ++ kept (has (k / 2) (length xs)) x []
    go true = refl
    go false = refl

pairs_append : (xs ys : List Child) → pairs (xs ++ ys) ≡ pairs xs ++ pairs ys
unfolding pairs
pairs_append [] ys = refl
pairs_append (x ∷ xs) ys = ap (λ (l : List ℕ). x.class ∷ x.name ∷ l) (pairs_append xs ys)

-- a pair written behind what is written
pair_behind : (bytes out : List ℕ) (v w : ℕ) → length bytes + 2 ≤ length out
    → set (set (written bytes out) (length bytes) v) (suc (length bytes)) w ≡ written (bytes ++ (v ∷ w ∷ [])) out
pair_behind [] [] v w l = absurd (omega arith)
pair_behind [] (x ∷ []) v w l = absurd (omega arith)
pair_behind [] (x ∷ y ∷ out) v w l = refl
pair_behind (x ∷ bytes) [] v w l = absurd (omega arith)
pair_behind (x ∷ bytes) (y ∷ out) v w l = ap (◌∷◌ x) (pair_behind bytes out v w (omega arith))

written_pair : (bytes out : List ℕ) (v w n : ℕ) → n ≡ length bytes → n + 2 ≤ length out
    → set (set (written bytes out) n v) (n + 1) w ≡ written (bytes ++ (v ∷ w ∷ [])) out
written_pair bytes out v w n e l = rw (add-one, e) (pair_behind bytes out v w (omega arith))

-- the list of the first i cells, chosen by k, as pairs
abbrev pub pairs_of : List ℕ → List ℕ → ℕ → ℕ → List ℕ
pairs_of cs ns k i = pairs (chosen (cells_from cs ns i) k)

-- it is written at the head of the buffer, and the next pair goes behind it
pub record Writing (cs ns : List ℕ) (n k : ℕ) (out₀ out : List ℕ) (place i : ℕ) : Type 0 where
  pub inside : i ≤ n
  pub room : 2 * n ≤ length out₀
  pub low : place ≤ 2 * i
  pub behind : place ≡ length (pairs_of cs ns k i)
  pub content : out ≡ written (pairs_of cs ns k i) out₀
  pub same : length out ≡ length out₀

module _ (cs ns : List ℕ) (n k : ℕ) (out₀ : List ℕ) where
  pub writing_start : 2 * n ≤ length out₀ → Writing cs ns n k out₀ out₀ 0 0
  unfolding cells_from listed chosen pairs
  writing_start l = record { inside = omega arith; room = l; low = omega arith; behind = refl; content = refl; same = refl }

  -- one cell more
  pairs_next : (i : ℕ) (t : Bool) → has k i ≡ t → pairs_of cs ns k (i + 1) ≡ pairs_of cs ns k i ++ pairs (kept t (record { class = get_or cs i 0; name = get_or ns i 0 }) [])
  unfolding cells_from
  pairs_next i t e =
      let z : 0 + i ≡ i = omega arith in
      rw (add-one, listed_more 0 i here, z, chosen_more (listed 0 i here) k (here i), length_listed 0 i here, e) (pairs_append (chosen (listed 0 i here) k) (kept t (here i) []))
    where
      here : ℕ → Child
      here j = record { class = get_or cs j 0; name = get_or ns j 0 }

  module _ (out : List ℕ) (place i : ℕ) (w : Writing cs ns n k out₀ out place i) (turn : i < n) where
    pub writing_more : bit_and (k / 2 ^ i) 1 ≡ 1 → Writing cs ns n k out₀ (set (set out place (get_or cs i 0)) (place + 1) (get_or ns i 0)) (place + 2) (i + 1)
    unfolding pairs
    writing_more t =
        let h : has k i ≡ true = sym (shifted k i) ∙ ap (λ (x : ℕ). eqb x 1) t in
        let e = pairs_next i true h in
        record {
          inside = omega arith;
          room = w.room;
          low = (let x = w.low in omega arith);
          behind = ap (λ (x : ℕ). x + 2) w.behind ∙ sym (ap length e ∙ length-append (pairs_of cs ns k i) (get_or cs i 0 ∷ get_or ns i 0 ∷ []));
          content = ap (λ (o : List ℕ). set (set o place (get_or cs i 0)) (place + 1) (get_or ns i 0)) w.content ∙ written_pair (pairs_of cs ns k i) out₀ (get_or cs i 0) (get_or ns i 0) place w.behind (let x = w.low in let y = w.room in omega arith) ∙ ap (λ (l : List ℕ). written l out₀) (sym e);
          same = length-set (set out place (get_or cs i 0)) (place + 1) (get_or ns i 0) ∙ length-set out place (get_or cs i 0) ∙ w.same;
        }

    pub writing_past : (bit_and (k / 2 ^ i) 1 ≡ 1 → ⊥) → Writing cs ns n k out₀ out place (i + 1)
    unfolding pairs
    writing_past t =
        let h : has k i ≡ false = sym (shifted k i) ∙ ne_eqb (bit_and (k / 2 ^ i) 1) 1 t in
        let e = pairs_next i false h ∙ append-nil (pairs_of cs ns k i) in
        record {
          inside = omega arith;
          room = w.room;
          low = (let x = w.low in omega arith);
          behind = w.behind ∙ sym (ap length e);
          content = w.content ∙ ap (λ (l : List ℕ). written l out₀) (sym e);
          same = w.same;
        }

  pub writing_end : (out : List ℕ) (place i : ℕ) → Writing cs ns n k out₀ out place i → n ≤ i → (out ≡ written (pairs_of cs ns k n) out₀) × (place ≡ length (pairs_of cs ns k n)) × (place ≤ 2 * n)
  writing_end out place i w l =
      let e : i ≡ n = (let x = w.inside in omega arith) in
      (w.content ∙ ap (λ (j : ℕ). written (pairs_of cs ns k j) out₀) e, w.behind ∙ ap (λ (j : ℕ). length (pairs_of cs ns k j)) e, (let x = w.low in omega arith))
