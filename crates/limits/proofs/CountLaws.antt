-- The loop over name sets, and what the tests of the counts say of a text's class.
-- Assumes nothing.
use Prim.Native.Nat.{ℕ, suc, ◌+◌, ◌*◌, ◌/◌, ◌<◌, ◌≤◌, ◌^◌}
use native.Mathlib.Omega.{arith}
use native.Mathlib.Numerals.{add-one}
use mathlib.Core.Path.{◌≡◌, refl, sym, ◌∙◌, subst}
use mathlib.Core.Bool.{Bool, true, false, ◌&&◌}
use mathlib.Core.List.{List, [], ◌∷◌}
use lib.Dec.{ltb, leb}
use lib.ListN.{length, get_or, take, drop}
use borrow.Author.Tests.{lt-ltb, le-ltb}
use Rattle.model.specs.Words.{every}
use Rattle.model.proofs.Lists.{length_listed}
use Rattle.model.proofs.Words.{clash, and_left, and_right, below_next}
use Rattle.encoding.specs.Numbers.{Every}
use Rattle.records.specs.Bytes.{u32}
use Rattle.kinds.proofs.Laws.{every_on, every_stop, every_over}
use Rattle.naming.specs.NameLists.{Lists, lists_within, class_sets, records_in}
use Rattle.naming.specs.Naming.{class_in}
use Rattle.grammar.specs.Grammar.{Text}
use Rattle.encoding.specs.Limits.{counts_within, sets_within, depths_within}
use Rattle.lists.specs.Lent.{lent, sets_in, Count}
use Rattle.sizes.specs.declared.Sizes.{Sizes}
use Rattle.sizes.specs.Sized.{sizes_in}
use Rattle.limits.specs.Counts.{counts_right, sets_right, few_enough, SetsTold, FewTold}

-- some name is in the set
abbrev pub some_name : ℕ → Bool
some_name s = ltb 0 s

-- the sets from number i on decide, and those before it are numbers of 32 bits
pub record Left (classes : List ℕ) (i : ℕ) : Type 0 where
  pub decides : every some_name (sets_in classes) ≡ every some_name (drop i (sets_in classes))
  pub fit : (j : ℕ) → j < i → get_or (sets_in classes) j 0 < 2 ^ 32

pub left_none : (classes : List ℕ) → Left classes 0
left_none classes = record { decides = refl; fit = λ j h. absurd (omega arith) }

-- as many name sets as records
sets_count : (b : List ℕ) (n : ℕ) → Count b 36 n → n ≡ length (sets_in b)
unfolding sets_in
sets_count b n c = c.is ∙ sym (length_listed 0 (length b / 36) (λ i. u32 b (i * 36 + 32)))

module _ (b : List ℕ) (n i s : ℕ) (c : Count b 36 n) (l : Left b i) where
  pub left_on : i < n → s ≡ get_or (sets_in b) i 0 → s < 2 ^ 32 → (s ≡ 0 → ⊥) → Left b (i + 1)
  left_on h e k z =
      record {
        decides = every_on some_name (sets_in b) i l.decides (omega (arith, sets_count b n c)) (lt-ltb 0 (get_or (sets_in b) i 0) (omega (arith, e)));
        fit = rw (add-one i) (below_next (λ j. get_or (sets_in b) j 0 < 2 ^ 32) i l.fit (subst (λ (x : ℕ). x < 2 ^ 32) e k));
      }

  pub left_stop : i < n → s ≡ get_or (sets_in b) i 0 → s ≡ 0 → SetsTold b false
  unfolding sets_right
  left_stop h e z =
      record {
        is = sym (every_stop some_name (sets_in b) i l.decides (omega (arith, sets_count b n c)) (le-ltb 0 (get_or (sets_in b) i 0) (omega (arith, e))));
        fits = (λ w. absurd (clash (cc)));
      }

-- every entry is small where each by its place is
all_small : (l : List ℕ) → ((j : ℕ) → j < length l → get_or l j 0 < 2 ^ 32) → Every (λ s. s < 2 ^ 32) l
all_small [] h = tt
all_small (x ∷ xs) h = (h 0 (omega arith), all_small xs (λ j k. h (suc j) (omega arith)))

pub left_over : (b : List ℕ) (n i : ℕ) (c : Count b 36 n) → Left b i → n ≤ i → SetsTold b true
unfolding sets_right
left_over b n i c l h =
    record {
      is = sym (every_over some_name (sets_in b) i l.decides (omega (arith, sets_count b n c)));
      fits = (λ _. all_small (sets_in b) (λ j k. l.fit j (omega (arith, sets_count b n c))));
    }

-- as many name records as whole records
records_count : (size : ℕ) (b : List ℕ) → length (records_in size b) ≡ length b / size
unfolding records_in
records_count size b = length_listed 0 (length b / size) (λ i. take 32 (drop (i * size) b))

-- the answer of few_enough
pub few_by : (n : Sizes) (names commands classes : List ℕ) (c s : Bool) → c ≡ counts_right (length classes / 36) n → SetsTold classes s
    → FewTold n (lent names commands classes) ((leb (length names / 32) 32 && leb (length commands / 32) 64) && (c && (s && leb n.deepest 8)))
unfolding few_enough lists_within
few_by n names commands classes c s e f =
    let a : Bool = leb (length names / 32) 32 && leb (length commands / 32) 64 in
    record {
      is = rw (e, f.is, records_count 32 names, records_count 32 commands) refl;
      fits = λ h. f.fits (and_left s (leb n.deepest 8) (and_right c (s && leb n.deepest 8) (and_right a (c && (s && leb n.deepest 8)) h)));
    }

-- what it says of a text whose sizes are counted: no limit is passed but perhaps that of operators
pub few_tells : (l : Lists) (t : Text) (n : Sizes) → n ≡ sizes_in (class_in l t) → leb n.deepest 8 ≡ depths_within (class_in l t)
    → few_enough n l ≡ (lists_within l && (counts_within (class_in l t) && (sets_within (class_in l t) && depths_within (class_in l t))))
unfolding few_enough counts_within sets_within sizes_in class_in sets_right class_sets sets_in
few_tells l t n e d = rw (d, e, length_listed {A = ℕ} 0 (length l.classes / 36) (λ i. u32 l.classes (i * 36 + 32))) refl
