-- A table looked through from its front, entry by entry: the turns of the loops that do so.
-- Assumes nothing.
use Prim.Native.Nat.{ℕ, suc, ◌+◌, ◌-◌, ◌<◌, ◌≤◌}
use native.Mathlib.Omega.{arith}
use mathlib.Core.Path.{◌≡◌, refl, sym, ◌∙◌, ap}
use mathlib.Core.Bool.{Bool, true, false}
use mathlib.Core.List.{List, [], ◌∷◌}
use lib.Dec.{ltb}
use lib.ListN.{length}
use borrow.Author.Tests.{ltb-true, ltb-false, lt-ltb, le-ltb}
use Rattle.model.specs.Words.{choose, every, some_in, listed}
use Rattle.model.proofs.Words.{clash}
use Rattle.grammar.specs.Words.{same, position}
use Rattle.naming.specs.NameLists.{none_twice}
use Rattle.std.specs.Prelude.{Some, None, is_some}
use Rattle.lists.specs.Lent.{found_from, behind}

-- what is left of a table of n entries from entry i on
abbrev pub left : {A : Type 0} → (ℕ → A) → ℕ → ℕ → List A
left f n i = listed i (n - i) f

pub left_all : {A : Type 0} (f : ℕ → A) (n : ℕ) → listed 0 n f ≡ left f n 0
left_all f n = ap (λ (k : ℕ). listed 0 k f) (let e : n ≡ n - 0 = omega arith in e)

module _ {A : Type 0} (f : ℕ → A) (n i : ℕ) where
  pub left_cons : i < n → left f n i ≡ f i ∷ left f n (i + 1)
  unfolding listed
  left_cons l =
      ap (λ (k : ℕ). listed i k f) (let e : n - i ≡ suc (n - (i + 1)) = omega arith in e)
      ∙ ap (λ (k : ℕ). f i ∷ listed k (n - (i + 1)) f) (let e : suc i ≡ i + 1 = omega arith in e)

  pub left_none : n ≤ i → left f n i ≡ []
  unfolding listed
  left_none l = ap (λ (k : ℕ). listed i k f) (let e : n - i ≡ 0 = omega arith in e)

-- every entry passes a test
module _ {A : Type 0} (p : A → Bool) (f : ℕ → A) (n i : ℕ) where
  pub every_on : i < n → p (f i) ≡ true → every p (left f n i) ≡ every p (left f n (i + 1))
  unfolding every
  every_on l h = rw (left_cons f n i l, h)

  pub every_broken : i < n → p (f i) ≡ false → every p (left f n i) ≡ false
  unfolding every
  every_broken l h = rw (left_cons f n i l, h)

  pub every_over : n ≤ i → every p (left f n i) ≡ true
  unfolding every
  every_over l = rw (left_none f n i l)

  -- some entry does
  pub some_on : i < n → p (f i) ≡ false → some_in p (left f n i) ≡ some_in p (left f n (i + 1))
  unfolding some_in
  some_on l h = rw (left_cons f n i l, h)

  pub some_here : i < n → p (f i) ≡ true → some_in p (left f n i) ≡ true
  unfolding some_in
  some_here l h = rw (left_cons f n i l, h)

  pub some_over : n ≤ i → some_in p (left f n i) ≡ false
  unfolding some_in
  some_over l = rw (left_none f n i l)

-- no entry stands twice
module _ (f : ℕ → List ℕ) (n i : ℕ) where
  pub once_on : i < n → some_in (same (f i)) (left f n (i + 1)) ≡ false → none_twice (left f n i) ≡ none_twice (left f n (i + 1))
  unfolding none_twice
  once_on l h = rw (left_cons f n i l, h)

  pub once_broken : i < n → some_in (same (f i)) (left f n (i + 1)) ≡ true → none_twice (left f n i) ≡ false
  unfolding none_twice
  once_broken l h = rw (left_cons f n i l, h)

  pub once_over : n ≤ i → none_twice (left f n i) ≡ true
  unfolding none_twice
  once_over l = rw (left_none f n i l)

-- the loop that looks for the name of entry i among the entries behind it
pub record Searching (f : ℕ → List ℕ) (m i : ℕ) (name : List ℕ) (n j : ℕ) : Type 0 where
  pub count : n ≡ m
  pub looked_for : name ≡ f i
  pub told : some_in (same name) (left f n j) ≡ some_in (same (f i)) (behind f m i)

pub searching_start : (f : ℕ → List ℕ) (m i : ℕ) (name : List ℕ) (n : ℕ) → n ≡ m → name ≡ f i → Searching f m i name n (i + 1)
unfolding behind
searching_start f m i name n k e = record { count = k; looked_for = e; told = rw (e, k) }

module _ (f : ℕ → List ℕ) (m i : ℕ) (name : List ℕ) (n j : ℕ) (s : Searching f m i name n j) where
  pub searching_over : n ≤ j → false ≡ some_in (same (f i)) (behind f m i)
  searching_over l = sym (some_over (same name) f n j l) ∙ s.told

  module _ (l : j < n) (x : List ℕ) (e : x ≡ f j) (t : Bool) (h : t ≡ same name x) where
    pub searching_on : t ≡ false → Searching f m i name n (j + 1)
    searching_on g =
        record {
          count = s.count;
          looked_for = s.looked_for;
          told = sym (some_on (same name) f n j l (ap (same name) (sym e) ∙ sym h ∙ g)) ∙ s.told;
        }

    pub searching_found : t ≡ true → true ≡ some_in (same (f i)) (behind f m i)
    searching_found g = sym (some_here (same name) f n j l (ap (same name) (sym e) ∙ sym h ∙ g)) ∙ s.told

pub behind_left : (f : ℕ → List ℕ) (m n i : ℕ) → n ≡ m → (t : Bool) → t ≡ some_in (same (f i)) (behind f m i) → some_in (same (f i)) (left f n (i + 1)) ≡ t
unfolding behind
behind_left f m n i k t e = sym (e ∙ rw k)

-- a test of an entry that was read is a test of the entry
pub read_as : {r : List ℕ} (x : List ℕ) → x ≡ r → (w : List ℕ) (t : Bool) → t ≡ same x w → same r w ≡ t
read_as x e w t f = ap (λ (y : List ℕ). same y w) (sym e) ∙ sym f

-- the number of a word among the entries
module _ (k : ℕ) (t : List ℕ) (ts : List (List ℕ)) (w : List ℕ) where
  pub found_head : same t w ≡ true → found_from k (t ∷ ts) w ≡ Some k
  unfolding found_from position
  found_head h = rw h (rw (lt-ltb 0 (suc (length ts)) (omega arith)) (ap Some (let e : k + 0 ≡ k = omega arith in e)))

  pub found_tail : same t w ≡ false → found_from k (t ∷ ts) w ≡ found_from (k + 1) ts w
  unfolding found_from position
  found_tail h = rw h (go (ltb (position ts w) (length ts)) refl)
    where
      go : (b : Bool) → ltb (position ts w) (length ts) ≡ b
          → choose (ltb (suc (position ts w)) (suc (length ts))) (λ _. Some (k + suc (position ts w))) (λ _. None)
          ≡ choose b (λ _. Some (k + 1 + position ts w)) (λ _. None)
      go true e =
          let l = ltb-true (position ts w) (length ts) e in
          rw (lt-ltb (suc (position ts w)) (suc (length ts)) (omega arith)) (ap Some (let z : k + suc (position ts w) ≡ k + 1 + position ts w = omega arith in z))
      go false e =
          let l = ltb-false (position ts w) (length ts) e in
          rw (le-ltb (suc (position ts w)) (suc (length ts)) (omega arith))

pub found_none : (k : ℕ) (w : List ℕ) → found_from k [] w ≡ None
unfolding found_from position
found_none k w = refl

module _ (f : ℕ → List ℕ) (n i : ℕ) (w : List ℕ) where
  pub found_on : i < n → same (f i) w ≡ false → found_from i (left f n i) w ≡ found_from (i + 1) (left f n (i + 1)) w
  found_on l h = ap (λ (t : List (List ℕ)). found_from i t w) (left_cons f n i l) ∙ found_tail i (f i) (left f n (i + 1)) w h

  pub found_here : i < n → same (f i) w ≡ true → found_from i (left f n i) w ≡ Some i
  found_here l h = ap (λ (t : List (List ℕ)). found_from i t w) (left_cons f n i l) ∙ found_head i (f i) (left f n (i + 1)) w h

  pub found_over : n ≤ i → found_from i (left f n i) w ≡ None
  found_over l = ap (λ (t : List (List ℕ)). found_from i t w) (left_none f n i l) ∙ found_none i w

-- what the answer tells
module _ (k : ℕ) (ts : List (List ℕ)) (w : List ℕ) where
  pub found_at : (i : ℕ) → found_from k ts w ≡ Some i → (ltb (position ts w) (length ts) ≡ true) × (i ≡ k + position ts w)
  unfolding found_from
  found_at i e = go (ltb (position ts w) (length ts)) refl e
    where
      go : (b : Bool) → ltb (position ts w) (length ts) ≡ b → choose b (λ _. Some (k + position ts w)) (λ _. None) ≡ Some i
          → (ltb (position ts w) (length ts) ≡ true) × (i ≡ k + position ts w)
      go true h e = (h, (cc))
      go false h e = absurd (clash (cc))

  pub found_nowhere : found_from k ts w ≡ None → ltb (position ts w) (length ts) ≡ false
  unfolding found_from
  found_nowhere e = go (ltb (position ts w) (length ts)) refl e
    where
      go : (b : Bool) → ltb (position ts w) (length ts) ≡ b → choose b (λ _. Some (k + position ts w)) (λ _. None) ≡ None
          → ltb (position ts w) (length ts) ≡ false
      go true h e = absurd (clash (cc))
      go false h e = h

  pub found_told : is_some (found_from k ts w) ≡ ltb (position ts w) (length ts)
  unfolding found_from
  found_told = go (ltb (position ts w) (length ts))
    where
      go : (b : Bool) → is_some (choose b (λ _. Some (k + position ts w)) (λ _. None)) ≡ b
      go true = refl
      go false = refl
