-- A list of names that is right: each number has a name, which has that number; and the table of own states, as its names tell it.
-- Assumes nothing.
use Prim.Native.Nat.{ℕ, zero, suc, ◌+◌, ◌*◌, ◌/◌, ◌%◌, ◌<◌, ◌≤◌}
use native.Mathlib.Omega.{arith}
use mathlib.Core.Path.{◌≡◌, refl, sym, ◌∙◌, ap}
use mathlib.Core.Bool.{Bool, true, false, ◌&&◌, ◌||◌, not}
use mathlib.Core.List.{List, [], ◌∷◌, ◌++◌, map}
use lib.Dec.{eqb}
use lib.ListN.{length, get_or, take, drop, take-append-drop, drop_of_length-le}
use lib.Seq.{drop-drop}
use borrow.Author.Tests.{eqb-true, lt-ltb, not-true}
use Rattle.model.specs.Words.{every, some_in, listed}
use Rattle.model.proofs.Words.{true_not_false, and_left, and_right, and_both}
use Rattle.grammar.specs.Words.{is_name, same, position}
use Rattle.grammar.proofs.Words.{same_equal}
use Rattle.encoding.specs.Numbers.{Every}
use Rattle.naming.specs.NameLists.{padded, characters, record_right, records_in, none_twice, list_right, number_in, listed_in}
use Rattle.naming.specs.Naming.{joined}
use Rattle.naming.proofs.NameLaws.{same_self}
use Rattle.naming.proofs.TableLaws.{IsName, twice_both}
use Rattle.writings.specs.Layout.{name_at}

-- an entry of a list all of which pass, or none of which passes
every_at : {A : Type 0} (f : A → Bool) (d : A) (xs : List A) → every f xs ≡ true → (i : ℕ) → i < length xs → f (get_or xs i d) ≡ true
unfolding every
every_at f d [] h i l = absurd (omega arith)
every_at f d (x ∷ xs) h zero l = and_left (f x) (every f xs) h
every_at f d (x ∷ xs) h (suc i) l = every_at f d xs (and_right (f x) (every f xs) h) i (omega arith)

neither : (a b : Bool) → (a || b) ≡ false → (a ≡ false) × (b ≡ false)
neither true b h = absurd (true_not_false refl h)
neither false b h = (refl, h)

none_at : (f : List ℕ → Bool) (xs : List (List ℕ)) → some_in f xs ≡ false → (i : ℕ) → i < length xs → f (get_or xs i []) ≡ false
unfolding some_in
none_at f [] h i l = absurd (omega arith)
none_at f (x ∷ xs) h zero l = (neither (f x) (some_in f xs) h).0
none_at f (x ∷ xs) h (suc i) l = none_at f xs (neither (f x) (some_in f xs) h).1 i (omega arith)

-- where no entry stands twice, each is first found at its own place
pub position_at : (ts : List (List ℕ)) → none_twice ts ≡ true → (i : ℕ) → i < length ts → position ts (get_or ts i []) ≡ i
unfolding none_twice position
position_at [] h i l = absurd (omega arith)
position_at (t ∷ ts) h zero l = rw (same_self t)
position_at (t ∷ ts) h (suc i) l =
    let e = not-true (some_in (same t) ts) (and_left (not (some_in (same t) ts)) (none_twice ts) h) in
    rw (none_at (same t) ts e i (omega arith)) (ap suc (position_at ts (and_right (not (some_in (same t) ts)) (none_twice ts) h) i (omega arith)))

-- and where each entry differs from those before it, none stands twice
none_same : (t : List ℕ) (ts : List (List ℕ)) → ((i : ℕ) → i < length ts → t ≡ get_or ts i [] → ⊥) → some_in (same t) ts ≡ false
unfolding some_in
none_same t [] h = refl
none_same t (x ∷ ts) h = go (same t x) refl (none_same t ts (λ i l e. h (suc i) (omega arith) e))
  where
    go : (b : Bool) → same t x ≡ b → some_in (same t) ts ≡ false → (b || some_in (same t) ts) ≡ false
    go true e r = absurd (h 0 (omega arith) (same_equal t x e))
    go false e r = r

pub once_each : (ts : List (List ℕ)) → ((i j : ℕ) → j < i → i < length ts → get_or ts j [] ≡ get_or ts i [] → ⊥) → none_twice ts ≡ true
unfolding none_twice
once_each [] h = refl
once_each (t ∷ ts) h =
    and_both (not (some_in (same t) ts)) (none_twice ts)
    (rw (none_same t ts (λ i l e. h (suc i) 0 (omega arith) (omega arith) e)))
    (once_each ts (λ i j k l e. h (suc i) (suc j) (omega arith) (omega arith) e))

-- a right list
pub record RightList (size : ℕ) (b : List ℕ) : Type 0 where
  pub whole : length b % size ≡ 0
  pub right : every record_right (records_in size b) ≡ true
  pub once : none_twice (records_in size b) ≡ true

pub right_list : (size : ℕ) (b : List ℕ) → list_right size b ≡ true → RightList size b
unfolding list_right
right_list size b h =
    let tests : Bool = every record_right (records_in size b) && none_twice (records_in size b) in
    let k = and_right (eqb (length b % size) 0) tests h in
    record {
      whole = eqb-true (length b % size) 0 (and_left (eqb (length b % size) 0) tests h);
      right = and_left (every record_right (records_in size b)) (none_twice (records_in size b)) k;
      once = and_right (every record_right (records_in size b)) (none_twice (records_in size b)) k;
    }

-- a right record is that of its characters, which are a name
pub characters_named : (r : List ℕ) → record_right r ≡ true → is_name (characters r) ≡ true
unfolding record_right
characters_named r h = and_left (is_name (characters r)) (same r (padded (characters r))) h

characters_back : (r : List ℕ) → record_right r ≡ true → padded (characters r) ≡ r
unfolding record_right
characters_back r h = sym (same_equal r (padded (characters r)) (and_right (is_name (characters r)) (same r (padded (characters r))) h))

module _ {size : ℕ} {b : List ℕ} (r : RightList size b) (i : ℕ) (l : i < length (records_in size b)) where
  entry_right : record_right (get_or (records_in size b) i []) ≡ true
  entry_right = every_at record_right [] (records_in size b) r.right i l

  -- name i is a name, and its number is i
  pub is_named : is_name (name_at size b i) ≡ true
  unfolding name_at
  is_named = characters_named (get_or (records_in size b) i []) entry_right

  pub number_back : number_in (records_in size b) (name_at size b i) ≡ i
  unfolding name_at number_in
  number_back = rw (characters_back (get_or (records_in size b) i []) entry_right) (position_at (records_in size b) r.once i l)

  pub listed_back : listed_in (records_in size b) (name_at size b i) ≡ true
  unfolding listed_in
  listed_back = rw number_back (lt-ltb i (length (records_in size b)) l)

-- all names of a list of records
unfoldable pub names_in : List (List ℕ) → List (List ℕ)
names_in rs = map characters rs

all_named : (rs : List (List ℕ)) → every record_right rs ≡ true → Every IsName (names_in rs)
unfolding every names_in
all_named [] h = tt
all_named (r ∷ rs) h = (characters_named r (and_left (record_right r) (every record_right rs) h), all_named rs (and_right (record_right r) (every record_right rs) h))

pub all_back : (rs : List (List ℕ)) → every record_right rs ≡ true → map padded (names_in rs) ≡ rs
unfolding every names_in
all_back [] h = refl
all_back (r ∷ rs) h =
    λ j. characters_back r (and_left (record_right r) (every record_right rs) h) j ∷ all_back rs (and_right (record_right r) (every record_right rs) h) j

pub names_once : (rs : List (List ℕ)) → every record_right rs ≡ true → none_twice rs ≡ true → none_twice (names_in rs) ≡ true
names_once rs h k = sym (twice_both (names_in rs) (all_named rs h)) ∙ (ap none_twice (all_back rs h) ∙ k)

-- records one behind the other are the bytes that they were cut from
joined_from : (b : List ℕ) (n i : ℕ) → length b ≡ (i + n) * 32 → joined (listed i n (λ j. take 32 (drop (j * 32) b))) ≡ drop (i * 32) b
unfolding joined listed
joined_from b zero i e = sym (drop_of_length-le b (let z : length b ≤ i * 32 = omega arith in z))
joined_from b (suc n) i e =
    let f : suc i * 32 ≡ i * 32 + 32 = omega arith in
    ap (λ (x : List ℕ). take 32 (drop (i * 32) b) ++ x)
    (joined_from b n (suc i) (omega arith) ∙ (ap (λ (k : ℕ). drop k b) f ∙ sym (drop-drop 32 (i * 32) b)))
    ∙ take-append-drop 32 (drop (i * 32) b)

pub table_back : (b : List ℕ) (n : ℕ) → length b ≡ 32 * n → joined (records_in 32 b) ≡ b
unfolding records_in
table_back b n e =
    let k : length b / 32 ≡ n = omega arith in
    rw k (joined_from b n 0 (omega arith))
