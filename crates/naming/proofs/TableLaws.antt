-- Laws about the table of own states: 32 bytes a state, each state's name in its record, and a right list of names.
-- Assumes nothing.
use Prim.Native.Nat.{ℕ, suc, ◌+◌, ◌*◌, ◌-◌, ◌/◌, ◌%◌}
use native.Mathlib.Omega.{arith}
use mathlib.Core.Path.{◌≡◌, refl, sym, ◌∙◌, ap}
use mathlib.Core.Bool.{Bool, true, ◌&&◌}
use mathlib.Core.List.{List, [], ◌∷◌, map}
use lib.Dec.{eqb, leb}
use lib.ListN.{length, take, drop, length-append, length-map}
use lib.Seq.{take_at, drop_at, drop-drop}
use borrow.Author.Tests.{leb-true, eq-eqb}
use Rattle.model.specs.Words.{every, some_in, listed}
use Rattle.model.proofs.Words.{both_ways, and_left, and_right, and_both}
use Rattle.model.proofs.Lists.{length_listed}
use Rattle.grammar.specs.Grammar.{State, Text}
use Rattle.grammar.specs.Words.{name_char, is_name, same, position, fixed_words, bare_runs}
use Rattle.grammar.specs.Reading.{Says}
use Rattle.grammar.proofs.Words.{same_equal}
use Rattle.encoding.specs.Numbers.{Every}
use Rattle.naming.specs.NameLists.{Lists, padded, record_right, records_in, none_twice, list_right}
use Rattle.naming.specs.Naming.{all_states, own_names, joined, table_of}
use Rattle.naming.specs.Known.{state_known, text_known}
use Rattle.naming.proofs.NameLaws.{same_self, characters_padded, same_record}
use Rattle.naming.proofs.Spoken.{Named, Spoken, states_named}

abbrev pub IsName : List ℕ → Type 0
IsName n = is_name n ≡ true

abbrev pub Long : List ℕ → Type 0
Long r = length r ≡ 32

-- a name's record has 32 bytes
pub length_padded : (n : List ℕ) → IsName n → Long (padded n)
unfolding padded is_name
length_padded n h =
    let sizes : Bool = leb 1 (length n) && leb (length n) 31 in
    let rest : Bool = every name_char n && (eqb (position fixed_words n) 25 && eqb (position bare_runs n) 7) in
    let short = leb-true (length n) 31 (and_right (leb 1 (length n)) (leb (length n) 31) (and_left sizes rest h)) in
    omega (arith, length-append n (listed 0 (32 - length n) (λ _. 0)), length_listed {A = ℕ} 0 (32 - length n) (λ _. 0))

pub long_records : (ns : List (List ℕ)) → Every IsName ns → Every Long (map padded ns)
long_records [] a = tt
long_records (n ∷ ns) a = (length_padded n a.0, long_records ns a.1)

-- records of 32 bytes, one behind the other: how long they are, and which they are
pub length_joined : (rs : List (List ℕ)) → Every Long rs → length (joined rs) ≡ 32 * length rs
unfolding joined
length_joined [] a = refl
length_joined (r ∷ rs) a =
    let h = length_joined rs a.1 in
    let k = a.0 in
    length-append r (joined rs) ∙ (let z : length r + length (joined rs) ≡ 32 * suc (length rs) = omega arith in z)

cut_back : (rs : List (List ℕ)) → Every Long rs → (b : List ℕ) (i : ℕ) → drop (i * 32) b ≡ joined rs
    → listed i (length rs) (λ j. take 32 (drop (j * 32) b)) ≡ rs
unfolding joined listed
cut_back [] a b i e = refl
cut_back (r ∷ rs) a b i e =
    let f : i * 32 + 32 ≡ suc i * 32 = omega arith in
    let next : drop (suc i * 32) b ≡ joined rs =
    ap (λ (n : ℕ). drop n b) (sym f) ∙ (sym (drop-drop 32 (i * 32) b) ∙ (ap (drop 32) e ∙ drop_at r (joined rs) 32 a.0)) in
    rw (e, take_at r (joined rs) 32 a.0) (ap (◌∷◌ r) (cut_back rs a.1 b (suc i) next))

pub records_back : (rs : List (List ℕ)) → Every Long rs → records_in 32 (joined rs) ≡ rs
unfolding records_in
records_back rs a =
    let h = length_joined rs a in
    let e : length (joined rs) / 32 ≡ length rs = omega arith in
    rw e (cut_back rs a (joined rs) 0 refl)

-- a name's record is one, and no record stands twice where no name does
pub padded_right : (n : List ℕ) → IsName n → record_right (padded n) ≡ true
unfolding record_right
padded_right n h = rw (characters_padded n h) (and_both (is_name n) (same (padded n) (padded n)) h (same_self (padded n)))

pub every_right : (ns : List (List ℕ)) → Every IsName ns → every record_right (map padded ns) ≡ true
unfolding every
every_right [] a = refl
every_right (n ∷ ns) a = and_both (record_right (padded n)) (every record_right (map padded ns)) (padded_right n a.0) (every_right ns a.1)

same_both : (a b : List ℕ) → IsName a → IsName b → same (padded a) (padded b) ≡ same a b
same_both a b h k =
    both_ways (same (padded a) (padded b)) (same a b)
    (λ e. rw (same_record a b h k (same_equal (padded a) (padded b) e)) (same_self b))
    (λ e. rw (same_equal a b e) (same_self (padded b)))

some_both : (n : List ℕ) → IsName n → (ns : List (List ℕ)) → Every IsName ns → some_in (same (padded n)) (map padded ns) ≡ some_in (same n) ns
unfolding some_in
some_both n h [] a = refl
some_both n h (m ∷ ns) a = rw (same_both n m h a.0, some_both n h ns a.1)

pub twice_both : (ns : List (List ℕ)) → Every IsName ns → none_twice (map padded ns) ≡ none_twice ns
unfolding none_twice
twice_both [] a = refl
twice_both (n ∷ ns) a = rw (some_both n a.0 ns a.1, twice_both ns a.1)

-- the names of a text's states are names
own_each : (ss : List State) → Every (Spoken Named) ss → Every IsName (map (λ s. s.own) ss)
own_each [] a = tt
own_each (s ∷ ss) a = (a.0.0, own_each ss a.1)

pub own_named : (b : List ℕ) (t : Text) → Says b t → Every IsName (own_names t)
unfolding own_names
own_named b t e = own_each (all_states t) (states_named b t e)

-- THE TABLE: 32 bytes a state, in order, and a right list of names where no state stands twice
pub table_long : (b : List ℕ) (t : Text) → Says b t → length (table_of t) ≡ 32 * length (own_names t)
unfolding table_of
table_long b t e = length_joined (map padded (own_names t)) (long_records (own_names t) (own_named b t e)) ∙ ap (λ (n : ℕ). 32 * n) (length-map (own_names t) padded)

pub table_records : (b : List ℕ) (t : Text) → Says b t → records_in 32 (table_of t) ≡ map padded (own_names t)
unfolding table_of
table_records b t e = records_back (map padded (own_names t)) (long_records (own_names t) (own_named b t e))

pub table_right : (b : List ℕ) (t : Text) → Says b t → none_twice (own_names t) ≡ true → list_right 32 (table_of t) ≡ true
unfolding list_right
table_right b t e h =
    let n = table_long b t e in
    let w : length (table_of t) % 32 ≡ 0 = omega arith in
    let a = own_named b t e in
    rw (table_records b t e)
    (and_both (eqb (length (table_of t) % 32) 0) (every record_right (map padded (own_names t)) && none_twice (map padded (own_names t)))
    (eq-eqb (length (table_of t) % 32) 0 w)
    (and_both (every record_right (map padded (own_names t))) (none_twice (map padded (own_names t))) (every_right (own_names t) a) (twice_both (own_names t) a ∙ h)))

pub known_once : (l : Lists) (t : Text) → text_known l t ≡ true → none_twice (own_names t) ≡ true
unfolding text_known
known_once l t h = and_right (every (state_known l (own_names t)) (all_states t)) (none_twice (own_names t)) h
