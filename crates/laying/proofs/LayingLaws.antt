-- Laws of the loops that write: what is written so far.
-- Assumes nothing.
use Prim.Native.Nat.{ℕ, suc, ◌+◌, ◌-◌, ◌*◌, ◌/◌, ◌%◌, ◌<◌, ◌≤◌}
use native.Mathlib.Omega.{arith}
use native.Mathlib.Numerals.{add-one}
use mathlib.Core.Path.{◌≡◌, refl, sym, ◌∙◌, ap}
use mathlib.Core.Logic.{◌⊎◌, inl, inr}
use mathlib.Core.List.{List, [], ◌∷◌, ◌++◌}
use lib.ListN.{length, get_or, drop, drop_of_length-le}
use lib.Seq.{drop-cons}
use Rattle.model.specs.Words.{listed}
use Rattle.model.proofs.Lists.{listed_more, length_listed}
use Rattle.naming.specs.NameLists.{padded}
use Rattle.pen.specs.Writing.{last_place, two, Puts}
use Rattle.pen.proofs.Puts.{puts_none, puts_on, puts_length, Writing, writing_more, writing_end}
use Rattle.records.specs.Bytes.{u32}
use Rattle.lists.specs.Lent.{sets_in, Count}
use Rattle.naming.specs.Naming.{joined}
use Rattle.words.specs.Scanning.{stretch}
use Rattle.own.specs.Ahead.{names_from}
use Rattle.own.specs.Held.{Here}
use Rattle.laying.specs.Laying.{entry, contents_bytes, number_bytes, zeros_behind, sets_bytes, table_bytes}

-- zeros: those up to place i
pub record Zeros (n : ℕ) (before : List ℕ) (at : ℕ) (out : List ℕ) (end i : ℕ) : Type 0 where
  pub written : Puts (listed 0 (i - n) (λ _. 0)) before at out end
  pub onward : n ≤ i
  pub inside : (i ≤ 32) ⊎ (i ≡ n)

pub zeros_none : (n : ℕ) (l : List ℕ) (at : ℕ) → length l ≤ last_place → at ≤ last_place → Zeros n l at l at n
unfolding listed
zeros_none n l at h k =
    record { written = (let e : n - n ≡ 0 = omega arith in rw e (puts_none l at h k)); onward = (omega arith); inside = inr refl }

pub zero_more : (n : ℕ) (before out after : List ℕ) (at end r i : ℕ) → Zeros n before at out end i → i < 32 → Puts (0 ∷ []) out end after r
    → Zeros n before at after r (i + 1)
zero_more n before out after at end r i z l q =
    let h = z.onward in
    let e : i + 1 - n ≡ suc (i - n) = omega arith in
    record {
      written = rw (e, listed_more {A = ℕ} 0 (i - n) (λ _. 0)) (puts_on z.written q);
      onward = (omega arith);
      inside = inl (omega arith);
    }

pub zeros_all : (n : ℕ) (before out : List ℕ) (at end i : ℕ) → Zeros n before at out end i → 32 ≤ i → Puts (zeros_behind n) before at out end
unfolding zeros_behind
zeros_all n before out at end i z l = go z.inside
  where
    go : (i ≤ 32) ⊎ (i ≡ n) → Puts (listed 0 (32 - n) (λ _. 0)) before at out end
    go (inl h) = let e : 32 - n ≡ i - n = omega arith in rw e z.written
    go (inr h) = let e : 32 - n ≡ i - n = omega arith in rw e z.written

pub name_all : (n before out after : List ℕ) (at end r : ℕ) → Puts n before at out end → Puts (zeros_behind (length n)) out end after r → Puts (padded n) before at after r
unfolding padded zeros_behind
name_all n before out after at end r p q = puts_on p q

pub entry_all : (start size : ℕ) (before out after : List ℕ) (at end r : ℕ) → Puts (two start) before at out end → Puts (two size) out end after r
    → Puts (entry start size) before at after r
unfolding entry
entry_all start size before out after at end r p q = puts_on p q

pub number_all : (n : ℕ) (before after : List ℕ) (at r : ℕ) → Puts (entry (n % 65536) (n / 65536)) before at after r → Puts (number_bytes n) before at after r
unfolding number_bytes
number_all n before after at r p = p

-- the contents: what is left of them
pub record Listing (sizes before out : List ℕ) (end start k : ℕ) : Type 0 where
  pub writing : Writing (contents_bytes 24 sizes) before 0 (contents_bytes start (drop k sizes)) out end
  pub low : start ≤ 24 + k * 65536
  pub few : k ≤ 6
  pub kept : length out ≡ length before
  pub room : length out ≤ last_place
  pub place : end ≤ last_place

pub listing_none : (sizes before : List ℕ) → length before ≤ last_place → Listing sizes before before 0 24 0
listing_none sizes before h = record { writing = λ after r p. p; low = (omega arith); few = (omega arith); kept = refl; room = h; place = (omega arith) }

pub listing_more : (sizes before out after : List ℕ) (end start k size r : ℕ) → Listing sizes before out end start k → k < 6 → length sizes ≡ 6
    → (size ≡ get_or sizes k 0) × (size < 65536) → Puts (entry start size) out end after r → Listing sizes before after r (start + size) (k + 1)
unfolding contents_bytes
listing_more sizes before out after end start k size r l h e (is, small) p =
    let f : contents_bytes start (drop k sizes) ≡ entry start size ++ contents_bytes (start + size) (drop (suc k) sizes) =
    rw is (ap (contents_bytes start) (drop-cons sizes k 0 (omega arith))) in
    record {
      writing = rw (add-one k) (writing_more l.writing f p);
      low = (let z = l.low in omega arith);
      few = (omega arith);
      kept = puts_length p ∙ l.kept;
      room = (let z = l.room in omega (arith, puts_length p));
      place = (let z = p.place in omega (arith, z));
    }

pub listing_all : (sizes before out : List ℕ) (end start k : ℕ) → Listing sizes before out end start k → 6 ≤ k → length sizes ≡ 6
    → Puts (contents_bytes 24 sizes) before 0 out end
unfolding contents_bytes
listing_all sizes before out end start k l h e =
    let f : length sizes ≤ k = omega arith in
    writing_end l.writing (ap (contents_bytes start) (drop_of_length-le sizes f)) l.room l.place

-- the name sets: what is left of them
pub record Setting (sets before out : List ℕ) (at end i : ℕ) : Type 0 where
  pub writing : Writing (sets_bytes sets) before at (sets_bytes (drop i sets)) out end
  pub kept : length out ≡ length before
  pub room : length out ≤ last_place
  pub place : end ≤ last_place

pub setting_none : (sets before : List ℕ) (at : ℕ) → length before ≤ last_place → at ≤ last_place → Setting sets before before at at 0
setting_none sets before at h k = record { writing = λ after r p. p; kept = refl; room = h; place = k }

pub setting_more : (sets before out after : List ℕ) (at end i s r : ℕ) → Setting sets before out at end i → i < length sets → s ≡ get_or sets i 0
    → Puts (number_bytes s) out end after r → Setting sets before after at r (i + 1)
unfolding sets_bytes
setting_more sets before out after at end i s r l h is p =
    let f : sets_bytes (drop i sets) ≡ number_bytes s ++ sets_bytes (drop (suc i) sets) = rw is (ap sets_bytes (drop-cons sets i 0 h)) in
    record {
      writing = rw (add-one i) (writing_more l.writing f p);
      kept = puts_length p ∙ l.kept;
      room = (let z = l.room in omega (arith, puts_length p));
      place = (let z = p.place in omega (arith, z));
    }

pub setting_all : (sets before out : List ℕ) (at end i : ℕ) → Setting sets before out at end i → length sets ≤ i → Puts (sets_bytes sets) before at out end
unfolding sets_bytes
setting_all sets before out at end i l h = writing_end l.writing (ap sets_bytes (drop_of_length-le sets h)) l.room l.place

-- as many name sets as records of 36 bytes
pub sets_count : (b : List ℕ) (n : ℕ) → Count b 36 n → n ≡ length (sets_in b)
unfolding sets_in
sets_count b n c = c.is ∙ sym (length_listed 0 (length b / 36) (λ i. u32 b (i * 36 + 32)))

-- the table: the names from a place on are left
pub record Tabling (text before out : List ℕ) (end at : ℕ) : Type 0 where
  pub writing : Writing (table_bytes (names_from text 2 26 0)) before 0 (table_bytes (names_from text 2 26 at)) out end
  pub kept : length out ≡ length before
  pub room : length out ≤ last_place
  pub place : end ≤ last_place

pub tabling_none : (text before : List ℕ) → length before ≤ last_place → Tabling text before before 0 0
tabling_none text before h = record { writing = λ after r p. p; kept = refl; room = h; place = (omega arith) }

pub tabling_more : (text before out after : List ℕ) (end at start stop r : ℕ) → Tabling text before out end at → Here text 2 26 at start stop
    → Puts (padded (stretch text start stop)) out end after r → Tabling text before after r stop
unfolding table_bytes joined
tabling_more text before out after end at start stop r l h p =
    record {
      writing = writing_more l.writing (ap table_bytes h.names) p;
      kept = puts_length p ∙ l.kept;
      room = (let z = l.room in omega (arith, puts_length p));
      place = (let z = p.place in omega (arith, z));
    }

pub tabling_all : (text before out : List ℕ) (end at : ℕ) → Tabling text before out end at → names_from text 2 26 at ≡ []
    → Puts (table_bytes (names_from text 2 26 0)) before 0 out end
unfolding table_bytes joined
tabling_all text before out end at l h = writing_end l.writing (ap table_bytes h) l.room l.place
