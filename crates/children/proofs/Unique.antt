-- The promises of this floor leave one answer, and any eight sets show a list.
-- Assumes nothing.
use Prim.Native.Nat.{ℕ, ◌+◌, ◌*◌, ◌/◌, ◌%◌, ◌<◌}
use native.Mathlib.Omega.{arith}
use mathlib.Core.Path.{◌≡◌, sym, ◌∙◌, subst}
use mathlib.Core.Bool.{Bool, true}
use mathlib.Core.List.{List, Memᴰ}
use lib.ListN.{length, get_or}
use lib.Seq.{ext_get_or}
use Rattle.model.specs.Words.{has, keep, listed}
use Rattle.model.specs.Tree.{Child}
use Rattle.model.specs.Crews.{occupied}
use Rattle.model.proofs.Words.{both_ways}
use Rattle.model.proofs.Masks.{same_bits}
use Rattle.model.proofs.Lists.{keep_mem, mem_keep, listed_mem, mem_listed}
use Rattle.model.proofs.Occupancy.{mem_occupied, occupied_mem}
use Rattle.children.specs.NameSets.{Shows, Small, Crewed}
use Rattle.children.specs.Unique.{EightSets, Unique}

one_crew : (ks : List Child) (r s : List ℕ) → EightSets r → EightSets s → Shows r ks → Shows s ks → r ≡ s
one_crew ks r s a b g h =
    let long : length r ≡ length s = a.eight ∙ sym b.eight in
    ext_get_or 0 r s long
    (λ i l. same_bits 32 (get_or r i 0) (get_or s i 0) (a.narrow i) (b.narrow i)
    (λ n m. let e = a.eight in g i n (omega arith) m ∙ sym (h i n (omega arith) m)))

-- the pairs of a class and a name, 32 names a class
pair : ℕ → Child
pair j = record { class = j / 32; name = j % 32 }

-- every child of a class below 8 with a name below 32 is one of the 256 pairs, and none else is
paired : (i n : ℕ) → i < 8 → n < 32 → Memᴰ (record { class = i; name = n }) (listed 0 256 pair)
unfolding pair
paired i n l m =
    let j : ℕ = i * 32 + n in
    let p : j / 32 ≡ i = omega arith in
    let q : j % 32 ≡ n = omega arith in
    let e : pair j ≡ record { class = i; name = n } = λ d. record { class = p d; name = q d } in
    subst (λ (k : Child). Memᴰ k (listed 0 256 pair)) e (listed_mem 0 256 pair j j (omega arith) (omega arith))

pair_small : (k : Child) → Memᴰ k (listed 0 256 pair) → Small k
unfolding pair
pair_small k m = let (j, low, high, e) = mem_listed 0 256 pair k m in rw e (record { class_small = omega arith; name_small = omega arith })

-- a crew that the sets show: a child for each bit
module _ (sets : List ℕ) where
  shown : Child → Bool
  shown k = has (get_or sets k.class 0) k.name

  crew : List Child
  crew = keep shown (listed 0 256 pair)

  there : (i n : ℕ) → i < 8 → n < 32 → has (get_or sets i 0) n ≡ true → occupied crew i n ≡ true
  unfolding crew shown
  there i n l m t =
      let k : Child = record { class = i; name = n } in
      mem_occupied crew k (mem_keep shown (listed 0 256 pair) k (paired i n l m) t)

  back : (i n : ℕ) → occupied crew i n ≡ true → has (get_or sets i 0) n ≡ true
  unfolding crew shown
  back i n t = (keep_mem shown (listed 0 256 pair) (record { class = i; name = n }) (occupied_mem crew i n t)).1

  crewed : length sets ≡ 8 → Crewed sets crew
  unfolding crew
  crewed eight =
      record {
        eight = eight;
        shows = λ i n l m. both_ways (has (get_or sets i 0) n) (occupied crew i n) (there i n l m) (back i n);
        small = λ k m. pair_small k (keep_mem shown (listed 0 256 pair) k m).0;
      }

pub unique : Unique
unique =
    record {
      occupying = one_crew;
      naming = λ sets p r s a b g h. same_bits 32 r s a b (λ n m. g n ∙ sym (h n));
      crewing = λ sets eight. (crew sets, crewed sets eight);
    }
