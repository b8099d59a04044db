-- The promises of this floor leave one answer.
-- Assumes nothing.
use Prim.Native.Nat.{ℕ, zero, suc, ◌+◌, ◌<◌, ◌≤◌}
use native.Mathlib.Omega.{arith}
use native.Mathlib.Numerals.{add-one}
use mathlib.Core.Path.{◌≡◌, sym, ap, ◌∙◌}
use mathlib.Core.List.{List}
use mathlib.Core.Logic.{◌⊎◌, inl, inr}
use lib.ListN.{length, get_or}
use lib.Seq.{ext_get_or}
use Rattle.model.proofs.Words.{clash, lt_or_le}
use Rattle.records.specs.Bytes.{in_fours}
use Rattle.bodies.specs.Clauses.{first_when}
use Rattle.bodies.proofs.CheckLaws.{sum_none}
use Rattle.sheet.specs.Contents.{body}
use Rattle.arrows.specs.declared.sorting.Clauses.{Clauses}
use Rattle.blocks.specs.ClauseTables.{FirstsOf, FromsOf, ClausesOf}
use Rattle.blocks.specs.Search.{Found}
use Rattle.blocks.specs.Unique.{Unique}
use Rattle.std.specs.Prelude.{Result, Ok, Err}

-- two tables that agree below n and are zeros behind it
agree : (x y : List ℕ) (n : ℕ) → length x ≡ length y → ((j : ℕ) → j < n → get_or x j 0 ≡ get_or y j 0) → ((j : ℕ) → n ≤ j → get_or x j 0 ≡ 0) → ((j : ℕ) → n ≤ j → get_or y j 0 ≡ 0) → x ≡ y
agree x y n long f g h = ext_get_or 0 x y long (λ j l. at j (lt_or_le j n))
  where
    at : (j : ℕ) → (j < n) ⊎ (n ≤ j) → get_or x j 0 ≡ get_or y j 0
    at j (inl u) = f j u
    at j (inr u) = g j u ∙ sym (h j u)

-- a when clause of the first n states is one of a state
clause_state : (states : List ℕ) (n w : ℕ) → w < first_when states n → (q : ℕ) × (q < n) × (first_when states q ≤ w) × (w < first_when states (q + 1))
clause_state states zero w l = absurd (let z = sum_none states 0 in omega arith)
clause_state states (suc n) w l = go (lt_or_le w (first_when states n)) (clause_state states n w)
  where
    go : (w < first_when states n) ⊎ (first_when states n ≤ w) → (w < first_when states n → (q : ℕ) × (q < n) × (first_when states q ≤ w) × (w < first_when states (q + 1)))
        → (q : ℕ) × (q < suc n) × (first_when states q ≤ w) × (w < first_when states (q + 1))
    go (inl u) r = let (q, ql, a, b) = r u in (q, omega arith, a, b)
    go (inr u) r = (n, omega arith, u, rw add-one l)

one_firsts : (states : List ℕ) (offset : ℕ) (x y : List ℕ) → FirstsOf states offset x → FirstsOf states offset y → x ≡ y
one_firsts states offset x y X Y =
    agree x y (suc (in_fours states)) (X.long ∙ sym Y.long) (λ j l. X.first j (omega arith) ∙ sym (Y.first j (omega arith))) (λ j l. X.no_first j (omega arith)) (λ j l. Y.no_first j (omega arith))

one_froms : (actions x y : List ℕ) → FromsOf actions x → FromsOf actions y → x ≡ y
one_froms actions x y X Y =
    agree x y (suc (in_fours actions)) (X.long ∙ sym Y.long) (λ j l. X.from j (omega arith) ∙ sym (Y.from j (omega arith))) (λ j l. X.no_from j (omega arith)) (λ j l. Y.no_from j (omega arith))

one_clauses : (b : List ℕ) (r s : Clauses) → ClausesOf b r → ClausesOf b s → r ≡ s
one_clauses b r s C D =
    let W : ℕ = first_when (body b 1) (in_fours (body b 1)) in
    let x : r.places ≡ s.places = agree r.places s.places W (C.whens.places_long ∙ sym D.whens.places_long) (λ j l. C.whens.place j l ∙ sym (D.whens.place j l)) C.whens.no_place D.whens.no_place in
    let y : r.aims ≡ s.aims = agree r.aims s.aims W (C.whens.aims_long ∙ sym D.whens.aims_long)
    (λ j l. let (q, ql, a, e) = clause_state (body b 1) (in_fours (body b 1)) j l in C.whens.aimed q j ql a e ∙ sym (D.whens.aimed q j ql a e)) C.whens.no_aim D.whens.no_aim in
    let z : r.firsts ≡ s.firsts = one_firsts (body b 1) 0 r.firsts s.firsts C.firsts_right D.firsts_right in
    let v : r.actions ≡ s.actions = one_firsts (body b 1) 2 r.actions s.actions C.actions_right D.actions_right in
    let f : r.froms ≡ s.froms = one_froms (body b 4) r.froms s.froms C.froms_right D.froms_right in
    let n : r.states ≡ s.states = C.number ∙ sym D.number in
    λ i. record { places = x i; aims = y i; firsts = z i; actions = v i; froms = f i; states = n i }

one_search : (b : List ℕ) (present : ℕ) (r s : Result ℕ ℕ) → Found b present r → Found b present s → r ≡ s
one_search b present (Err k) (Err j) g h = ap Err (cc)
one_search b present (Err k) (Ok m) g h = absurd (clash (cc))
one_search b present (Ok m) (Err k) g h = absurd (clash (cc))
one_search b present (Ok m) (Ok k) g h = ap Ok (cc)

pub unique : Unique
unique = record { clauses = one_clauses; searching = one_search }
