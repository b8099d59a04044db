-- The walk over a guard puts its records, in prefix order, behind those before them: the latest keys that an operator's key does not pass are
-- just those of its left operand.
-- Assumes nothing.
use Prim.Native.Nat.{ℕ, suc, ◌+◌, ◌-◌, ◌*◌, ◌≤◌, ◌<◌}
use native.Mathlib.Omega.{arith}
use mathlib.Core.Path.{◌≡◌, refl, sym, ◌∙◌, ap}
use mathlib.Core.Bool.{Bool, true, false, ◌&&◌, ◌||◌, or-true}
use mathlib.Core.List.{List, [], ◌∷◌, ◌++◌, append-nil, append_assoc}
use lib.Dec.{eqb, leb}
use lib.ListN.{length, length-append}
use lib.Seq.{take-append_seam, drop-append_seam}
use borrow.Author.Tests.{leb-false, le-leb, lt-leb, ne_eqb}
use Rattle.model.specs.Words.{choose}
use Rattle.model.proofs.Words.{and_left, and_right}
use Rattle.grammar.specs.Grammar as G
use Rattle.grammar.specs.Grammar.{Token, fixed, and_word, or_word, close_word, Kin, Set, Quantifier, Side, Guard, Conj, Operand, guard_words, conj_words, operand_words, kin_words, set_words, quantifier_word, side_word}
use Rattle.grammar.specs.Kinds as K
use Rattle.naming.specs.NameLists.{Lists, child_names, class_names}
use Rattle.naming.specs.Naming.{guard_of, conj_of, operand_of, pattern_of, kind_of, set_of}
use Rattle.naming.specs.Known.{kin_known, set_known, guard_known, conj_known, operand_known}
use Rattle.encoding.specs.Records.{Eight}
use Rattle.encoding.specs.Encoding.{kind_number, pattern_number, guard_records, operator_record}
use Rattle.ordering.specs.Ordering.{Ahead, Way, key, or_rank, and_rank, run, inserted, put, atom_record, mark_of, with_atom, with_operator, turn, walked}
use Rattle.ordering.proofs.AtomLaws.{kin_passed, side_passed, set_passed, quantified, atom_read}

-- a record in front of the last part
pub inserted_before : {A : Type 0} (r : A) (xs ys : List A) → inserted (length ys) r (xs ++ ys) ≡ xs ++ (r ∷ ys)
unfolding inserted
inserted_before {A} r xs ys =
    let e : length (xs ++ ys) - length ys ≡ length xs = omega (arith, length-append xs ys) in
    rw e (rw (take-append_seam xs ys, drop-append_seam xs ys))

pub inserted_last : {A : Type 0} (r : A) (xs : List A) → inserted 0 r xs ≡ xs ++ (r ∷ [])
inserted_last {A} r xs = ap (inserted 0 r) (sym (append-nil xs)) ∙ inserted_before r xs []

-- the keys of a guard at a level, in front of earlier ones
unfoldable mutual
  pub guard_keys : Guard → ℕ → List ℕ → List ℕ
  guard_keys (G.just c) n pre = conj_keys c n pre
  guard_keys (G.or g c) n pre = conj_keys c n (key n or_rank ∷ guard_keys g n pre)

  pub conj_keys : Conj → ℕ → List ℕ → List ℕ
  conj_keys (G.only u) n pre = operand_keys u n pre
  conj_keys (G.and c u) n pre = operand_keys u n (key n and_rank ∷ conj_keys c n pre)

  pub operand_keys : Operand → ℕ → List ℕ → List ℕ
  operand_keys (G.not u) n pre = operand_keys u n (key n and_rank ∷ pre)
  operand_keys (G.brackets g) n pre = guard_keys g (n + 1) pre
  operand_keys (G.atom q k s t) n pre = 0 ∷ pre

-- a key that is reached is counted, and one that is not ends the run
run_on : (k x : ℕ) (xs : List ℕ) → k ≤ x → run k (x ∷ xs) ≡ suc (run k xs)
unfolding run
run_on k x xs h = rw (le-leb k x h) (rw (or-true (eqb x 0)))

run_stop : (k x : ℕ) (xs : List ℕ) → 0 < x → x < k → run k (x ∷ xs) ≡ 0
unfolding run
run_stop k x xs p h = rw (ne_eqb x 0 (λ e. omega arith), lt-leb k x h)

atom_run : (k : ℕ) (xs : List ℕ) → run k (0 ∷ xs) ≡ suc (run k xs)
unfolding run
atom_run k xs = refl

-- a run that is empty is empty for a greater key
run_none : (k j : ℕ) (xs : List ℕ) → k ≤ j → run k xs ≡ 0 → run j xs ≡ 0
unfolding run
run_none k j [] h e = refl
run_none k j (x ∷ xs) h e = go (eqb x 0) (leb k x) refl e
  where
    go : (a b : Bool) → leb k x ≡ b → choose (a || b) (λ _. suc (run k xs)) (λ _. 0) ≡ 0 → choose (a || leb j x) (λ _. suc (run j xs)) (λ _. 0) ≡ 0
    go true b q e = absurd (omega arith)
    go false true q e = absurd (omega arith)
    go false false q e = let z = leb-false k x q in rw (lt-leb j x (omega arith))

-- all keys of a guard are reached by a key that its level's or reaches, those of a conj and of an operand by one that its level's and reaches
module _ (l : Lists) where
  mutual
    unfolding guard_keys guard_of guard_records

    guard_run : (g : Guard) (n k : ℕ) (pre : List ℕ) → k ≤ n * 2 + 1 → run k (guard_keys g n pre) ≡ length (guard_records (guard_of g l)) + run k pre
    guard_run (G.just c) n k pre h = conj_run c n k pre (omega arith)
    guard_run (G.or g c) n k pre h =
        let e = conj_run c n k (key n or_rank ∷ guard_keys g n pre) (omega arith) in
        let f = run_on k (n * 2 + 1) (guard_keys g n pre) h in
        let i = guard_run g n k pre h in
        let a = length-append (guard_records (guard_of g l)) (guard_records (conj_of c l)) in
        omega arith

    conj_run : (c : Conj) (n k : ℕ) (pre : List ℕ) → k ≤ n * 2 + 2 → run k (conj_keys c n pre) ≡ length (guard_records (conj_of c l)) + run k pre
    conj_run (G.only u) n k pre h = operand_run u n k pre h
    conj_run (G.and c u) n k pre h =
        let e = operand_run u n k (key n and_rank ∷ conj_keys c n pre) h in
        let f = run_on k (n * 2 + 2) (conj_keys c n pre) h in
        let i = conj_run c n k pre h in
        let a = length-append (guard_records (conj_of c l)) (guard_records (operand_of u l)) in
        omega arith

    operand_run : (u : Operand) (n k : ℕ) (pre : List ℕ) → k ≤ n * 2 + 2 → run k (operand_keys u n pre) ≡ length (guard_records (operand_of u l)) + run k pre
    operand_run (G.not u) n k pre h =
        let e = operand_run u n k (key n and_rank ∷ pre) h in
        let f = run_on k (n * 2 + 2) pre h in
        omega arith
    operand_run (G.brackets g) n k pre h = guard_run g (n + 1) k pre (omega arith)
    operand_run (G.atom q j s t) n k pre h = let e : run k (0 ∷ pre) ≡ suc (run k pre) = atom_run k pre in omega arith

abbrev pub way : ℕ → List ℕ → List Eight → Way
way n keys rs = record { level = n; keys = keys; records = rs }

-- an operator whose left operand's records are the last ones
joins : (k rank n : ℕ) (keys : List ℕ) (rs xs : List Eight) → run (key n rank) keys ≡ length xs
    → with_operator k rank (way n keys (rs ++ xs)) ≡ way n (key n rank ∷ keys) (rs ++ (operator_record k ∷ xs))
joins k rank n keys rs xs e =
    ap (way n (key n rank ∷ keys)) (ap (λ (m : ℕ). inserted m (operator_record k) (rs ++ xs)) e ∙ inserted_before (operator_record k) rs xs)

module _ (l : Lists) (few : length (child_names l) ≤ 32) (fewer : length (class_names l) ≤ 8) where
  abbrev walk : List Token → Way → Way
  walk = walked (child_names l) (class_names l)

  -- the records of an operator on two are its own and those of both operands
  regrouped : (rest : List Token) (n : ℕ) (keys : List ℕ) (rs : List Eight) (r : Eight) (xs ys : List Eight)
      → walk rest (way n keys (rs ++ (r ∷ xs) ++ ys)) ≡ walk rest (way n keys (rs ++ (r ∷ (xs ++ ys))))
  regrouped rest n keys rs r xs ys = ap (λ (zs : List Eight). walk rest (way n keys zs)) (append_assoc rs (r ∷ xs) ys)

  atom_walk : (q : Quantifier) (j : Kin) (s : Side) (t : Set) (n : ℕ) (pre : List ℕ) (rs : List Eight) (rest : List Token) → (kin_known l j && set_known l t) ≡ true
      → walk (fixed (quantifier_word q) ∷ kin_words j (fixed (side_word s) ∷ set_words t rest)) (way n pre rs)
      ≡ walk rest (way n (0 ∷ pre) (rs ++ (atom_record (kind_number (kind_of q s)) (pattern_number (pattern_of l j)) (set_of (child_names l) t) ∷ [])))
  unfolding walked turn
  atom_walk q j s t n pre rs rest k =
      let N = child_names l in
      let C = class_names l in
      let words = kin_words j (fixed (side_word s) ∷ set_words t rest) in
      let w = way n pre rs in
      let r = atom_record (kind_number (kind_of q s)) (pattern_number (pattern_of l j)) (set_of N t) in
      ap (walk words) (quantified l few fewer q words w)
      ∙ ap (λ (a : Ahead). walk words (with_atom a w)) (atom_read l few fewer q j s t rest k)
      ∙ kin_passed N C j (fixed (side_word s) ∷ set_words t rest) (put 0 0 r w)
      ∙ side_passed N C s (set_words t rest) (put 0 0 r w)
      ∙ set_passed N C t rest (put 0 0 r w)
      ∙ ap (λ (zs : List Eight). walk rest (way n (0 ∷ pre) zs)) (inserted_last r rs)

  mutual
    unfolding guard_words guard_known guard_keys guard_of guard_records walked turn mark_of K.kind_of

    pub guard_walk : (g : Guard) (n : ℕ) (pre : List ℕ) (rs : List Eight) (rest : List Token) → guard_known g l ≡ true → run (n * 2 + 1) pre ≡ 0
        → walk (guard_words g rest) (way n pre rs) ≡ walk rest (way n (guard_keys g n pre) (rs ++ guard_records (guard_of g l)))
    guard_walk (G.just c) n pre rs rest k h = conj_walk c n pre rs rest k (run_none (n * 2 + 1) (n * 2 + 2) pre (omega arith) h)
    guard_walk (G.or g c) n pre rs rest k h =
        let xs = guard_records (guard_of g l) in
        let keys = guard_keys g n pre in
        let m : run (n * 2 + 1) keys ≡ length xs = omega (arith, guard_run l g n (n * 2 + 1) pre (omega arith)) in
        guard_walk g n pre rs (fixed or_word ∷ conj_words c rest) (and_left (guard_known g l) (conj_known c l) k) h
        ∙ ap (walk (conj_words c rest)) (joins 5 or_rank n keys rs xs m)
        ∙ conj_walk c n (key n or_rank ∷ keys) (rs ++ (operator_record 5 ∷ xs)) rest (and_right (guard_known g l) (conj_known c l) k)
        (run_stop (n * 2 + 2) (n * 2 + 1) keys (omega arith) (omega arith))
        ∙ regrouped rest n (guard_keys (G.or g c) n pre) rs (operator_record 5) xs (guard_records (conj_of c l))

    pub conj_walk : (c : Conj) (n : ℕ) (pre : List ℕ) (rs : List Eight) (rest : List Token) → conj_known c l ≡ true → run (n * 2 + 2) pre ≡ 0
        → walk (conj_words c rest) (way n pre rs) ≡ walk rest (way n (conj_keys c n pre) (rs ++ guard_records (conj_of c l)))
    conj_walk (G.only u) n pre rs rest k h = operand_walk u n pre rs rest k (run_none (n * 2 + 2) (n * 2 + 3) pre (omega arith) h)
    conj_walk (G.and c u) n pre rs rest k h =
        let xs = guard_records (conj_of c l) in
        let keys = conj_keys c n pre in
        let m : run (n * 2 + 2) keys ≡ length xs = omega (arith, conj_run l c n (n * 2 + 2) pre (omega arith)) in
        conj_walk c n pre rs (fixed and_word ∷ operand_words u rest) (and_left (conj_known c l) (operand_known u l) k) h
        ∙ ap (walk (operand_words u rest)) (joins 4 and_rank n keys rs xs m)
        ∙ operand_walk u n (key n and_rank ∷ keys) (rs ++ (operator_record 4 ∷ xs)) rest (and_right (conj_known c l) (operand_known u l) k)
        (run_stop (n * 2 + 3) (n * 2 + 2) keys (omega arith) (omega arith))
        ∙ regrouped rest n (conj_keys (G.and c u) n pre) rs (operator_record 4) xs (guard_records (operand_of u l))

    pub operand_walk : (u : Operand) (n : ℕ) (pre : List ℕ) (rs : List Eight) (rest : List Token) → operand_known u l ≡ true → run (n * 2 + 3) pre ≡ 0
        → walk (operand_words u rest) (way n pre rs) ≡ walk rest (way n (operand_keys u n pre) (rs ++ guard_records (operand_of u l)))
    operand_walk (G.not u) n pre rs rest k h =
        ap (λ (zs : List Eight). walk (operand_words u rest) (way n (key n and_rank ∷ pre) zs)) (inserted_last (operator_record 6) rs)
        ∙ operand_walk u n (key n and_rank ∷ pre) (rs ++ (operator_record 6 ∷ [])) rest k (run_stop (n * 2 + 3) (n * 2 + 2) pre (omega arith) (omega arith))
        ∙ regrouped rest n (operand_keys (G.not u) n pre) rs (operator_record 6) [] (guard_records (operand_of u l))
    operand_walk (G.brackets g) n pre rs rest k h =
        guard_walk g (n + 1) pre rs (fixed close_word ∷ rest) k (run_none (n * 2 + 3) ((n + 1) * 2 + 1) pre (omega arith) h)
        ∙ ap (λ (m : ℕ). walk rest (way m (guard_keys g (n + 1) pre) (rs ++ guard_records (guard_of g l)))) (let z : n + 1 - 1 ≡ n = omega arith in z)
    operand_walk (G.atom q j s t) n pre rs rest k h = atom_walk q j s t n pre rs rest k
