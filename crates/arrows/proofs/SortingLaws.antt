-- Laws about specs/Sorting.antt: what a when clause more, an action clause more and a state more do to the words of the table.
-- Assumes nothing.
use Prim.Native.Nat.{ℕ, zero, suc, ◌+◌, ◌-◌, ◌*◌, ◌%◌, ◌^◌, ◌<◌, ◌≤◌}
use native.Mathlib.Omega.{arith}
use native.Mathlib.Decide.{ℕ_discrete}
use native.Mathlib.Numerals.{add-one}
use mathlib.Core.Path.{◌≡◌, refl, sym, ap, ◌∙◌}
use mathlib.Core.Bool.{Bool, true, false, ◌&&◌, ◌||◌, not, and-false, or-false}
use mathlib.Core.List.{List}
use mathlib.Core.Logic.{◌⊎◌, inl, inr}
use lib.Dec.{eqb, ltb}
use lib.ListN.{length, get_or, set, length-set}
use lib.Bits.{bit_and, bit_or, and_lt}
use borrow.Author.Tests.{eq-eqb, ne_eqb, eqb-true, lt-ltb, le-ltb}
use Rattle.model.specs.Words.{has, choose, some_below}
use Rattle.model.specs.Tree.{Child, Part}
use Rattle.model.specs.Moves.{is_at}
use Rattle.model.specs.Running.{goes}
use Rattle.model.proofs.Words.{lt_or_le, some_below_elim, some_below_intro, not_not_true, both_ways, and_left, and_right, and_both}
use Rattle.model.proofs.Bits.{has_none}
use Rattle.model.proofs.Masks.{has_and}
use Rattle.lanes.specs.Lanes.{opposite}
use Rattle.lanes.proofs.LaneLaws.{lanes_own, lanes_not}
use Rattle.sweeps.specs.Sweeps.{move_word, Narrow, SweepsPart}
use Rattle.sweeps.proofs.SweepLaws.{none_taken, added_bit, added_narrow, kept_same, kept_then}
use Rattle.arrows.specs.Sorting.{run_word, taken, Took, clause_bytes, RanAll, leads_to, taken_from, Own, TablesFor, Empty, Sorted, HitsLent, RunsLent, Ranges}
use Rattle.arrows.proofs.LevelLaws.{some_both}

-- after the clauses before n: what they have taken, and what the remaining lanes will do
pub record Taking (places aims words : List ℕ) (first last counted : ℕ) (before : List ℕ) (n remaining : ℕ) (table : List ℕ) : Type 0 where
  pub few : n ≤ last
  pub long : length table ≡ length before
  pub small_rest : remaining < 2 ^ 64
  pub narrow : Narrow before → Narrow table
  pub sums : (x i : ℕ) → x < 1280 → i < 64
      → (has (get_or table x 0) i || (has remaining i && eqb (taken places aims words n (last - n) i) x)) ≡ (has (get_or before x 0) i || (has counted i && eqb (taken places aims words first (last - first) i) x))

-- one clause, in one lane
one_lane : (r rest h : Bool) (x a b : ℕ) → ((r || ((rest && h) && eqb a x)) || ((rest && not h) && eqb b x)) ≡ (r || (rest && eqb (choose h (λ _. a) (λ _. b)) x))
one_lane true rest h x a b = refl
one_lane false true true x a b = or-false (eqb a x)
one_lane false true false x a b = refl
one_lane false false h x a b = refl

module _ (places aims words : List ℕ) (first last counted : ℕ) (before : List ℕ) where
  pub taking_start : first ≤ last → counted < 2 ^ 64 → Taking places aims words first last counted before first counted before
  taking_start l c = record { few = l; long = refl; small_rest = c; narrow = λ N. N; sums = λ x i xl il. refl }

  module _ (n remaining : ℕ) (table : List ℕ) (S : Taking places aims words first last counted before n remaining table) (l : n < last) (w : ℕ) (W : w ≡ get_or words (get_or places n 0) 0) (wide : w < 2 ^ 64) where
    -- the sums after this clause, for a word that has what it had and what the clause takes
    next_sums : (x i r : ℕ) → x < 1280 → i < 64 → has r i ≡ (has (get_or table x 0) i || (has (bit_and remaining w) i && eqb (get_or aims n 0) x))
        → (has r i || (has (bit_and remaining (opposite w)) i && eqb (taken places aims words (n + 1) (last - (n + 1)) i) x)) ≡ (has (get_or before x 0) i || (has counted i && eqb (taken places aims words first (last - first) i) x))
    unfolding taken
    next_sums x i r xl il e =
        let z : last - n ≡ suc (last - (n + 1)) = omega arith in
        let y : n + 1 ≡ suc n = omega arith in
        let no : has (opposite w) i ≡ not (has w i) = (lanes_not (lanes_own wide)).lane i il in
        let c = rw (z, ← W) at (S.sums x i xl il) in
        rw (e, has_and remaining w i, has_and remaining (opposite w) i, no, y)
        (one_lane (has (get_or table x 0) i) (has remaining i) (has w i) x (get_or aims n 0) (taken places aims words (suc n) (last - suc n) i) ∙ (rw y at c))

    left : bit_and remaining (opposite w) < 2 ^ 64
    left = and_lt 64 remaining (opposite w) S.small_rest (lanes_not (lanes_own wide)).narrow

    pub taking_hit : (at : ℕ) → at ≡ get_or aims n 0 → at < length table
        → Taking places aims words first last counted before (n + 1) (bit_and remaining (opposite w)) (set table at (bit_or (get_or table at 0) (bit_and remaining w)))
    taking_hit at e al =
        record {
          few = omega arith;
          long = length-set table at (bit_or (get_or table at 0) (bit_and remaining w)) ∙ S.long;
          small_rest = left;
          narrow = λ N. added_narrow table at (bit_and remaining w) al (and_lt 64 remaining w S.small_rest wide) (S.narrow N);
          sums = λ x i xl il. next_sums x i (get_or (set table at (bit_or (get_or table at 0) (bit_and remaining w))) x 0) xl il
              (added_bit table at (bit_and remaining w) al x i ∙ ap (λ (y : ℕ). has (get_or table x 0) i || (has (bit_and remaining w) i && eqb y x)) e);
        }

    pub taking_past : 1280 ≤ get_or aims n 0 → Taking places aims words first last counted before (n + 1) (bit_and remaining (opposite w)) table
    taking_past h =
        record {
          few = omega arith;
          long = S.long;
          small_rest = left;
          narrow = S.narrow;
          sums = λ x i xl il. next_sums x i (get_or table x 0) xl il
              (rw (ne_eqb (get_or aims n 0) x (λ z. omega arith)) (none_taken (has (get_or table x 0) i) (has (bit_and remaining w) i)));
        }

  pub taking_end : (n remaining : ℕ) (table : List ℕ) → Taking places aims words first last counted before n remaining table → last ≤ n → Took places aims words first last counted before table
  unfolding taken
  taking_end n remaining table S l =
      record {
        long = S.long;
        narrow = S.narrow;
        hits = λ x i xl il.
            let z : last - n ≡ 0 = omega arith in
            let b = rw (z, ne_eqb 1280 x (λ e. omega arith)) at (S.sums x i xl il) in
            none_taken (has (get_or table x 0) i) (has remaining i) ∙ b;
      }

-- an action clause more
module _ (words statements froms : List ℕ) (first q : ℕ) (before : List ℕ) where
  pub ran_start : RanAll words statements froms first first q before before
  unfolding some_below
  ran_start =
      let z : first - first ≡ 0 = omega arith in
      record { kept = kept_same q before; ran = λ gs ks W p R i t il tl. rw z (sym (or-false (has (move_word before q t) i))) }

  pub ran_more : (a : ℕ) (table : List ℕ) → RanAll words statements froms first a q before table → first ≤ a → q < 32 → (after : List ℕ) (left : ℕ)
      → SweepsPart words (clause_bytes statements froms a) q (run_word table a) table after left → RanAll words statements froms first (a + 1) q before after
  unfolding some_below
  ran_more a table D l ql after left S =
      record {
        kept = kept_then D.kept S.kept;
        ran = λ gs ks W p R i t il tl.
            let z : a + 1 - first ≡ suc (a - first) = omega arith in
            let y : first + (a - first) ≡ a = omega arith in
            let same : run_word table a ≡ run_word before a = D.kept.others (1024 + a) (λ t u e. omega arith) in
            let F = (S.sweeps gs ks W (p a) (R a l (omega arith))).row i t il tl in
            let E = D.ran gs ks W p (λ b u v. R b u (omega arith)) i t il tl in
            F ∙ rw (E, same, z, y) (or_more (has (move_word before q t) i) (some_below (a - first) (λ a. has (run_word before (first + a)) i && is_at t (goes (p (first + a)) (ks i)))) (has (run_word before a) i && is_at t (goes (p a) (ks i))));
      }
    where
      or_more : (x y z : Bool) → ((x || y) || z) ≡ (x || (y || z))
      or_more true y z = refl
      or_more false y z = refl

  pub ran_end : (a last : ℕ) (table : List ℕ) → RanAll words statements froms first a q before table → a ≤ last → last ≤ a → RanAll words statements froms first last q before table
  ran_end a last table D l m = let z : a ≡ last = omega arith in rw z at D

-- where the clauses of state q take a lane is one of its words
taken_own : (places aims words actions : List ℕ) (q i m n : ℕ) → ((j : ℕ) → m ≤ j → j < m + n → Own actions q (get_or aims j 0)) → Own actions q (taken places aims words m n i)
unfolding taken
taken_own places aims words actions q i m zero h = inr (inr (omega arith))
taken_own places aims words actions q i m (suc n) h = go (has (get_or words (get_or places m 0) 0) i) (taken_own places aims words actions q i (suc m) n (λ j l u. h j (omega arith) (omega arith)))
  where
    go : (b : Bool) → Own actions q (taken places aims words (suc m) n i) → Own actions q (choose b (λ _. get_or aims m 0) (λ _. taken places aims words (suc m) n i))
    go true o = h m (omega arith) (omega arith)
    go false o = o

-- it is no word of another state's moves
other_row : (actions : List ℕ) (n X q t : ℕ) → Own actions n X → n < 32 → q < 32 → t < 32 → (q ≡ n → ⊥) → X ≡ q * 32 + t → ⊥
other_row actions n X q t (inl (u, l, e)) nl ql tl d z = d (let y : q ≡ n = omega arith in y)
other_row actions n X q t (inr (inl (a, l, m, e))) nl ql tl d z = omega arith
other_row actions n X q t (inr (inr l)) nl ql tl d z = omega arith

-- in one lane that counts, the move or the moves of the action clauses are where the word leads
module _ (actions : List ℕ) (p : ℕ → Part) (l : List Child) (n t X : ℕ) (nl : n < 32) (tl : t < 32) (inside : get_or actions (n + 1) 0 ≤ 256) where
  abbrev first : ℕ
  first = get_or actions n 0

  abbrev count : ℕ
  count = get_or actions (n + 1) 0 - get_or actions n 0

  -- action clause a of the state is run, and goes to t
  abbrev run_goes : ℕ → Bool
  run_goes a = eqb X (1024 + (first + a)) && is_at t (goes (p (first + a)) l)

  no_run : ((a : ℕ) → a < count → X ≡ 1024 + (first + a) → ⊥) → some_below count run_goes ≡ false
  no_run h =
      not_not_true (some_below count run_goes)
      (λ y. let (a, u, b) = some_below_elim count run_goes y in h a u (eqb-true X (1024 + (first + a)) (and_left (eqb X (1024 + (first + a))) (is_at t (goes (p (first + a)) l)) b)))

  leads_own : Own actions n X → (eqb X (n * 32 + t) || some_below count run_goes) ≡ is_at t (leads_to p l X)
  leads_own (inl (u, m, e)) =
      let f = no_run (λ a y z. omega arith) in
      let lo : n * 32 + u < 1024 = omega arith in
      let v : (n * 32 + u) % 32 ≡ u = omega arith in
      rw f (rw e (rw (lt-ltb (n * 32 + u) 1024 lo, v) (or-false (eqb (n * 32 + u) (n * 32 + t)) ∙ same_row (ℕ_discrete u t))))
    where
      same_row : Dec (u ≡ t) → eqb (n * 32 + u) (n * 32 + t) ≡ eqb u t
      same_row (yes z) = rw (z, eq-eqb (n * 32 + t) (n * 32 + t) refl, eq-eqb t t refl)
      same_row (no d) = rw (ne_eqb u t d, ne_eqb (n * 32 + u) (n * 32 + t) (λ e. d (let z : u ≡ t = omega arith in z)))
  leads_own (inr (inl (a, m, k, e))) =
      let no : eqb X (n * 32 + t) ≡ false = ne_eqb X (n * 32 + t) (λ z. omega arith) in
      let hi : 1024 ≤ 1024 + a = omega arith in
      let lo : 1024 + a < 1280 = omega arith in
      let v : 1024 + a - 1024 ≡ a = omega arith in
      let z : first + (a - first) ≡ a = omega arith in
      let here : eqb X (1024 + (first + (a - first))) ≡ true = eq-eqb X (1024 + (first + (a - first))) (omega arith) in
      rw no
      (both_ways (some_below count run_goes) (is_at t (leads_to p l X))
      (λ y.
      let (b, u, g) = some_below_elim count run_goes y in
      let w : X ≡ 1024 + (first + b) = eqb-true X (1024 + (first + b)) (and_left (eqb X (1024 + (first + b))) (is_at t (goes (p (first + b)) l)) g) in
      let s : first + b ≡ a = omega arith in
      let h = and_right (eqb X (1024 + (first + b))) (is_at t (goes (p (first + b)) l)) g in
      rw e (rw (le-ltb (1024 + a) 1024 hi, lt-ltb (1024 + a) 1280 lo, v) (rw s at h)))
      (λ y.
      let h = rw (le-ltb (1024 + a) 1024 hi, lt-ltb (1024 + a) 1280 lo, v) at (rw e at y) in
      some_below_intro count run_goes (a - first) (omega arith) (and_both (eqb X (1024 + (first + (a - first)))) (is_at t (goes (p (first + (a - first))) l)) here (rw z h))))
  leads_own (inr (inr m)) =
      let f = no_run (λ a y z. omega arith) in
      let no : eqb X (n * 32 + t) ≡ false = ne_eqb X (n * 32 + t) (λ z. omega arith) in
      rw (f, no, le-ltb X 1024 (omega arith), le-ltb X 1280 m)

-- a state more
and_or : (c x y : Bool) → ((c && x) || (c && y)) ≡ (c && (x || y))
and_or true x y = refl
and_or false x y = refl

and_and : (c x y : Bool) → ((c && x) && y) ≡ (c && (x && y))
and_and true x y = refl
and_and false x y = refl

module _ (places aims firsts actions froms statements : List ℕ) (s : ℕ) (words : List ℕ) (counted : ℕ) where
  pub all_start : (table : List ℕ) → Empty table → length table ≡ 1280 → Sorted places aims firsts actions froms statements s 0 words counted table
  unfolding some_below
  all_start table E long =
      record {
        long = long;
        narrow = λ x. rw (E x) (let z : 0 < 2 ^ 64 = omega arith in z);
        runs = λ a i al il. rw (E (1024 + a), has_none i) (sym (and-false (has counted i)));
        moves = λ gs ks p F q t i ql tl il. rw (E (q * 32 + t), has_none i, le-ltb q 0 (omega arith)) (sym (and-false (has counted i)));
      }

  module _ (R : Ranges places aims firsts actions froms statements s) (n : ℕ) (table mid after : List ℕ) (A : Sorted places aims firsts actions froms statements s n words counted table) (l : n < s)
      (T : Took places aims words (get_or firsts n 0) (get_or firsts (n + 1) 0) counted table mid) (D : RanAll words statements froms (get_or actions n 0) (get_or actions (n + 1) 0) n mid after) where
    small : n < 32
    small = let f = R.few in omega arith

    ends : get_or actions (n + 1) 0 ≤ get_or actions s 0
    ends = R.actions_rising (n + 1) s (omega arith) (omega arith)

    -- the lanes that clauses take to the run of action clause a
    hit_run : (a i : ℕ) → a < 256 → i < 64 → has (run_word mid a) i ≡ (has counted i && some_below (suc n) (λ q. eqb (taken_from places aims firsts words q i) (1024 + a)))
    unfolding some_below
    hit_run a i al il =
        T.hits (1024 + a) i (omega arith) il
        ∙ rw (A.runs a i al il)
        (and_or (has counted i) (some_below n (λ q. eqb (taken_from places aims firsts words q i) (1024 + a))) (eqb (taken_from places aims firsts words n i) (1024 + a)))

    module _ (gs : List ℕ) (ks : ℕ → List Child) (p : ℕ → Part) (F : TablesFor aims firsts actions froms statements s words gs ks p) where
      own_at : (q i : ℕ) → q < s → Own actions q (taken_from places aims firsts words q i)
      own_at q i ql = taken_own places aims words actions q i (get_or firsts q 0) (get_or firsts (q + 1) 0 - get_or firsts q 0) (λ j a b. F.own q j ql a (let r = R.rising q ql in omega arith))

      -- no state before takes lanes to the action clauses of state n
      none_before : (a i : ℕ) → a < 256 → get_or actions n 0 ≤ a → some_below n (λ q. eqb (taken_from places aims firsts words q i) (1024 + a)) ≡ false
      none_before a i al from =
          not_not_true (some_below n (λ q. eqb (taken_from places aims firsts words q i) (1024 + a)))
          (λ h. let (q, ql, e) = some_below_elim n (λ q. eqb (taken_from places aims firsts words q i) (1024 + a)) h in
          no q ql (own_at q i (omega arith)) (eqb-true (taken_from places aims firsts words q i) (1024 + a) e))
        where
          no : (q : ℕ) → q < n → Own actions q (taken_from places aims firsts words q i) → taken_from places aims firsts words q i ≡ 1024 + a → ⊥
          no q ql (inl (t, tl, e)) z = let f = small in omega arith
          no q ql (inr (inl (b, u, v, e))) z = let r = R.actions_rising (q + 1) n (omega arith) (omega arith) in omega arith
          no q ql (inr (inr u)) z = omega arith

      own_run : (a i : ℕ) → a < get_or actions (n + 1) 0 - get_or actions n 0 → i < 64
          → has (run_word mid (get_or actions n 0 + a)) i ≡ (has counted i && eqb (taken_from places aims firsts words n i) (1024 + (get_or actions n 0 + a)))
      unfolding some_below
      own_run a i al il =
          let f = ends in
          let g = R.actions_inside in
          let m : get_or actions n 0 + a < 256 = omega arith in
          hit_run (get_or actions n 0 + a) i m il ∙ rw (none_before (get_or actions n 0 + a) i m (omega arith))

      own_row : (t i : ℕ) → t < 32 → i < 64 → has (move_word mid n t) i ≡ (has counted i && eqb (taken_from places aims firsts words n i) (n * 32 + t))
      own_row t i tl il =
          let f = small in
          T.hits (n * 32 + t) i (omega arith) il ∙ rw (A.moves gs ks p F n t i small tl il, le-ltb n n (omega arith), and-false (has counted i))

      row_here : (t i : ℕ) → t < 32 → i < 64 → has (move_word after n t) i ≡ (has counted i && is_at t (leads_to p (ks i) (taken_from places aims firsts words n i)))
      row_here t i tl il =
          let f = ends in
          let g = R.actions_inside in
          D.ran gs ks F.words_right p (λ a u v. F.bodies a (omega arith) (omega arith)) i t il tl
          ∙ rw (
            own_row t i tl il,
            some_both (has counted i) (get_or actions (n + 1) 0 - get_or actions n 0)
                (λ a. has (run_word mid (get_or actions n 0 + a)) i && is_at t (goes (p (get_or actions n 0 + a)) (ks i)))
                (λ a. eqb (taken_from places aims firsts words n i) (1024 + (get_or actions n 0 + a)) && is_at t (goes (p (get_or actions n 0 + a)) (ks i)))
                (λ a u. rw (own_run a i u il) (and_and (has counted i) (eqb (taken_from places aims firsts words n i) (1024 + (get_or actions n 0 + a))) (is_at t (goes (p (get_or actions n 0 + a)) (ks i))))),
          )
          (and_or (has counted i) (eqb (taken_from places aims firsts words n i) (n * 32 + t))
          (some_below (get_or actions (n + 1) 0 - get_or actions n 0) (λ a. eqb (taken_from places aims firsts words n i) (1024 + (get_or actions n 0 + a)) && is_at t (goes (p (get_or actions n 0 + a)) (ks i))))
          ∙ ap (λ (b : Bool). has counted i && b) (leads_own actions p (ks i) n t (taken_from places aims firsts words n i) small tl (omega arith) (own_at n i l)))

      row_other : (q t i : ℕ) → q < 32 → t < 32 → i < 64 → (q ≡ n → ⊥)
          → has (move_word after q t) i ≡ (has counted i && (ltb q n && is_at t (leads_to p (ks i) (taken_from places aims firsts words q i))))
      row_other q t i ql tl il d =
          let e : move_word after q t ≡ move_word mid q t = D.kept.others (q * 32 + t) (λ u ul z. d (let y : q ≡ n = omega arith in y)) in
          let no = ne_eqb (taken_from places aims firsts words n i) (q * 32 + t) (other_row actions n (taken_from places aims firsts words n i) q t (own_at n i l) small ql tl d) in
          rw e (T.hits (q * 32 + t) i (omega arith) il ∙ rw no (sym (none_taken (has (move_word table q t) i) (has counted i)) ∙ A.moves gs ks p F q t i ql tl il))

      pub all_moves : (q t i : ℕ) → q < 32 → t < 32 → i < 64 → has (move_word after q t) i ≡ (has counted i && (ltb q (n + 1) && is_at t (leads_to p (ks i) (taken_from places aims firsts words q i))))
      all_moves q t i ql tl il = go (ℕ_discrete q n)
        where
          go : Dec (q ≡ n) → has (move_word after q t) i ≡ (has counted i && (ltb q (n + 1) && is_at t (leads_to p (ks i) (taken_from places aims firsts words q i))))
          go (yes z) = rw (z, lt-ltb n (n + 1) (omega arith)) (row_here t i tl il)
          go (no d) = row_other q t i ql tl il d ∙ ap (λ (b : Bool). has counted i && (b && is_at t (leads_to p (ks i) (taken_from places aims firsts words q i)))) (before (lt_or_le q n) (lt_or_le n q))
            where
              before : (q < n) ⊎ (n ≤ q) → (n < q) ⊎ (q ≤ n) → ltb q n ≡ ltb q (n + 1)
              before (inl u) v = rw (lt-ltb q n u, lt-ltb q (n + 1) (omega arith))
              before (inr u) (inl v) = rw (le-ltb q n u, le-ltb q (n + 1) (omega arith))
              before (inr u) (inr v) = absurd (d (let z : q ≡ n = omega arith in z))

    pub all_more : Sorted places aims firsts actions froms statements s (n + 1) words counted after
    all_more =
        record {
          long = D.kept.long ∙ T.long ∙ A.long;
          narrow = D.kept.narrow (T.narrow A.narrow);
          runs = λ a i al il.
              let f = small in
              let e : run_word after a ≡ run_word mid a = D.kept.others (1024 + a) (λ t tl z. omega arith) in
              rw (e, add-one) (hit_run a i al il);
          moves = all_moves;
        }

  pub all_end : (n : ℕ) (table : List ℕ) → Sorted places aims firsts actions froms statements s n words counted table → n ≤ s → s ≤ n → Sorted places aims firsts actions froms statements s s words counted table
  all_end n table A l m = let z : n ≡ s = omega arith in rw z at A

-- what is lent for one state
module _ (places aims firsts actions froms statements : List ℕ) (s : ℕ) (table : List ℕ) (R : Ranges places aims firsts actions froms statements s) (q : ℕ) (l : q < s) (long : length table ≡ 1280) where
  pub hits_lent : HitsLent places aims (get_or firsts q 0) (get_or firsts (q + 1) 0) table
  hits_lent = record { rising = R.rising q l; inside = R.inside q l; of_places = R.of_places; of_aims = R.of_aims; of_table = long }

  pub runs_lent : RunsLent statements froms (get_or actions q 0) (get_or actions (q + 1) 0) q table
  runs_lent =
      let e = R.actions_rising (q + 1) s (omega arith) (omega arith) in
      record {
        rising = R.actions_rising q (q + 1) (omega arith) (omega arith);
        inside = (let i = R.actions_inside in omega arith);
        of_froms = R.of_froms;
        state = (let f = R.few in omega arith);
        of_table = long;
        from_rising = λ a u. R.from_rising a (omega arith);
        from_inside = λ a u. R.from_inside a (omega arith);
      }
