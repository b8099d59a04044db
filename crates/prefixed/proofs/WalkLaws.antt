-- One law for each answer and each turn of the functions of the walk.
-- Assumes nothing.
use Prim.Native.Nat.{ℕ, zero, suc, ◌+◌, ◌-◌, ◌*◌, ◌/◌, ◌≤◌, ◌<◌}
use native.Mathlib.Omega.{arith}
use mathlib.Core.Path.{◌≡◌, refl, sym, ◌∙◌, ap, subst}
use mathlib.Core.Bool.{true, false, not}
use mathlib.Core.List.{List, ◌∷◌}
use lib.ListN.{length, get_or, take, drop, set, length-append, length-take, length-drop, length-set}
use lib.Seq.{get_or-set_same, get_or-set_other}
use borrow.Author.Tests.{not-true, not-false}
use Rattle.grammar.specs.Grammar.{Token}
use Rattle.encoding.specs.Records.{Eight}
use Rattle.encoding.specs.Encoding.{operator_record}
use Rattle.ordering.specs.declared.Mark.{Mark}
use Rattle.ordering.specs.declared.Mark.TheVariants.{Any, All, Edge, And, Or, Not, Open, Close, Other}
use Rattle.std.specs.Prelude.{Some, None}
use Rattle.prefixed.specs.declared.walks.Stand.{Stand}
use Rattle.ordering.specs.Ordering.{Ahead, Way, key, reaches, run, inserted, put, atom_record, atom_ahead, with_atom, with_operator, turn}
use Rattle.prefixed.specs.Inserting.{with_record}
use Rattle.prefixed.specs.Walking.{latest, LeftOperand, leveled, Safe, Shows, Fits, Turned}
use Rattle.prefixed.proofs.InsertLaws.{inserted_bytes}

-- the loop that finds a left operand
abbrev pub Back : List ℕ → ℕ → ℕ → ℕ → ℕ → Type 0
Back keys first count k i = (first ≤ i) × (i ≤ count) × (run k (latest keys first (count - first)) ≡ (count - i) + run k (latest keys first (i - first)))

module _ (keys : List ℕ) (first count k : ℕ) where
  pub back_start : first ≤ count → Back keys first count k count
  back_start h = ((omega arith), (omega arith), (omega arith))

  module _ (i : ℕ) (b : Back keys first count k i) where
    latest_at : first < i → latest keys first (i - first) ≡ get_or keys (i - 1) 0 ∷ latest keys first (i - 1 - first)
    unfolding latest
    latest_at h =
        let e : i - first ≡ suc (i - 1 - first) = omega arith in
        let f : first + (i - 1 - first) ≡ i - 1 = omega arith in
        rw (e, f)

    met : (x : ℕ) (xs : List ℕ) → reaches k x ≡ true → run k (x ∷ xs) ≡ suc (run k xs)
    unfolding run
    met x xs e = rw e

    not_met : (x : ℕ) (xs : List ℕ) → reaches k x ≡ false → run k (x ∷ xs) ≡ 0
    unfolding run
    not_met x xs e = rw e

    pub back_more : first < i → not (reaches k (get_or keys (i - 1) 0)) ≡ false → Back keys first count k (i - 1)
    back_more h e =
        let (l, m, r) = b in
        let f : run k (latest keys first (i - first)) ≡ suc (run k (latest keys first (i - 1 - first))) =
        ap (run k) (latest_at h) ∙ met (get_or keys (i - 1) 0) (latest keys first (i - 1 - first)) (not-false (reaches k (get_or keys (i - 1) 0)) e) in
        ((omega arith), (omega arith), (omega arith))

    pub back_stop : first < i → not (reaches k (get_or keys (i - 1) 0)) ≡ true → LeftOperand keys first count k i
    back_stop h e =
        let (l, m, r) = b in
        let f : run k (latest keys first (i - first)) ≡ 0 =
        ap (run k) (latest_at h) ∙ not_met (get_or keys (i - 1) 0) (latest keys first (i - 1 - first)) (not-true (reaches k (get_or keys (i - 1) 0)) e) in
        record { inside = m; long = omega arith }

    pub back_end : i ≤ first → LeftOperand keys first count k first
    unfolding latest run
    back_end h =
        let (l, m, r) = b in
        let e : i ≡ first = omega arith in
        let z : i - first ≡ 0 = omega arith in
        let f : run k (latest keys first (i - first)) ≡ 0 = ap (λ (n : ℕ). run k (latest keys first n)) z in
        subst (LeftOperand keys first count k) e (record { inside = m; long = omega arith })

-- f is done, and g does the same
pub turned_as : {s r : Stand} {keys bytes after_keys after_bytes : List ℕ} {f : Way → Way} (g : Way → Way) → Turned s r keys bytes after_keys after_bytes f
    → ((w : Way) → Shows s keys bytes w → f w ≡ g w) → Turned s r keys bytes after_keys after_bytes g
turned_as {s} {r} {keys} {bytes} {after_keys} {after_bytes} {f} g t e =
    record {
      safe = t.safe;
      risen = t.risen;
      shows = λ w h fit.
          subst (λ (x : Way). Shows r after_keys after_bytes x) (e w h) (t.shows w h (subst (λ (x : Way). Fits x keys bytes) (sym (e w h)) fit));
    }

pub length_inserted : (m : ℕ) (r : Eight) (rs : List Eight) → length (inserted m r rs) ≡ suc (length rs)
unfolding inserted
length_inserted m r rs =
    let n : ℕ = length rs - m in
    omega (arith, length-append (take n rs) (r ∷ drop n rs), length-take n rs, length-drop n rs)

-- one record more: a table is full, or it is put
module _ (s : Stand) (keys bytes : List ℕ) (safe : Safe s keys bytes) where
  pub put_full : (m k : ℕ) (r : Eight) → length keys ≤ s.count → Turned s s keys bytes keys bytes (put m k r)
  put_full m k r h =
      record {
        safe = safe;
        risen = omega arith;
        shows = λ w shown fit. absurd (let a = shown.count in let b = fit.0 in let c = length_inserted m r w.records in omega arith);
      }

  pub put_no_room : (m k : ℕ) (r : Eight) → length bytes / 8 ≤ s.count → Turned s s keys bytes keys bytes (put m k r)
  put_no_room m k r h =
      record {
        safe = safe;
        risen = omega arith;
        shows = λ w shown fit. absurd (let a = shown.count in let b = fit.1 in let c = length_inserted m r w.records in omega arith);
      }

  pub stays : (f : Way → Way) → ((w : Way) → w ≡ f w) → Turned s s keys bytes keys bytes f
  stays f e = record { safe = safe; risen = omega arith; shows = λ w shown fit. subst (λ (x : Way). Shows s keys bytes x) (e w) shown }

-- the keys before a place are kept by a store at it
latest_set : (keys : List ℕ) (first at k n : ℕ) → first + n ≤ at → latest (set keys at k) first n ≡ latest keys first n
unfolding latest
latest_set keys first at k zero h = refl
latest_set keys first at k (suc n) h =
    rw (get_or-set_other keys at (first + n) k 0 (λ e. omega arith), latest_set keys first at k n (omega arith))

latest_more : (keys : List ℕ) (first count k : ℕ) → first ≤ count → count < length keys → latest (set keys count k) first (count + 1 - first) ≡ k ∷ latest keys first (count - first)
unfolding latest
latest_more keys first count k h l =
    let e : count + 1 - first ≡ suc (count - first) = omega arith in
    let f : first + (count - first) ≡ count = omega arith in
    rw e (rw f (rw (get_or-set_same keys count k 0 l, latest_set keys first count k (count - first) (omega arith))))

module _ (s : Stand) (keys bytes : List ℕ) (safe : Safe s keys bytes) (at k : ℕ) (r : Eight) (inside : at ≤ s.count) (held : s.count < length keys)
    (room : s.count < length bytes / 8) where
  pub put_done : (after : List ℕ) → length after ≡ length bytes → after ≡ with_record at s.count r bytes
      → Turned s (record { level = s.level; first = s.first; count = s.count + 1 }) keys bytes (set keys s.count k) after (put (s.count - at) k r)
  put_done after l f =
      let b = safe.begun in
      record {
        safe = record { begun = omega arith; held = rw (length-set keys s.count k) (omega arith); room = omega arith };
        risen = omega arith;
        shows = λ w shown fit.
            record {
              level = shown.level;
              latest_keys = ap (λ (x : List ℕ). k ∷ x) shown.latest_keys ∙ sym (latest_more keys s.first s.count k b held);
              count = length_inserted (s.count - at) r w.records ∙ (let c = shown.count in omega arith);
              records =
                  ap (take ((s.count + 1) * 8)) f
                  ∙ inserted_bytes at s.count r w.records bytes inside (sym shown.count) (omega arith) shown.records;
            };
      }

-- an operator and an atom, put where they belong
module _ {s r : Stand} {keys bytes after_keys after_bytes : List ℕ} where
  pub operator_done : (kind rank at : ℕ) → LeftOperand keys s.first s.count (s.level * 2 + rank) at
      → Turned s r keys bytes after_keys after_bytes (put (s.count - at) (s.level * 2 + rank) (atom_record kind 0 0)) → Turned s r keys bytes after_keys after_bytes (with_operator kind rank)
  operator_done kind rank at left t = turned_as (with_operator kind rank) t same
    where
      same : (w : Way) → Shows s keys bytes w → put (s.count - at) (s.level * 2 + rank) (atom_record kind 0 0) w ≡ with_operator kind rank w
      same w shown =
          let k : ℕ = s.level * 2 + rank in
          let e : s.count - at ≡ run k w.keys = left.long ∙ ap (run k) (sym shown.latest_keys) in
          ap (λ (m : ℕ). put m k (operator_record kind) w) e
          ∙ ap (λ (n : ℕ). put (run (key n rank) w.keys) (key n rank) (operator_record kind) w) (sym shown.level)

  pub not_done : Turned s r keys bytes after_keys after_bytes (put (s.count - s.count) (s.level * 2 + 2) (atom_record 6 0 0))
      → Turned s r keys bytes after_keys after_bytes (λ w. put 0 (key w.level 2) (operator_record 6) w)
  not_done t = turned_as (λ w. put 0 (key w.level 2) (operator_record 6) w) t same
    where
      same : (w : Way) → Shows s keys bytes w → put (s.count - s.count) (s.level * 2 + 2) (atom_record 6 0 0) w ≡ put 0 (key w.level 2) (operator_record 6) w
      same w shown =
          let e : s.count - s.count ≡ 0 = omega arith in
          ap (λ (m : ℕ). put m (s.level * 2 + 2) (operator_record 6) w) e ∙ ap (λ (n : ℕ). put 0 (key n 2) (operator_record 6) w) (sym shown.level)

  pub atom_done : (a : Ahead) (k p set : ℕ) → a ≡ Some (k, p, set) → Turned s r keys bytes after_keys after_bytes (put (s.count - s.count) 0 (atom_record k p set))
      → Turned s r keys bytes after_keys after_bytes (with_atom a)
  atom_done a k p set e t =
      turned_as (with_atom a) t
      (λ w shown.
      ap (λ (m : ℕ). put m 0 (atom_record k p set) w) (let z : s.count - s.count ≡ 0 = omega arith in z) ∙ ap (λ (x : Ahead). with_atom x w) (sym e))

pub atom_none : (s : Stand) (keys bytes : List ℕ) → Safe s keys bytes → (a : Ahead) → a ≡ None → Turned s s keys bytes keys bytes (with_atom a)
atom_none s keys bytes safe a e = stays s keys bytes safe (with_atom a) (λ w. ap (λ (x : Ahead). with_atom x w) (sym e))

-- the words that only count
module _ (names classes : List (List ℕ)) (rest : List Token) (s : Stand) (keys bytes : List ℕ) (safe : Safe s keys bytes) where
  pub edge_done : Turned s (record { level = s.level; first = s.count; count = s.count }) keys bytes keys bytes (turn names classes Edge rest)
  unfolding turn latest
  edge_done =
      let e : s.count - s.count ≡ 0 = omega arith in
      record {
        safe = record { begun = omega arith; held = safe.held; room = safe.room };
        risen = omega arith;
        shows = λ w shown fit.
            record { level = shown.level; latest_keys = ap (latest keys s.count) (sym e); count = shown.count; records = shown.records };
      }

  -- a bracket: the level alone changes
  bracketed : (n : ℕ) (f : ℕ → ℕ) → n ≡ f s.level → n ≤ s.level + 1
      → Turned s (leveled s n) keys bytes keys bytes (λ w. record { level = f w.level; keys = w.keys; records = w.records })
  bracketed n f e l =
      record {
        safe = record { begun = safe.begun; held = safe.held; room = safe.room };
        risen = l;
        shows = λ w shown fit.
            record { level = ap f shown.level ∙ sym e; latest_keys = shown.latest_keys; count = shown.count; records = shown.records };
      }

  pub open_done : Turned s (leveled s (s.level + 1)) keys bytes keys bytes (turn names classes Open rest)
  unfolding turn
  open_done = bracketed (s.level + 1) (λ n. n + 1) refl (omega arith)

  pub close_done : (n : ℕ) → n ≡ s.level - 1 → Turned s (leveled s n) keys bytes keys bytes (turn names classes Close rest)
  unfolding turn
  close_done n e = bracketed n (λ m. m - 1) e (omega arith)

  pub other_done : Turned s s keys bytes keys bytes (turn names classes Other rest)
  unfolding turn
  other_done = stays s keys bytes safe (turn names classes Other rest) (λ w. refl)

-- what a word does, by what it is
module _ {s r : Stand} {keys bytes after_keys after_bytes : List ℕ} (names classes : List (List ℕ)) (rest : List Token) (mark : Mark) where
  pub by_mark : (m : Mark) → mark ≡ m → Turned s r keys bytes after_keys after_bytes (turn names classes m rest)
      → Turned s r keys bytes after_keys after_bytes (turn names classes mark rest)
  by_mark m e t = subst (λ (x : Mark). Turned s r keys bytes after_keys after_bytes (turn names classes x rest)) (sym e) t

  pub any_turn : mark ≡ Any → Turned s r keys bytes after_keys after_bytes (with_atom (atom_ahead names classes 0 rest)) → Turned s r keys bytes after_keys after_bytes (turn names classes mark rest)
  unfolding turn
  any_turn e t = by_mark Any e t

  pub all_turn : mark ≡ All → Turned s r keys bytes after_keys after_bytes (with_atom (atom_ahead names classes 2 rest)) → Turned s r keys bytes after_keys after_bytes (turn names classes mark rest)
  unfolding turn
  all_turn e t = by_mark All e t

  pub and_turn : mark ≡ And → Turned s r keys bytes after_keys after_bytes (with_operator 4 2) → Turned s r keys bytes after_keys after_bytes (turn names classes mark rest)
  unfolding turn
  and_turn e t = by_mark And e t

  pub or_turn : mark ≡ Or → Turned s r keys bytes after_keys after_bytes (with_operator 5 1) → Turned s r keys bytes after_keys after_bytes (turn names classes mark rest)
  unfolding turn
  or_turn e t = by_mark Or e t

  pub not_turn : mark ≡ Not → Turned s r keys bytes after_keys after_bytes (put (s.count - s.count) (s.level * 2 + 2) (atom_record 6 0 0))
      → Turned s r keys bytes after_keys after_bytes (turn names classes mark rest)
  unfolding turn
  not_turn e t = by_mark Not e (not_done t)
