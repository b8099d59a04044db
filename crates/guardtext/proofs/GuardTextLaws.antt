-- Laws of the writer of guards, one for each way that it goes.
-- Assumes nothing.
use Prim.Native.Nat.{ℕ, ◌+◌, ◌-◌, ◌<◌}
use Rattle.std.specs.Prelude.{Option, Some, None}
use mathlib.Core.Path.{◌≡◌, refl, sym, ◌∙◌, ap, subst}
use mathlib.Core.List.{List, ◌++◌}
use Rattle.model.specs.Tree.{Pattern, Kind, Guard, atom, both, either, opposite}
use Rattle.model.proofs.Words.{clash}
use Rattle.grammar.specs.Words.{spelled}
use Rattle.pen.specs.Writing.{Puts}
use Rattle.pen.proofs.Puts.{puts_on, puts_as}
use Rattle.records.specs.GuardRecords.{Read, got, broken, Operator, two, leaf, operator, unknown, guard_record, joined, guard_at, guard_from, operands}
use Rattle.records.specs.Records.{operator_as}
use Rattle.records.specs.declared.guards.Operator.{Operator as ReadOperator}
use Rattle.records.specs.declared.guards.Operator.TheVariants.{Both, Either, Opposite}
use Rattle.records.proofs.GuardLaws.{read_as, joined_deep, joined_first, joined_one, joined_second, joined_two, read_behind}
use Rattle.writings.specs.Layout.{kin_text, set_text, names_of, quantifier_text, side_text, guard_text}
use Rattle.guardtext.specs.GuardTexts.{opening, between, Writes, PutsGuard}

-- an atom, word by word
pub atom_all : (names classes : List ℕ) (k : Kind) (p : Pattern) (set : ℕ) {l0 l1 l2 l3 l4 l5 l6 : List ℕ} {at a b c d e r : ℕ}
    → Puts (spelled "( ") l0 at l1 a → Puts (quantifier_text k) l1 a l2 b → Puts (kin_text classes p) l2 b l3 c → Puts (side_text k) l3 c l4 d
    → Puts (set_text (names_of names set)) l4 d l5 e → Puts (spelled " )") l5 e l6 r → Puts (guard_text names classes (atom k p set)) l0 at l6 r
unfolding guard_text
atom_all names classes k p set x1 x2 x3 x4 x5 x6 = puts_on (puts_on (puts_on (puts_on (puts_on x1 x2) x3) x4) x5) x6

-- two places are the same two
abbrev places : Option (ℕ × ℕ) → ℕ × ℕ
places (Some w) = w
places None = (0, 0)

same_places : {q k p e : ℕ} → ◌≡◌ {A = Option (ℕ × ℕ)} (Some (q, k)) (Some (p, e)) → (q ≡ p) × (k ≡ e)
same_places h = (ap (λ (o : Option (ℕ × ℕ)). (places o).0) h, ap (λ (o : Option (ℕ × ℕ)). (places o).1) h)

-- with what is written, and where
module _ (names classes before : List ℕ) (at : ℕ) (after : List ℕ) where
  -- a guard that was read, and its text
  pub writes_got : (o : Read) (t : Guard) (e p : ℕ) → o ≡ got t e → Puts (guard_text names classes t) before at after p → Writes names classes o before at after (Some (p, e))
  unfolding Writes
  writes_got o t e p h w = rw h (p, refl, w)

  pub writes_broken : (o : Read) → o ≡ broken → Writes names classes o before at after None
  unfolding Writes
  writes_broken o h = rw h refl

  -- back from the answer to what was read
  pub got_back : (o : Read) (r : Option (ℕ × ℕ)) → Writes names classes o before at after r → (p e : ℕ) → r ≡ Some (p, e)
      → (t : Guard) × (o ≡ got t e) × Puts (guard_text names classes t) before at after p
  unfolding Writes
  got_back (got t k) r (q, s, w) p e h =
      let (x, y) = same_places (sym s ∙ h) in
      (t, ap (got t) y, subst (λ (n : ℕ). Puts (guard_text names classes t) before at after n) x w)
  got_back broken r s p e h = absurd (clash (cc))

  pub broken_back : (o : Read) (r : Option (ℕ × ℕ)) → Writes names classes o before at after r → r ≡ None → o ≡ broken
  unfolding Writes
  broken_back (got t k) r (q, s, w) h = absurd (clash (cc))
  broken_back broken r s h = refl

  -- a guard that is written ends behind where it begins
  pub written_behind : (d : ℕ) (gs : List ℕ) (i : ℕ) (r : Option (ℕ × ℕ)) → Writes names classes (guard_at d gs i) before at after r → (p e : ℕ) → r ≡ Some (p, e) → i < e
  written_behind d gs i r w p e h = let (t, o, q) = got_back (guard_at d gs i) r w p e h in read_behind d gs i o

-- one guard is read
same_guard : (u t : Guard) (e k : ℕ) → got u e ≡ got t k → u ≡ t
same_guard u t e k h = cc

not_broken : (t : Guard) (k : ℕ) → got t k ≡ broken → ⊥
not_broken t k h = clash (cc)

-- an operator of two operands, and its text
pub two_text : (names classes : List ℕ) (op : ReadOperator) → (op ≡ Opposite → ⊥)
    → (f : Guard → Guard → Guard) × (operator_as op ≡ two f)
    × ((t u : Guard) → opening op ++ guard_text names classes t ++ between op ++ guard_text names classes u ++ spelled " )" ≡ guard_text names classes (f t u))
unfolding guard_text opening between
two_text names classes Both k = (both, refl, λ t u. refl)
two_text names classes Either k = (either, refl, λ t u. refl)
two_text names classes Opposite k = absurd (k refl)

-- an operator, for each way that its operands are read
module _ (names classes : List ℕ) (d : ℕ) (gs : List ℕ) (i : ℕ) (op : ReadOperator) (before : List ℕ) (at : ℕ) where
  -- no operator is left on the path
  pub operator_deep : d ≡ 0 → (after : List ℕ) → Writes names classes (joined (operands d gs) i (operator_as op)) before at after None
  operator_deep z after = writes_broken names classes before at after _ (joined_deep d gs i z (operator_as op))

  module _ (n : d ≡ 0 → ⊥) (l1 : List ℕ) (a : ℕ) (l2 : List ℕ) (first : Option (ℕ × ℕ)) (x : Writes names classes (guard_at (d - 1) gs i) l1 a l2 first) where
    -- the first operand is broken
    pub operator_first : first ≡ None → Writes names classes (joined (operands d gs) i (operator_as op)) before at l2 None
    operator_first h =
        writes_broken names classes before at l2 _ (joined_first d gs i n (broken_back names classes l1 a l2 (guard_at (d - 1) gs i) first x h) (operator_as op))

    -- it is written, and ends at record j
    module _ (b j : ℕ) (h : first ≡ Some (b, j)) where
      pub operator_one : op ≡ Opposite → Puts (opening op) before at l1 a → (after : List ℕ) (r : ℕ) → Puts (spelled " )") l2 b after r
          → Writes names classes (joined (operands d gs) i (operator_as op)) before at after (Some (r, j))
      unfolding guard_text opening
      operator_one e p after r q =
          let (t, o, w) = got_back names classes l1 a l2 (guard_at (d - 1) gs i) first x b j h in
          writes_got names classes before at after _ (opposite t) j r (rw e (joined_one d gs i n o opposite)) (puts_on (puts_on (rw e at p) w) q)

      -- with a second behind it
      module _ (k : op ≡ Opposite → ⊥) (l3 : List ℕ) (c : ℕ) (l4 : List ℕ) (second : Option (ℕ × ℕ)) (y : Writes names classes (guard_at (d - 1) gs j) l3 c l4 second) where
        pub operator_second : second ≡ None → Writes names classes (joined (operands d gs) i (operator_as op)) before at l4 None
        operator_second g =
            let (t, o, w) = got_back names classes l1 a l2 (guard_at (d - 1) gs i) first x b j h in
            let (f, e, m) = two_text names classes op k in
            writes_broken names classes before at l4 _ (rw e (joined_second d gs i n o f (broken_back names classes l3 c l4 (guard_at (d - 1) gs j) second y g)))

        pub operator_two : (s z : ℕ) → second ≡ Some (s, z) → Puts (opening op) before at l1 a → Puts (between op) l2 b l3 c → (after : List ℕ) (r : ℕ) → Puts (spelled " )") l4 s after r
            → Writes names classes (joined (operands d gs) i (operator_as op)) before at after (Some (r, z))
        operator_two s z g p p2 after r q =
            let (t, o, w) = got_back names classes l1 a l2 (guard_at (d - 1) gs i) first x b j h in
            let (u, v, w2) = got_back names classes l3 c l4 (guard_at (d - 1) gs j) second y s z g in
            let (f, e, m) = two_text names classes op k in
            writes_got names classes before at after _ (f t u) z r (rw e (joined_two d gs i n o f v)) (puts_as (m t u) (puts_on (puts_on (puts_on (puts_on p w) p2) w2) q))

-- a guard is written as its first record has it
module _ (names classes : List ℕ) (d : ℕ) (gs : List ℕ) (i : ℕ) (before : List ℕ) (at : ℕ) (after : List ℕ) where
  pub from_atom : (k : Kind) (p : Pattern) (set : ℕ) → leaf k p set ≡ guard_record gs i → (r : ℕ) → Puts (guard_text names classes (atom k p set)) before at after r
      → Writes names classes (guard_at d gs i) before at after (Some (r, i + 1))
  from_atom k p set e r w = writes_got names classes before at after (guard_at d gs i) (atom k p set) (i + 1) r (read_as d gs i e) w

  pub from_operator : (op : Operator) → operator op ≡ guard_record gs i → (r : Option (ℕ × ℕ)) → Writes names classes (joined (operands d gs) (i + 1) op) before at after r
      → Writes names classes (guard_at d gs i) before at after r
  from_operator op e r w = rw (read_as d gs i e) w

  pub from_unknown : unknown ≡ guard_record gs i → Writes names classes (guard_at d gs i) before at after None
  from_unknown e = writes_broken names classes before at after (guard_at d gs i) (read_as d gs i e)

-- the guard at a place
module _ (names classes gs : List ℕ) (i : ℕ) (before : List ℕ) (at : ℕ) (after : List ℕ) (r : Option (ℕ × ℕ)) (w : Writes names classes (guard_at 16 gs i) before at after r) where
  pub guard_written : (p e : ℕ) → r ≡ Some (p, e) → PutsGuard gs i names classes before at after p
  unfolding guard_from
  guard_written p e h t k z =
      let (u, o, q) = got_back names classes before at after (guard_at 16 gs i) r w p e h in
      puts_as (ap (guard_text names classes) (same_guard u t e k (sym o ∙ z))) q

  pub guard_broken : r ≡ None → (p : ℕ) → PutsGuard gs i names classes before at after p
  unfolding guard_from
  guard_broken h p t k z = absurd (not_broken t k (sym z ∙ broken_back names classes before at after (guard_at 16 gs i) r w h))
