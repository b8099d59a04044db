-- The promises of this floor leave one answer.
-- Assumes nothing.
use Prim.Native.Nat.{ℕ}
use native.Mathlib.Omega.{arith}
use mathlib.Core.Path.{◌≡◌, refl, sym, ◌∙◌}
use mathlib.Core.Bool.{Bool, true, false}
use mathlib.Core.List.{List}
use mathlib.Core.Option.{none, some}
use lib.Dec.{eqb}
use lib.ListN.{length, get_or}
use lib.Seq.{ext_get_or}
use borrow.Author.Tests.{eqb-true}
use Rattle.model.specs.Words.{choose}
use Rattle.model.specs.Tree.{Child}
use Rattle.model.proofs.Words.{clash}
use Rattle.model.proofs.Masks.{same_bits}
use Rattle.loops.specs.Cells.{Spreads}
use Rattle.loops.specs.Chase.{leads, table_next, Tabulates}
use Rattle.loops.specs.Unique.{Unique}
use Rattle.loops.specs.declared.chase.Table.{Table}
use Rattle.loops.proofs.CellLaws.{one_reading}
use Rattle.loops.proofs.LoopQuestionLaws.{one_loop_answer}

one_spread : (ks : List Child) (r s : List ℕ) → Spreads r ks → Spreads s ks → r ≡ s
one_spread ks r s g h =
    let long : length r ≡ length s = g.eight ∙ sym h.eight in
    ext_get_or 0 r s long
    (λ i l. same_bits 32 (get_or r i 0) (get_or s i 0) (g.narrow i) (h.narrow i)
    (λ n m. let e = g.eight in g.shows i n (omega arith) m ∙ sym (h.shows i n (omega arith) m)))

-- a byte of the table is told by where it leads
same_byte : (t u : ℕ) → leads t ≡ leads u → t ≡ u
same_byte t u = go (eqb t 255) (eqb u 255) refl refl
  where
    go : (x y : Bool) → eqb t 255 ≡ x → eqb u 255 ≡ y → choose x (λ _. none) (λ _. some t) ≡ choose y (λ _. none) (λ _. some u) → t ≡ u
    go true true p q e = eqb-true t 255 p ∙ sym (eqb-true u 255 q)
    go true false p q e = absurd (clash (cc))
    go false true p q e = absurd (clash (cc))
    go false false p q e = cc

one_table : (b list : List ℕ) (r s : Table) → length r.to ≡ 32 → length s.to ≡ 32 → Tabulates b list r → Tabulates b list s → r ≡ s
unfolding table_next
one_table b list r s m n g h =
    let same : r.to ≡ s.to = ext_get_or 255 r.to s.to (m ∙ sym n) (λ q l. same_byte (get_or r.to q 255) (get_or s.to q 255) (g q ∙ sym (h q))) in
    λ i. record { to = same i }

pub unique : Unique
unique =
    record {
      reading = one_reading;
      spreading = one_spread;
      tabulating = one_table;
      asking = one_loop_answer;
    }
