-- The promise of this floor leaves one answer.
-- Assumes nothing.
use Prim.Native.Nat.{ℕ, ◌+◌, ◌*◌, ◌-◌, ◌^◌, ◌<◌, ◌≤◌}
use native.Mathlib.Omega.{arith}
use mathlib.Core.Path.{◌≡◌, sym, ◌∙◌}
use mathlib.Core.List.{List}
use mathlib.Core.Logic.{◌⊎◌, inl, inr}
use lib.ListN.{get_or}
use lib.Seq.{ext_get_or}
use Rattle.model.specs.Tree.{Child, Part}
use Rattle.model.proofs.Masks.{same_bits}
use Rattle.model.proofs.Words.{lt_or_le}
use Rattle.bodies.specs.PartChecks.{Reads}
use Rattle.model.specs.Running.{goes}
use Rattle.sweeps.specs.Sweeps.{Narrow, WordsFor, Swept, SweepsPart}
use Rattle.sweeps.specs.Unique.{Left, Unique}

one_sweep : (words part : List ℕ) (q mask : ℕ) (before gs : List ℕ) (ks : ℕ → List Child) (p : Part) → q < 32 → Narrow before → WordsFor gs ks words → Reads gs part p → (r s : Left)
    → SweepsPart words part q mask before r.table r.lanes × (r.lanes < 2 ^ 64) → SweepsPart words part q mask before s.table s.lanes × (s.lanes < 2 ^ 64) → r ≡ s
one_sweep words part q mask before gs ks p ql N W R r s (A, a) (B, b) =
    let F : Swept ks q (goes p) mask before r.lanes r.table = A.sweeps gs ks W p R in
    let G : Swept ks q (goes p) mask before s.lanes s.table = B.sweeps gs ks W p R in
    let lanes : r.lanes ≡ s.lanes = same_bits 64 r.lanes s.lanes a b (λ i l. F.stays i l ∙ sym (G.stays i l)) in
    let table : r.table ≡ s.table = ext_get_or 0 r.table s.table (A.kept.long ∙ sym B.kept.long) (λ x l. at F G x (lt_or_le x (q * 32)) (lt_or_le x (q * 32 + 32))) in
    λ i. record { table = table i; lanes = lanes i }
  where
    at : Swept ks q (goes p) mask before r.lanes r.table → Swept ks q (goes p) mask before s.lanes s.table → (x : ℕ) → (x < q * 32) ⊎ (q * 32 ≤ x) → (x < q * 32 + 32) ⊎ (q * 32 + 32 ≤ x)
        → get_or r.table x 0 ≡ get_or s.table x 0
    at F G x (inl l) m = A.kept.others x (λ t u e. omega arith) ∙ sym (B.kept.others x (λ t u e. omega arith))
    at F G x (inr l) (inr m) = A.kept.others x (λ t u e. omega arith) ∙ sym (B.kept.others x (λ t u e. omega arith))
    at F G x (inr l) (inl m) =
        let t : ℕ = x - q * 32 in
        let z : q * 32 + (x - q * 32) ≡ x = omega arith in
        let u : x - q * 32 < 32 = omega arith in
        rw (← z)
        (same_bits 64 (get_or r.table (q * 32 + (x - q * 32)) 0) (get_or s.table (q * 32 + (x - q * 32)) 0) (A.kept.narrow N (q * 32 + (x - q * 32))) (B.kept.narrow N (q * 32 + (x - q * 32)))
        (λ i il. F.row i (x - q * 32) il u ∙ sym (G.row i (x - q * 32) il u)))

pub unique : Unique
unique = record { sweeping = one_sweep }
