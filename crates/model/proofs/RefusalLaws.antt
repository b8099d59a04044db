-- Laws about specs/Refusals.antt: a refusal's number tells the refusal, and none is 0.
-- Assumes nothing.
use Prim.Native.Nat.{ℕ, ◌≤◌}
use native.Mathlib.Omega.{arith}
use mathlib.Core.Path.{◌≡◌, refl, sym, ap, ◌∙◌}
use mathlib.Core.List.{[], ◌∷◌}
use lib.ListN.{get_or}
use Rattle.model.specs.declared.Refusal.{Refusal}
use Rattle.model.specs.declared.Refusal.TheVariants.{SheetLength, Contents, EmptyNameSet, ClauseCounts, GuardLayout, GuardReach, Target, ActionClause, Statement, ChildList, AskedState, AskedCommand, PresentBit, NameCount, Room, Naming, Limit, WrittenGuards}
use Rattle.model.specs.Refusals.{number_of}

-- the paper's table, from 1 on; 16 has no refusal of its own
numbered : ℕ → Refusal
numbered n =
    get_or (SheetLength ∷ SheetLength ∷ Contents ∷ EmptyNameSet ∷ ClauseCounts ∷ GuardLayout ∷ GuardReach ∷ Target ∷ ActionClause ∷ Statement ∷ ChildList ∷ AskedState ∷ AskedCommand ∷ PresentBit ∷ NameCount ∷ Room ∷ Room ∷ Naming ∷ Limit ∷ WrittenGuards ∷ []) n SheetLength

numbered_own : (x : Refusal) → numbered (number_of x) ≡ x
unfolding numbered
numbered_own SheetLength = refl
numbered_own Contents = refl
numbered_own EmptyNameSet = refl
numbered_own ClauseCounts = refl
numbered_own GuardLayout = refl
numbered_own GuardReach = refl
numbered_own Target = refl
numbered_own ActionClause = refl
numbered_own Statement = refl
numbered_own ChildList = refl
numbered_own AskedState = refl
numbered_own AskedCommand = refl
numbered_own PresentBit = refl
numbered_own NameCount = refl
numbered_own Room = refl
numbered_own Naming = refl
numbered_own Limit = refl
numbered_own WrittenGuards = refl

pub same_number : (x y : Refusal) → number_of x ≡ number_of y → x ≡ y
same_number x y e = sym (numbered_own x) ∙ ap numbered e ∙ numbered_own y

-- every refusal has a number
pub numbered_from_1 : (x : Refusal) → 1 ≤ number_of x
numbered_from_1 x = elim x as (λ x. 1 ≤ number_of x) [ SheetLength ↦ omega arith | Contents ↦ omega arith | EmptyNameSet ↦ omega arith | ClauseCounts ↦ omega arith | GuardLayout ↦ omega arith | GuardReach ↦ omega arith | Target ↦ omega arith | ActionClause ↦ omega arith | Statement ↦ omega arith | ChildList ↦ omega arith | AskedState ↦ omega arith | AskedCommand ↦ omega arith | PresentBit ↦ omega arith | NameCount ↦ omega arith | Room ↦ omega arith | Naming ↦ omega arith | Limit ↦ omega arith | WrittenGuards ↦ omega arith ]

pub not_zero : (x : Refusal) → number_of x ≡ 0 → ⊥
not_zero x e = let n = numbered_from_1 x in omega arith

-- 16 is told with its place, and is the number of none
pub not_sixteen : (x : Refusal) → number_of x ≡ 16 → ⊥
not_sixteen x = elim x as (λ x. number_of x ≡ 16 → ⊥) [ SheetLength ↦ λ e. omega arith | Contents ↦ λ e. omega arith | EmptyNameSet ↦ λ e. omega arith | ClauseCounts ↦ λ e. omega arith | GuardLayout ↦ λ e. omega arith | GuardReach ↦ λ e. omega arith | Target ↦ λ e. omega arith | ActionClause ↦ λ e. omega arith | Statement ↦ λ e. omega arith | ChildList ↦ λ e. omega arith | AskedState ↦ λ e. omega arith | AskedCommand ↦ λ e. omega arith | PresentBit ↦ λ e. omega arith | NameCount ↦ λ e. omega arith | Room ↦ λ e. omega arith | Naming ↦ λ e. omega arith | Limit ↦ λ e. omega arith | WrittenGuards ↦ λ e. omega arith ]
