-- Statements run on a set of lanes: which lanes move to each state, and which are left.
-- Assumes nothing.
use Rattle.std.specs.Prelude.{ℕ, ◌+◌, ◌*◌, ◌^◌, ◌<◌, ◌≡◌, ◌&&◌, ◌||◌, not, List, length, get_or}
use Rattle.std.proofs.Math.Option.{Option, some}
use Rattle.model.specs.Words.{has, is_some}
use Rattle.model.specs.Tree.{Child, Guard, Statement, Part, ◌then◌}
use Rattle.model.specs.Guards.{holds}
use Rattle.model.specs.Moves.{is_at}
use Rattle.records.specs.GuardRecords.{got, guard_from}
use Rattle.bodies.specs.PartChecks.{Reads}
use Rattle.lanes.specs.Lanes.{Lanes}
use Rattle.model.specs.Running.{goes, goes_one}

-- the word of the moves from q to t
abbrev pub move_word : List ℕ → ℕ → ℕ → ℕ
move_word table q t = get_or table (q * 32 + t) 0

-- each word of the table has 64 bits
abbrev pub Narrow : List ℕ → Type 0
Narrow table = (x : ℕ) → get_or table x 0 < 2 ^ 64

-- lane i has the children ks i: every guard that is read has its word
pub record WordsFor (gs : List ℕ) (ks : ℕ → List Child) (words : List ℕ) : Type 0 where
  pub word : (place : ℕ) (g : Guard) (e : ℕ) → guard_from gs place ≡ got g e → Lanes (get_or words place 0) (λ i. holds g (ks i))

-- run on the lanes of a mask, what moves as f says takes lanes to the words of state q, and the others are left
pub record Swept (ks : ℕ → List Child) (q : ℕ) (f : List Child → Option ℕ) (mask : ℕ) (before : List ℕ) (left : ℕ) (after : List ℕ) : Type 0 where
  pub stays : (i : ℕ) → i < 64 → has left i ≡ (has mask i && not (is_some (f (ks i))))
  pub row : (i t : ℕ) → i < 64 → t < 32 → has (move_word after q t) i ≡ (has (move_word before q t) i || (has mask i && is_at t (f (ks i))))

-- the words of the other states are as before, and no word gets wider
pub record Kept (q : ℕ) (before after : List ℕ) : Type 0 where
  pub long : length after ≡ length before
  pub others : (x : ℕ) → ((t : ℕ) → t < 32 → x ≡ q * 32 + t → ⊥) → get_or after x 0 ≡ get_or before x 0
  pub narrow : Narrow before → Narrow after

-- the lanes move from q to t
pub record Adds (q t lanes : ℕ) (before after : List ℕ) : Type 0 where
  pub kept : Kept q before after
  pub adds : (ks : ℕ → List Child) (f : List Child → Option ℕ) → ((l : List Child) → f l ≡ some t) → Swept ks q f lanes before 0 after

-- the part that the list reads as was run, whatever the guards and the children are that the words are for
pub record SweepsPart (words part : List ℕ) (q mask : ℕ) (before after : List ℕ) (left : ℕ) : Type 0 where
  pub kept : Kept q before after
  pub sweeps : (gs : List ℕ) (ks : ℕ → List Child) → WordsFor gs ks words → (p : Part) → Reads gs part p → Swept ks q (goes p) mask before left after

-- the statement that it begins with was run
pub record SweepsIf (words part : List ℕ) (q mask : ℕ) (before after : List ℕ) (left : ℕ) : Type 0 where
  pub kept : Kept q before after
  pub sweeps : (gs : List ℕ) (ks : ℕ → List Child) → WordsFor gs ks words → (s : Statement) (p : Part) → Reads gs part (s then p) → Swept ks q (goes_one s) mask before left after
