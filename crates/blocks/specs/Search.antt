-- What the search finds: the configuration of the loop answer, or its number of moves.
-- Assumes nothing.
use Rattle.std.specs.Prelude.{ℕ, ◌%◌, ◌<◌, ◌≤◌, ◌≡◌, true, List, Result, Ok, Err, length}
use Rattle.model.specs.Words.{has}
use Rattle.model.specs.Crews.{child_classes}
use Rattle.sheet.specs.Contents.{body}
use Rattle.sheet.specs.Reading.{class_of}
use Rattle.sheet.specs.Verdict.{Stands}
use Rattle.sheet.specs.declared.judging.Places.{Places}
use Rattle.model.specs.Words.{Bytes}
use Rattle.configurations.specs.Configurations.{cells, name_count}
use Rattle.configurations.specs.Cells.{AllSmall, cells_of}
use Rattle.configurations.specs.LoopAnswer.{free, loop_in, has_loop, loop_answer}
use Rattle.configurations.specs.Blocks.{BlockLongest}
use Rattle.configurations.specs.declared.Cells.{Cells}
use Rattle.lanes.specs.Lanes.{Lanes, in_block}
use Rattle.lanes.specs.Counting.{LowWords, Counts}
use Rattle.lanes.specs.declared.counting.Present.{Present}
use Rattle.truths.specs.Plans.{Planned}
use Rattle.truths.specs.declared.plans.Plan.{Plan}
use Rattle.truths.specs.Words.{Lent}
use Rattle.arrows.specs.Sorting.{Ranges}
use Rattle.arrows.specs.declared.sorting.Clauses.{Clauses}
use Rattle.blocks.specs.ClauseTables.{ClausesOf}

-- the cells that are held are those of the class, of which there are at most 20, and only child classes of the sheet are present
pub record CellsOf (b : List ℕ) (present : ℕ) (r : Cells) : Type 0 where
  pub own : cells_of r ≡ cells (class_of b) present
  pub few : r.count ≤ 20
  pub small : AllSmall r
  pub below : (i : ℕ) → has present i ≡ true → i < child_classes (class_of b)

-- what the search finds of a sheet
abbrev pub Found : List ℕ → ℕ → Result ℕ ℕ → Type 0
Found b present (Err k) = loop_answer (class_of b) present ≡ loop_in (class_of b) present k
Found b present (Ok m) = loop_answer (class_of b) present ≡ free m

-- the tables that are lent to a block
pub record Tables (plan : Plan) (clauses : Clauses) (statements : List ℕ) (there : Present) (base : ℕ) (words : List ℕ) : Type 0 where
  pub lent : Lent plan.count plan.kinds plan.masks plan.lows words
  pub ranges : Ranges clauses.places clauses.aims clauses.firsts clauses.actions clauses.froms statements clauses.states
  pub some_state : 0 < clauses.states
  pub round : base % 64 ≡ 0
  pub lows_right : LowWords there.masks there.lows

-- the tables are those of a sheet and its present child classes
pub record TablesOf (b : List ℕ) (p : Places) (present : ℕ) (plan : Plan) (clauses : Clauses) (statements : List ℕ) (there : Present) : Type 0 where
  pub bytes : Bytes b
  pub stands : Stands b p
  pub below : (i : ℕ) → has present i ≡ true → i < child_classes (class_of b)
  pub planned : Planned (body b 3) (cells (class_of b) present) plan
  pub listed : ClausesOf b clauses
  pub stated : statements ≡ body b 5
  pub counts : Counts (cells (class_of b) present) present there

-- the tables are long enough to be lent to every block
pub record Ready (plan : Plan) (clauses : Clauses) (statements : List ℕ) (there : Present) : Type 0 where
  pub few : plan.count ≤ 1024
  pub of_kinds : length plan.kinds ≡ 1024
  pub of_masks : length plan.masks ≡ 1024
  pub of_lows : length plan.lows ≡ 1024
  pub ranges : Ranges clauses.places clauses.aims clauses.firsts clauses.actions clauses.froms statements clauses.states
  pub some_state : 0 < clauses.states
  pub lows_right : LowWords there.masks there.lows

-- what the configurations of the block at base do
abbrev pub BlockDoes : List ℕ → ℕ → ℕ → Result ℕ ℕ → Type 0
BlockDoes b present base (Err w) = Lanes w (in_block base (has_loop (class_of b) present)) × (w ≡ 0 → ⊥)
BlockDoes b present base (Ok n) = BlockLongest (class_of b) present base n

-- of whatever sheet the tables are
pub record BlockIs (plan : Plan) (clauses : Clauses) (statements : List ℕ) (there : Present) (base : ℕ) (r : Result ℕ ℕ) : Type 0 where
  pub does : (b : List ℕ) (p : Places) (present : ℕ) → TablesOf b p present plan clauses statements there → BlockDoes b present base r

-- what the blocks of all configurations of so many names give, of whatever sheet the tables are
pub record Finds (plan : Plan) (clauses : Clauses) (statements : List ℕ) (there : Present) (names : ℕ) (r : Result ℕ ℕ) : Type 0 where
  pub finds : (b : List ℕ) (p : Places) (present : ℕ) → TablesOf b p present plan clauses statements there → names ≡ name_count (class_of b) present → Found b present r
