-- The number of each refusal in the paper's table.
-- Assumes nothing.
use Rattle.std.specs.Prelude.{ℕ}
use Rattle.model.specs.declared.Refusal.{Refusal}
use Rattle.model.specs.declared.Refusal.TheVariants.{SheetLength, Contents, EmptyNameSet, ClauseCounts, GuardLayout, GuardReach, Target, ActionClause, Statement, ChildList, AskedState, AskedCommand, PresentBit, NameCount, Room, Naming, Limit, WrittenGuards}

abbrev pub number_of : Refusal → ℕ
number_of SheetLength = 1
number_of Contents = 2
number_of EmptyNameSet = 3
number_of ClauseCounts = 4
number_of GuardLayout = 5
number_of GuardReach = 6
number_of Target = 7
number_of ActionClause = 8
number_of Statement = 9
number_of ChildList = 10
number_of AskedState = 11
number_of AskedCommand = 12
number_of PresentBit = 13
number_of NameCount = 14
number_of Room = 15
number_of Naming = 17
number_of Limit = 18
number_of WrittenGuards = 19
