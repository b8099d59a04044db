-- What is looked at for refusals 17 and 19 in one walk: whether all names that are to be written are there, and how many guard records are.
-- Assumes nothing.
use Rattle.std.specs.Prelude.{ℕ, zero, suc, ◌+◌, ◌*◌, Bool, true, ◌&&◌, List, eqb, ltb, length, get_or}
use Rattle.model.specs.Words.{every, listed, each}
use Rattle.model.specs.Tree.{everyone, any_in, Guard, atom, Part, Class}
use Rattle.records.specs.Bytes.{byte, in_fours, in_eights, record_at}
use Rattle.records.specs.GuardRecords.{Read, by_read, Record, leaf, operator, unknown, guard_record, guard_from}
use Rattle.bodies.specs.Clauses.{name_set, guard_place, action_command}
use Rattle.bodies.specs.StatementReaders.{by_kind}
use Rattle.bodies.specs.declared.statements.StatementRecord.{StatementRecord}
use Rattle.bodies.specs.declared.statements.StatementRecord.TheVariants.{Do, MoveTo, If, Unknown}
use Rattle.grammar.specs.Words.{same}
use Rattle.naming.specs.NameLists.{record_right, list_right, bits_named}
use Rattle.lists.specs.Lent.{sets_in}
use Rattle.encoding.specs.Encoding.{guard_records, part_guards, all_guards}
use Rattle.writings.specs.Missing.{guard_named, part_named, state_named}
use Rattle.missing.specs.declared.Tally.{Tally}

-- nothing is looked at: no name is missing, and no guard record is written
abbrev pub nothing : Tally
nothing = record { named = true; count = 0 }

-- two tallies together
abbrev pub joined : Tally → Tally → Tally
joined a b = record { named = a.named && b.named; count = a.count + b.count }

-- those of f at the numbers below n together
unfoldable pub sum_of : ℕ → (ℕ → Tally) → Tally
sum_of zero f = nothing
sum_of (suc n) f = joined (sum_of n f) (f n)

-- the guard that a class has where this was read: where nothing was, one that no child makes true
abbrev pub as_read : Read → Guard
as_read r = by_read r (λ _. atom any_in everyone 0) (λ g _. g)

-- of a guard record: the bits of an atom's set, where there are n names
abbrev pub record_named : ℕ → Record → Bool
record_named n (leaf kind p set) = bits_named n set
record_named n (operator op) = true
record_named n unknown = true

-- of n guard records from one on
unfoldable pub records_named : ℕ → List ℕ → ℕ → ℕ → Bool
records_named names gs first n = each n (λ i. record_named names (guard_record gs (first + i)))

-- of a guard
unfoldable pub guard_tally : ℕ → Guard → Tally
guard_tally n g = record { named = guard_named n g; count = length (guard_records g) }

-- of the guard that begins at a place
unfoldable pub place_tally : ℕ → List ℕ → ℕ → Tally
place_tally n gs place = guard_tally n (as_read (guard_from gs place))

-- of when clause w, and of all
abbrev pub when_tally : ℕ → List ℕ → List ℕ → ℕ → Tally
when_tally n gs whens w = place_tally n gs (guard_place whens w)

unfoldable pub whens_tally : ℕ → List ℕ → List ℕ → Tally
whens_tally n gs whens = sum_of (in_fours whens) (when_tally n gs whens)

-- of a statement's own record, where there are m commands: the command of a do, the guard of an if
abbrev pub front_tally : ℕ → ℕ → List ℕ → StatementRecord → Tally
front_tally n m gs (Do c p) = record { named = ltb c m; count = 0 }
front_tally n m gs (MoveTo t) = nothing
front_tally n m gs (If b) = place_tally n gs b.guard
front_tally n m gs Unknown = nothing

unfoldable pub statement_tally : ℕ → ℕ → List ℕ → List ℕ → Tally
statement_tally n m gs r = front_tally n m gs (get_or (by_kind r) (byte r 0) Unknown)

-- of all statements
unfoldable pub statements_tally : ℕ → ℕ → List ℕ → List ℕ → Tally
statements_tally n m gs statements = sum_of (in_eights statements) (λ i. statement_tally n m gs (record_at statements i))

-- of a part
unfoldable pub part_tally : ℕ → ℕ → Part → Tally
part_tally n m p = record { named = part_named n m p; count = length (part_guards p) }

-- the command of action clause a, and those of all
unfoldable pub command_named : ℕ → List ℕ → ℕ → Bool
command_named m actions a = ltb (action_command actions a) m

unfoldable pub commands_named : ℕ → List ℕ → Bool
commands_named m actions = each (in_fours actions) (command_named m actions)

-- OF A CLASS
unfoldable pub class_tally : ℕ → ℕ → Class → Tally
class_tally n m c = record { named = every (state_named n m) c.states; count = length (all_guards c) }

-- the own name is one record, and the table has one for each of S own states
unfoldable pub own_fits : List ℕ → List ℕ → ℕ → Bool
own_fits name table S = eqb (length name) 32 && (record_right name && (list_right 32 table && eqb (length table) (32 * S)))

-- the name sets of the lent classes are those of a body of child classes
unfoldable pub sets_alike : List ℕ → List ℕ → Bool
sets_alike classes sets = same (sets_in classes) (listed 0 (in_fours sets) (name_set sets))
