-- Worked examples: the texts of the paper's sheets A and C, computed from the bytes; every form of the layout; and which refusal comes first.
-- Assumes nothing.
use Prim.Native.Nat.{ℕ, zero, suc}
use Prim.Native.String.{String}
use mathlib.Core.Path.{◌≡◌, refl}
use mathlib.Core.Bool.{true, false}
use mathlib.Core.List.{List, [], ◌∷◌, ◌++◌}
use lib.ListN.{length, replicate}
use Rattle.model.specs.Tree.{everyone, of_class, any_in, any_not_in, all_in, all_not_in, Guard, atom, both, either, opposite, run, stay, When, send, go_to, branch, end, ◌then◌, Class}
use Rattle.model.specs.Replies.{refuse, give}
use Rattle.grammar.specs.Words.{spelled}
use Rattle.sheet.specs.Reading.{class_of}
use Rattle.sheet.specs.Samples.{sheet_A, sheet_C}
use Rattle.encoding.specs.Encoding.{all_guards}
use Rattle.naming.proofs.Examples.{worked, name_list, states, heater, lists}
use Rattle.writings.specs.Layout.{Named, guard_text, referrer_text, statement_text, class_text}
use Rattle.writings.specs.Missing.{names_right}
use Rattle.writings.specs.Writings.{guards_few, reply_text}
use Rattle.writings.proofs.Computing.{computing}

-- ten commands, of which 4 is heat, 5 stop and 9 start
unfoldable pub commands : List ℕ
commands = name_list ("c0" ∷ "c1" ∷ "c2" ∷ "c3" ∷ "heat" ∷ "stop" ∷ "c6" ∷ "c7" ∷ "c8" ∷ "start" ∷ [])

-- the heaters' press
unfoldable pub press : Named
press = record { own_name = name_list ("PRESS" ∷ []); own_states = name_list ("READY" ∷ "HOLD" ∷ []); lists = lists states commands heater }

-- lines, each ended by a line feed
unfoldable pub lines : List String → List ℕ
lines [] = []
lines (l ∷ ls) = spelled l ++ (10 ∷ lines ls)

-- a class with every form of the layout
unfoldable pub forms : Class
forms =
    let cold = atom any_in everyone 1 in
    let hot = atom all_in (of_class 0) 2 in
    let guard = either (both (opposite cold) (atom any_not_in (of_class 0) 6)) (atom all_not_in everyone 7) in
    let heat = send 4 (of_class 0) in
    let within = branch hot end (heat then end) in
    record {
      children = 7 ∷ [];
      states =
          record { whens = []; actions = [] }
          ∷ record {
            whens = record { guard = guard; referrer = stay } ∷ record { guard = hot; referrer = run 1 } ∷ [];
            actions =
                record { command = 5; body = end }
                ∷ record { command = 9; body = branch cold (within then go_to 0 then heat then end) end then branch hot end end then end }
                ∷ [];
          }
          ∷ [];
    }

-- a guard of 2 ^ n - 1 records, and a class that uses guards
unfoldable pub doubled : ℕ → Guard
doubled zero = atom any_in everyone 1
doubled (suc n) = both (doubled n) (doubled n)

unfoldable pub stays_by : List Guard → List When
stays_by [] = []
stays_by (g ∷ gs) = record { guard = g; referrer = stay } ∷ stays_by gs

unfoldable pub guarded : List Guard → Class
guarded gs = record { children = 7 ∷ []; states = record { whens = stays_by gs; actions = [] } ∷ record { whens = []; actions = [] } ∷ [] }

-- the press with one child state name, so that HOT has none
unfoldable pub unnamed : Named
unnamed = record { own_name = name_list ("PRESS" ∷ []); own_states = name_list ("READY" ∷ "HOLD" ∷ []); lists = lists (name_list ("COLD" ∷ [])) commands heater }

-- one name that opens these too
unfoldable pub opened : Unit {0}
unfolding worked computing commands press lines forms doubled stays_by guarded unnamed
opened = tt

pub text_of_A : class_text press (class_of sheet_A) ≡ lines
    ("class: $FWPART_$TOP$PRESS"
    ∷ "  state: READY"
    ∷ "    when ( $ANY$HEATER not_in_state HOT ) move_to HOLD"
    ∷ "  state: HOLD"
    ∷ "    when ( $ANY$HEATER in_state HOT ) move_to READY"
    ∷ [])
unfolding opened
text_of_A = refl

-- guard 1 is written twice: for HOLD's when and for the if
pub text_of_C : class_text press (class_of sheet_C) ≡ lines
    ("class: $FWPART_$TOP$PRESS"
    ∷ "  state: READY"
    ∷ "    when ( $ANY$HEATER not_in_state HOT ) move_to HOLD"
    ∷ "    action: start"
    ∷ "      do heat $ALL$FwCHILDREN"
    ∷ "      if ( $ALL$HEATER in_state HOT ) then"
    ∷ "        move_to HOLD"
    ∷ "      endif"
    ∷ "      do stop $ALL$FwCHILDREN"
    ∷ "  state: HOLD"
    ∷ "    when ( $ALL$HEATER in_state HOT ) move_to READY"
    ∷ [])
unfolding opened
text_of_C = refl

-- so the sheet of two guard records has three in its text
pub C_guards : length (all_guards (class_of sheet_C)) ≡ 3
unfolding opened
C_guards = refl

pub C_is_written : (names_right press (class_of sheet_C) ≡ true) × (guards_few (class_of sheet_C) ≡ true)
unfolding opened
C_is_written = (refl, refl)

-- brackets round every operator; a stay with the state that it stands in; an else
pub not_text : guard_text states heater (opposite (atom any_in everyone 1)) ≡ spelled "( not ( $ANY$FwCHILDREN in_state COLD ) )"
unfolding opened
not_text = refl

pub stay_text : referrer_text press.own_states press.lists 1 [] stay ≡ spelled "stay_in_state HOLD"
unfolding opened
stay_text = refl

pub else_lines : statement_text press.own_states press.lists (branch (atom all_in (of_class 0) 2) end (go_to 1 then end)) 0 ≡ lines
    ("if ( $ALL$HEATER in_state HOT ) then" ∷ "else" ∷ "  move_to HOLD" ∷ "endif" ∷ [])
unfolding opened
else_lines = refl

-- an empty then-part, an if inside, what stands behind a move_to, an if with nothing in it
pub text_of_forms : class_text press forms ≡ lines
    ("class: $FWPART_$TOP$PRESS"
    ∷ "  state: READY"
    ∷ "  state: HOLD"
    ∷ "    when ( ( ( not ( $ANY$FwCHILDREN in_state COLD ) ) and ( $ANY$HEATER not_in_state {HOT, FAULT} ) ) or ( $ALL$FwCHILDREN not_in_state {COLD, HOT, FAULT} ) ) stay_in_state HOLD"
    ∷ "    when ( $ALL$HEATER in_state HOT ) do start"
    ∷ "    action: stop"
    ∷ "    action: start"
    ∷ "      if ( $ANY$FwCHILDREN in_state COLD ) then"
    ∷ "        if ( $ALL$HEATER in_state HOT ) then"
    ∷ "        else"
    ∷ "          do heat $ALL$HEATER"
    ∷ "        endif"
    ∷ "        move_to READY"
    ∷ "        do heat $ALL$HEATER"
    ∷ "      endif"
    ∷ "      if ( $ALL$HEATER in_state HOT ) then"
    ∷ "      endif"
    ∷ [])
unfolding opened
text_of_forms = refl

-- a name that a guard speaks of is missing
pub bit_missing : names_right press (guarded (atom any_in everyone 8 ∷ [])) ≡ false
unfolding opened
bit_missing = refl

-- 1,024 guard records are few, and 1,025 are not, each counted as often as it is used
pub most_guards : (guards_few (guarded (doubled 9 ∷ doubled 0 ∷ [])) ≡ true) × (guards_few (guarded (doubled 9 ∷ doubled 0 ∷ doubled 0 ∷ [])) ≡ false)
unfolding opened
most_guards = (refl, refl)

-- 17 before 19, and 19 before 15
pub seventeen_first : reply_text unnamed (guarded (doubled 9 ∷ doubled 9 ∷ [])) [] ≡ refuse 17
unfolding opened
seventeen_first = refl

pub nineteen_next : reply_text press (guarded (doubled 9 ∷ doubled 9 ∷ [])) [] ≡ refuse 19
unfolding opened
nineteen_next = refl

-- 15 where one byte is missing, and the text where none is
pub fifteen_last : reply_text press (class_of sheet_A) (replicate 161 0) ≡ refuse 15
unfolding opened
fifteen_last = refl

pub just_room : reply_text press (class_of sheet_A) (replicate 162 0) ≡ give 162 (class_text press (class_of sheet_A))
unfolding opened
just_room = refl
