-- Worked examples, computed from the bytes: the class and the table of a text, and what each cause of 17 is.
-- Assumes nothing.
use Prim.Native.Nat.{ℕ, ◌/◌, ◌%◌}
use Prim.Native.String.{String}
use mathlib.Core.Path.{◌≡◌, refl}
use mathlib.Core.Bool.{Bool, true, false, ◌&&◌}
use mathlib.Core.List.{List, [], ◌∷◌, ◌++◌, map}
use lib.ListN.{length, replicate}
use Rattle.model.specs.Words.{every, listed}
use Rattle.model.specs.Tree.{everyone, of_class, any_in, any_not_in, all_in, all_not_in, atom, both, either, opposite, move_to, run, stay, send, go_to, branch, end, ◌then◌, Class}
use Rattle.grammar.specs.Grammar.{Text, none}
use Rattle.grammar.specs.Words.{spelled, words, tokens}
use Rattle.grammar.specs.Machine.{start, Outcome, read, refused, reads}
use Rattle.grammar.specs.Reading.{Says}
use Rattle.grammar.proofs.Worked.{press}
use Rattle.sheet.specs.Samples.{sheet_A}
use Rattle.encoding.specs.Encoding.{when_records, all_guards, sheet_of}
use Rattle.encoding.specs.Limits.{within_limits}
use Rattle.naming.specs.NameLists.{Lists, padded, lists_right, lists_within}
use Rattle.naming.specs.Naming.{class_in, joined, table_of}
use Rattle.naming.specs.Known.{text_known}
use Rattle.naming.proofs.Computing.{computing}

-- the tree of a text; of other bytes one of no meaning
abbrev read_as : Outcome → Text
read_as (read t) = t
read_as (refused ws) = record { class = []; earlier = none; last = record { own = []; whens = none; actions = none } }

unfoldable pub tree : List ℕ → Text
tree b = read_as (reads start (tokens (words b)))

-- a list of names, and a class's record with its name set
unfoldable pub name_list : List String → List ℕ
name_list ns = joined (map (λ n. padded (spelled n)) ns)

unfoldable pub class_record : String → ℕ → List ℕ
class_record n s = padded (spelled n) ++ (s % 256 ∷ s / 256 % 256 ∷ s / 65536 % 256 ∷ s / 16777216 ∷ [])

-- names, commands, and child classes with their name sets
unfoldable pub lists : List ℕ → List ℕ → List ℕ → Lists
lists names commands classes = record { names = names; commands = commands; classes = classes }

-- the heaters of the paper's sheets, with two commands
unfoldable pub states : List ℕ
states = name_list ("COLD" ∷ "HOT" ∷ "FAULT" ∷ [])

unfoldable pub commands : List ℕ
commands = name_list ("heat" ∷ "stop" ∷ [])

unfoldable pub heater : List ℕ
heater = class_record "HEATER" 7

unfoldable pub heaters : Lists
heaters = lists states commands heater

-- one name that opens these too
unfoldable pub worked : Unit {0}
unfolding computing press tree name_list class_record lists states commands heater heaters
worked = tt

-- the press: its text is that of its tree, its sheet is A, and its table READY, HOLD
pub press_read : Says press (tree press)
unfolding worked
press_read = refl

pub press_is_A : (sheet_of (class_in heaters (tree press)) ≡ sheet_A) × (table_of (tree press) ≡ spelled "READY" ++ (replicate 27 0 ++ (spelled "HOLD" ++ replicate 28 0)))
unfolding worked
press_is_A = (refl, refl)

-- 17, the lists: those of the heaters and those without any name are right
pub right_lists : every lists_right (heaters ∷ lists [] [] [] ∷ lists states [] [] ∷ []) ≡ true
unfolding worked
right_lists = refl

-- a list that ends within a record; a record that is no name's: none, 32 characters, another byte, a byte behind the zeros, a word of the grammar;
-- a name twice; a bit of a name set without a name
unfoldable pub wrong_lists : List Lists
wrong_lists =
    lists (states ++ (0 ∷ [])) commands heater
    ∷ lists states (commands ++ (0 ∷ [])) heater
    ∷ lists states commands (heater ++ (0 ∷ []))
    ∷ lists (states ++ name_list ("" ∷ [])) commands heater
    ∷ lists (states ++ spelled "abcdefghijklmnopqrstuvwxyz012345") commands heater
    ∷ lists (states ++ name_list ("A-B" ∷ [])) commands heater
    ∷ lists (states ++ (65 ∷ 0 ∷ 65 ∷ listed 0 29 (λ _. 0))) commands heater
    ∷ lists (states ++ name_list ("when" ∷ [])) commands heater
    ∷ lists states (commands ++ name_list ("TOP" ∷ [])) heater
    ∷ lists states commands (heater ++ class_record "FwCHILDREN" 1)
    ∷ lists (states ++ name_list ("HOT" ∷ [])) commands heater
    ∷ lists states (commands ++ name_list ("stop" ∷ [])) heater
    ∷ lists states commands (heater ++ class_record "HEATER" 1)
    ∷ lists states commands (class_record "HEATER" 8)
    ∷ lists states commands (class_record "HEATER" 2147483655)
    ∷ []

pub lists_refused : map lists_right wrong_lists ≡ map (λ _. false) wrong_lists
unfolding worked wrong_lists
lists_refused = refl

-- 18, the lists: 32 names and 64 commands are within, one more of either is not
pub lists_limit : map lists_within
    (lists (replicate 1024 0) (replicate 2048 0) [] ∷ lists (replicate 1056 0) [] [] ∷ lists [] (replicate 2080 0) [] ∷ []) ≡ true ∷ false ∷ false ∷ []
unfolding worked
lists_limit = refl

-- 17, the text, with the heaters' lists
unfoldable pub known_text : String → Bool
known_text s = text_known heaters (tree (spelled s))

-- a child state name, alone and in braces; a child class, of a guard and of a do; a command, of an action clause, of a do and of a do referrer;
-- an own state, behind a referrer's move_to, a stay_in_state and a statement's move_to;
-- a state twice; an action twice in a state; a do referrer whose state has no such action
unfoldable pub unknown_texts : List String
unknown_texts =
    "class: $FWPART_$TOP$X state: A when $ANY$HEATER in_state WARM move_to A"
    ∷ "class: $FWPART_$TOP$X state: A when $ANY$HEATER not_in_state {HOT, WARM} move_to A"
    ∷ "class: $FWPART_$TOP$X state: A when $ANY$PUMP in_state HOT move_to A"
    ∷ "class: $FWPART_$TOP$X state: A action: heat do heat $ALL$PUMP"
    ∷ "class: $FWPART_$TOP$X state: A action: cool"
    ∷ "class: $FWPART_$TOP$X state: A action: heat do cool $ALL$HEATER"
    ∷ "class: $FWPART_$TOP$X state: A when $ANY$HEATER in_state HOT do cool action: heat"
    ∷ "class: $FWPART_$TOP$X state: A when $ANY$HEATER in_state HOT move_to B"
    ∷ "class: $FWPART_$TOP$X state: A when $ANY$HEATER in_state HOT stay_in_state B"
    ∷ "class: $FWPART_$TOP$X state: A action: heat if $ANY$HEATER in_state HOT then else move_to B endif"
    ∷ "class: $FWPART_$TOP$X state: A state: B state: A"
    ∷ "class: $FWPART_$TOP$X state: A action: heat action: stop action: heat"
    ∷ "class: $FWPART_$TOP$X state: A when $ANY$HEATER in_state HOT do stop action: heat state: B action: stop"
    ∷ []

pub texts_refused : map known_text unknown_texts ≡ map (λ _. false) unknown_texts
unfolding worked known_text unknown_texts
texts_refused = refl

-- and what is not 17: a name that stands twice in braces, a name that no child of the class is given, a stay_in_state with another state, a state behind its
-- use, an action in two states, one word as a state, a command and a child's state
unfoldable pub known_texts : List String
known_texts =
    "class: $FWPART_$TOP$X state: A when $ANY$HEATER in_state {HOT, COLD, HOT} move_to A"
    ∷ "class: $FWPART_$TOP$X state: A when $ANY$FwCHILDREN not_in_state FAULT stay_in_state B state: B"
    ∷ "class: $FWPART_$TOP$X state: A when $ANY$HEATER in_state HOT move_to B state: B"
    ∷ "class: $FWPART_$TOP$X state: A when $ANY$HEATER in_state HOT do heat action: heat state: B action: heat move_to A"
    ∷ "class: $FWPART_$TOP$X state: HOT when $ANY$HEATER in_state HOT move_to heat state: heat action: heat do heat $ALL$FwCHILDREN"
    ∷ []

pub texts_known : map known_text known_texts ≡ map (λ _. true) known_texts
unfolding worked known_text known_texts
texts_known = refl

pub lacking_known : text_known (lists states commands (class_record "HEATER" 2)) (tree (spelled "class: $FWPART_$TOP$X state: A when $ANY$HEATER in_state COLD stay_in_state")) ≡ true
unfolding worked
lacking_known = refl

-- the class of a text, with the heaters' lists
unfoldable pub class_from : String → Class
class_from s = class_in heaters (tree (spelled s))

-- texts with the same class: a name twice in braces; the state behind stay_in_state; an empty else; how guards bind; brackets that are not needed
unfoldable pub same_classes : List (String × String)
same_classes = (
  "class: $FWPART_$TOP$X state: A when $ANY$HEATER in_state {HOT, COLD, HOT} move_to A",
  "class:$FWPART_$TOP$X\nstate:A when$ANY$HEATER in_state{COLD,HOT}move_to A",
)
    ∷ ("class: $FWPART_$TOP$X state: A when $ANY$HEATER in_state HOT stay_in_state", "class: $FWPART_$TOP$Y state: A when $ANY$HEATER in_state HOT stay_in_state A")
    ∷ (
      "class: $FWPART_$TOP$X state: A action: heat if $ANY$HEATER in_state HOT then endif",
      "class: $FWPART_$TOP$X state: A action: heat if $ANY$HEATER in_state HOT then else endif",
    )
    ∷ (
      "class: $FWPART_$TOP$X state: A when not $ANY$HEATER in_state COLD and $ALL$HEATER in_state HOT or $ANY$FwCHILDREN in_state FAULT move_to A",
      "class: $FWPART_$TOP$X state: A when ((not $ANY$HEATER in_state COLD) and (($ALL$HEATER in_state HOT))) or $ANY$FwCHILDREN in_state FAULT move_to A",
    )
    ∷ (
      "class: $FWPART_$TOP$X state: A when $ANY$HEATER in_state COLD and $ANY$HEATER in_state HOT and $ANY$HEATER in_state FAULT move_to A",
      "class: $FWPART_$TOP$X state: A when ($ANY$HEATER in_state COLD and $ANY$HEATER in_state HOT) and $ANY$HEATER in_state FAULT move_to A",
    )
    ∷ []

pub classes_same : map (λ (p : String × String). class_from p.0) same_classes ≡ map (λ (p : String × String). class_from p.1) same_classes
unfolding worked class_from same_classes
classes_same = refl

-- a text with everything in it, and its class: states and actions by their numbers in the text, commands, classes and child names by their numbers in the lists
unfoldable pub everything : String
everything =
    "class: $FWPART_$TOP$X state: A when $ANY$HEATER not_in_state {HOT,COLD} do stop when $ANY$HEATER in_state COLD or not $ALL$HEATER in_state HOT and $ALL$FwCHILDREN in_state FAULT or $ANY$HEATER in_state FAULT move_to B action: stop action: heat if $ALL$HEATER not_in_state HOT then move_to B else do heat $ALL$HEATER do stop $ALL$FwCHILDREN endif move_to A state: B when $ANY$FwCHILDREN in_state HOT stay_in_state A"

pub everything_is : class_from everything
    ≡ record {
      children = 7 ∷ [];
      states =
          record {
            whens =
                record { guard = atom any_not_in (of_class 0) 3; referrer = run 0 }
                ∷ record {
                  guard =
                      either (either (atom any_in (of_class 0) 1) (both (opposite (atom all_in (of_class 0) 2)) (atom all_in everyone 4)))
                      (atom any_in (of_class 0) 4);
                  referrer = move_to 1;
                }
                ∷ [];
            actions =
                record { command = 1; body = end }
                ∷ record {
                  command = 0;
                  body = branch (atom all_not_in (of_class 0) 2) (go_to 1 then end) (send 0 (of_class 0) then (send 1 everyone then end)) then (go_to 0 then end);
                }
                ∷ [];
          }
          ∷ record { whens = record { guard = atom any_in everyone 2; referrer = stay } ∷ []; actions = [] }
          ∷ [];
    }
unfolding worked class_from everything
everything_is = refl

-- the chamber: one state's clauses, and the states that it names
unfoldable pub chamber : String
chamber =
    "class: $FWPART_$TOP$RPC_Chamber_CLASS\n  state: OFF\n    when ( ( $ANY$FwCHILDREN in_state ERROR ) or\n           ( $ANY$FwCHILDREN in_state TRIPPED ) ) move_to ERROR\n\n    when ( $ANY$RPC_HV in_state {RAMPING_UP,\n                                RAMPING_DOWN} ) move_to RAMPING\n  when ( ( $ALL$RPC_LV in_state ON ) and\n         ( $ALL$RPC_HV in_state STANDBY ) ) move_to STANDBY\n\n  when ( ( $ALL$RPC_HV in_state ON ) and\n         ( $ALL$RPC_LV in_state ON ) ) move_to ON\n\n  when ( ( $ALL$FwCHILDREN in_state ON ) and\n         ( $ALL$RPC_T in_state OK ) ) move_to ON\n\n  action: STANDBY\n    do STANDBY $ALL$RPC_HV\n    do ON $ALL$RPC_LV\n  action: OFF\n    do OFF $ALL$FwCHILDREN\n  action: ON\n    do ON $ALL$FwCHILDREN\n  state: ERROR state: RAMPING state: STANDBY state: ON"

unfoldable pub chamber_lists : Lists
chamber_lists =
    lists (name_list ("ERROR" ∷ "TRIPPED" ∷ "RAMPING_UP" ∷ "RAMPING_DOWN" ∷ "ON" ∷ "STANDBY" ∷ "OK" ∷ [])) (name_list ("STANDBY" ∷ "OFF" ∷ "ON" ∷ []))
    (class_record "RPC_HV" 60 ++ (class_record "RPC_LV" 17 ++ class_record "RPC_T" 65))

-- its guards stand one behind the other, in the text's order
pub chamber_is : (let c : Class = class_in chamber_lists (tree (spelled chamber)) in
    ((lists_right chamber_lists && (text_known chamber_lists (tree (spelled chamber)) && within_limits c)) ≡ true)
    × (map (λ r. r.b0) (when_records c) ≡ 0 ∷ 3 ∷ 4 ∷ 7 ∷ 10 ∷ []) × (length (all_guards c) ≡ 13))
unfolding worked chamber chamber_lists
chamber_is = (refl, refl, refl)
