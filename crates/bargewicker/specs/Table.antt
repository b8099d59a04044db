-- The paper's table of refusals: the checks that each question meets, in order. The words above a check are the table's: its
-- number is given exactly when they are so, and the check is passed when they are not.
-- Assumes nothing.
use Rattle.std.specs.Prelude.{ℕ, ◌*◌, Bool, List, [], ◌∷◌, ◌++◌, leb, ltb, length}
use Rattle.model.specs.Words.{choose}
use Rattle.model.specs.Tree.{Class}
use Rattle.model.specs.Node.{own_states, phase, sent_of}
use Rattle.model.specs.Commands.{command_then_phase, sent_in_all}
use Rattle.records.specs.Bytes.{in_fours, in_eights}
use Rattle.bodies.specs.BodyRules.{classes_right, counts_right, records_right, guards_right, targets_right, actions_right, statements_right}
use Rattle.sheet.specs.Contents.{Bodies, bodies, length_right, contents_right}
use Rattle.sheet.specs.Reading.{class_of}
use Rattle.children.specs.ChildList.{children_of, list_right}
use Rattle.configurations.specs.Configurations.{name_count}
use Rattle.loops.specs.LoopQuestion.{present_right}
use Rattle.writings.specs.Layout.{Named, class_text}
use Rattle.writings.specs.Missing.{names_right}
use Rattle.writings.specs.Writings.{guards_few}
use Rattle.bargewicker.specs.Questions.{Question, judge, probe_in, phase_from, command_in, loop_with, text_of}

-- a check: its number in the table, and whether the input passes it
pub record Check : Type 0 where
  pub number : ℕ
  pub passed : Bool

abbrev pub rule : ℕ → Bool → Check
rule n ok = record { number = n; passed = ok }

-- the number of the first check that is not passed; 0 where all are
unfoldable pub first_failed : List Check → ℕ
first_failed [] = 0
first_failed (c ∷ rest) = choose c.passed (λ _. first_failed rest) (λ _. c.number)

-- the sheet's bodies
unfoldable pub body_checks : Bodies → List Check
body_checks s =
    -- given when: a child class with an empty set
    rule 3 (classes_right s.classes) ∷
    -- given when: when or action counts of the states do not sum to W or A
    rule 4 (counts_right s.states (in_fours s.whens) (in_fours s.actions)) ∷
    -- given when: a guard record breaks its layout
    rule 5 (records_right (in_fours s.classes) s.guards) ∷
    -- given when: a when clause's guard begins past the end, runs past it, or is too deep
    rule 6 (guards_right s.guards s.whens) ∷
    -- given when: referrer over 2 or a wrong target
    rule 7 (targets_right s.states s.whens) ∷
    -- given when: action clause: command, zero byte, repeat in a state, statement counts not summing to T
    rule 8 (actions_right s.states s.actions (in_eights s.statements)) ∷
    -- given when: a statement breaks its layout, its part or depth, or an if's guard breaks rule 6
    rule 9 (statements_right (in_fours s.classes) (in_fours s.states) s.guards s.actions s.statements) ∷ []

-- the sheet
unfoldable pub sheet_checks : List ℕ → List Check
sheet_checks b =
    -- given when: sheet under 24 or over 18,616 bytes
    rule 1 (length_right b) ∷
    -- given when: contents: starts, end, a length that is no whole number of records, a count outside the table
    rule 2 (contents_right b) ∷ body_checks (bodies b)

-- the child list and the asked state
unfoldable pub place_checks : Class → List ℕ → ℕ → List Check
place_checks c l q =
    -- given when: child list odd, over 4,096 children, class not below K, name not in its class
    rule 10 (list_right c l) ∷
    -- given when: asked state not below S
    rule 11 (ltb q (own_states c)) ∷ []

-- the room for what a phase sends: a phase that loops sends nothing
unfoldable pub phase_checks : Class → List ℕ → ℕ → List ℕ → List Check
phase_checks c l q out =
    -- given when: buffer too short: under the room needed, three bytes for each command that a settled phase sent
    rule 15 (leb (3 * length (sent_of (phase c (children_of l) q))) (length out)) ∷ []

-- the asked command, and the room for what it and the phase behind it send: where the phase loops, for what the command sends alone
unfoldable pub command_checks : Class → List ℕ → ℕ → ℕ → List ℕ → List Check
command_checks c l q m out =
    -- given when: asked command over 63
    rule 12 (leb m 63) ∷
    -- given when: buffer too short: under the room needed, three bytes for each command sent
    rule 15 (leb (3 * length (sent_in_all (command_then_phase c (children_of l) q m))) (length out)) ∷ []

-- the present classes, their names, and the room for a list
unfoldable pub loop_checks : Class → ℕ → List ℕ → List Check
loop_checks c present out =
    -- given when: a present bit not below K
    rule 13 (present_right c present) ∷
    -- given when: N over 20
    rule 14 (leb (name_count c present) 20) ∷
    -- given when: buffer too short: under 2N bytes
    rule 15 (leb (2 * name_count c present) (length out)) ∷ []

-- the names that the text is written with, the guard records that it would have, and the room for it
unfoldable pub text_checks : Named → Class → List ℕ → List Check
text_checks n c out =
    -- given when: an ill-formed name or one twice in a list, a set bit or a command without a name, not exactly S own states' names, not
    -- exactly the sheet's K classes with their sets, over 32 child state names or 64 commands
    rule 17 (names_right n c) ∷
    -- given when: shared guard records written out as often as they are used would be over 1,024
    rule 19 (guards_few c) ∷
    -- given when: buffer too short: under the length of the text
    rule 15 (leb (length (class_text n c)) (length out)) ∷ []

-- the checks of each question
unfoldable pub table : Question → List Check
table (judge b) = sheet_checks b
table (probe_in b l q) = sheet_checks b ++ place_checks (class_of b) l q
table (phase_from b l q out) = sheet_checks b ++ (place_checks (class_of b) l q ++ phase_checks (class_of b) l q out)
table (command_in b l q m out) = sheet_checks b ++ (place_checks (class_of b) l q ++ command_checks (class_of b) l q m out)
table (loop_with b present out) = sheet_checks b ++ loop_checks (class_of b) present out
table (text_of b n out) = sheet_checks b ++ text_checks n (class_of b) out
