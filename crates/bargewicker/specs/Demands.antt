-- Demands 1, 2 and 3, of whatever meets the promises of the face (Promises.antt), on one page.
-- That each function of src/lib.rt meets its promise, for every input and with nothing asked of the caller, is what the
-- check of this crate proves.
-- Assumes nothing.
use Rattle.std.specs.Prelude.{ℕ, ◌*◌, ◌<◌, ◌≤◌, ◌≡◌, true, false, List, [], ◌↔◌, ◌⊎◌, length, get_or, take, drop, Ok, Err}
use Rattle.std.proofs.Math.Option.{none, some}
use Rattle.model.specs.Words.{maybe}
use Rattle.model.specs.Tree.{Child, everyone, any_in, atom, Referrer, move_to, run, stay, When, Part, Class}
use Rattle.model.specs.Guards.{holds}
use Rattle.model.specs.Moves.{after, EndsAt, Ends}
use Rattle.model.specs.Running.{Sent, run_part, goes}
use Rattle.model.specs.Node.{own_states, state_of, action_of, Probed, nothing, found, Ending, by_none, by_stay, by_do, next, sends, on_the_way}
use Rattle.model.specs.Commands.{clause_for}
use Rattle.model.specs.Refusals.{number_of}
use Rattle.model.specs.Answers.{probed_as, ending_as, JudgeAnswer, ProbeAnswer, PhaseAnswer, CommandAnswer, LoopAnswer, WriteAnswer, ReadAnswer}
use Rattle.model.specs.Replies.{written}
use Rattle.model.specs.declared.Refusal.{Refusal}
use Rattle.model.specs.declared.Refusal.TheVariants.{Room}
use Rattle.model.specs.declared.Phase.TheVariants.{Settled, Loops as Looping}
use Rattle.model.specs.declared.Phase.{Phase}
use Rattle.model.specs.declared.Handling.{Handling}
use Rattle.model.specs.declared.Handling.TheVariants.{Ignored, Handled}
use Rattle.model.specs.declared.Loops.TheVariants.{Loop, Free}
use Rattle.model.specs.Words.{Bytes}
use Rattle.sheet.specs.Rules.{Accepted}
use Rattle.sheet.specs.Reading.{class_of}
use Rattle.children.specs.ChildList.{children_of, list_right, pairs, sent_bytes}
use Rattle.commands.specs.Commands.{left_in, own_in}
use Rattle.configurations.specs.Configurations.{name_count}
use Rattle.configurations.specs.Demand.{AllEnd, FreeRight, LoopRight}
use Rattle.loops.specs.LoopQuestion.{present_right}
use Rattle.grammar.specs.Grammar.{Text}
use Rattle.readings.specs.Readings.{Lent}
use Rattle.readings.specs.Reads.{Rows, ReadRight}
use Rattle.readings.specs.Promise.{came, Answered}
use Rattle.writings.specs.Layout.{Named, class_text}
use Rattle.writings.specs.Missing.{names_right}
use Rattle.writings.specs.Writings.{guards_few}
use Rattle.bargewicker.specs.Questions.{Question, judge, probe_in, phase_from, command_in, loop_with, text_of, lent}
use Rattle.bargewicker.specs.Promises.{AnswerTo, refusing, Promised}
use Rattle.bargewicker.specs.Table.{table, first_failed}
use Rattle.bargewicker.specs.WrittenBack.{WrittenBack}

-- DEMAND 1, of an answer r to the question q, and of the lent buffer after the call
pub record Demand1 (q : Question) (r : AnswerTo q) (final : List ℕ) : Type 0 where
  -- bad input is refused with the number of the table: exactly that of the first check that it fails
  pub refused : (x : Refusal) → (r ≡ refusing q x) ↔ (first_failed (table q) ≡ number_of x)
  -- input that fails no check, and no other, is answered
  pub answered : ((x : Refusal) → r ≡ refusing q x → ⊥) ↔ (first_failed (table q) ≡ 0)
  -- a refusal writes no byte into a lent buffer
  pub untouched : (x : Refusal) → r ≡ refusing q x → final ≡ lent q

-- DEMAND 2, for an accepted sheet, a child list that it allows, and one of its states
pub record Asked (b l : List ℕ) (q : ℕ) : Type 0 where
  pub bytes : Bytes b
  pub accepted : Accepted b
  pub list : list_right (class_of b) l ≡ true
  pub state : q < own_states (class_of b)

-- when clause i of state q; past the last one stands a clause that is never true
abbrev pub no_clause : When
no_clause = record { guard = atom any_in everyone 0; referrer = stay }

abbrev pub clause : Class → ℕ → ℕ → When
clause c q i = get_or (state_of c q).whens i no_clause

-- clause i of state q, which has the referrer x, is the first whose guard these children make true
pub record First (c : Class) (ks : List Child) (q i : ℕ) (x : Referrer) : Type 0 where
  pub listed : i < length (state_of c q).whens
  pub referrer : (clause c q i).referrer ≡ x
  pub true_here : holds (clause c q i).guard ks ≡ true
  pub false_before : (j : ℕ) → j < i → holds (clause c q j).guard ks ≡ false

-- no clause of state q has a guard that these children make true
abbrev pub NoneTrue : Class → List Child → ℕ → Type 0
NoneTrue c ks q = (i : ℕ) → i < length (state_of c q).whens → holds (clause c q i).guard ks ≡ false

-- the probe: the first true clause of the state with its referrer and target, or none
abbrev pub ProbedRight : Class → List Child → ℕ → Probed → Type 0
ProbedRight c ks q (found i x) = First c ks q i x
ProbedRight c ks q nothing = NoneTrue c ks q

abbrev pub ProbeRight : Class → List Child → ℕ → ProbeAnswer → Type 0
ProbeRight c ks q (Ok p) = ProbedRight c ks q (probed_as p)
ProbeRight c ks q (Err x) = ⊥

-- a move from state q to t is made: the first true clause is a MOVE_TO to t, or a DO whose clause, run with these children, reaches a
-- move_to to t; t may be q itself
abbrev pub MoveMade : Class → List Child → ℕ → ℕ → Type 0
MoveMade c ks q t =
    ((i : ℕ) × First c ks q i (move_to t)) ⊎ ((i : ℕ) × (a : ℕ) × First c ks q i (run a) × (goes (action_of c q a).body ks ≡ some t))

-- what is sent in state q: where the first true clause is a DO, what its clause sends; else nothing
pub record SendsRight (c : Class) (ks : List Child) (q : ℕ) : Type 0 where
  pub by_a_do : (i a : ℕ) → First c ks q i (run a) → sends c ks q ≡ (run_part (action_of c q a).body ks).sent
  pub else_nothing : ((i a : ℕ) → First c ks q i (run a) → ⊥) → sends c ks q ≡ []

-- a phase ends in state s where no clause is true, on STAY, or on DO, whose clause reaches no move_to and whose command is named
abbrev pub Settles : Class → List Child → ℕ → Ending → Type 0
Settles c ks s by_none = NoneTrue c ks s
Settles c ks s by_stay = (i : ℕ) × First c ks s i stay
Settles c ks s (by_do m) =
    (i : ℕ) × (a : ℕ) × First c ks s i (run a) × (a < length (state_of c s).actions) × ((action_of c s a).command ≡ m) × (goes (action_of c s a).body ks ≡ none)

-- commands are written, n bytes, three for each, at the front of the buffer
pub record Wrote (sent : List Sent) (n : ℕ) (out final : List ℕ) : Type 0 where
  pub number : n ≡ 3 * length sent
  pub room : n ≤ length out
  pub buffer : final ≡ written (sent_bytes sent) out

-- the when phase: settled, where m moves lead to s and there it ends, with what was sent on the way written, in order, the closing DO's
-- commands too; or loop, where no number of moves ends it, with S moves and the state after them, and nothing written; or 15, where it
-- settles and there is no room for what was sent. When a move is made is `moving` below, what is sent `sending`
abbrev pub PhaseRight : Class → List Child → ℕ → List ℕ → List ℕ → PhaseAnswer → Type 0
PhaseRight c ks q out final (Ok (Settled e s m n)) =
    EndsAt (next c ks) q m s.0 × Settles c ks s.0 (ending_as e) × Wrote (on_the_way c ks m q) n out final
PhaseRight c ks q out final (Ok (Looping s m)) =
    (Ends (next c ks) q → ⊥) × (m ≡ own_states c) × (after (next c ks) m q ≡ some s.0) × (final ≡ out)
PhaseRight c ks q out final (Err x) =
    (x ≡ Room) × (s : ℕ) × (m : ℕ) × EndsAt (next c ks) q m s × (length out < 3 * length (on_the_way c ks m q)) × (final ≡ out)

-- the clause p runs: in state q it leaves the state s and sends these commands, n bytes
pub record Runs (p : Part) (ks : List Child) (q s n : ℕ) (own : List Sent) : Type 0 where
  pub state : s ≡ maybe (run_part p ks).moved (λ _. q) (λ t. t)
  pub sent : own ≡ (run_part p ks).sent
  pub number : n ≡ 3 * length own

-- a command alone: ignored without a clause for it, the state kept and nothing sent; else its clause runs
abbrev pub HandlingRight : Class → List Child → ℕ → ℕ → Handling → List Sent → Type 0
HandlingRight c ks q m (Ignored s) own = (clause_for m (state_of c q).actions ≡ none) × (s.0 ≡ q) × (own ≡ [])
HandlingRight c ks q m (Handled s n) own = (p : Part) × (clause_for m (state_of c q).actions ≡ some p) × Runs p ks q s.0 n own

-- a buffer behind a command's own sends
abbrev pub behind : List Sent → List ℕ → List ℕ
behind own out = drop (3 * length own) out

-- the command and, from the state that it leaves, the when phase: its own sends stand at the front of the buffer, and on the buffer behind them
-- the phase is right; a phase that loops has left that as it was
pub record BothRight (c : Class) (ks : List Child) (q m : ℕ) (out final : List ℕ) (h : Handling) (p : Phase) : Type 0 where
  pub own : List Sent
  pub handling : HandlingRight c ks q m h own
  pub room : 3 * length own ≤ length out
  pub front : take (3 * length own) final ≡ sent_bytes own
  pub phase : PhaseRight c ks (left_in h).0 (behind own out) (behind own final) (Ok p)

-- there is no room for the command's own sends, or behind them none for what the phase sends
abbrev pub NoRoom : Class → List Child → List ℕ → List ℕ → Handling → List Sent → Type 0
NoRoom c ks out final h own =
    (length out < 3 * length own) ⊎ ((3 * length own ≤ length out) × PhaseRight c ks (left_in h).0 (behind own out) (behind own final) (Err Room))

-- the request for a command: both parts, or 15
abbrev pub CommandRight : Class → List Child → ℕ → ℕ → List ℕ → List ℕ → CommandAnswer → Type 0
CommandRight c ks q m out final (Ok (h, p)) = BothRight c ks q m out final h p
CommandRight c ks q m out final (Err x) =
    (x ≡ Room) × (final ≡ out) × (h : Handling) × (own : List Sent) × HandlingRight c ks q m h own × NoRoom c ks out final h own

-- the second part of the answer is the when phase's: what that answers from the state that was left
pub record SamePhase (b l : List ℕ) (h : Handling) (p : Phase) (out final : List ℕ) : Type 0 where
  -- on the buffer behind the command's own bytes it is the same answer, and it leaves the same bytes
  pub behind_it : (r : PhaseAnswer) (last : List ℕ) → Promised (phase_from b l (left_in h).0 (drop (own_in h) out)) r last
      → (r ≡ Ok p) × (last ≡ drop (own_in h) final)
  -- on any buffer it is the same answer, unless there is no room
  pub anywhere : (rest : List ℕ) (r : PhaseAnswer) (last : List ℕ) → Promised (phase_from b l (left_in h).0 rest) r last → (r ≡ Ok p) ⊎ (r ≡ Err Room)

-- DEMAND 3: free, with nothing written; or loop, with its list ks written
abbrev pub LoopsRight : Class → ℕ → List ℕ → List ℕ → LoopAnswer → Type 0
LoopsRight c present out final (Ok (Free m)) = FreeRight c present m × (final ≡ out)
LoopsRight c present out final (Ok (Loop k q)) =
    (ks : List Child) × LoopRight c present k q.0 ks × (final ≡ written (pairs ks) out)
LoopsRight c present out final (Err x) = ⊥

pub record Demand3 (c : Class) (present : ℕ) (out final : List ℕ) (r : LoopAnswer) : Type 0 where
  -- "free" exactly if, for every child list of any length in which exactly the present classes occur,
  -- the when phase ends from every state
  pub free_exactly_if : ((m : ℕ) × (r ≡ Ok (Free m))) ↔ AllEnd c present
  -- then a number of moves that no such phase exceeds, that one reaches, and that is below the number of states;
  -- otherwise such a list and a state from which the node returns to that state with the children unchanged
  pub right : LoopsRight c present out final r

-- an accepted sheet, present child classes with at most 20 names together, and enough room
pub record AskedLoop (b : List ℕ) (present : ℕ) (out : List ℕ) : Type 0 where
  pub bytes : Bytes b
  pub accepted : Accepted b
  pub bits : present_right (class_of b) present ≡ true
  pub names : name_count (class_of b) present ≤ 20
  pub room : 2 * name_count (class_of b) present ≤ length out

-- the text of the class c with its names, m bytes, is written at the front of the buffer; or nothing is, and why is said by demand 1
abbrev pub TextRight : Named → Class → List ℕ → List ℕ → WriteAnswer → Type 0
TextRight n c out final (Ok m) =
    (names_right n c ≡ true) × (guards_few c ≡ true) × (m ≡ length (class_text n c)) × (m ≤ length out) × (final ≡ written (class_text n c) out)
TextRight n c out final (Err x) = final ≡ out

-- THE DEMANDS, of any answer r and any content `final` of the lent buffer after the call that meet the promise
pub record Demands : Type 1 where
  -- 1: every byte string offered as a class sheet, child list or request; "accepted" is said exactly of the sheets
  -- that the others speak of
  pub demand1 : (q : Question) (r : AnswerTo q) (final : List ℕ) → Promised q r final → Demand1 q r final
  pub accepted : (b : List ℕ) (r : JudgeAnswer) (final : List ℕ) → Promised (judge b) r final
      → (r ≡ Ok tt) ↔ Accepted b
  -- and every byte string offered as a class text or a list of names: each refusal exactly when its row says so, and it
  -- writes nothing; what is read is a sheet that is accepted, and all that the others say of it is said of the text's class
  pub reading : (q : Lent) (r : ReadAnswer) (sheet table : List ℕ) → Answered q r sheet table → Rows q (came r sheet table)
  pub read : (q : Lent) (length states : ℕ) (sheet table : List ℕ) → Bytes q.lists.classes → Answered q (Ok (length, states)) sheet table
      → (t : Text) × ReadRight q (came (Ok (length, states)) sheet table) length states t
  -- and every class text that is written: what stands in the buffer, and what follows of it (specs/WrittenBack.antt)
  pub writing : (b : List ℕ) (n : Named) (out : List ℕ) → Accepted b → (r : WriteAnswer) (final : List ℕ)
      → Promised (text_of b n out) r final → TextRight n (class_of b) out final r
  pub written_back : WrittenBack
  -- 2: probing, the when phase and the handling of a command, with the when phase behind it, for every accepted sheet, state, child list and
  -- command
  pub probing : (b l : List ℕ) (q : ℕ) → Asked b l q → (r : ProbeAnswer) (final : List ℕ)
      → Promised (probe_in b l q) r final → ProbeRight (class_of b) (children_of l) q r
  pub phasing : (b l : List ℕ) (q : ℕ) (out : List ℕ) → Asked b l q → (r : PhaseAnswer) (final : List ℕ)
      → Promised (phase_from b l q out) r final → PhaseRight (class_of b) (children_of l) q out final r
  pub moving : (c : Class) (ks : List Child) (q t : ℕ) → (next c ks q ≡ some t) ↔ MoveMade c ks q t
  pub sending : (c : Class) (ks : List Child) (q : ℕ) → SendsRight c ks q
  pub commanding : (b l : List ℕ) (q m : ℕ) (out : List ℕ) → Asked b l q → m ≤ 63
      → (r : CommandAnswer) (final : List ℕ) → Promised (command_in b l q m out) r final
      → CommandRight (class_of b) (children_of l) q m out final r
  pub phase_behind : (b l : List ℕ) (q m : ℕ) (out : List ℕ) → Asked b l q → m ≤ 63
      → (h : Handling) (p : Phase) (final : List ℕ) → Promised (command_in b l q m out) (Ok (h, p)) final → SamePhase b l h p out final
  -- 3: for an accepted sheet, present child classes with at most 20 names together, and enough room
  pub demand3 : (b : List ℕ) (present : ℕ) (out : List ℕ) → AskedLoop b present out
      → (r : LoopAnswer) (final : List ℕ) → Promised (loop_with b present out) r final
      → Demand3 (class_of b) present out final r
