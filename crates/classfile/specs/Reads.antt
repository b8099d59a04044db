-- What the functions that read a head promise: what they say, and what they leave in the lists' buffers.
-- Assumes nothing.
use Rattle.std.specs.Prelude.{ℕ, Result, Ok, Err, Option, Some, None, ◌+◌, ◌-◌, ◌≤◌, ◌≡◌, List, ◌++◌, eqb, ltb, length, take, drop}
use Rattle.std.proofs.lemmas.List.Edits.{sets}
use Rattle.model.specs.Words.{choose}
use Rattle.grammar.specs.Words.{spelled, same}
use Rattle.naming.specs.NameLists.{Lists, padded}
use Rattle.lists.specs.Lent.{lent}
use Rattle.classfile.specs.Heads as H
use Rattle.classfile.specs.Heads.{Judged, Grown, Outcome, read, wrong, head_of, judge_name, add_state, class_record, Rooms}
use Rattle.classfile.specs.declared.parts.Fault.TheVariants.{UnknownLine, LineTwice, NoClass, NoStates}
use Rattle.classfile.specs.declared.fields.Kind.{Kind}
use Rattle.classfile.specs.declared.parts.Fault.{Fault}
use Rattle.classfile.specs.declared.heads.BadLine.{BadLine}
use Rattle.classfile.specs.declared.heads.Used.{Used}
use Rattle.classfile.specs.declared.heads.Line.{Line}
use Rattle.classfile.specs.declared.heads.Line.TheVariants.{Begins, Names, Commands, Class, States}

-- what a field comes to: the head goes on in that line, with so much used, or it is over; or something is wrong
abbrev pub Turn : Type 0
Turn = Result (Option (Line × Used)) Fault

abbrev pub on_line : Line → Used → Turn
on_line line u = Ok (Some (line, u))

-- what is said of a head: how much is used, and where the class text starts; or what is wrong, and the place that shows it
abbrev pub Answer : Type 0
Answer = Result (Used × ℕ) BadLine

abbrev pub head_answer : Used → ℕ → Answer
head_answer u start = Ok (u, start)

abbrev pub bad_line : Fault → ℕ → ℕ → Answer
bad_line x start end = Err (record { fault = x; start = start; end = end })

-- where it is fine the first, else the second
abbrev pub if_fine {ℓ} : {A : Type ℓ} → Judged → A → A → A
if_fine (Ok tt) a b = a
if_fine (Err x) a b = b

-- a name goes behind those of a list, if it can
pub record Added (before : List ℕ) (used : ℕ) (word : List ℕ) (r : Judged) (after : List ℕ) : Type 0 where
  pub judged : r ≡ judge_name 32 (length before - used) (take used before) word
  pub buffer : after ≡ if_fine r (sets before used (padded word)) before

-- what a word comes to, in the numbers of the code
abbrev pub on_judged : Judged → Turn → Turn
on_judged (Ok tt) t = t
on_judged (Err x) t = Err x

abbrev pub on_grown : Grown → (ℕ → Turn) → Turn
on_grown (Ok set) t = t set
on_grown (Err x) t = Err x

abbrev pub used : ℕ → ℕ → ℕ → Used
used n c k = record { names = n; commands = c; classes = k }

abbrev pub alone : Line → ℕ → Used → Turn
alone line n u = choose (ltb 0 n) (λ _. Err LineTwice) (λ _. on_line line u)

unfoldable pub begun : Used → List ℕ → Turn
begun u w =
    choose (same (spelled "names") w) (λ _. alone Names u.names u) λ _.
    choose (same (spelled "commands") w) (λ _. alone Commands u.commands u) λ _.
    choose (same (spelled "class") w) (λ _. on_line Class u) λ _. Err UnknownLine

pub record Named (u : Used) (before word : List ℕ) (r : Turn) (after : List ℕ) : Type 0 where
  pub judged : Judged
  pub added : Added before u.names word judged after
  pub turn : r ≡ on_judged judged (on_line Names (used (u.names + 32) u.commands u.classes))

pub record Commanded (u : Used) (before word : List ℕ) (r : Turn) (after : List ℕ) : Type 0 where
  pub judged : Judged
  pub added : Added before u.commands word judged after
  pub turn : r ≡ on_judged judged (on_line Commands (used u.names (u.commands + 32) u.classes))

unfoldable pub classed : Used → List ℕ → List ℕ → ℕ → ℕ → Turn
classed u k w start end = on_judged (judge_name 36 (length k - u.classes) (take u.classes k) w) (on_line (States start end 0) u)

unfoldable pub stated : Used → List ℕ → List ℕ → ℕ → ℕ → ℕ → Turn
stated u n w start end set = on_grown (add_state (take u.names n) set w) (λ more. on_line (States start end more) u)

-- the end of a class's line
unfoldable pub ended : Used → ℕ → Turn
ended u set = choose (eqb set 0) (λ _. Err NoStates) (λ _. on_line Begins (used u.names u.commands (u.classes + 36)))

unfoldable pub ended_buffer : Used → List ℕ → ℕ → List ℕ → List ℕ
ended_buffer u name set before = choose (eqb set 0) (λ _. before) (λ _. sets before u.classes (class_record name set))

-- the end of a line
unfoldable pub lined : Line → Used → Turn
lined Begins u = Ok None
lined Names u = on_line Begins u
lined Commands u = on_line Begins u
lined Class u = Err NoClass
lined (States a b set) u = ended u set

unfoldable pub lined_buffer : List ℕ → Line → Used → List ℕ → List ℕ
lined_buffer file Begins u before = before
lined_buffer file Names u before = before
lined_buffer file Commands u before = before
lined_buffer file Class u before = before
lined_buffer file (States a b set) u before = ended_buffer u (H.stretch file a b) set before

-- the used bytes lie inside the buffers; the class that is being read has a name in the file, and room
pub record Fits (u : Used) (n c k : List ℕ) : Type 0 where
  pub names : u.names ≤ length n
  pub commands : u.commands ≤ length c
  pub classes : u.classes ≤ length k

abbrev pub Stands : List ℕ → Line → Used → List ℕ → Type 0
Stands file Begins u k = Unit {0}
Stands file Names u k = Unit {0}
Stands file Commands u k = Unit {0}
Stands file Class u k = Unit {0}
Stands file (States a b set) u k = (a ≤ b) × (b ≤ length file) × (b ≤ a + 31) × (u.classes + 36 ≤ length k)

-- the lists of which so many bytes are used
abbrev pub shown : Used → List ℕ → List ℕ → List ℕ → Lists
shown u n c k = lent (take u.names n) (take u.commands c) (take u.classes k)

abbrev pub told : Turn → List ℕ → List ℕ → List ℕ → H.Turn
told (Ok (Some (line, u))) n c k = H.on line (shown u n c k)
told (Ok None) n c k = H.over
told (Err x) n c k = H.bad x

-- of v bytes that are used, before u, those behind them are as they were
pub record Behind (u v : Used) (n c k n' c' k' : List ℕ) : Type 0 where
  pub names : (u.names ≤ v.names) × (drop v.names n' ≡ drop v.names n)
  pub commands : (u.commands ≤ v.commands) × (drop v.commands c' ≡ drop v.commands c)
  pub classes : (u.classes ≤ v.classes) × (drop v.classes k' ≡ drop v.classes k)

pub record Same (n c k n' c' k' : List ℕ) : Type 0 where
  pub names : n' ≡ n
  pub commands : c' ≡ c
  pub classes : k' ≡ k

-- where the head does not go on, the buffers are as they were
abbrev pub Kept : Turn → Used → List ℕ → List ℕ → List ℕ → List ℕ → List ℕ → List ℕ → Type 0
Kept (Ok (Some (line, v))) u n c k n' c' k' = Behind u v n c k n' c' k'
Kept (Ok None) u n c k n' c' k' = Same n c k n' c' k'
Kept (Err x) u n c k n' c' k' = Same n c k n' c' k'

abbrev pub Going : List ℕ → Turn → List ℕ → List ℕ → List ℕ → Type 0
Going file (Ok (Some (line, u))) n c k = Fits u n c k × Stands file line u k
Going file (Ok None) n c k = Unit {0}
Going file (Err x) n c k = Unit {0}

-- the rooms of the lists
abbrev pub rooms : List ℕ → List ℕ → List ℕ → Rooms
rooms n c k = record { names = length n; commands = length c; classes = length k }

-- a turn is what it has to be, and leaves the buffers so
pub record Turned (file : List ℕ) (want : H.Turn) (u : Used) (n c k : List ℕ) (r : Turn) (n' c' k' : List ℕ) : Type 0 where
  pub says : told r n' c' k' ≡ want
  pub kept : Kept r u n c k n' c' k'
  pub going : Going file r n' c' k'

abbrev pub Worded : List ℕ → ℕ → ℕ → Line → Used → List ℕ → List ℕ → List ℕ → Turn → List ℕ → List ℕ → Type 0
Worded file start end line u n c k r n' c' = Turned file (H.word_turn file (rooms n c k) start end line (shown u n c k)) u n c k r n' c' k

abbrev pub FieldTurned : List ℕ → Kind → ℕ → ℕ → Line → Used → List ℕ → List ℕ → List ℕ → Turn → List ℕ → List ℕ → List ℕ → Type 0
FieldTurned file kind start end line u n c k r n' c' k' = Turned file (H.turn file (rooms n c k) kind start end line (shown u n c k)) u n c k r n' c' k'

-- the answer for a head
unfoldable pub answer_of : Outcome → Answer
answer_of (read l start) = head_answer (used (length l.names) (length l.commands) (length l.classes)) start
answer_of (wrong x start end l) = bad_line x start end

unfoldable pub lists_of : Outcome → Lists
lists_of (read l start) = l
lists_of (wrong x start end l) = l

-- a list at the front of its buffer, and what stood there behind it
abbrev pub over : List ℕ → List ℕ → List ℕ
over b before = b ++ drop (length b) before

-- the head of a file is read: the answer, and the lists in their buffers
pub record HeadRead (file n c k : List ℕ) (r : Answer) (n' c' k' : List ℕ) : Type 0 where
  pub answer : r ≡ answer_of (head_of file (rooms n c k))
  pub names : n' ≡ over (lists_of (head_of file (rooms n c k))).names n
  pub commands : c' ≡ over (lists_of (head_of file (rooms n c k))).commands c
  pub classes : k' ≡ over (lists_of (head_of file (rooms n c k))).classes k

-- what an answer counts lies inside the buffers and the file
abbrev pub Inside : Answer → List ℕ → List ℕ → List ℕ → List ℕ → Type 0
Inside (Ok (u, start)) file n c k = Fits u n c k × (start ≤ length file)
Inside (Err bad) file n c k = (bad.start ≤ bad.end) × (bad.end ≤ length file)
