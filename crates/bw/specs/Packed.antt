-- The word that each exported function returns: the paper's numbers of the answer, each in its field of bits. A command's stand in two words, of
-- which the second is lent.
-- Assumes nothing.
use Rattle.std.specs.Prelude.{ℕ, ◌+◌, ◌*◌, ◌/◌, ◌%◌, ◌^◌, ◌≤◌, ◌≡◌, List, [], ◌∷◌, ◌++◌, map, eqb, length, get_or, take, drop}
use Rattle.model.specs.Words.{choose, Bytes}
use Rattle.model.specs.Replies.{refuse, buffer_after}
use Rattle.writings.specs.Layout.{Named}
use Rattle.bargewicker.specs.Questions.{Question, judge, probe_in, phase_from, command_in, loop_with, text_of, lent, reply}
use Rattle.bargewicker.specs.Numbers.{numbers_for}

-- a field of a word: its lowest bit, and how many bits it has
pub record Field : Type 0 where
  pub lowest : ℕ
  pub width : ℕ

abbrev pub field : ℕ → ℕ → Field
field lowest width = record { lowest = lowest; width = width }

-- every word has the refusal, 0 for none; where an answer has several cases, it has the kind: which of them it is
abbrev pub refused : Field
refused = field 0 8

abbrev pub kind : Field
kind = field 8 8

-- the probe's clause
abbrev pub clause : Field
clause = field 16 16

abbrev pub referrer : Field
referrer = field 32 8

abbrev pub target : Field
target = field 40 8

-- own states and moves; the command of the DO that closed a phase, and the number of bytes that a phase wrote
abbrev pub state : Field
state = field 16 8

abbrev pub moves : Field
moves = field 24 8

abbrev pub to_do : Field
to_do = field 32 8

abbrev pub phase_written : Field
phase_written = field 40 24

-- the number of bytes of a command's own sends; the configuration of a loop
abbrev pub command_written : Field
command_written = field 32 32

abbrev pub configuration : Field
configuration = field 32 32

-- the number of bytes of a text that was written
abbrev pub text_written : Field
text_written = field 32 32

-- what stands behind the refusal, in the order of the answer's numbers: the fields of an answer that has one kind only; or the kind, and its
-- fields, kind 0 first
pub data Kinds : Type 0 where
  one_kind : List Field → Kinds
  by_kind : List (List Field) → Kinds

-- the fields behind the refusal, if the kind is k
abbrev pub behind : Kinds → ℕ → List Field
behind (one_kind fs) k = fs
behind (by_kind ks) k = kind ∷ get_or ks k []

abbrev pub kinds_of_judge : Kinds
kinds_of_judge = one_kind []

abbrev pub kinds_of_probe : Kinds
kinds_of_probe = by_kind ([] ∷ (clause ∷ referrer ∷ target ∷ []) ∷ [])

-- every phase has the same three
abbrev pub way : List Field
way = state ∷ moves ∷ phase_written ∷ []

abbrev pub kinds_of_phase : Kinds
kinds_of_phase = by_kind (way ∷ way ∷ (state ∷ moves ∷ phase_written ∷ to_do ∷ []) ∷ way ∷ [])

abbrev pub kinds_of_command : Kinds
kinds_of_command = by_kind ((state ∷ command_written ∷ []) ∷ (state ∷ command_written ∷ []) ∷ [])

abbrev pub kinds_of_loop : Kinds
kinds_of_loop = by_kind ((moves ∷ []) ∷ (configuration ∷ state ∷ []) ∷ [])

abbrev pub kinds_of_text : Kinds
kinds_of_text = one_kind (text_written ∷ [])

abbrev pub kinds : Question → Kinds
kinds (judge b) = kinds_of_judge
kinds (probe_in b l q) = kinds_of_probe
kinds (phase_from b l q out) = kinds_of_phase
kinds (command_in b l q m out) = kinds_of_command
kinds (loop_with b present out) = kinds_of_loop
kinds (text_of b n out) = kinds_of_text

-- a number in its field: as many of its low bits as there is room for
abbrev pub placed_in : Field → ℕ → ℕ
placed_in f n = n % 2 ^ f.width * 2 ^ f.lowest

-- numbers in their fields, one for one; what has no number is 0
unfoldable pub side_by_side : List Field → List ℕ → ℕ
side_by_side [] ns = 0
side_by_side (f ∷ fs) [] = 0
side_by_side (f ∷ fs) (n ∷ ns) = placed_in f n + side_by_side fs ns

-- the fields of an answer's numbers: a refusal has only its own; behind it the first number is the kind, where there are several
unfoldable pub fields : Kinds → List ℕ → List Field
fields ks [] = refused ∷ []
fields ks (n ∷ []) = refused ∷ []
fields ks (n ∷ k ∷ values) = refused ∷ behind ks k

unfoldable pub word : Kinds → List ℕ → ℕ
word ks ns = side_by_side (fields ks ns) ns

-- a command's own numbers, of which there are four; and those of the phase behind it, as if it had been asked for, 0 for no refusal in front
abbrev pub own_numbers : List ℕ → List ℕ
own_numbers ns = take 4 ns

abbrev pub phase_behind : List ℕ → List ℕ
phase_behind ns = 0 ∷ drop 4 ns

-- the numbers that the word of a question holds: all of them, but of a command only its own
abbrev pub held : Question → List ℕ → List ℕ
held (judge b) ns = ns
held (probe_in b l q) ns = ns
held (phase_from b l q out) ns = ns
held (command_in b l q m out) ns = own_numbers ns
held (loop_with b present out) ns = ns
held (text_of b n out) ns = ns

-- the word of a question
unfoldable pub packed : Question → ℕ
packed q = word (kinds q) (held q (numbers_for q))

-- the word and the buffer afterwards are those of the rules
pub record Returned (q : Question) (r : ℕ) (after : List ℕ) : Type 0 where
  pub word_is : r ≡ packed q
  pub buffer_is : after ≡ buffer_after (reply q) (lent q)

-- a lent array of fixed length afterwards: where nothing is refused, what the answer's numbers put there; a refusal leaves it as it was
abbrev pub array_after : (List ℕ → List ℕ) → List ℕ → List ℕ → List ℕ
array_after put ns before = choose (eqb (get_or ns 0 0) 0) (λ _. put ns) (λ _. before)

-- the word of the phase behind a command, in an array of its own
abbrev pub phase_word : List ℕ → List ℕ
phase_word ns = word kinds_of_phase (phase_behind ns) ∷ []

-- both words, of a command's numbers: the one that is returned, and what the array that is lent for the other holds afterwards
abbrev pub BothWords : List ℕ → List ℕ → ℕ → List ℕ → Type 0
BothWords ns before r phase = (r ≡ word kinds_of_command (own_numbers ns)) × (phase ≡ array_after phase_word ns before)

-- that array after a command
unfoldable pub phase_after : Question → List ℕ → List ℕ
phase_after q before = array_after phase_word (numbers_for q) before

-- of a command: the word and the buffer afterwards are those of the rules, and so is the lent word of the phase
pub record ReturnedBoth (q : Question) (before : List ℕ) (r : ℕ) (after phase : List ℕ) : Type 0 where
  pub returned : Returned q r after
  pub phase_is : phase ≡ phase_after q before

-- a field of a word, as C reads it
abbrev pub read : ℕ → Field → ℕ
read w f = w / 2 ^ f.lowest % 2 ^ f.width

-- the numbers that a word holds: a refusal alone; or 0, and what is behind it
unfoldable pub unpacked : Kinds → ℕ → List ℕ
unpacked ks w = choose (eqb (read w refused) 0) (λ _. 0 ∷ map (read w) (behind ks (read w kind))) (λ _. read w refused ∷ [])

-- the numbers that the two words of a command hold: those of the first; where nothing is refused, behind them those of the second without its 0
unfoldable pub unpacked_both : ℕ → ℕ → List ℕ
unpacked_both w v = unpacked kinds_of_command w ++ choose (eqb (read w refused) 0) (λ _. drop 1 (unpacked kinds_of_phase v)) (λ _. [])

-- the sheet that a question is about
abbrev pub sheet_of : Question → List ℕ
sheet_of (judge b) = b
sheet_of (probe_in b l q) = b
sheet_of (phase_from b l q out) = b
sheet_of (command_in b l q m out) = b
sheet_of (loop_with b present out) = b
sheet_of (text_of b n out) = b

-- every number of the answer is read back, whatever bytes the sheet is
pub record NothingLost : Type 0 where
  -- those that the word holds, from it
  pub from_the_word : (q : Question) → Bytes (sheet_of q) → unpacked (kinds q) (packed q) ≡ held q (numbers_for q)
  -- all of a command's, from its word and the lent one, whatever that was before
  pub from_both : (b l : List ℕ) (q m : ℕ) (out before : List ℕ) → Bytes b
      → let c = command_in b l q m out in unpacked_both (packed c) (get_or (phase_after c before) 0 0) ≡ numbers_for c

-- two words that a function returns, and two contents of the buffer afterwards, are one
abbrev pub OneWordAndBuffer : Type 0
OneWordAndBuffer = (q : Question) (r s : ℕ) (x y : List ℕ) → Returned q r x → Returned q s y → (r ≡ s) × (x ≡ y)

-- and so are two lent words of a command
abbrev pub OneOfBoth : Type 0
OneOfBoth = (q : Question) (before : List ℕ) (r s : ℕ) (x y u v : List ℕ) → ReturnedBoth q before r x u → ReturnedBoth q before s y v → (r ≡ s) × (x ≡ y) × (u ≡ v)

-- the lent word is the one that bw_when_phase returns if it is asked from the state that the command's word has, on the buffer behind the
-- command's own bytes; and the bytes that it leaves there are those of the command
abbrev pub PhaseAsAsked : Type 0
PhaseAsAsked = (b l : List ℕ) (q m : ℕ) (out before : List ℕ) → Bytes b → (r : ℕ) (after phase : List ℕ) → ReturnedBoth (command_in b l q m out) before r after phase
    → read r refused ≡ 0 → (s : ℕ) (last : List ℕ) → Returned (phase_from b l (read r state) (drop (read r command_written) out)) s last
    → (phase ≡ s ∷ []) × (last ≡ drop (read r command_written) after)

-- a buffer of 12,582,912 bytes is always enough for what a when phase writes
abbrev pub PhaseRoomEnough : Type 0
PhaseRoomEnough = (b l : List ℕ) (q : ℕ) (out : List ℕ) → Bytes b → 12582912 ≤ length out → reply (phase_from b l q out) ≡ refuse 15 → ⊥

-- one of 25,165,824 for what a command and the phase behind it write
abbrev pub CommandRoomEnough : Type 0
CommandRoomEnough = (b l : List ℕ) (q m : ℕ) (out : List ℕ) → Bytes b → 25165824 ≤ length out → reply (command_in b l q m out) ≡ refuse 15 → ⊥

-- a buffer of 1,259,860 bytes is always enough for a text
abbrev pub WriteRoomEnough : Type 0
WriteRoomEnough = (b : List ℕ) (n : Named) (out : List ℕ) → Bytes b → 1259860 ≤ length out → reply (text_of b n out) ≡ refuse 15 → ⊥
