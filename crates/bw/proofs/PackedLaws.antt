-- Laws about specs/Packed.antt and specs/PackedReading.antt: the word of each answer's numbers, as the exported functions compute it.
-- Assumes nothing.
use Prim.Native.Nat.{ℕ, ◌+◌, ◌*◌, ◌%◌, ◌<◌, ◌≤◌}
use native.Mathlib.Omega.{arith}
use mathlib.Core.Path.{◌≡◌, sym, ◌∙◌, ap}
use mathlib.Core.List.{List, [], ◌∷◌, ◌++◌}
use borrow.Author.Tests.{ne_eqb}
use Rattle.std.specs.Prelude.{Result, Ok, Err, MatchResult}
use Rattle.model.specs.declared.Misread.TheVariants.{Refused, WrongWord}
use Rattle.model.specs.Refusals.{number_of}
use Rattle.model.specs.declared.Refusal.{Refusal}
use Rattle.model.specs.declared.Refusal.TheVariants.{SheetLength, Contents, EmptyNameSet, ClauseCounts, GuardLayout, GuardReach, Target, ActionClause, Statement, ChildList, AskedState, AskedCommand, PresentBit, NameCount, Room, Naming, Limit, WrittenGuards}
use Rattle.model.specs.declared.OwnState.{OwnState}
use Rattle.model.specs.Answers.{referrer_as, CommandAnswer, ReadAnswer}
use Rattle.model.specs.declared.Referrer.{Referrer}
use Rattle.model.specs.declared.Referrer.TheVariants.{MoveTo, Do, Stay}
use Rattle.model.specs.Answers.{ending_as}
use Rattle.model.specs.declared.Ending.{Ending}
use Rattle.model.specs.declared.Ending.TheVariants.{ByNone, ByStay, ByDo}
use Rattle.model.specs.Values.{referrer_values, settled_values}
use Rattle.model.specs.Answers.{handled_values, phased_values, command_numbers}
use Rattle.model.specs.declared.Handling.{Handling}
use Rattle.model.specs.declared.Handling.TheVariants.{Ignored, Handled}
use Rattle.model.specs.declared.Phase.{Phase}
use Rattle.model.proofs.RefusalLaws.{not_zero}
use Rattle.readings.specs.Readings.{Lent, Outcome, reading_numbers}
use Rattle.readings.specs.Promise.{reading_as, Answered}
use Rattle.readings.proofs.ReadLaws.{reads}
use Rattle.bargewicker.specs.Questions.{Question, command_in}
use Rattle.bargewicker.specs.Promises.{AnswerTo, numbers_of, Promised}
use Rattle.bw.specs.Packed.{Kinds, side_by_side, fields, word, kinds, held, packed, kinds_of_judge, kinds_of_probe, kinds_of_phase, kinds_of_command, kinds_of_loop, kinds_of_text, own_numbers, phase_word, array_after, BothWords, phase_after, Returned, ReturnedBoth, OneWordAndBuffer, OneOfBoth}
use Rattle.bw.specs.PackedReading.{packed_reading, ReturnedReading, OneWordAndBuffers}

-- the largest number of a refusal is 19
small : (x : Refusal) → number_of x ≤ 19
small x = elim x as (λ x. number_of x ≤ 19) [ SheetLength ↦ omega arith | Contents ↦ omega arith | EmptyNameSet ↦ omega arith | ClauseCounts ↦ omega arith | GuardLayout ↦ omega arith | GuardReach ↦ omega arith | Target ↦ omega arith | ActionClause ↦ omega arith | Statement ↦ omega arith | ChildList ↦ omega arith | AskedState ↦ omega arith | AskedCommand ↦ omega arith | PresentBit ↦ omega arith | NameCount ↦ omega arith | Room ↦ omega arith | Naming ↦ omega arith | Limit ↦ omega arith | WrittenGuards ↦ omega arith ]

-- a refusal is its own word, whatever was asked
pub word_refused : (ks : Kinds) (x : Refusal) (r : ℕ) → r ≡ number_of x → (ns : List ℕ) → ns ≡ number_of x ∷ [] → r ≡ word ks ns
unfolding word fields side_by_side
word_refused ks x r e ns f = let l = small x in let z : r ≡ word ks (number_of x ∷ []) = omega arith in z ∙ ap (word ks) (sym f)

-- what is given has the word of its numbers
pub word_given : (ks : Kinds) (r : ℕ) (ms ns : List ℕ) → r ≡ word ks ms → ns ≡ ms → r ≡ word ks ns
word_given ks r ms ns e f = e ∙ ap (word ks) (sym f)

-- the word of an answer is that of what it is, refused or given
module _ {A : Type 0} (P : A → Type 0) (Q : Refusal → Type 0) (W : Result A Refusal → Type 0) where
  pub word_either : (a : Result A Refusal) → MatchResult a P Q → ((x : A) → P x → W (Ok x)) → ((x : Refusal) → Q x → W (Err x)) → W a
  word_either (Ok x) h f g = f x h
  word_either (Err x) h f g = g x h

-- an accepted sheet, and a probe that finds nothing, have the word 0
pub word_accepted : (ns : List ℕ) → ns ≡ 0 ∷ [] → 0 ≡ word kinds_of_judge ns
unfolding word fields side_by_side
word_accepted ns f = rw f

pub word_nothing : (ns : List ℕ) → ns ≡ 0 ∷ [] → 0 ≡ word kinds_of_probe (0 ∷ ns)
unfolding word fields side_by_side
word_nothing ns f = rw f

-- the probe: a clause with each of the three referrers
module _ (i : ℕ) (r : Referrer) where
  pub word_move : (t : OwnState) → r ≡ MoveTo t → t.0 < 256 → 256 + i % 65536 * 65536 + t.0 * 1099511627776 ≡ word kinds_of_probe (0 ∷ 1 ∷ i ∷ referrer_values (referrer_as r))
  unfolding word fields side_by_side
  word_move t e l = rw e (omega arith)

  pub word_do : (a : ℕ) → r ≡ Do a → a < 256 → 256 + i % 65536 * 65536 + 4294967296 + a * 1099511627776 ≡ word kinds_of_probe (0 ∷ 1 ∷ i ∷ referrer_values (referrer_as r))
  unfolding word fields side_by_side
  word_do a e l = rw e (omega arith)

  pub word_stay : r ≡ Stay → 256 + i % 65536 * 65536 + 8589934592 ≡ word kinds_of_probe (0 ∷ 1 ∷ i ∷ referrer_values (referrer_as r))
  unfolding word fields side_by_side
  word_stay e = rw e (omega arith)

-- the when phase: settled by each of the three endings, or a loop
abbrev way_word : ℕ → ℕ → ℕ → ℕ
way_word q m n = q * 65536 + m % 256 * 16777216 + n % 16777216 * 1099511627776

module _ (q m : ℕ) (l : q < 256) where
  pub word_by_none : (n : ℕ) (e : Ending) → e ≡ ByNone → way_word q m n ≡ word kinds_of_phase (0 ∷ settled_values (ending_as e) q m n)
  unfolding word fields side_by_side
  word_by_none n e f = rw f (omega arith)

  pub word_by_stay : (n : ℕ) (e : Ending) → e ≡ ByStay → 256 + way_word q m n ≡ word kinds_of_phase (0 ∷ settled_values (ending_as e) q m n)
  unfolding word fields side_by_side
  word_by_stay n e f = rw f (omega arith)

  pub word_by_do : (n : ℕ) (e : Ending) (c : ℕ) → e ≡ ByDo c → c < 256 → 512 + way_word q m n + c * 4294967296 ≡ word kinds_of_phase (0 ∷ settled_values (ending_as e) q m n)
  unfolding word fields side_by_side
  word_by_do n e c f k = rw f (omega arith)

  pub word_loops : (ns : List ℕ) → ns ≡ 3 ∷ q ∷ m ∷ 0 ∷ [] → 768 + q * 65536 + m % 256 * 16777216 ≡ word kinds_of_phase (0 ∷ ns)
  unfolding word fields side_by_side
  word_loops ns f = rw f (omega arith)

-- the command: ignored, or handled
module _ (q : ℕ) (l : q < 256) (ns : List ℕ) where
  pub word_ignored : ns ≡ 0 ∷ q ∷ 0 ∷ [] → q * 65536 ≡ word kinds_of_command (0 ∷ ns)
  unfolding word fields side_by_side
  word_ignored f = rw f (omega arith)

  pub word_handled : (n : ℕ) → ns ≡ 1 ∷ q ∷ n ∷ [] → 256 + q * 65536 + n % 4294967296 * 4294967296 ≡ word kinds_of_command (0 ∷ ns)
  unfolding word fields side_by_side
  word_handled n f = rw f (omega arith)

  -- the loop question: a loop, or free
  pub word_loop : (k : ℕ) → k < 4294967296 → ns ≡ 1 ∷ k ∷ q ∷ [] → 256 + q * 65536 + k * 4294967296 ≡ word kinds_of_loop (0 ∷ ns)
  unfolding word fields side_by_side
  word_loop k m f = rw f (omega arith)

pub word_free : (m : ℕ) (ns : List ℕ) → ns ≡ 0 ∷ m ∷ [] → m % 256 * 16777216 ≡ word kinds_of_loop (0 ∷ ns)
unfolding word fields side_by_side
word_free m ns f = rw f (omega arith)

-- both words of a command: a refusal leaves the lent one as it was
pub both_refused : (x : Refusal) (r : ℕ) → r ≡ number_of x → (ns before : List ℕ) → ns ≡ number_of x ∷ [] → BothWords ns before r before
both_refused x r e ns before f = (word_refused kinds_of_command x r e (own_numbers ns) (ap own_numbers f), rw (f, ne_eqb (number_of x) 0 (not_zero x)))

-- what is given has the words of its handling and of its phase
pub both_given : (h : Handling) (p : Phase) (r w : ℕ) → r ≡ word kinds_of_command (0 ∷ handled_values h) → w ≡ word kinds_of_phase (0 ∷ phased_values p) → (ns before : List ℕ)
    → ns ≡ 0 ∷ (handled_values h ++ phased_values p) → BothWords ns before r (w ∷ [])
both_given (Ignored q) p r w e g ns before f = rw f (e, ap (λ (x : ℕ). x ∷ []) g)
both_given (Handled q n) p r w e g ns before f = rw f (e, ap (λ (x : ℕ). x ∷ []) g)

-- a text that was written
pub word_written : (n : ℕ) (ns : List ℕ) → ns ≡ 0 ∷ n ∷ [] → n % 4294967296 * 4294967296 ≡ word kinds_of_text ns
unfolding word fields side_by_side
word_written n ns f = rw f (omega arith)

-- the word of what a question is answered
pub returned : (q : Question) (a : AnswerTo q) (w : ℕ) (after : List ℕ) → w ≡ word (kinds q) (held q (numbers_of q a)) → Promised q a after → Returned q w after
unfolding packed
returned q a w after e h = record { word_is = e ∙ ap (λ (ns : List ℕ). word (kinds q) (held q ns)) h.numbers_are; buffer_is = h.buffer_is }

-- both words of what a command is answered
pub returned_both : (b l : List ℕ) (q m : ℕ) (out : List ℕ) (a : CommandAnswer) (w : ℕ) (before after phase : List ℕ) → BothWords (command_numbers a) before w phase
    → Promised (command_in b l q m out) a after → ReturnedBoth (command_in b l q m out) before w after phase
unfolding phase_after
returned_both b l q m out a w before after phase (e, f) h =
    record { returned = returned (command_in b l q m out) a w after e h; phase_is = f ∙ ap (λ (ns : List ℕ). array_after phase_word ns before) h.numbers_are }

-- the promise leaves one word and one content of the buffer
pub one_word_and_buffer : OneWordAndBuffer
one_word_and_buffer q r s x y f g = (f.word_is ∙ sym g.word_is, f.buffer_is ∙ sym g.buffer_is)

-- and of a command one lent word
pub one_of_both : OneOfBoth
one_of_both q before r s x y u v f g = let (e, h) = one_word_and_buffer q r s x y f.returned g.returned in (e, h, f.phase_is ∙ sym g.phase_is)

-- a class text: refused, 16 with its place, or read
module _ (a : ReadAnswer) where
  pub word_unread : (x : Refusal) (r : ℕ) → r ≡ number_of x → a ≡ Err (Refused x) → r ≡ packed_reading (reading_as a)
  unfolding packed_reading reading_numbers side_by_side
  word_unread x r e f = rw f (let l = small x in omega arith)

  pub word_wrong : (p : ℕ) → a ≡ Err (WrongWord p) → 16 + p % 72057594037927936 * 256 ≡ packed_reading (reading_as a)
  unfolding packed_reading reading_numbers side_by_side
  word_wrong p f = rw f (omega arith)

  pub word_read : (l s : ℕ) → a ≡ Ok (l, s) → s % 256 * 65536 + l % 4294967296 * 4294967296 ≡ packed_reading (reading_as a)
  unfolding packed_reading reading_numbers side_by_side
  word_read l s f = rw f (omega arith)

-- the word of what a class text is answered
pub returned_reading : (q : Lent) (a : ReadAnswer) (w : ℕ) (sheet table : List ℕ) → w ≡ packed_reading (reading_as a) → Answered q a sheet table → ReturnedReading q w sheet table
returned_reading q a w sheet table e h = record { reading = reading_as a; answers = h; word_is = e }

-- the promise leaves one word and one content of each buffer
pub one_word_and_buffers : OneWordAndBuffers
one_word_and_buffers q r s x y u v f g =
    let e = reads.one.one_answer q _ _ f.answers g.answers in
    (f.word_is ∙ ap (λ (o : Outcome). packed_reading o.reading) e ∙ sym g.word_is, ap (λ (o : Outcome). o.sheet) e, ap (λ (o : Outcome). o.table) e)
