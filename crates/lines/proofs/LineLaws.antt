-- Laws about the lines of answers: a text written from the front on is that of an answer's numbers.
-- Assumes nothing.
use Prim.Native.Nat.{ℕ, zero, suc, ◌+◌, ◌*◌, ◌/◌, ◌<◌, ◌≤◌}
use native.Mathlib.Omega.{arith}
use mathlib.Core.Path.{◌≡◌, refl, sym, ◌∙◌, ap}
use mathlib.Core.Bool.{Bool, true, false, cond}
use mathlib.Core.List.{List, [], ◌∷◌, ◌++◌, append-nil, append_assoc}
use lib.ListN.{length, take, get_or, length-append}
use lib.Seq.{take_all}
use Rattle.std.specs.Prelude.{Ok, Err}
use Rattle.model.specs.Refusals.{number_of}
use Rattle.model.specs.Answers.{phased_values, handled_values, loop_numbers, LoopAnswer}
use Rattle.model.specs.declared.Refusal.{Refusal}
use Rattle.model.specs.declared.Ending.TheVariants.{ByNone, ByStay, ByDo}
use Rattle.model.specs.declared.Phase.{Phase}
use Rattle.model.specs.declared.Phase.TheVariants.{Settled, Loops as Looping}
use Rattle.model.specs.declared.Handling.{Handling}
use Rattle.model.specs.declared.Handling.TheVariants.{Ignored, Handled}
use Rattle.model.specs.declared.Loops.TheVariants.{Loop, Free}
use Rattle.model.proofs.RefusalLaws.{numbered_from_1}
use Rattle.texts.specs.Texts.{Appended, decimal_text, number_text, hex_text}
use Rattle.texts.proofs.Decimals.{decimal_length}
use Rattle.texts.proofs.Appending.{appended_same}
use Rattle.lines.specs.Lines.{refused_word, do_word, loop_word, free_word, said, empty_field, string_field, text_of, phase_text, handled_text, command_text, loop_text, one_case, child_field, child_fields, is_loop, loopcheck_line}

-- a word and numbers, and one number more; after the last one all are said
pub said_more : (word ns : List ℕ) (i : ℕ) → i < length ns → said word (take i ns) ++ number_text (get_or ns i 0) ≡ said word (take (i + 1) ns)
unfolding said
said_more word [] i h = absurd (omega arith)
said_more word (n ∷ ns) zero h = refl
said_more word (n ∷ ns) (suc i) h =
    let d : suc i + 1 ≡ suc (i + 1) = omega arith in rw d (said_more (word ++ number_text n) ns i (omega arith))

pub said_all : (word ns : List ℕ) (i : ℕ) → length ns ≤ i → said word (take i ns) ≡ said word ns
said_all word ns i h = ap (said word) (take_all i ns h)

-- a refusal has the same text whatever was asked
refusal_text : (words : List (List ℕ)) (n : ℕ) → 1 ≤ n → text_of words (n ∷ []) ≡ said refused_word (n ∷ [])
unfolding text_of
refusal_text words zero h = absurd (omega arith)
refusal_text words (suc n) h = refl

pub told_refused : (words : List (List ℕ)) (l m : List ℕ) (end : ℕ) (x : Refusal) → Appended l m 0 (said refused_word (number_of x ∷ [])) end
    → Appended l m 0 (text_of words (number_of x ∷ [])) end
told_refused words l m end x a = rw (refusal_text words (number_of x) (numbered_from_1 x)) a

-- of a phase that is refused, or closed by a DO, no empty field stands behind the text
pub phase_refused : (l m : List ℕ) (end : ℕ) (x : Refusal) → Appended l m 0 (said refused_word (number_of x ∷ [])) end → Appended l m 0 (phase_text (number_of x ∷ [])) end
phase_refused l m end x a = rw append-nil (told_refused _ l m end x a)

pub phase_closed : (l m : List ℕ) (at end q moves n c : ℕ) → Appended l m at (said do_word (q ∷ moves ∷ n ∷ c ∷ [])) end → Appended l m at (phase_text (0 ∷ 2 ∷ q ∷ moves ∷ n ∷ c ∷ [])) end
unfolding text_of
phase_closed l m at end q moves n c a = appended_same l m at end _ _ (sym (append-nil (said do_word (q ∷ moves ∷ n ∷ c ∷ [])))) a

-- of a command that is refused, no phase stands behind the text; else it does
pub command_refused : (l m : List ℕ) (end : ℕ) (x : Refusal) → Appended l m 0 (said refused_word (number_of x ∷ [])) end → Appended l m 0 (command_text (number_of x ∷ [])) end
command_refused l m end x a = rw append-nil (told_refused _ l m end x a)

pub command_given : (h : Handling) (p : Phase) → handled_text (0 ∷ handled_values h) ++ (32 ∷ phase_text (0 ∷ phased_values p)) ≡ command_text (0 ∷ (handled_values h ++ phased_values p))
unfolding text_of
command_given (Ignored q) (Settled ByNone r m n) = refl
command_given (Ignored q) (Settled ByStay r m n) = refl
command_given (Ignored q) (Settled (ByDo c) r m n) = refl
command_given (Ignored q) (Looping r m) = refl
command_given (Handled q own) (Settled ByNone r m n) = refl
command_given (Handled q own) (Settled ByStay r m n) = refl
command_given (Handled q own) (Settled (ByDo c) r m n) = refl
command_given (Handled q own) (Looping r m) = refl

-- so of an answer of one case; of a class text that is refused for another reason than its words
case_refusal : (word : List ℕ) (n : ℕ) → 1 ≤ n → one_case word (n ∷ []) ≡ said refused_word (n ∷ [])
unfolding one_case
case_refusal word zero h = absurd (omega arith)
case_refusal word (suc n) h = refl

pub case_refused : (word l m : List ℕ) (end : ℕ) (x : Refusal) → Appended l m 0 (said refused_word (number_of x ∷ [])) end
    → Appended l m 0 (one_case word (number_of x ∷ [])) end
case_refused word l m end x a = rw (case_refusal word (number_of x) (numbered_from_1 x)) a

-- a string with no bytes, and one with some
pub no_bytes : (bytes : List ℕ) → length bytes ≡ 0 → empty_field ≡ string_field bytes
no_bytes [] e = refl
no_bytes (b ∷ bs) e = absurd (omega arith)

pub some_bytes : (bytes : List ℕ) → (length bytes ≡ 0 → ⊥) → 32 ∷ hex_text bytes ≡ string_field bytes
some_bytes [] e = absurd (e refl)
some_bytes (b ∷ bs) e = refl

-- a turn writes one child more of a list of pairs; the last turn has written all
pub one_more : (l : List ℕ) (i : ℕ) → i < length l / 2
    → child_fields (take (2 * i) l) ++ child_field (get_or l (2 * i) 0) (get_or l (2 * i + 1) 0) ≡ child_fields (take (2 * (i + 1)) l)
unfolding child_fields
one_more [] i h = absurd (omega arith)
one_more (x ∷ []) i h = absurd (omega arith)
one_more (x ∷ y ∷ l) zero h = sym (append-nil (child_field x y))
one_more (x ∷ y ∷ l) (suc i) h =
    let d : 2 * suc i ≡ suc (suc (2 * i)) = omega arith in
    let e : 2 * (suc i + 1) ≡ suc (suc (2 * (i + 1))) = omega arith in
    let f : 2 * suc i + 1 ≡ suc (suc (2 * i + 1)) = omega arith in
    let more : List ℕ = child_field (get_or l (2 * i) 0) (get_or l (2 * i + 1) 0) in
    rw (f, d, e) (append_assoc (child_field x y) (child_fields (take (2 * i) l)) more ∙ ap (λ (m : List ℕ). child_field x y ++ m) (one_more l i (omega arith)))

pub no_more : (l : List ℕ) (i : ℕ) → length l / 2 ≤ i → child_fields (take (2 * i) l) ≡ child_fields l
unfolding child_fields
no_more [] i h = ap child_fields (take_all (2 * i) [] (omega arith))
no_more (x ∷ []) zero h = refl
no_more (x ∷ []) (suc i) h = ap child_fields (take_all (2 * suc i) (x ∷ []) (omega arith))
no_more (x ∷ y ∷ l) zero h = absurd (omega arith)
no_more (x ∷ y ∷ l) (suc i) h =
    let d : 2 * suc i ≡ suc (suc (2 * i)) = omega arith in
    rw d (ap (λ (m : List ℕ). child_field x y ++ m) (no_more l i (omega arith)))

-- how long a text is: each number has a space and at most 20 digits
said_length : (word ns : List ℕ) → length (said word ns) ≤ length word + 21 * length ns
unfolding said
said_length word [] = omega arith
said_length word (n ∷ ns) = omega (arith, said_length (word ++ number_text n) ns, length-append word (number_text n), decimal_length n)

-- the longest word of the loop question is `refused`
loop_length : (ns : List ℕ) → length (loop_text ns) ≤ 7 + 21 * length ns
unfolding text_of
loop_length [] = omega arith
loop_length (suc n ∷ rest) = omega (arith, said_length refused_word (suc n ∷ []))
loop_length (zero ∷ []) = omega arith
loop_length (zero ∷ n ∷ values) = omega (arith, said_length (get_or (free_word ∷ loop_word ∷ []) n []) values, short n)
  where
    short : (k : ℕ) → length (get_or (free_word ∷ loop_word ∷ []) k []) ≤ 4
    short zero = omega arith
    short (suc zero) = omega arith
    short (suc (suc k)) = omega arith

-- a child has two numbers and a colon for a space
children_length : (l : List ℕ) → length (child_fields l) ≤ 21 * length l
unfolding child_fields
children_length [] = omega arith
children_length (x ∷ []) = omega arith
children_length (x ∷ y ∷ l) =
    let colon_name : List ℕ = 58 ∷ decimal_text y in
    omega (arith, decimal_length x, decimal_length y, children_length l, length-append (number_text x) colon_name, length-append (child_field x y) (child_fields l))

-- so with the line feed
line_length : (ns list : List ℕ) → length (loopcheck_line ns list) ≤ 8 + 21 * length ns + 21 * length list
line_length ns list = go (is_loop ns)
  where
    go : (b : Bool) → length (loop_text ns ++ cond b (child_fields list) [] ++ 10 ∷ []) ≤ 8 + 21 * length ns + 21 * length list
    go true = omega (arith, loop_length ns, children_length list, length-append (loop_text ns) (child_fields list), length-append (loop_text ns ++ child_fields list) (10 ∷ []))
    go false = omega (arith, loop_length ns, length-append (loop_text ns) [], length-append (loop_text ns ++ []) (10 ∷ []))

-- the line of a list of at most 20 children fits loopcheck's buffer
pub line_fits : (a : LoopAnswer) (list : List ℕ) → length list ≤ 40 → length (loopcheck_line (loop_numbers a) list) ≤ 1024
line_fits (Err x) list h = omega (arith, line_length (number_of x ∷ []) list)
line_fits (Ok (Loop k q)) list h = omega (arith, line_length (0 ∷ 1 ∷ k ∷ q.0 ∷ []) list)
line_fits (Ok (Free m)) list h = omega (arith, line_length (0 ∷ 0 ∷ m ∷ []) list)
