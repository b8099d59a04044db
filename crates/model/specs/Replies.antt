-- A reply to a question by the rules, and what a lent buffer holds after it.
-- Assumes nothing.
use Rattle.std.specs.Prelude.{ℕ, ◌≡◌, Bool, List, [], ◌∷◌, ◌++◌, leb, length, drop}
use Rattle.model.specs.Words.{choose}

-- a refusal is its number alone; an answer has the bytes that it writes
pub data Reply (A : Type 0) : Type 0 where
  refuse : ℕ → Reply A
  give : A → List ℕ → Reply A

-- a check: its refusal, or what the checks behind it give; they are read only where it passed
abbrev pub check : {A : Type 0} → Bool → ℕ → (Unit {0} → Reply A) → Reply A
check ok n rest = choose ok rest (λ _. refuse n)

-- 15: an answer that writes these bytes, where the lent buffer has room for them
abbrev pub in_room : {A : Type 0} → A → List ℕ → List ℕ → Reply A
in_room a bytes out = check (leb (length bytes) (length out)) 15 λ _. give a bytes

-- the same reply, its answer told in another type
abbrev pub told_as : {A B : Type 0} → (A → B) → Reply A → Reply B
told_as f (refuse n) = refuse n
told_as f (give a bytes) = give (f a) bytes

-- the paper's numbers: a refusal's alone; or 0, and the values of the answer
abbrev pub numbers : {A : Type 0} → (A → List ℕ) → Reply A → List ℕ
numbers values (refuse n) = n ∷ []
numbers values (give a bytes) = 0 ∷ values a

-- a lent buffer with bytes written at its head; those behind them are kept
abbrev pub written : List ℕ → List ℕ → List ℕ
written bytes out = bytes ++ drop (length bytes) out

-- the lent buffer after the call: a refusal writes nothing
abbrev pub buffer_after : {A : Type 0} → Reply A → List ℕ → List ℕ
buffer_after (refuse n) out = out
buffer_after (give a bytes) out = written bytes out

-- the answer's numbers, and the lent buffer afterwards, are those of a reply
pub record Answered {A : Type 0} (values : A → List ℕ) (reply : Reply A) (out answer after : List ℕ) : Type 0 where
  pub numbers_are : answer ≡ numbers values reply
  pub buffer_is : after ≡ buffer_after reply out
