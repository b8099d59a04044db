-- The lengths of a sheet's bodies, and what the function that writes a sheet promises.
-- Assumes nothing.
use Rattle.std.specs.Prelude.{ℕ, ◌+◌, ◌*◌, ◌%◌, ◌≡◌, true, List, [], ◌∷◌}
use Rattle.grammar.specs.Grammar.{Text}
use Rattle.grammar.specs.Reading.{Says}
use Rattle.naming.specs.Naming.{class_in}
use Rattle.naming.specs.Known.{text_known}
use Rattle.lists.specs.Lent.{lent}
use Rattle.encoding.specs.Records.{eights}
use Rattle.encoding.specs.Encoding.{all_guards, sheet_of}
use Rattle.encoding.specs.Within.{Within}
use Rattle.pen.specs.Writing.{Puts}
use Rattle.sizes.specs.Sized.{sizes_in}
use Rattle.sizes.specs.declared.Sizes.{Sizes}

-- the bytes of a body of so many records; no body has 8,192
abbrev pub body_size : ℕ → ℕ → ℕ
body_size count bytes = count % 8192 * bytes

-- the bytes of so many state records: how long one is stands here alone
abbrev pub states_size : ℕ → ℕ
states_size count = body_size count 4

-- child classes, states, when clauses, guard records, action clauses, statements
abbrev pub body_sizes : ℕ → Sizes → List ℕ
body_sizes K n =
    body_size K 4 ∷ states_size n.states ∷ body_size n.whens 4 ∷ body_size n.guards 8 ∷ body_size n.actions 4 ∷ body_size n.statements 8 ∷ []

-- the length of a sheet with these bodies, and of the table beside it
abbrev pub sheet_size : ℕ → Sizes → ℕ
sheet_size K n =
    24 + body_size K 4 + states_size n.states + (body_size n.whens 4 + body_size n.actions 4) + (body_size n.guards 8 + body_size n.statements 8)

abbrev pub table_size : Sizes → ℕ
table_size n = body_size n.states 32

-- of a text whose names are known and whose class has these sizes and guard records, the sheet stands in the buffer
abbrev pub WritesSheet : List ℕ → List ℕ → List ℕ → Sizes → List ℕ → List ℕ → List ℕ → ℕ → Type 0
WritesSheet text commands classes n guards before after r =
    (names : List ℕ) (t : Text) → Says text t → text_known (lent names commands classes) t ≡ true → Within (class_in (lent names commands classes) t)
    → n ≡ sizes_in (class_in (lent names commands classes) t) → guards ≡ eights (all_guards (class_in (lent names commands classes) t))
    → Puts (sheet_of (class_in (lent names commands classes) t)) before 0 after r
