-- Writing the text of a class: which answer it gets, and what the lent buffer holds afterwards. The sheet's own refusals, 1 to 9, come first.
-- Assumes nothing.
use Rattle.std.specs.Prelude.{ℕ, Bool, List, [], ◌∷◌, leb, length}
use Rattle.model.specs.Tree.{Class}
use Rattle.model.specs.Replies.{Reply, check, in_room}
use Rattle.encoding.specs.Encoding.{all_guards}
use Rattle.writings.specs.Layout.{Named, class_text}
use Rattle.writings.specs.Missing.{names_right}

-- what is lent
abbrev pub named : List ℕ → List ℕ → List ℕ → List ℕ → List ℕ → Named
named own_name own_states names commands classes =
    record { own_name = own_name; own_states = own_states; lists = record { names = names; commands = commands; classes = classes } }

-- no refusal 19: the guards of all when clauses and all ifs, each as often as it is used, have at most 1,024 records
unfoldable pub guards_few : Class → Bool
guards_few c = leb (length (all_guards c)) 1024

-- 17, 19, 15; or the text, and its length
unfoldable pub reply_text : Named → Class → List ℕ → Reply ℕ
reply_text n c out = check (names_right n c) 17 λ _. check (guards_few c) 19 λ _. in_room (length (class_text n c)) (class_text n c) out

-- the value of the answer: the number of bytes
abbrev pub text_values : ℕ → List ℕ
text_values n = n ∷ []
