-- The limits that show in the lists and in the sizes of a text.
-- Assumes nothing.
use Rattle.std.specs.Prelude.{ℕ, ◌/◌, ◌<◌, ◌^◌, ◌≡◌, Bool, true, ◌&&◌, List, leb, ltb, length}
use Rattle.model.specs.Words.{every}
use Rattle.naming.specs.NameLists.{Lists, lists_within}
use Rattle.lists.specs.Lent.{sets_in}
use Rattle.encoding.specs.Numbers.{Every}
use Rattle.sizes.specs.declared.Sizes.{Sizes}

-- at most 8 child classes, 1 to 32 states, 256 when clauses, 1,024 guard records, 256 action clauses, 1,024 statements
abbrev pub counts_right : ℕ → Sizes → Bool
counts_right K n =
    leb K 8
    && (leb 1 n.states && (leb n.states 32 && (leb n.whens 256 && (leb n.guards 1024 && (leb n.actions 256 && leb n.statements 1024)))))

-- no name set is empty
unfoldable pub sets_right : List ℕ → Bool
sets_right classes = every (λ s. ltb 0 s) (sets_in classes)

-- at most 32 child names and 64 commands, and all of these, and ifs at most 8 deep
unfoldable pub few_enough : Sizes → Lists → Bool
few_enough n l =
    lists_within l && (counts_right (length l.classes / 36) n && (sets_right l.classes && leb n.deepest 8))

-- what the tests answer, and that name sets are numbers of 32 bits
pub record SetsTold (classes : List ℕ) (r : Bool) : Type 0 where
  pub is : r ≡ sets_right classes
  pub fits : r ≡ true → Every (λ s. s < 2 ^ 32) (sets_in classes)

pub record FewTold (n : Sizes) (l : Lists) (r : Bool) : Type 0 where
  pub is : r ≡ few_enough n l
  pub fits : r ≡ true → Every (λ s. s < 2 ^ 32) (sets_in l.classes)
