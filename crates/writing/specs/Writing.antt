-- What the code that writes a class text answers, and what it leaves in the lent buffer.
-- Assumes nothing.
use Rattle.std.specs.Prelude.{ℕ, List, length}
use Rattle.model.specs.Tree.{Class}
use Rattle.model.specs.Answers.{write_numbers, WriteAnswer}
use Rattle.model.specs.Replies.{in_room, Answered}
use Rattle.lists.specs.declared.Lists.{Lists}
use Rattle.lists.specs.declared.Own.{Own}
use Rattle.writings.specs.Layout.{Named, class_text}
use Rattle.writings.specs.Writings.{named, reply_text, text_values}

-- what is lent, as the code's structs hold it
abbrev pub named_of : Own → Lists → Named
named_of own l = named own.name.now own.states.now l.names.now l.commands.now l.classes.now

-- it is the answer to the class c
abbrev pub Writes : Named → Class → List ℕ → List ℕ → WriteAnswer → Type 0
Writes n c out after r = Answered text_values (reply_text n c out) out (write_numbers r) after

-- it is the answer where no name is missing and the guards are few: the text, or 15
abbrev pub WritesText : Named → Class → List ℕ → List ℕ → WriteAnswer → Type 0
WritesText n c out after r = Answered text_values (in_room (length (class_text n c)) (class_text n c) out) out (write_numbers r) after
