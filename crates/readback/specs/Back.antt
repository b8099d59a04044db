-- The text that is written of a class is read back as that class, with the table as it was, and is never refused for 16 or 17.
-- Assumes nothing.
use Rattle.std.specs.Prelude.{◌≤◌, ◌≡◌, true, length}
use Rattle.model.specs.Tree.{Class}
use Rattle.grammar.specs.Reading.{Says}
use Rattle.naming.specs.Naming.{class_in, own_names, table_of}
use Rattle.naming.specs.Known.{text_known}
use Rattle.encoding.specs.Numbers.{Numbers}
use Rattle.encoding.specs.Within.{Within}
use Rattle.writings.specs.Layout.{Named, class_text}
use Rattle.writings.specs.Missing.{names_right}
use Rattle.readback.specs.Trees.{text_tree}

-- the bytes are a text of the grammar, which stands for the class, has the table's names, and names nothing that is unknown
pub record ReadBack (n : Named) (c : Class) : Type 0 where
  pub says : Says (class_text n c) (text_tree n c)
  pub class : class_in n.lists (text_tree n c) ≡ c
  pub table : table_of (text_tree n c) ≡ n.own_states
  pub known : text_known n.lists (text_tree n c) ≡ true
  pub states : length (own_names (text_tree n c)) ≡ length c.states

-- what is written of a class: it is read back; two classes have two texts; and no text is longer than this
pub record Written : Type 0 where
  pub read_back : (n : Named) (c : Class) → names_right n c ≡ true → Numbers c → 1 ≤ length c.states → ReadBack n c
  pub same_text :
      (n : Named) (c d : Class) → names_right n c ≡ true → names_right n d ≡ true → Numbers c → Numbers d → 1 ≤ length c.states
      → 1 ≤ length d.states → class_text n c ≡ class_text n d → c ≡ d
  pub at_most : (n : Named) (c : Class) → names_right n c ≡ true → Within c → length (class_text n c) ≤ 1259860
