-- THEOREM: the text of a class is read back as that class, so two classes have two texts; and no text is longer than 1,259,860 bytes.
-- Assumes nothing.
use Prim.Native.Nat.{ℕ, ◌≤◌}
use mathlib.Core.Path.{◌≡◌, sym, ◌∙◌, ap, subst}
use mathlib.Core.Bool.{true}
use mathlib.Core.List.{List}
use lib.ListN.{length}
use Rattle.model.specs.Tree.{Class}
use Rattle.grammar.specs.Reading.{Says}
use Rattle.grammar.proofs.OneWay.{one_way}
use Rattle.encoding.specs.Numbers.{Numbers}
use Rattle.naming.specs.Naming.{class_in}
use Rattle.writings.specs.Layout.{Named, class_text}
use Rattle.writings.specs.Missing.{names_right}
use Rattle.readback.specs.Trees.{text_tree}
use Rattle.readback.specs.Back.{ReadBack, Written}
use Rattle.readback.proofs.Nameable.{nameable}
use Rattle.readback.proofs.Clauses.{text_says}
use Rattle.readback.proofs.OwnNames.{names_number, table_is}
use Rattle.readback.proofs.ClassBack.{class_back}
use Rattle.readback.proofs.KnownBack.{tree_known}
use Rattle.readback.proofs.TextSize.{text_at_most}

-- the text of a class is read back
pub read_back : (n : Named) (c : Class) → names_right n c ≡ true → Numbers c → 1 ≤ length c.states → ReadBack n c
read_back n c h k some =
    let r = nameable n c h k in
    record {
      says = text_says n c r some;
      class = class_back n c r some;
      table = table_is n c r some;
      known = tree_known n c r some;
      states = names_number n c r some;
    }

-- two classes whose texts are one are one
pub same_text : (n : Named) (c d : Class) → names_right n c ≡ true → names_right n d ≡ true → Numbers c → Numbers d → 1 ≤ length c.states
    → 1 ≤ length d.states → class_text n c ≡ class_text n d → c ≡ d
same_text n c d h g k m some any e =
    let r = read_back n c h k some in
    let s = read_back n d g m any in
    let t : text_tree n c ≡ text_tree n d =
    one_way.one_tree (class_text n c) (text_tree n c) (text_tree n d) r.says (subst (λ (b : List ℕ). Says b (text_tree n d)) (sym e) s.says) in
    sym r.class ∙ (ap (class_in n.lists) t ∙ s.class)

pub written : Written
written = record { read_back = read_back; same_text = same_text; at_most = text_at_most }
