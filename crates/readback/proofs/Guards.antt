-- The words of a written guard are those of its tree.
-- Assumes nothing.
use Prim.Native.Nat.{ℕ, ◌<◌}
use native.Mathlib.Omega.{arith}
use mathlib.Core.Path.{sym, subst}
use mathlib.Core.List.{List, [], ◌∷◌, ◌++◌, append_assoc, append-nil}
use lib.ListN.{length}
use Rattle.model.specs.Tree as M
use Rattle.grammar.specs.Grammar as G
use Rattle.grammar.specs.Grammar.{Token, fixed, Name, left_word, kin_words, names_words, set_words, guard_words, operand_words}
use Rattle.grammar.specs.Words.{spelled}
use Rattle.encoding.specs.Numbers.{Every}
use Rattle.naming.specs.NameLists.{Lists}
use Rattle.naming.proofs.TableLaws.{IsName}
use Rattle.writings.specs.Layout.{name_at, names_of, commas, set_text, kin_text, guard_text}
use Rattle.readback.specs.Trees.{names_from, set_tree, kin_tree, guard_tree}
use Rattle.readback.proofs.Cutting.{Closed, Open, closed_closed, closed_open, open_closed, open_open, closed_is_open}
use Rattle.readback.proofs.Wordings.{open_name, say_open, say_close, say_not, say_and, say_or, say_quantifier, say_side, parting_side, say_children, say_left, say_right, say_comma, parting_close, parting_right, parting_comma}
use Rattle.readback.proofs.RightLists.{RightList, is_named}
use Rattle.readback.proofs.Nameable.{NamedPattern, NamedGuard}
use Rattle.readback.proofs.Sets.{some_name, set_named}

-- names behind names, with commas
commas_open : (p : List Token → List Token) (ns : List Name) → Every IsName ns → (a : List ℕ) (before : G.Names) → Open a (λ ts. p (names_words before ts))
    → Open (a ++ commas ns) (λ ts. p (names_words (names_from before ns) ts))
unfolding commas names_words names_from
commas_open p [] h a before o = subst (λ (x : List ℕ). Open x (λ ts. p (names_words before ts))) (sym (append-nil a)) o
commas_open p (n ∷ ns) h a before o =
    subst (λ (x : List ℕ). Open x (λ ts. p (names_words (names_from (G.more before n) ns) ts))) (append_assoc a (spelled ", " ++ n) (commas ns))
    (commas_open p ns h.1 (a ++ (spelled ", " ++ n)) (G.more before n) (open_open o (parting_comma n) (closed_open say_comma (open_name n h.0))))

-- a set that has a name
set_open : (ns : List Name) → 0 < length ns → Every IsName ns → Open (set_text ns) (set_words (set_tree ns))
unfolding set_text set_words set_tree names_words
set_open [] b h = absurd (omega arith)
set_open (n ∷ []) b h = open_name n h.0
set_open (n ∷ (m ∷ ns)) b h =
    closed_is_open
    (open_closed
    (commas_open (◌∷◌ (fixed left_word)) (m ∷ ns) h.1 (spelled "{" ++ n) (G.one n) (closed_open say_left (open_name n h.0)))
    parting_right
    say_right)

module _ (l : Lists) (ns : RightList 32 l.names) (ks : RightList 36 l.classes) where
  -- FwCHILDREN or a class
  pub kin_open : (p : M.Pattern) → NamedPattern l p → Open (kin_text l.classes p) (kin_words (kin_tree l.classes p))
  unfolding kin_text kin_words kin_tree
  kin_open M.everyone h = say_children
  kin_open (M.of_class c) h = open_name (name_at 36 l.classes c) (is_named ks c h)

  -- a guard in its brackets
  pub guard_closed : (g : M.Guard) → NamedGuard l g → Closed (guard_text l.names l.classes g) (operand_words (guard_tree l.names l.classes g))
  unfolding guard_text guard_tree guard_words
  guard_closed (M.atom k p s) h =
      open_closed
      (closed_open
      (open_closed (closed_open (closed_closed say_open (say_quantifier k)) (kin_open p h.0)) (parting_side k) (say_side k))
      (set_open (names_of l.names s) (some_name l ns s h.1) (set_named l ns s h.1)))
      parting_close
      say_close
  guard_closed (M.both g q) h =
      closed_closed (closed_closed (closed_closed (closed_closed say_open (guard_closed g h.0)) say_and) (guard_closed q h.1)) say_close
  guard_closed (M.either g q) h =
      closed_closed (closed_closed (closed_closed (closed_closed say_open (guard_closed g h.0)) say_or) (guard_closed q h.1)) say_close
  guard_closed (M.opposite g) h = closed_closed (closed_closed say_not (guard_closed g h)) say_close
