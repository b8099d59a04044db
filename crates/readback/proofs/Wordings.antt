-- The pieces of the written text that are words: names, and the fixed words with the blanks that they are written with.
-- Assumes nothing.
use Prim.Native.Nat.{ℕ, zero, suc, ◌≤◌}
use native.Mathlib.Omega.{arith}
use mathlib.Core.Path.{◌≡◌, refl}
use mathlib.Core.Bool.{Bool, true, ◌&&◌}
use mathlib.Core.List.{List, ◌∷◌, ◌++◌}
use lib.Dec.{eqb, leb}
use lib.ListN.{length}
use borrow.Author.Tests.{leb-true, eqb-true}
use Rattle.model.specs.Words.{every}
use Rattle.model.proofs.Words.{and_left, and_right}
use Rattle.model.specs.Tree.{Kind, any_in, any_not_in, all_in, all_not_in}
use Rattle.grammar.specs.Grammar.{Token, fixed, name, Name, class_word, state_word, action_word, top_word, any_word, all_word, when_word, move_word, do_word, stay_word, if_word, then_word, else_word, endif_word, and_word, or_word, not_word, in_word, out_word, children_word, open_word, close_word, left_word, right_word, comma_word, quantifier_word, side_word}
use Rattle.grammar.specs.Words.{spelled, white, name_char, position, fixed_words, bare_runs, is_name, token_of}
use Rattle.grammar.proofs.Worked.{wording}
use Rattle.naming.proofs.NameLaws.{made_of}
use Rattle.writings.specs.Layout.{indent, line, quantifier_text, side_text}
use Rattle.readback.specs.Trees.{quantifier_in, side_in}
use Rattle.readback.proofs.Cutting.{stops, Closed, Open, Parting, closed_by, closed_none, closed_open, open_closed, closed_white, open_white, open_run}

-- a name has 1 to 31 characters, and is no fixed word
pub record Named (n : Name) : Type 0 where
  pub some : 1 ≤ length n
  pub short : length n ≤ 31
  pub not_fixed : position fixed_words n ≡ 25

pub named : (n : Name) → is_name n ≡ true → Named n
unfolding is_name
named n h =
    let least : Bool = leb 1 (length n) in
    let most : Bool = leb (length n) 31 in
    let free : Bool = eqb (position fixed_words n) 25 in
    let words : Bool = free && eqb (position bare_runs n) 7 in
    let sizes = and_left (least && most) (every name_char n && words) h in
    let rest = and_right (every name_char n) words (and_right (least && most) (every name_char n && words) h) in
    record {
      some = leb-true 1 (length n) (and_left least most sizes);
      short = leb-true (length n) 31 (and_right least most sizes);
      not_fixed = eqb-true (position fixed_words n) 25 (and_left free (eqb (position bare_runs n) 7) rest);
    }

-- a name is read as that name
name_token : (n : Name) → is_name n ≡ true → token_of n ≡ name n
unfolding token_of
name_token n h = rw ((named n h).not_fixed, h)

pub open_name : (n : Name) → is_name n ≡ true → Open n (◌∷◌ (name n))
open_name n h = open_run n (name n) (made_of n h) (named n h).some (name_token n h)

-- the blanks in front of a line, and a line
closed_indent : (v : ℕ) → Closed (indent v) (λ ts. ts)
unfolding indent white
closed_indent zero = closed_none
closed_indent (suc v) = closed_white 32 refl (closed_white 32 refl (closed_indent v))

pub closed_line : {a : List ℕ} {f : List Token → List Token} (v : ℕ) → Open a f → Closed (line v a) f
unfolding line white stops name_char
closed_line v p = open_closed (closed_open (closed_indent v) p) (λ rest. refl) (closed_white 10 refl closed_none)

-- the fixed words, with the blanks that they are written with
pub say_open : Closed (spelled "( ") (◌∷◌ (fixed open_word))
unfolding wording
say_open = closed_by (spelled "( ") (◌∷◌ (fixed open_word)) 2 (λ rest. refl)

pub say_close : Closed (spelled " )") (◌∷◌ (fixed close_word))
unfolding wording
say_close = closed_by (spelled " )") (◌∷◌ (fixed close_word)) 2 (λ rest. refl)

pub say_not : Closed (spelled "( not ") (λ ts. fixed open_word ∷ fixed not_word ∷ ts)
unfolding wording
say_not = closed_by (spelled "( not ") (λ ts. fixed open_word ∷ fixed not_word ∷ ts) 6 (λ rest. refl)

pub say_and : Closed (spelled " and ") (◌∷◌ (fixed and_word))
unfolding wording
say_and = closed_by (spelled " and ") (◌∷◌ (fixed and_word)) 5 (λ rest. refl)

pub say_or : Closed (spelled " or ") (◌∷◌ (fixed or_word))
unfolding wording
say_or = closed_by (spelled " or ") (◌∷◌ (fixed or_word)) 4 (λ rest. refl)

pub say_quantifier : (k : Kind) → Closed (quantifier_text k) (◌∷◌ (fixed (quantifier_word (quantifier_in k))))
unfolding wording quantifier_text quantifier_in quantifier_word
say_quantifier any_in = closed_by (spelled "$ANY$") (◌∷◌ (fixed any_word)) 5 (λ rest. refl)
say_quantifier any_not_in = closed_by (spelled "$ANY$") (◌∷◌ (fixed any_word)) 5 (λ rest. refl)
say_quantifier all_in = closed_by (spelled "$ALL$") (◌∷◌ (fixed all_word)) 5 (λ rest. refl)
say_quantifier all_not_in = closed_by (spelled "$ALL$") (◌∷◌ (fixed all_word)) 5 (λ rest. refl)

pub say_side : (k : Kind) → Closed (side_text k) (◌∷◌ (fixed (side_word (side_in k))))
unfolding wording side_text side_in side_word
say_side any_in = closed_by (spelled " in_state ") (◌∷◌ (fixed in_word)) 10 (λ rest. refl)
say_side any_not_in = closed_by (spelled " not_in_state ") (◌∷◌ (fixed out_word)) 14 (λ rest. refl)
say_side all_in = closed_by (spelled " in_state ") (◌∷◌ (fixed in_word)) 10 (λ rest. refl)
say_side all_not_in = closed_by (spelled " not_in_state ") (◌∷◌ (fixed out_word)) 14 (λ rest. refl)

-- what stands behind a name or a run parts it from what is behind
pub parting_side : (k : Kind) → Parting (side_text k)
unfolding wording side_text stops
parting_side any_in rest = refl
parting_side any_not_in rest = refl
parting_side all_in rest = refl
parting_side all_not_in rest = refl

pub say_children : Open (spelled "FwCHILDREN") (◌∷◌ (fixed children_word))
unfolding wording
say_children = open_run (spelled "FwCHILDREN") (fixed children_word) refl (omega arith) refl

pub say_left : Closed (spelled "{") (◌∷◌ (fixed left_word))
unfolding wording
say_left = closed_by (spelled "{") (◌∷◌ (fixed left_word)) 1 (λ rest. refl)

pub say_right : Closed (spelled "}") (◌∷◌ (fixed right_word))
unfolding wording
say_right = closed_by (spelled "}") (◌∷◌ (fixed right_word)) 1 (λ rest. refl)

pub say_comma : Closed (spelled ", ") (◌∷◌ (fixed comma_word))
unfolding wording
say_comma = closed_by (spelled ", ") (◌∷◌ (fixed comma_word)) 2 (λ rest. refl)

pub say_do : Closed (spelled "do ") (◌∷◌ (fixed do_word))
unfolding wording
say_do = closed_by (spelled "do ") (◌∷◌ (fixed do_word)) 3 (λ rest. refl)

pub say_all : Closed (spelled " $ALL$") (◌∷◌ (fixed all_word))
unfolding wording
say_all = closed_by (spelled " $ALL$") (◌∷◌ (fixed all_word)) 6 (λ rest. refl)

pub say_move : Closed (spelled "move_to ") (◌∷◌ (fixed move_word))
unfolding wording
say_move = closed_by (spelled "move_to ") (◌∷◌ (fixed move_word)) 8 (λ rest. refl)

pub say_stay : Closed (spelled "stay_in_state ") (◌∷◌ (fixed stay_word))
unfolding wording
say_stay = closed_by (spelled "stay_in_state ") (◌∷◌ (fixed stay_word)) 14 (λ rest. refl)

pub say_if : Closed (spelled "if ") (◌∷◌ (fixed if_word))
unfolding wording
say_if = closed_by (spelled "if ") (◌∷◌ (fixed if_word)) 3 (λ rest. refl)

pub say_then : Open (spelled " then") (◌∷◌ (fixed then_word))
unfolding wording
say_then = open_white 32 refl (open_run (spelled "then") (fixed then_word) refl (omega arith) refl)

pub say_else : Open (spelled "else") (◌∷◌ (fixed else_word))
unfolding wording
say_else = open_run (spelled "else") (fixed else_word) refl (omega arith) refl

pub say_endif : Open (spelled "endif") (◌∷◌ (fixed endif_word))
unfolding wording
say_endif = open_run (spelled "endif") (fixed endif_word) refl (omega arith) refl

pub say_when : Closed (spelled "when ") (◌∷◌ (fixed when_word))
unfolding wording
say_when = closed_by (spelled "when ") (◌∷◌ (fixed when_word)) 5 (λ rest. refl)

pub say_blank : Closed (spelled " ") (λ ts. ts)
unfolding wording
say_blank = closed_by (spelled " ") (λ ts. ts) 1 (λ rest. refl)

pub say_action : Closed (spelled "action: ") (◌∷◌ (fixed action_word))
unfolding wording
say_action = closed_by (spelled "action: ") (◌∷◌ (fixed action_word)) 8 (λ rest. refl)

pub say_state : Closed (spelled "state: ") (◌∷◌ (fixed state_word))
unfolding wording
say_state = closed_by (spelled "state: ") (◌∷◌ (fixed state_word)) 7 (λ rest. refl)

pub say_class : Closed (spelled "class: $FWPART_$TOP$") (λ ts. fixed class_word ∷ fixed top_word ∷ ts)
unfolding wording
say_class = closed_by (spelled "class: $FWPART_$TOP$") (λ ts. fixed class_word ∷ fixed top_word ∷ ts) 20 (λ rest. refl)

-- the words that begin with a blank, a comma or a brace part what is before them
pub parting_close : Parting (spelled " )")
unfolding wording stops
parting_close rest = refl

pub parting_right : Parting (spelled "}")
unfolding wording stops
parting_right rest = refl

pub parting_all : Parting (spelled " $ALL$")
unfolding wording stops
parting_all rest = refl

pub parting_comma : (n : Name) → Parting (spelled ", " ++ n)
unfolding wording stops
parting_comma n rest = refl
