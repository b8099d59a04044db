-- How long the pieces of a written text can be: a guard has at most 1,110 bytes a record.
-- Assumes nothing.
use Prim.Native.Nat.{ℕ, zero, suc, ◌+◌, ◌*◌, ◌≤◌}
use Prim.Native.String.{String}
use native.Mathlib.Omega.{arith}
use mathlib.Core.Path.{◌≡◌, refl}
use mathlib.Core.Bool.{Bool, true, false}
use mathlib.Core.List.{List, [], ◌∷◌, ◌++◌}
use lib.ListN.{length, length-append, length-map}
use Rattle.model.specs.Words.{kept, keep, listed, has}
use Rattle.model.proofs.Lists.{length_listed}
use Rattle.model.specs.Tree as M
use Rattle.grammar.specs.Grammar.{Name}
use Rattle.grammar.specs.Words.{spelled}
use Rattle.encoding.specs.Numbers.{Every}
use Rattle.encoding.specs.Encoding.{guard_records}
use Rattle.naming.specs.NameLists.{Lists}
use Rattle.naming.proofs.TableLaws.{IsName}
use Rattle.writings.specs.Layout.{name_at, indent, line, names_of, commas, set_text, quantifier_text, side_text, kin_text, guard_text}
use Rattle.readback.proofs.Wordings.{named}
use Rattle.readback.proofs.RightLists.{RightList, is_named}
use Rattle.readback.proofs.Nameable.{bits, NamedPattern, NamedGuard}
use Rattle.readback.proofs.Sets.{set_named}

-- the bytes are at most so many
pub record Short (a : List ℕ) (n : ℕ) : Type 0 where
  pub most : length a ≤ n

pub at_most : {a : List ℕ} {m : ℕ} (n : ℕ) → Short a m → m ≤ n → Short a n
at_most n s h = record { most = (let z = s.most in omega arith) }

pub short_both : {a b : List ℕ} {m n : ℕ} → Short a m → Short b n → Short (a ++ b) (m + n)
short_both {a} {b} s t = record { most = (let y = s.most in let z = t.most in omega (arith, length-append a b)) }

-- a written word, a name
pub short_word : (s : String) (n : ℕ) → length (spelled s) ≡ n → Short (spelled s) n
short_word s n e = record { most = omega arith }

pub short_name : (n : Name) → IsName n → Short n 31
short_name n h = record { most = (named n h).short }

-- a line
short_indent : (v : ℕ) → Short (indent v) (2 * v)
unfolding indent
short_indent zero = record { most = omega arith }
short_indent (suc v) = record { most = (let z = (short_indent v).most in omega arith) }

line_feed : Short (10 ∷ []) 1
line_feed = record { most = omega arith }

pub short_line : {a : List ℕ} {n : ℕ} (v : ℕ) → Short a n → Short (line v a) (2 * v + n + 1)
unfolding line
short_line v s = short_both (short_both (short_indent v) s) line_feed

-- at most 32 names in a set
few_kept : (f : ℕ → Bool) (xs : List ℕ) → length (keep f xs) ≤ length xs
unfolding keep
few_kept f [] = omega arith
few_kept f (x ∷ xs) = go (f x) (few_kept f xs)
  where
    go : (b : Bool) → length (keep f xs) ≤ length xs → length (kept b x (keep f xs)) ≤ suc (length xs)
    go true h = let z : suc (length (keep f xs)) ≤ suc (length xs) = omega arith in z
    go false h = let z : length (keep f xs) ≤ suc (length xs) = omega arith in z

few_names : (names : List ℕ) (s : ℕ) → length (names_of names s) ≤ 32
unfolding names_of
few_names names s =
    omega (arith, length-map (bits s) (name_at 32 names), few_kept (has s) (listed 0 32 (λ i. i)), length_listed {A = ℕ} 0 32 (λ i. i))

short_commas : (ns : List Name) → Every IsName ns → Short (commas ns) (33 * length ns)
unfolding commas spelled listed
short_commas [] h = record { most = omega arith }
short_commas (n ∷ ns) h =
    at_most (33 * suc (length ns)) (short_both (short_both (short_word ", " 2 refl) (short_name n h.0)) (short_commas ns h.1)) (omega arith)

short_set : (ns : List Name) → Every IsName ns → length ns ≤ 32 → Short (set_text ns) 1056
unfolding set_text spelled listed
short_set [] h b = record { most = omega arith }
short_set (n ∷ []) h b = at_most 1056 (short_name n h.0) (omega arith)
short_set (n ∷ (m ∷ ns)) h b =
    at_most 1056
    (short_both (short_both (short_both (short_word "{" 1 refl) (short_name n h.0)) (short_commas (m ∷ ns) h.1)) (short_word "}" 1 refl))
    (let z : suc (suc (length ns)) ≤ 32 = b in let y : 1 + 31 + 33 * suc (length ns) + 1 ≤ 1056 = omega arith in y)

short_quantifier : (k : M.Kind) → Short (quantifier_text k) 5
unfolding quantifier_text spelled listed
short_quantifier M.any_in = short_word "$ANY$" 5 refl
short_quantifier M.any_not_in = short_word "$ANY$" 5 refl
short_quantifier M.all_in = short_word "$ALL$" 5 refl
short_quantifier M.all_not_in = short_word "$ALL$" 5 refl

short_side : (k : M.Kind) → Short (side_text k) 14
unfolding side_text spelled listed
short_side M.any_in = at_most 14 (short_word " in_state " 10 refl) (omega arith)
short_side M.any_not_in = short_word " not_in_state " 14 refl
short_side M.all_in = at_most 14 (short_word " in_state " 10 refl) (omega arith)
short_side M.all_not_in = short_word " not_in_state " 14 refl

module _ (l : Lists) (ns : RightList 32 l.names) (ks : RightList 36 l.classes) where
  pub short_kin : (p : M.Pattern) → NamedPattern l p → Short (kin_text l.classes p) 31
  unfolding kin_text spelled listed
  short_kin M.everyone h = at_most 31 (short_word "FwCHILDREN" 10 refl) (omega arith)
  short_kin (M.of_class c) h = short_name (name_at 36 l.classes c) (is_named ks c h)

  -- a guard, by its records
  pub short_guard : (g : M.Guard) → NamedGuard l g → Short (guard_text l.names l.classes g) (1110 * length (guard_records g))
  unfolding guard_text guard_records spelled listed
  short_guard (M.atom k p s) h =
      at_most (1110 * 1)
      (short_both
      (short_both (short_both (short_both (short_both (short_word "( " 2 refl) (short_quantifier k)) (short_kin p h.0)) (short_side k))
      (short_set (names_of l.names s) (set_named l ns s h.1) (few_names l.names s)))
      (short_word " )" 2 refl))
      (omega arith)
  short_guard (M.both g q) h =
      at_most (1110 * suc (length (guard_records g ++ guard_records q)))
      (short_both
      (short_both (short_both (short_both (short_word "( " 2 refl) (short_guard g h.0)) (short_word " and " 5 refl)) (short_guard q h.1))
      (short_word " )" 2 refl))
      (omega (arith, length-append (guard_records g) (guard_records q)))
  short_guard (M.either g q) h =
      at_most (1110 * suc (length (guard_records g ++ guard_records q)))
      (short_both
      (short_both (short_both (short_both (short_word "( " 2 refl) (short_guard g h.0)) (short_word " or " 4 refl)) (short_guard q h.1))
      (short_word " )" 2 refl))
      (omega (arith, length-append (guard_records g) (guard_records q)))
  short_guard (M.opposite g) h =
      at_most (1110 * suc (length (guard_records g))) (short_both (short_both (short_word "( not " 6 refl) (short_guard g h)) (short_word " )" 2 refl)) (omega arith)
