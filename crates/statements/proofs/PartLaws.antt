-- How many statements a part has, by its tree, by its records, and by the words ahead.
-- Assumes nothing.
use Prim.Native.Nat.{ℕ, suc, ◌+◌}
use native.Mathlib.Omega.{arith}
use mathlib.Core.Path.{◌≡◌, refl, ◌∙◌, ap}
use mathlib.Core.List.{List, ◌∷◌, ◌++◌}
use lib.ListN.{length, length-append}
use borrow.Author.Tests.{ne_eqb}
use Rattle.model.specs.Tree as M
use Rattle.grammar.specs.Grammar.{Token, fixed, name, Name, Guard, Part, nothing, send, go_to, if_then, if_else, all_word, do_word, move_word, if_word, then_word, else_word, endif_word, kin_words, guard_words, part_words}
use Rattle.grammar.specs.Kinds.{kind_of}
use Rattle.naming.specs.NameLists.{Lists}
use Rattle.naming.specs.Naming.{guard_of, part_of}
use Rattle.encoding.specs.Encoding.{guard_records, part_guards, part_records}
use Rattle.whens.proofs.Passing.{other_kind, in_guard, Passes, kin_pass, guard_pass}
use Rattle.statements.specs.Statements.{count_after, depth_after, PartAhead, part_ahead, else_size}

-- the statements of a part, those in its ifs counted
unfoldable pub part_count : Part → ℕ
part_count nothing = 0
part_count (send p c k) = part_count p + 1
part_count (go_to p s) = part_count p + 1
part_count (if_then p g q) = part_count p + (1 + part_count q)
part_count (if_else p g q r) = part_count p + (1 + (part_count q + part_count r))

-- as many records
module _ (l : Lists) (own : List Name) where
  abbrev count : M.Part → ℕ → Type 0
  count m c = (n : ℕ) → length (part_records m n) ≡ c

  branch_count : (g : M.Guard) (a b m : M.Part) (x y z : ℕ) → count a x → count b y → count m z → count (M.◌then◌ (M.branch g a b) m) (1 + (x + y) + z)
  unfolding part_records part_guards
  branch_count g a b m x y z p q r n =
      let k : ℕ = n + length (guard_records g) in
      let A = part_records a k in
      let B = part_records b (k + length (part_guards a)) in
      let C = part_records m (n + length (guard_records g ++ (part_guards a ++ part_guards b))) in
      let u = length-append (A ++ B) C in
      let v = length-append A B in
      let i : length A ≡ x = p k in
      let j : length B ≡ y = q (k + length (part_guards a)) in
      let h : length C ≡ z = r (n + length (guard_records g ++ (part_guards a ++ part_guards b))) in
      omega arith

  pub part_counted : (p : Part) (m : M.Part) (z : ℕ) → count m z → count (part_of l own p m) (part_count p + z)
  unfolding part_count part_of part_records
  part_counted nothing m z r n = r n ∙ omega arith
  part_counted (send p c k) m z r n = part_counted p _ (suc z) (λ j. ap suc (r _)) n ∙ omega arith
  part_counted (go_to p s) m z r n = part_counted p _ (suc z) (λ j. ap suc (r _)) n ∙ omega arith
  part_counted (if_then p g q) m z r n =
      part_counted p _ (1 + ((part_count q + 0) + 0) + z) (branch_count (guard_of g l) (part_of l own q M.end) M.end m (part_count q + 0) 0 z (part_counted q M.end 0 (λ j. refl)) (λ j. refl) r) n
      ∙ omega arith
  part_counted (if_else p g q e) m z r n =
      part_counted p _ (1 + ((part_count q + 0) + (part_count e + 0)) + z)
      (branch_count (guard_of g l) (part_of l own q M.end) (part_of l own e M.end) m (part_count q + 0) (part_count e + 0) z (part_counted q M.end 0 (λ j. refl)) (part_counted e M.end 0 (λ j. refl)) r) n
      ∙ omega arith

  pub part_length : (p : Part) (n : ℕ) → part_count p ≡ length (part_records (part_of l own p M.end) n)
  unfolding part_records
  part_length p n = let e = part_counted p M.end 0 (λ j. refl) n in omega arith

-- the part ahead, over words that are no statement and end no part
quiet : (d n : ℕ) → Passes in_guard (λ j ws. part_ahead d n ws)
unfolding part_ahead depth_after count_after
quiet d n j w ws e =
    rw (
      other_kind in_guard 13 (kind_of w) refl e,
      other_kind in_guard 14 (kind_of w) refl e,
      other_kind in_guard 11 (kind_of w) refl e,
      other_kind in_guard 8 (kind_of w) refl e,
      other_kind in_guard 9 (kind_of w) refl e,
    )

else_inside : (d n : ℕ) (ws : List Token) → part_ahead (d + 1) n (fixed else_word ∷ ws) ≡ part_ahead (d + 1) n ws
unfolding part_ahead depth_after count_after kind_of
else_inside d n ws = rw (ne_eqb (d + 1) 0 (λ z. omega arith))

endif_inside : (d n : ℕ) (ws : List Token) → part_ahead (d + 1) n (fixed endif_word ∷ ws) ≡ part_ahead d n ws
unfolding part_ahead depth_after count_after kind_of
endif_inside d n ws = rw (ne_eqb (d + 1) 0 (λ z. omega arith)) (ap (λ (e : ℕ). part_ahead e n ws) (omega arith))

module _ (l : Lists) where
  past_guard : (d n : ℕ) (g : Guard) (ws : List Token) → part_ahead d n (guard_words g (fixed then_word ∷ ws)) ≡ part_ahead d n ws
  unfolding part_ahead depth_after count_after kind_of
  past_guard d n g ws = guard_pass l (λ j xs. part_ahead d n xs) (quiet d n) g 0 (fixed then_word ∷ ws)

  -- a part ahead is counted
  pub part_passed : (p : Part) (d n : ℕ) (rest : List Token) → part_ahead d n (part_words p rest) ≡ part_ahead d (n + part_count p) rest
  unfolding part_words part_count part_ahead depth_after count_after kind_of
  part_passed nothing d n rest = ap (λ (j : ℕ). part_ahead d j rest) (omega arith)
  part_passed (send p c k) d n rest =
      part_passed p d n (fixed do_word ∷ name c ∷ fixed all_word ∷ kin_words k rest)
      ∙ (kin_pass l (λ j xs. part_ahead d (n + part_count p + 1) xs) (quiet d (n + part_count p + 1)) k 0 rest ∙ ap (λ (j : ℕ). part_ahead d j rest) (omega arith))
  part_passed (go_to p s) d n rest = part_passed p d n (fixed move_word ∷ name s ∷ rest) ∙ ap (λ (j : ℕ). part_ahead d j rest) (omega arith)
  part_passed (if_then p g q) d n rest =
      let m : ℕ = n + part_count p + 1 in
      part_passed p d n (fixed if_word ∷ guard_words g (fixed then_word ∷ part_words q (fixed endif_word ∷ rest)))
      ∙ (past_guard (d + 1) m g (part_words q (fixed endif_word ∷ rest))
      ∙ (part_passed q (d + 1) m (fixed endif_word ∷ rest)
      ∙ (endif_inside d (m + part_count q) rest ∙ ap (λ (j : ℕ). part_ahead d j rest) (omega arith))))
  part_passed (if_else p g q r) d n rest =
      let m : ℕ = n + part_count p + 1 in
      let last : List Token = part_words r (fixed endif_word ∷ rest) in
      part_passed p d n (fixed if_word ∷ guard_words g (fixed then_word ∷ part_words q (fixed else_word ∷ last)))
      ∙ (past_guard (d + 1) m g (part_words q (fixed else_word ∷ last))
      ∙ (part_passed q (d + 1) m (fixed else_word ∷ last)
      ∙ (else_inside d (m + part_count q) last
      ∙ (part_passed r (d + 1) (m + part_count q) (fixed endif_word ∷ rest)
      ∙ (endif_inside d (m + part_count q + part_count r) rest ∙ ap (λ (j : ℕ). part_ahead d j rest) (omega arith))))))

  -- the parts ahead of an if
  pub then_ahead : (g : Guard) (q : Part) (rest : List Token)
      → part_ahead 0 0 (guard_words g (fixed then_word ∷ part_words q (fixed endif_word ∷ rest))) ≡ record { size = part_count q; behind = fixed endif_word ∷ rest }
  unfolding part_ahead kind_of
  then_ahead g q rest =
      past_guard 0 0 g (part_words q (fixed endif_word ∷ rest))
      ∙ (part_passed q 0 0 (fixed endif_word ∷ rest) ∙ ap (λ (j : ℕ). record { size = j; behind = fixed endif_word ∷ rest }) (omega arith))

  pub else_ahead : (g : Guard) (q r : Part) (rest : List Token)
      → part_ahead 0 0 (guard_words g (fixed then_word ∷ part_words q (fixed else_word ∷ part_words r (fixed endif_word ∷ rest))))
      ≡ record { size = part_count q; behind = fixed else_word ∷ part_words r (fixed endif_word ∷ rest) }
  unfolding part_ahead kind_of
  else_ahead g q r rest =
      let last : List Token = fixed else_word ∷ part_words r (fixed endif_word ∷ rest) in
      past_guard 0 0 g (part_words q last) ∙ (part_passed q 0 0 last ∙ ap (λ (j : ℕ). record { size = j; behind = last }) (omega arith))

  pub else_sized : (r : Part) (rest : List Token) → else_size (fixed else_word ∷ part_words r (fixed endif_word ∷ rest)) ≡ part_count r
  unfolding else_size part_ahead kind_of
  else_sized r rest = ap (λ (p : PartAhead). p.size) (part_passed r 0 0 (fixed endif_word ∷ rest)) ∙ omega arith
