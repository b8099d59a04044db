-- The statement records of a part, read back.
-- Assumes nothing.
use Prim.Native.Nat.{ℕ, zero, suc, ◌+◌, ◌≤◌}
use native.Mathlib.Omega.{arith}
use mathlib.Core.Path.{◌≡◌, refl, sym, ◌∙◌, ap}
use mathlib.Core.Bool.{true, or-true}
use mathlib.Core.List.{List, [], ◌∷◌, ◌++◌, map, append_assoc}
use mathlib.Core.Option.{Option, none, some}
use lib.ListN.{length, take, drop, length-append}
use lib.Seq.{take_at, drop_at}
use borrow.Author.Tests.{lt-ltb, le-leb}
use Rattle.model.specs.Words.{maybe}
use Rattle.model.specs.Tree.{Pattern, everyone, of_class, Guard, Statement, send, go_to, branch, Part, end, ◌then◌}
use Rattle.records.specs.Bytes.{u16}
use Rattle.records.specs.GuardRecords.{got, guard_from, pattern_right}
use Rattle.bodies.specs.StatementRecords.{then_length, else_length, part_length, if_from, statement_from, part_with, part_at}
use Rattle.bodies.specs.PartChecks.{parts_of}
use Rattle.encoding.specs.Records.{Eight, bytes8, eights}
use Rattle.encoding.specs.Encoding.{pattern_number, guard_records, part_guards, statement_guards, part_records, own_record, inner_records}
use Rattle.encoding.specs.Limits.{part_depth, statement_depth, part_guards_of, statement_guards_of}
use Rattle.encoding.specs.Numbers.{Every, PatternNumbers, GuardNumbers, PartNumbers, StatementNumbers}
use Rattle.encoding.proofs.From.{From, next, regroup, again16}
use Rattle.encoding.proofs.All.{every_first, every_second}
use Rattle.encoding.proofs.ReadGuards.{pattern_again, guard_same}
use Rattle.encoding.proofs.Inside.{Shallow}

abbrev pub lists : List Eight → List (List ℕ)
lists rs = map (λ r. bytes8 r []) rs

pub lists_append : (xs ys : List Eight) → lists (xs ++ ys) ≡ lists xs ++ lists ys
lists_append [] ys = refl
lists_append (x ∷ xs) ys = ap (λ (l : List (List ℕ)). bytes8 x [] ∷ l) (lists_append xs ys)

pub length_lists : (xs : List Eight) → length (lists xs) ≡ length xs
length_lists [] = refl
length_lists (x ∷ xs) = ap suc (length_lists xs)

pub pattern_fits : (p : Pattern) (K : ℕ) → PatternNumbers p K → pattern_right K (pattern_number p) ≡ true
pattern_fits everyone K w = rw or-true
pattern_fits (of_class c) K w = rw (lt-ltb c K w)

-- the records of an if before are passed over
skip : (read : List ℕ → List (List ℕ) → Option Statement) (xs ys : List (List ℕ)) (n : ℕ) → n ≡ length xs → part_with read n (xs ++ ys) ≡ part_with read 0 ys
unfolding part_with
skip read [] ys zero e = refl
skip read [] ys (suc n) e = absurd (omega arith)
skip read (x ∷ xs) ys zero e = absurd (omega arith)
skip read (x ∷ xs) ys (suc n) e = skip read xs ys n (omega arith)

both_there : (o : Option Statement) (q : Option Part) (s : Statement) (p : Part) → o ≡ some s → q ≡ some p
    → maybe o (λ _. none) (λ s. maybe q (λ _. none) (λ p. some (s then p))) ≡ some (s then p)
both_there o q s p e f = rw (e, f)

step : (read : List ℕ → List (List ℕ) → Option Statement) (r : List ℕ) (xs ys : List (List ℕ)) (s : Statement) (p : Part)
    → read r (xs ++ ys) ≡ some s → part_length r ≡ length xs → part_with read 0 ys ≡ some p → part_with read 0 (r ∷ (xs ++ ys)) ≡ some (s then p)
unfolding part_with
step read r xs ys s p e l f = both_there (read r (xs ++ ys)) (part_with read (part_length r) (xs ++ ys)) s p e (skip read xs ys (part_length r) l ∙ f)

if_read : (gs : List ℕ) (part : List (List ℕ) → Option Part) (r : List ℕ) (n m : ℕ) (xs ys rest : List (List ℕ)) (g : Guard) (a b : Part)
    → u16 r 2 ≡ n → then_length r ≡ length xs → else_length r ≡ length ys
    → guard_from gs n ≡ got g m → part xs ≡ some a → part ys ≡ some b → if_from gs part r (xs ++ (ys ++ rest)) ≡ some (branch g a b)
unfolding if_from
if_read gs part r n m xs ys rest g a b e t u eg ea eb =
    let e1 : take (then_length r) (xs ++ (ys ++ rest)) ≡ xs = take_at xs (ys ++ rest) (then_length r) (sym t) in
    let e2 : drop (then_length r) (xs ++ (ys ++ rest)) ≡ ys ++ rest = drop_at xs (ys ++ rest) (then_length r) (sym t) in
    let e3 : take (else_length r) (ys ++ rest) ≡ ys = take_at ys rest (else_length r) (sym u) in
    rw (e, eg) (rw (e1, ea) (rw (e2, e3, eb)))

module _ (K S : ℕ) (few : K ≤ 8) (rs : List Eight) where
  at_depth : (d : ℕ) (xs : List (List ℕ)) → part_at d K S (eights rs) xs ≡ part_with (statement_from K S (eights rs) (parts_of d K S (eights rs))) 0 xs
  unfolding part_at parts_of
  at_depth zero xs = refl
  at_depth (suc d) xs = refl

  inner_length : (s : Statement) (n : ℕ) → part_length (bytes8 (own_record s n) []) ≡ length (lists (inner_records s n))
  unfolding own_record inner_records part_records
  inner_length (send c p) n = refl
  inner_length (go_to q) n = refl
  inner_length (branch g a b) n =
      let m : ℕ = n + length (guard_records g) in
      let A = part_records a m in
      let B = part_records b (m + length (part_guards a)) in
      omega (arith, again16 (length A), again16 (length B), length-append A B, length_lists (A ++ B))

  pub guard_back : (g : Guard) (n : ℕ) (more : List Eight) → Shallow g → GuardNumbers g K → From rs n (guard_records g ++ more)
      → guard_from (eights rs) n ≡ got g (n + length (guard_records g))
  unfolding guard_from
  guard_back g n more v w f = guard_same rs g K 16 n more (omega arith) w v f

  mutual
    unfolding part_guards part_records part_depth part_guards_of PartNumbers part_with statement_from parts_of

    pub part_read : (p : Part) (d n : ℕ) (more : List Eight) → part_depth p ≤ d → PartNumbers p K S → Every Shallow (part_guards_of p) → From rs n (part_guards p ++ more)
        → part_at d K S (eights rs) (lists (part_records p n)) ≡ some p
    part_read end d n more l w v f = at_depth d []
    part_read (s then p) d n more l w v f =
        let f1 = regroup rs n (statement_guards s) (part_guards p) more f in
        let m : ℕ = n + length (statement_guards s) in
        let e : lists (part_records (s then p) n) ≡ bytes8 (own_record s n) [] ∷ (lists (inner_records s n) ++ lists (part_records p m)) =
        ap (λ (l : List (List ℕ)). bytes8 (own_record s n) [] ∷ l) (lists_append (inner_records s n) (part_records p m)) in
        at_depth d (lists (part_records (s then p) n))
        ∙ ap (part_with (statement_from K S (eights rs) (parts_of d K S (eights rs))) 0) e
        ∙ step (statement_from K S (eights rs) (parts_of d K S (eights rs))) (bytes8 (own_record s n) []) (lists (inner_records s n)) (lists (part_records p m)) s p
        (statement_read s d n (part_guards p ++ more) (lists (part_records p m)) (omega arith) w.0 (every_first Shallow (statement_guards_of s) (part_guards_of p) v) f1)
        (inner_length s n)
        (sym (at_depth d (lists (part_records p m))) ∙ part_read p d m more (omega arith) w.1 (every_second Shallow (statement_guards_of s) (part_guards_of p) v) (next rs n (statement_guards s) (part_guards p ++ more) f1))

    statement_read : (s : Statement) (d n : ℕ) (more : List Eight) (rest : List (List ℕ)) → statement_depth s ≤ d → StatementNumbers s K S → Every Shallow (statement_guards_of s) → From rs n (statement_guards s ++ more)
        → statement_from K S (eights rs) (parts_of d K S (eights rs)) (bytes8 (own_record s n) []) (lists (inner_records s n) ++ rest) ≡ some s
    statement_read (send c p) d n more rest l w v f = rw (le-leb c 63 w.0, pattern_fits p K w.1) (rw (pattern_again p K (omega arith) w.1))
    statement_read (go_to q) d n more rest l w v f = rw (lt-ltb q S w)
    statement_read (branch g a b) zero n more rest l w v f = absurd (omega arith)
    statement_read (branch g a b) (suc d) n more rest l w v f =
        let m : ℕ = n + length (guard_records g) in
        let k : ℕ = m + length (part_guards a) in
        let A = part_records a m in
        let B = part_records b k in
        let f1 = regroup rs n (guard_records g) (part_guards a ++ part_guards b) more f in
        let f2 = regroup rs m (part_guards a) (part_guards b) more (next rs n (guard_records g) (part_guards a ++ part_guards b ++ more) f1) in
        let e : lists (A ++ B) ++ rest ≡ lists A ++ (lists B ++ rest) = ap (λ (l : List (List ℕ)). l ++ rest) (lists_append A B) ∙ append_assoc (lists A) (lists B) rest in
        ap (if_from (eights rs) (part_at d K S (eights rs)) (bytes8 (own_record (branch g a b) n) [])) e
        ∙ if_read (eights rs) (part_at d K S (eights rs)) (bytes8 (own_record (branch g a b) n) []) n m (lists A) (lists B) rest g a b
        (again16 n) (again16 (length A) ∙ sym (length_lists A)) (again16 (length B) ∙ sym (length_lists B))
        (guard_back g n (part_guards a ++ part_guards b ++ more) v.0 w.0 f1)
        (part_read a d m (part_guards b ++ more) (omega arith) w.1 (every_first Shallow (part_guards_of a) (part_guards_of b) v.1) f2)
        (part_read b d k more (omega arith) w.2 (every_second Shallow (part_guards_of a) (part_guards_of b) v.1) (next rs m (part_guards a) (part_guards b ++ more) f2))
