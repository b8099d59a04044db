-- What holds of whatever part is read of statement records: it leads only to own states, and has no more statements than there are records.
-- Assumes nothing.
use Prim.Native.Nat.{ℕ, zero, suc, ◌+◌, ◌≤◌}
use native.Mathlib.Omega.{arith}
use mathlib.Core.Path.{◌≡◌, refl, subst}
use mathlib.Core.Bool.{true, ◌&&◌}
use mathlib.Core.List.{List, [], ◌∷◌}
use mathlib.Core.Option.{Option, none, some}
use lib.Dec.{eqb, ltb}
use lib.ListN.{length, take, drop, length-take, length-drop}
use Rattle.model.specs.Tree.{Guard, Statement, send, go_to, branch, Part, end, ◌then◌}
use Rattle.model.specs.Sound.{statement_within, part_within}
use Rattle.model.proofs.Words.{and_left, and_both}
use Rattle.model.proofs.RunLaws.{one_size, part_size}
use Rattle.records.specs.Bytes.{byte, u16, u32, records}
use Rattle.records.specs.GuardRecords.{pattern_of, got, guard_from}
use Rattle.bodies.specs.StatementRecords.{do_right, move_right, then_length, else_length, part_length, if_from, statement_from, part_with, part_at}
use Rattle.bodies.specs.Clauses.{statement_count, first_statement, statements_of, body_of}
use Rattle.records.specs.Bytes.{in_eights}
use Rattle.records.proofs.Bytes.{length_records}
use Rattle.model.proofs.Words.{choose_case, maybe_case}
use Rattle.records.proofs.GuardLaws.{read_case}

-- what holds of a value, if there is one
abbrev pub Of {ℓ} : {A : Type ℓ} → (A → Type 0) → Option A → Type 0
Of P none = Unit {0}
Of P (some a) = P a

-- so of the value that is known to be the one
pub of_some {ℓ} : {A : Type ℓ} (P : A → Type 0) (o : Option A) (a : A) → o ≡ some a → Of P o → P a
of_some P o a e w = subst (Of P) e w

-- P d n says something of a part, and Q d n of a statement, that n records stand for, with ifs at most d deep; K and S are the numbers of child
-- classes and of own states, gs the guard records
module _ (K S : ℕ) (gs : List ℕ) (P : ℕ → ℕ → Part → Type 0) (Q : ℕ → ℕ → Statement → Type 0)
    (more : (d m n : ℕ) (p : Part) → m ≤ n → P d m p → P d n p)
    (do_is : (d n : ℕ) (r : List ℕ) → do_right K r ≡ true → Q d (suc n) (send (byte r 1) (pattern_of (byte r 2))))
    (move_is : (d n t : ℕ) → ltb t S ≡ true → Q d (suc n) (go_to t))
    (if_is : (d m n i e : ℕ) (g : Guard) (a b : Part) → guard_from gs i ≡ got g e → P d m a → P d n b → Q (suc d) (suc (m + n)) (branch g a b))
    (end_is : (d : ℕ) → P d 0 end)
    (then_is : (d m n : ℕ) (s : Statement) (p : Part) → Q d m s → P d n p → P d (m + n) (s then p)) where
  -- an if with its parts
  abbrev IfRead : ℕ → (List (List ℕ) → Option Part) → Type 0
  IfRead d part = (r : List ℕ) (rest : List (List ℕ)) → Of (Q d (suc (then_length r + else_length r))) (if_from gs part r rest)

  if_read : (d : ℕ) (part : List (List ℕ) → Option Part) → ((rs : List (List ℕ)) → Of (P d (length rs)) (part rs)) → IfRead (suc d) part
  unfolding if_from
  if_read d part h r rest =
      let O = Of (Q (suc d) (suc (then_length r + else_length r))) in
      let first = take (then_length r) rest in
      let second = take (else_length r) (drop (then_length r) rest) in
      read_case O (guard_from gs (u16 r 2)) _ _ (λ _. tt)
      (λ g z w. maybe_case O (part first) _ _ (λ _. tt)
      (λ a e. maybe_case O (part second) _ _ (λ _. tt)
      (λ b f.
      if_is d (then_length r) (else_length r) (u16 r 2) z g a b w
      (more d (length first) (then_length r) a (omega (arith, length-take (then_length r) rest)) (of_some (P d (length first)) (part first) a e (h first)))
      (more d (length second) (else_length r) b (omega (arith, length-take (else_length r) (drop (then_length r) rest))) (of_some (P d (length second)) (part second) b f (h second))))))

  -- at depth 0 there is none
  no_if_read : IfRead 0 (λ _. none)
  unfolding if_from
  no_if_read r rest = read_case (Of (Q 0 (suc (then_length r + else_length r)))) (guard_from gs (u16 r 2)) _ _ (λ _. tt) (λ g e h. tt)

  -- a statement by its kind
  statement_read : (d : ℕ) (part : List (List ℕ) → Option Part) → IfRead d part → (r : List ℕ) (rest : List (List ℕ)) → Of (Q d (suc (part_length r))) (statement_from K S gs part r rest)
  unfolding statement_from
  statement_read d part h r rest =
      let O = Of (Q d (suc (part_length r))) in
      choose_case O (eqb (byte r 0) 0) _ _
      (λ _. choose_case O (do_right K r) _ _ (do_is d (part_length r) r) (λ _. tt))
      (λ _. choose_case O (eqb (byte r 0) 1) _ _
      (λ _. choose_case O (move_right S r) _ _ (λ m. move_is d (part_length r) (byte r 1) (and_left (ltb (byte r 1) S) (eqb (u16 r 2) 0 && eqb (u32 r 4) 0) m)) (λ _. tt))
      (λ _. choose_case O (eqb (byte r 0) 2 && eqb (byte r 1) 0) _ _
      (λ e. rw (and_left (eqb (byte r 0) 2) (eqb (byte r 1) 0) e) (h r rest)) (λ _. tt)))

  -- a part of what the first n records leave of a list
  Left : ℕ → ℕ → ℕ → Part → Type 0
  Left d n size p = (k : ℕ) × (k + n ≤ size) × P d k p

  left_more : (d n size : ℕ) (o : Option Part) → Of (Left d n size) o → Of (Left d (suc n) (suc size)) o
  unfolding Left
  left_more d n size none w = tt
  left_more d n size (some p) (k, l, h) = (k, (omega arith), h)

  part_read : (d : ℕ) (statement : List ℕ → List (List ℕ) → Option Statement) → ((r : List ℕ) (rest : List (List ℕ)) → Of (Q d (suc (part_length r))) (statement r rest))
      → (n : ℕ) (rs : List (List ℕ)) → Of (Left d n (length rs)) (part_with statement n rs)
  unfolding part_with Left
  part_read d statement h zero [] = (0, (omega arith), end_is d)
  part_read d statement h (suc n) [] = tt
  part_read d statement h (suc n) (r ∷ rest) = left_more d n (length rest) (part_with statement n rest) (part_read d statement h n rest)
  part_read d statement h zero (r ∷ rest) =
      let n = part_length r in
      let O = Of (Left d 0 (suc (length rest))) in
      let w = part_read d statement h n rest in
      maybe_case O (statement r rest) _ _ (λ _. tt)
      (λ s e. maybe_case O (part_with statement n rest) _ _ (λ _. tt)
      (λ p f.
      let (k, l, q) = of_some (Left d n (length rest)) (part_with statement n rest) p f w in
      (suc n + k, (omega arith), then_is d (suc n) k s p (of_some (Q d (suc n)) (statement r rest) s e (h r rest)) q)))

  left_all : (d size : ℕ) (o : Option Part) → Of (Left d 0 size) o → Of (P d size) o
  unfolding Left
  left_all d size none w = tt
  left_all d size (some p) (k, l, h) = more d k size p (omega arith) h

  -- so of every part, at any depth
  pub every_part : (d : ℕ) (rs : List (List ℕ)) → Of (P d (length rs)) (part_at d K S gs rs)
  unfolding part_at
  every_part zero rs = left_all 0 (length rs) (part_at zero K S gs rs) (part_read 0 (statement_from K S gs (λ _. none)) (statement_read 0 (λ _. none) no_if_read) 0 rs)
  every_part (suc d) rs = left_all (suc d) (length rs) (part_at (suc d) K S gs rs) (part_read (suc d) (statement_from K S gs (part_at d K S gs)) (statement_read (suc d) (part_at d K S gs) (if_read d (part_at d K S gs) (every_part d))) 0 rs)

-- whatever part is read leads only to states below S
abbrev pub PartWithin : ℕ → Option Part → Type 0
PartWithin S = Of (λ p. part_within p S ≡ true)

pub part_at_within : (d K S : ℕ) (gs : List ℕ) (rs : List (List ℕ)) → PartWithin S (part_at d K S gs rs)
unfolding statement_within part_within
part_at_within d K S gs rs =
    every_part K S gs (λ _ _ p. part_within p S ≡ true) (λ _ _ s. statement_within s S ≡ true)
    (λ d m n p l h. h)
    (λ d n r h. refl)
    (λ d n t l. l)
    (λ d m n i e g a b r h k. and_both (part_within a S) (part_within b S) h k)
    (λ d. refl)
    (λ d m n s p h k. and_both (statement_within s S) (part_within p S) h k)
    d
    rs

-- and has no more statements than there are records
part_at_sized : (d K S : ℕ) (gs : List ℕ) (rs : List (List ℕ)) → Of (λ p. part_size p ≤ length rs) (part_at d K S gs rs)
unfolding one_size part_size
part_at_sized d K S gs rs =
    every_part K S gs (λ _ n p. part_size p ≤ n) (λ _ n s. one_size s ≤ n)
    (λ d m n p l h. omega arith)
    (λ d n r h. omega arith)
    (λ d n t l. omega arith)
    (λ d m n i e g a b r h k. omega arith)
    (λ d. omega arith)
    (λ d m n s p h k. omega arith)
    d
    rs

-- so an action clause has no more than the body of statements has records
pub body_sized : (K S : ℕ) (gs actions statements : List ℕ) (a : ℕ) (p : Part) → body_of K S gs actions statements a ≡ some p → part_size p ≤ in_eights statements
unfolding body_of statements_of
body_sized K S gs actions statements a p e =
    let rs = statements_of actions statements a in
    let all = records (in_eights statements) statements in
    let h = of_some (λ p. part_size p ≤ length rs) (part_at 8 K S gs rs) p e (part_at_sized 8 K S gs rs) in
    omega (arith, length-take (statement_count actions a) (drop (first_statement actions a) all), length-drop (first_statement actions a) all, length_records (in_eights statements) statements)

-- nor more than its own record counts
pub body_counted : (K S : ℕ) (gs actions statements : List ℕ) (a : ℕ) (p : Part) → body_of K S gs actions statements a ≡ some p → part_size p ≤ statement_count actions a
unfolding body_of statements_of
body_counted K S gs actions statements a p e =
    let rs = statements_of actions statements a in
    let h = of_some (λ p. part_size p ≤ length rs) (part_at 8 K S gs rs) p e (part_at_sized 8 K S gs rs) in
    omega (arith, length-take (statement_count actions a) (drop (first_statement actions a) (records (in_eights statements) statements)))
