-- A part's statements stand one behind the other, those of an if's parts behind it: its tally is that of all of its records.
-- Assumes nothing.
use Prim.Native.Nat.{ℕ, zero, suc, ◌+◌, ◌*◌, ◌/◌, ◌<◌}
use native.Mathlib.Omega.{arith}
use mathlib.Core.Path.{◌≡◌, refl, sym, ◌∙◌, ap}
use mathlib.Core.Bool.{◌&&◌}
use mathlib.Core.List.{List, [], ◌∷◌, ◌++◌}
use mathlib.Core.Option.{Option, none, some}
use lib.Dec.{eqb}
use lib.ListN.{length, take, drop, length-append, length-take, length-drop, take-append-drop}
use lib.Seq.{take-add, drop-drop}
use borrow.Author.Tests.{eqb-true, le-ltb}
use Rattle.model.specs.Tree.{Guard, Statement, branch, Part, ◌then◌}
use Rattle.model.proofs.Words.{and_left, choose_case, maybe_case}
use Rattle.records.specs.Bytes.{byte, u16, records, record_at}
use Rattle.records.specs.GuardRecords.{got, guard_from}
use Rattle.records.proofs.GuardLaws.{read_case}
use Rattle.bodies.specs.StatementRecords.{do_right, move_right, then_length, else_length, part_length, if_from, statement_from, part_with, part_at}
use Rattle.bodies.specs.StatementReaders.{statement_record}
use Rattle.bodies.specs.declared.statements.StatementRecord.{StatementRecord}
use Rattle.bodies.proofs.Parts.{Of, of_some}
use Rattle.encoding.specs.Encoding.{guard_records, part_guards, statement_guards}
use Rattle.writings.specs.Missing.{part_named, statement_named}
use Rattle.missing.specs.Tallies.{nothing, joined, sum_of, guard_tally, place_tally, front_tally, statement_tally, part_tally}
use Rattle.missing.specs.declared.Tally.{Tally}
use Rattle.missing.proofs.TallyLaws.{same_tally, joined_nothing, nothing_joined, joined_assoc, sum_same, sum_front}

module _ (n m : ℕ) where
  -- of a statement with its parts
  unfoldable one_tally : Statement → Tally
  one_tally s = record { named = statement_named n m s; count = length (statement_guards s) }

  -- a part is its first statement and the rest, an if its guard and its two parts
  then_joined : (s : Statement) (p : Part) → part_tally n m (s then p) ≡ joined (one_tally s) (part_tally n m p)
  unfolding one_tally part_tally part_named part_guards
  then_joined s p = same_tally _ _ refl (length-append (statement_guards s) (part_guards p))

  branch_joined : (g : Guard) (a b : Part) → one_tally (branch g a b) ≡ joined (guard_tally n g) (joined (part_tally n m a) (part_tally n m b))
  unfolding one_tally part_tally guard_tally part_named part_guards
  branch_joined g a b =
      same_tally _ _ refl
      (let x = length-append (guard_records g) (part_guards a ++ part_guards b) in let y = length-append (part_guards a) (part_guards b) in omega arith)

  module _ (gs : List ℕ) where
    -- of a list of records
    unfoldable pub weigh : List (List ℕ) → Tally
    weigh [] = nothing
    weigh (r ∷ rs) = joined (statement_tally n m gs r) (weigh rs)

    -- two lists, one behind the other
    weigh_append : (rs ss : List (List ℕ)) → weigh (rs ++ ss) ≡ joined (weigh rs) (weigh ss)
    unfolding weigh
    weigh_append [] ss = sym (nothing_joined (weigh ss))
    weigh_append (r ∷ rs) ss = ap (joined (statement_tally n m gs r)) (weigh_append rs ss) ∙ sym (joined_assoc (statement_tally n m gs r) (weigh rs) (weigh ss))

    -- the first a + b of a list, in two parts
    pub weigh_take : (a b : ℕ) (rs : List (List ℕ)) → weigh (take (a + b) rs) ≡ joined (weigh (take a rs)) (weigh (take b (drop a rs)))
    weigh_take a b rs = ap weigh (take-add a b rs) ∙ weigh_append (take a rs) (take b (drop a rs))

    -- a statement that r and the records of its parts behind it stand for
    Told : List ℕ → List (List ℕ) → Statement → Type 0
    Told r rest s = one_tally s ≡ joined (statement_tally n m gs r) (weigh (take (part_length r) rest))

    -- that of a record with no parts
    alone : (r : List ℕ) (rest : List (List ℕ)) (s : Statement) → part_length r ≡ 0 → one_tally s ≡ statement_tally n m gs r → Told r rest s
    unfolding Told weigh
    alone r rest s z e = rw z (e ∙ sym (joined_nothing (statement_tally n m gs r)))

    -- a part that is known to be the one
    part_told : (part : List (List ℕ) → Option Part) → ((rs : List (List ℕ)) → Of (λ p. part_tally n m p ≡ weigh rs) (part rs)) → (rs : List (List ℕ)) (p : Part) → part rs ≡ some p → part_tally n m p ≡ weigh rs
    part_told part h rs p e = of_some (λ p. part_tally n m p ≡ weigh rs) (part rs) p e (h rs)

    -- an if's record tells of its guard
    if_tally : (r : List ℕ) → byte r 0 ≡ 2 → statement_tally n m gs r ≡ place_tally n gs (u16 r 2)
    unfolding statement_tally
    if_tally r z = rw z refl

    guard_here : (i k : ℕ) (g : Guard) → guard_from gs i ≡ got g k → place_tally n gs i ≡ guard_tally n g
    unfolding place_tally
    guard_here i k g x = rw x

    -- an if with its parts
    if_told : (part : List (List ℕ) → Option Part) → ((rs : List (List ℕ)) → Of (λ p. part_tally n m p ≡ weigh rs) (part rs)) → (r : List ℕ) (rest : List (List ℕ)) → byte r 0 ≡ 2
        → Of (Told r rest) (if_from gs part r rest)
    unfolding Told if_from
    if_told part h r rest z =
        let O = Of (Told r rest) in
        let t = then_length r in
        let e = else_length r in
        let both : part_length r ≡ t + e = rw z in
        read_case O (guard_from gs (u16 r 2)) _ _ (λ _. tt)
        (λ g k x. maybe_case O (part (take t rest)) _ _ (λ _. tt)
        (λ a y. maybe_case O (part (take e (drop t rest))) _ _ (λ _. tt)
        (λ b w.
        branch_joined g a b
        ∙ ap (λ (s : Tally). joined (guard_tally n g) (joined s (part_tally n m b))) (part_told part h (take t rest) a y)
        ∙ ap (λ (s : Tally). joined (guard_tally n g) (joined (weigh (take t rest)) s)) (part_told part h (take e (drop t rest)) b w)
        ∙ ap (joined (guard_tally n g)) (sym (weigh_take t e rest))
        ∙ ap (λ (s : Tally). joined s (weigh (take (t + e) rest))) (sym (if_tally r z ∙ guard_here (u16 r 2) k g x))
        ∙ ap (λ (l : ℕ). joined (statement_tally n m gs r) (weigh (take l rest))) (sym both))))

    -- a statement by its kind
    statement_told : (K S : ℕ) (part : List (List ℕ) → Option Part) → ((rs : List (List ℕ)) → Of (λ p. part_tally n m p ≡ weigh rs) (part rs)) → (r : List ℕ) (rest : List (List ℕ))
        → Of (Told r rest) (statement_from K S gs part r rest)
    unfolding statement_from one_tally statement_tally statement_named statement_guards
    statement_told K S part h r rest =
        let O = Of (Told r rest) in
        choose_case O (eqb (byte r 0) 0) _ _
        (λ e. let z = eqb-true (byte r 0) 0 e in choose_case O (do_right K r) _ _ (λ _. alone r rest _ (rw z) (rw z)) (λ _. tt))
        (λ _. choose_case O (eqb (byte r 0) 1) _ _
        (λ e. let z = eqb-true (byte r 0) 1 e in choose_case O (move_right S r) _ _ (λ _. alone r rest _ (rw z) (rw z)) (λ _. tt))
        (λ _. choose_case O (eqb (byte r 0) 2 && eqb (byte r 1) 0) _ _
        (λ e. if_told part h r rest (eqb-true (byte r 0) 2 (and_left (eqb (byte r 0) 2) (eqb (byte r 1) 0) e))) (λ _. tt)))

    -- a part of what the first k records leave of a list
    left_told : (statement : List ℕ → List (List ℕ) → Option Statement) → ((r : List ℕ) (rest : List (List ℕ)) → Of (Told r rest) (statement r rest))
        → (k : ℕ) (rs : List (List ℕ)) → Of (λ p. part_tally n m p ≡ weigh (drop k rs)) (part_with statement k rs)
    unfolding part_with weigh Told part_tally part_named part_guards
    left_told statement h zero [] = refl
    left_told statement h (suc k) [] = tt
    left_told statement h (suc k) (r ∷ rest) = left_told statement h k rest
    left_told statement h zero (r ∷ rest) =
        let k = part_length r in
        let O = Of (λ p. part_tally n m p ≡ weigh (r ∷ rest)) in
        let w = left_told statement h k rest in
        maybe_case O (statement r rest) _ _ (λ _. tt)
        (λ s e. maybe_case O (part_with statement k rest) _ _ (λ _. tt)
        (λ p f.
        then_joined s p
        ∙ ap (λ (t : Tally). joined t (part_tally n m p)) (of_some (Told r rest) (statement r rest) s e (h r rest))
        ∙ ap (joined (joined (statement_tally n m gs r) (weigh (take k rest)))) (of_some (λ p. part_tally n m p ≡ weigh (drop k rest)) (part_with statement k rest) p f w)
        ∙ joined_assoc (statement_tally n m gs r) (weigh (take k rest)) (weigh (drop k rest))
        ∙ ap (joined (statement_tally n m gs r)) (sym (weigh_append (take k rest) (drop k rest)) ∙ ap weigh (take-append-drop k rest))))

    -- so every part that is read
    every_told : (d K S : ℕ) (rs : List (List ℕ)) → Of (λ p. part_tally n m p ≡ weigh rs) (part_at d K S gs rs)
    unfolding part_at
    every_told zero K S rs = left_told (statement_from K S gs (λ _. none)) (statement_told K S (λ _. none) (λ _. tt)) 0 rs
    every_told (suc d) K S rs = left_told (statement_from K S gs (part_at d K S gs)) (statement_told K S (part_at d K S gs) (every_told d K S)) 0 rs

    pub part_weighed : (d K S : ℕ) (rs : List (List ℕ)) (p : Part) → part_at d K S gs rs ≡ some p → part_tally n m p ≡ weigh rs
    part_weighed d K S rs p e = part_told (part_at d K S gs) (every_told d K S) rs p e

    -- all records of a byte string
    pub weigh_records : (k : ℕ) (b : List ℕ) → weigh (records k b) ≡ sum_of k (λ i. statement_tally n m gs (record_at b i))
    unfolding weigh records sum_of record_at
    weigh_records zero b = refl
    weigh_records (suc k) b =
        ap (joined (statement_tally n m gs (take 8 b))) (weigh_records k (drop 8 b)
        ∙ sum_same k (λ i. statement_tally n m gs (take 8 (drop (i * 8) (drop 8 b)))) (λ i. statement_tally n m gs (take 8 (drop (suc i * 8) b)))
        (λ i _. ap (λ (x : List ℕ). statement_tally n m gs (take 8 x)) (drop-drop (i * 8) 8 b ∙ ap (λ (j : ℕ). drop j b) (let z : 8 + i * 8 ≡ suc i * 8 = omega arith in z))))
        ∙ sym (sum_front k (λ i. statement_tally n m gs (take 8 (drop (i * 8) b))))

    -- a record of 8 bytes by what the reader says that it is
    pub front_told : (r : List ℕ) → length r ≡ 8 → {x : StatementRecord} → x ≡ statement_record r → front_tally n m gs x ≡ statement_tally n m gs r
    unfolding statement_tally statement_record
    front_told r l e = ap (front_tally n m gs) e ∙ rw (le-ltb (length r) 8 (omega arith))

-- a record that stands inside has 8 bytes
pub record_long : (b r : List ℕ) (i : ℕ) → i < length b / 8 → r ≡ record_at b i → length r ≡ 8
unfolding record_at
record_long b r i l e = ap length e ∙ (let x = length-take 8 (drop (i * 8) b) in let y = length-drop (i * 8) b in omega arith)
