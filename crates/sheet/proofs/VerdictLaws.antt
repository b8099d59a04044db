-- What the judge's answer says, and that its promise leaves one answer.
-- Assumes nothing.
use Prim.Native.Nat.{ℕ, zero, suc, ◌<◌, ◌≤◌}
use native.Mathlib.Omega.{arith}
use mathlib.Core.Path.{◌≡◌, refl, sym, ap, ◌∙◌}
use mathlib.Core.Bool.{Bool, true, false}
use mathlib.Core.List.{List, [], ◌∷◌}
use borrow.Author.Tests.{ne_eqb}
use Rattle.std.specs.Prelude.{Ok, Err}
use Rattle.model.specs.Refusals.{number_of}
use Rattle.model.proofs.Words.{clash}
use Rattle.model.proofs.RefusalLaws.{same_number}
use Rattle.model.specs.declared.Refusal.{Refusal}
use Rattle.sheet.specs.Contents.{length_right, contents_right, bodies}
use Rattle.records.specs.Bytes.{in_fours, in_eights}
use Rattle.sheet.specs.Rules.{checked, refusal_in, refusal}
use Rattle.bodies.specs.BodyRules.{classes_right, counts_right, records_right, guards_right, targets_right, actions_right, statements_right}
use Rattle.sheet.specs.declared.judging.Places.{Places}
use Rattle.sheet.specs.Verdict.{Verdict, places_of, place_numbers, verdict_numbers, outcome, verdict}

-- the answer's numbers tell the answer
same_places : (p q : Places) → place_numbers p ≡ place_numbers q → p ≡ q
same_places p q e =
    let a : p.classes ≡ q.classes = cc in
    let b : p.states ≡ q.states = cc in
    let c : p.whens ≡ q.whens = cc in
    let d : p.guards ≡ q.guards = cc in
    let f : p.actions ≡ q.actions = cc in
    let g : p.statements ≡ q.statements = cc in
    λ i. record { classes = a i; states = b i; whens = c i; guards = d i; actions = f i; statements = g i }

same_answer : (r s : Verdict) → verdict_numbers r ≡ verdict_numbers s → r ≡ s
same_answer (Ok p) (Ok q) e = ap Ok (same_places p q (cc))
same_answer (Ok p) (Err y) e = absurd (clash (cc))
same_answer (Err x) (Ok q) e = absurd (clash (cc))
same_answer (Err x) (Err y) e = ap Err (same_number x y (cc))

-- the judge's promise leaves one answer
pub one_verdict : (b : List ℕ) (r s : Verdict) → verdict_numbers r ≡ verdict b → verdict_numbers s ≡ verdict b → r ≡ s
one_verdict b r s e f = same_answer r s (e ∙ sym f)

-- what acceptance and refusal say
verdict_accepted : (n : ℕ) (p q : Places) → 0 ∷ place_numbers p ≡ outcome n q → (n ≡ 0) × (p ≡ q)
verdict_accepted zero p q e = (refl, same_places p q (cc))
verdict_accepted (suc n) p q e = let f : 0 ∷ place_numbers p ≡ suc n ∷ [] = rw (ne_eqb (suc n) 0 (λ z. omega arith)) at e in absurd (clash (cc))

verdict_refused : (n : ℕ) (x : Refusal) (q : Places) → number_of x ∷ [] ≡ outcome n q → (number_of x ≡ n) × (0 < n)
verdict_refused zero x q e = absurd (clash (cc))
verdict_refused (suc n) x q e = let f : number_of x ∷ [] ≡ suc n ∷ [] = rw (ne_eqb (suc n) 0 (λ z. omega arith)) at e in (cc, (omega arith))

-- a refusal number is at most 9
checked_most : (ok : Bool) (n : ℕ) (rest : Unit {0} → ℕ) → n ≤ 9 → rest tt ≤ 9 → checked ok n rest ≤ 9
checked_most true n rest l m = m
checked_most false n rest l m = l

pub refusal_most : (b : List ℕ) → refusal b ≤ 9
unfolding refusal refusal_in
refusal_most b =
    checked_most (length_right b) 1 _ (omega arith)
    (checked_most (contents_right b) 2 _ (omega arith)
    (let s = bodies b in
    checked_most (classes_right s.classes) 3 _ (omega arith)
    (checked_most (counts_right s.states (in_fours s.whens) (in_fours s.actions)) 4 _ (omega arith)
    (checked_most (records_right (in_fours s.classes) s.guards) 5 _ (omega arith)
    (checked_most (guards_right s.guards s.whens) 6 _ (omega arith)
    (checked_most (targets_right s.states s.whens) 7 _ (omega arith)
    (checked_most (actions_right s.states s.actions (in_eights s.statements)) 8 _ (omega arith)
    (checked_most (statements_right (in_fours s.classes) (in_fours s.states) s.guards s.actions s.statements) 9 _ (omega arith) (omega arith)))))))))

module _ (b : List ℕ) (r : Verdict) (e : verdict_numbers r ≡ verdict b) where
  -- an accepted sheet keeps the rules, and its places are those that its contents name
  pub told_accepted : (p : Places) → r ≡ Ok p → (refusal b ≡ 0) × (p ≡ places_of b)
  unfolding verdict
  told_accepted p a = verdict_accepted (refusal b) p (places_of b) (rw a at e)

  -- a refused one gets the number of the first rule that it breaks
  pub told_refused : (x : Refusal) → r ≡ Err x → (number_of x ≡ refusal b) × (1 ≤ number_of x) × (number_of x ≤ 9)
  unfolding verdict
  told_refused x a =
      let (f, l) = verdict_refused (refusal b) x (places_of b) (rw a at e) in
      (f, (omega arith), (omega (arith, refusal_most b)))
