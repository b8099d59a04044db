-- Laws about the places of the bodies: the parts that they mark off are the bodies.
-- Assumes nothing.
use Prim.Native.Nat.{ℕ, ◌+◌, ◌-◌, ◌<◌}
use native.Mathlib.Omega.{arith}
use mathlib.Core.Path.{◌≡◌, refl, sym, ap, subst, ◌∙◌}
use mathlib.Core.Bool.{true}
use mathlib.Core.List.{List, [], ◌∷◌}
use lib.ListN.{length, take, drop}
use borrow.Author.Tests.{ne_eqb}
use Rattle.std.specs.Prelude.{Result, Ok, Err}
use Rattle.model.specs.Refusals.{number_of}
use Rattle.model.specs.declared.Refusal.{Refusal}
use Rattle.model.proofs.RefusalLaws.{not_zero}
use Rattle.sheet.specs.Contents.{start, size, body, length_right, contents_right, Bodies, bodies}
use Rattle.sheet.specs.Rules.{refusal_in, refusal}
use Rattle.sheet.specs.declared.judging.Places.{Places}
use Rattle.sheet.specs.Verdict.{places_of, place_numbers, refused_number, outcome, verdict, together, ShortBodies, Marked}
use Rattle.sheet.proofs.Contents.{next_start, last_end, counted}

-- the parts of a byte string that places mark off
abbrev pub cut : List ℕ → Places → Bodies
cut b p =
    together (take (p.states - p.classes) (drop p.classes b))
    (take (p.whens - p.states) (drop p.states b))
    (take (p.guards - p.whens) (drop p.whens b))
    (take (p.actions - p.guards) (drop p.guards b))
    (take (p.statements - p.actions) (drop p.actions b))
    (take (length b - p.statements) (drop p.statements b))

module _ (b : List ℕ) (h : contents_right b ≡ true) where
  part_body : (k : ℕ) → k < 5 → take (start b (k + 1) - start b k) (drop (start b k) b) ≡ body b k
  unfolding body
  part_body k l =
      let e : start b (k + 1) - start b k ≡ size b k = omega (arith, next_start b h k l) in
      ap (λ (n : ℕ). take n (drop (start b k) b)) e

  last_body : take (length b - start b 5) (drop (start b 5) b) ≡ body b 5
  unfolding body
  last_body =
      let e : length b - start b 5 ≡ size b 5 = omega (arith, last_end b h) in
      ap (λ (n : ℕ). take n (drop (start b 5) b)) e

  cut_bodies : cut b (places_of b) ≡ bodies b
  unfolding bodies
  cut_bodies = λ i.
      record {
        classes = part_body 0 (omega arith) i;
        states = part_body 1 (omega arith) i;
        whens = part_body 2 (omega arith) i;
        guards = part_body 3 (omega arith) i;
        actions = part_body 4 (omega arith) i;
        statements = last_body i;
      }

  bodies_short : let s = bodies b in ShortBodies s.classes s.states s.whens s.actions
  bodies_short =
      record {
        classes_short = omega (arith, (counted b h).classes_whole, (counted b h).classes_most);
        states_short = omega (arith, (counted b h).states_whole, (counted b h).states_most);
        whens_short = omega (arith, (counted b h).whens_whole, (counted b h).whens_most);
        actions_short = omega (arith, (counted b h).actions_whole, (counted b h).actions_most);
      }

  -- the places that the contents name, and the parts that they mark off
  pub marked : length_right b ≡ true → {p : Places} → p ≡ places_of b → Marked b p
  marked l {p} e = subst (λ (p : Places). Marked b p) (sym e) at
    where
      at : Marked b (places_of b)
      at =
          record {
            length_fits = l;
            contents_fit = h;
            places = refl;
            states = omega (arith, next_start b h 0 (omega arith));
            whens = omega (arith, next_start b h 1 (omega arith));
            guards = omega (arith, next_start b h 2 (omega arith));
            actions = omega (arith, next_start b h 3 (omega arith));
            statements = omega (arith, next_start b h 4 (omega arith));
            end = omega (arith, last_end b h);
          }

  module _ {p : Places} (e : p ≡ places_of b) where
    pub cut_right : cut b p ≡ bodies b
    cut_right = ap (cut b) e ∙ cut_bodies

    pub cut_short : let s = cut b p in ShortBodies s.classes s.states s.whens s.actions
    cut_short = subst (λ (s : Bodies). ShortBodies s.classes s.states s.whens s.actions) (sym cut_right) bodies_short

    -- the first rule that the parts break decides
    verdict_told : {n : ℕ} → length_right b ≡ true → n ≡ refusal_in (cut b p) → outcome n p ≡ verdict b
    unfolding verdict refusal
    verdict_told {n} r j =
        let f : verdict b ≡ outcome (refusal_in (bodies b)) (places_of b) = rw (r, h) in
        ap (λ (n : ℕ). outcome n p) (j ∙ ap refusal_in cut_right) ∙ ap (outcome (refusal_in (bodies b))) e ∙ sym f

    pub told_right : length_right b ≡ true → {r : Result (Unit {0}) Refusal} (x : Unit {0}) → r ≡ Ok x → refused_number r ≡ refusal_in (cut b p) → 0 ∷ place_numbers p ≡ verdict b
    told_right l x a j = verdict_told l (rw a at j)

    pub told_broken : length_right b ≡ true → {r : Result (Unit {0}) Refusal} (x : Refusal) → r ≡ Err x → refused_number r ≡ refusal_in (cut b p) → number_of x ∷ [] ≡ verdict b
    told_broken l x a j =
        let f : number_of x ∷ [] ≡ outcome (number_of x) p = rw (ne_eqb (number_of x) 0 (not_zero x)) in
        f ∙ verdict_told l (rw a at j)
