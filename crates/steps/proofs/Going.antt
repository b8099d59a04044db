-- Laws for the code that goes from word to word.
-- Assumes nothing.
use Prim.Native.Nat.{ℕ, zero, suc, ◌+◌, ◌-◌}
use mathlib.Core.Path.{◌≡◌, refl, sym, ◌∙◌, ap, subst}
use native.Mathlib.Omega.{arith}
use mathlib.Core.Bool.{Bool, true, false}
use lib.Dec.{eqb}
use borrow.Author.Tests.{eq-eqb, ne_eqb}
use Rattle.grammar.proofs.Machine.{clash}
use Rattle.std.specs.Prelude.{Option, Some, None}
use Rattle.steps.specs.declared.Want.{Want}
use Rattle.steps.specs.declared.Want.TheVariants.{OperandRead, Statements, MoveRead, DoRead, StayRead}
use Rattle.steps.specs.declared.Open.{Open}
use Rattle.steps.specs.Turns.{action_turns, closing_turns, ending_turns, turns}
use Rattle.steps.specs.Going.{first_of, going}
use Rattle.steps.specs.Opening.{counted, nested_after, open_after}

pub on_hit : (k j : ℕ) (w : Want) (g : Option Want) → k ≡ j → Some w ≡ first_of (eqb k j) w g
unfolding first_of
on_hit k j w g e = rw (eq-eqb k j e)

pub on_miss : (k j : ℕ) (w : Want) (g : Option Want) → (k ≡ j → ⊥) → g ≡ first_of (eqb k j) w g
unfolding first_of
on_miss k j w g e = rw (ne_eqb k j e)

-- one more word that can stand
pub link : (x : Bool) (w : Want) (g f r : Option Want) → r ≡ first_of x w g → g ≡ f → r ≡ first_of x w f
link x w g f r e p = e ∙ ap (first_of x w) p

pub close_bracket : (r : Option Want) (k n : ℕ) (i : Bool) → (n ≡ 0 → ⊥) → r ≡ first_of (eqb k 22) OperandRead None → r ≡ going (closing_turns n i) k
unfolding closing_turns going
close_bracket r k zero i h e = absurd (h refl)
close_bracket r k (suc n) i h e = e

pub close_if : (r : Option Want) (k n : ℕ) (i : Bool) → n ≡ 0 → i ≡ true → r ≡ first_of (eqb k 12) Statements None → r ≡ going (closing_turns n i) k
unfolding closing_turns going
close_if r k zero true h f e = e
close_if r k zero false h f e = absurd (clash (cc))
close_if r k (suc n) i h f e = absurd (omega arith)

pub close_when : (r : Option Want) (k n : ℕ) (i : Bool) → n ≡ 0 → i ≡ false
    → r ≡ first_of (eqb k 8) MoveRead (first_of (eqb k 9) DoRead (first_of (eqb k 10) StayRead None)) → r ≡ going (closing_turns n i) k
unfolding closing_turns going
close_when r k zero false h f e = e
close_when r k zero true h f e = absurd (clash (cc))
close_when r k (suc n) i h f e = absurd (omega arith)

pub end_body : (r : Option Want) (k d : ℕ) (h : Bool) → d ≡ 0 → r ≡ going action_turns k → r ≡ going (ending_turns d h) k
unfolding ending_turns
end_body r k zero h p e = e
end_body r k (suc d) h p e = absurd (omega arith)

pub end_else : (r : Option Want) (k d : ℕ) (h : Bool) → (d ≡ 0 → ⊥) → h ≡ true → r ≡ first_of (eqb k 14) Statements None → r ≡ going (ending_turns d h) k
unfolding ending_turns going
end_else r k zero h p q e = absurd (p refl)
end_else r k (suc d) true p q e = e
end_else r k (suc d) false p q e = absurd (clash (cc))

pub end_then : (r : Option Want) (k d : ℕ) (h : Bool) → (d ≡ 0 → ⊥) → h ≡ false → r ≡ first_of (eqb k 13) Statements (first_of (eqb k 14) Statements None)
    → r ≡ going (ending_turns d h) k
unfolding ending_turns going
end_then r k zero h p q e = absurd (p refl)
end_then r k (suc d) false p q e = e
end_then r k (suc d) true p q e = absurd (clash (cc))

-- in one arm of the match
pub arm : (r : Option Want) (v w : Want) (n : ℕ) (i : Bool) (d : ℕ) (h : Bool) (k : ℕ) → v ≡ w → r ≡ going (turns w n i d h) k → r ≡ going (turns v n i d h) k
arm r v w n i d h k e p = subst (λ (x : Want). r ≡ going (turns x n i d h) k) (sym e) p

pub count_up : (n k up down : ℕ) → k ≡ up → n + 1 ≡ counted n k up down
unfolding counted
count_up n k up down e = rw (eq-eqb k up e) (omega arith)

pub count_same : (n k up down : ℕ) → (k ≡ up → ⊥) → (k ≡ down → ⊥) → n ≡ counted n k up down
unfolding counted
count_same n k up down e f = rw (ne_eqb k up e, ne_eqb k down f)

pub count_down : (n k up down m : ℕ) → (k ≡ up → ⊥) → k ≡ down → m ≡ n - 1 → m ≡ counted n k up down
unfolding counted
count_down n k up down m e f g = rw (ne_eqb k up e, eq-eqb k down f) g

pub behind_is : (o : Open) (k n d : ℕ) (i : Bool) → n ≡ counted o.brackets k 21 22 → i ≡ nested_after o.nested k → d ≡ counted o.ifs k 12 14
    → record { brackets = n; nested = i; ifs = d } ≡ open_after o k
unfolding open_after
behind_is o k n d i e f g = λ j. record { brackets = e j; nested = f j; ifs = g j }
