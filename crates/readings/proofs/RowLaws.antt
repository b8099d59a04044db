-- One answer for any input, and each refusal exactly when its row says so.
-- Assumes nothing.
use Prim.Native.Nat.{ℕ}
use mathlib.Core.Path.{◌≡◌, refl, sym, ◌∙◌, ap, subst}
use mathlib.Core.Bool.{Bool, true, false}
use mathlib.Core.Logic.{◌⊎◌, inl, inr, ◌↔◌}
use lib.Dec.{eqb}
use lib.ListN.{length}
use borrow.Author.Tests.{eqb-false}
use Rattle.model.specs.Unique.{TellsApart}
use Rattle.model.proofs.Words.{clash, true_not_false}
use Rattle.grammar.specs.Grammar.{Text}
use Rattle.grammar.specs.Reading.{Says, WrongAt}
use Rattle.grammar.proofs.OneWay.{one_way}
use Rattle.readings.specs.Readings.{Lent, Reading, wrong, refused, read, Outcome, unwritten, sheet_for, own_states, check, known, within, room, filled, outcome, Answers, reading_numbers}
use Rattle.readings.specs.Reads.{One, Rows}

-- the numbers of an answer tell the answer
pub numbers_tell : TellsApart reading_numbers
unfolding reading_numbers
numbers_tell (wrong p) (wrong s) e = let f : p ≡ s = cc in ap wrong f
numbers_tell (wrong p) (refused n) e = absurd (clash (cc))
numbers_tell (wrong p) (read k s) e = absurd (clash (cc))
numbers_tell (refused n) (wrong p) e = absurd (clash (cc))
numbers_tell (refused n) (refused m) e = let f : n ≡ m = cc in ap refused f
numbers_tell (refused n) (read k s) e = absurd (clash (cc))
numbers_tell (read k s) (wrong p) e = absurd (clash (cc))
numbers_tell (read k s) (refused n) e = absurd (clash (cc))
numbers_tell (read k s) (read j r) e = let f : k ≡ j = cc in let g : s ≡ r = cc in rw (f, g)

-- a refusal's number, 0 of a text that was read
abbrev number : Reading → ℕ
number (wrong p) = 16
number (refused n) = n
number (read k s) = 0

-- answers with different numbers are different
apart : {A : Type 0} (x y : Reading) → eqb (number x) (number y) ≡ false → x ≡ y → A
apart x y d e = absurd (eqb-false (number x) (number y) d (ap number e))

-- what three checks, of which these are passed, decide
record Decided (q : Lent) (a b c : Bool) (o : Outcome) : Type 0 where
  pub not_wrong : (p : ℕ) → o.reading ≡ wrong p → ⊥
  pub seventeen : (o.reading ≡ refused 17) ↔ (a ≡ false)
  pub eighteen : (o.reading ≡ refused 18) ↔ ((a ≡ true) × (b ≡ false))
  pub fifteen : (o.reading ≡ refused 15) ↔ ((a ≡ true) × (b ≡ true) × (c ≡ false))
  pub read_exactly : ((L S : ℕ) × (o.reading ≡ read L S)) ↔ ((a ≡ true) × (b ≡ true) × (c ≡ true))
  pub no_other : (n : ℕ) → o.reading ≡ refused n → (n ≡ 17) ⊎ (n ≡ 18) ⊎ (n ≡ 15)
  pub keeps : (n : ℕ) → o.reading ≡ refused n → (o.sheet ≡ q.sheet) × (o.table ≡ q.table)

decided : (q : Lent) (f : Outcome) (k s : ℕ) → f.reading ≡ read k s → (a b c : Bool)
    → Decided q a b c (check q a 17 λ _. check q b 18 λ _. check q c 15 λ _. f)
decided q f k s e false b c =
    record {
      not_wrong = λ p h. apart (refused 17) (wrong p) refl h;
      seventeen = (λ h. refl, λ h. refl);
      eighteen = (λ h. apart (refused 17) (refused 18) refl h, λ h. absurd (true_not_false h.0 refl));
      fifteen = (λ h. apart (refused 17) (refused 15) refl h, λ h. absurd (true_not_false h.0 refl));
      read_exactly = (λ (j, r, h). apart (refused 17) (read j r) refl h, λ h. absurd (true_not_false h.0 refl));
      no_other = λ n h. inl (sym (ap number h));
      keeps = λ n h. (refl, refl);
    }
decided q f k s e true false c =
    record {
      not_wrong = λ p h. apart (refused 18) (wrong p) refl h;
      seventeen = (λ h. apart (refused 18) (refused 17) refl h, λ h. absurd (true_not_false refl h));
      eighteen = (λ h. (refl, refl), λ h. refl);
      fifteen = (λ h. apart (refused 18) (refused 15) refl h, λ h. absurd (true_not_false h.1 refl));
      read_exactly = (λ (j, r, h). apart (refused 18) (read j r) refl h, λ h. absurd (true_not_false h.1 refl));
      no_other = λ n h. inr (inl (sym (ap number h)));
      keeps = λ n h. (refl, refl);
    }
decided q f k s e true true false =
    record {
      not_wrong = λ p h. apart (refused 15) (wrong p) refl h;
      seventeen = (λ h. apart (refused 15) (refused 17) refl h, λ h. absurd (true_not_false refl h));
      eighteen = (λ h. apart (refused 15) (refused 18) refl h, λ h. absurd (true_not_false refl h.1));
      fifteen = (λ h. (refl, refl, refl), λ h. refl);
      read_exactly = (λ (j, r, h). apart (refused 15) (read j r) refl h, λ h. absurd (true_not_false h.2 refl));
      no_other = λ n h. inr (inr (sym (ap number h)));
      keeps = λ n h. (refl, refl);
    }
decided q f k s e true true true =
    record {
      not_wrong = λ p h. apart (read k s) (wrong p) refl (sym e ∙ h);
      seventeen = (λ h. apart (read k s) (refused 17) refl (sym e ∙ h), λ h. absurd (true_not_false refl h));
      eighteen = (λ h. apart (read k s) (refused 18) refl (sym e ∙ h), λ h. absurd (true_not_false refl h.1));
      fifteen = (λ h. apart (read k s) (refused 15) refl (sym e ∙ h), λ h. absurd (true_not_false refl h.2));
      read_exactly = (λ h. (refl, refl, refl), λ h. (k, s, e));
      no_other = λ n h. absurd (let z : read k s ≡ refused n = sym e ∙ h in clash (cc));
      keeps = λ n h. absurd (let z : read k s ≡ refused n = sym e ∙ h in clash (cc));
    }

-- those of a tree
tree_decided : (q : Lent) (t : Text) → Decided q (known q t) (within q t) (room q t) (outcome q t)
unfolding outcome filled
tree_decided q t = decided q (filled q t) (length (sheet_for q t)) (own_states t) refl (known q t) (within q t) (room q t)

-- the outcome is that of the tree, where there is one, or that of the place
pub of_tree : (q : Lent) (o : Outcome) → Answers q o → (t : Text) → Says q.text t → o ≡ outcome q t
of_tree q o (inl (p, w, e)) t s = absurd (one_way.never_both q.text t p s w)
of_tree q o (inr (u, v, e)) t s = e ∙ ap (outcome q) (one_way.one_tree q.text u t v s)

pub of_place : (q : Lent) (o : Outcome) → Answers q o → (p : ℕ) → WrongAt q.text p → o ≡ unwritten q (wrong p)
of_place q o (inl (r, v, e)) p w = e ∙ ap (λ (n : ℕ). unwritten q (wrong n)) (one_way.one_place q.text r p v w)
of_place q o (inr (t, s, e)) p w = absurd (one_way.never_both q.text t p s w)

one_answer : (q : Lent) (o p : Outcome) → Answers q o → Answers q p → o ≡ p
one_answer q o p (inl (n, w, e)) b = e ∙ sym (of_place q p b n w)
one_answer q o p (inr (t, s, e)) b = e ∙ sym (of_tree q p b t s)

some_answer : (q : Lent) → (o : Outcome) × Answers q o
some_answer q = go (one_way.always_one q.text)
  where
    go : ((t : Text) × Says q.text t) ⊎ ((p : ℕ) × WrongAt q.text p) → (o : Outcome) × Answers q o
    go (inl (t, s)) = (outcome q t, inr (t, s, refl))
    go (inr (p, w)) = (unwritten q (wrong p), inl (p, w, refl))

pub one_of_each : One
one_of_each = record { some_answer = some_answer; one_answer = one_answer; numbers_tell = numbers_tell }

pub rows : (q : Lent) (o : Outcome) → Answers q o → Rows q o
rows q o a =
    record {
      sixteen = λ p. (wrong_there a p, λ w. ap (λ (x : Outcome). x.reading) (of_place q o a p w));
      seventeen = λ t s. (at t (of_tree q o a t s)).seventeen;
      eighteen = λ t s. (at t (of_tree q o a t s)).eighteen;
      fifteen = λ t s. (at t (of_tree q o a t s)).fifteen;
      read_exactly = λ t s. (at t (of_tree q o a t s)).read_exactly;
      no_other = others a;
      sixteen_keeps = λ p h. kept (of_place q o a p (wrong_there a p h));
      refused_keeps = keeps_all a;
    }
  where
    at : (t : Text) → o ≡ outcome q t → Decided q (known q t) (within q t) (room q t) o
    at t e = subst (Decided q (known q t) (within q t) (room q t)) (sym e) (tree_decided q t)

    kept : {r : Reading} → o ≡ unwritten q r → (o.sheet ≡ q.sheet) × (o.table ≡ q.table)
    kept e = (ap (λ (x : Outcome). x.sheet) e, ap (λ (x : Outcome). x.table) e)

    wrong_there : Answers q o → (p : ℕ) → o.reading ≡ wrong p → WrongAt q.text p
    wrong_there (inl (r, w, e)) p h =
        let z : wrong r ≡ wrong p = sym (ap (λ (x : Outcome). x.reading) e) ∙ h in
        let f : r ≡ p = cc in
        rw f at w
    wrong_there (inr (t, s, e)) p h = absurd ((at t e).not_wrong p h)

    others : Answers q o → (n : ℕ) → o.reading ≡ refused n → (n ≡ 17) ⊎ (n ≡ 18) ⊎ (n ≡ 15)
    others (inl (r, w, e)) n h = absurd (let z : wrong r ≡ refused n = sym (ap (λ (x : Outcome). x.reading) e) ∙ h in clash (cc))
    others (inr (t, s, e)) n h = (at t e).no_other n h

    keeps_all : Answers q o → (n : ℕ) → o.reading ≡ refused n → (o.sheet ≡ q.sheet) × (o.table ≡ q.table)
    keeps_all (inl (r, w, e)) n h = kept e
    keeps_all (inr (t, s, e)) n h = (at t e).keeps n h
