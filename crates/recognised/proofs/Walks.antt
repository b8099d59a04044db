-- The walk over the words of a text is the machine's.
-- Assumes nothing.
use Prim.Native.Nat.{ℕ, suc, ◌<◌, ◌≤◌}
use native.Mathlib.Omega.{arith}
use mathlib.Core.Path.{◌≡◌, refl, sym, ◌∙◌, ap, subst}
use mathlib.Core.Bool.{Bool, true, false}
use mathlib.Core.List.{List, [], ◌∷◌, ◌++◌}
use mathlib.Core.Option.{Option, none, some}
use lib.Dec.{eqb}
use lib.ListN.{length}
use borrow.Author.Tests.{eqb-true}
use Rattle.model.specs.Words.{choose}
use Rattle.std.specs.Prelude.{Some, None, Ok, Err}
use Rattle.std.specs.Prelude as std
use Rattle.grammar.specs.Words.{Word, words}
use Rattle.grammar.specs.Kinds.{kind_of}
use Rattle.grammar.specs.Machine.{At, start, moves, next}
use Rattle.grammar.specs.Reading.{WrongAt}
use Rattle.grammar.proofs.Machine.{clash}
use Rattle.grammar.proofs.Reached.{Reached, reached_none, reached_next, reached_stuck, reached_end}
use Rattle.words.specs.Scanning.{words_from, stretch, behind, Next}
use Rattle.words.proofs.Turns.{kind_as}
use Rattle.steps.specs.declared.Want.{Want}
use Rattle.steps.specs.declared.Want.TheVariants.{Start}
use Rattle.steps.specs.declared.Open.{Open}
use Rattle.steps.specs.Turns.{turns}
use Rattle.steps.specs.Going.{going}
use Rattle.steps.specs.Opening.{Ifs, had_else, open_after, ifs_after}
use Rattle.steps.proofs.Simulated.{want_of, opened, Opened, opened_after, by_number, by_number_after, Leads, step_leads}
use Rattle.recognised.specs.Recognised.{Recognised}
use Rattle.recognised.specs.Watching.{Along, ifs_along, begun_at, Marks, Noted, HadElse}
use Rattle.recognised.proofs.Watches.{word_of, word_then, word_last, along_one, ifs_one, counted_up, marks_none, marks_on}

-- what the loop has walked: the machine's place, what is wanted and open there, and the words since no if was open
pub record Walked (text : List ℕ) (marks : List Bool) (want : Want) (o : Open) (from at : ℕ) : Type 0 where
  pub place : At
  pub reached : Reached text (words_from text at) place
  pub wanted : want_of place ≡ want
  pub open_is : by_number (opened place) ≡ o
  pub since : List Word
  pub along : Along text from since at
  pub ifs_are : ifs_along [] since ≡ (opened place).ifs
  pub marks_are : Marks marks (opened place).ifs
  pub few_brackets : o.brackets ≤ at
  pub few_ifs : o.ifs ≤ at

pub walk_none : (text : List ℕ) (marks : List Bool) → Walked text marks Start (record { brackets = 0; nested = false; ifs = 0 }) 0 0
unfolding want_of opened Along ifs_along words_from words
walk_none text marks =
    record {
      place = start;
      reached = reached_none text;
      wanted = refl;
      open_is = refl;
      since = [];
      along = refl;
      ifs_are = refl;
      marks_are = marks_none marks;
      few_brackets = (let z : 0 ≤ 0 = omega arith in z);
      few_ifs = (let z : 0 ≤ 0 = omega arith in z);
    }

-- at the next word, with what the code has found of it
module _ (text : List ℕ) (marks : List Bool) (want : Want) (o : Open) (from at : ℕ) (W : Walked text marks want o from at) (kind start end : ℕ) (N : Next text at kind start end) (had : Bool)
    (H : HadElse text from at o.ifs kind marks had) (r : std.Option Want) (e : r ≡ going (turns want o.brackets o.nested o.ifs had) kind) where
  abbrev w : Word
  w = word_of text kind start end

  kind_is : kind_of w.token ≡ kind
  kind_is = kind_as kind (stretch text start end)

  right_else : kind_of w.token ≡ 13 → had ≡ had_else (opened W.place).ifs
  unfolding HadElse
  right_else p =
      H (sym kind_is ∙ p) W.since W.along (ap length W.ifs_are ∙ ap (λ (x : Open). x.ifs) W.open_is)
      (subst (Marks marks) (sym W.ifs_are) W.marks_are)
      ∙ ap had_else W.ifs_are

  told : Leads (opened W.place) kind r (next (moves W.place) w.token)
  told =
      subst (λ (g : std.Option Want). Leads (opened W.place) kind g (next (moves W.place) w.token)) (sym e)
      (subst (λ (k : ℕ). Leads (opened W.place) k (going (turns want o.brackets o.nested o.ifs had) k) (next (moves W.place) w.token)) kind_is
      (step_leads W.place w.token want o had W.wanted W.open_is right_else))

  moves_on : (kind ≡ 26 → ⊥) → at < end
  moves_on h = let a = N.onward in let b = N.moves h in omega (arith, a, b)

  -- the word cannot stand
  pub walk_stop : r ≡ None → Recognised text (Err start)
  unfolding Recognised Leads
  walk_stop f = go (next (moves W.place) w.token) refl told
    where
      go : (a : Option At) → next (moves W.place) w.token ≡ a → Leads (opened W.place) kind r a → WrongAt text start
      go none p l = reached_stuck text w (behind text kind end) W.place (subst (λ (ws : List Word). Reached text ws W.place) N.words W.reached) p
      go (some t) p l = absurd (clash (cc (l.0, f)))

  -- the machine's next place
  abbrev Onward : Want → Type 0
  Onward v = (t : At) × (next (moves W.place) w.token ≡ some t) × (want_of t ≡ v) × (opened t ≡ opened_after (opened W.place) kind)

  onward : (v : Want) → r ≡ Some v → Onward v
  unfolding Leads
  onward v f = go (next (moves W.place) w.token) refl told
    where
      go : (a : Option At) → next (moves W.place) w.token ≡ a → Leads (opened W.place) kind r a → Onward v
      go none p l = absurd (clash (cc (l, f)))
      go (some t) p l = let q : Some (want_of t) ≡ Some v = sym l.0 ∙ f in (t, p, (cc), l.1)

  -- the end can stand: the text is read
  pub walk_fine : (v : Want) → r ≡ Some v → kind ≡ 26 → Recognised text (Ok tt)
  unfolding Recognised
  walk_fine v f h =
      let (t, p, q, c) = onward v f in
      let s = subst (λ (ws : List Word). Reached text ws W.place) (word_last text at kind start end N h) W.reached in
      reached_end text t (reached_next text w [] W.place t s p)

  -- another word can stand
  module _ (v : Want) (o' : Open) (from' : ℕ) (f : r ≡ Some v) (h : kind ≡ 26 → ⊥) (g : o' ≡ open_after o kind) (b : from' ≡ begun_at from end o'.ifs) (marks' : List Bool)
      (n : Noted marks o'.ifs kind marks') where
    record Since (t : At) : Type 0 where
      since : List Word
      along : Along text from' since end
      ifs_are : ifs_along [] since ≡ (opened t).ifs

    open_on : (t : At) → opened t ≡ opened_after (opened W.place) kind → by_number (opened t) ≡ o'
    open_on t c = ap by_number c ∙ (by_number_after (opened W.place) kind ∙ (ap (λ (x : Open). open_after x kind) W.open_is ∙ sym g))

    since_on : (t : At) → opened t ≡ opened_after (opened W.place) kind → Since t
    unfolding Along ifs_along begun_at opened_after
    since_on t c = go (eqb o'.ifs 0) refl b
      where
        no_ifs : (x : Ifs) → length x ≡ 0 → [] ≡ x
        no_ifs [] z = refl
        no_ifs (y ∷ x) z = absurd (let q : suc (length x) ≡ 0 = z in omega arith)

        go : (u : Bool) → eqb o'.ifs 0 ≡ u → from' ≡ choose u (λ _. end) (λ _. from) → Since t
        go true p q =
            record { since = []; along = q; ifs_are = no_ifs (opened t).ifs (ap (λ (x : Open). x.ifs) (open_on t c) ∙ eqb-true o'.ifs 0 p) }
        go false p q =
            record {
              since = W.since ++ (w ∷ []);
              along =
                  subst (λ (n : ℕ). Along text n (W.since ++ (w ∷ [])) end) (sym q)
                  (along_one text from W.since at w W.along (word_then text at kind start end N h) (moves_on h));
              ifs_are = ifs_one [] W.since w ∙ ((λ j. ifs_after (W.ifs_are j) (kind_is j)) ∙ sym (ap (λ (x : Opened). x.ifs) c));
            }

    marks_right : (t : At) → opened t ≡ opened_after (opened W.place) kind → Marks marks' (opened t).ifs
    unfolding opened_after
    marks_right t c =
        marks_on marks marks' (opened W.place).ifs (opened t).ifs kind W.marks_are (ap (λ (x : Opened). x.ifs) c)
        (subst (λ (l : ℕ). Noted marks l kind marks') (sym (ap (λ (x : Open). x.ifs) (open_on t c))) n)

    pub walk_on : Walked text marks' v o' from' end
    unfolding open_after
    walk_on =
        let (t, p, q, c) = onward v f in
        let s = subst (λ (ws : List Word). Reached text ws W.place) (word_then text at kind start end N h) W.reached in
        let d = since_on t c in
        record {
          place = t;
          reached = reached_next text w (words_from text end) W.place t s p;
          wanted = q;
          open_is = open_on t c;
          since = d.since;
          along = d.along;
          ifs_are = d.ifs_are;
          marks_are = marks_right t c;
          few_brackets = few (ap (λ (x : Open). x.brackets) g) (counted_up o.brackets kind 21 22) W.few_brackets;
          few_ifs = few (ap (λ (x : Open). x.ifs) g) (counted_up o.ifs kind 12 14) W.few_ifs;
        }
      where
        few : {x y n : ℕ} → x ≡ y → y ≤ suc n → n ≤ at → x ≤ end
        few p q l = let m = moves_on h in omega (arith, p, q, l, m)
