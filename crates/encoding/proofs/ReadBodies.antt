-- The six bodies of a class within the limits keep the rules 3 to 9 and stand for the class.
-- Assumes nothing.
use Prim.Native.Nat.{ℕ, suc, ◌+◌, ◌*◌, ◌<◌, ◌≤◌}
use native.Mathlib.Omega.{arith}
use mathlib.Core.Path.{◌≡◌, refl, sym, ◌∙◌, ap, subst}
use mathlib.Core.Bool.{Bool, true, ◌&&◌, not}
use mathlib.Core.List.{List, [], ◌∷◌, map}
use mathlib.Core.Option.{some}
use lib.ListN.{length, get_or, length-map}
use lib.Dec.{eqb, ltb, leb}
use borrow.Author.Tests.{lt-ltb, le-leb, eq-eqb, ne_eqb}
use Rattle.model.specs.Words.{choose, maybe, listed, total, is_some, each}
use Rattle.model.specs.Tree.{everyone, any_in, atom, Referrer, move_to, run, stay, When, end, Action, State, Class, no_state, no_action}
use Rattle.model.proofs.Words.{and_both, each_intro}
use Rattle.records.specs.Bytes.{record_at, in_fours, in_eights}
use Rattle.records.specs.GuardRecords.{got, record_right, is_read, guard_from}
use Rattle.bodies.specs.Clauses.{count_at, count_sum, name_set, when_count, action_count, first_when, first_action, guard_place, referrer_number, target, referrer_of, action_command, action_zero, body_of}
use Rattle.bodies.specs.BodyRules.{classes_right, counts_right, records_right, guards_right, target_right, state_targets_right, targets_right, action_right, actions_plain, new_command, none_twice, commands_apart, actions_right, statements_right}
use Rattle.sheet.specs.Contents.{Bodies}
use Rattle.sheet.specs.Reading.{guard_in, when_in, action_in, state_in, class_in}
use Rattle.sheet.proofs.Rules.{BodiesRight}
use Rattle.encoding.specs.Records.{Four, number, fours, eights}
use Rattle.encoding.specs.Encoding.{operator_record, referrer_code, referrer_target, placed, class_records, state_records, state_bytes, when_records, all_guards, action_records, statement_records}
use Rattle.encoding.specs.Numbers.{Every, ReferrerNumbers}
use Rattle.encoding.specs.Within.{Within}
use Rattle.encoding.proofs.From.{From, whole, next_one, again32, count_fours, count_eights, u32_fours}
use Rattle.encoding.proofs.All.{All, all_map, all_listed, all_at, all_total}
use Rattle.encoding.proofs.Inside.{StateInside, states_inside}
use Rattle.encoding.proofs.Layouts.{states_fit, records_fit}
use Rattle.encoding.proofs.ReadClauses.{WhenAt, ActionAt, Stand, StateAt, Last, states_at}
use Rattle.encoding.proofs.StateRecord.{before_none, count_states}

unfoldable pub six : Class → Bodies
six c =
    record {
      classes = fours (class_records c);
      states = state_bytes (state_records c.states 0 0);
      whens = fours (when_records c);
      guards = eights (all_guards c);
      actions = fours (action_records c);
      statements = eights (statement_records c);
    }

-- child classes
pub record SetAt (rs : List Four) (i x : ℕ) : Type 0 where
  pub same : name_set (fours rs) i ≡ x
  pub some_name : 0 < x

classes_at : (rs : List Four) (xs : List ℕ) (j : ℕ) → From rs j (map number xs) → Every (λ s. 0 < s) xs → All (SetAt rs) j xs
classes_at rs [] j f w = tt
classes_at rs (x ∷ xs) j f w = (
  record { same = u32_fours rs j (number x) (map number xs) f 0 (j * 4) (omega arith) ∙ again32 x; some_name = w.0 },
  classes_at rs xs (suc j) (next_one rs j (number x) (map number xs) f) w.1,
)

referrer_again : (r : Referrer) → referrer_of (referrer_code r) (referrer_target r) ≡ r
unfolding referrer_of
referrer_again (move_to q) = refl
referrer_again (run a) = refl
referrer_again stay = refl

referrer_right : (r : Referrer) (S own k t : ℕ) → k ≡ referrer_code r → t ≡ referrer_target r → ReferrerNumbers r S own
    → choose (eqb k 0) (λ _. ltb t S) (λ _. choose (eqb k 1) (λ _. ltb t own) (λ _. eqb k 2 && eqb t 0)) ≡ true
referrer_right (move_to q) S own k t e f w = rw (e, f) (lt-ltb q S w)
referrer_right (run a) S own k t e f w = rw (e, f) (lt-ltb a own w)
referrer_right stay S own k t e f w = rw (e, f)

not_zero : (x y : ℕ) → x ≡ y → 0 < y → not (eqb x 0) ≡ true
not_zero x y e l = rw (ne_eqb x 0 (λ z. omega arith))

apart : (x y a b : ℕ) → x ≡ a → y ≡ b → (a ≡ b → ⊥) → not (eqb x y) ≡ true
apart x y a b e f n = rw (ne_eqb x y (λ z. n (omega arith)))

-- what is built of what was read
module _ (s : Bodies) where
  when_built : (j e : ℕ) (x : When) → guard_from s.guards (guard_place s.whens j) ≡ got x.guard e → referrer_number s.whens j ≡ referrer_code x.referrer
      → target s.whens j ≡ referrer_target x.referrer → when_in s j ≡ x
  unfolding when_in guard_in
  when_built j e x p r t =
      let g : guard_in s (guard_place s.whens j) ≡ x.guard = rw p in
      let h : referrer_of (referrer_number s.whens j) (target s.whens j) ≡ x.referrer = rw (r, t) (referrer_again x.referrer) in
      λ i. record { guard = g i; referrer = h i }

  action_built : (j : ℕ) (x : Action) → action_command s.actions j ≡ x.command
      → body_of (in_fours s.classes) (in_fours s.states) s.guards s.actions s.statements j ≡ some x.body → action_in s j ≡ x
  unfolding action_in
  action_built j x e p =
      let b : maybe (body_of (in_fours s.classes) (in_fours s.states) s.guards s.actions s.statements j) (λ _. end) (λ p. p) ≡ x.body = rw p in
      λ i. record { command = e i; body = b i }

  state_built : (q : ℕ) (x : State) → when_count s.states q ≡ length x.whens → action_count s.states q ≡ length x.actions
      → All (λ j y. when_in s j ≡ y) (first_when s.states q) x.whens → All (λ j y. action_in s j ≡ y) (first_action s.states q) x.actions → state_in s q ≡ x
  unfolding state_in
  state_built q x e f a b =
      let u = ap (λ (n : ℕ). listed (first_when s.states q) n (when_in s)) e ∙ all_listed (when_in s) x.whens (first_when s.states q) a in
      let v = ap (λ (n : ℕ). listed (first_action s.states q) n (action_in s)) f ∙ all_listed (action_in s) x.actions (first_action s.states q) b in
      λ i. record { whens = u i; actions = v i }

  class_built : (x : Class) → in_fours s.classes ≡ length x.children → in_fours s.states ≡ length x.states
      → All (λ j y. name_set s.classes j ≡ y) 0 x.children → All (λ j y. state_in s j ≡ y) 0 x.states → class_in s ≡ x
  unfolding class_in
  class_built x e f a b =
      let u = ap (λ (n : ℕ). listed 0 n (name_set s.classes)) e ∙ all_listed (name_set s.classes) x.children 0 a in
      let v = ap (λ (n : ℕ). listed 0 n (state_in s)) f ∙ all_listed (state_in s) x.states 0 b in
      λ i. record { children = u i; states = v i }

abbrev no_when : When
no_when = record { guard = atom any_in everyone 0; referrer = stay }

module _ (c : Class) (w : Within c) where
  abbrev K : ℕ
  K = in_fours (fours (class_records c))

  abbrev S : ℕ
  S = in_fours (state_bytes (state_records c.states 0 0))

  abbrev Sb : List ℕ
  Sb = state_bytes (state_records c.states 0 0)

  pub K_is : K ≡ length c.children
  K_is = count_fours (class_records c) ∙ length-map c.children number

  pub S_is : S ≡ length c.states
  S_is = count_states c.states

  pub few : K ≤ 8
  few = omega (arith, K_is, w.classes)

  pub inside : Every (StateInside K S) c.states
  inside =
      subst (λ (k : ℕ). Every (StateInside k S) c.states) (sym K_is)
      (subst (λ (s : ℕ). Every (StateInside (length c.children) s) c.states) (sym S_is) (states_inside c w))

  abbrev Standing : ℕ → ℕ → ℕ → ℕ → List State → Type 0
  Standing = Stand K S few (when_records c) (all_guards c) (action_records c) (statement_records c) (state_records c.states 0 0)

  abbrev AtState : ℕ → State → Type 0
  AtState = StateAt K S few (when_records c) (all_guards c) (action_records c) (statement_records c) (state_records c.states 0 0)

  abbrev AtWhen : ℕ → ℕ → When → Type 0
  AtWhen = WhenAt K S few (when_records c) (all_guards c) (action_records c) (statement_records c)

  abbrev AtAction : ℕ → Action → Type 0
  AtAction = ActionAt K S few (when_records c) (all_guards c) (action_records c) (statement_records c)

  start : Standing 0 0 0 0 c.states
  unfolding count_sum total
  start =
      record {
        sums = before_none (state_records c.states 0 0);
        at_states = whole (state_records c.states 0 0);
        at_whens = whole (when_records c);
        at_guards = whole (all_guards c);
        at_actions = whole (action_records c);
        at_statements = whole (statement_records c);
      }

  abbrev AtLast : ℕ → Type 0
  AtLast = Last K S few (when_records c) (all_guards c) (action_records c) (statement_records c) (state_records c.states 0 0)

  all_states : All AtState 0 c.states × AtLast S
  all_states =
      states_at K S few (when_records c) (all_guards c) (action_records c) (statement_records c) (state_records c.states 0 0)
      c.states 0 0 0 0 S start inside (omega (arith, S_is))

  -- state q, its clauses
  state_at : (q : ℕ) → q < S → AtState q (get_or c.states q no_state)
  state_at q l = all_at AtState no_state c.states 0 all_states.0 q q (omega (arith, S_is)) (omega arith)

  when_at : (q : ℕ) → q < S → (i : ℕ) → i < when_count Sb q
      → AtWhen (length (get_or c.states q no_state).actions) (first_when Sb q + i) (get_or (get_or c.states q no_state).whens i no_when)
  when_at q l i m =
      let s = state_at q l in
      all_at (AtWhen (length (get_or c.states q no_state).actions)) no_when (get_or c.states q no_state).whens (first_when Sb q) s.all_whens i (first_when Sb q + i)
      (subst (λ (n : ℕ). i < n) s.when_number m) refl

  action_at : (q : ℕ) → q < S → (i : ℕ) → i < action_count Sb q
      → AtAction (first_action Sb q + i) (get_or (get_or c.states q no_state).actions i no_action)
  action_at q l i m =
      let s = state_at q l in
      all_at AtAction no_action (get_or c.states q no_state).actions (first_action Sb q) s.all_actions i (first_action Sb q + i)
      (subst (λ (n : ℕ). i < n) s.action_number m) refl

  -- the class
  all_sets : All (SetAt (class_records c)) 0 c.children
  all_sets = classes_at (class_records c) c.children 0 (whole (class_records c)) w.sets

  when_is : (own j : ℕ) (x : When) → AtWhen own j x → when_in (six c) j ≡ x
  unfolding six
  when_is own j x a = when_built (six c) j a.end x a.guard a.referrer a.target

  action_is : (j : ℕ) (x : Action) → AtAction j x → action_in (six c) j ≡ x
  unfolding six
  action_is j x a = action_built (six c) j x a.command a.body

  state_is : (q : ℕ) (s : State) → AtState q s → state_in (six c) q ≡ s
  unfolding six
  state_is q s a =
      state_built (six c) q s a.when_number a.action_number
      (all_map (AtWhen (length s.actions)) (λ j y. when_in (six c) j ≡ y) (when_is (length s.actions)) s.whens (first_when Sb q) a.all_whens)
      (all_map AtAction (λ j y. action_in (six c) j ≡ y) action_is s.actions (first_action Sb q) a.all_actions)

  pub class_back : class_in (six c) ≡ c
  unfolding six
  class_back =
      class_built (six c) c K_is S_is
      (all_map (SetAt (class_records c)) (λ j y. name_set (fours (class_records c)) j ≡ y) (λ j x a. a.same) c.children 0 all_sets)
      (all_map AtState (λ j y. state_in (six c) j ≡ y) state_is c.states 0 all_states.0)

  -- the rules
  right3 : classes_right (fours (class_records c)) ≡ true
  unfolding classes_right
  right3 =
      each_intro K (λ i. not (eqb (name_set (fours (class_records c)) i) 0))
      (λ j l. let a = all_at (SetAt (class_records c)) 0 c.children 0 all_sets j j (omega (arith, K_is)) (omega arith) in
      not_zero (name_set (fours (class_records c)) j) (get_or c.children j 0) a.same a.some_name)

  -- the sums
  when_sum : count_sum Sb 0 S ≡ in_fours (fours (when_records c))
  unfolding placed
  when_sum = let z = all_states.1.stand in let e = z.at_whens.ends in omega (arith, z.sums.whens, count_fours (when_records c))

  action_sum : count_sum Sb 2 S ≡ in_fours (fours (action_records c))
  unfolding placed
  action_sum = let z = all_states.1.stand in let e = z.at_actions.ends in omega (arith, z.sums.actions, count_fours (action_records c))

  statement_sum : count_sum (fours (action_records c)) 2 (in_fours (fours (action_records c))) ≡ in_eights (eights (statement_records c))
  unfolding placed
  statement_sum =
      let z = all_states.1.stand in
      ap (count_sum (fours (action_records c)) 2) (sym action_sum ∙ z.sums.actions)
      ∙ (let e = z.at_statements.ends in omega (arith, count_eights (statement_records c)))

  right4 : counts_right Sb (in_fours (fours (when_records c))) (in_fours (fours (action_records c))) ≡ true
  unfolding counts_right
  right4 =
      and_both (eqb (count_sum Sb 0 S) (in_fours (fours (when_records c)))) (eqb (count_sum Sb 2 S) (in_fours (fours (action_records c))))
      (eq-eqb (count_sum Sb 0 S) (in_fours (fours (when_records c))) when_sum)
      (eq-eqb (count_sum Sb 2 S) (in_fours (fours (action_records c))) action_sum)

  right5 : records_right K (eights (all_guards c)) ≡ true
  unfolding records_right
  right5 =
      each_intro (in_eights (eights (all_guards c))) (λ i. record_right K (record_at (eights (all_guards c)) i))
      (λ j l. all_at (λ i r. record_right K (record_at (eights (all_guards c)) i) ≡ true) (operator_record 0) (all_guards c) 0
      (records_fit K few (all_guards c) (all_guards c) 0 (whole (all_guards c)) (states_fit K few S c.states inside))
      j j (omega (arith, count_eights (all_guards c))) (omega arith))

  -- what holds of every clause of every state
  every_when : (f : ℕ → Bool) → ((q : ℕ) → q < S → (i : ℕ) → i < when_count Sb q → f (first_when Sb q + i) ≡ true) → each (in_fours (fours (when_records c))) f ≡ true
  unfolding count_sum
  every_when f h = each_intro (in_fours (fours (when_records c))) f (λ j l. all_total (λ j. f j ≡ true) (count_at Sb 0) S h j (subst (λ (n : ℕ). j < n) (sym when_sum) l))

  every_action : (f : ℕ → Bool) → ((q : ℕ) → q < S → (i : ℕ) → i < action_count Sb q → f (first_action Sb q + i) ≡ true) → each (in_fours (fours (action_records c))) f ≡ true
  unfolding count_sum
  every_action f h = each_intro (in_fours (fours (action_records c))) f (λ j l. all_total (λ j. f j ≡ true) (count_at Sb 2) S h j (subst (λ (n : ℕ). j < n) (sym action_sum) l))

  right6 : guards_right (eights (all_guards c)) (fours (when_records c)) ≡ true
  unfolding guards_right
  right6 =
      every_when (λ j. is_read (guard_from (eights (all_guards c)) (guard_place (fours (when_records c)) j)))
      (λ q l i m. ap is_read (when_at q l i m).guard)

  right7 : targets_right Sb (fours (when_records c)) ≡ true
  unfolding targets_right state_targets_right
  right7 =
      each_intro S (state_targets_right Sb (fours (when_records c)))
      (λ q l. each_intro (when_count Sb q) (λ i. target_right S (action_count Sb q) (fours (when_records c)) (first_when Sb q + i))
      (λ i m. let a = when_at q l i m in
      let r = (get_or (get_or c.states q no_state).whens i no_when).referrer in
      referrer_right r S (action_count Sb q) (referrer_number (fours (when_records c)) (first_when Sb q + i)) (target (fours (when_records c)) (first_when Sb q + i))
      a.referrer a.target (subst (λ (n : ℕ). ReferrerNumbers r S n) (sym (state_at q l).action_number) a.numbers.1)))

  plain : actions_plain (fours (action_records c)) ≡ true
  unfolding actions_plain
  plain =
      every_action (action_right (fours (action_records c)))
      (λ q l i m. let a = action_at q l i m in
      let x = get_or (get_or c.states q no_state).actions i no_action in
      let j = first_action Sb q + i in
      and_both (leb (action_command (fours (action_records c)) j) 63) (eqb (action_zero (fours (action_records c)) j) 0)
      (le-leb (action_command (fours (action_records c)) j) 63 (let z = a.numbers.0 in let e = a.command in omega arith))
      (eq-eqb (action_zero (fours (action_records c)) j) 0 a.zero_byte))

  all_apart : commands_apart Sb (fours (action_records c)) ≡ true
  unfolding commands_apart none_twice new_command
  all_apart =
      each_intro S (none_twice Sb (fours (action_records c)))
      (λ q l. each_intro (action_count Sb q) (new_command (fours (action_records c)) (first_action Sb q))
      (λ i m. each_intro i (λ j. not (eqb (action_command (fours (action_records c)) (first_action Sb q + j)) (action_command (fours (action_records c)) (first_action Sb q + i))))
      (λ j k. let xs = (get_or c.states q no_state).actions in
      apart (action_command (fours (action_records c)) (first_action Sb q + j)) (action_command (fours (action_records c)) (first_action Sb q + i))
      (get_or xs j no_action).command (get_or xs i no_action).command
      (action_at q l j (omega arith)).command (action_at q l i m).command
      ((state_at q l).none_twice i j k (subst (λ (n : ℕ). i < n) (state_at q l).action_number m)))))

  right8 : actions_right Sb (fours (action_records c)) (in_eights (eights (statement_records c))) ≡ true
  unfolding actions_right
  right8 = rw (plain, all_apart) (eq-eqb (count_sum (fours (action_records c)) 2 (in_fours (fours (action_records c)))) (in_eights (eights (statement_records c))) statement_sum)

  right9 : statements_right K S (eights (all_guards c)) (fours (action_records c)) (eights (statement_records c)) ≡ true
  unfolding statements_right
  right9 =
      every_action (λ a. is_some (body_of K S (eights (all_guards c)) (fours (action_records c)) (eights (statement_records c)) a))
      (λ q l i m. ap is_some (action_at q l i m).body)

  pub keeps : BodiesRight (six c)
  unfolding six
  keeps = record { classes = right3; counts = right4; records = right5; guards = right6; targets = right7; actions = right8; statements = right9 }
