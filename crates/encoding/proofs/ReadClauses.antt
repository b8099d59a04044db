-- The records of clauses and states, read back.
-- Assumes nothing.
use Prim.Native.Nat.{ℕ, zero, suc, ◌+◌, ◌*◌, ◌/◌, ◌≤◌}
use native.Mathlib.Omega.{arith}
use mathlib.Core.Path.{◌≡◌, refl, sym, ◌∙◌, ap, subst}
use mathlib.Core.List.{List, [], ◌∷◌, ◌++◌}
use mathlib.Core.Option.{some}
use lib.ListN.{length, take, drop}
use lib.Seq.{take_at}
use Rattle.model.specs.Words.{total}
use Rattle.model.specs.Tree.{When, Action, State}
use Rattle.records.specs.Bytes.{byte, records}
use Rattle.records.specs.GuardRecords.{got, guard_from}
use Rattle.bodies.specs.StatementRecords.{part_at}
use Rattle.bodies.specs.Clauses.{count_sum, when_count, action_count, first_when, first_action, guard_place, referrer_number, target, action_command, action_zero, statement_count, first_statement, statements_of, body_of}
use Rattle.encoding.specs.Records.{Four, Eight, fours, eights, bytes4}
use Rattle.encoding.specs.Encoding.{part_records, gathered, placed, when_guards, action_guards, state_guards, referrer_code, referrer_target, when_record, action_record, state_whens, after_whens, state_actions, state_statements, state_record, state_records, state_bytes}
use Rattle.encoding.specs.Numbers.{Every, WhenNumbers, ActionNumbers, NoneTwice}
use Rattle.encoding.proofs.From.{From, next, next_one, regroup, again16, byte_fours, u16_fours, count_eights, records_eights}
use Rattle.encoding.proofs.ReadParts.{lists, lists_append, length_lists, guard_back, part_read}
use Rattle.encoding.proofs.All.{All, length_singles}
use Rattle.encoding.proofs.Inside.{WhenInside, ActionInside, StateInside}
use Rattle.encoding.proofs.StateRecord.{Before, state_read, before_next}

drop_lists : (n : ℕ) (rs : List Eight) → drop n (lists rs) ≡ lists (drop n rs)
drop_lists zero rs = refl
drop_lists (suc n) [] = refl
drop_lists (suc n) (r ∷ rs) = drop_lists n rs

module _ (K S : ℕ) (few : K ≤ 8) (whens : List Four) (guards : List Eight) (actions : List Four) (statements : List Eight) where
  pub record WhenAt (own j : ℕ) (w : When) : Type 0 where
    pub end : ℕ
    pub guard : guard_from (eights guards) (guard_place (fours whens) j) ≡ got w.guard end
    pub referrer : referrer_number (fours whens) j ≡ referrer_code w.referrer
    pub target : target (fours whens) j ≡ referrer_target w.referrer
    pub numbers : WhenNumbers K S own w

  pub whens_at : (own : ℕ) (ws : List When) (j n : ℕ) (more : List Four) (moreg : List Eight)
      → From whens j (placed when_guards (λ w m. when_record w m ∷ []) ws n ++ more) → From guards n (gathered when_guards ws ++ moreg)
      → Every (WhenInside K S own) ws → All (WhenAt own) j ws
  unfolding placed gathered
  whens_at own [] j n more moreg f g i = tt
  whens_at own (w ∷ ws) j n more moreg f g i =
      let rest = placed when_guards (λ w m. when_record w m ∷ []) ws (n + length (when_guards w)) ++ more in
      let g1 = regroup guards n (when_guards w) (gathered when_guards ws) moreg g in
      let at : (k : ℕ) → byte (fours whens) (j * 4 + k) ≡ byte (bytes4 (when_record w n) (fours rest)) k = λ k. byte_fours whens j (when_record w n) rest f k (j * 4 + k) refl in
      let e : guard_place (fours whens) j ≡ n = u16_fours whens j (when_record w n) rest f 0 (j * 4) (omega arith) ∙ again16 n in (
        record {
          end = n + length (when_guards w);
          guard = ap (guard_from (eights guards)) e ∙ guard_back K S few guards w.guard n (gathered when_guards ws ++ moreg) i.0.0 i.0.1.0 g1;
          referrer = at 2;
          target = at 3;
          numbers = i.0.1;
        },
        whens_at own ws (suc j) (n + length (when_guards w)) more moreg (next_one whens j (when_record w n) rest f)
            (next guards n (when_guards w) (gathered when_guards ws ++ moreg) g1) i.1,
      )

  pub record ActionAt (j : ℕ) (a : Action) : Type 0 where
    pub command : action_command (fours actions) j ≡ a.command
    pub zero_byte : action_zero (fours actions) j ≡ 0
    pub body : body_of K S (eights guards) (fours actions) (eights statements) j ≡ some a.body
    pub numbers : ActionNumbers K S a

  -- the statements of clause j
  statements_back : (j : ℕ) (xs ys : List Eight) → From statements (first_statement (fours actions) j) (xs ++ ys) → statement_count (fours actions) j ≡ length xs
      → statements_of (fours actions) (eights statements) j ≡ lists xs
  unfolding statements_of
  statements_back j xs ys f e =
      let n = first_statement (fours actions) j in
      let k = statement_count (fours actions) j in
      let e1 : records (length (eights statements) / 8) (eights statements) ≡ lists statements =
      ap (λ (m : ℕ). records m (eights statements)) (count_eights statements) ∙ records_eights statements in
      let e2 : drop n (lists statements) ≡ lists xs ++ lists ys = drop_lists n statements ∙ ap lists f.same ∙ lists_append xs ys in
      ap (λ (l : List (List ℕ)). take k (drop n l)) e1 ∙ ap (λ (l : List (List ℕ)). take k l) e2 ∙ take_at (lists xs) (lists ys) k (length_lists xs ∙ sym e)

  abbrev Actions : List Action → ℕ → ℕ → List Four → List Eight → List Eight → Type 0
  Actions l j n more moret moreg =
      From actions j (placed action_guards (λ a m. action_record a m ∷ []) l n ++ more)
      × From statements (first_statement (fours actions) j) (placed action_guards (λ a m. part_records a.body m) l n ++ moret)
      × From guards n (gathered action_guards l ++ moreg)

  pub actions_at : (l : List Action) (j n k : ℕ) (more : List Four) (moret moreg : List Eight) → Actions l j n more moret moreg → Every (ActionInside K S) l → k ≡ j + length l
      → All ActionAt j l × From statements (first_statement (fours actions) k) moret
  unfolding placed gathered body_of count_sum total
  actions_at [] j n k more moret moreg (f, h, g) i e = (tt, (let z : k ≡ j = omega arith in rw z h))
  actions_at (a ∷ l) j n k more moret moreg (f, h, g) i e =
      let m : ℕ = n + length (action_guards a) in
      let P = part_records a.body n in
      let rest = placed action_guards (λ a m. action_record a m ∷ []) l m ++ more in
      let restt = placed action_guards (λ a m. part_records a.body m) l m ++ moret in
      let restg = gathered action_guards l ++ moreg in
      let g1 = regroup guards n (action_guards a) (gathered action_guards l) moreg g in
      let h1 = regroup statements (first_statement (fours actions) j) P (placed action_guards (λ a m. part_records a.body m) l m) moret h in
      let count : statement_count (fours actions) j ≡ length P = u16_fours actions j (action_record a n) rest f 2 (j * 4 + 2) refl ∙ again16 (length P) in
      let h2 : From statements (first_statement (fours actions) (suc j)) restt =
      subst (λ (x : ℕ). From statements (first_statement (fours actions) j + x) restt) (sym count) (next statements (first_statement (fours actions) j) P restt h1) in
      let (r, u) = actions_at l (suc j) m k more moret moreg (next_one actions j (action_record a n) rest f, h2, next guards n (action_guards a) restg g1) i.1 (omega arith) in (
        (
          record {
            command = byte_fours actions j (action_record a n) rest f 0 (j * 4) (omega arith);
            zero_byte = byte_fours actions j (action_record a n) rest f 1 (j * 4 + 1) refl;
            body = ap (part_at 8 K S (eights guards)) (statements_back j P restt h1 count) ∙ part_read K S few guards a.body 8 n restg i.0.depth i.0.numbers.1 i.0.paths g1;
            numbers = i.0.numbers;
          },
          r,
        ),
        u,
      )

  module _ (states : List Four) where
    -- from state q and its first clauses w and a and guard record n on, the bodies are those of these states
    pub record Stand (q w a n : ℕ) (ss : List State) : Type 0 where
      pub sums : Before states q w a
      pub at_states : From states q (state_records ss w a)
      pub at_whens : From whens w (placed state_guards state_whens ss n)
      pub at_guards : From guards n (gathered state_guards ss)
      pub at_actions : From actions a (placed state_guards state_actions ss n)
      pub at_statements : From statements (first_statement (fours actions) a) (placed state_guards state_statements ss n)

    pub record StateAt (q : ℕ) (s : State) : Type 0 where
      pub when_number : when_count (state_bytes states) q ≡ length s.whens
      pub action_number : action_count (state_bytes states) q ≡ length s.actions
      pub all_whens : All (WhenAt (length s.actions)) (first_when (state_bytes states) q) s.whens
      pub all_actions : All ActionAt (first_action (state_bytes states) q) s.actions
      pub none_twice : NoneTwice s.actions

    -- behind the last state
    pub record Last (q : ℕ) : Type 0 where
      pub w : ℕ
      pub a : ℕ
      pub n : ℕ
      pub stand : Stand q w a n []

    pub states_at : (ss : List State) (q w a n k : ℕ) → Stand q w a n ss → Every (StateInside K S) ss → k ≡ q + length ss → All StateAt q ss × Last k
    unfolding placed gathered state_records
    states_at [] q w a n k st i e = (tt, record { w = w; a = a; n = n; stand = (let z : k ≡ q = omega arith in rw z st) })
    states_at (s ∷ ss) q w a n k st i e =
        let m : ℕ = n + length (state_guards s) in
        let w1 : ℕ = w + length s.whens in
        let a1 : ℕ = a + length s.actions in
        let W = gathered when_guards s.whens in
        let A = gathered action_guards s.actions in
        let restg = gathered state_guards ss in
        let restw = placed state_guards state_whens ss m in
        let resta = placed state_guards state_actions ss m in
        let restt = placed state_guards state_statements ss m in
        let r = state_read states q s w a (state_records ss w1 a1) st.sums st.at_states in
        let lw : w + length (state_whens s n) ≡ w1 = ap (λ (x : ℕ). w + x) (length_singles when_guards when_record s.whens n) in
        let la : a + length (state_actions s n) ≡ a1 = ap (λ (x : ℕ). a + x) (length_singles action_guards action_record s.actions (after_whens s n)) in
        let g1 = regroup guards n W A restg st.at_guards in
        let (acts, ends) = actions_at s.actions a (after_whens s n) a1 resta restt restg
        (st.at_actions, st.at_statements, next guards n W (A ++ restg) g1) i.0.actions refl in
        let on : Stand (suc q) w1 a1 m ss =
        record {
          sums = before_next states q s w a st.sums r;
          at_states = next_one states q (state_record s w a) (state_records ss w1 a1) st.at_states;
          at_whens = subst (λ (x : ℕ). From whens x restw) lw (next whens w (state_whens s n) restw st.at_whens);
          at_guards = next guards n (state_guards s) restg st.at_guards;
          at_actions = subst (λ (x : ℕ). From actions x resta) la (next actions a (state_actions s n) resta st.at_actions);
          at_statements = ends;
        } in
        let (all, last) = states_at ss (suc q) w1 a1 m k on i.1 (omega arith) in (
          (
            record {
              when_number = r.whens;
              action_number = r.actions;
              all_whens = subst (λ (x : ℕ). All (WhenAt (length s.actions)) x s.whens) (sym r.first_whens)
                  (whens_at (length s.actions) s.whens w n restw (A ++ restg) st.at_whens g1 i.0.whens);
              all_actions = subst (λ (x : ℕ). All ActionAt x s.actions) (sym r.first_actions) acts;
              none_twice = i.0.none_twice;
            },
            all,
          ),
          last,
        )
