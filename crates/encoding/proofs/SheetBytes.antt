-- The sheet of a class within the limits is a byte string.
-- Assumes nothing.
use Prim.Native.Nat.{ℕ, ◌+◌, ◌/◌, ◌%◌, ◌<◌, ◌≤◌, ◌^◌}
use native.Mathlib.Omega.{arith}
use mathlib.Core.List.{List, [], ◌∷◌, ◌++◌, map}
use lib.ListN.{length, length-append}
use Rattle.model.specs.Tree.{Referrer, move_to, run, stay, When, Statement, send, go_to, branch, Part, end, ◌then◌, Action, State}
use Rattle.encoding.specs.Records.{Eight, number, fours}
use Rattle.encoding.specs.Encoding.{pattern_number, guard_records, part_guards, statement_guards, part_records, own_record, inner_records, gathered, placed, when_guards, action_guards, state_guards, referrer_code, referrer_target, when_record, action_record, state_whens, after_whens, state_actions, state_statements, state_records, contents, laid_out}
use Rattle.encoding.specs.Numbers.{Every, ReferrerNumbers, PartNumbers, StatementNumbers}
use Rattle.encoding.proofs.All.{length_singles, every_append}
use Rattle.encoding.proofs.Inside.{WhenInside, ActionInside, StateInside}
use Rattle.encoding.proofs.Small.{Small, Small4, Small8, every_fours, four_small, zeros_small, pair_small, number_small, pattern_small}
use Rattle.encoding.proofs.StateRecord.{state_small}
use Rattle.encoding.proofs.Layouts.{Fits}

pub every_sets : (xs : List ℕ) → Every (λ s. s < 2 ^ 32) xs → Every Small4 (map number xs)
every_sets [] a = tt
every_sets (x ∷ xs) a = (number_small x a.0, every_sets xs a.1)

pub every_fits : (K : ℕ) (few : K ≤ 8) (rs : List Eight) → Every (Fits K few) rs → Every Small8 rs
every_fits K few [] a = tt
every_fits K few (r ∷ rs) a = (a.0.1, every_fits K few rs a.1)

code_small : (r : Referrer) → referrer_code r < 256
code_small (move_to q) = omega arith
code_small (run a) = omega arith
code_small stay = omega arith

target_small : (r : Referrer) (S own : ℕ) → S ≤ 32 → own ≤ 256 → ReferrerNumbers r S own → referrer_target r < 256
target_small (move_to q) S own l m w = omega arith
target_small (run a) S own l m w = omega arith
target_small stay S own l m w = omega arith

module _ (K S : ℕ) (few : K ≤ 8) (fewer : S ≤ 32) where
  whens_small : (own : ℕ) → own ≤ 256 → (ws : List When) (n : ℕ) → n + length (gathered when_guards ws) ≤ 1024 → Every (WhenInside K S own) ws
      → Every Small4 (placed when_guards (λ w m. when_record w m ∷ []) ws n)
  unfolding placed gathered
  whens_small own o [] n l i = tt
  whens_small own o (w ∷ ws) n l i =
      let e = length-append (when_guards w) (gathered when_guards ws) in (
        four_small (n % 256) (n / 256) (referrer_code w.referrer) (referrer_target w.referrer) (omega arith) (omega arith) (code_small w.referrer)
            (target_small w.referrer S own fewer o i.0.1.1),
        whens_small own o ws (n + length (when_guards w)) (omega arith) i.1,
      )

  mutual
    unfolding part_guards part_records PartNumbers

    part_small : (p : Part) (n : ℕ) → n + length (part_guards p) ≤ 1024 → length (part_records p n) ≤ 1024 → PartNumbers p K S → Every Small8 (part_records p n)
    part_small end n l m w = tt
    part_small (s then p) n l m w =
        let k : ℕ = n + length (statement_guards s) in
        let e = length-append (statement_guards s) (part_guards p) in
        let f = length-append (inner_records s n) (part_records p k) in (
          own_small s n (omega arith) (omega arith) w.0,
          every_append Small8 (inner_records s n) (part_records p k) (inner_small s n (omega arith) (omega arith) w.0) (part_small p k (omega arith) (omega arith) w.1),
        )

    own_small : (s : Statement) (n : ℕ) → n + length (statement_guards s) ≤ 1024 → length (inner_records s n) ≤ 1024 → StatementNumbers s K S → Small8 (own_record s n)
    own_small (send c p) n l m w = (four_small 0 c (pattern_number p) 0 (omega arith) (let z = w.0 in omega arith) (pattern_small p K few w.1) (omega arith), zeros_small)
    own_small (go_to q) n l m w = (four_small 1 q 0 0 (omega arith) (omega arith) (omega arith) (omega arith), zeros_small)
    own_small (branch g a b) n l m w =
        let k : ℕ = n + length (guard_records g) in
        let A = part_records a k in
        let B = part_records b (k + length (part_guards a)) in
        let e = length-append A B in
        (four_small 2 0 (n % 256) (n / 256) (omega arith) (omega arith) (omega arith) (omega arith), pair_small (length A) (length B) (omega arith) (omega arith))

    inner_small : (s : Statement) (n : ℕ) → n + length (statement_guards s) ≤ 1024 → length (inner_records s n) ≤ 1024 → StatementNumbers s K S → Every Small8 (inner_records s n)
    inner_small (send c p) n l m w = tt
    inner_small (go_to q) n l m w = tt
    inner_small (branch g a b) n l m w =
        let k : ℕ = n + length (guard_records g) in
        let A = part_records a k in
        let B = part_records b (k + length (part_guards a)) in
        let e = length-append A B in
        let f = length-append (guard_records g) (part_guards a ++ part_guards b) in
        let h = length-append (part_guards a) (part_guards b) in
        every_append Small8 A B (part_small a k (omega arith) (omega arith) w.1) (part_small b (k + length (part_guards a)) (omega arith) (omega arith) w.2)

  abbrev Bodied : List Action → ℕ → List Eight
  Bodied l n = placed action_guards (λ a m. part_records a.body m) l n

  actions_small : (l : List Action) (n : ℕ) → n + length (gathered action_guards l) ≤ 1024 → length (Bodied l n) ≤ 1024 → Every (ActionInside K S) l
      → Every Small4 (placed action_guards (λ a m. action_record a m ∷ []) l n) × Every Small8 (Bodied l n)
  unfolding placed gathered
  actions_small [] n l m i = (tt, tt)
  actions_small (a ∷ r) n l m i =
      let k : ℕ = n + length (action_guards a) in
      let P = part_records a.body n in
      let e = length-append (action_guards a) (gathered action_guards r) in
      let f = length-append P (Bodied r k) in
      let (u, v) = actions_small r k (omega arith) (omega arith) i.1 in (
        (four_small a.command 0 (length P % 256) (length P / 256) (let z = i.0.numbers.0 in omega arith) (omega arith) (omega arith) (omega arith), u),
        every_append Small8 P (Bodied r k) (part_small a.body n (omega arith) (omega arith) i.0.numbers.1) v,
      )

  pub record StatesSmall (ss : List State) (n w a : ℕ) : Type 0 where
    pub states : Every Small4 (state_records ss w a)
    pub whens : Every Small4 (placed state_guards state_whens ss n)
    pub actions : Every Small4 (placed state_guards state_actions ss n)
    pub statements : Every Small8 (placed state_guards state_statements ss n)

  pub states_small : (ss : List State) (n w a : ℕ) → n + length (gathered state_guards ss) ≤ 1024
      → length (placed state_guards state_whens ss n) ≤ 256 → length (placed state_guards state_actions ss n) ≤ 256
      → length (placed state_guards state_statements ss n) ≤ 1024 → Every (StateInside K S) ss → StatesSmall ss n w a
  unfolding placed gathered state_records
  states_small [] n w a lg lw la lt i = record { states = tt; whens = tt; actions = tt; statements = tt }
  states_small (s ∷ ss) n w a lg lw la lt i =
      let m : ℕ = n + length (state_guards s) in
      let G = gathered when_guards s.whens in
      let H = gathered action_guards s.actions in
      let restw = placed state_guards state_whens ss m in
      let resta = placed state_guards state_actions ss m in
      let restt = placed state_guards state_statements ss m in
      let e1 = length-append (state_guards s) (gathered state_guards ss) in
      let e2 = length-append G H in
      let e3 = length-append (state_whens s n) restw in
      let e4 = length-append (state_actions s n) resta in
      let e5 = length-append (state_statements s n) restt in
      let e6 = length_singles when_guards when_record s.whens n in
      let e7 = length_singles action_guards action_record s.actions (after_whens s n) in
      let r = states_small ss m (w + length s.whens) (a + length s.actions) (omega arith) (omega arith) (omega arith) (omega arith) i.1 in
      let (u, v) = actions_small s.actions (after_whens s n) (omega arith) (omega arith) i.0.actions in
      record {
        states = (state_small s w a (omega arith) (omega arith), r.states);
        whens = every_append Small4 (state_whens s n) restw (whens_small (length s.actions) (omega arith) s.whens n (omega arith) i.0.whens) r.whens;
        actions = every_append Small4 (state_actions s n) resta u r.actions;
        statements = every_append Small8 (state_statements s n) restt v r.statements;
      }

-- the contents
contents_small : (bs : List (List ℕ)) (n : ℕ) → n + length (gathered (λ b. b) bs) < 65536 → Every Small4 (contents n bs)
unfolding contents gathered
contents_small [] n l = tt
contents_small (b ∷ bs) n l =
    let e = length-append b (gathered (λ b. b) bs) in
    (pair_small n (length b) (omega arith) (omega arith), contents_small bs (n + length b) (omega arith))

pub laid_small : (bs : List (List ℕ)) → 24 + length (gathered (λ b. b) bs) < 65536 → Every Small (gathered (λ b. b) bs) → Every Small (laid_out bs)
laid_small bs l a = every_append Small (fours (contents 24 bs)) (gathered (λ b. b) bs) (every_fours (contents 24 bs) (contents_small bs 24 l)) a
