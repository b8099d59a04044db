-- What a block does: its words are the truths of the guards, so its moves are the class's, and the levels tell its loops and its longest phase.
-- Assumes nothing.
use Prim.Native.Nat.{ℕ, suc, ◌+◌, ◌-◌, ◌%◌, ◌<◌, ◌≤◌}
use native.Mathlib.Omega.{arith}
use mathlib.Core.Path.{◌≡◌, refl, sym, ap, ◌∙◌, subst}
use mathlib.Core.Bool.{Bool, true, ◌&&◌}
use mathlib.Core.List.{List}
use mathlib.Core.Logic.{◌⊎◌, inl, inr}
use mathlib.Core.Option.{Option}
use lib.ListN.{length, get_or}
use borrow.Author.Tests.{lt-ltb}
use Rattle.model.specs.Words.{has}
use Rattle.model.specs.Tree.{Child, everyone, any_in, atom, stay, When}
use Rattle.model.specs.Moves.{can, is_at}
use Rattle.model.specs.Node.{own_states, state_of}
use Rattle.model.specs.Sound.{ReferrerRight, Sound}
use Rattle.model.proofs.Words.{true_not_false, and_left, and_right}
use Rattle.model.proofs.NodeLaws.{get_or_mem, next_within}
use Rattle.records.specs.Bytes.{in_fours}
use Rattle.bodies.specs.Clauses.{when_count, first_when, first_action, guard_place}
use Rattle.sheet.specs.Contents.{body, bodies}
use Rattle.sheet.specs.Reading.{when_in, class_of}
use Rattle.sheet.specs.declared.judging.Places.{Places}
use Rattle.sheet.proofs.Reading.{child_classes_in}
use Rattle.sheet.proofs.Sound.{sound}
use Rattle.model.specs.Crews.{child_classes}
use Rattle.configurations.specs.Configurations.{cells, list_of}
use Rattle.configurations.specs.LoopAnswer.{counts, has_loop}
use Rattle.configurations.specs.Blocks.{next_in, BlockLongest}
use Rattle.configurations.proofs.Blocks.{loop_counts}
use Rattle.lanes.specs.Lanes.{Lanes, in_block}
use Rattle.lanes.specs.Masks.{true_in}
use Rattle.lanes.specs.Counting.{present_met}
use Rattle.lanes.specs.declared.counting.Present.{Present}
use Rattle.lanes.proofs.LaneLaws.{lanes_as, lanes_empty}
use Rattle.lanes.proofs.CountingLaws.{met_counts}
use Rattle.truths.specs.Words.{Filled}
use Rattle.truths.specs.declared.plans.Plan.{Plan}
use Rattle.truths.proofs.Truths.{truth_right}
use Rattle.sweeps.specs.Sweeps.{WordsFor}
use Rattle.arrows.specs.Sorting.{aim, Own, TablesFor, Sorted}
use Rattle.arrows.specs.Levels.{lane_can, some_can, LevelsAre}
use Rattle.arrows.specs.declared.sorting.Clauses.{Clauses}
use Rattle.std.specs.Prelude.{Result, Ok, Err}
use Rattle.arrows.proofs.LevelLaws.{some_both}
use Rattle.arrows.proofs.Steps.{Fits, Told, own_aim, leads_next, Steps, lane_steps}
use Rattle.blocks.specs.Search.{TablesOf, BlockDoes, BlockIs}
use Rattle.accepted.proofs.ClauseLaws.{states_few, states_some, classes_few, states_are, all_whens, next_first, when_of, when_number, guard_read, body_at}
use Rattle.blocks.proofs.ClauseLaws.{referrer_fits, span, last_action, clause_read, ranges}

-- a when clause to stand where there is none
abbrev no_when : When
no_when = record { guard = atom any_in everyone 0; referrer = stay }

module _ (b : List ℕ) (p : Places) (present : ℕ) (plan : Plan) (clauses : Clauses) (statements : List ℕ) (there : Present) (T : TablesOf b p present plan clauses statements there) where
  is_sound : Sound (class_of b)
  is_sound = sound b T.bytes T.stands.accepted

  pub states_own : clauses.states ≡ own_states (class_of b)
  states_own = T.listed.number ∙ sym (states_are b p T.stands)

  classes_most : child_classes (class_of b) ≤ 8
  unfolding class_of bodies
  classes_most = let a : child_classes (class_of b) ≡ in_fours (body b 0) = child_classes_in (bodies b) in let m = classes_few b p T.stands in omega arith

  module _ (base cw : ℕ) (round : base % 64 ≡ 0) (K : Lanes cw (in_block base (present_met there.classes there.masks 8))) where
    -- the lanes that count
    counted_is : (i : ℕ) → i < 64 → has cw i ≡ counts (class_of b) present (base + i)
    counted_is i l = K.lane i l ∙ met_counts (class_of b) present there T.counts classes_most T.below (base + i)

    -- a block in which none does
    pub block_none : cw ≡ 0 → BlockLongest (class_of b) present base 0
    block_none z =
        record {
          fewer = (let e = states_are b p T.stands in let l = states_some b p T.stands in omega arith);
          none_more = λ i q il ql t. absurd (true_not_false t (sym (counted_is i il) ∙ K.lane i il ∙ lanes_empty K z i il));
          one_makes = inl refl;
        }

    module _ (before words : List ℕ) (F : Filled 0 plan.count plan.kinds plan.sizes plan.masks plan.lows base before words) where
      -- the children of lane i
      abbrev list_in : ℕ → List Child
      list_in i = list_of (class_of b) present (base + i)

      words_for : WordsFor (body b 3) list_in words
      unfolding true_in list_of
      words_for = record { word = λ place g e r. truth_right (body b 3) (cells (class_of b) present) plan T.planned base round before words F place g e r }

      -- clause j of state q, which is clause a of the sheet
      module _ (q : ℕ) (ql : q < clauses.states) (j a : ℕ) (e : a ≡ get_or clauses.firsts q 0 + j) (l : j < length (state_of (class_of b) q).whens) where
        low : q < in_fours (body b 1)
        low = let z = T.listed.number in omega arith

        first_is : get_or clauses.firsts q 0 ≡ first_when (body b 1) q
        first_is = T.listed.firsts_right.first q (let m = low in omega arith)

        counted_few : j < when_count (body b 1) q
        counted_few = let z = when_number b p T.stands q low in omega arith

        inside : a < in_fours (body b 2)
        inside = let (x, y) = span b p T.stands clauses T.listed q ql in let m = counted_few in omega arith

        when_is : get_or (state_of (class_of b) q).whens j no_when ≡ when_in (bodies b) a
        when_is = when_of b p T.stands q j no_when low counted_few ∙ ap (when_in (bodies b)) (let f = first_is in let z : first_when (body b 1) q + j ≡ a = omega arith in z)

        aimed : get_or clauses.aims a 0 ≡ aim q (first_action (body b 1) q) (when_in (bodies b) a).referrer
        unfolding when_in bodies
        aimed =
            let f = first_is in
            let m = counted_few in
            let n = next_first b p T.stands q in
            T.listed.whens.aimed q a low (omega arith) (omega arith)

        fits : Fits (body_at b p T.stands) (class_of b) q (first_action (body b 1) q) (first_action (body b 1) (q + 1)) (when_in (bodies b) a).referrer
        fits =
            referrer_fits b p T.stands q low (when_in (bodies b) a).referrer
            (subst (λ (w : When). ReferrerRight (class_of b) q w.referrer) when_is (is_sound.referrers q (get_or (state_of (class_of b) q).whens j no_when) (get_or_mem (state_of (class_of b) q).whens j no_when l)))

        -- in lane i
        told : (i : ℕ) → i < 64 → Told clauses.places clauses.aims words i (list_in i) (body_at b p T.stands) (class_of b) q (first_action (body b 1) q) (first_action (body b 1) (q + 1)) a (get_or (state_of (class_of b) q).whens j no_when)
        unfolding when_in bodies
        told i il =
            let (u, v) = guard_read b p T.stands a inside in
            rw when_is
            (record {
              truth = rw (T.listed.whens.place a (let n = inside in let z = all_whens b p T.stands in omega arith)) ((words_for.word (guard_place (body b 2) a) (when_in (bodies b) a).guard u v).lane i il);
              aimed = aimed;
              fits = fits;
            })

      -- the tables are for these children
      actions_is : (q : ℕ) → q ≤ clauses.states → get_or clauses.actions q 0 ≡ first_action (body b 1) q
      actions_is q l = T.listed.actions_right.first q (let z = T.listed.number in omega arith)

      tables_for : TablesFor clauses.aims clauses.firsts clauses.actions clauses.froms statements clauses.states words (body b 3) list_in (body_at b p T.stands)
      tables_for =
          record {
            words_right = words_for;
            own = own;
            bodies = λ a u v. rw T.stated (clause_read b p T.stands clauses T.listed a (let z = last_action b p T.stands clauses T.listed in omega arith));
          }
        where
          own : (q m : ℕ) → q < clauses.states → get_or clauses.firsts q 0 ≤ m → m < get_or clauses.firsts (q + 1) 0 → Own clauses.actions q (get_or clauses.aims m 0)
          own q m ql x y =
              let (u, v) = span b p T.stands clauses T.listed q ql in
              let z : m ≡ get_or clauses.firsts q 0 + (m - get_or clauses.firsts q 0) = omega arith in
              let n = when_number b p T.stands q (let w = T.listed.number in omega arith) in
              let l : m - get_or clauses.firsts q 0 < length (state_of (class_of b) q).whens = omega arith in
              let A = actions_is q (omega arith) in
              let B = actions_is (q + 1) (omega arith) in
              let f = fits q ql (m - get_or clauses.firsts q 0) m z l in
              let g = aimed q ql (m - get_or clauses.firsts q 0) m z l in
              rw g (subst (λ (y : ℕ). Own clauses.actions q (aim q y (when_in (bodies b) m).referrer)) A
              (own_aim clauses.actions (body_at b p T.stands) (class_of b) q (when_in (bodies b) m).referrer (rw (A, B) f)))

      module _ (table : List ℕ) (A : Sorted clauses.places clauses.aims clauses.firsts clauses.actions clauses.froms statements clauses.states clauses.states words cw table) where
        long : (q : ℕ) → q < clauses.states → get_or clauses.firsts (q + 1) 0 - get_or clauses.firsts q 0 ≡ length (state_of (class_of b) q).whens
        long q ql =
            let (x, y) = span b p T.stands clauses T.listed q ql in
            let z = when_number b p T.stands q (let e = T.listed.number in omega arith) in
            omega arith

        few : clauses.states ≤ 32
        few = let e = T.listed.number in let f = states_few b p T.stands in omega arith

        actions_end : (q : ℕ) → q < clauses.states → first_action (body b 1) (q + 1) ≤ 256
        actions_end q ql =
            let R = ranges b p T.stands clauses T.listed in
            let x = R.actions_rising (q + 1) clauses.states (omega arith) (omega arith) in
            let y = R.actions_inside in
            let z = actions_is (q + 1) (omega arith) in
            omega arith

        -- the moves of the block are the class'clauses.states
        steps : Steps clauses.states table cw (λ i. next_in (class_of b) present (base + i))
        steps =
            record {
              within = λ i il. rw states_own (next_within (class_of b) (list_in i) is_sound);
              word = λ q t i ql tl il.
                  let f = few in
                  A.moves (body b 3) list_in (body_at b p T.stands) tables_for q t i (omega arith) (omega arith) il
                  ∙ rw (lt-ltb q clauses.states ql)
                  (ap (λ (o : Option ℕ). has cw i && is_at t o)
                  (leads_next clauses.places clauses.aims clauses.firsts words i (list_in i) (body_at b p T.stands) no_when (class_of b) q (first_action (body b 1) q) (first_action (body b 1) (q + 1)) (omega arith) (actions_end q ql) (long q ql)
                  (λ j a e l. told q ql j a e l i il)));
            }

        lane_moves : (k q i : ℕ) → q < clauses.states → i < 64 → lane_can clauses.states table cw k q i ≡ (counts (class_of b) present (base + i) && can (next_in (class_of b) present (base + i)) k q)
        lane_moves k q i ql il =
            lane_steps clauses.states table cw (λ i. next_in (class_of b) present (base + i)) steps k q i ql il
            ∙ ap (λ (x : Bool). x && can (next_in (class_of b) present (base + i)) k q) (counted_is i il)

        -- so are its loops
        lane_loops : (i : ℕ) → i < 64 → some_can clauses.states table cw clauses.states i ≡ has_loop (class_of b) present (base + i)
        lane_loops i il =
            some_both (counts (class_of b) present (base + i)) clauses.states (λ q. lane_can clauses.states table cw clauses.states q i) (can (next_in (class_of b) present (base + i)) clauses.states) (λ q ql. lane_moves clauses.states q i ql il)
            ∙ rw states_own (sym (loop_counts (class_of b) is_sound present (base + i)))

        pub block_does : (r : Result ℕ ℕ) → LevelsAre clauses.states table cw r → BlockDoes b present base r
        block_does (Err w) (W, d) = (lanes_as (in_block base (has_loop (class_of b) present)) W lane_loops, d)
        block_does (Ok m) L =
            record {
              fewer = (let e = states_own in let f = L.fewer in omega arith);
              none_more = λ i q il ql t.
                  let low : q < clauses.states = (let e = states_own in omega arith) in
                  let h = sym (lane_moves (suc m) q i low il) ∙ L.none_more i q il low in
                  rw t at h;
              one_makes = go L.one_makes;
            }
          where
            go : (m ≡ 0) ⊎ ((i : ℕ) × (q : ℕ) × (i < 64) × (q < clauses.states) × (lane_can clauses.states table cw m q i ≡ true))
                → (m ≡ 0) ⊎ ((i : ℕ) × (q : ℕ) × (i < 64) × (q < own_states (class_of b)) × (counts (class_of b) present (base + i) ≡ true) × (can (next_in (class_of b) present (base + i)) m q ≡ true))
            go (inl z) = inl z
            go (inr (i, q, il, ql, t)) =
                let h = sym (lane_moves m q i ql il) ∙ t in
                let C : Bool = counts (class_of b) present (base + i) in
                let D : Bool = can (next_in (class_of b) present (base + i)) m q in
                inr (i, q, il, (let e = states_own in omega arith), and_left C D h, and_right C D h)

-- so for whatever sheet the tables are of
module _ (g : Plan) (k : Clauses) (statements : List ℕ) (there : Present) (base cw : ℕ) (round : base % 64 ≡ 0) (K : Lanes cw (in_block base (present_met there.classes there.masks 8))) where
  pub block_skipped : cw ≡ 0 → BlockIs g k statements there base (Ok 0)
  block_skipped z = record { does = λ b p present T. block_none b p present g k statements there T base cw round K z }

  pub block_is : (before words table : List ℕ) (r : Result ℕ ℕ) → Filled 0 g.count g.kinds g.sizes g.masks g.lows base before words
      → Sorted k.places k.aims k.firsts k.actions k.froms statements k.states k.states words cw table → LevelsAre k.states table cw r → BlockIs g k statements there base r
  block_is before words table r F A L = record { does = λ b p present T. block_does b p present g k statements there T base cw round K before words F table A r L }
