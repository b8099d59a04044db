-- The state record read back: with state-record and state-bytes, the place that knows what stands where in it.
-- Assumes nothing.
use Prim.Native.Nat.{ℕ, suc, ◌+◌, ◌*◌, ◌<◌}
use mathlib.Core.Path.{◌≡◌, refl, ◌∙◌, ap}
use mathlib.Core.List.{List, [], ◌∷◌}
use lib.ListN.{length}
use Rattle.model.specs.Words.{total}
use Rattle.model.specs.Tree.{State}
use Rattle.records.specs.Bytes.{in_fours}
use Rattle.bodies.specs.Clauses.{count_sum, when_count, action_count, first_when, first_action}
use Rattle.encoding.specs.Records.{Four}
use Rattle.encoding.specs.Encoding.{state_record, state_records, state_bytes}
use Rattle.encoding.proofs.From.{From, again16, count_fours, u16_fours}
use Rattle.encoding.proofs.Small.{Small4, pair_small}

module _ (rs : List Four) (q : ℕ) where
  -- the first clauses of state q, which the records before it say
  pub record Before (w a : ℕ) : Type 0 where
    pub whens : first_when (state_bytes rs) q ≡ w
    pub actions : first_action (state_bytes rs) q ≡ a

  -- what is read of state q
  pub record StateRead (s : State) (w a : ℕ) : Type 0 where
    pub first_whens : first_when (state_bytes rs) q ≡ w
    pub whens : when_count (state_bytes rs) q ≡ length s.whens
    pub first_actions : first_action (state_bytes rs) q ≡ a
    pub actions : action_count (state_bytes rs) q ≡ length s.actions

  pub state_read : (s : State) (w a : ℕ) (xs : List Four) → Before w a → From rs q (state_record s w a ∷ xs) → StateRead s w a
  state_read s w a xs b f =
      let at = u16_fours rs q (state_record s w a) xs f in
      record {
        first_whens = b.whens;
        whens = at 0 (q * 4 + 0) refl ∙ again16 (length s.whens);
        first_actions = b.actions;
        actions = at 2 (q * 4 + 2) refl ∙ again16 (length s.actions);
      }

pub before_none : (rs : List Four) → Before rs 0 0 0
unfolding count_sum total
before_none rs = record { whens = refl; actions = refl }

pub before_next : (rs : List Four) (q : ℕ) (s : State) (w a : ℕ) → Before rs q w a → StateRead rs q s w a → Before rs (suc q) (w + length s.whens) (a + length s.actions)
unfolding count_sum total
before_next rs q s w a b r = record { whens = rw (b.whens, r.whens); actions = rw (b.actions, r.actions) }

pub length_states : (ss : List State) (w a : ℕ) → length (state_records ss w a) ≡ length ss
unfolding state_records
length_states [] w a = refl
length_states (s ∷ ss) w a = ap suc (length_states ss (w + length s.whens) (a + length s.actions))

pub count_states : (ss : List State) → in_fours (state_bytes (state_records ss 0 0)) ≡ length ss
count_states ss = count_fours (state_records ss 0 0) ∙ length_states ss 0 0

pub state_small : (s : State) (w a : ℕ) → length s.whens < 65536 → length s.actions < 65536 → Small4 (state_record s w a)
state_small s w a l m = pair_small (length s.whens) (length s.actions) l m
