-- Laws about specs/ClauseTables.antt: a state, a clause and an action clause more, and that the tables of an accepted sheet are its class's clauses.
-- Assumes nothing.
use Prim.Native.Nat.{ℕ, zero, suc, ◌+◌, ◌*◌, ◌-◌, ◌<◌, ◌≤◌}
use native.Mathlib.Omega.{arith}
use native.Mathlib.Decide.{ℕ_discrete}
use native.Mathlib.Numerals.{add-one}
use mathlib.Core.Path.{◌≡◌, refl, sym, ap, ◌∙◌, subst}
use mathlib.Core.List.{List}
use mathlib.Core.Logic.{◌⊎◌, inl, inr}
use lib.ListN.{length, get_or, set, length-set, replicate}
use lib.Seq.{get_or-set_same, get_or-set_other}
use Rattle.model.specs.Tree.{Referrer, move_to, run, stay, Action}
use Rattle.model.specs.Sound.{ReferrerRight}
use Rattle.model.proofs.Words.{below_next, lt_or_le}
use Rattle.model.proofs.Lists.{get_or_zeros}
use Rattle.records.specs.Bytes.{in_fours, in_eights}
use Rattle.bodies.specs.Clauses.{count_sum, when_count, first_when, action_count, first_action, guard_place, statement_count, first_statement}
use Rattle.bodies.specs.PartChecks.{Reads}
use Rattle.bodies.proofs.CheckLaws.{sum_none, sum_next}
use Rattle.bodies.proofs.StatementLaws.{sum_inside}
use Rattle.sheet.specs.Contents.{body}
use Rattle.sheet.specs.Reading.{class_of}
use Rattle.sheet.specs.Verdict.{Stands}
use Rattle.sheet.specs.declared.judging.Places.{Places}
use Rattle.accepted.proofs.ClauseLaws.{whens_few, states_few, states_are, actions_few, all_actions, all_statements, next_first, next_action, first_inside, body_at, body_read, action_number, action_at}
use Rattle.arrows.specs.Sorting.{aim, clause_bytes, Ranges}
use Rattle.arrows.specs.declared.sorting.Clauses.{Clauses}
use Rattle.arrows.proofs.Steps.{Fits}
use Rattle.blocks.specs.ClauseTables.{FirstsOf, FromsOf, referrer_in, ReadState, StateLent, WhensOf, ClausesOf}

-- the firsts of the first n states
pub record FirstsTo (states : List ℕ) (offset : ℕ) (firsts : List ℕ) (n : ℕ) : Type 0 where
  pub few : n ≤ in_fours states + 1
  pub long : length firsts ≡ 33
  pub first : (q : ℕ) → q < n → get_or firsts q 0 ≡ count_sum states offset q
  pub no_first : (q : ℕ) → n ≤ q → get_or firsts q 0 ≡ 0

module _ (states : List ℕ) (offset : ℕ) where
  pub firsts_start : FirstsTo states offset (replicate 33 0) 0
  firsts_start = record { few = omega arith; long = refl; first = λ q l. absurd (omega arith); no_first = λ q l. get_or_zeros 33 q }

  pub firsts_more : (firsts : List ℕ) (n v s : ℕ) → FirstsTo states offset firsts n → s ≡ in_fours states → n ≤ s → s ≤ 32 → v ≡ count_sum states offset n → FirstsTo states offset (set firsts n v) (n + 1)
  firsts_more firsts n v s F e l m h =
      record {
        few = omega arith;
        long = length-set firsts n v ∙ F.long;
        first = λ q u. below_next (λ q. get_or (set firsts n v) q 0 ≡ count_sum states offset q) n
            (λ j k. get_or-set_other firsts n j v 0 (λ z. omega arith) ∙ F.first j k)
            (get_or-set_same firsts n v 0 (let x = F.long in omega arith) ∙ h) q (let z : q < suc n = omega arith in z);
        no_first = λ q u. get_or-set_other firsts n q v 0 (λ z. omega arith) ∙ F.no_first q (omega arith);
      }

  pub firsts_end : (firsts : List ℕ) (n s : ℕ) → FirstsTo states offset firsts n → s ≡ in_fours states → s < n → FirstsOf states offset firsts
  firsts_end firsts n s F e l =
      let f = F.few in
      record { long = F.long; first = λ q u. F.first q (omega arith); no_first = λ q u. F.no_first q (omega arith) }

-- the starts of the first n action clauses, and where the last of them ends
pub record FromsTo (actions froms : List ℕ) (n from : ℕ) : Type 0 where
  pub small : from ≤ n * 524288
  pub here : from ≡ first_statement actions n * 8
  pub long : length froms ≡ 257
  pub starts : (a : ℕ) → a < n + 1 → get_or froms a 0 ≡ first_statement actions a * 8
  pub no_start : (a : ℕ) → n < a → get_or froms a 0 ≡ 0

module _ (actions : List ℕ) where
  pub froms_start : FromsTo actions (replicate 257 0) 0 0
  froms_start =
      let z = sum_none actions 2 in
      record {
        small = omega arith;
        here = omega arith;
        long = refl;
        starts = λ a l. let e : a ≡ 0 = omega arith in rw e (get_or_zeros 257 0 ∙ omega arith);
        no_start = λ a l. get_or_zeros 257 a;
      }

  pub froms_more : (froms : List ℕ) (n from count : ℕ) → FromsTo actions froms n from → n < 256 → count ≡ statement_count actions n → count < 65536
      → FromsTo actions (set froms (n + 1) (from + count * 8)) (n + 1) (from + count * 8)
  froms_more froms n from count F l e w =
      let h = F.here in
      let s = F.small in
      let next : from + count * 8 ≡ first_statement actions (n + 1) * 8 = (let z = sum_next actions 2 n (first_statement actions n) count refl e in omega arith) in
      record {
        small = omega arith;
        here = next;
        long = length-set froms (n + 1) (from + count * 8) ∙ F.long;
        starts = λ a u. below_next (λ a. get_or (set froms (n + 1) (from + count * 8)) a 0 ≡ first_statement actions a * 8) (n + 1)
            (λ j k. get_or-set_other froms (n + 1) j (from + count * 8) 0 (λ z. omega arith) ∙ F.starts j k)
            (get_or-set_same froms (n + 1) (from + count * 8) 0 (let x = F.long in omega arith) ∙ next) a (let z : a < suc (n + 1) = omega arith in z);
        no_start = λ a u. get_or-set_other froms (n + 1) a (from + count * 8) 0 (λ z. omega arith) ∙ F.no_start a (omega arith);
      }

  pub froms_end : (froms : List ℕ) (n from s : ℕ) → FromsTo actions froms n from → s ≡ in_fours actions → n ≤ s → s ≤ n → FromsOf actions froms
  froms_end froms n from s F e l m = record { long = F.long; from = λ a u. F.starts a (omega arith); no_from = λ a u. F.no_start a (omega arith) }

-- a clause of a state more
module _ (whens : List ℕ) (first q action : ℕ) (old_places old_aims : List ℕ) where
  pub read_start : ReadState whens first first q action old_places old_aims old_places old_aims
  read_start =
      record {
        places_long = refl;
        aims_long = refl;
        place = λ w a b. absurd (omega arith);
        aimed = λ w a b. absurd (omega arith);
        kept_place = λ w h. refl;
        kept_aim = λ w h. refl;
      }

  pub read_more : (n : ℕ) (places aims : List ℕ) (g t : ℕ) (r : Referrer) → ReadState whens first n q action old_places old_aims places aims → first ≤ n → n < length old_places → n < length old_aims
      → g ≡ guard_place whens n → r ≡ referrer_in whens n → t ≡ aim q action r → ReadState whens first (n + 1) q action old_places old_aims (set places n g) (set aims n t)
  read_more n places aims g t r R f pl al eg er et =
      record {
        places_long = length-set places n g ∙ R.places_long;
        aims_long = length-set aims n t ∙ R.aims_long;
        place = λ w a b. at_place w a b (ℕ_discrete w n);
        aimed = λ w a b. at_aim w a b (ℕ_discrete w n);
        kept_place = λ w h. get_or-set_other places n w g 0 (apart w h) ∙ R.kept_place w (still w h);
        kept_aim = λ w h. get_or-set_other aims n w t 0 (apart w h) ∙ R.kept_aim w (still w h);
      }
    where
      apart : (w : ℕ) → (w < first) ⊎ (n + 1 ≤ w) → w ≡ n → ⊥
      apart w (inl l) z = omega arith
      apart w (inr l) z = omega arith

      still : (w : ℕ) → (w < first) ⊎ (n + 1 ≤ w) → (w < first) ⊎ (n ≤ w)
      still w (inl l) = inl l
      still w (inr l) = inr (omega arith)

      before : (w : ℕ) → w < n + 1 → (w ≡ n → ⊥) → w < n
      before w l d = go (lt_or_le w n)
        where
          go : (w < n) ⊎ (n ≤ w) → w < n
          go (inl u) = u
          go (inr u) = absurd (d (let z : w ≡ n = omega arith in z))

      at_place : (w : ℕ) → first ≤ w → w < n + 1 → Dec (w ≡ n) → get_or (set places n g) w 0 ≡ guard_place whens w
      at_place w a b (yes z) = rw z (get_or-set_same places n g 0 (let x = R.places_long in omega arith) ∙ eg)
      at_place w a b (no d) = get_or-set_other places n w g 0 d ∙ R.place w a (before w b d)

      at_aim : (w : ℕ) → first ≤ w → w < n + 1 → Dec (w ≡ n) → get_or (set aims n t) w 0 ≡ aim q action (referrer_in whens w)
      at_aim w a b (yes z) = rw z (get_or-set_same aims n t 0 (let x = R.aims_long in omega arith) ∙ et ∙ ap (aim q action) er)
      at_aim w a b (no d) = get_or-set_other aims n w t 0 d ∙ R.aimed w a (before w b d)

  pub read_end : (n last : ℕ) (places aims : List ℕ) → ReadState whens first n q action old_places old_aims places aims → n ≤ last → last ≤ n → ReadState whens first last q action old_places old_aims places aims
  read_end n last places aims R l m = let z : n ≡ last = omega arith in rw z at R

-- a sum is at least one over fewer records
sum_rises : (b : List ℕ) (offset q r : ℕ) → q ≤ r → count_sum b offset q ≤ count_sum b offset r
sum_rises b offset zero r l = let z = sum_none b offset in omega arith
sum_rises b offset (suc i) r l = rw add-one at (sum_inside b offset i r (count_sum b offset r) (omega arith) refl)

-- a state more
module _ (states whens : List ℕ) where
  pub whens_start : WhensOf states whens 0 (replicate 256 0) (replicate 256 0)
  whens_start =
      let z = sum_none states 0 in
      record {
        places_long = refl;
        aims_long = refl;
        place = λ w l. absurd (omega arith);
        aimed = λ q w l. absurd (omega arith);
        no_place = λ w l. get_or_zeros 256 w;
        no_aim = λ w l. get_or_zeros 256 w;
      }

  pub whens_more : (n first last action : ℕ) (places aims places₁ aims₁ : List ℕ) → WhensOf states whens n places aims → first ≡ first_when states n → last ≡ first_when states (n + 1) → action ≡ first_action states n
      → ReadState whens first last n action places aims places₁ aims₁ → WhensOf states whens (n + 1) places₁ aims₁
  whens_more n first last action places aims places₁ aims₁ W ef el ea R =
      let rise = sum_rises states 0 n (n + 1) (omega arith) in
      record {
        places_long = R.places_long ∙ W.places_long;
        aims_long = R.aims_long ∙ W.aims_long;
        place = λ w l. at_place w l (lt_or_le w first);
        aimed = λ q w l a b. at_aim q w a b (lt_or_le q n) l;
        no_place = λ w l. R.kept_place w (inr (omega arith)) ∙ W.no_place w (omega arith);
        no_aim = λ w l. R.kept_aim w (inr (omega arith)) ∙ W.no_aim w (omega arith);
      }
    where
      at_place : (w : ℕ) → w < first_when states (n + 1) → (w < first) ⊎ (first ≤ w) → get_or places₁ w 0 ≡ guard_place whens w
      at_place w l (inl u) = R.kept_place w (inl u) ∙ W.place w (omega arith)
      at_place w l (inr u) = R.place w u (omega arith)

      at_aim : (q w : ℕ) → first_when states q ≤ w → w < first_when states (q + 1) → (q < n) ⊎ (n ≤ q) → q < n + 1 → get_or aims₁ w 0 ≡ aim q (first_action states q) (referrer_in whens w)
      at_aim q w a b (inl u) l = R.kept_aim w (inl (let z = sum_rises states 0 (q + 1) n (omega arith) in omega arith)) ∙ W.aimed q w u a b
      at_aim q w a b (inr u) l =
          let z : q ≡ n = omega arith in
          let x : first_when states n ≤ w = rw z at a in
          let y : w < first_when states (n + 1) = rw z at b in
          rw (z, ← ea) (R.aimed w (omega arith) (omega arith))

  -- read by the tables of the firsts
  pub state_read : (firsts actions : List ℕ) (n s : ℕ) (places aims places₁ aims₁ : List ℕ) → FirstsOf states 0 firsts → FirstsOf states 2 actions → s ≡ in_fours states → n < s → WhensOf states whens n places aims
      → ReadState whens (get_or firsts n 0) (get_or firsts (n + 1) 0) n (get_or actions n 0) places aims places₁ aims₁ → WhensOf states whens (n + 1) places₁ aims₁
  state_read firsts actions n s places aims places₁ aims₁ F A e l W R =
      whens_more n (get_or firsts n 0) (get_or firsts (n + 1) 0) (get_or actions n 0) places aims places₁ aims₁ W (F.first n (omega arith)) (F.first (n + 1) (omega arith)) (A.first n (omega arith)) R

-- the firsts of a body's states
pub firsts_of : (b states : List ℕ) (offset : ℕ) (firsts : List ℕ) → states ≡ body b 1 → FirstsOf states offset firsts → FirstsOf (body b 1) offset firsts
firsts_of b states offset firsts e F = subst (λ (x : List ℕ). FirstsOf x offset firsts) e F

-- all clauses
pub read_all : (b whens places aims firsts actions froms clauses : List ℕ) (n s : ℕ) → whens ≡ body b 2 → clauses ≡ body b 4 → WhensOf (body b 1) whens n places aims → n ≤ s → s ≤ n
    → FirstsOf (body b 1) 0 firsts → FirstsOf (body b 1) 2 actions → FromsOf clauses froms → s ≡ in_fours (body b 1)
    → ClausesOf b (record { places = places; aims = aims; firsts = firsts; actions = actions; froms = froms; states = s })
read_all b whens places aims firsts actions froms clauses n s ew ec W l m F A R e =
    let z : n ≡ in_fours (body b 1) = omega arith in
    record {
      whens = rw (← ew, ← z) W;
      firsts_right = F;
      actions_right = A;
      froms_right = subst (λ (x : List ℕ). FromsOf x froms) ec R;
      number = e;
    }

-- the tables of an accepted sheet
module _ (b : List ℕ) (p : Places) (stands : Stands b p) where
  -- what is lent for state q
  pub state_lent : (firsts actions places aims : List ℕ) (q s : ℕ) → FirstsOf (body b 1) 0 firsts → FirstsOf (body b 1) 2 actions → s ≡ in_fours (body b 1) → q < s → length places ≡ 256 → length aims ≡ 256
      → StateLent (get_or firsts q 0) (get_or firsts (q + 1) 0) q (get_or actions q 0) places aims
  state_lent firsts actions places aims q s F A e l lp la =
      let low : q < in_fours (body b 1) = omega arith in
      let x = F.first q (omega arith) in
      let y = F.first (q + 1) (omega arith) in
      let z = A.first q (omega arith) in
      record {
        rising = (let r = sum_rises (body b 1) 0 q (q + 1) (omega arith) in omega arith);
        inside = (let i = first_inside b p stands q low in let w = whens_few b p stands in omega arith);
        state = (let f = states_few b p stands in omega arith);
        few = (let r = sum_rises (body b 1) 2 q (in_fours (body b 1)) (omega arith) in let a = all_actions b p stands in let f = actions_few b p stands in omega arith);
        of_places = lp;
        of_aims = la;
      }

  -- a referrer that is right fits the tables
  pub referrer_fits : (q : ℕ) → q < in_fours (body b 1) → (r : Referrer) → ReferrerRight (class_of b) q r → Fits (body_at b p stands) (class_of b) q (first_action (body b 1) q) (first_action (body b 1) (q + 1)) r
  referrer_fits q l (move_to t) h = let e = states_are b p stands in let f = states_few b p stands in omega arith
  referrer_fits q l (run a) h =
      let few : a < action_count (body b 1) q = (let e = action_number b p stands q l in omega arith) in
      let n = next_action b p stands q in
      (omega arith, sym (ap (λ (x : Action). x.body) (action_at b p stands q a l few)))
  referrer_fits q l stay h = tt

  -- the tables of its clauses
  module _ (r : Clauses) (C : ClausesOf b r) where
    pub span : (q : ℕ) → q < r.states → (get_or r.firsts (q + 1) 0 ≡ get_or r.firsts q 0 + when_count (body b 1) q) × (get_or r.firsts (q + 1) 0 ≤ in_fours (body b 2))
    span q l =
        let n = C.number in
        let low : q < in_fours (body b 1) = omega arith in
        let x = C.firsts_right.first q (omega arith) in
        let y = C.firsts_right.first (q + 1) (omega arith) in
        (y ∙ next_first b p stands q ∙ ap (λ (m : ℕ). m + when_count (body b 1) q) (sym x), rw y (first_inside b p stands q low))

    -- the action clauses of all states are A
    pub last_action : get_or r.actions r.states 0 ≡ in_fours (body b 4)
    last_action = rw C.number (C.actions_right.first (in_fours (body b 1)) (omega arith) ∙ all_actions b p stands)

    -- the statements of action clause a are those of its body
    pub clause_read : (a : ℕ) → a < in_fours (body b 4) → Reads (body b 3) (clause_bytes (body b 5) r.froms a) (body_at b p stands a)
    clause_read a l =
        let x = C.froms_right.from a (omega arith) in
        let y = C.froms_right.from (a + 1) (omega arith) in
        let n = sum_next (body b 4) 2 a (first_statement (body b 4) a) (statement_count (body b 4) a) refl refl in
        let z : get_or r.froms (a + 1) 0 - get_or r.froms a 0 ≡ statement_count (body b 4) a * 8 = omega arith in
        rw (z, x) (body_read b p stands a l)

    pub ranges : Ranges r.places r.aims r.firsts r.actions r.froms (body b 5) r.states
    ranges =
        let n = C.number in
        record {
          few = (let f = states_few b p stands in omega arith);
          of_places = C.whens.places_long;
          of_aims = C.whens.aims_long;
          of_firsts = C.firsts_right.long;
          of_actions = C.actions_right.long;
          of_froms = C.froms_right.long;
          rising = λ q l. let (e, u) = span q l in omega arith;
          inside = λ q l. let (e, u) = span q l in let f = whens_few b p stands in omega arith;
          actions_rising = λ q t l m.
              let x = C.actions_right.first q (omega arith) in
              let y = C.actions_right.first t (omega arith) in
              let z = sum_rises (body b 1) 2 q t l in
              omega arith;
          actions_inside = (let e = last_action in let f = actions_few b p stands in omega arith);
          from_rising = λ a l.
              let e = last_action in
              let x = C.froms_right.from a (omega arith) in
              let y = C.froms_right.from (a + 1) (omega arith) in
              let z = sum_rises (body b 4) 2 a (a + 1) (omega arith) in
              omega arith;
          from_inside = λ a l.
              let e = last_action in
              let y = C.froms_right.from (a + 1) (omega arith) in
              let z = sum_inside (body b 4) 2 a (in_fours (body b 4)) (in_eights (body b 5)) (omega arith) (all_statements b p stands) in
              omega arith;
        }
