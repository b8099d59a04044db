-- Laws about statements run on a set of lanes: lanes added to a row, one run after the other, the split by a guard's word, and a law for each
-- way out of the code.
-- Assumes nothing.
use Prim.Native.Nat.{ℕ, ◌+◌, ◌*◌, ◌^◌, ◌<◌, ◌≤◌}
use native.Mathlib.Omega.{arith}
use native.Mathlib.Decide.{ℕ_discrete}
use mathlib.Core.Path.{◌≡◌, refl, sym, ap, ◌∙◌}
use mathlib.Core.Bool.{Bool, true, false, ◌&&◌, ◌||◌, not, and-true, and-false, or-false}
use mathlib.Core.List.{List}
use mathlib.Core.Option.{Option, none, some}
use lib.Dec.{eqb}
use lib.ListN.{length, get_or, set, length-set, length-drop}
use lib.Seq.{get_or-set_same, get_or-set_other}
use lib.Bits.{bit_and, bit_or, or_lt}
use borrow.Author.Tests.{eq-eqb, ne_eqb}
use Rattle.model.specs.Words.{has, choose, maybe, is_some}
use Rattle.model.specs.Tree.{Child, Guard, Statement, branch, Part, ◌then◌}
use Rattle.model.specs.Guards.{holds}
use Rattle.model.specs.Moves.{is_at}
use Rattle.model.specs.declared.OwnState.{OwnState}
use Rattle.model.proofs.Bits.{has_none}
use Rattle.model.proofs.Masks.{has_and, has_or}
use Rattle.records.specs.Patterns.{pattern_as}
use Rattle.records.specs.declared.kinds.Pattern.{Pattern}
use Rattle.bodies.specs.StatementReaders.{statement_record, records_beside, then_part, else_part, behind_statement}
use Rattle.bodies.specs.declared.statements.Branch.{Branch}
use Rattle.bodies.specs.declared.statements.StatementRecord.{StatementRecord}
use Rattle.bodies.specs.declared.statements.StatementRecord.TheVariants.{Do, MoveTo, If, Unknown}
use Rattle.bodies.proofs.ReadLaws.{read_end, read_do, read_move, read_if}
use Rattle.lanes.specs.Lanes.{Lanes, opposite}
use Rattle.lanes.proofs.LaneLaws.{lanes_not}
use Rattle.model.specs.Running.{goes, goes_one}
use Rattle.sweeps.specs.Sweeps.{move_word, Narrow, Swept, Kept, Adds, SweepsPart, SweepsIf}
use Rattle.model.proofs.RunLaws.{goes_end, goes_then, goes_send, goes_go, goes_branch}

-- lanes of which none is taken
pub none_taken : (a b : Bool) → a ≡ (a || (b && false))
none_taken a b = rw (and-false b) (sym (or-false a))

-- lanes added to a word of the table
module _ (table : List ℕ) (at lanes : ℕ) (l : at < length table) where
  abbrev pub with_lanes : List ℕ
  with_lanes = set table at (bit_or (get_or table at 0) lanes)

  -- it has those too, and the other words have what they had
  pub added_bit : (x i : ℕ) → has (get_or with_lanes x 0) i ≡ (has (get_or table x 0) i || (has lanes i && eqb at x))
  added_bit x i = go (ℕ_discrete at x)
    where
      go : Dec (at ≡ x) → has (get_or with_lanes x 0) i ≡ (has (get_or table x 0) i || (has lanes i && eqb at x))
      go (yes z) =
          rw (← z, get_or-set_same table at (bit_or (get_or table at 0) lanes) 0 l, eq-eqb at at refl, has_or (get_or table at 0) lanes i)
          (ap (λ (b : Bool). has (get_or table at 0) i || b) (sym (and-true (has lanes i))))
      go (no d) = rw (get_or-set_other table at x (bit_or (get_or table at 0) lanes) 0 (λ e. d (sym e)), ne_eqb at x d) (none_taken (has (get_or table x 0) i) (has lanes i))

  pub added_narrow : lanes < 2 ^ 64 → Narrow table → Narrow with_lanes
  added_narrow w N x = go (ℕ_discrete at x)
    where
      go : Dec (at ≡ x) → get_or with_lanes x 0 < 2 ^ 64
      go (yes z) = rw (← z, get_or-set_same table at (bit_or (get_or table at 0) lanes) 0 l) (or_lt 64 (get_or table at 0) lanes (N at) w)
      go (no d) = rw (get_or-set_other table at x (bit_or (get_or table at 0) lanes) 0 (λ e. d (sym e))) (N x)

module _ (ks : ℕ → List Child) (q : ℕ) where
  -- an equal rule
  swept_as : {f g : List Child → Option ℕ} {mask : ℕ} {before : List ℕ} {left : ℕ} {after : List ℕ} → ((l : List Child) → g l ≡ f l) → Swept ks q f mask before left after → Swept ks q g mask before left after
  swept_as h S = record { stays = λ i l. rw (h (ks i)) (S.stays i l); row = λ i t l m. rw (h (ks i)) (S.row i t l m) }

  -- what moves nothing leaves all
  swept_none : (f : List Child → Option ℕ) (mask : ℕ) (table : List ℕ) → ((l : List Child) → f l ≡ none) → Swept ks q f mask table mask table
  swept_none f mask table h =
      record {
        stays = λ i l. rw (h (ks i)) (sym (and-true (has mask i)));
        row = λ i t l m. rw (h (ks i)) (none_taken (has (move_word table q t) i) (has mask i));
      }

  -- and so does what runs on no lane
  swept_empty : (f : List Child → Option ℕ) (mask : ℕ) (table : List ℕ) → mask ≡ 0 → Swept ks q f mask table 0 table
  swept_empty f mask table z =
      record {
        stays = λ i l. rw (z, has_none i);
        row = λ i t l m. rw (z, has_none i) (sym (or-false (has (move_word table q t) i)));
      }

  -- one after the other: the second runs on what the first left
  swept_then : (f g : List Child → Option ℕ) (mask mid left : ℕ) (before between after : List ℕ) → Swept ks q f mask before mid between → Swept ks q g mid between left after
      → Swept ks q (λ l. maybe (f l) (λ _. g l) some) mask before left after
  swept_then f g mask mid left before between after F G =
      record {
        stays = λ i l. G.stays i l ∙ rw (F.stays i l) (stay (has mask i) (f (ks i)) (g (ks i)));
        row = λ i t l m. G.row i t l m ∙ rw (F.row i t l m, F.stays i l) (arrow (has (move_word before q t) i) (has mask i) (f (ks i)) (g (ks i)) t);
      }
    where
      stay : (m : Bool) (x z : Option ℕ) → ((m && not (is_some x)) && not (is_some z)) ≡ (m && not (is_some (maybe x (λ _. z) some)))
      stay false x z = refl
      stay true none z = refl
      stay true (some r) z = refl

      arrow : (r m : Bool) (x z : Option ℕ) (t : ℕ) → ((r || (m && is_at t x)) || ((m && not (is_some x)) && is_at t z)) ≡ (r || (m && is_at t (maybe x (λ _. z) some)))
      arrow true m x z t = refl
      arrow false false x z t = refl
      arrow false true none z t = refl
      arrow false true (some u) z t = or-false (eqb u t)

  -- a guard's word splits the mask
  swept_choose : (g : Guard) (f h : List Child → Option ℕ) (w mask l₁ l₂ : ℕ) (before between after : List ℕ) → Lanes w (λ i. holds g (ks i)) → Swept ks q f (bit_and mask w) before l₁ between
      → Swept ks q h (bit_and mask (opposite w)) between l₂ after → Swept ks q (λ l. choose (holds g l) (λ _. f l) (λ _. h l)) mask before (bit_or l₁ l₂) after
  swept_choose g f h w mask l₁ l₂ before between after W A B =
      record {
        stays = λ i l.
            let no : has (opposite w) i ≡ not (holds g (ks i)) = (lanes_not W).lane i l in
            rw (has_or l₁ l₂ i, A.stays i l, B.stays i l, has_and mask w i, has_and mask (opposite w) i, no, W.lane i l)
            (stay (has mask i) (holds g (ks i)) (f (ks i)) (h (ks i)));
        row = λ i t l m.
            let no : has (opposite w) i ≡ not (holds g (ks i)) = (lanes_not W).lane i l in
            B.row i t l m
            ∙ rw (A.row i t l m, has_and mask w i, has_and mask (opposite w) i, no, W.lane i l)
            (arrow (has (move_word before q t) i) (has mask i) (holds g (ks i)) (f (ks i)) (h (ks i)) t);
      }
    where
      stay : (m b : Bool) (x y : Option ℕ) → (((m && b) && not (is_some x)) || ((m && not b) && not (is_some y))) ≡ (m && not (is_some (choose b (λ _. x) (λ _. y))))
      stay false b x y = refl
      stay true true none y = refl
      stay true true (some u) y = refl
      stay true false x y = refl

      arrow : (r m b : Bool) (x y : Option ℕ) (t : ℕ) → ((r || ((m && b) && is_at t x)) || ((m && not b) && is_at t y)) ≡ (r || (m && is_at t (choose b (λ _. x) (λ _. y))))
      arrow true m b x y t = refl
      arrow false false b x y t = refl
      arrow false true true x y t = or-false (is_at t x)
      arrow false true false x y t = refl

-- what is kept
pub kept_same : (q : ℕ) (table : List ℕ) → Kept q table table
kept_same q table = record { long = refl; others = λ x n. refl; narrow = λ N. N }

pub kept_then : {q : ℕ} {before between after : List ℕ} → Kept q before between → Kept q between after → Kept q before after
kept_then A B = record { long = B.long ∙ A.long; others = λ x n. B.others x n ∙ A.others x n; narrow = λ N. B.narrow (A.narrow N) }

-- the ways out of `add_lanes`
module _ (q t lanes : ℕ) (table : List ℕ) where
  none_left : (f : List Child → Option ℕ) (l : List Child) (i : ℕ) → f l ≡ some t → has 0 i ≡ (has lanes i && not (is_some (f l)))
  none_left f l i h = rw (h, has_none i) (sym (and-false (has lanes i)))

  pub added : q < 32 → length table ≡ 1280 → lanes < 2 ^ 64 → t < 32 → Adds q t lanes table (set table (q * 32 + t) (bit_or (get_or table (q * 32 + t) 0) lanes))
  added ql len w tl =
      let inside : q * 32 + t < length table = omega arith in
      record {
        kept = record {
          long = length-set table (q * 32 + t) (bit_or (get_or table (q * 32 + t) 0) lanes);
          others = λ x n. get_or-set_other table (q * 32 + t) x (bit_or (get_or table (q * 32 + t) 0) lanes) 0 (n t tl);
          narrow = added_narrow table (q * 32 + t) lanes inside w;
        };
        adds = λ ks f h. record {
          stays = λ i l. none_left f (ks i) i (h (ks i));
          row = λ i u l ul. rw (h (ks i)) (added_bit table (q * 32 + t) lanes inside (q * 32 + u) i ∙ ap (λ (b : Bool). has (move_word table q u) i || (has lanes i && b)) (same_row u));
        };
      }
    where
      same_row : (u : ℕ) → eqb (q * 32 + t) (q * 32 + u) ≡ eqb t u
      same_row u = go (ℕ_discrete t u)
        where
          go : Dec (t ≡ u) → eqb (q * 32 + t) (q * 32 + u) ≡ eqb t u
          go (yes z) = rw (z, eq-eqb (q * 32 + u) (q * 32 + u) refl, eq-eqb u u refl)
          go (no d) = rw (ne_eqb t u d, ne_eqb (q * 32 + t) (q * 32 + u) (λ e. d (let z : t ≡ u = omega arith in z)))

  pub added_none : 32 ≤ t → Adds q t lanes table table
  added_none tl =
      record {
        kept = kept_same q table;
        adds = λ ks f h. record {
          stays = λ i l. none_left f (ks i) i (h (ks i));
          row = λ i u l ul. rw (h (ks i), ne_eqb t u (λ e. omega arith)) (none_taken (has (move_word table q u) i) (has lanes i));
        };
      }

-- a list by the statement at its front, and the way out of `sweep_if`
module _ (words part : List ℕ) (q mask : ℕ) (before : List ℕ) where
  pub sweep_empty : mask ≡ 0 → SweepsPart words part q mask before before 0
  sweep_empty z = record { kept = kept_same q before; sweeps = λ gs ks W p R. swept_empty ks q (goes p) mask before z }

  pub sweep_nothing : Unknown ≡ statement_record part → SweepsPart words part q mask before before mask
  sweep_nothing e =
      record {
        kept = kept_same q before;
        sweeps = λ gs ks W p R. swept_none ks q (goes p) mask before (λ l. rw (read_end gs part p R e) (goes_end l));
      }

  pub sweep_go : (s : OwnState) (t : ℕ) (after : List ℕ) → MoveTo s ≡ statement_record part → t ≡ s.0 → Adds q t mask before after → SweepsPart words part q mask before after 0
  sweep_go s t after e et A =
      record {
        kept = A.kept;
        sweeps = λ gs ks W p R. let B = read_move gs part p R s e in A.adds ks (goes p) (λ l. rw (B.is, et) (goes_go s.0 B.rest l));
      }

  pub sweep_sent : (m : ℕ) (c : Pattern) → Do m c ≡ statement_record part → {after : List ℕ} {left : ℕ} (rest : List ℕ) → rest ≡ behind_statement (Do m c) part → SweepsPart words rest q mask before after left
      → SweepsPart words part q mask before after left
  sweep_sent m c e rest er on =
      record {
        kept = on.kept;
        sweeps = λ gs ks W p R.
            let B = read_do gs part p R m c e in
            swept_as ks q (λ l. ap (λ (x : Part). goes x l) B.is ∙ goes_send m (pattern_as c) B.rest l) (on.sweeps gs ks W B.rest (rw er B.reads));
      }

  pub sweep_on : (b : Branch) → If b ≡ statement_record part → {mid : ℕ} {between : List ℕ} → SweepsIf words part q mask before between mid
      → {after : List ℕ} {left : ℕ} (rest : List ℕ) → rest ≡ behind_statement (If b) part → SweepsPart words rest q mid between after left → SweepsPart words part q mask before after left
  sweep_on b e {mid} {between} done {after} {left} rest er on =
      record {
        kept = kept_then done.kept on.kept;
        sweeps = λ gs ks W p R.
            let B = read_if gs part p R b e in
            let s = branch B.guard B.first B.second in
            let F = done.sweeps gs ks W s B.begins.rest (rw B.begins.is at R) in
            let G = on.sweeps gs ks W B.begins.rest (rw er B.begins.reads) in
            swept_as ks q (λ l. ap (λ (x : Part). goes x l) B.begins.is ∙ goes_then s B.begins.rest l) (swept_then ks q (goes_one s) (goes B.begins.rest) mask mid left before between after F G);
      }

  pub sweep_if : (b : Branch) → If b ≡ statement_record part → (w : ℕ) → w ≡ get_or words b.guard 0 → {l₁ : ℕ} {between : List ℕ} (p : List ℕ) → p ≡ then_part b part
      → SweepsPart words p q (bit_and mask w) before between l₁ → {l₂ : ℕ} {after : List ℕ} (o : List ℕ) → o ≡ else_part b part → SweepsPart words o q (bit_and mask (opposite w)) between after l₂
      → SweepsIf words part q mask before after (bit_or l₁ l₂)
  sweep_if b e w ew {l₁} {between} p ep A {l₂} {after} o eo C =
      record {
        kept = kept_then A.kept C.kept;
        sweeps = λ gs ks W s r R.
            let B = read_if gs part (s then r) R b e in
            let z : s ≡ branch B.guard B.first B.second = let y = B.begins.is in cc in
            let L : Lanes w (λ i. holds B.guard (ks i)) = rw ew (W.word b.guard B.guard B.stop B.guard_reads) in
            let F = A.sweeps gs ks W B.first (rw ep B.first_reads) in
            let G = C.sweeps gs ks W B.second (rw eo B.second_reads) in
            swept_as ks q (λ l. ap (λ (x : Statement). goes_one x l) z ∙ goes_branch B.guard B.first B.second l) (swept_choose ks q B.guard (goes B.first) (goes B.second) w mask l₁ l₂ before between after L F G);
      }

-- the statements before the rest were run, and who runs the rest on the lanes that are left has run all
pub record Sweeping (words part : List ℕ) (q mask : ℕ) (before rest table : List ℕ) (left : ℕ) : Type 0 where
  pub short : length rest ≤ length part
  pub long : length table ≡ length before
  pub on : (after : List ℕ) (last : ℕ) → SweepsPart words rest q left table after last → SweepsPart words part q mask before after last

module _ (words part : List ℕ) (q mask : ℕ) (before : List ℕ) where
  pub sweeping_start : Sweeping words part q mask before part before mask
  sweeping_start = record { short = omega arith; long = refl; on = λ after last S. S }

  pub sweeping_end : (rest table : List ℕ) (left : ℕ) → Sweeping words part q mask before rest table left → left ≡ 0 → SweepsPart words part q mask before table 0
  sweeping_end rest table left S z = S.on table 0 (sweep_empty words rest q left table z)

  module _ (rest table : List ℕ) (left : ℕ) (S : Sweeping words part q mask before rest table left) where
    -- what is behind the statement at the front is shorter
    behind_short : (r : StatementRecord) (p : List ℕ) → p ≡ behind_statement r rest → length p ≤ length part
    behind_short r p ep = let m = S.short in omega (arith, ap length ep, length-drop ((1 + records_beside r) * 8) rest)

    pub sweeping_sent : (m : ℕ) (c : Pattern) → Do m c ≡ statement_record rest → (p : List ℕ) → p ≡ behind_statement (Do m c) rest → Sweeping words part q mask before p table left
    sweeping_sent m c f p ep =
        record {
          short = behind_short (Do m c) p ep;
          long = S.long;
          on = λ after last R. S.on after last (sweep_sent words rest q left table m c f p ep R);
        }

    pub sweeping_on : (b : Branch) → If b ≡ statement_record rest → {mid : ℕ} {between : List ℕ} → SweepsIf words rest q left table between mid → (p : List ℕ) → p ≡ behind_statement (If b) rest
        → Sweeping words part q mask before p between mid
    sweeping_on b f done p ep =
        record {
          short = behind_short (If b) p ep;
          long = done.kept.long ∙ S.long;
          on = λ after last R. S.on after last (sweep_on words rest q left table b f done p ep R);
        }

    pub swept_go : (s : OwnState) (t : ℕ) (after : List ℕ) → MoveTo s ≡ statement_record rest → t ≡ s.0 → Adds q t left table after → SweepsPart words part q mask before after 0
    swept_go s t after f et A = S.on after 0 (sweep_go words rest q left table s t after f et A)

    pub swept_nothing : Unknown ≡ statement_record rest → SweepsPart words part q mask before table left
    swept_nothing f = S.on table left (sweep_nothing words rest q left table f)
