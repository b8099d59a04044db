-- Laws about the search: what is known before a block, and the answer after the last or in the first that has a loop.
-- Assumes nothing.
use Prim.Native.Nat.{ℕ, ◌+◌, ◌*◌, ◌%◌, ◌^◌, ◌<◌, ◌≤◌, max}
use native.Mathlib.Omega.{arith}
use native.Mathlib.Nat.{one-mul}
use mathlib.Core.Path.{◌≡◌, refl, sym, ap, ◌∙◌, subst}
use mathlib.Core.Bool.{true, cond}
use mathlib.Core.List.{List}
use mathlib.Core.Logic.{◌⊎◌, inl, inr}
use lib.ListN.{length, get_or}
use lib.Pow.{shl_exact, pow_mono}
use Rattle.model.specs.Words.{Bytes}
use Rattle.model.specs.Sound.{Sound}
use Rattle.model.proofs.Words.{lt_or_le}
use Rattle.model.proofs.Lists.{length_listed}
use Rattle.sheet.specs.Contents.{body}
use Rattle.sheet.specs.Reading.{class_of}
use Rattle.sheet.specs.Verdict.{Stands}
use Rattle.sheet.specs.declared.judging.Places.{Places}
use Rattle.sheet.proofs.Sound.{sound}
use Rattle.configurations.specs.Configurations.{name_count}
use Rattle.configurations.specs.Cells.{cells_from, cells_of}
use Rattle.configurations.specs.LoopAnswer.{has_loop}
use Rattle.configurations.specs.Blocks.{SearchedTo}
use Rattle.configurations.specs.declared.Cells.{Cells}
use Rattle.configurations.proofs.Blocks.{searched_start, searched_more, found_first, answered_loop, answered_free}
use Rattle.lanes.specs.Lanes.{lowest_lane}
use Rattle.lanes.specs.Counting.{Counts}
use Rattle.lanes.specs.declared.counting.Present.{Present}
use Rattle.lanes.proofs.LaneLaws.{lowest_is}
use Rattle.truths.specs.Plans.{Planned}
use Rattle.truths.specs.declared.plans.Plan.{Plan}
use Rattle.arrows.specs.declared.sorting.Clauses.{Clauses}
use Rattle.std.specs.Prelude.{Result, Ok, Err}
use Rattle.std.proofs.Common.{Ordering, Less, Equal, Greater}
use Rattle.std.specs.Ordering.{ord_max, nat_cmp, is_lt}
use Rattle.std.proofs.lemmas.Cmp.{ranked}
use Rattle.blocks.specs.ClauseTables.{ClausesOf}
use Rattle.blocks.specs.Search.{CellsOf, Tables, TablesOf, Ready, BlockDoes, BlockIs, Finds}
use Rattle.accepted.proofs.ClauseLaws.{guards_short, states_some}
use Rattle.blocks.proofs.ClauseLaws.{ranges}

-- there are 2 to the N configurations
pub count_is : (b : List ℕ) (present : ℕ) (r : Cells) → CellsOf b present r → r.count ≡ name_count (class_of b) present
unfolding cells_from
count_is b present r h = sym (length_listed 0 r.count (λ i. record { class = get_or r.classes i 0; name = get_or r.names i 0 })) ∙ ap length h.own

pub all_is : (n : ℕ) → n ≤ 20 → (1 * 2 ^ n % 2 ^ 32 ≡ 2 ^ n) × (2 ^ n ≤ 1048576)
all_is n l = (shl_exact 1 n 32 (omega arith) (omega arith) ∙ one-mul (2 ^ n), pow_mono l)

-- the tables that are made of a sheet are its own
pub tables_of : (b : List ℕ) (p : Places) (present : ℕ) (r : Cells) (g : Plan) (k : Clauses) (t : Present) (guards statements : List ℕ) → Bytes b → Stands b p → CellsOf b present r → guards ≡ body b 3
    → Planned guards (cells_of r) g → ClausesOf b k → statements ≡ body b 5 → Counts (cells_of r) present t → TablesOf b p present g k statements t
tables_of b p present r g k t guards statements bytes stands C e P K f N =
    record {
      bytes = bytes;
      stands = stands;
      below = C.below;
      planned = rw (← e, ← C.own) P;
      listed = K;
      stated = f;
      counts = rw (← C.own) N;
    }

-- and long enough
pub ready : (b : List ℕ) (p : Places) (present : ℕ) (g : Plan) (k : Clauses) (statements : List ℕ) (t : Present) → TablesOf b p present g k statements t → Ready g k statements t
ready b p present g k statements t T =
    let P = T.planned in
    record {
      few = (let n = P.number in let l = guards_short b p T.stands in omega arith);
      of_kinds = P.kinds_long;
      of_masks = P.masks_long;
      of_lows = P.lows_long;
      ranges = rw T.stated (ranges b p T.stands k T.listed);
      some_state = (let n = T.listed.number in let l = states_some b p T.stands in omega arith);
      lows_right = T.counts.lows_right;
    }

-- the larger of two numbers
pub larger : (a b : ℕ) → ord_max nat_cmp a b ≡ max a b
larger a b = go (nat_cmp b a) refl
  where
    go : (o : Ordering) → o ≡ nat_cmp b a → cond (is_lt o) a b ≡ max a b
    go Less e = let l : b < a = ranked b a Less e in omega arith
    go Equal e = let l : b ≡ a = ranked b a Equal e in omega arith
    go Greater e = let l : a < b = ranked b a Greater e in omega arith

-- before the block at `next`: no configuration below it has a loop, and the longest phase in them is known, of whatever sheet the tables are
pub record Searching (g : Plan) (k : Clauses) (statements : List ℕ) (t : Present) (names all : ℕ) (words : List ℕ) (longest next : ℕ) : Type 0 where
  pub round : next % 64 ≡ 0
  pub small : next < 1048640
  pub of_words : length words ≡ 1024
  pub number : all ≡ 2 ^ names
  pub most : 2 ^ names ≤ 1048576
  pub to : (b : List ℕ) (p : Places) (present : ℕ) → TablesOf b p present g k statements t → SearchedTo (class_of b) present next longest

module _ (g : Plan) (k : Clauses) (statements : List ℕ) (t : Present) where
  is_sound : {b : List ℕ} {p : Places} {present : ℕ} → TablesOf b p present g k statements t → Sound (class_of b)
  is_sound {b} T = sound b T.bytes T.stands.accepted

  pub search_start : (names all : ℕ) (words : List ℕ) → names ≤ 20 → all ≡ 1 * 2 ^ names % 2 ^ 32 → length words ≡ 1024 → Searching g k statements t names all words 0 0
  search_start names all words l e w =
      let (a, most) = all_is names l in
      record { round = omega arith; small = omega arith; of_words = w; number = e ∙ a; most = most; to = λ b p present T. searched_start (class_of b) (is_sound T) present }

  module _ (names all : ℕ) (words : List ℕ) (longest base : ℕ) (S : Searching g k statements t names all words longest base) where
    -- what is lent to a block
    pub lent : Ready g k statements t → Tables g k statements t base words
    lent R =
        record {
          lent = record { few = R.few; of_kinds = R.of_kinds; of_masks = R.of_masks; of_lows = R.of_lows; of_words = S.of_words };
          ranges = R.ranges;
          some_state = R.some_state;
          round = S.round;
          lows_right = R.lows_right;
        }

    -- after a block
    module _ (r : Result ℕ ℕ) (B : BlockIs g k statements t base r) where
      pub search_more : (words₁ : List ℕ) (m x : ℕ) → base < all → length words₁ ≡ length words → r ≡ Ok m → x ≡ max longest m → Searching g k statements t names all words₁ x (base + 64)
      search_more words₁ m x l w e f =
          let a = S.round in
          let n = S.number in
          let u = S.most in
          record {
            round = omega arith;
            small = omega arith;
            of_words = w ∙ S.of_words;
            number = S.number;
            most = S.most;
            to = λ b p present T. searched_more (class_of b) (is_sound T) present base m (subst (BlockDoes b present base) e (B.does b p present T)) longest x (S.to b p present T) (omega arith) (omega arith) (either (lt_or_le longest m));
          }
        where
          either : (longest < m) ⊎ (m ≤ longest) → (x ≡ longest) ⊎ (x ≡ m)
          either (inl l) = inr (omega arith)
          either (inr l) = inl (omega arith)

      pub search_loop : (w i : ℕ) → r ≡ Err w → i ≡ lowest_lane w → Finds g k statements t names (Err (base + i))
      search_loop w i e f =
          record {
            finds = λ b p present T _.
                let (W, d) = subst (BlockDoes b present base) e (B.does b p present T) in
                let (l, t, none) = lowest_is w i W.narrow d f in
                let here : has_loop (class_of b) present (base + i) ≡ true = sym (W.lane i l) ∙ t in
                answered_loop (class_of b) present (base + i) here
                (found_first (class_of b) (is_sound T) present base longest i (S.to b p present T) l here (λ j u. sym (W.lane j (omega arith)) ∙ none j u));
          }

    pub search_free : all ≤ base → Finds g k statements t names (Ok longest)
    search_free l = record { finds = λ b p present T e. answered_free (class_of b) present base longest (S.to b p present T) (rw (← e, ← S.number) l) }
