-- The numbers of the class of a text are right: each is that of a name in a list, so below the list's length; and no command stands twice.
-- Assumes nothing.
use Prim.Native.Nat.{ℕ, zero, suc, ◌+◌, ◌*◌, ◌/◌, ◌^◌, ◌<◌, ◌≤◌}
use native.Mathlib.Omega.{arith}
use mathlib.Core.Path.{◌≡◌, refl, sym, ◌∙◌, subst}
use mathlib.Core.Bool.{Bool, true, false, ◌&&◌, ◌||◌}
use mathlib.Core.Bool as B
use mathlib.Core.List.{List, [], ◌∷◌, map}
use lib.Dec.{leb}
use lib.ListN.{length, get_or, length-map}
use lib.Pow.{pow_pos, pow-lt}
use borrow.Author.Tests.{ltb-true, leb-true, not-true}
use Rattle.model.specs.Words.{every, some_in, listed, has, Bytes}
use Rattle.model.proofs.Words.{true_not_false, and_left, and_right, or_first}
use Rattle.model.proofs.Lists.{length_listed}
use Rattle.model.specs.Tree as M
use Rattle.records.specs.Bytes.{u32}
use Rattle.records.proofs.Bytes.{u32_below}
use Rattle.grammar.specs.Grammar as G
use Rattle.grammar.specs.Grammar.{Name}
use Rattle.grammar.specs.Words.{is_name, same, position}
use Rattle.grammar.specs.Reading.{Says}
use Rattle.encoding.specs.Numbers.{Every, PatternNumbers, GuardNumbers, ReferrerNumbers, WhenNumbers, PartNumbers, ActionNumbers, NoneTwice, StateNumbers, Numbers}
use Rattle.encoding.specs.Limits.{within_limits}
use Rattle.encoding.specs.Within.{Within}
use Rattle.encoding.specs.Encoded.{Encoded}
use Rattle.encoding.proofs.SheetLaws.{encoded, laid}
use Rattle.naming.specs.NameLists.{Lists, child_names, command_names, class_names, class_sets, records_in, number_in, listed_in, none_twice, lists_within}
use Rattle.naming.specs.Naming.{in_order, all_states, own_names, action_names, with_bit, names_set, set_of, pattern_of, guard_of, conj_of, operand_of, part_of, referrer_of, when_of, action_of, state_of, class_in}
use Rattle.naming.specs.Known.{among, names_known, set_known, kin_known, guard_known, conj_known, operand_known, part_known, referrer_known, when_known, action_known, state_known, text_known}
use Rattle.naming.proofs.NameLaws.{same_self, same_number, bit_added}
use Rattle.naming.proofs.Spoken.{Named, Spoken, states_named}

-- a name of a list has a number below its length
listed_below : (records : List (List ℕ)) (n : Name) → listed_in records n ≡ true → number_in records n < length records
unfolding listed_in
listed_below records n h = ltb-true (number_in records n) (length records) h

among_below : (ns : List Name) (n : Name) → among ns n ≡ true → position ns n < length ns
unfolding among
among_below ns n h = ltb-true (position ns n) (length ns) h

-- a set of names of a list of at most 32 is not empty, and fits 32 bits
abbrev Fits : ℕ → Type 0
Fits s = (0 < s) × (s < 2 ^ 32)

one_fits : (i : ℕ) → i < 32 → Fits (2 ^ i)
one_fits i l = (pow_pos i, pow-lt l)

more_fits : (s i : ℕ) → Fits s → i < 32 → Fits (with_bit (has s i) s i)
more_fits s i (p, q) l = go (has s i) refl
  where
    go : (b : Bool) → has s i ≡ b → Fits (with_bit b s i)
    go true e = (p, q)
    go false e = ((let z : 0 < s + 2 ^ i = omega arith in z), bit_added 32 s i q l e)

-- every name set of a byte string fits 32 bits
sets_fit : (b : List ℕ) → Bytes b → (i n : ℕ) → Every (λ s. s < 2 ^ 32) (listed i n (λ j. u32 b (j * 36 + 32)))
unfolding listed
sets_fit b h i zero = tt
sets_fit b h i (suc n) = (u32_below b h (i * 36 + 32), sets_fit b h (suc i) n)

abbrev CommandNamed : G.Action → Type 0
CommandNamed a = is_name a.command ≡ true

or_none : (a b : Bool) → (a || b) ≡ false → b ≡ false
or_none true b h = absurd (true_not_false refl h)
or_none false b h = h

module _ (l : Lists) where
  K_is : length (class_sets l) ≡ length (class_names l)
  unfolding class_sets records_in
  K_is = length_listed 0 (length l.classes / 36) _ ∙ sym (length_listed 0 (length l.classes / 36) _)

  pattern_right : (k : G.Kin) → kin_known l k ≡ true → PatternNumbers (pattern_of l k) (length (class_sets l))
  unfolding kin_known pattern_of
  pattern_right G.children h = tt
  pattern_right (G.kin n) h = let b = listed_below (class_names l) n h in let z : number_in (class_names l) n < length (class_sets l) = omega (arith, K_is) in z

  module _ (few_names : length (child_names l) ≤ 32) where
    name_below : (n : Name) → listed_in (child_names l) n ≡ true → number_in (child_names l) n < 32
    name_below n h = let b = listed_below (child_names l) n h in omega arith

    names_fit : (ns : G.Names) → names_known l ns ≡ true → Fits (names_set (child_names l) ns)
    unfolding names_known names_set
    names_fit (G.one n) h = one_fits (number_in (child_names l) n) (name_below n h)
    names_fit (G.more ns n) h =
        more_fits (names_set (child_names l) ns) (number_in (child_names l) n)
        (names_fit ns (and_left (names_known l ns) (listed_in (child_names l) n) h))
        (name_below n (and_right (names_known l ns) (listed_in (child_names l) n) h))

    set_fits : (t : G.Set) → set_known l t ≡ true → Fits (set_of (child_names l) t)
    unfolding set_known set_of
    set_fits (G.single n) h = one_fits (number_in (child_names l) n) (name_below n h)
    set_fits (G.braces ns) h = names_fit ns h

    mutual
      unfolding guard_known guard_of

      guard_right : (g : G.Guard) → guard_known g l ≡ true → GuardNumbers (guard_of g l) (length (class_sets l))
      guard_right (G.just c) h = conj_right c h
      guard_right (G.or g c) h = (guard_right g (and_left (guard_known g l) (conj_known c l) h), conj_right c (and_right (guard_known g l) (conj_known c l) h))

      conj_right : (c : G.Conj) → conj_known c l ≡ true → GuardNumbers (conj_of c l) (length (class_sets l))
      conj_right (G.only u) h = operand_right u h
      conj_right (G.and c u) h = (conj_right c (and_left (conj_known c l) (operand_known u l) h), operand_right u (and_right (conj_known c l) (operand_known u l) h))

      operand_right : (u : G.Operand) → operand_known u l ≡ true → GuardNumbers (operand_of u l) (length (class_sets l))
      operand_right (G.not u) h = operand_right u h
      operand_right (G.brackets g) h = guard_right g h
      operand_right (G.atom q k s t) h =
          let (p, f) = set_fits t (and_right (kin_known l k) (set_known l t) h) in
          (pattern_right k (and_left (kin_known l k) (set_known l t) h), p, f)

    module _ (few_commands : length (command_names l) ≤ 64) (own : List Name) where
      command_small : (c : Name) → listed_in (command_names l) c ≡ true → number_in (command_names l) c ≤ 63
      command_small c h = let b = listed_below (command_names l) c h in omega arith

      part_right : (p : G.Part) → part_known l own p ≡ true → (rest : M.Part) → PartNumbers rest (length (class_sets l)) (length own)
          → PartNumbers (part_of l own p rest) (length (class_sets l)) (length own)
      unfolding part_known part_of PartNumbers
      part_right G.nothing h rest r = r
      part_right (G.send p c k) h rest r =
          let h1 = and_right (part_known l own p) (listed_in (command_names l) c && kin_known l k) h in
          part_right p (and_left (part_known l own p) (listed_in (command_names l) c && kin_known l k) h) _
          ((command_small c (and_left (listed_in (command_names l) c) (kin_known l k) h1), pattern_right k (and_right (listed_in (command_names l) c) (kin_known l k) h1)), r)
      part_right (G.go_to p s) h rest r =
          part_right p (and_left (part_known l own p) (among own s) h) _ (among_below own s (and_right (part_known l own p) (among own s) h), r)
      part_right (G.if_then p g q) h rest r =
          let h1 = and_right (part_known l own p) (guard_known g l && part_known l own q) h in
          part_right p (and_left (part_known l own p) (guard_known g l && part_known l own q) h) _
          ((guard_right g (and_left (guard_known g l) (part_known l own q) h1), part_right q (and_right (guard_known g l) (part_known l own q) h1) M.end tt, tt), r)
      part_right (G.if_else p g q r) h rest k =
          let parts : Bool = part_known l own q && part_known l own r in
          let h1 = and_right (part_known l own p) (guard_known g l && parts) h in
          let h2 = and_right (guard_known g l) parts h1 in
          part_right p (and_left (part_known l own p) (guard_known g l && parts) h) _ (
            (
              guard_right g (and_left (guard_known g l) parts h1),
              part_right q (and_left (part_known l own q) (part_known l own r) h2) M.end tt,
              part_right r (and_right (part_known l own q) (part_known l own r) h2) M.end tt,
            ),
            k,
          )

      referrer_right : (actions : List Name) (r : G.Referrer) → referrer_known l own actions r ≡ true
          → ReferrerNumbers (referrer_of l own actions r) (length own) (length actions)
      unfolding referrer_known referrer_of
      referrer_right actions (G.move_to n) h = among_below own n h
      referrer_right actions (G.run n) h = among_below actions n (and_right (listed_in (command_names l) n) (among actions n) h)
      referrer_right actions G.stay h = tt
      referrer_right actions (G.stay_in n) h = tt

      whens_right : (actions : List Name) (ws : List G.When) → every (when_known l own actions) ws ≡ true
          → Every (WhenNumbers (length (class_sets l)) (length own) (length actions)) (map (when_of l own actions) ws)
      unfolding every when_known when_of
      whens_right actions [] h = tt
      whens_right actions (w ∷ ws) h =
          let h1 = and_left (when_known l own actions w) (every (when_known l own actions) ws) h in
          let g = guard_known w.guard l in
          let r = referrer_known l own actions w.referrer in (
            (guard_right w.guard (and_left g r h1), referrer_right actions w.referrer (and_right g r h1)),
            whens_right actions ws (and_right (when_known l own actions w) (every (when_known l own actions) ws) h),
          )

      actions_right : (xs : List G.Action) → every (action_known l own) xs ≡ true
          → Every (ActionNumbers (length (class_sets l)) (length own)) (map (action_of l own) xs)
      unfolding every action_known action_of PartNumbers
      actions_right [] h = tt
      actions_right (a ∷ xs) h =
          let h1 = and_left (action_known l own a) (every (action_known l own) xs) h in
          let c = listed_in (command_names l) a.command in
          let p = part_known l own a.body in (
            (command_small a.command (and_left c p h1), part_right a.body (and_right c p h1) M.end tt),
            actions_right xs (and_right (action_known l own a) (every (action_known l own) xs) h),
          )

      -- a name that is not among the actions' names has another number than each of them
      apart : (n : Name) → is_name n ≡ true → listed_in (command_names l) n ≡ true → (xs : List G.Action) → every (action_known l own) xs ≡ true
          → Every CommandNamed xs → some_in (same n) (map (λ a. a.command) xs) ≡ false → (i : ℕ) → i < length (map (action_of l own) xs)
          → number_in (command_names l) n ≡ (get_or (map (action_of l own) xs) i M.no_action).command → ⊥
      unfolding every some_in action_known action_of
      apart n p q [] h k f i m e = omega arith
      apart n p q (a ∷ xs) h k f zero m e =
          let c = listed_in (command_names l) a.command in
          let h1 = and_left c (part_known l own a.body) (and_left (action_known l own a) (every (action_known l own) xs) h) in
          let z = same_number (command_names l) n a.command p k.0 q h1 e in
          true_not_false (or_first (same n a.command) (some_in (same n) (map (λ a. a.command) xs)) (subst (λ (x : Name). same n x ≡ true) z (same_self n))) f
      apart n p q (a ∷ xs) h k f (suc i) m e =
          apart n p q xs (and_right (action_known l own a) (every (action_known l own) xs) h) k.1
          (or_none (same n a.command) (some_in (same n) (map (λ a. a.command) xs)) f) i (omega arith) e

      actions_apart : (xs : List G.Action) → every (action_known l own) xs ≡ true → Every CommandNamed xs → none_twice (map (λ a. a.command) xs) ≡ true
          → NoneTwice (map (action_of l own) xs)
      unfolding every none_twice action_known action_of
      actions_apart [] h k f i j m o e = omega arith
      actions_apart (a ∷ xs) h k f zero j m o e = omega arith
      actions_apart (a ∷ xs) h k f (suc i) zero m o e =
          let names = map (λ a. a.command) xs in
          let c = listed_in (command_names l) a.command in
          let h1 = and_left c (part_known l own a.body) (and_left (action_known l own a) (every (action_known l own) xs) h) in
          apart a.command k.0 h1 xs (and_right (action_known l own a) (every (action_known l own) xs) h) k.1
          (not-true (some_in (same a.command) names) (and_left (B.not (some_in (same a.command) names)) (none_twice names) f)) i (omega arith) e
      actions_apart (a ∷ xs) h k f (suc i) (suc j) m o e =
          let names = map (λ a. a.command) xs in
          actions_apart xs (and_right (action_known l own a) (every (action_known l own) xs) h) k.1
          (and_right (B.not (some_in (same a.command) names)) (none_twice names) f) i j (omega arith) (omega arith) e

      state_right : (s : G.State) → state_known l own s ≡ true → Spoken Named s → StateNumbers (length (class_sets l)) (length own) (state_of l own s)
      unfolding state_known state_of action_names
      state_right s h k =
          let names = action_names s in
          let ws = in_order s.whens [] in
          let xs = in_order s.actions [] in
          let h1 = and_right (every (when_known l own names) ws) (every (action_known l own) xs && none_twice names) h in
          let h2 = and_left (every (action_known l own) xs) (none_twice names) h1 in
          let w = whens_right names ws (and_left (every (when_known l own names) ws) (every (action_known l own) xs && none_twice names) h) in
          record {
            whens = rw (length-map xs (λ a. a.command), ← length-map xs (action_of l own)) at w;
            actions = actions_right xs h2;
            none_twice = actions_apart xs h2 k.1 (and_right (every (action_known l own) xs) (none_twice names) h1);
          }

      states_right : (ss : List G.State) → every (state_known l own) ss ≡ true → Every (Spoken Named) ss
          → Every (StateNumbers (length (class_sets l)) (length own)) (map (state_of l own) ss)
      unfolding every
      states_right [] h k = tt
      states_right (s ∷ ss) h k = (
        state_right s (and_left (state_known l own s) (every (state_known l own) ss) h) k.0,
        states_right ss (and_right (state_known l own s) (every (state_known l own) ss) h) k.1,
      )

-- THEOREM: the numbers of a text whose names are known, with at most 32 child names and 64 commands, where the classes' sets have 32 bits
pub numbers_by_sets : (b : List ℕ) (l : Lists) (t : G.Text) → Says b t → Every (λ s. s < 2 ^ 32) (class_sets l) → length (child_names l) ≤ 32
    → length (command_names l) ≤ 64 → text_known l t ≡ true → Numbers (class_in l t)
unfolding text_known class_in own_names
numbers_by_sets b l t e sets few_names few_commands h =
    let own = own_names t in
    let r = states_right l few_names few_commands own (all_states t) (and_left (every (state_known l own) (all_states t)) (none_twice own) h) (states_named b t e) in
    record {
      sets = sets;
      states = rw (length-map (all_states t) (λ s. s.own), ← length-map (all_states t) (state_of l own)) at r;
    }

-- as sets of four bytes have
pub numbers_right : (b : List ℕ) (l : Lists) (t : G.Text) → Says b t → Bytes l.classes → length (child_names l) ≤ 32 → length (command_names l) ≤ 64
    → text_known l t ≡ true → Numbers (class_in l t)
unfolding class_sets
numbers_right b l t e bytes few_names few_commands h =
    numbers_by_sets b l t e (sets_fit l.classes bytes 0 (length l.classes / 36)) few_names few_commands h

-- so within the limits a sheet can stand for its class: the judge accepts the class's sheet, which stands for the class
pub class_by_sets : (b : List ℕ) (l : Lists) (t : G.Text) → Says b t → Every (λ s. s < 2 ^ 32) (class_sets l) → lists_within l ≡ true
    → text_known l t ≡ true → within_limits (class_in l t) ≡ true → Within (class_in l t)
unfolding lists_within
class_by_sets b l t e sets few h limits =
    let n = leb-true (length (child_names l)) 32 (and_left (leb (length (child_names l)) 32) (leb (length (command_names l)) 64) few) in
    let c = leb-true (length (command_names l)) 64 (and_right (leb (length (child_names l)) 32) (leb (length (command_names l)) 64) few) in
    (laid (class_in l t)).within limits (numbers_by_sets b l t e sets n c h)

pub class_within : (b : List ℕ) (l : Lists) (t : G.Text) → Says b t → Bytes l.classes → lists_within l ≡ true → text_known l t ≡ true
    → within_limits (class_in l t) ≡ true → Within (class_in l t)
unfolding class_sets
class_within b l t e bytes few h limits = class_by_sets b l t e (sets_fit l.classes bytes 0 (length l.classes / 36)) few h limits

pub class_encoded : (b : List ℕ) (l : Lists) (t : G.Text) → Says b t → Bytes l.classes → lists_within l ≡ true → text_known l t ≡ true
    → within_limits (class_in l t) ≡ true → Encoded (class_in l t)
class_encoded b l t e bytes few h limits = encoded (class_in l t) (class_within b l t e bytes few h limits)
