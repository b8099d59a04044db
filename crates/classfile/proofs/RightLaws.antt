-- The lists of a head that is read are right.
-- Assumes nothing.
use Prim.Native.Nat.{ℕ, suc, ◌+◌, ◌-◌, ◌*◌, ◌/◌, ◌%◌, ◌^◌, ◌<◌, ◌≤◌}
use native.Mathlib.Omega.{arith}
use native.Mathlib.Nat.{mul-div_cancel, mul-mod_left, mul-le-mul_right}
use mathlib.Core.Path.{◌≡◌, refl, sym, ◌∙◌, ap, subst}
use mathlib.Core.Bool.{Bool, true, false, ◌&&◌, ◌||◌, not, or-false}
use mathlib.Core.Logic.{◌⊎◌, inl, inr}
use mathlib.Core.List.{List, [], ◌∷◌, ◌++◌}
use lib.Dec.{eqb, ltb}
use lib.ListN.{length, get_or, take, drop, length-drop, length-append}
use lib.Seq.{take_all, take-append-le, take-append_seam, drop-append-le, drop_at, take_at, get_or-append-add}
use lib.Bits.{bit_or, or_lt}
use lib.Pow.{pow-lt}
use borrow.Author.Tests.{eq-eqb, eqb-true, ltb-true, lt-ltb, ltb-false}
use Rattle.model.specs.Words.{choose, every, some_in, listed, has}
use Rattle.model.proofs.Words.{clash, and_left, and_right, and_both, or_either, or_first, or_second, each_intro, each_elim}
use Rattle.model.proofs.Lists.{length_listed, listed_more, listed_same}
use Rattle.model.proofs.Bits.{has_none}
use Rattle.model.proofs.Masks.{has_or, has_pow}
use Rattle.records.specs.Bytes.{u32}
use Rattle.records.proofs.Bytes.{u32_take}
use Rattle.grammar.specs.Words.{spelled, is_name, same, position}
use Rattle.naming.specs.NameLists.{Lists, padded, record_right, records_in, none_twice, list_right, class_sets, bits_named, lists_right, number_in, listed_in}
use Rattle.naming.proofs.TableLaws.{length_padded, padded_right}
use Rattle.laying.specs.Laying.{number_bytes, entry}
use Rattle.lists.specs.Lent.{lent, name_record}
use Rattle.classfile.specs.declared.fields.Kind.{Kind}
use Rattle.classfile.specs.Fields.{Field, is_line_end, is_file_end, fields_from}
use Rattle.classfile.specs.Heads as H
use Rattle.classfile.specs.Heads.{Judged, Grown, stretch, judge_name, with_number, add_state, class_record, Rooms, judged, grown, Outcome, read, wrong, reads, head_of}
use Rattle.classfile.specs.declared.parts.Fault.TheVariants.{UnknownLine, LineTwice, NoStates, NoEmptyLine, NameTwice, TooMany, NotListed}
use Rattle.classfile.specs.declared.heads.Line.{Line}
use Rattle.classfile.specs.declared.heads.Line.TheVariants.{Begins, Names, Commands, Class, States}
use Rattle.classfile.proofs.TurnLaws.{fine_is}
use Rattle.std.specs.Prelude.{Ok, Err}

-- the last of the entries from 0 on
listed_last : {A : Type 0} (k : ℕ) (f : ℕ → A) → listed 0 (suc k) f ≡ listed 0 k f ++ (f k ∷ [])
listed_last k f = listed_more 0 k f ∙ ap (λ (i : ℕ). listed 0 k f ++ (f i ∷ [])) (let z : 0 + k ≡ k = omega arith in z)

-- one entry more
every_more : {A : Type 0} (f : A → Bool) (xs : List A) (x : A) → every f xs ≡ true → f x ≡ true → every f (xs ++ (x ∷ [])) ≡ true
unfolding every
every_more f [] x h e = and_both (f x) true e refl
every_more f (y ∷ ys) x h e =
    and_both (f y) (every f (ys ++ (x ∷ []))) (and_left (f y) (every f ys) h) (every_more f ys x (and_right (f y) (every f ys) h) e)

none_more : (f : List ℕ → Bool) (xs : List (List ℕ)) (x : List ℕ) → some_in f xs ≡ false → f x ≡ false → some_in f (xs ++ (x ∷ [])) ≡ false
unfolding some_in
none_more f [] x h e = rw e
none_more f (y ∷ ys) x h e = go (f y) h (λ k. none_more f ys x k e)
  where
    go : (b : Bool) → (b || some_in f ys) ≡ false → (some_in f ys ≡ false → some_in f (ys ++ (x ∷ [])) ≡ false) → (b || some_in f (ys ++ (x ∷ []))) ≡ false
    go true k rest = absurd (clash cc)
    go false k rest = rest k

not_true : (b : Bool) → not b ≡ true → b ≡ false
not_true true h = absurd (clash cc)
not_true false h = refl

-- an entry that is not there stands once
once_more : (xs : List (List ℕ)) (p : List ℕ) → none_twice xs ≡ true → length xs ≤ position xs p → none_twice (xs ++ (p ∷ [])) ≡ true
unfolding none_twice position some_in
once_more [] p h l = refl
once_more (x ∷ xs) p h l = go (same x p) refl l (once_more xs p (and_right (not (some_in (same x) xs)) (none_twice xs) h))
  where
    new : some_in (same x) xs ≡ false
    new = not_true (some_in (same x) xs) (and_left (not (some_in (same x) xs)) (none_twice xs) h)

    go : (b : Bool) → same x p ≡ b → suc (length xs) ≤ choose b (λ _. 0) (λ _. suc (position xs p))
        → (length xs ≤ position xs p → none_twice (xs ++ (p ∷ [])) ≡ true) → (not (some_in (same x) (xs ++ (p ∷ []))) && none_twice (xs ++ (p ∷ []))) ≡ true
    go true e k r = absurd (let z : suc (length xs) ≤ 0 = k in omega arith)
    go false e k r = rw (none_more (same x) xs p new e) (r (let z : suc (length xs) ≤ suc (position xs p) = k in omega arith))

-- a list of k records of that many bytes, which is right
pub record Rows (size : ℕ) (b : List ℕ) (k : ℕ) : Type 0 where
  pub whole : length b ≡ k * size
  pub right : every record_right (listed 0 k (name_record size b)) ≡ true
  pub once : none_twice (listed 0 k (name_record size b)) ≡ true

rows_none : (size : ℕ) → Rows size [] 0
unfolding every none_twice listed
rows_none size = record { whole = (let z : 0 ≡ 0 * size = omega arith in z); right = refl; once = refl }

rows_count : (size : ℕ) (b : List ℕ) (k : ℕ) → 0 < size → length b ≡ k * size → length b / size ≡ k
rows_count size b k h e = ap (λ (n : ℕ). n / size) e ∙ mul-div_cancel k h

rows_in : (size : ℕ) (b : List ℕ) (k : ℕ) → 0 < size → length b ≡ k * size → records_in size b ≡ listed 0 k (name_record size b)
unfolding records_in
rows_in size b k h e = rw (rows_count size b k h e)

rows_right : (size : ℕ) (b : List ℕ) (k : ℕ) → 0 < size → Rows size b k → list_right size b ≡ true
unfolding list_right
rows_right size b k h r =
    rw (rows_in size b k h r.whole)
    (and_both (eqb (length b % size) 0) (every record_right (listed 0 k (name_record size b)) && none_twice (listed 0 k (name_record size b)))
    (eq-eqb (length b % size) 0 (ap (λ (n : ℕ). n % size) r.whole ∙ mul-mod_left k size))
    (and_both (every record_right (listed 0 k (name_record size b))) (none_twice (listed 0 k (name_record size b))) r.right r.once))

-- the entries of a list with one record more
module _ (size : ℕ) (b r : List ℕ) (k : ℕ) (h : 32 ≤ size) (e : length b ≡ k * size) where
  earlier : (i : ℕ) → i < k → name_record size (b ++ r) i ≡ name_record size b i
  earlier i l =
      let m : suc i * size ≤ k * size = mul-le-mul_right size l in
      let n : suc i * size ≡ i * size + size = omega arith in
      ap (take 32) (drop-append-le (i * size) b r (omega arith))
      ∙ take-append-le 32 (drop (i * size) b) r (let z = length-drop (i * size) b in omega arith)

  last : name_record size (b ++ r) k ≡ take 32 r
  last = ap (take 32) (drop_at b r (k * size) e)

  entries_more : listed 0 (suc k) (name_record size (b ++ r)) ≡ listed 0 k (name_record size b) ++ (take 32 r ∷ [])
  entries_more =
      listed_last k (name_record size (b ++ r))
      ∙ (λ i. listed_same 0 k (name_record size (b ++ r)) (name_record size b) (λ j l. earlier j (omega arith)) i ++ (last i ∷ []))

rows_more : (size : ℕ) (b r w : List ℕ) (k : ℕ) → 32 ≤ size → Rows size b k → is_name w ≡ true → listed_in (records_in size b) w ≡ false → length r ≡ size
    → take 32 r ≡ padded w → Rows size (b ++ r) (suc k)
unfolding listed_in number_in
rows_more size b r w k h a n f e g =
    let m : listed 0 (suc k) (name_record size (b ++ r)) ≡ listed 0 k (name_record size b) ++ (padded w ∷ []) =
    entries_more size b r k h a.whole ∙ ap (λ (x : List ℕ). listed 0 k (name_record size b) ++ (x ∷ [])) g in
    let q = rows_in size b k (omega arith) a.whole in
    let p : length (listed 0 k (name_record size b)) ≤ position (listed 0 k (name_record size b)) (padded w) =
    subst (λ (x : List (List ℕ)). length x ≤ position x (padded w)) q
    (ltb-false (position (records_in size b) (padded w)) (length (records_in size b)) f) in
    record {
      whole = length-append b r ∙ (let z = a.whole in let y : suc k * size ≡ k * size + size = omega arith in let x : length b + length r ≡ suc k * size = omega arith in x);
      right = ap (every record_right) m ∙ every_more record_right (listed 0 k (name_record size b)) (padded w) a.right (padded_right w n);
      once = ap none_twice m ∙ once_more (listed 0 k (name_record size b)) (padded w) a.once p;
    }

-- the set of class i
abbrev set_at : List ℕ → ℕ → ℕ
set_at b i = u32 b (i * 36 + 32)

module _ (b r : List ℕ) (k : ℕ) (e : length b ≡ k * 36) where
  earlier_set : (i : ℕ) → i < k → set_at (b ++ r) i ≡ set_at b i
  earlier_set i l =
      let h : i * 36 + 32 + 4 ≤ length b = omega arith in
      sym (u32_take (length b) (b ++ r) (i * 36 + 32) h) ∙ ap (λ (x : List ℕ). u32 x (i * 36 + 32)) (take-append_seam b r)

  there : (j a : ℕ) → a ≡ k * 36 + j → get_or (b ++ r) a 0 ≡ get_or r j 0
  there j a f = ap (λ (m : ℕ). get_or (b ++ r) m 0) (let z : a ≡ length b + j = omega arith in z) ∙ get_or-append-add b r j 0

  last_set : set_at (b ++ r) k ≡ u32 r 32
  last_set =
      rw (there 32 (k * 36 + 32) (omega arith), there 33 (k * 36 + 32 + 1) (omega arith), there 34 (k * 36 + 32 + 2) (omega arith), there 35 (k * 36 + 32 + 3) (omega arith))

  sets_more : (n : ℕ) → every (bits_named n) (listed 0 k (set_at b)) ≡ true → bits_named n (u32 r 32) ≡ true
      → every (bits_named n) (listed 0 (suc k) (set_at (b ++ r))) ≡ true
  sets_more n h g =
      let m : listed 0 (suc k) (set_at (b ++ r)) ≡ listed 0 k (set_at b) ++ (u32 r 32 ∷ []) =
      listed_last k (set_at (b ++ r)) ∙ (λ i. listed_same 0 k (set_at (b ++ r)) (set_at b) (λ j l. earlier_set j (omega arith)) i ++ (last_set i ∷ [])) in
      ap (every (bits_named n)) m ∙ every_more (bits_named n) (listed 0 k (set_at b)) (u32 r 32) h g

-- a class's record
class_front : (w : List ℕ) (s : ℕ) → is_name w ≡ true → take 32 (class_record w s) ≡ padded w
unfolding class_record
class_front w s h = take_at (padded w) (number_bytes s) 32 (length_padded w h)

class_long : (w : List ℕ) (s : ℕ) → is_name w ≡ true → length (class_record w s) ≡ 36
unfolding class_record number_bytes entry
class_long w s h = length-append (padded w) (number_bytes s) ∙ (let z = length_padded w h in omega arith)

number_back : (s : ℕ) → s < 2 ^ 32 → u32 (number_bytes s) 0 ≡ s
unfolding number_bytes entry
number_back s h = omega arith

class_set : (w : List ℕ) (s : ℕ) → is_name w ≡ true → s < 2 ^ 32 → u32 (class_record w s) 32 ≡ s
unfolding class_record
class_set w s h l =
    rw (behind 0 32 (omega arith), behind 1 (32 + 1) (omega arith), behind 2 (32 + 2) (omega arith), behind 3 (32 + 3) (omega arith)) (number_back s l)
  where
    behind : (j a : ℕ) → a ≡ 32 + j → get_or (padded w ++ number_bytes s) a 0 ≡ get_or (number_bytes s) j 0
    behind j a f =
        ap (λ (m : ℕ). get_or (padded w ++ number_bytes s) m 0) (let z = length_padded w h in let y : a ≡ length (padded w) + j = omega arith in y)
        ∙ get_or-append-add (padded w) (number_bytes s) j 0

-- every bit has a name
abbrev named_bit : ℕ → ℕ → ℕ → Bool
named_bit n s i = not (has s i) || ltb i n

bits_zero : (n : ℕ) → bits_named n 0 ≡ true
unfolding bits_named
bits_zero n = each_intro 32 (named_bit n 0) (λ j l. or_first (not (has 0 j)) (ltb j n) (ap not (has_none j)))

bit_wider : (n s j : ℕ) → named_bit n s j ≡ true → named_bit (suc n) s j ≡ true
bit_wider n s j h = go (or_either (not (has s j)) (ltb j n) h)
  where
    go : (not (has s j) ≡ true) ⊎ (ltb j n ≡ true) → named_bit (suc n) s j ≡ true
    go (inl e) = or_first (not (has s j)) (ltb j (suc n)) e
    go (inr e) = or_second (not (has s j)) (ltb j (suc n)) (lt-ltb j (suc n) (let z = ltb-true j n e in omega arith))

bits_wider : (n s : ℕ) → bits_named n s ≡ true → bits_named (suc n) s ≡ true
unfolding bits_named
bits_wider n s h = each_intro 32 (named_bit (suc n) s) (λ j l. bit_wider n s j (each_elim 32 (named_bit n s) h j l))

every_wider : (n : ℕ) (ss : List ℕ) → every (bits_named n) ss ≡ true → every (bits_named (suc n)) ss ≡ true
unfolding every
every_wider n [] h = refl
every_wider n (s ∷ ss) h =
    and_both (bits_named (suc n) s) (every (bits_named (suc n)) ss) (bits_wider n s (and_left (bits_named n s) (every (bits_named n) ss) h))
    (every_wider n ss (and_right (bits_named n s) (every (bits_named n) ss) h))

bit_more : (n s m j : ℕ) → m < n → named_bit n s j ≡ true → named_bit n (bit_or s (2 ^ m)) j ≡ true
bit_more n s m j l h = go (eqb m j) refl
  where
    go : (b : Bool) → eqb m j ≡ b → named_bit n (bit_or s (2 ^ m)) j ≡ true
    go true e = or_second (not (has (bit_or s (2 ^ m)) j)) (ltb j n) (lt-ltb j n (let z = eqb-true m j e in omega arith))
    go false e =
        ap (λ (b : Bool). not b || ltb j n) (has_or s (2 ^ m) j ∙ ap (λ (b : Bool). has s j || b) (has_pow m j ∙ e) ∙ or-false (has s j)) ∙ h

bits_more : (n s m : ℕ) → m < n → bits_named n s ≡ true → bits_named n (bit_or s (2 ^ m)) ≡ true
unfolding bits_named
bits_more n s m l h = each_intro 32 (named_bit n (bit_or s (2 ^ m))) (λ j k. bit_more n s m j l (each_elim 32 (named_bit n s) h j k))

-- the class that is being read
abbrev pub Coming : List ℕ → Line → Lists → ℕ → Type 0
Coming file Begins l n = Unit {0}
Coming file Names l n = Unit {0}
Coming file Commands l n = Unit {0}
Coming file Class l n = Unit {0}
Coming file (States a b set) l n =
    (is_name (stretch file a b) ≡ true) × (listed_in (records_in 36 l.classes) (stretch file a b) ≡ false) × (bits_named n set ≡ true) × (set < 2 ^ 32)

-- the lists are right, as far as the head is read
pub record Right (file : List ℕ) (line : Line) (l : Lists) : Type 0 where
  pub n : ℕ
  pub m : ℕ
  pub k : ℕ
  pub names : Rows 32 l.names n
  pub commands : Rows 32 l.commands m
  pub classes : Rows 36 l.classes k
  pub sets : every (bits_named n) (listed 0 k (set_at l.classes)) ≡ true
  pub coming : Coming file line l n

abbrev pub Rightly : List ℕ → H.Turn → Type 0
Rightly file (H.on line l) = Right file line l
Rightly file H.over = Unit {0}
Rightly file (H.bad x) = Unit {0}

right_none : (file : List ℕ) → Right file Begins (lent [] [] [])
unfolding every listed
right_none file = record { n = 0; m = 0; k = 0; names = rows_none 32; commands = rows_none 32; classes = rows_none 36; sets = refl; coming = tt }

right_lists : (file : List ℕ) (line : Line) (l : Lists) → Right file line l → lists_right l ≡ true
unfolding lists_right class_sets
right_lists file line l r =
    let a = rows_right 32 l.names r.n (omega arith) r.names in
    let b = rows_right 32 l.commands r.m (omega arith) r.commands in
    let c = rows_right 36 l.classes r.k (omega arith) r.classes in
    let d : length (records_in 32 l.names) ≡ r.n =
    ap length (rows_in 32 l.names r.n (omega arith) r.names.whole) ∙ length_listed 0 r.n (name_record 32 l.names) in
    let e : length l.classes / 36 ≡ r.k = rows_count 36 l.classes r.k (omega arith) r.classes.whole in
    rw (a, b, c, d, e) r.sets

-- a state that is listed has a number
pub record Numbered (names : List ℕ) (set more : ℕ) : Type 0 where
  pub number : ℕ
  pub listed : number < length (records_in 32 names)
  pub small : number < 32
  pub is : more ≡ bit_or set (2 ^ number)

number_case : (names : List ℕ) (set n more : ℕ) (a b : Bool) → n < length (records_in 32 names) → ltb 31 n ≡ a
    → choose a (λ _. Err TooMany) (λ _. choose b (λ _. Err NameTwice) λ _. Ok (bit_or set (2 ^ n))) ≡ Ok more → Numbered names set more
number_case names set n more true b l e h = absurd (clash cc)
number_case names set n more false true l e h = absurd (clash cc)
number_case names set n more false false l e h =
    record { number = n; listed = l; small = (let z = ltb-false 31 n e in omega arith); is = (let z : Ok (bit_or set (2 ^ n)) ≡ Ok more = h in cc) }

state_case : (names : List ℕ) (set more : ℕ) (w : List ℕ) (t : Bool) → listed_in (records_in 32 names) w ≡ t
    → choose t (λ _. with_number set (number_in (records_in 32 names) w)) (λ _. Err NotListed) ≡ Ok more → Numbered names set more
unfolding with_number listed_in
state_case names set more w true e h =
    number_case names set (number_in (records_in 32 names) w) more (ltb 31 (number_in (records_in 32 names) w)) (has set (number_in (records_in 32 names) w))
    (ltb-true (number_in (records_in 32 names) w) (length (records_in 32 names)) e) refl h
state_case names set more w false e h = absurd (clash cc)

state_is : (names : List ℕ) (set more : ℕ) (w : List ℕ) → add_state names set w ≡ Ok more → Numbered names set more
unfolding add_state
state_is names set more w h = state_case names set more w (listed_in (records_in 32 names) w) refl h

module _ (file : List ℕ) (room : Rooms) (l : Lists) where
  in_line : (line next : Line) → Right file line l → ((n : ℕ) → Coming file next l n) → Right file next l
  in_line line next r c =
      record { n = r.n; m = r.m; k = r.k; names = r.names; commands = r.commands; classes = r.classes; sets = r.sets; coming = c r.n }

  -- the first word of a line
  first_right : (w : List ℕ) → Right file Begins l → Rightly file (H.first_turn l w)
  unfolding H.first_turn H.once
  first_right w r = go (same (spelled "names") w) (same (spelled "commands") w) (same (spelled "class") w) (ltb 0 (length l.names)) (ltb 0 (length l.commands))
    where
      go : (a b d p q : Bool)
          → Rightly file
          (choose a (λ _. choose p (λ _. H.bad LineTwice) (λ _. H.on Names l)) λ _.
          choose b (λ _. choose q (λ _. H.bad LineTwice) (λ _. H.on Commands l)) λ _. choose d (λ _. H.on Class l) λ _. H.bad UnknownLine)
      go true b d true q = tt
      go true b d false q = in_line Begins Names r (λ n. tt)
      go false true d p true = tt
      go false true d p false = in_line Begins Commands r (λ n. tt)
      go false false true p q = in_line Begins Class r (λ n. tt)
      go false false false p q = tt

  -- a word of the names line, of the commands line
  name_right : (w : List ℕ) (left : ℕ) → Right file Names l → (j : Judged) → judge_name 32 left l.names w ≡ j
      → Rightly file (judged j λ _. H.on Names (lent (l.names ++ padded w) l.commands l.classes))
  name_right w left r (Ok tt) e =
      let f = fine_is 32 left l.names w e in
      let z = length_padded w f.name in
      record {
        n = suc r.n;
        m = r.m;
        k = r.k;
        names = rows_more 32 l.names (padded w) w r.n (omega arith) r.names f.name f.new z (take_all 32 (padded w) (omega arith));
        commands = r.commands;
        classes = r.classes;
        sets = every_wider r.n (listed 0 r.k (set_at l.classes)) r.sets;
        coming = tt;
      }
  name_right w left r (Err x) e = tt

  command_right : (w : List ℕ) (left : ℕ) → Right file Commands l → (j : Judged) → judge_name 32 left l.commands w ≡ j
      → Rightly file (judged j λ _. H.on Commands (lent l.names (l.commands ++ padded w) l.classes))
  command_right w left r (Ok tt) e =
      let f = fine_is 32 left l.commands w e in
      let z = length_padded w f.name in
      record {
        n = r.n;
        m = suc r.m;
        k = r.k;
        names = r.names;
        commands = rows_more 32 l.commands (padded w) w r.m (omega arith) r.commands f.name f.new z (take_all 32 (padded w) (omega arith));
        classes = r.classes;
        sets = r.sets;
        coming = tt;
      }
  command_right w left r (Err x) e = tt

  -- a class's name, and its states
  class_right : (start end left : ℕ) → Right file Class l → (j : Judged) → judge_name 36 left l.classes (stretch file start end) ≡ j
      → Rightly file (judged j λ _. H.on (States start end 0) l)
  class_right start end left r (Ok tt) e =
      let f = fine_is 36 left l.classes (stretch file start end) e in
      in_line Class (States start end 0) r (λ n. (f.name, f.new, bits_zero n, omega arith))
  class_right start end left r (Err x) e = tt

  state_right : (a b set : ℕ) (w : List ℕ) → Right file (States a b set) l → (g : Grown) → add_state l.names set w ≡ g
      → Rightly file (grown g λ more. H.on (States a b more) l)
  state_right a b set w r (Ok more) e =
      let q = state_is l.names set more w e in
      let d : length (records_in 32 l.names) ≡ r.n =
      ap length (rows_in 32 l.names r.n (omega arith) r.names.whole) ∙ length_listed 0 r.n (name_record 32 l.names) in
      let i = q.listed in
      let (x, y, z, s) = r.coming in
      record {
        n = r.n;
        m = r.m;
        k = r.k;
        names = r.names;
        commands = r.commands;
        classes = r.classes;
        sets = r.sets;
        coming = (
          x,
          y,
          subst (λ (t : ℕ). bits_named r.n t ≡ true) (sym q.is) (bits_more r.n set q.number (omega arith) z),
          subst (λ (t : ℕ). t < 2 ^ 32) (sym q.is) (or_lt 32 set (2 ^ q.number) s (pow-lt q.small)),
        );
      }
  state_right a b set w r (Err x) e = tt

  word_right : (start end : ℕ) (line : Line) → Right file line l → Rightly file (H.word_turn file room start end line l)
  unfolding H.word_turn
  word_right start end Begins r = first_right (stretch file start end) r
  word_right start end Names r = name_right (stretch file start end) (room.names - length l.names) r (judge_name 32 (room.names - length l.names) l.names (stretch file start end)) refl
  word_right start end Commands r =
      command_right (stretch file start end) (room.commands - length l.commands) r
      (judge_name 32 (room.commands - length l.commands) l.commands (stretch file start end)) refl
  word_right start end Class r =
      class_right start end (room.classes - length l.classes) r (judge_name 36 (room.classes - length l.classes) l.classes (stretch file start end)) refl
  word_right start end (States a b set) r = state_right a b set (stretch file start end) r (add_state l.names set (stretch file start end)) refl

  -- the end of a line
  ended_right : (a b set : ℕ) → Right file (States a b set) l
      → Right file Begins (lent l.names l.commands (l.classes ++ class_record (stretch file a b) set))
  ended_right a b set r =
      let (x, y, z, s) = r.coming in
      let w = stretch file a b in
      let g : bits_named r.n (u32 (class_record w set) 32) ≡ true = subst (λ (t : ℕ). bits_named r.n t ≡ true) (sym (class_set w set x s)) z in
      record {
        n = r.n;
        m = r.m;
        k = suc r.k;
        names = r.names;
        commands = r.commands;
        classes = rows_more 36 l.classes (class_record w set) w r.k (omega arith) r.classes x y (class_long w set x) (class_front w set x);
        sets = sets_more l.classes (class_record w set) r.k r.classes.whole r.n r.sets g;
        coming = tt;
      }

  line_right : (line : Line) → Right file line l → Rightly file (H.line_turn file room line l)
  unfolding H.line_turn
  line_right Begins r = tt
  line_right Names r = in_line Names Begins r (λ n. tt)
  line_right Commands r = in_line Commands Begins r (λ n. tt)
  line_right Class r = tt
  line_right (States a b set) r = go (eqb set 0)
    where
      go : (t : Bool)
          → Rightly file (choose t (λ _. H.bad NoStates) λ _. H.on Begins (lent l.names l.commands (l.classes ++ class_record (stretch file a b) set)))
      go true = tt
      go false = ended_right a b set r

  turn_right : (kind : Kind) (start end : ℕ) (line : Line) → Right file line l → Rightly file (H.turn file room kind start end line l)
  unfolding H.turn
  turn_right kind start end line r = go (is_line_end kind)
    where
      go : (t : Bool) → Rightly file (choose t (λ _. H.line_turn file room line l) (λ _. H.word_turn file room start end line l))
      go true = line_right line r
      go false = word_right start end line r

-- THE LISTS ARE RIGHT, where the head is read
after_right : (file : List ℕ) (t : H.Turn) (l m : Lists) (start end at : ℕ) (next : Line → Lists → Outcome) → Rightly file t → lists_right l ≡ true
    → ((line : Line) (k : Lists) → Right file line k → next line k ≡ read m at → lists_right m ≡ true) → H.after t l start end next ≡ read m at → lists_right m ≡ true
after_right file (H.on line k) l m start end at next r h go e = go line k r e
after_right file H.over l m start end at next r h go e = ap lists_right (sym (let z : read l end ≡ read m at = e in cc)) ∙ h
after_right file (H.bad x) l m start end at next r h go e = absurd (clash cc)

reads_right : (file : List ℕ) (room : Rooms) (fs : List Field) (line : Line) (l m : Lists) (at : ℕ) → Right file line l → reads file room line l fs ≡ read m at → lists_right m ≡ true
unfolding reads
reads_right file room [] line l m at r e = absurd (clash cc)
reads_right file room (f ∷ fs) line l m at r e = go (is_file_end f.kind) e (λ next k q. reads_right file room fs next k m at q)
  where
    go : (t : Bool)
        → choose t (λ _. wrong NoEmptyLine f.start f.end l)
        (λ _. H.after (H.turn file room f.kind f.start f.end line l) l f.start f.end (λ next k. reads file room next k fs))
        ≡ read m at
        → ((next : Line) (k : Lists) → Right file next k → reads file room next k fs ≡ read m at → lists_right m ≡ true) → lists_right m ≡ true
    go true h rest = absurd (clash cc)
    go false h rest =
        after_right file (H.turn file room f.kind f.start f.end line l) l m f.start f.end at (λ next k. reads file room next k fs)
        (turn_right file room l f.kind f.start f.end line r) (right_lists file line l r) rest h

pub head_right : (file : List ℕ) (room : Rooms) (l : Lists) (at : ℕ) → head_of file room ≡ read l at → lists_right l ≡ true
unfolding head_of
head_right file room l at e = reads_right file room (fields_from file 0) Begins (lent [] [] []) l at (right_none file) e
