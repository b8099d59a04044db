-- One level of the open ifs can be watched by counting.
-- Assumes nothing.
use Prim.Native.Nat.{ℕ, zero, suc, ◌-◌, ◌<◌, ◌≤◌}
use native.Mathlib.Omega.{arith}
use mathlib.Core.Path.{◌≡◌, refl, sym, ◌∙◌, ap, subst}
use mathlib.Core.Bool.{Bool, true, false, ◌&&◌, ◌||◌, not}
use mathlib.Core.List.{List, [], ◌∷◌, ◌++◌}
use lib.Dec.{eqb}
use lib.ListN.{length, drop, get_or, set, length-set}
use lib.Seq.{get_or-set_same, get_or-set_other}
use borrow.Author.Tests.{eqb-true, eqb-false, eq-eqb, ne_eqb}
use Rattle.model.specs.Words.{choose}
use Rattle.grammar.specs.Words.{Word, white, word_length, word_at, cut}
use Rattle.grammar.specs.Kinds.{kind_of, token_as}
use Rattle.grammar.proofs.Machine.{clash}
use Rattle.words.specs.Scanning.{words_from, stretch, Next}
use Rattle.words.proofs.Turns.{kind_as}
use Rattle.steps.specs.Opening.{Ifs, with_else, closed, had_else, counted, ifs_after}
use Rattle.steps.proofs.Simulated.{ifs_length}
use Rattle.recognised.specs.Watching.{Along, ifs_along, seen_after, begun_at, bit_at, Marks, Noted, Watched, HadElse}

-- the word of a kind that stands from one place to another
abbrev pub word_of : List ℕ → ℕ → ℕ → ℕ → Word
word_of text kind start end = record { start = start; end = end; token = token_as kind (stretch text start end) }

-- behind a word that is not the end
pub word_then : (text : List ℕ) (at kind start end : ℕ) → Next text at kind start end → (kind ≡ 26 → ⊥) → words_from text at ≡ word_of text kind start end ∷ words_from text end
word_then text at kind start end n h = n.words ∙ ap (λ (b : Bool). word_of text kind start end ∷ choose b (λ _. []) (λ _. words_from text end)) (ne_eqb kind 26 h)

-- behind the end nothing stands
pub word_last : (text : List ℕ) (at kind start end : ℕ) → Next text at kind start end → kind ≡ 26 → words_from text at ≡ word_of text kind start end ∷ []
word_last text at kind start end n h = n.words ∙ ap (λ (b : Bool). word_of text kind start end ∷ choose b (λ _. []) (λ _. words_from text end)) (eq-eqb kind 26 h)

never_empty : (l : List ℕ) (k at : ℕ) → cut k at l ≡ [] → ⊥
unfolding cut
never_empty [] k at e = clash (cc)
never_empty (b ∷ bs) (suc k) at e = never_empty bs k (suc at) e
never_empty (b ∷ bs) zero at e = go (white b) e (never_empty bs zero (suc at))
  where
    go : (t : Bool) → choose t (λ _. cut zero (suc at) bs) (λ _. word_at at (b ∷ bs) (word_length (b ∷ bs)) ∷ cut (word_length (b ∷ bs) - 1) (suc at) bs) ≡ []
        → (cut zero (suc at) bs ≡ [] → ⊥) → ⊥
    go true e k = k e
    go false e k = clash (cc)

-- words lead onward
pub along_up : (text : List ℕ) (at : ℕ) (ws : List Word) (to : ℕ) → Along text at ws to → at ≤ to
unfolding Along
along_up text at [] to a = omega arith
along_up text at (w ∷ ws) to a = let h = along_up text w.end ws to a.2 in let l = a.1 in omega (arith, h, l)

pub along_one : (text : List ℕ) (at : ℕ) (ws : List Word) (to : ℕ) (w : Word) → Along text at ws to → words_from text to ≡ w ∷ words_from text w.end → to < w.end
    → Along text at (ws ++ (w ∷ [])) w.end
unfolding Along
along_one text at [] to w a e l = (ap (words_from text) a ∙ e, subst (λ (p : ℕ). p < w.end) (sym a) l, refl)
along_one text at (v ∷ ws) to w a e l = (a.0, a.1, along_one text v.end ws to w a.2 e l)

pub ifs_one : (b : Ifs) (ws : List Word) (w : Word) → ifs_along b (ws ++ (w ∷ [])) ≡ ifs_after (ifs_along b ws) (kind_of w.token)
unfolding ifs_along
ifs_one b [] w = refl
ifs_one b (v ∷ ws) w = ifs_one (ifs_after b (kind_of v.token)) ws w

pub bit_top : (b : Ifs) → bit_at b (length b) ≡ had_else b
unfolding bit_at had_else
bit_top [] = refl
bit_top (e ∷ b) = rw (eq-eqb (suc (length b)) (suc (length b)) refl)

bit_under : (e : Bool) (b : Ifs) (d : ℕ) → d ≤ length b → bit_at (e ∷ b) d ≡ bit_at b d
unfolding bit_at
bit_under e b d h = rw (ne_eqb (suc (length b)) d (λ z. omega (arith, z)))

-- the watched bit, where an if is opened, has its else, is closed
module _ (d : ℕ) (s : Bool) where
  abbrev Right : Ifs → Type 0
  Right b = d ≤ length b → s ≡ bit_at b d

  bit_opened : (b : Ifs) → Right b → d ≤ suc (length b) → choose (eqb (suc (length b)) d) (λ _. false) (λ _. s) ≡ bit_at (false ∷ b) d
  unfolding bit_at
  bit_opened b h l = go (eqb (suc (length b)) d) refl
    where
      go : (t : Bool) → eqb (suc (length b)) d ≡ t → choose t (λ _. false) (λ _. s) ≡ choose t (λ _. false) (λ _. bit_at b d)
      go true e = refl
      go false e = h (let z = eqb-false (suc (length b)) d e in omega (arith, z))

  bit_elsed : (b : Ifs) → (d ≡ 0 → ⊥) → Right b → d ≤ length (with_else b) → choose (eqb (length (with_else b)) d) (λ _. true) (λ _. s) ≡ bit_at (with_else b) d
  unfolding bit_at with_else
  bit_elsed [] z h l = absurd (z (omega arith))
  bit_elsed (e ∷ b) z h l = go (eqb (suc (length b)) d) refl
    where
      go : (t : Bool) → eqb (suc (length b)) d ≡ t → choose t (λ _. true) (λ _. s) ≡ choose t (λ _. true) (λ _. bit_at b d)
      go true p = refl
      go false p = h l ∙ ap (λ (t : Bool). choose t (λ _. e) (λ _. bit_at b d)) p

  bit_closed : (b : Ifs) → Right b → d ≤ length (closed b) → s ≡ bit_at (closed b) d
  unfolding closed
  bit_closed [] h l = h l
  bit_closed (e ∷ b) h l = h (let z : d ≤ suc (length b) = omega arith in z) ∙ bit_under e b d l

either_way : (t s : Bool) → choose t (λ _. s) (λ _. s) ≡ s
either_way true s = refl
either_way false s = refl

-- the watched bit behind a word: it changes where as many ifs are open behind the word as are watched
pub bit_after : (b : Ifs) (k d : ℕ) (s : Bool) → (d ≡ 0 → ⊥) → (d ≤ length b → s ≡ bit_at b d) → d ≤ length (ifs_after b k)
    → seen_after s (length (ifs_after b k)) d k ≡ bit_at (ifs_after b k) d
unfolding ifs_after seen_after
bit_after b k d s z h = go (eqb k 12) (eqb k 13) (eqb k 14)
  where
    after : Bool → Bool → Bool → Ifs
    after t u v = choose t (λ _. false ∷ b) (λ _. choose u (λ _. with_else b) (λ _. choose v (λ _. closed b) (λ _. b)))

    go : (t u v : Bool) → d ≤ length (after t u v) → choose (eqb (length (after t u v)) d) (λ _. not t && (u || s)) (λ _. s) ≡ bit_at (after t u v) d
    go true u v l = bit_opened d s b h l
    go false true v l = bit_elsed d s b z h l
    go false false true l = either_way (eqb (length (closed b)) d) s ∙ bit_closed d s b h l
    go false false false l = either_way (eqb (length b) d) s ∙ h l

pub seen_other : (s : Bool) (l d k : ℕ) → (l ≡ d → ⊥) → s ≡ seen_after s l d k
unfolding seen_after
seen_other s l d k h = rw (ne_eqb l d h)

pub seen_here : (s : Bool) (l d k : ℕ) → l ≡ d → (not (eqb k 12) && (eqb k 13 || s)) ≡ seen_after s l d k
unfolding seen_after
seen_here s l d k h = rw (eq-eqb l d h)

pub begun_here : (from at n : ℕ) → n ≡ 0 → at ≡ begun_at from at n
unfolding begun_at
begun_here from at n h = rw (eq-eqb n 0 h)

pub begun_before : (from at n : ℕ) → (n ≡ 0 → ⊥) → from ≡ begun_at from at n
unfolding begun_at
begun_before from at n h = rw (ne_eqb n 0 h)

pub counted_up : (n k up down : ℕ) → counted n k up down ≤ suc n
unfolding counted
counted_up n k up down = go (eqb k up) (eqb k down)
  where
    go : (t u : Bool) → choose t (λ _. suc n) (λ _. choose u (λ _. n - 1) (λ _. n)) ≤ suc n
    go true u = let z : suc n ≤ suc n = omega arith in z
    go false true = let z : n - 1 ≤ suc n = omega arith in z
    go false false = let z : n ≤ suc n = omega arith in z

-- of words on the way to a place: the ifs open behind some, and the words that are left
pub record Left (text : List ℕ) (to d at level : ℕ) (seen : Bool) (ws : List Word) : Type 0 where
  ifs : Ifs
  left : List Word
  along : Along text at left to
  same : ifs_along [] ws ≡ ifs_along ifs left
  open_ifs : level ≡ length ifs
  bit : d ≤ length ifs → seen ≡ bit_at ifs d

-- what the loop has watched
pub record Watching (text : List ℕ) (from to d at level : ℕ) (seen : Bool) : Type 0 where
  pub low : level ≤ at
  pub left : (ws : List Word) → Along text from ws to → (d ≡ 0 → ⊥) → Left text to d at level seen ws

pub watch_none : (text : List ℕ) (from to d : ℕ) → Watching text from to d from 0 false
unfolding bit_at
watch_none text from to d =
    record { low = (omega arith); left = λ ws a z. record { ifs = []; left = ws; along = a; same = refl; open_ifs = refl; bit = λ l. refl } }

-- the words that are left begin with the next word
record First (text : List ℕ) (at kind end to : ℕ) (b : Ifs) (left : List Word) : Type 0 where
  behind : List Word
  along : Along text end behind to
  ifs : ifs_along b left ≡ ifs_along (ifs_after b kind) behind

first_left : (text : List ℕ) (at kind start end to : ℕ) (b : Ifs) (ws : List Word) → at < to → Next text at kind start end → (kind ≡ 26 → ⊥) → Along text at ws to
    → First text at kind end to b ws
unfolding Along ifs_along
first_left text at kind start end to b [] l n h a = absurd (omega (arith, l, a))
first_left text at kind start end to b (w ∷ ws) l n h a =
    let e : w ∷ words_from text w.end ≡ word_of text kind start end ∷ words_from text end = sym a.0 ∙ word_then text at kind start end n h in
    let p : w ≡ word_of text kind start end = cc in
    record {
      behind = ws;
      along = subst (λ (v : Word). Along text v.end ws to) p a.2;
      ifs = ap (λ (k : ℕ). ifs_along (ifs_after b k) ws) (ap (λ (v : Word). kind_of v.token) p ∙ kind_as kind (stretch text start end));
    }

pub watch_on : (text : List ℕ) (from to d at level l kind start end : ℕ) (seen s : Bool) → at < to → Watching text from to d at level seen → Next text at kind start end
    → (kind ≡ 26 → ⊥) → l ≡ counted level kind 12 14 → s ≡ seen_after seen l d kind → Watching text from to d end l s
watch_on text from to d at level l kind start end seen s lt w n h e f =
    record {
      low = (let u = counted_up level kind 12 14 in let v = w.low in let o = n.onward in let m = n.moves h in omega (arith, e, u, v, o, m));
      left = λ ws a z. go ws z (w.left ws a z);
    }
  where
    go : (ws : List Word) → (d ≡ 0 → ⊥) → Left text to d at level seen ws → Left text to d end l s ws
    go ws z r =
        let g = first_left text at kind start end to r.ifs r.left lt n h r.along in
        let o : l ≡ length (ifs_after r.ifs kind) = e ∙ (ap (λ (m : ℕ). counted m kind 12 14) r.open_ifs ∙ sym (ifs_length r.ifs kind)) in
        record {
          ifs = ifs_after r.ifs kind;
          left = g.behind;
          along = g.along;
          same = r.same ∙ g.ifs;
          open_ifs = o;
          bit = λ m. f ∙ (ap (λ (j : ℕ). seen_after seen j d kind) o ∙ bit_after r.ifs kind d seen z r.bit m);
        }

-- the text does not end before the place
pub watch_end : (text : List ℕ) (from to d at level kind start end : ℕ) (seen : Bool) → at < to → Watching text from to d at level seen → Next text at kind start end → kind ≡ 26
    → Watched text from to d false
unfolding Watched Along words_from
watch_end text from to d at level kind start end seen lt w n h ws a e z = absurd (go (w.left ws a z).left (w.left ws a z).along)
  where
    go : (vs : List Word) → Along text at vs to → ⊥
    go [] a = omega (arith, lt, a)
    go (v ∷ vs) a =
        let e : v ∷ words_from text v.end ≡ word_of text kind start end ∷ [] = sym a.0 ∙ word_last text at kind start end n h in
        let p : words_from text v.end ≡ [] = cc in
        never_empty (drop v.end text) 0 v.end p

-- at the place the watched level is the innermost one
pub watch_done : (text : List ℕ) (from to d at level : ℕ) (seen : Bool) → Watching text from to d at level seen → to ≤ at → Watched text from to d seen
unfolding Watched Along ifs_along
watch_done text from to d at level seen w l ws a e z = go (w.left ws a z).left (w.left ws a z) refl
  where
    go : (vs : List Word) (r : Left text to d at level seen ws) → r.left ≡ vs → seen ≡ had_else (ifs_along [] ws)
    go [] r p =
        let q : ifs_along [] ws ≡ r.ifs = r.same ∙ ap (ifs_along r.ifs) p in
        let m : d ≡ length r.ifs = sym e ∙ ap length q in
        r.bit (omega (arith, m)) ∙ (ap (bit_at r.ifs) m ∙ (bit_top r.ifs ∙ ap had_else (sym q)))
    go (v ∷ vs) r p =
        let b : Along text at (v ∷ vs) to = subst (λ (us : List Word). Along text at us to) p r.along in
        absurd (past b)
      where
        past : Along text at (v ∷ vs) to → ⊥
        past b = let x = b.1 in let y = along_up text v.end vs to b.2 in omega (arith, x, y, l)

-- a word that is not else needs nothing, and where no if is open none had its else
module _ (text : List ℕ) (from to d kind : ℕ) (m : List Bool) where
  pub had_other : (kind ≡ 13 → ⊥) → HadElse text from to d kind m false
  unfolding HadElse
  had_other h e = absurd (h e)

  pub had_none : d ≡ 0 → HadElse text from to d kind m false
  unfolding HadElse had_else
  had_none h e ws a l k = go (ifs_along [] ws) (l ∙ h)
    where
      go : (b : Ifs) → length b ≡ 0 → false ≡ had_else b
      go [] h = refl
      go (x ∷ b) h = absurd (let z : suc (length b) ≡ 0 = h in omega arith)

  -- its mark tells, or the words
  pub had_marked : (d ≡ 0 → ⊥) → d < length m → HadElse text from to d kind m (get_or m d false)
  unfolding HadElse
  had_marked z lt e ws a l k = k d z lt (omega arith) ∙ (ap (bit_at (ifs_along [] ws)) (sym l) ∙ bit_top (ifs_along [] ws))

  pub had_watched : (r : Bool) → (d ≡ 0 → ⊥) → Watched text from to d r → HadElse text from to d kind m r
  unfolding HadElse Watched
  had_watched r z w e ws a l k = w ws a l z

-- a level is marked, or there are more levels than marks
pub noted_here : (m : List Bool) (level k : ℕ) (s : Bool) → level < length m → s ≡ seen_after (get_or m level false) level level k → Noted m level k (set m level s)
noted_here m level k s l e = record { as_many = length-set m level s; marked = λ d lt. go d (eqb level d) refl }
  where
    go : (d : ℕ) (t : Bool) → eqb level d ≡ t → get_or (set m level s) d false ≡ seen_after (get_or m d false) level d k
    go d true p =
        let q : level ≡ d = eqb-true level d p in
        subst (λ (j : ℕ). get_or (set m level s) j false ≡ seen_after (get_or m j false) level j k) q (get_or-set_same m level s false l ∙ e)
    go d false p =
        let n = eqb-false level d p in
        get_or-set_other m level d s false (λ e. n (sym e)) ∙ seen_other (get_or m d false) level d k n

pub noted_past : (m : List Bool) (level k : ℕ) → length m ≤ level → Noted m level k m
noted_past m level k l = record { as_many = refl; marked = λ d lt. seen_other (get_or m d false) level d k (λ e. omega arith) }

-- marks that are right stay right
pub marks_none : (m : List Bool) → Marks m []
marks_none m d z lt l = absurd (z (let y : d ≤ 0 = l in omega arith))

pub marks_on : (m m' : List Bool) (b c : Ifs) (k : ℕ) → Marks m b → c ≡ ifs_after b k → Noted m (length c) k m' → Marks m' c
marks_on m m' b c k h p n d z lt l =
    let x : d < length m = let q = n.as_many in omega arith in
    n.marked d x
    ∙ (ap (λ (v : Ifs). seen_after (get_or m d false) (length v) d k) p ∙ (bit_after b k d (get_or m d false) z (λ y. h d z x y) (subst (λ (v : Ifs). d ≤ length v) p l) ∙ ap (λ (v : Ifs). bit_at v d) (sym p)))
