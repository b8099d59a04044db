-- The fields of a word give back the numbers that were packed, where each fits its field.
-- Assumes nothing.
use Prim.Native.Nat.{ℕ, ◌+◌, ◌*◌, ◌/◌, ◌%◌, ◌^◌, ◌<◌, ◌≤◌}
use native.Mathlib.Omega.{arith}
use mathlib.Core.Path.{◌≡◌, refl, ◌∙◌, ap}
use mathlib.Core.Bool.{Bool, true, false}
use mathlib.Core.List.{List, [], ◌∷◌, ◌++◌, map, append-nil, head-eq_of_cons-eq}
use lib.Arith.{digits_div, digits_mod}
use lib.Dec.{eqb}
use borrow.Author.Tests.{ne_eqb, eqb-true}
use Rattle.model.specs.Words.{choose}
use Rattle.bw.specs.Packed.{Field, refused, kind, clause, referrer, target, state, moves, to_do, phase_written, command_written, configuration, text_written, Kinds, behind, side_by_side, fields, word, read, unpacked, unpacked_both, way, kinds_of_judge, kinds_of_probe, kinds_of_phase, kinds_of_command, kinds_of_loop, kinds_of_text}

-- a refusal, whatever was asked
pub back_refused : (ks : Kinds) (n : ℕ) → 1 ≤ n → n < 256 → unpacked ks (word ks (n ∷ [])) ≡ n ∷ []
unfolding word fields side_by_side unpacked
back_refused ks n p l =
    let w = word ks (n ∷ []) in
    let e : read w refused ≡ n = omega arith in
    rw (e, ne_eqb n 0 (λ z. let y : n ≡ 0 = z in omega arith))

-- an answer: the fields behind the refusal
given : (ks : Kinds) (w n : ℕ) → read w refused ≡ 0 → read w kind ≡ n → unpacked ks w ≡ 0 ∷ map (read w) (behind ks n)
unfolding unpacked
given ks w n e f = rw (e, f)

-- its word, where these are the fields of the kind
of_kind : (ks : Kinds) (k : ℕ) (fs : List Field) (ns : List ℕ) → behind ks k ≡ fs → word ks (0 ∷ k ∷ ns) ≡ side_by_side (refused ∷ fs) (0 ∷ k ∷ ns)
unfolding word fields
of_kind ks k fs ns f = ap (λ (gs : List Field). side_by_side (refused ∷ gs) (0 ∷ k ∷ ns)) f

-- a field is read back from a word in which it stands between what is above and what is below it
pub between : (f : Field) (w above n below : ℕ) → w ≡ (above * 2 ^ f.width + n) * 2 ^ f.lowest + below → below < 2 ^ f.lowest → n < 2 ^ f.width → read w f ≡ n
between f w above n below e l m =
    ap (λ (x : ℕ). x / 2 ^ f.lowest % 2 ^ f.width) e ∙ ap (λ (x : ℕ). x % 2 ^ f.width) (digits_div (above * 2 ^ f.width + n) l) ∙ digits_mod above m

-- every answer has no refusal, and its kind; what is above them is u
front : (w k u : ℕ) → w ≡ k * 256 + u * 65536 → k < 256 → (read w refused ≡ 0) × (read w kind ≡ k)
front w k u e l = (between refused w (k + 256 * u) 0 0 (omega arith) (omega arith) (omega arith), between kind w u k 0 (omega arith) (omega arith) l)

-- most have a state; what is above it is u
state_in : (w k q u : ℕ) → w ≡ k * 256 + q * 65536 + u * 16777216 → k < 256 → q < 256 → read w state ≡ q
state_in w k q u e l o = between state w u q (k * 256) (omega arith) (omega arith) o

-- an accepted sheet
pub back_accepted : unpacked kinds_of_judge (word kinds_of_judge (0 ∷ [])) ≡ 0 ∷ []
unfolding word fields side_by_side unpacked
back_accepted = refl

-- the probe: no clause
pub back_nothing : unpacked kinds_of_probe (word kinds_of_probe (0 ∷ 0 ∷ [])) ≡ 0 ∷ 0 ∷ []
unfolding word fields side_by_side unpacked
back_nothing = refl

-- its clause
pub back_clause : (i r t : ℕ) → i < 65536 → r < 256 → t < 256 → unpacked kinds_of_probe (word kinds_of_probe (0 ∷ 1 ∷ i ∷ r ∷ t ∷ [])) ≡ 0 ∷ 1 ∷ i ∷ r ∷ t ∷ []
unfolding word fields side_by_side
back_clause i r t l m n = go (word kinds_of_probe (0 ∷ 1 ∷ i ∷ r ∷ t ∷ [])) (omega arith)
  where
    go : (w : ℕ) → w ≡ 256 + i * 65536 + r * 4294967296 + t * 1099511627776 → unpacked kinds_of_probe w ≡ 0 ∷ 1 ∷ i ∷ r ∷ t ∷ []
    go w e =
        let (a, b) = front w 1 (i + 65536 * r + 16777216 * t) (omega arith) (omega arith) in
        let x = between clause w (r + 256 * t) i 256 (omega arith) (omega arith) l in
        let y = between referrer w t r (256 + i * 65536) (omega arith) (omega arith) m in
        let z = between target w 0 t (256 + i * 65536 + r * 4294967296) (omega arith) (omega arith) n in
        given kinds_of_probe w 1 a b ∙ cc (b, x, y, z)

-- the state, the moves and the bytes of a when phase, of a kind that has these three
pub back_reached : (k q m n : ℕ) → k < 256 → q < 256 → m < 256 → n < 16777216 → behind kinds_of_phase k ≡ kind ∷ way
    → unpacked kinds_of_phase (word kinds_of_phase (0 ∷ k ∷ q ∷ m ∷ n ∷ [])) ≡ 0 ∷ k ∷ q ∷ m ∷ n ∷ []
unfolding side_by_side
back_reached k q m n l o p r f = go (word kinds_of_phase (0 ∷ k ∷ q ∷ m ∷ n ∷ [])) (of_kind kinds_of_phase k (kind ∷ way) (q ∷ m ∷ n ∷ []) f ∙ sum)
  where
    sum : side_by_side (refused ∷ kind ∷ way) (0 ∷ k ∷ q ∷ m ∷ n ∷ []) ≡ k * 256 + q * 65536 + m * 16777216 + n * 1099511627776
    sum = omega arith

    go : (w : ℕ) → w ≡ k * 256 + q * 65536 + m * 16777216 + n * 1099511627776 → unpacked kinds_of_phase w ≡ 0 ∷ k ∷ q ∷ m ∷ n ∷ []
    go w e =
        let (a, b) = front w k (q + 256 * m + 16777216 * n) (omega arith) l in
        let x = state_in w k q (m + 65536 * n) (omega arith) l o in
        let y = between moves w (256 * n) m (k * 256 + q * 65536) (omega arith) (omega arith) p in
        let z = between phase_written w 0 n (k * 256 + q * 65536 + m * 16777216) (omega arith) (omega arith) r in
        given kinds_of_phase w k a b ∙ ap (λ (fs : List Field). 0 ∷ map (read w) fs) f ∙ cc (b, x, y, z)

-- the same with the command of a closing DO
pub back_do : (q m n c : ℕ) → q < 256 → m < 256 → n < 16777216 → c < 256
    → unpacked kinds_of_phase (word kinds_of_phase (0 ∷ 2 ∷ q ∷ m ∷ n ∷ c ∷ [])) ≡ 0 ∷ 2 ∷ q ∷ m ∷ n ∷ c ∷ []
unfolding word fields side_by_side
back_do q m n c l o r p = go (word kinds_of_phase (0 ∷ 2 ∷ q ∷ m ∷ n ∷ c ∷ [])) (omega arith)
  where
    go : (w : ℕ) → w ≡ 512 + q * 65536 + m * 16777216 + c * 4294967296 + n * 1099511627776 → unpacked kinds_of_phase w ≡ 0 ∷ 2 ∷ q ∷ m ∷ n ∷ c ∷ []
    go w e =
        let (a, b) = front w 2 (q + 256 * m + 65536 * c + 16777216 * n) (omega arith) (omega arith) in
        let x = state_in w 2 q (m + 256 * c + 65536 * n) (omega arith) (omega arith) l in
        let y = between moves w (c + 256 * n) m (512 + q * 65536) (omega arith) (omega arith) o in
        let z = between phase_written w 0 n (512 + q * 65536 + m * 16777216 + c * 4294967296) (omega arith) (omega arith) r in
        let u = between to_do w n c (512 + q * 65536 + m * 16777216) (omega arith) (omega arith) p in
        given kinds_of_phase w 2 a b ∙ cc (b, x, y, z, u)

-- the state of a command and its own bytes; both kinds have them
module _ (k q n : ℕ) (l : k < 256) (o : q < 256) (p : n < 4294967296) (f : behind kinds_of_command k ≡ kind ∷ state ∷ command_written ∷ []) where
  abbrev command_word : ℕ
  command_word = word kinds_of_command (0 ∷ k ∷ q ∷ n ∷ [])

  command_sum : command_word ≡ k * 256 + q * 65536 + n * 4294967296
  unfolding side_by_side
  command_sum = of_kind kinds_of_command k (kind ∷ state ∷ command_written ∷ []) (q ∷ n ∷ []) f ∙ sum
    where
      sum : side_by_side (refused ∷ kind ∷ state ∷ command_written ∷ []) (0 ∷ k ∷ q ∷ n ∷ []) ≡ k * 256 + q * 65536 + n * 4294967296
      sum = omega arith

  pub state_back : read command_word state ≡ q
  state_back = go command_word command_sum
    where
      go : (w : ℕ) → w ≡ k * 256 + q * 65536 + n * 4294967296 → read w state ≡ q
      go w e = state_in w k q (256 * n) (omega arith) l o

  pub own_back : read command_word command_written ≡ n
  own_back = go command_word command_sum
    where
      go : (w : ℕ) → w ≡ k * 256 + q * 65536 + n * 4294967296 → read w command_written ≡ n
      go w e = between command_written w 0 n (k * 256 + q * 65536) (omega arith) (omega arith) p

  pub back_command : unpacked kinds_of_command command_word ≡ 0 ∷ k ∷ q ∷ n ∷ []
  back_command = go command_word command_sum state_back own_back
    where
      go : (w : ℕ) → w ≡ k * 256 + q * 65536 + n * 4294967296 → read w state ≡ q → read w command_written ≡ n → unpacked kinds_of_command w ≡ 0 ∷ k ∷ q ∷ n ∷ []
      go w e x y =
          let (a, b) = front w k (q + 65536 * n) (omega arith) l in
          given kinds_of_command w k a b ∙ ap (λ (fs : List Field). 0 ∷ map (read w) fs) f ∙ cc (b, x, y)

-- both words of a command: the first number of the first is its refusal
pub refusal_in : (ks : Kinds) (w n : ℕ) (ns : List ℕ) → unpacked ks w ≡ n ∷ ns → read w refused ≡ n
unfolding unpacked
refusal_in ks w n ns = go (eqb (read w refused) 0) refl
  where
    go : (b : Bool) → eqb (read w refused) 0 ≡ b → choose b (λ _. 0 ∷ map (read w) (behind ks (read w kind))) (λ _. read w refused ∷ []) ≡ n ∷ ns → read w refused ≡ n
    go true z e = eqb-true (read w refused) 0 z ∙ head-eq_of_cons-eq e
    go false z e = head-eq_of_cons-eq e

-- refused: that number alone, whatever the second is
pub back_unanswered : (w v n : ℕ) → 1 ≤ n → unpacked kinds_of_command w ≡ n ∷ [] → unpacked_both w v ≡ n ∷ []
unfolding unpacked_both
back_unanswered w v n l e = rw (refusal_in kinds_of_command w n [] e, ne_eqb n 0 (λ z. let y : n ≡ 0 = z in omega arith)) (append-nil (unpacked kinds_of_command w) ∙ e)

-- answered: the numbers of both
pub back_both : (w v : ℕ) (ns ms : List ℕ) → unpacked kinds_of_command w ≡ 0 ∷ ns → unpacked kinds_of_phase v ≡ 0 ∷ ms → unpacked_both w v ≡ (0 ∷ ns) ++ ms
unfolding unpacked_both
back_both w v ns ms e f = rw (refusal_in kinds_of_command w 0 ns e, e, f)

-- the moves of a class that is free of loops; the configuration and the state of a loop
pub back_free : (m : ℕ) → m < 256 → unpacked kinds_of_loop (word kinds_of_loop (0 ∷ 0 ∷ m ∷ [])) ≡ 0 ∷ 0 ∷ m ∷ []
unfolding word fields side_by_side
back_free m l = go (word kinds_of_loop (0 ∷ 0 ∷ m ∷ [])) (omega arith)
  where
    go : (w : ℕ) → w ≡ m * 16777216 → unpacked kinds_of_loop w ≡ 0 ∷ 0 ∷ m ∷ []
    go w e =
        let (a, b) = front w 0 (256 * m) (omega arith) (omega arith) in
        let x = between moves w 0 m 0 (omega arith) (omega arith) l in
        given kinds_of_loop w 0 a b ∙ cc (b, x)

pub back_loop : (k q : ℕ) → k < 4294967296 → q < 256 → unpacked kinds_of_loop (word kinds_of_loop (0 ∷ 1 ∷ k ∷ q ∷ [])) ≡ 0 ∷ 1 ∷ k ∷ q ∷ []
unfolding word fields side_by_side
back_loop k q l o = go (word kinds_of_loop (0 ∷ 1 ∷ k ∷ q ∷ [])) (omega arith)
  where
    go : (w : ℕ) → w ≡ 256 + q * 65536 + k * 4294967296 → unpacked kinds_of_loop w ≡ 0 ∷ 1 ∷ k ∷ q ∷ []
    go w e =
        let (a, b) = front w 1 (q + 65536 * k) (omega arith) (omega arith) in
        let x = between configuration w 0 k (256 + q * 65536) (omega arith) (omega arith) l in
        let y = state_in w 1 q (256 * k) (omega arith) (omega arith) o in
        given kinds_of_loop w 1 a b ∙ cc (b, x, y)

-- the length of a text that was written
pub back_text : (n : ℕ) → n < 4294967296 → unpacked kinds_of_text (word kinds_of_text (0 ∷ n ∷ [])) ≡ 0 ∷ n ∷ []
unfolding word fields side_by_side
back_text n l = go (word kinds_of_text (0 ∷ n ∷ [])) (omega arith)
  where
    go : (w : ℕ) → w ≡ n * 4294967296 → unpacked kinds_of_text w ≡ 0 ∷ n ∷ []
    go w e =
        let a = between refused w (16777216 * n) 0 0 (omega arith) (omega arith) (omega arith) in
        let x = between text_written w 0 n 0 (omega arith) (omega arith) l in
        given kinds_of_text w (read w kind) a refl ∙ cc (x)
