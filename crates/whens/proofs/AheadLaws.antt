-- One turn of the loops that look ahead.
-- Assumes nothing.
use Prim.Native.Nat.{ℕ, ◌+◌, ◌-◌, ◌/◌, ◌%◌, ◌<◌, ◌≤◌}
use native.Mathlib.Omega.{arith}
use mathlib.Core.Logic.{◌⊎◌, inl, inr}
use mathlib.Core.Path.{◌≡◌, sym, ◌∙◌, ap}
use mathlib.Core.Bool.{true, ◌||◌}
use mathlib.Core.List.{List, [], ◌∷◌}
use lib.Dec.{eqb}
use lib.ListN.{length}
use borrow.Author.Tests.{ne_eqb, eq-eqb, le-leb, lt-leb}
use Rattle.grammar.specs.Grammar.{Name, Referrer, move_to, run, stay}
use Rattle.grammar.specs.Words.{tokens}
use Rattle.grammar.specs.Kinds.{bytes_of, token_as}
use Rattle.words.specs.Scanning.{tokens_from, stretch, end_kind, behind, Next}
use Rattle.words.proofs.Turns.{turn, kind_as, bytes_as}
use Rattle.encoding.specs.Records.{four, fours}
use Rattle.pen.specs.Writing.{Puts}
use Rattle.lists.specs.Lent.{found_from}
use Rattle.std.specs.Prelude.{Option}
use Rattle.own.specs.Ahead.{first_bytes, names_from}
use Rattle.own.specs.Held.{Filled, all_names}
use Rattle.whens.specs.Ahead.{guards_after, found_number, number_among, low4}
use Rattle.whens.specs.Naming.{NameAhead, referrer_as, Stands, Refers}
use Rattle.whens.specs.Whens.{referrer_ahead, own_number, when_ahead, when_at}
use Rattle.whens.specs.declared.Stretch.{Stretch}
use Rattle.whens.specs.declared.Refer.{Refer}
use Rattle.whens.specs.declared.Refer.TheVariants.{MoveTo, Do, Stay}

-- four bytes
pub record_put : (a b c d w x y z : ℕ) (before after : List ℕ) (at r : ℕ) → w ≡ a % 256 → x ≡ b % 256 → y ≡ c % 256 → z ≡ d % 256
    → Puts (w ∷ x ∷ y ∷ z ∷ []) before at after r → Puts (fours (low4 (four a b c d) ∷ [])) before at after r
unfolding fours
record_put a b c d w x y z before after at r p q s t u = rw (← p, ← q, ← s, ← t) u

-- the word that is next
pub front : (text : List ℕ) (at kind start end : ℕ) → Next text at kind start end
    → tokens_from text at ≡ token_as kind (stretch text start end) ∷ tokens (behind text kind end)
unfolding tokens_from tokens
front text at kind start end n = ap tokens n.words

no_bytes : (k : ℕ) (b : List ℕ) → (k ≡ 0 → ⊥) → bytes_of (token_as k b) ≡ []
unfolding bytes_of token_as
no_bytes k b h = rw (ne_eqb k 0 h)

pub name_none : (text : List ℕ) (at kind start end : ℕ) → Next text at kind start end → (kind ≡ 0 → ⊥) → NameAhead text at 0 0
unfolding first_bytes
name_none text at kind start end n h =
    record {
      bytes = sym (ap first_bytes (front text at kind start end n) ∙ no_bytes kind (stretch text start end) h);
      ordered = omega arith;
      inside = omega arith;
    }

pub name_next : (text : List ℕ) (at kind start end : ℕ) → Next text at kind start end → kind ≡ 0 → NameAhead text at start end
unfolding first_bytes
name_next text at kind start end n h =
    let m = n.moves (λ e. omega arith) in
    record {
      bytes = sym (ap first_bytes (front text at kind start end n) ∙ bytes_as kind (stretch text start end) h);
      ordered = omega arith;
      inside = n.inside (λ e. omega arith);
    }

-- each turn there is less text ahead
pub less_ahead : (text : List ℕ) (here k start end : ℕ) → Next text here k start end → (k ≡ end_kind → ⊥) → length text - end < length text - here
less_ahead text here k start end N on =
    let m = N.moves on in
    let o = N.onward in
    let i = N.inside on in
    omega arith

-- the number of an own state, of an action
pub own_told : (text table : List ℕ) (count rest : ℕ) (word : List ℕ) (f : Option ℕ) (r : ℕ) → Filled text table 2 26 0 count rest
    → f ≡ found_from 0 (all_names text table count 2 26 rest) word → r ≡ found_number f → r ≡ own_number text word
unfolding own_number
own_told text table count rest word f r F e h = h ∙ ap found_number (e ∙ ap (λ (ns : List Name). found_from 0 ns word) F.filling.names)

pub action_told : (ns : List Name) (word : List ℕ) (f : Option ℕ) (r : ℕ) → f ≡ found_from 0 ns word → r ≡ found_number f → r ≡ number_among ns word
action_told ns word f r e h = h ∙ ap found_number e

-- a guard record more, or none
pub one_more : (n k : ℕ) → 15 ≤ k → k ≤ 19 → n + 1 ≡ guards_after n k
unfolding guards_after
one_more n k a b = rw (le-leb 15 k a, le-leb k 19 b)

pub none_below : (n k : ℕ) → k < 15 → n ≡ guards_after n k
unfolding guards_after
none_below n k a = rw (lt-leb 15 k a)

pub none_above : (n k : ℕ) → 19 < k → n ≡ guards_after n k
unfolding guards_after
none_above n k a = rw (le-leb 15 k (omega arith), lt-leb k 19 a)

-- at these kinds a stay is ahead
stays : {k : ℕ} → (k ≡ 10) ⊎ (k ≡ 26) → (eqb k 10 || eqb k 26) ≡ true
stays (inl e) = rw e
stays (inr e) = rw e

-- the first referrer ahead
module _ (text : List ℕ) (at here k start end : ℕ) (L : referrer_ahead (tokens_from text at) ≡ referrer_ahead (tokens_from text here)) (N : Next text here k start end) where
  pub refer_move : k ≡ 8 → (n : Stretch) → NameAhead text end n.start n.end → Refers text at (MoveTo n)
  unfolding referrer_ahead
  refer_move h n A =
      let e : referrer_ahead (tokens_from text here) ≡ move_to (first_bytes (tokens_from text end)) =
      rw (turn text here k start end N (λ z. omega arith), kind_as k (stretch text start end), eq-eqb k 8 h) in
      record { says = ap move_to A.bytes ∙ sym (L ∙ e); named = record { ordered = A.ordered; inside = A.inside } }

  pub refer_do : k ≡ 9 → (n : Stretch) → NameAhead text end n.start n.end → Refers text at (Do n)
  unfolding referrer_ahead
  refer_do h n A =
      let e : referrer_ahead (tokens_from text here) ≡ run (first_bytes (tokens_from text end)) =
      rw (turn text here k start end N (λ z. omega arith), kind_as k (stretch text start end), ne_eqb k 8 (λ z. omega arith), eq-eqb k 9 h) in
      record { says = ap run A.bytes ∙ sym (L ∙ e); named = record { ordered = A.ordered; inside = A.inside } }

  pub refer_stay : (k ≡ 10) ⊎ (k ≡ 26) → Refers text at Stay
  unfolding referrer_ahead
  refer_stay h =
      let e : referrer_ahead (tokens_from text here) ≡ stay =
      rw (front text here k start end N, kind_as k (stretch text start end), ne_eqb k 8 (λ z. omega arith), ne_eqb k 9 (λ z. omega arith), stays h) in
      record { says = sym (L ∙ e); named = tt }

  pub refer_pass : (k ≡ 8 → ⊥) → (k ≡ 9 → ⊥) → (k ≡ 10 → ⊥) → (k ≡ 26 → ⊥) → referrer_ahead (tokens_from text at) ≡ referrer_ahead (tokens_from text end)
  unfolding referrer_ahead
  refer_pass f g h i =
      let e : referrer_ahead (tokens_from text here) ≡ referrer_ahead (tokens_from text end) =
      rw (turn text here k start end N i, kind_as k (stretch text start end), ne_eqb k 8 f, ne_eqb k 9 g, ne_eqb k 10 h, ne_eqb k 26 i) in
      L ∙ e

-- the record of a when clause
module _ (text : List ℕ) (here n : ℕ) (to : Refer) (R : Refers text here to) where
  pub move_stands : (nm : Stretch) → to ≡ MoveTo nm → Stands text nm
  move_stands nm e = rw e at R.named

  pub do_stands : (nm : Stretch) → to ≡ Do nm → Stands text nm
  do_stands nm e = rw e at R.named

  ahead : (r : Referrer) → referrer_as text to ≡ r → referrer_ahead (tokens_from text here) ≡ r
  ahead r e = sym R.says ∙ e

  module _ (before after : List ℕ) (at end : ℕ) where
    abbrev Written : ℕ → ℕ → Type 0
    Written code target = Puts (fours (low4 (four n (n / 256) code target) ∷ [])) before at after end

    abbrev Due : Type 0
    Due = Puts (fours (when_at text here n ∷ [])) before at after end

    pub put_move : (nm : Stretch) → to ≡ MoveTo nm → (own : ℕ) → own ≡ own_number text (stretch text nm.start nm.end) → Written 0 own → Due
    unfolding when_ahead
    put_move nm e own h p = rw (ahead (move_to (stretch text nm.start nm.end)) (ap (referrer_as text) e), ← h) p

    pub put_do : (nm : Stretch) → to ≡ Do nm → (a : ℕ) → a ≡ number_among (names_from text 3 2 here) (stretch text nm.start nm.end) → Written 1 a → Due
    unfolding when_ahead names_from
    put_do nm e a h p = rw (ahead (run (stretch text nm.start nm.end)) (ap (referrer_as text) e), ← h) p

    pub put_stay : to ≡ Stay → Written 2 0 → Due
    unfolding when_ahead
    put_stay e p = rw (ahead stay (ap (referrer_as text) e)) p
