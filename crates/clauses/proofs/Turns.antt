-- The loops over the words ahead: one that counts, and one that writes a record at each word of a kind.
-- Assumes nothing.
use Prim.Native.Nat.{ℕ, ◌+◌, ◌<◌, ◌≤◌, ◌%◌}
use native.Mathlib.Omega.{arith}
use mathlib.Core.Path.{◌≡◌, refl, sym, ◌∙◌, ap, subst}
use mathlib.Core.Bool.{Bool, true, false}
use Rattle.std.specs.List.{list_any}
use mathlib.Core.List.{List, [], ◌∷◌, ◌++◌}
use lib.Dec.{eqb}
use lib.ListN.{length, length-replicate}
use native.Mathlib.Nat.{mod-mod}
use borrow.Author.Tests.{eq-eqb, ne_eqb, eqb-true, eqb-false}
use Rattle.model.specs.Words.{choose, kept}
use Rattle.grammar.specs.Grammar.{Token, fixed, end_word}
use Rattle.grammar.specs.Words.{words, tokens}
use Rattle.grammar.specs.Kinds.{kind_of, bytes_of, token_as}
use Rattle.words.specs.Scanning.{words_from, tokens_from, stretch, end_kind, behind, Next}
use Rattle.words.proofs.Turns.{turn, last, kind_as, bytes_as}
use Rattle.naming.specs.NameLists.{padded, records_in}
use Rattle.lists.specs.Lent.{found_from}
use Rattle.std.specs.Prelude.{Option, Some, None}
use Rattle.encoding.specs.Records.{Four, fours}
use Rattle.encoding.specs.Encoding.{state_bytes}
use Rattle.pen.specs.Writing.{last_place, two, Puts}
use Rattle.pen.proofs.Puts.{Writing, writing_more, writing_end}
use Rattle.sizes.specs.Counting.{tick}
use Rattle.clauses.specs.Ahead.{one_of, number_ahead, whens_ahead, actions_ahead, statements_ahead, numbered, command_number, command_ahead}
use Rattle.clauses.specs.Bodies.{state_as, action_as, states_from, actions_from}

-- the word found stands in front of the others
first_word : {text : List ℕ} {at kind start end : ℕ} → Next text at kind start end → tokens_from text at ≡ token_as kind (stretch text start end) ∷ tokens (behind text kind end)
unfolding tokens_from tokens
first_word n = ap tokens n.words

-- one more, counted before or behind
tick_sum : (b : Bool) (n x : ℕ) → n + tick b x ≡ tick b n + x
tick_sum true n x = omega arith
tick_sum false n x = refl

-- the end is neither counted nor passed
none_at_end : (cs ss : List ℕ) → one_of cs 26 ≡ false → number_ahead cs ss (fixed end_word ∷ []) ≡ 0
unfolding number_ahead kind_of
none_at_end cs ss h = rw h (go (one_of ss 26))
  where
    go : (b : Bool) → ◌≡◌ {A = ℕ} (choose b (λ _. 0) (λ _. 0)) 0
    go true = refl
    go false = refl

turned : (j k : ℕ) → eqb j k ≡ eqb k j
turned j k = go (eqb k j) refl
  where
    go : (b : Bool) → eqb k j ≡ b → eqb j k ≡ b
    go true e = eq-eqb j k (sym (eqb-true k j e))
    go false e = ne_eqb j k (λ z. eqb-false k j e (sym z))

-- what the library's `contains` tells
pub contained : (ks : List ℕ) (k : ℕ) → list_any (λ j. eqb j k) ks ≡ one_of ks k
contained [] k = refl
contained (j ∷ js) k = rw (turned j k, contained js k)

-- the loop that counts: what is counted, and what is left
pub record Numbering (text : List ℕ) (cs ss : List ℕ) (at n from : ℕ) : Type 0 where
  pub left : number_ahead cs ss (tokens_from text at) ≡ n + number_ahead cs ss (tokens_from text from)
  pub few : n ≤ from

pub numbering_start : (text : List ℕ) (cs ss : List ℕ) (at : ℕ) → Numbering text cs ss at 0 at
numbering_start text cs ss at = record { left = omega arith; few = omega arith }

module _ {text : List ℕ} {cs ss : List ℕ} {at n from : ℕ} (s : Numbering text cs ss at n from) {kind start end : ℕ} (w : Next text from kind start end) where
  ahead_turn : (kind ≡ end_kind → ⊥) → number_ahead cs ss (tokens_from text from) ≡ choose (one_of ss kind) (λ _. 0) (λ _. tick (one_of cs kind) (number_ahead cs ss (tokens_from text end)))
  unfolding number_ahead
  ahead_turn h =
      ap (number_ahead cs ss) (turn text from kind start end w h)
      ∙ ap (λ (k : ℕ). choose (one_of ss k) (λ _. 0) (λ _. tick (one_of cs k) (number_ahead cs ss (tokens_from text end)))) (kind_as kind (stretch text start end))

  pub numbering_end : one_of cs 26 ≡ false → kind ≡ end_kind → n ≡ number_ahead cs ss (tokens_from text at)
  numbering_end q h = let z = ap (number_ahead cs ss) (last text from kind start end w h) ∙ none_at_end cs ss q in omega (arith, s.left)

  pub numbering_stop : (kind ≡ end_kind → ⊥) → {b : Bool} → b ≡ one_of ss kind → b ≡ true → n ≡ number_ahead cs ss (tokens_from text at)
  numbering_stop h e t = let z : number_ahead cs ss (tokens_from text from) ≡ 0 = ahead_turn h ∙ rw (sym e ∙ t) in omega (arith, s.left)

  pub numbering_more : (kind ≡ end_kind → ⊥) → {b c : Bool} → b ≡ one_of ss kind → b ≡ false → c ≡ one_of cs kind → {m : ℕ} → m ≡ tick c n → Numbering text cs ss at m end
  numbering_more h {b} {c} e f g {m} em =
      let z : number_ahead cs ss (tokens_from text from) ≡ tick (one_of cs kind) (number_ahead cs ss (tokens_from text end)) = ahead_turn h ∙ rw (sym e ∙ f) in
      let l : from < end = omega (arith, w.onward, w.moves h) in
      record {
        left = s.left ∙ (ap (λ (x : ℕ). n + x) z ∙ rw (em, g) (tick_sum (one_of cs kind) n (number_ahead cs ss (tokens_from text end))));
        few = rw em (more c);
      }
    where
      more : (c : Bool) → tick c n ≤ end
      more true = let z : n + 1 ≤ end = omega (arith, s.few, w.onward, w.moves h) in z
      more false = let z : n ≤ end = omega (arith, s.few, w.onward, w.moves h) in z

  pub numbering_small : (kind ≡ end_kind → ⊥) → n < length text
  numbering_small h = omega (arith, s.few, w.onward, w.moves h, w.inside h)

-- the command that was found
pub command_found : (commands word : List ℕ) {f : Option ℕ} {i : ℕ} → f ≡ found_from 0 (records_in 32 commands) (padded word) → f ≡ Some i → i % 256 ≡ command_number commands word
unfolding command_number
command_found commands word e g = ap numbered (sym g ∙ e)

pub command_nowhere : (commands word : List ℕ) {f : Option ℕ} → f ≡ found_from 0 (records_in 32 commands) (padded word) → f ≡ None → 0 ≡ command_number commands word
unfolding command_number
command_nowhere commands word e g = ap numbered (sym g ∙ e)

-- a name stands inside the text
pub name_inside : {text : List ℕ} {at kind start end : ℕ} → Next text at kind start end → kind ≡ 0 → (start ≤ end) × (end ≤ length text)
name_inside {kind = kind} w h =
    let ne : kind ≡ end_kind → ⊥ = λ z. (let y : ◌≡◌ {A = ℕ} 0 end_kind = sym h ∙ z in omega arith) in
    let l = w.moves ne in
    ((omega arith), w.inside ne)

module _ {text : List ℕ} {at kind start end : ℕ} (w : Next text at kind start end) (commands : List ℕ) where
  command_turn : command_ahead commands (tokens_from text at) ≡ choose (eqb kind 0) (λ _. command_number commands (bytes_of (token_as kind (stretch text start end)))) (λ _. 0)
  unfolding command_ahead
  command_turn =
      ap (command_ahead commands) (first_word w)
      ∙ ap (λ (k : ℕ). choose (eqb k 0) (λ _. command_number commands (bytes_of (token_as kind (stretch text start end)))) (λ _. 0)) (kind_as kind (stretch text start end))

  pub command_none : (kind ≡ 0 → ⊥) → 0 ≡ command_ahead commands (tokens_from text at)
  command_none h = sym (command_turn ∙ rw (ne_eqb kind 0 h))

  pub command_named : kind ≡ 0 → {r : ℕ} → r ≡ command_number commands (stretch text start end) → r ≡ command_ahead commands (tokens_from text at)
  command_named h e = e ∙ sym (command_turn ∙ rw (eq-eqb kind 0 h, bytes_as kind (stretch text start end) h))

-- a record at each word of a kind, told by the words behind it, and the bytes of such records
pub record Maker (A : Type 0) : Type 0 where
  pub from : List Token → List A
  pub kind : ℕ
  pub made : List Token → A
  pub bytes : List A → List ℕ
  pub nothing : bytes (from []) ≡ []
  pub one : (w : Token) (ws : List Token) → from (w ∷ ws) ≡ kept (eqb (kind_of w) kind) (made ws) (from ws)
  pub apart : (r : A) (rs : List A) → bytes (r ∷ rs) ≡ bytes (r ∷ []) ++ bytes rs
  pub not_end : eqb end_kind kind ≡ false

-- the loop that writes them
module _ {A : Type 0} (m : Maker A) where
  abbrev written : List Token → List ℕ
  written ws = m.bytes (m.from ws)

  -- whoever writes what is left has written all
  pub record Laying (text before : List ℕ) (at : ℕ) (out : List ℕ) (end from : ℕ) : Type 0 where
    pub same : length out ≡ length before
    pub small : end ≤ last_place
    pub writing : Writing (written (tokens (words text))) before at (written (tokens_from text from)) out end

  pub laying_start : (text before : List ℕ) (at : ℕ) → at ≤ last_place → Laying text before at before at 0
  unfolding tokens_from words_from words
  laying_start text before at h = record { same = refl; small = h; writing = λ after r p. p }

  module _ {text before : List ℕ} {at : ℕ} {out : List ℕ} {end from : ℕ} (s : Laying text before at out end from) {kind start to : ℕ} (w : Next text from kind start to) where
    from_turn : (kind ≡ end_kind → ⊥) → m.from (tokens_from text from) ≡ kept (eqb kind m.kind) (m.made (tokens_from text to)) (m.from (tokens_from text to))
    from_turn h =
        ap m.from (turn text from kind start to w h)
        ∙ (m.one (token_as kind (stretch text start to)) (tokens_from text to)
        ∙ ap (λ (j : ℕ). kept (eqb j m.kind) (m.made (tokens_from text to)) (m.from (tokens_from text to))) (kind_as kind (stretch text start to)))

    pub laying_put : (kind ≡ end_kind → ⊥) → kind ≡ m.kind → {next : List ℕ} {i : ℕ} → length next ≡ length out → Puts (m.bytes (m.made (tokens_from text to) ∷ [])) out end next i
        → Laying text before at next i to
    laying_put h e q p =
        let z : m.from (tokens_from text from) ≡ m.made (tokens_from text to) ∷ m.from (tokens_from text to) = from_turn h ∙ rw (eq-eqb kind m.kind e) in
        record { same = q ∙ s.same; small = omega (arith, p.place); writing = writing_more s.writing (ap m.bytes z ∙ m.apart (m.made (tokens_from text to)) (m.from (tokens_from text to))) p }

    pub laying_past : (kind ≡ end_kind → ⊥) → (kind ≡ m.kind → ⊥) → Laying text before at out end to
    laying_past h e =
        let z : m.from (tokens_from text from) ≡ m.from (tokens_from text to) = from_turn h ∙ rw (ne_eqb kind m.kind e) in
        record { same = s.same; small = s.small; writing = λ after r p. s.writing after r (subst (λ (rs : List A). Puts (m.bytes rs) out end after r) (sym z) p) }

    pub laying_end : kind ≡ end_kind → length out ≤ last_place → Puts (written (tokens (words text))) before at out end
    unfolding kind_of
    laying_end h a = writing_end s.writing (ap m.bytes (ap m.from (last text from kind start to w h) ∙ none_left) ∙ m.nothing) a s.small
      where
        none_left : m.from (fixed end_word ∷ []) ≡ m.from []
        none_left = m.one (fixed end_word) [] ∙ rw m.not_end

    pub laying_less : (kind ≡ end_kind → ⊥) → (from < to) × (to ≤ length text)
    laying_less h = ((omega (arith, w.onward, w.moves h)), w.inside h)

unfoldable pub states_made : Maker Four
unfolding states_from fours
states_made =
    record {
      from = states_from;
      kind = 2;
      made = λ ws. state_as (whens_ahead ws) (actions_ahead ws);
      bytes = λ rs. state_bytes rs;
      nothing = refl;
      one = λ w ws. refl;
      apart = λ r rs. refl;
      not_end = refl;
    }

unfoldable pub actions_made : List ℕ → Maker Four
unfolding actions_from fours
actions_made commands =
    record {
      from = actions_from commands;
      kind = 3;
      made = λ ws. action_as (command_ahead commands ws) (statements_ahead ws);
      bytes = fours;
      nothing = refl;
      one = λ w ws. refl;
      apart = λ r rs. refl;
      not_end = refl;
    }

-- what is found at the word of a state, and of an action clause
module _ {text before : List ℕ} {at : ℕ} {out : List ℕ} {end from : ℕ} {kind start to : ℕ} (w : Next text from kind start to) (h : kind ≡ end_kind → ⊥) {next : List ℕ} {i : ℕ} (q : length next ≡ length out) where
  pub states_put : Laying states_made text before at out end from → kind ≡ 2 → {x y : ℕ} → x ≡ whens_ahead (tokens_from text to) → y ≡ actions_ahead (tokens_from text to)
      → Puts (state_bytes (state_as x y ∷ [])) out end next i → Laying states_made text before at next i to
  unfolding states_made
  states_put s e ex ey p = laying_put states_made s w h e q (rw (ex, ey) at p)

  pub actions_put : (commands : List ℕ) → Laying (actions_made commands) text before at out end from → kind ≡ 3 → {x y : ℕ} → x ≡ command_ahead commands (tokens_from text to)
      → y ≡ statements_ahead (tokens_from text to) → Puts (fours (action_as x y ∷ [])) out end next i → Laying (actions_made commands) text before at next i to
  unfolding actions_made
  actions_put commands s e ex ey p = laying_put (actions_made commands) s w h e q (rw (ex, ey) at p)

module _ {text before : List ℕ} {at : ℕ} {out : List ℕ} {end from : ℕ} {kind start to : ℕ} (w : Next text from kind start to) where
  pub states_past : Laying states_made text before at out end from → (kind ≡ end_kind → ⊥) → (kind ≡ 2 → ⊥) → Laying states_made text before at out end to
  unfolding states_made
  states_past s h e = laying_past states_made s w h e

  pub actions_past : (commands : List ℕ) → Laying (actions_made commands) text before at out end from → (kind ≡ end_kind → ⊥) → (kind ≡ 3 → ⊥) → Laying (actions_made commands) text before at out end to
  unfolding actions_made
  actions_past commands s h e = laying_past (actions_made commands) s w h e

  pub states_end : Laying states_made text before at out end from → kind ≡ end_kind → length out ≤ last_place → Puts (state_bytes (states_from (tokens (words text)))) before at out end
  unfolding states_made
  states_end s h a = laying_end states_made s w h a

  pub actions_end : (commands : List ℕ) → Laying (actions_made commands) text before at out end from → kind ≡ end_kind → length out ≤ last_place
      → Puts (fours (actions_from commands (tokens (words text)))) before at out end
  unfolding actions_made
  actions_end commands s h a = laying_end (actions_made commands) s w h a

-- a state's record is its two numbers
pub state_two : (whens actions : ℕ) → two whens ++ two actions ≡ state_bytes (state_as whens actions ∷ [])
unfolding state_as fours
state_two whens actions = rw (length-replicate, length-replicate) (rw (mod-mod whens 256, mod-mod actions 256))
