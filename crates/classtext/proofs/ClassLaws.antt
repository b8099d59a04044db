-- Laws about writing clauses and states as text: one clause, or one state, more.
-- Assumes nothing.
use Prim.Native.Nat.{ℕ, suc, ◌+◌, ◌-◌, ◌<◌, ◌≤◌}
use native.Mathlib.Omega.{arith}
use mathlib.Core.Path.{◌≡◌, refl, sym, ◌∙◌, ap}
use mathlib.Core.List.{List, [], ◌∷◌, ◌++◌}
use lib.ListN.{get_or}
use Rattle.model.specs.Words.{listed}
use Rattle.model.specs.Sound.{ReferrerRight}
use Rattle.model.specs.Tree.{Referrer, move_to, run, stay, Action, State, Class, no_action}
use Rattle.model.proofs.Lists.{get_or_listed}
use Rattle.grammar.specs.Words.{spelled}
use Rattle.records.specs.Bytes.{in_fours}
use Rattle.records.specs.GuardRecords.{got, guard_from}
use Rattle.bodies.specs.Clauses.{when_count, first_when, action_count, first_action, statement_bytes, guard_place, referrer_number, target, referrer_of, action_command}
use Rattle.sheet.specs.Contents.{body, bodies}
use Rattle.sheet.specs.Verdict.{Stands}
use Rattle.sheet.specs.declared.judging.Places.{Places}
use Rattle.bodies.specs.PartChecks.{Reads}
use Rattle.bodies.proofs.StatementLaws.{sum_inside}
use Rattle.sheet.proofs.Rules.{accepted_right}
use Rattle.sheet.proofs.Sound.{referrer_right, target_at}
use Rattle.accepted.proofs.ClauseLaws.{whens_few, states_are, actions_few, all_actions, next_first, next_action, first_inside, guard_read, body_read, action_number}
use Rattle.sheet.specs.Reading.{when_in, action_in, state_in, class_in, class_of}
use Rattle.encoding.specs.Encoding.{gathered}
use Rattle.naming.specs.NameLists.{Lists, characters}
use Rattle.pen.specs.Writing.{last_place, Puts}
use Rattle.pen.proofs.Puts.{puts_none, puts_on}
use Rattle.writings.specs.Layout.{Named, name_at, indent, own_text, command_text, referrer_text, when_text, action_text, state_text, states_text, class_text}
use Rattle.guardtext.specs.GuardTexts.{PutsGuard}
use Rattle.bodytext.specs.BodyText.{PutsPart}
use Rattle.bodytext.proofs.PartLaws.{puts_line}
use Rattle.classtext.specs.ClassText.{referrer_words, own_actions, WhenOf, when_in_text, whens_text, action_in_text, actions_text, state_in_text}

-- what is left of n entries from number i on, one entry further
pub one_less : {A : Type 0} (f : A → List ℕ) (read : ℕ → A) (first i n : ℕ) → i < n
    → gathered f (listed (first + i) (n - i) read) ≡ f (read (first + i)) ++ gathered f (listed (first + (i + 1)) (n - (i + 1)) read)
unfolding gathered listed
one_less f read first i n l =
    let e : n - i ≡ suc (n - (i + 1)) = omega arith in
    let z : suc (first + i) ≡ first + (i + 1) = omega arith in
    rw (e, ← z)

pub none_left : {A : Type 0} (f : A → List ℕ) (read : ℕ → A) (first i n : ℕ) → n ≤ i → gathered f (listed (first + i) (n - i) read) ≡ []
unfolding gathered listed
none_left f read first i n l = let e : n - i ≡ 0 = omega arith in rw e

-- the states that are left from number q on
pub state_less : (own : List ℕ) (l : Lists) (read : ℕ → State) (q n : ℕ) → q < n
    → states_text own l q (listed q (n - q) read) ≡ state_text own l q (read q) ++ states_text own l (q + 1) (listed (q + 1) (n - (q + 1)) read)
unfolding states_text listed
state_less own l read q n h =
    let e : n - q ≡ suc (n - (q + 1)) = omega arith in
    let z : suc q ≡ q + 1 = omega arith in
    rw (e, ← z)

pub no_state_left : (own : List ℕ) (l : Lists) (read : ℕ → State) (q n : ℕ) → n ≤ q → states_text own l q (listed q (n - q) read) ≡ []
unfolding states_text listed
no_state_left own l read q n h = let e : n - q ≡ 0 = omega arith in rw e

-- the command of a state's action clause a
pub command_at : (b : List ℕ) (q a : ℕ) → a < action_count (body b 1) q → (get_or (state_in (bodies b) q).actions a no_action).command ≡ action_command (body b 4) (first_action (body b 1) q + a)
unfolding bodies state_in action_in
command_at b q a l = ap (λ (x : Action). x.command) (get_or_listed (first_action (body b 1) q) (action_count (body b 1) q) (action_in (bodies b)) no_action a (first_action (body b 1) q + a) l refl)

-- a when clause of an accepted sheet
module _ (b : List ℕ) (p : Places) (stands : Stands b p) (q w : ℕ) (W : WhenOf b q w) where
  inside : w < in_fours (body b 2)
  inside = let i = first_inside b p stands q W.state in let n = next_first b p stands q in let h = W.high in omega arith

  -- few enough to be counted
  pub when_small : w < 4294967296
  when_small = let i = inside in let f = whens_few b p stands in omega arith

  -- its referrer leads to an own state, or to one of its state's own action clauses
  refers : ReferrerRight (class_of b) q (when_in (bodies b) w).referrer
  unfolding when_in bodies
  refers =
      let first = first_when (body b 1) q in
      let i = w - first in
      let z : first + i ≡ w = (let l = W.low in omega arith) in
      let h = target_at (bodies b) (accepted_right b stands.accepted).bodies q i W.state (let u = W.high in let l = W.low in omega arith) in
      referrer_right (class_of b) q (referrer_number (body b 2) w) (target (body b 2) w) (in_fours (body b 1)) (action_count (body b 1) q) (states_are b p stands) (action_number b p stands q W.state) (rw z at h)

  -- as the code has it, with the body of the action clauses
  referrer_told : (own : List ℕ) (l : Lists) (r : Referrer) → ReferrerRight (class_of b) q r → referrer_words (body b 4) (first_action (body b 1) q) q own l.commands r ≡ referrer_text own l q (own_actions b q) r
  unfolding referrer_words referrer_text own_text command_text
  referrer_told own l (move_to t) h = refl
  referrer_told own l (run a) h =
      let m : a < action_count (body b 1) q = (let e = action_number b p stands q W.state in omega arith) in
      ap (λ (k : ℕ). spelled "do " ++ name_at 32 l.commands k) (sym (command_at b q a m))
  referrer_told own l stay h = refl

  -- its words, one behind the other
  pub when_puts : (own : List ℕ) (l : Lists) (g whens actions : List ℕ) (place first : ℕ) (r : Referrer) → g ≡ body b 3 → whens ≡ body b 2 → actions ≡ body b 4 → place ≡ guard_place whens w
      → first ≡ first_action (body b 1) q → r ≡ referrer_of (referrer_number whens w) (target whens w)
      → {before m0 m1 m2 m3 m4 after : List ℕ} {at i0 i1 i2 i3 i4 end : ℕ}
      → Puts (indent 2) before at m0 i0 → Puts (spelled "when ") m0 i0 m1 i1 → PutsGuard g place l.names l.classes m1 i1 m2 i2 → Puts (spelled " ") m2 i2 m3 i3
      → Puts (referrer_words actions first q own l.commands r) m3 i3 m4 i4 → Puts (10 ∷ []) m4 i4 after end → Puts (when_in_text b q own l w) before at after end
  unfolding when_text when_in bodies
  when_puts own l g whens actions place first r eg ew ea ep ef er {m3 = m3} {m4} {i3 = i3} {i4} a b0 c d e f =
      let (x, read) = guard_read b p stands w inside in
      let z : guard_from g place ≡ got (when_in (bodies b) w).guard x = rw (eg, ep, ew) read in
      let k : r ≡ (when_in (bodies b) w).referrer = er ∙ ap (λ (y : List ℕ). referrer_of (referrer_number y w) (target y w)) ew in
      let t : Puts (referrer_text own l q (own_actions b q) (when_in (bodies b) w).referrer) m3 i3 m4 i4 = rw (← referrer_told own l (when_in (bodies b) w).referrer refers, ← k, ← ea, ← ef) e in
      puts_line 2 a (puts_on (puts_on (puts_on b0 (c _ x z)) d) t) f

-- the clauses of a state of an accepted sheet, as the code counts them
module _ (b : List ℕ) (q : ℕ) (own : List ℕ) (l : Lists) where
  pub whens_start : (first n : ℕ) → first ≡ first_when (body b 1) q → n ≡ when_count (body b 1) q
      → whens_text b q own l ≡ gathered (when_text own l q (own_actions b q)) (listed (first + 0) (n - 0) (when_in (bodies b)))
  unfolding state_in bodies
  whens_start first n ef en =
      let x : first + 0 ≡ first_when (body b 1) q = omega arith in
      let y : n - 0 ≡ when_count (body b 1) q = omega arith in
      rw (x, y)

  pub actions_start : (first n : ℕ) → first ≡ first_action (body b 1) q → n ≡ action_count (body b 1) q
      → actions_text b q own l ≡ gathered (action_text own l) (listed (first + 0) (n - 0) (action_in (bodies b)))
  unfolding state_in bodies
  actions_start first n ef en =
      let x : first + 0 ≡ first_action (body b 1) q = omega arith in
      let y : n - 0 ≡ action_count (body b 1) q = omega arith in
      rw (x, y)

pub states_start : (b own : List ℕ) (l : Lists) (n : ℕ) → n ≡ in_fours (body b 1) → states_text own l 0 (class_of b).states ≡ states_text own l 0 (listed 0 (n - 0) (state_in (bodies b)))
unfolding class_of class_in bodies
states_start b own l n e = let y : n - 0 ≡ in_fours (body b 1) = omega arith in rw y

-- a when clause of state q by its number in the state
pub when_of_state : (b : List ℕ) (q first n i : ℕ) → q < in_fours (body b 1) → first ≡ first_when (body b 1) q → n ≡ when_count (body b 1) q → i < n → WhenOf b q (first + i)
when_of_state b q first n i h ef en k = record { state = h; low = omega arith; high = omega arith }

-- an action clause of an accepted sheet
module _ (b : List ℕ) (p : Places) (stands : Stands b p) where
  pub action_inside : (q first n i : ℕ) → q < in_fours (body b 1) → first ≡ first_action (body b 1) q → n ≡ action_count (body b 1) q → i < n → first + i < in_fours (body b 4)
  action_inside q first n i h ef en k =
      let z = sum_inside (body b 1) 2 q (in_fours (body b 1)) (in_fours (body b 4)) h (all_actions b p stands) in
      let y = next_action b p stands q in
      omega arith

  pub action_small : (a : ℕ) → a < in_fours (body b 4) → a < 1024
  action_small a h = let f = actions_few b p stands in omega arith

  -- its words, and its statements
  pub action_puts : (own : List ℕ) (l : Lists) (g actions statements part : List ℕ) (a command : ℕ) → a < in_fours (body b 4) → g ≡ body b 3 → actions ≡ body b 4 → statements ≡ body b 5
      → command ≡ action_command actions a → part ≡ statement_bytes actions statements a
      → {before m0 m1 m2 m3 after : List ℕ} {at i0 i1 i2 i3 end : ℕ}
      → Puts (indent 2) before at m0 i0 → Puts (spelled "action: ") m0 i0 m1 i1 → Puts (name_at 32 l.commands command) m1 i1 m2 i2 → Puts (10 ∷ []) m2 i2 m3 i3
      → PutsPart g part 3 own l m3 i3 after end → Puts (action_in_text b own l a) before at after end
  unfolding action_text action_in command_text bodies
  action_puts own l g actions statements part a command h eg ea es ec ep {m1 = m1} {m2} {i1 = i1} {i2} x y z w on =
      let k : command ≡ action_command (body b 4) a = ec ∙ ap (λ (u : List ℕ). action_command u a) ea in
      let name : Puts (name_at 32 l.commands (action_command (body b 4) a)) m1 i1 m2 i2 = rw (← k) z in
      let r : Reads g part (action_in (bodies b) a).body = rw (ep, eg, ea, es) (body_read b p stands a h) in
      puts_on (puts_line 2 x (puts_on y name) w) (on (action_in (bodies b) a).body r)

-- a state: its name, its when clauses, its action clauses
pub state_puts : (b : List ℕ) (q : ℕ) (own : List ℕ) (l : Lists) {before m0 m1 m2 m3 m4 after : List ℕ} {at i0 i1 i2 i3 i4 end : ℕ}
    → Puts (indent 1) before at m0 i0 → Puts (spelled "state: ") m0 i0 m1 i1 → Puts (name_at 32 own q) m1 i1 m2 i2 → Puts (10 ∷ []) m2 i2 m3 i3
    → Puts (whens_text b q own l) m3 i3 m4 i4 → Puts (actions_text b q own l) m4 i4 after end → Puts (state_in_text b q own l) before at after end
unfolding state_text own_text
state_puts b q own l a word name feed whens actions = puts_on (puts_on (puts_line 1 a (puts_on word name) feed) whens) actions

-- the whole text: its first line, and the states
pub text_puts : (n : Named) (c : Class) {before m0 m1 m2 after : List ℕ} {at i0 i1 i2 end : ℕ} → at ≤ last_place
    → Puts (spelled "class: $FWPART_$TOP$") before at m0 i0 → Puts (characters n.own_name) m0 i0 m1 i1 → Puts (10 ∷ []) m1 i1 m2 i2
    → Puts (states_text n.own_states n.lists 0 c.states) m2 i2 after end → Puts (class_text n c) before at after end
unfolding class_text indent
text_puts n c {before = before} {at = at} small word name feed states = puts_on (puts_line 0 (puts_none before at word.room small) (puts_on word name) feed) states
