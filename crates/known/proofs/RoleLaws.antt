-- Laws of what is asked of a word, one a test of the code, and of the words that are left.
-- Assumes nothing.
use Prim.Native.Nat.{ℕ, zero, suc, ◌-◌, ◌<◌}
use native.Mathlib.Omega.{arith}
use mathlib.Core.Path.{◌≡◌, refl, sym, ◌∙◌, ap}
use mathlib.Core.Bool.{Bool, true, false, ◌&&◌, and-true, and-false}
use mathlib.Core.List.{List, []}
use lib.Dec.{eqb}
use lib.ListN.{length}
use lib.Seq.{drop-length}
use borrow.Author.Tests.{eq-eqb, ne_eqb}
use Rattle.model.specs.Words.{listed}
use Rattle.grammar.specs.Grammar.{Name, Text}
use Rattle.grammar.specs.Kinds.{kind_of, bytes_of, token_as}
use Rattle.grammar.specs.Words.{cut, end_at, tokens, words}
use Rattle.grammar.specs.Reading.{Says}
use Rattle.naming.specs.NameLists.{Lists, child_names, command_names, class_names, listed_in, none_twice}
use Rattle.naming.specs.Naming.{own_names}
use Rattle.naming.specs.Known.{among, text_known}
use Rattle.words.specs.Scanning.{words_from, tokens_from, stretch, Next}
use Rattle.words.proofs.Turns.{turn, last, kind_as, bytes_as}
use Rattle.own.specs.Ahead.{names_ahead, names_from}
use Rattle.own.specs.Held.{all_names, Holds, Filled}
use Rattle.own.proofs.Trees.{own_from}
use Rattle.own.proofs.HeldLaws.{filled_holds}
use Rattle.known.proofs.TreeLaws.{text_told}
use Rattle.known.specs.Roles.{before_command, before_class, before_child, before_own, listed_for, own_for, action_for, name_known, word_known, actions_differ, referring_after, actions_after, Entered, words_known}

-- the list that is asked for
module _ (l : Lists) (k : ℕ) (n : Name) (r : Bool) where
  pub for_command : before_command k ≡ true → r ≡ listed_in (command_names l) n → r ≡ listed_for l k n
  unfolding listed_for
  for_command h e = e ∙ rw h

  module _ (a : before_command k ≡ false) where
    pub for_class : before_class k ≡ true → r ≡ listed_in (class_names l) n → r ≡ listed_for l k n
    unfolding listed_for
    for_class h e = e ∙ rw (a, h)

    module _ (b : before_class k ≡ false) where
      pub for_child : before_child k ≡ true → r ≡ listed_in (child_names l) n → r ≡ listed_for l k n
      unfolding listed_for
      for_child h e = e ∙ rw (a, b, h)

      pub for_none : before_child k ≡ false → true ≡ listed_for l k n
      unfolding listed_for
      for_none h = rw (a, b, h)

module _ (own : List Name) (k : ℕ) (n : Name) where
  pub for_own : before_own k ≡ true → (r : Bool) → r ≡ among own n → r ≡ own_for own k n
  unfolding own_for
  for_own h r e = e ∙ rw h

  pub for_no_own : before_own k ≡ false → true ≡ own_for own k n
  unfolding own_for
  for_no_own h = rw h

  pub for_action : (referring : Bool) → (eqb k 9 && referring) ≡ true → (r : Bool) → r ≡ among own n → r ≡ action_for referring own k n
  unfolding action_for
  for_action referring h r e = e ∙ rw h

  pub for_no_action : (referring : Bool) → (eqb k 9 && referring) ≡ false → true ≡ action_for referring own k n
  unfolding action_for
  for_no_action referring h = rw h

-- a word
module _ (l : Lists) (own : List Name) (r : Bool) (acts : List Name) (k kind : ℕ) (n : Name) where
  pub no_name : (kind ≡ 0 → ⊥) → true ≡ word_known l own r acts k kind n
  unfolding word_known
  no_name h = rw (ne_eqb kind 0 h)

  module _ (z : kind ≡ 0) where
    pub no_such_action : action_for r acts k n ≡ false → false ≡ word_known l own r acts k kind n
    unfolding word_known name_known
    no_such_action h = rw (eq-eqb kind 0 z, h)

    module _ (a : action_for r acts k n ≡ true) where
      pub no_such_state : own_for own k n ≡ false → false ≡ word_known l own r acts k kind n
      unfolding word_known name_known
      no_such_state h = rw (eq-eqb kind 0 z, a, h)

      pub name_told : own_for own k n ≡ true → (b : Bool) → b ≡ listed_for l k n → b ≡ word_known l own r acts k kind n
      unfolding word_known name_known
      name_told h b e = e ∙ rw (eq-eqb kind 0 z, a, h)

-- the actions of a state
module _ (kind : ℕ) (ahead : List Name) where
  pub differ_told : kind ≡ 2 → (r : Bool) → r ≡ none_twice ahead → r ≡ actions_differ kind ahead
  unfolding actions_differ
  differ_told h r e = e ∙ rw (eq-eqb kind 2 h)

  pub no_state : (kind ≡ 2 → ⊥) → true ≡ actions_differ kind ahead
  unfolding actions_differ
  no_state h = rw (ne_eqb kind 2 h)

module _ (text : List ℕ) (kind end : ℕ) (referring : Bool) (actions : List Name) where
  pub entered_state : kind ≡ 2 → (table : List ℕ) (count rest : ℕ) → Filled text table 3 2 end count rest → Entered text kind end referring actions true table count rest
  unfolding referring_after actions_after
  entered_state h table count rest f =
      record { holds = filled_holds text table 3 2 end count rest f; refers = rw (eq-eqb kind 2 h); names = rw (eq-eqb kind 2 h) f.filling.names }

  module _ (table : List ℕ) (count rest : ℕ) (k : Holds text table count rest) (e : all_names text table count 3 2 rest ≡ actions) (a : kind ≡ 2 → ⊥) where
    pub entered_action : kind ≡ 3 → Entered text kind end referring actions false table count rest
    unfolding referring_after actions_after
    entered_action h = record { holds = k; refers = rw (ne_eqb kind 2 a, eq-eqb kind 3 h); names = rw (ne_eqb kind 2 a) e }

    pub entered_nothing : (kind ≡ 3 → ⊥) → Entered text kind end referring actions referring table count rest
    unfolding referring_after actions_after
    entered_nothing h = record { holds = k; refers = rw (ne_eqb kind 2 a, ne_eqb kind 3 h); names = rw (ne_eqb kind 2 a) e }

-- a word as it was found, by its kind and its bytes in the text
word_as : (l : Lists) (own : List Name) (r : Bool) (acts : List Name) (k kind : ℕ) (b : List ℕ)
    → word_known l own r acts k (kind_of (token_as kind b)) (bytes_of (token_as kind b)) ≡ word_known l own r acts k kind b
word_as l own r acts k zero b =
    rw (kind_as zero b, bytes_as zero b refl)
word_as l own r acts k (suc j) b =
    rw (kind_as (suc j) b) (sym (no_name l own r acts k (suc j) (bytes_of (token_as (suc j) b)) (λ e. omega arith)) ∙ no_name l own r acts k (suc j) b (λ e. omega arith))

-- the words behind one of kind `before`, the next of which was found
module _ (text : List ℕ) (l : Lists) (own : List Name) (before : ℕ) (r : Bool) (acts : List Name) (at k s e : ℕ) (n : Next text at k s e) where
  pub known_end : k ≡ 26 → words_known l own before r acts (tokens_from text at) ≡ true
  unfolding words_known word_known actions_differ kind_of
  known_end h = rw (last text at k s e n h)

  module _ (h : k ≡ 26 → ⊥) where
    known_turn : words_known l own before r acts (tokens_from text at)
        ≡ (word_known l own r acts before k (stretch text s e)
        && (actions_differ k (names_from text 3 2 e) && words_known l own k (referring_after k r) (actions_after k (names_from text 3 2 e) acts) (tokens_from text e)))
    unfolding words_known names_from
    known_turn = rw (turn text at k s e n h, word_as l own r acts before k (stretch text s e), kind_as k (stretch text s e))

    module _ (t : Bool) (p : t ≡ word_known l own r acts before k (stretch text s e)) where
      pub known_not : t ≡ false → words_known l own before r acts (tokens_from text at) ≡ false
      known_not f = known_turn ∙ rw (sym p ∙ f)

      module _ (f : t ≡ true) (u : Bool) (q : u ≡ actions_differ k (names_from text 3 2 e)) where
        pub known_twice : u ≡ false → words_known l own before r acts (tokens_from text at) ≡ false
        known_twice g = known_turn ∙ rw (sym p ∙ f, sym q ∙ g)

        pub known_on : u ≡ true → (r' : Bool) (table : List ℕ) (count rest : ℕ) → Entered text k e r acts r' table count rest
            → words_known l own before r acts (tokens_from text at) ≡ words_known l own k r' (all_names text table count 3 2 rest) (tokens_from text e)
        known_on g r' table count rest d = known_turn ∙ rw (sym p ∙ f, sym q ∙ g, d.refers, d.names)

pub known_less : (text : List ℕ) (at k s e : ℕ) → Next text at k s e → (k ≡ 26 → ⊥) → length text - e < length text - at
known_less text at k s e n h = let a = n.onward in let b = n.moves h in let c = n.inside h in omega arith

-- the loop's invariant
pub record Going (text : List ℕ) (l : Lists) (own : List Name) (table : List ℕ) (count rest : ℕ) (referring : Bool) (before at : ℕ) : Type 0 where
  pub holds : Holds text table count rest
  pub told : words_known l own 27 false [] (tokens_from text 0) ≡ words_known l own before referring (all_names text table count 3 2 rest) (tokens_from text at)

-- no action stands behind the end
none_left : (text table : List ℕ) → all_names text table 0 3 2 (length text) ≡ []
unfolding all_names listed names_from tokens_from words_from tokens cut end_at names_ahead kind_of
none_left text table = rw (drop-length text)

pub going_start : (text : List ℕ) (l : Lists) (own : List Name) (table : List ℕ) → Going text l own table 0 (length text) false 27 0
going_start text l own table =
    record {
      holds =
          record {
            places = record { fits = omega arith; whole = λ i h. absurd (omega arith); inside = λ i h. absurd (omega arith) };
            fewer = omega arith;
          };
      told = rw (none_left text table);
    }

-- what is told of a tree that the text says
module _ (text : List ℕ) (l : Lists) (t : Text) (s : Says text t) where
  pub told_twice : none_twice (names_from text 2 26 0) ≡ false → false ≡ text_known l t
  unfolding text_known
  told_twice e = rw (sym (ap none_twice (own_from text t s)) ∙ e, and-false)

  pub told_known : none_twice (names_from text 2 26 0) ≡ true → (table : List ℕ) (count rest : ℕ) → Filled text table 2 26 0 count rest
      → (r : Bool) → r ≡ words_known l (all_names text table count 2 26 rest) 27 false [] (tokens_from text 0) → r ≡ text_known l t
  unfolding text_known tokens_from words_from words
  told_known e table count rest f r h =
      h ∙ rw (f.filling.names ∙ own_from text t s, sym s) (text_told l (own_names t) t ∙ rw (sym (ap none_twice (own_from text t s)) ∙ e, and-true))
