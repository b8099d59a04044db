-- The words of a text tree are known where the tree is.
-- Assumes nothing.
use Prim.Native.Nat.{ℕ, suc}
use native.Mathlib.Omega.{arith}
use mathlib.Core.Path.{◌≡◌, refl, sym, ◌∙◌, ap}
use mathlib.Core.Bool.{Bool, true, false, ◌&&◌}
use mathlib.Core.List.{List, [], ◌∷◌}
use lib.Dec.{eqb}
use borrow.Author.Tests.{ne_eqb}
use Rattle.model.specs.Words.{choose, every}
use Rattle.model.proofs.Words.{clash}
use Rattle.grammar.specs.Grammar as G
use Rattle.grammar.specs.Grammar.{Token, fixed, name, Name, Row, none, ◌then◌, class_word, state_word, action_word, top_word, any_word, all_word, when_word, move_word, do_word, stay_word, if_word, then_word, else_word, endif_word, and_word, or_word, not_word, in_word, out_word, open_word, close_word, left_word, right_word, comma_word, end_word, children_word, row_words, kin_words, names_words, set_words, quantifier_word, side_word, guard_words, conj_words, operand_words, referrer_words, when_words, part_words, action_words, state_words, text_words}
use Rattle.grammar.specs.Kinds.{kind_of, bytes_of}
use Rattle.naming.specs.NameLists.{Lists, child_names, command_names, listed_in, none_twice}
use Rattle.naming.specs.Naming.{in_order, all_states, action_names}
use Rattle.naming.specs.Known.{among, names_known, set_known, kin_known, guard_known, conj_known, operand_known, part_known, referrer_known, when_known, action_known, state_known}
use Rattle.own.specs.Ahead.{names_ahead}
use Rattle.own.proofs.Trees.{state_actions}
use Rattle.known.specs.Roles.{listed_for, own_for, action_for, name_known, word_known, actions_differ, referring_after, actions_after, words_known}

-- a && b && c, either way grouped
assoc : (a b c : Bool) → ((a && b) && c) ≡ (a && (b && c))
assoc true b c = refl
assoc false b c = refl

grouped : (a b c d : Bool) → (a && (b && (c && d))) ≡ ((a && (b && c)) && d)
grouped true true c d = refl
grouped true false c d = refl
grouped false b c d = refl

grouped_4 : (a b c d e : Bool) → (a && (b && (c && (d && e)))) ≡ ((a && (b && (c && d))) && e)
grouped_4 true true true d e = refl
grouped_4 true true false d e = refl
grouped_4 true false c d e = refl
grouped_4 false b c d e = refl

flipped : (a b : Bool) → (a && b) ≡ (b && a)
flipped true true = refl
flipped true false = refl
flipped false true = refl
flipped false false = refl

moved : (n w a v : Bool) → (n && (w && (a && v))) ≡ ((w && (a && n)) && v)
moved true true true v = refl
moved true true false v = refl
moved true false a v = refl
moved false true true v = refl
moved false true false v = refl
moved false false a v = refl

-- behind a word of any kind, where no name follows
unfoldable named : List Token → Bool
named [] = false
named (fixed k ∷ ws) = false
named (name n ∷ ws) = true

module _ (l : Lists) (own : List Name) (r : Bool) (acts : List Name) where
  -- all that is left, behind a word of kind k
  abbrev P : ℕ → List Token → Bool
  P k ws = words_known l own k r acts ws

  asks_nothing : (k kind : ℕ) (n : Name) → name_known l own r acts k n ≡ true → word_known l own r acts k kind n ≡ true
  unfolding word_known
  asks_nothing k kind n h = go (eqb kind 0)
    where
      go : (b : Bool) → choose b (λ _. name_known l own r acts k n) (λ _. true) ≡ true
      go true = h
      go false = refl

  -- behind a word that asks nothing of a name
  neutral : (k : ℕ) → ((n : Name) → name_known l own r acts k n ≡ true) → (ws : List Token) → P k ws ≡ P 0 ws
  unfolding words_known name_known action_for own_for listed_for
  neutral k h [] = refl
  neutral k h (w ∷ ws) = rw (asks_nothing k (kind_of w) (bytes_of w) (h (bytes_of w)), asks_nothing 0 (kind_of w) (bytes_of w) refl)

  unnamed : (k : ℕ) (ws : List Token) → named ws ≡ false → P k ws ≡ P 0 ws
  unfolding words_known word_known named kind_of
  unnamed k [] h = refl
  unnamed k (fixed j ∷ ws) h = rw (ne_eqb (suc j) 0 (λ e. omega arith))
  unnamed k (name n ∷ ws) h = absurd (clash (cc))

  kin_told : (q : G.Quantifier) (x : G.Kin) (k : ℕ) (rest : List Token) → P k (fixed (quantifier_word q) ∷ kin_words x rest) ≡ (kin_known l x && P 0 rest)
  unfolding words_known word_known name_known listed_for own_for action_for actions_differ referring_after actions_after kin_words kind_of bytes_of kin_known quantifier_word
  kin_told G.any G.children k rest = neutral 20 (λ n. refl) rest
  kin_told G.all G.children k rest = neutral 20 (λ n. refl) rest
  kin_told G.any (G.kin n) k rest = refl
  kin_told G.all (G.kin n) k rest = refl

  names_told : (x : G.Names) (rest : List Token) → P 23 (names_words x rest) ≡ (names_known l x && P 0 rest)
  unfolding words_known word_known name_known listed_for own_for action_for actions_differ referring_after actions_after names_words kind_of bytes_of names_known
  names_told (G.one n) rest = refl
  names_told (G.more ns n) rest = names_told ns (fixed comma_word ∷ name n ∷ rest) ∙ sym (assoc (names_known l ns) (listed_in (child_names l) n) (P 0 rest))

  set_told : (s : G.Side) (x : G.Set) (k : ℕ) (rest : List Token) → P k (fixed (side_word s) ∷ set_words x rest) ≡ (set_known l x && P 0 rest)
  unfolding words_known word_known name_known listed_for own_for action_for actions_differ referring_after actions_after set_words kind_of bytes_of set_known side_word
  set_told G.inside (G.single n) k rest = refl
  set_told G.outside (G.single n) k rest = refl
  set_told G.inside (G.braces ns) k rest = names_told ns (fixed right_word ∷ rest) ∙ ap (λ (b : Bool). names_known l ns && b) (neutral 24 (λ n. refl) rest)
  set_told G.outside (G.braces ns) k rest = names_told ns (fixed right_word ∷ rest) ∙ ap (λ (b : Bool). names_known l ns && b) (neutral 24 (λ n. refl) rest)

  mutual
    unfolding words_known word_known name_known listed_for own_for action_for actions_differ referring_after actions_after guard_words kind_of bytes_of guard_known

    guard_told : (x : G.Guard) (k : ℕ) (rest : List Token) → P k (guard_words x rest) ≡ (guard_known x l && P 0 rest)
    guard_told (G.just c) k rest = conj_told c k rest
    guard_told (G.or g c) k rest =
        guard_told g k (fixed or_word ∷ conj_words c rest)
        ∙ ap (λ (b : Bool). guard_known g l && b) (conj_told c 16 rest)
        ∙ sym (assoc (guard_known g l) (conj_known c l) (P 0 rest))

    conj_told : (x : G.Conj) (k : ℕ) (rest : List Token) → P k (conj_words x rest) ≡ (conj_known x l && P 0 rest)
    conj_told (G.only u) k rest = operand_told u k rest
    conj_told (G.and c u) k rest =
        conj_told c k (fixed and_word ∷ operand_words u rest)
        ∙ ap (λ (b : Bool). conj_known c l && b) (operand_told u 15 rest)
        ∙ sym (assoc (conj_known c l) (operand_known u l) (P 0 rest))

    operand_told : (x : G.Operand) (k : ℕ) (rest : List Token) → P k (operand_words x rest) ≡ (operand_known x l && P 0 rest)
    operand_told (G.not u) k rest = operand_told u 17 rest
    operand_told (G.brackets g) k rest =
        guard_told g 21 (fixed close_word ∷ rest) ∙ ap (λ (b : Bool). guard_known g l && b) (neutral 22 (λ n. refl) rest)
    operand_told (G.atom q x s t) k rest =
        kin_told q x k (fixed (side_word s) ∷ set_words t rest)
        ∙ ap (λ (b : Bool). kin_known l x && b) (set_told s t 0 rest)
        ∙ sym (assoc (kin_known l x) (set_known l t) (P 0 rest))

-- an own state behind move_to or stay_in_state
own_told : (a b : Bool) → ((a && true) && b) ≡ (a && b)
own_told true b = refl
own_told false b = refl

-- behind action:, where a do sends
module _ (l : Lists) (own acts : List Name) where
  abbrev Q : ℕ → List Token → Bool
  Q k ws = words_known l own k false acts ws

  part_told : (p : G.Part) (rest : List Token) → Q 0 (part_words p rest) ≡ (part_known l own p && Q 0 rest)
  unfolding words_known word_known name_known listed_for own_for action_for actions_differ referring_after actions_after part_words quantifier_word kind_of bytes_of part_known
  part_told G.nothing rest = refl
  part_told (G.send p c x) rest =
      part_told p (fixed do_word ∷ name c ∷ fixed all_word ∷ kin_words x rest)
      ∙ ap (λ (b : Bool). part_known l own p && (listed_in (command_names l) c && b)) (kin_told l own false acts G.all x 0 rest)
      ∙ grouped (part_known l own p) (listed_in (command_names l) c) (kin_known l x) (Q 0 rest)
  part_told (G.go_to p s) rest =
      part_told p (fixed move_word ∷ name s ∷ rest)
      ∙ ap (λ (b : Bool). part_known l own p && b) (own_told (among own s) (Q 0 rest))
      ∙ sym (assoc (part_known l own p) (among own s) (Q 0 rest))
  part_told (G.if_then p g q) rest =
      let last : List Token = fixed endif_word ∷ rest in
      part_told p (fixed if_word ∷ guard_words g (fixed then_word ∷ part_words q last))
      ∙ ap (λ (b : Bool). part_known l own p && b)
      (guard_told l own false acts g 11 (fixed then_word ∷ part_words q last)
      ∙ ap (λ (b : Bool). guard_known g l && b)
      (neutral l own false acts 12 (λ n. refl) (part_words q last)
      ∙ part_told q last
      ∙ ap (λ (b : Bool). part_known l own q && b) (neutral l own false acts 14 (λ n. refl) rest)))
      ∙ grouped (part_known l own p) (guard_known g l) (part_known l own q) (Q 0 rest)
  part_told (G.if_else p g q s) rest =
      let last : List Token = fixed endif_word ∷ rest in
      let second : List Token = fixed else_word ∷ part_words s last in
      part_told p (fixed if_word ∷ guard_words g (fixed then_word ∷ part_words q second))
      ∙ ap (λ (b : Bool). part_known l own p && b)
      (guard_told l own false acts g 11 (fixed then_word ∷ part_words q second)
      ∙ ap (λ (b : Bool). guard_known g l && b)
      (neutral l own false acts 12 (λ n. refl) (part_words q second)
      ∙ part_told q second
      ∙ ap (λ (b : Bool). part_known l own q && b)
      (neutral l own false acts 13 (λ n. refl) (part_words s last)
      ∙ part_told s last
      ∙ ap (λ (b : Bool). part_known l own s && b) (neutral l own false acts 14 (λ n. refl) rest))))
      ∙ grouped_4 (part_known l own p) (guard_known g l) (part_known l own q) (part_known l own s) (Q 0 rest)

  action_told : (a : G.Action) (k : ℕ) (r : Bool) (rest : List Token) → words_known l own k r acts (action_words a rest) ≡ (action_known l own a && Q 0 rest)
  unfolding words_known word_known name_known listed_for own_for action_for actions_differ referring_after actions_after action_words kind_of bytes_of action_known
  action_told a k r rest =
      ap (λ (b : Bool). listed_in (command_names l) a.command && b) (part_told a.body rest)
      ∙ sym (assoc (listed_in (command_names l) a.command) (part_known l own a.body) (Q 0 rest))

  actions_told : (xs : Row G.Action) (ys : List G.Action) (rest : List Token) (v : Bool) → ((r : Bool) → words_known l own 0 r acts rest ≡ (every (action_known l own) ys && v))
      → (r : Bool) → words_known l own 0 r acts (row_words action_words xs rest) ≡ (every (action_known l own) (in_order xs ys) && v)
  unfolding row_words in_order every
  actions_told none ys rest v h r = h r
  actions_told (xs then a) ys rest v h r =
      actions_told xs (a ∷ ys) (action_words a rest) v
      (λ s. action_told a 0 s rest ∙ ap (λ (b : Bool). action_known l own a && b) (h false) ∙ sym (assoc (action_known l own a) (every (action_known l own) ys) v)) r

  -- before action:, where a do refers to one of the state's actions
  abbrev R : ℕ → List Token → Bool
  R k ws = words_known l own k true acts ws

  referrer_told : (x : G.Referrer) (rest : List Token) → named rest ≡ false → R 0 (referrer_words x rest) ≡ (referrer_known l own acts x && R 0 rest)
  unfolding words_known word_known name_known listed_for own_for action_for actions_differ referring_after actions_after referrer_words kind_of bytes_of referrer_known
  referrer_told (G.move_to n) rest h = own_told (among own n) (R 0 rest)
  referrer_told (G.run n) rest h = ap (λ (b : Bool). b && R 0 rest) (flipped (among acts n) (listed_in (command_names l) n))
  referrer_told G.stay rest h = unnamed l own true acts 10 rest h
  referrer_told (G.stay_in n) rest h = own_told (among own n) (R 0 rest)

  when_told : (w : G.When) (rest : List Token) → named rest ≡ false → R 0 (when_words w rest) ≡ (when_known l own acts w && R 0 rest)
  unfolding words_known word_known name_known listed_for own_for action_for actions_differ referring_after actions_after when_words kind_of bytes_of when_known
  when_told w rest h =
      guard_told l own true acts w.guard 7 (referrer_words w.referrer rest)
      ∙ ap (λ (b : Bool). guard_known w.guard l && b) (referrer_told w.referrer rest h)
      ∙ sym (assoc (guard_known w.guard l) (referrer_known l own acts w.referrer) (R 0 rest))

  whens_told : (xs : Row G.When) (ys : List G.When) (rest : List Token) (v : Bool) → named rest ≡ false → R 0 rest ≡ (every (when_known l own acts) ys && v)
      → R 0 (row_words when_words xs rest) ≡ (every (when_known l own acts) (in_order xs ys) && v)
  unfolding row_words in_order every when_words named
  whens_told none ys rest v h e = e
  whens_told (xs then w) ys rest v h e =
      whens_told xs (w ∷ ys) (when_words w rest) v refl
      (when_told w rest h ∙ ap (λ (b : Bool). when_known l own acts w && b) e ∙ sym (assoc (when_known l own acts w) (every (when_known l own acts) ys) v))

-- a row of actions begins with no name, where what stands behind it does not
actions_unnamed : (xs : Row G.Action) (rest : List Token) → named rest ≡ false → named (row_words action_words xs rest) ≡ false
unfolding row_words action_words named
actions_unnamed none rest h = h
actions_unnamed (xs then a) rest h = actions_unnamed xs (action_words a rest) refl

-- what stands behind a state: the next one, or the end
record Behind (l : Lists) (own : List Name) (rest : List Token) (v : Bool) : Type 0 where
  told : (k : ℕ) (r : Bool) (acts : List Name) → words_known l own k r acts rest ≡ v
  no_action : names_ahead 3 2 rest ≡ []
  no_name : named rest ≡ false

module _ (l : Lists) (own : List Name) where
  state_told : (s : G.State) (rest : List Token) (v : Bool) → Behind l own rest v → Behind l own (state_words s rest) (state_known l own s && v)
  unfolding words_known word_known name_known listed_for own_for action_for actions_differ referring_after actions_after state_words kind_of bytes_of state_known names_ahead named every
  state_told s rest v b =
      record {
        told = λ k r acts. rw (state_actions s rest b.no_action) (ap (λ (x : Bool). none_twice (action_names s) && x) inside ∙ moved (none_twice (action_names s)) (every (when_known l own (action_names s)) (in_order s.whens [])) (every (action_known l own) (in_order s.actions [])) v);
        no_action = refl;
        no_name = refl;
      }
    where
      actions : List Token
      actions = row_words action_words s.actions rest

      inside : words_known l own 0 true (action_names s) (row_words when_words s.whens actions)
          ≡ (every (when_known l own (action_names s)) (in_order s.whens []) && (every (action_known l own) (in_order s.actions []) && v))
      inside =
          whens_told l own (action_names s) s.whens [] actions (every (action_known l own) (in_order s.actions []) && v) (actions_unnamed s.actions rest b.no_name)
          (actions_told l own (action_names s) s.actions [] rest v (λ r. b.told 0 r (action_names s)) true)

  states_told : (ss : Row G.State) (xs : List G.State) (rest : List Token) → Behind l own rest (every (state_known l own) xs)
      → Behind l own (row_words state_words ss rest) (every (state_known l own) (in_order ss xs))
  unfolding row_words in_order every
  states_told none xs rest b = b
  states_told (ss then s) xs rest b = states_told ss (s ∷ xs) (state_words s rest) (state_told s rest (every (state_known l own) xs) b)

  end_told : Behind l own (fixed end_word ∷ []) true
  unfolding words_known word_known actions_differ kind_of names_ahead named
  end_told = record { told = λ k r acts. refl; no_action = refl; no_name = refl }

  pub text_told : (t : G.Text) → words_known l own 27 false [] (text_words t) ≡ every (state_known l own) (all_states t)
  unfolding words_known word_known name_known listed_for own_for action_for actions_differ referring_after actions_after text_words kind_of bytes_of all_states every
  text_told t =
      (states_told t.earlier (t.last ∷ []) (state_words t.last (fixed end_word ∷ [])) (state_told t.last (fixed end_word ∷ []) true end_told)).told 0 false []
