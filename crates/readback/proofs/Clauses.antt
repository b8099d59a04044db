-- The words of written statements, clauses, states and of the whole text are those of their trees.
-- Assumes nothing.
use Prim.Native.Nat.{ℕ, zero, suc, ◌+◌, ◌<◌, ◌≤◌}
use native.Mathlib.Omega.{arith}
use mathlib.Core.Path.{◌≡◌, refl, sym, ◌∙◌, ap, subst}
use mathlib.Core.List.{List, [], ◌∷◌, ◌++◌, map, append-nil}
use lib.ListN.{length, get_or}
use Rattle.model.specs.Tree as M
use Rattle.grammar.specs.Grammar as G
use Rattle.grammar.specs.Grammar.{Token, fixed, name, Name, class_word, state_word, top_word, if_word, then_word, end_word, none, row_words, guard_words, referrer_words, when_words, part_words, action_words, state_words}
use Rattle.grammar.specs.Words.{spelled}
use Rattle.grammar.specs.Reading.{Says}
use Rattle.encoding.specs.Numbers.{Every, ReferrerNumbers}
use Rattle.encoding.specs.Encoding.{gathered}
use Rattle.naming.specs.NameLists.{Lists, characters, records_in, command_names}
use Rattle.naming.proofs.Rows.{list_words, text_as_list}
use Rattle.writings.specs.Layout.{Named, line, else_text, own_text, command_text, part_text, statement_text, referrer_text, when_text, action_text, state_text, states_text, class_text}
use Rattle.readback.specs.Trees.{row_of, if_tree, condition_tree, part_tree, statement_tree, referrer_tree, when_tree, action_tree, state_tree, state_trees, text_tree}
use Rattle.readback.proofs.Cutting.{Cut, Closed, Open, at_end, closed_none, closed_closed, closed_open, open_closed, closed_as}
use Rattle.readback.proofs.Wordings.{open_name, closed_line, say_do, say_all, say_move, say_stay, say_if, say_then, say_else, say_endif, say_when, say_blank, say_action, say_state, say_class, parting_all}
use Rattle.readback.proofs.RightLists.{RightList, is_named}
use Rattle.readback.proofs.Nameable.{NamedPart, NamedStatement, NamedWhen, NamedAction, NamedState, Nameable}
use Rattle.readback.proofs.TreeRows.{row_said, class_name, trees_are}
use Rattle.readback.proofs.Guards.{kin_open, guard_closed}

-- what holds of every entry holds of entry i
pub every_get : {A : Type 0} (P : A → Type 0) (d : A) (xs : List A) → Every P xs → (i : ℕ) → i < length xs → P (get_or xs i d)
every_get P d [] h i l = absurd (omega arith)
every_get P d (x ∷ xs) h zero l = h.0
every_get P d (x ∷ xs) h (suc i) l = every_get P d xs h.1 i (omega arith)

-- the entries of a list, one behind the other
gathered_closed : {A B : Type 0} (Q : A → Type 0) (text : A → List ℕ) (tree : A → B) (said : B → List Token → List Token)
    → ((x : A) → Q x → Closed (text x) (said (tree x))) → (xs : List A) → Every Q xs → Closed (gathered text xs) (list_words said (map tree xs))
unfolding gathered list_words
gathered_closed Q text tree said e [] h = closed_none
gathered_closed Q text tree said e (x ∷ xs) h = closed_closed (e x h.0) (gathered_closed Q text tree said e xs h.1)

module _ (own : List ℕ) (l : Lists) where
  -- statements behind others are said behind them
  statement_behind : (s : M.Statement) (before : G.Part) (ts : List Token)
      → part_words (statement_tree own l s before) ts ≡ part_words before (part_words (statement_tree own l s G.nothing) ts)
  unfolding part_words part_tree
  statement_behind (M.send m p) before ts = refl
  statement_behind (M.go_to q) before ts = refl
  statement_behind (M.branch g a M.end) before ts = refl
  statement_behind (M.branch g a (M.◌then◌ s p)) before ts = refl

  part_behind : (p : M.Part) (before : G.Part) (ts : List Token)
      → part_words (part_tree own l p before) ts ≡ part_words before (part_words (part_tree own l p G.nothing) ts)
  unfolding part_words part_tree
  part_behind M.end before ts = refl
  part_behind (M.◌then◌ s p) before ts =
      part_behind p (statement_tree own l s before) ts
      ∙ (statement_behind s before (part_words (part_tree own l p G.nothing) ts)
      ∙ ap (part_words before) (sym (part_behind p (statement_tree own l s G.nothing) ts)))

  -- a state, its clauses as lists
  state_said : (q : ℕ) (s : M.State) (ts : List Token)
      → fixed state_word ∷ name (own_text own l q)
      ∷ list_words when_words (map (when_tree own l q s.actions) s.whens) (list_words action_words (map (action_tree own l) s.actions) ts)
      ≡ state_words (state_tree own l q s) ts
  unfolding state_words state_tree
  state_said q s ts =
      ap (λ (x : List Token). fixed state_word ∷ name (own_text own l q) ∷ x)
      (sym
      (row_said when_words (map (when_tree own l q s.actions) s.whens) (row_words action_words (row_of none (map (action_tree own l) s.actions)) ts)
      ∙ ap (list_words when_words (map (when_tree own l q s.actions) s.whens)) (row_said action_words (map (action_tree own l) s.actions) ts)))

-- an if whose head and then-part are written
if_closed : (b : M.Part) (v : ℕ) (g : G.Guard) (q r : G.Part) {head other : List ℕ}
    → Closed head (λ ts. fixed if_word ∷ guard_words g (fixed then_word ∷ part_words q ts)) → Closed other (part_words r)
    → Closed (head ++ else_text b v other ++ line v (spelled "endif")) (part_words (if_tree G.nothing g q b r))
unfolding part_words
if_closed M.end v g q r h e = closed_closed (closed_closed h closed_none) (closed_line v say_endif)
if_closed (M.◌then◌ s p) v g q r h e = closed_closed (closed_closed h (closed_closed (closed_line v say_else) e)) (closed_line v say_endif)

module _ (own : List ℕ) (l : Lists) (o : RightList 32 own) (ns : RightList 32 l.names) (cs : RightList 32 l.commands) (ks : RightList 36 l.classes) where
  abbrev S : ℕ
  S = length (records_in 32 own)

  -- the name of an own state, and of a command
  own_open : (q : ℕ) → q < S → Open (own_text own l q) (◌∷◌ (name (own_text own l q)))
  unfolding own_text
  own_open q b = open_name (own_text own l q) (is_named o q b)

  command_open : (m : ℕ) → m < length (command_names l) → Open (command_text own l m) (◌∷◌ (name (command_text own l m)))
  unfolding command_text
  command_open m b = open_name (command_text own l m) (is_named cs m b)

  mutual
    unfolding part_text part_tree part_words NamedPart guard_words

    part_closed : (p : M.Part) (v : ℕ) → NamedPart l p S → Closed (part_text own l p v) (part_words (part_tree own l p G.nothing))
    part_closed M.end v h = closed_none
    part_closed (M.◌then◌ s p) v h =
        closed_as (part_words (part_tree own l p (statement_tree own l s G.nothing))) (λ ts. sym (part_behind own l p (statement_tree own l s G.nothing) ts))
        (closed_closed (statement_closed s v h.0) (part_closed p v h.1))

    statement_closed : (s : M.Statement) (v : ℕ) → NamedStatement l s S → Closed (statement_text own l s v) (part_words (statement_tree own l s G.nothing))
    statement_closed (M.send m p) v h =
        closed_line v (closed_open (open_closed (closed_open say_do (command_open m h.0)) parting_all say_all) (kin_open l ns ks p h.1))
    statement_closed (M.go_to q) v h = closed_line v (closed_open say_move (own_open q h))
    statement_closed (M.branch g a b) v h =
        if_closed b v (condition_tree own l g) (part_tree own l a G.nothing) (part_tree own l b G.nothing)
        (closed_closed (closed_line v (closed_open (closed_closed say_if (guard_closed l ns ks g h.0)) say_then)) (part_closed a (suc v) h.1))
        (part_closed b (suc v) h.2)

  -- in state q, which has these action clauses
  referrer_open : (q : ℕ) → q < S → (actions : List M.Action) → Every (NamedAction l S) actions → (r : M.Referrer) → ReferrerNumbers r S (length actions)
      → Open (referrer_text own l q actions r) (referrer_words (referrer_tree own l q actions r))
  unfolding referrer_text referrer_words referrer_tree
  referrer_open q b actions e (M.move_to t) h = closed_open say_move (own_open t h)
  referrer_open q b actions e (M.run a) h =
      closed_open say_do (command_open (get_or actions a M.no_action).command (every_get (NamedAction l S) M.no_action actions e a h).0)
  referrer_open q b actions e M.stay h = closed_open say_stay (own_open q b)

  when_closed : (q : ℕ) → q < S → (actions : List M.Action) → Every (NamedAction l S) actions → (w : M.When) → NamedWhen l S actions w
      → Closed (when_text own l q actions w) (when_words (when_tree own l q actions w))
  unfolding when_text when_words when_tree guard_words
  when_closed q b actions e w h =
      closed_line 2
      (closed_open (closed_closed (closed_closed say_when (guard_closed l ns ks w.guard h.0)) say_blank) (referrer_open q b actions e w.referrer h.1))

  action_closed : (a : M.Action) → NamedAction l S a → Closed (action_text own l a) (action_words (action_tree own l a))
  unfolding action_text action_words action_tree
  action_closed a h = closed_closed (closed_line 2 (closed_open say_action (command_open a.command h.0))) (part_closed a.body 3 h.1)

  state_closed : (q : ℕ) → q < S → (s : M.State) → NamedState l S s → Closed (state_text own l q s) (state_words (state_tree own l q s))
  unfolding state_text
  state_closed q b s h =
      closed_as (state_words (state_tree own l q s)) (state_said own l q s)
      (closed_closed
      (closed_closed (closed_line 1 (closed_open say_state (own_open q b)))
      (gathered_closed (NamedWhen l S s.actions) (when_text own l q s.actions) (when_tree own l q s.actions) when_words
      (when_closed q b s.actions h.actions)
      s.whens
      h.whens))
      (gathered_closed (NamedAction l S) (action_text own l) (action_tree own l) action_words action_closed s.actions h.actions))

  states_closed : (ss : List M.State) (q : ℕ) → q + length ss ≤ S → Every (NamedState l S) ss → Closed (states_text own l q ss) (list_words state_words (state_trees own l q ss))
  unfolding states_text state_trees list_words
  states_closed [] q b h = closed_none
  states_closed (s ∷ ss) q b h = closed_closed (state_closed q (omega arith) s h.0) (states_closed ss (suc q) (omega arith) h.1)

-- THE WORDS of the text of a class are those of its tree
pub text_says : (n : Named) (c : M.Class) → Nameable n c → 1 ≤ length c.states → Says (class_text n c) (text_tree n c)
unfolding class_text text_tree
text_says n c k some =
    text_as_list (text_tree n c)
    ∙ ((λ j. fixed class_word ∷ fixed top_word ∷ name (class_name own_name trees none j) ∷ list_words state_words (trees_are n c some j) (fixed end_word ∷ []))
    ∙ sym said.told)
  where
    own_name : Name
    own_name = characters n.own_name

    trees : List G.State
    trees = state_trees n.own_states n.lists 0 c.states

    closed : Closed (class_text n c) (λ ts. fixed class_word ∷ fixed top_word ∷ name own_name ∷ list_words state_words trees ts)
    closed =
        closed_closed (closed_line 0 (closed_open say_class (open_name own_name k.own)))
        (states_closed n.own_states n.lists k.table k.names k.commands k.classes c.states 0 (let e = k.number in omega arith) k.states)

    all : List Token
    all = fixed class_word ∷ fixed top_word ∷ name own_name ∷ list_words state_words trees (fixed end_word ∷ [])

    said : Cut (class_text n c) all
    said = subst (λ (x : List ℕ). Cut x all) (append-nil (class_text n c)) (closed.before [] (fixed end_word ∷ []) at_end)
