-- The action clauses of a text are those of its class.
-- Assumes nothing.
use Prim.Native.Nat.{ℕ, ◌+◌, ◌≤◌, ◌<◌, ◌%◌}
use native.Mathlib.Omega.{arith}
use mathlib.Core.Path.{◌≡◌, refl, ◌∙◌, ap}
use mathlib.Core.Bool.{Bool, true, false, ◌&&◌}
use mathlib.Core.List.{List, [], ◌∷◌, ◌++◌, map}
use lib.ListN.{length}
use Rattle.model.specs.Words.{every}
use Rattle.model.specs.Tree as M
use Rattle.model.proofs.Words.{and_left, and_right}
use Rattle.grammar.specs.Grammar.{Token, fixed, name, Name, When, Guard, Part, nothing, send, go_to, if_then, if_else, Action, State, Text, all_word, do_word, move_word, if_word, then_word, else_word, endif_word, end_word, kin_words, guard_words, when_words, part_words, action_words, state_words, text_words}
use Rattle.grammar.specs.Kinds.{kind_of, bytes_of}
use Rattle.naming.specs.NameLists.{Lists, command_names, number_in, listed_in, none_twice}
use Rattle.naming.specs.Naming.{in_order, all_states, own_names, action_names, part_of, action_of, state_of, class_in}
use Rattle.naming.specs.Known.{part_known, when_known, action_known, state_known, text_known}
use Rattle.naming.proofs.Rows.{list_words, state_as_lists, text_as_list}
use Rattle.lists.specs.Lent.{found_from}
use Rattle.encoding.specs.Records.{Four}
use Rattle.encoding.specs.Encoding.{part_records, placed, action_guards, state_guards, action_record, after_whens, state_actions, action_records}
use Rattle.encoding.specs.Numbers.{Every}
use Rattle.encoding.specs.Within.{Within}
use Rattle.encoding.proofs.RecordCounts.{part_number}
use Rattle.whens.proofs.Passing.{other_kind, in_guard, in_when, in_part, Passes, kin_pass, guard_pass, when_pass, part_pass}
use Rattle.statements.proofs.PartLaws.{part_count, part_length}
use Rattle.clauses.specs.Ahead.{number_ahead, statements_ahead, command_number, command_ahead}
use Rattle.clauses.specs.Bodies.{action_as, actions_from}
use Rattle.clauses.proofs.Fitting.{Writable, high_byte, all_writable}

-- what is no statement and no end is passed over
quiet : Passes in_guard (λ n ws. statements_ahead ws)
unfolding number_ahead
quiet n w ws e =
    rw (
      other_kind in_guard 2 (kind_of w) refl e,
      other_kind in_guard 3 (kind_of w) refl e,
      other_kind in_guard 8 (kind_of w) refl e,
      other_kind in_guard 9 (kind_of w) refl e,
      other_kind in_guard 11 (kind_of w) refl e,
    )

-- the statements of a part are counted
module _ (l : Lists) where
  past_guard : (g : Guard) (ws : List Token) → statements_ahead (guard_words g (fixed then_word ∷ ws)) ≡ statements_ahead ws
  unfolding number_ahead kind_of
  past_guard g ws = guard_pass l (λ n xs. statements_ahead xs) quiet g 0 (fixed then_word ∷ ws)

  part_ahead : (p : Part) (ws : List Token) → statements_ahead (part_words p ws) ≡ part_count p + statements_ahead ws
  unfolding part_words part_count number_ahead kind_of
  part_ahead nothing ws = omega arith
  part_ahead (send p c k) ws =
      let e = part_ahead p (fixed do_word ∷ name c ∷ fixed all_word ∷ kin_words k ws) in
      let f = kin_pass l (λ n xs. statements_ahead xs) quiet k 0 ws in
      omega arith
  part_ahead (go_to p s) ws =
      let e = part_ahead p (fixed move_word ∷ name s ∷ ws) in
      omega arith
  part_ahead (if_then p g q) ws =
      let tail : List Token = part_words q (fixed endif_word ∷ ws) in
      let e = part_ahead p (fixed if_word ∷ guard_words g (fixed then_word ∷ tail)) in
      let f = past_guard g tail in
      let h = part_ahead q (fixed endif_word ∷ ws) in
      omega arith
  part_ahead (if_else p g q r) ws =
      let last : List Token = part_words r (fixed endif_word ∷ ws) in
      let tail : List Token = part_words q (fixed else_word ∷ last) in
      let e = part_ahead p (fixed if_word ∷ guard_words g (fixed then_word ∷ tail)) in
      let f = past_guard g tail in
      let h = part_ahead q (fixed else_word ∷ last) in
      let i = part_ahead r (fixed endif_word ∷ ws) in
      omega arith

-- a command that is listed has its number
in_a_byte : (x : ℕ) → x ≤ 63 → (0 + x) % 256 ≡ x
in_a_byte x h = omega arith

command_right : (l : Lists) (n : Name) → listed_in (command_names l) n ≡ true → number_in (command_names l) n ≤ 63 → command_number l.commands n ≡ number_in (command_names l) n
unfolding command_number found_from listed_in number_in
command_right l n h k = rw h (in_a_byte (number_in (command_names l) n) k)

module _ (l : Lists) (own : List Name) where
  abbrev from : List Token → List Four
  from = actions_from l.commands

  from_pass : (P : ℕ → Bool) → P 3 ≡ false → Passes P (λ n ws. from ws)
  unfolding actions_from
  from_pass P a n w ws e = rw (other_kind P 3 (kind_of w) a e)

  -- an action clause, behind which no statement of its own stands
  action_same : (x : Action) (t n : ℕ) → listed_in (command_names l) x.command ≡ true → Writable (action_of l own x) → t ≡ part_count x.body
      → action_as (command_number l.commands x.command) t ≡ action_record (action_of l own x) n
  unfolding action_of
  action_same x t n h (c, s) e =
      let p : t ≡ length (part_records (part_of l own x.body M.end) n) = e ∙ part_length l own x.body n in
      let q = part_number (part_of l own x.body M.end) n in
      let b : length (part_records (part_of l own x.body M.end) n) < 65536 = omega arith in
      rw (command_right l x.command h c, p, high_byte (length (part_records (part_of l own x.body M.end) n)) b)

  action_from : (x : Action) (rest : List Token) (n : ℕ) → statements_ahead rest ≡ 0 → listed_in (command_names l) x.command ≡ true → Writable (action_of l own x)
      → from (action_words x rest) ≡ action_record (action_of l own x) n ∷ from rest
  unfolding action_words actions_from number_ahead command_ahead kind_of bytes_of
  action_from x rest n e h w =
      let z : statements_ahead (part_words x.body rest) ≡ part_count x.body = part_ahead l x.body rest ∙ omega arith in
      let r = action_same x (statements_ahead (part_words x.body rest)) n h w z in
      let q = part_pass l (λ n ws. from ws) (from_pass in_part refl) x.body 0 rest in
      (λ i. r i ∷ q i)

  -- behind a list of action clauses no statement stands
  none_ahead : (xs : List Action) (rest : List Token) → statements_ahead rest ≡ 0 → statements_ahead (list_words action_words xs rest) ≡ 0
  unfolding list_words action_words number_ahead kind_of
  none_ahead [] rest e = e
  none_ahead (x ∷ xs) rest e = refl

  actions_listed : (xs : List Action) (rest : List Token) (n : ℕ) → statements_ahead rest ≡ 0 → every (action_known l own) xs ≡ true → Every Writable (map (action_of l own) xs)
      → from (list_words action_words xs rest) ≡ placed action_guards (λ a m. action_record a m ∷ []) (map (action_of l own) xs) n ++ from rest
  unfolding list_words every action_known placed
  actions_listed [] rest n e k w = refl
  actions_listed (x ∷ xs) rest n e k w =
      let known : action_known l own x ≡ true = and_left (action_known l own x) (every (action_known l own) xs) k in
      let h = and_left (listed_in (command_names l) x.command) (part_known l own x.body) known in
      let q = actions_listed xs rest (n + length (action_guards (action_of l own x))) e (and_right (action_known l own x) (every (action_known l own) xs) k) w.1 in
      action_from x (list_words action_words xs rest) n (none_ahead xs rest e) h w.0 ∙ ap (λ (rs : List Four). action_record (action_of l own x) n ∷ rs) q

  from_whens : (xs : List When) (rest : List Token) → from (list_words when_words xs rest) ≡ from rest
  unfolding list_words
  from_whens [] rest = refl
  from_whens (x ∷ xs) rest = when_pass l (λ n ws. from ws) (from_pass in_when refl) x 0 (list_words when_words xs rest) ∙ from_whens xs rest

  states_end : (ss : List State) → statements_ahead (list_words state_words ss (fixed end_word ∷ [])) ≡ 0
  unfolding list_words state_words number_ahead kind_of
  states_end [] = refl
  states_end (s ∷ ss) = refl

  states_listed : (ss : List State) (n : ℕ) → every (state_known l own) ss ≡ true → Every (λ s. Every Writable s.actions) (map (state_of l own) ss)
      → from (list_words state_words ss (fixed end_word ∷ [])) ≡ placed state_guards state_actions (map (state_of l own) ss) n
  unfolding list_words every state_known placed state_of actions_from kind_of
  states_listed [] n k w = refl
  states_listed (s ∷ ss) n k w =
      let S : M.State = state_of l own s in
      let ws = in_order s.whens [] in
      let xs = in_order s.actions [] in
      let rest : List Token = list_words state_words ss (fixed end_word ∷ []) in
      let tail : List Token = list_words action_words xs rest in
      let known : state_known l own s ≡ true = and_left (state_known l own s) (every (state_known l own) ss) k in
      let whens : Bool = every (when_known l own (action_names s)) ws in
      let actions : Bool = every (action_known l own) xs in
      let h : actions ≡ true = and_left actions (none_twice (action_names s)) (and_right whens (actions && none_twice (action_names s)) known) in
      let q = states_listed ss (n + length (state_guards S)) (and_right (state_known l own s) (every (state_known l own) ss) k) w.1 in
      ap from (state_as_lists s rest)
      ∙ (from_whens ws tail
      ∙ (actions_listed xs rest (after_whens S n) (states_end ss) h w.0 ∙ ap (λ (rs : List Four). state_actions S n ++ rs) q))

-- a text
pub text_actions : (l : Lists) (t : Text) → text_known l t ≡ true → Within (class_in l t) → actions_from l.commands (text_words t) ≡ action_records (class_in l t)
unfolding class_in text_known actions_from kind_of
text_actions l t k w =
    ap (actions_from l.commands) (text_as_list t)
    ∙ states_listed l (own_names t) (all_states t) 0 (and_left (every (state_known l (own_names t)) (all_states t)) (none_twice (own_names t)) k) (all_writable (class_in l t) w)
