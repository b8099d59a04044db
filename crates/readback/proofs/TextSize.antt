-- How long a written text can be: 52 bytes, 41 a state, 56 a when, 44 an action, 94 a statement, 1,110 a guard record.
-- Assumes nothing.
use Prim.Native.Nat.{ℕ, suc, ◌+◌, ◌*◌, ◌<◌, ◌≤◌}
use native.Mathlib.Omega.{arith}
use mathlib.Core.Path.{◌≡◌, refl}
use mathlib.Core.Bool.{true}
use mathlib.Core.List.{List, [], ◌∷◌, ◌++◌}
use lib.ListN.{length, get_or, length-append}
use Rattle.model.specs.Words.{listed}
use Rattle.model.specs.Tree as M
use Rattle.grammar.specs.Words.{spelled}
use Rattle.encoding.specs.Numbers.{Every, ReferrerNumbers}
use Rattle.encoding.specs.Encoding.{guard_records, part_guards, statement_guards, gathered, when_guards, action_guards, state_guards}
use Rattle.encoding.specs.Limits.{part_depth, statement_depth}
use Rattle.encoding.specs.Within.{Within}
use Rattle.encoding.proofs.All.{every_parts}
use Rattle.encoding.proofs.RecordCounts.{summed, part_size, statement_size, summed_append, when_number, action_number, statement_number}
use Rattle.naming.specs.NameLists.{Lists, characters, records_in, command_names}
use Rattle.writings.specs.Layout.{Named, else_text, own_text, command_text, part_text, statement_text, referrer_text, when_text, action_text, state_text, states_text, class_text}
use Rattle.writings.specs.Missing.{names_right}
use Rattle.readback.proofs.RightLists.{RightList, is_named}
use Rattle.readback.proofs.Nameable.{NamedPart, NamedStatement, NamedWhen, NamedAction, NamedState, nameable}
use Rattle.readback.proofs.Clauses.{every_get}
use Rattle.readback.proofs.Sizes.{Short, at_most, short_both, short_word, short_name, short_line, short_kin, short_guard}

-- an else-part, where its statements are written: at most 5 bytes more, and the blanks of its line
short_else : (b : M.Part) (v : ℕ) {other : List ℕ} {n : ℕ} → Short other n → Short (else_text b v other) (2 * v + 5 + n)
unfolding spelled listed
short_else M.end v s = record { most = omega arith }
short_else (M.◌then◌ t p) v {other} {n} s = at_most (2 * v + 5 + n) (short_both (short_line v (short_word "else" 4 refl)) s) (omega arith)

-- ifs that are at most 8 deep, in an action clause, reach level 11
abbrev Low : M.Action → Type 0
Low a = part_depth a.body ≤ 8

module _ (own : List ℕ) (l : Lists) (o : RightList 32 own) (ns : RightList 32 l.names) (cs : RightList 32 l.commands) (ks : RightList 36 l.classes) where
  abbrev S : ℕ
  S = length (records_in 32 own)

  short_own : (q : ℕ) → q < S → Short (own_text own l q) 31
  unfolding own_text
  short_own q b = short_name (own_text own l q) (is_named o q b)

  short_command : (m : ℕ) → m < length (command_names l) → Short (command_text own l m) 31
  unfolding command_text
  short_command m b = short_name (command_text own l m) (is_named cs m b)

  mutual
    unfolding part_text NamedPart part_size part_guards part_depth spelled listed

    short_part : (p : M.Part) (v : ℕ) → v + part_depth p ≤ 11 → NamedPart l p S → Short (part_text own l p v) (94 * part_size p + 1110 * length (part_guards p))
    short_part M.end v d h = record { most = omega arith }
    short_part (M.◌then◌ s p) v d h =
        at_most (94 * (statement_size s + part_size p) + 1110 * length (statement_guards s ++ part_guards p))
        (short_both (short_statement s v (omega arith) h.0) (short_part p v (omega arith) h.1))
        (omega (arith, length-append (statement_guards s) (part_guards p)))

    short_statement : (s : M.Statement) (v : ℕ) → v + statement_depth s ≤ 11 → NamedStatement l s S
        → Short (statement_text own l s v) (94 * statement_size s + 1110 * length (statement_guards s))
    short_statement (M.send m p) v d h =
        at_most (94 * 1 + 1110 * 0)
        (short_line v (short_both (short_both (short_both (short_word "do " 3 refl) (short_command m h.0)) (short_word " $ALL$" 6 refl)) (short_kin l ns ks p h.1)))
        (omega arith)
    short_statement (M.go_to q) v d h = at_most (94 * 1 + 1110 * 0) (short_line v (short_both (short_word "move_to " 8 refl) (short_own q h))) (omega arith)
    short_statement (M.branch g a b) v d h =
        let inner = part_guards a ++ part_guards b in
        at_most (94 * suc (part_size a + part_size b) + 1110 * length (guard_records g ++ inner))
        (short_both
        (short_both
        (short_both (short_line v (short_both (short_both (short_word "if " 3 refl) (short_guard l ns ks g h.0)) (short_word " then" 5 refl)))
        (short_part a (suc v) (omega arith) h.1))
        (short_else b v (short_part b (suc v) (omega arith) h.2)))
        (short_line v (short_word "endif" 5 refl)))
        (omega (arith, length-append (guard_records g) inner, length-append (part_guards a) (part_guards b)))

  short_referrer : (q : ℕ) → q < S → (actions : List M.Action) → Every (NamedAction l S) actions → (r : M.Referrer) → ReferrerNumbers r S (length actions)
      → Short (referrer_text own l q actions r) 45
  unfolding referrer_text spelled listed
  short_referrer q b actions e (M.move_to t) h = at_most 45 (short_both (short_word "move_to " 8 refl) (short_own t h)) (omega arith)
  short_referrer q b actions e (M.run a) h =
      at_most 45
      (short_both (short_word "do " 3 refl)
      (short_command (get_or actions a M.no_action).command (every_get (NamedAction l S) M.no_action actions e a h).0))
      (omega arith)
  short_referrer q b actions e M.stay h = short_both (short_word "stay_in_state " 14 refl) (short_own q b)

  short_whens : (q : ℕ) → q < S → (actions : List M.Action) → Every (NamedAction l S) actions → (ws : List M.When) → Every (NamedWhen l S actions) ws
      → Short (gathered (when_text own l q actions) ws) (56 * length ws + 1110 * length (gathered when_guards ws))
  unfolding gathered when_text spelled listed
  short_whens q b actions e [] h = record { most = omega arith }
  short_whens q b actions e (w ∷ ws) h =
      at_most (56 * suc (length ws) + 1110 * length (when_guards w ++ gathered when_guards ws))
      (short_both
      (short_line 2
      (short_both (short_both (short_both (short_word "when " 5 refl) (short_guard l ns ks w.guard h.0.0)) (short_word " " 1 refl))
      (short_referrer q b actions e w.referrer h.0.1)))
      (short_whens q b actions e ws h.1))
      (omega (arith, length-append (when_guards w) (gathered when_guards ws)))

  short_actions : (xs : List M.Action) → Every (NamedAction l S) xs → Every Low xs
      → Short (gathered (action_text own l) xs) (44 * length xs + 94 * summed (λ a. part_size a.body) xs + 1110 * length (gathered action_guards xs))
  unfolding gathered summed action_text spelled listed
  short_actions [] h d = record { most = omega arith }
  short_actions (a ∷ xs) h d =
      at_most
      (44 * suc (length xs) + 94 * (part_size a.body + summed (λ a. part_size a.body) xs) + 1110 * length (action_guards a ++ gathered action_guards xs))
      (short_both
      (short_both (short_line 2 (short_both (short_word "action: " 8 refl) (short_command a.command h.0.0)))
      (short_part a.body 3 (let z = d.0 in omega arith) h.0.1))
      (short_actions xs h.1 d.1))
      (omega (arith, length-append (action_guards a) (gathered action_guards xs)))

  -- the bytes of states, by what they have
  abbrev weight : List M.State → ℕ
  weight ss =
      41 * length ss + 56 * length (gathered (λ s. s.whens) ss) + 44 * length (gathered (λ s. s.actions) ss)
      + 94 * summed (λ a. part_size a.body) (gathered (λ s. s.actions) ss) + 1110 * length (gathered state_guards ss)

  short_states : (ss : List M.State) (q : ℕ) → q + length ss ≤ S → Every (NamedState l S) ss → Every (λ s. Every Low s.actions) ss
      → Short (states_text own l q ss) (weight ss)
  unfolding states_text state_text gathered summed spelled listed
  short_states [] q b h d = record { most = omega arith }
  short_states (s ∷ ss) q b h d =
      at_most (weight (s ∷ ss))
      (short_both
      (short_both (short_both (short_line 1 (short_both (short_word "state: " 7 refl) (short_own q (omega arith))))
      (short_whens q (omega arith) s.actions h.0.actions s.whens h.0.whens))
      (short_actions s.actions h.0.actions d.0))
      (short_states ss (suc q) (omega arith) h.1 d.1))
      (omega (
        arith,
        length-append s.whens (gathered (λ s. s.whens) ss),
        length-append s.actions (gathered (λ s. s.actions) ss),
        summed_append (λ a. part_size a.body) s.actions (gathered (λ s. s.actions) ss),
        length-append (state_guards s) (gathered state_guards ss),
        length-append (gathered when_guards s.whens) (gathered action_guards s.actions),
      ))

-- THE LONGEST TEXT of a class that a sheet can stand for
pub text_at_most : (n : Named) (c : M.Class) → names_right n c ≡ true → Within c → length (class_text n c) ≤ 1259860
unfolding class_text spelled listed
text_at_most n c h w =
    let k = nameable n c h w.numbers in
    let few = w.states in
    let whens = w.whens in
    let guards = w.guards in
    let actions = w.actions in
    let statements = w.statements in
    let number = k.number in
    let head = short_line 0 (short_both (short_word "class: $FWPART_$TOP$" 20 refl) (short_name (characters n.own_name) k.own)) in
    let states =
    short_states n.own_states n.lists k.table k.names k.commands k.classes c.states 0 (omega arith) k.states
    (every_parts Low (λ s. s.actions) c.states w.depths) in
    let all = (short_both head states).most in
    omega (arith, when_number c, action_number c, statement_number c)
