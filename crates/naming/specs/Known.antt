-- 17, the text: every name is known, no state stands twice, no command twice in a state, and every do referrer has its action.
-- Assumes nothing.
use Rattle.std.specs.Prelude.{Bool, true, ◌&&◌, List, [], ltb, length}
use Rattle.model.specs.Words.{every}
use Rattle.grammar.specs.Grammar as G
use Rattle.grammar.specs.Grammar.{Name}
use Rattle.grammar.specs.Words.{position}
use Rattle.naming.specs.NameLists.{Lists, child_names, command_names, class_names, listed_in, none_twice}
use Rattle.naming.specs.Naming.{in_order, all_states, own_names, action_names}

-- one of these names
unfoldable pub among : List Name → Name → Bool
among ns n = ltb (position ns n) (length ns)

unfoldable pub names_known : Lists → G.Names → Bool
names_known l (G.one n) = listed_in (child_names l) n
names_known l (G.more ns n) = names_known l ns && listed_in (child_names l) n

unfoldable pub set_known : Lists → G.Set → Bool
set_known l (G.single n) = listed_in (child_names l) n
set_known l (G.braces ns) = names_known l ns

unfoldable pub kin_known : Lists → G.Kin → Bool
kin_known l G.children = true
kin_known l (G.kin n) = listed_in (class_names l) n

unfoldable mutual
  pub guard_known : G.Guard → Lists → Bool
  guard_known (G.just c) l = conj_known c l
  guard_known (G.or g c) l = guard_known g l && conj_known c l

  pub conj_known : G.Conj → Lists → Bool
  conj_known (G.only u) l = operand_known u l
  conj_known (G.and c u) l = conj_known c l && operand_known u l

  pub operand_known : G.Operand → Lists → Bool
  operand_known (G.not u) l = operand_known u l
  operand_known (G.brackets g) l = guard_known g l
  operand_known (G.atom q k s t) l = kin_known l k && set_known l t

module _ (l : Lists) (own : List Name) where
  unfoldable pub part_known : G.Part → Bool
  part_known G.nothing = true
  part_known (G.send p c k) = part_known p && (listed_in (command_names l) c && kin_known l k)
  part_known (G.go_to p s) = part_known p && among own s
  part_known (G.if_then p g q) = part_known p && (guard_known g l && part_known q)
  part_known (G.if_else p g q r) = part_known p && (guard_known g l && (part_known q && part_known r))

  -- a do referrer's command is known where it is one of its state's actions and that is known
  unfoldable pub referrer_known : List Name → G.Referrer → Bool
  referrer_known actions (G.move_to n) = among own n
  referrer_known actions (G.run n) = listed_in (command_names l) n && among actions n
  referrer_known actions G.stay = true
  referrer_known actions (G.stay_in n) = among own n

  unfoldable pub when_known : List Name → G.When → Bool
  when_known actions w = guard_known w.guard l && referrer_known actions w.referrer

  unfoldable pub action_known : G.Action → Bool
  action_known a = listed_in (command_names l) a.command && part_known a.body

  unfoldable pub state_known : G.State → Bool
  state_known s =
      every (when_known (action_names s)) (in_order s.whens [])
      && (every action_known (in_order s.actions []) && none_twice (action_names s))

unfoldable pub text_known : Lists → G.Text → Bool
text_known l t = every (state_known l (own_names t)) (all_states t) && none_twice (own_names t)
