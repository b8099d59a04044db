-- The machine by numbers goes as the machine does.
-- Assumes nothing.
use Prim.Native.Nat.{ℕ, zero, suc, ◌-◌}
use mathlib.Core.Path.{◌≡◌, refl, sym, ◌∙◌, ap, subst}
use native.Mathlib.Omega.{arith}
use mathlib.Core.Bool.{Bool, true, false}
use mathlib.Core.List.{List, [], ◌∷◌}
use mathlib.Core.Option.{Option, none, some}
use lib.Dec.{eqb}
use lib.ListN.{length}
use borrow.Author.Tests.{eqb-true, eqb-false, eq-eqb, ne_eqb}
use Rattle.model.specs.Words.{choose, maybe}
use Rattle.grammar.specs.Grammar.{Token, fixed, name, Name, Row, ◌then◌, Operand, not, brackets, Guard, When, Action, Part, stay, single, braces}
use Rattle.grammar.specs.Kinds.{kind_of}
use Rattle.grammar.specs.Machine.{Within, list_of, body, then_part, else_part, Owner, a_when, an_if, guard_in, owned, bracket, conj_in, first, after_or, operand_in, first_of, after_and, after_not, At, start, class_read, top_read, class_named, state_read, in_whens, operand_wanted, kin_wanted, side_wanted, set_wanted, left_read, comma_read, names_read, operand_read, move_read, do_read, stay_read, action_read, statements, send_read, command_read, send_all_read, go_read, finished, Move, on, on_name, filled, outer, whole, owner_moves, closing_moves, action_moves, when_moves, ending_moves, atom_of, moves, answer, next}
use Rattle.std.specs.Prelude.{Some, None}
use Rattle.std.specs.Prelude as std
use Rattle.steps.specs.declared.Want.{Want}
use Rattle.steps.specs.declared.Want.TheVariants.{Start, ClassRead, TopRead, ClassNamed, StateRead, InWhens, OperandWanted, KinWanted, SideWanted, SetWanted, LeftRead, CommaRead, NamesRead, OperandRead, MoveRead, DoRead, StayRead, ActionRead, Statements, SendRead, CommandRead, SendAllRead, GoRead, Finished}
use Rattle.steps.specs.declared.Open.{Open}
use Rattle.steps.specs.Turns.{Turn, action_turns, when_turns, operand_turns, closing_turns, operator_turns, ending_turns, statement_turns, turns}
use Rattle.steps.specs.Going.{going}
use Rattle.steps.specs.Going as steps
use Rattle.steps.specs.Opening.{counted, nested_after, open_after, Ifs, with_else, closed, had_else, ifs_after}

-- what is open at a place, with the ifs one by one
pub record Opened : Type 0 where
  pub brackets : ℕ
  pub nested : Bool
  pub ifs : Ifs

unfoldable pub opened_after : Opened → ℕ → Opened
opened_after o k = record { brackets = counted o.brackets k 21 22; nested = nested_after o.nested k; ifs = ifs_after o.ifs k }

unfoldable pub list_ifs : list_of → Ifs
list_ifs (body s ws as' c) = []
list_ifs (then_part l p g) = false ∷ list_ifs l
list_ifs (else_part l p g q) = true ∷ list_ifs l

unfoldable mutual
  pub guard_open : guard_in → ℕ
  guard_open (owned o) = 0
  guard_open (bracket h) = suc (operand_open h)

  pub conj_open : conj_in → ℕ
  conj_open (first h) = guard_open h
  conj_open (after_or h g) = guard_open h

  pub operand_open : operand_in → ℕ
  operand_open (first_of h) = conj_open h
  operand_open (after_and h c) = conj_open h
  operand_open (after_not h) = operand_open h

unfoldable mutual
  pub guard_owner : guard_in → Owner
  guard_owner (owned o) = o
  guard_owner (bracket h) = operand_owner h

  pub conj_owner : conj_in → Owner
  conj_owner (first h) = guard_owner h
  conj_owner (after_or h g) = guard_owner h

  pub operand_owner : operand_in → Owner
  operand_owner (first_of h) = conj_owner h
  operand_owner (after_and h c) = conj_owner h
  operand_owner (after_not h) = operand_owner h

unfoldable pub an_if_owns : Owner → Bool
an_if_owns (a_when s ws) = false
an_if_owns (an_if l p) = true

unfoldable pub owner_ifs : Owner → Ifs
owner_ifs (a_when s ws) = []
owner_ifs (an_if l p) = list_ifs l

-- outside guards, and inside one
abbrev pub in_list : Ifs → Opened
in_list b = record { brackets = 0; nested = false; ifs = b }

abbrev pub inside : ℕ → Owner → Opened
inside n o = record { brackets = n; nested = an_if_owns o; ifs = owner_ifs o }

abbrev pub at_operand : operand_in → Opened
at_operand h = inside (operand_open h) (operand_owner h)

unfoldable pub opened : At → Opened
opened start = in_list []
opened class_read = in_list []
opened top_read = in_list []
opened (class_named c) = in_list []
opened (state_read c ss) = in_list []
opened (in_whens s ws) = in_list []
opened (operand_wanted h) = at_operand h
opened (kin_wanted h q) = at_operand h
opened (side_wanted h q k) = at_operand h
opened (set_wanted a) = at_operand a.place
opened (left_read a) = at_operand a.place
opened (comma_read a ns) = at_operand a.place
opened (names_read a ns) = at_operand a.place
opened (operand_read h c) = inside (conj_open h) (conj_owner h)
opened (move_read s ws g) = in_list []
opened (do_read s ws g) = in_list []
opened (stay_read s ws g) = in_list []
opened (action_read s ws as') = in_list []
opened (statements l p) = in_list (list_ifs l)
opened (send_read l p) = in_list (list_ifs l)
opened (command_read l p c) = in_list (list_ifs l)
opened (send_all_read l p c) = in_list (list_ifs l)
opened (go_read l p) = in_list (list_ifs l)
opened (finished t) = in_list []

unfoldable pub want_of : At → Want
want_of start = Start
want_of class_read = ClassRead
want_of top_read = TopRead
want_of (class_named c) = ClassNamed
want_of (state_read c ss) = StateRead
want_of (in_whens s ws) = InWhens
want_of (operand_wanted h) = OperandWanted
want_of (kin_wanted h q) = KinWanted
want_of (side_wanted h q k) = SideWanted
want_of (set_wanted a) = SetWanted
want_of (left_read a) = LeftRead
want_of (comma_read a ns) = CommaRead
want_of (names_read a ns) = NamesRead
want_of (operand_read h c) = OperandRead
want_of (move_read s ws g) = MoveRead
want_of (do_read s ws g) = DoRead
want_of (stay_read s ws g) = StayRead
want_of (action_read s ws as') = ActionRead
want_of (statements l p) = Statements
want_of (send_read l p) = SendRead
want_of (command_read l p c) = CommandRead
want_of (send_all_read l p c) = SendAllRead
want_of (go_read l p) = GoRead
want_of (finished t) = Finished

-- the turns by what is open
abbrev pub turns_in : Want → Opened → List Turn
turns_in w o = turns w o.brackets o.nested (length o.ifs) (had_else o.ifs)

-- a move's word leads to the turn's want, and opens and closes by itself alone
unfoldable pub Goes : Opened → Move → Turn → Type 0
Goes o (on k s) t = (suc k ≡ t.kind) × (want_of s ≡ t.want) × (opened s ≡ opened_after o (suc k))
Goes o (on_name f) t = (0 ≡ t.kind) × ((n : Name) → want_of (f n) ≡ t.want) × ((n : Name) → opened (f n) ≡ opened_after o 0)

unfoldable pub All-go : Opened → List Move → List Turn → Type 0
All-go o [] [] = Unit {0}
All-go o [] (t ∷ ts) = ⊥
All-go o (m ∷ ms) [] = ⊥
All-go o (m ∷ ms) (t ∷ ts) = Goes o m t × All-go o ms ts

-- one name that opens the numbers of places
unfoldable pub numbers : Unit {0}
unfolding All-go Goes opened want_of opened_after counted nested_after ifs_after with_else closed had_else list_ifs guard_open guard_owner an_if_owns owner_ifs
numbers = tt

filled_want : (h : operand_in) (u : Operand) → want_of (filled h u) ≡ OperandRead
unfolding numbers filled
filled_want (first_of h) u = refl
filled_want (after_and h c) u = refl
filled_want (after_not h) u = filled_want h (not u)

filled_opened : (h : operand_in) (u : Operand) → opened (filled h u) ≡ at_operand h
unfolding numbers filled
filled_opened (first_of h) u = refl
filled_opened (after_and h c) u = refl
filled_opened (after_not h) u = filled_opened h (not u)

actions_go : (s : Within) (ws : Row When) (as' : Row Action) → All-go (in_list []) (action_moves s ws as') action_turns
unfolding numbers action_moves action_turns
actions_go s ws as' = ((refl, refl, refl), ((refl, refl, refl), ((refl, refl, refl), tt)))

whens_go : (s : Within) (ws : Row When) → All-go (in_list []) (when_moves s ws) when_turns
unfolding numbers when_moves when_turns
whens_go s ws = ((refl, refl, refl), actions_go s ws Row.none)

owners_go : (o : Owner) (g : Guard) → All-go (inside 0 o) (owner_moves o g) (closing_turns 0 (an_if_owns o))
unfolding numbers owner_moves closing_turns
owners_go (a_when s ws) g = ((refl, refl, refl), ((refl, refl, refl), ((refl, refl, refl), tt)))
owners_go (an_if l p) g = ((refl, refl, refl), tt)

closings_go : (h : guard_in) (g : Guard) → All-go (inside (guard_open h) (guard_owner h)) (closing_moves h g) (closing_turns (guard_open h) (an_if_owns (guard_owner h)))
unfolding numbers closing_moves closing_turns
closings_go (owned o) g = owners_go o g
closings_go (bracket h) g =
    let e : operand_open h ≡ suc (operand_open h) - 1 = omega arith in
    ((refl, filled_want h (brackets g), filled_opened h (brackets g) ∙ ap (λ (n : ℕ). inside n (operand_owner h)) e), tt)

endings_go : (l : list_of) (p : Part) → All-go (in_list (list_ifs l)) (ending_moves l p) (ending_turns (length (list_ifs l)) (had_else (list_ifs l)))
unfolding numbers ending_moves ending_turns
endings_go (body s ws as' c) p = actions_go s ws (as' then record { command = c; body = p })
endings_go (then_part l p g) q = ((refl, refl, refl), ((refl, refl, refl), tt))
endings_go (else_part l p g q) r = ((refl, refl, refl), tt)

outer_open : (h : conj_in) → guard_open (outer h) ≡ conj_open h
unfolding guard_open
outer_open (first h) = refl
outer_open (after_or h g) = refl

outer_owner : (h : conj_in) → guard_owner (outer h) ≡ conj_owner h
unfolding guard_owner
outer_owner (first h) = refl
outer_owner (after_or h g) = refl

outer_opened : (h : conj_in) → inside (guard_open (outer h)) (guard_owner (outer h)) ≡ inside (conj_open h) (conj_owner h)
outer_opened h = λ j. inside (outer_open h j) (outer_owner h j)

outer_go : (h : conj_in) (g : Guard) → All-go (inside (conj_open h) (conj_owner h)) (closing_moves (outer h) g) (closing_turns (conj_open h) (an_if_owns (conj_owner h)))
outer_go h g = subst (λ (o : Opened). All-go o (closing_moves (outer h) g) (closing_turns o.brackets o.nested)) (outer_opened h) (closings_go (outer h) g)

pub all_go : (s : At) → All-go (opened s) (moves s) (turns_in (want_of s) (opened s))
unfolding numbers moves turns operand_turns operator_turns statement_turns
all_go start = ((refl, refl, refl), tt)
all_go class_read = ((refl, refl, refl), tt)
all_go top_read = ((refl, (λ n. refl), (λ n. refl)), tt)
all_go (class_named c) = ((refl, refl, refl), tt)
all_go (state_read c ss) = ((refl, (λ n. refl), (λ n. refl)), tt)
all_go (in_whens s ws) = whens_go s ws
all_go (operand_wanted h) = ((refl, refl, refl), ((refl, refl, refl), ((refl, refl, refl), ((refl, refl, refl), tt))))
all_go (kin_wanted h q) = ((refl, refl, refl), ((refl, (λ n. refl), (λ n. refl)), tt))
all_go (side_wanted h q k) = ((refl, refl, refl), ((refl, refl, refl), tt))
all_go (set_wanted a) =
    ((refl, (λ n. filled_want a.place (atom_of a (single n))), (λ n. filled_opened a.place (atom_of a (single n)))), ((refl, refl, refl), tt))
all_go (left_read a) = ((refl, (λ n. refl), (λ n. refl)), tt)
all_go (comma_read a ns) = ((refl, (λ n. refl), (λ n. refl)), tt)
all_go (names_read a ns) = ((refl, refl, refl), ((refl, filled_want a.place (atom_of a (braces ns)), filled_opened a.place (atom_of a (braces ns))), tt))
all_go (operand_read h c) = ((refl, refl, refl), ((refl, refl, outer_opened h), outer_go h (whole h c)))
all_go (move_read s ws g) = ((refl, (λ n. refl), (λ n. refl)), tt)
all_go (do_read s ws g) = ((refl, (λ n. refl), (λ n. refl)), tt)
all_go (stay_read s ws g) = ((refl, (λ n. refl), (λ n. refl)), whens_go s (ws then record { guard = g; referrer = stay }))
all_go (action_read s ws as') = ((refl, (λ n. refl), (λ n. refl)), tt)
all_go (statements l p) = ((refl, refl, refl), ((refl, refl, refl), ((refl, refl, refl), endings_go l p)))
all_go (send_read l p) = ((refl, (λ n. refl), (λ n. refl)), tt)
all_go (command_read l p c) = ((refl, refl, refl), tt)
all_go (send_all_read l p c) = ((refl, refl, refl), ((refl, (λ n. refl), (λ n. refl)), tt))
all_go (go_read l p) = ((refl, (λ n. refl), (λ n. refl)), tt)
all_go (finished t) = tt

-- where a word leads, as the machine's move says
unfoldable pub Leads : Opened → ℕ → std.Option Want → Option At → Type 0
Leads o k g none = g ≡ None
Leads o k g (some t) = (g ≡ Some (want_of t)) × (opened t ≡ opened_after o k)

-- the turn is taken, or passed over
taken : (o : Opened) (t : Turn) (ts : List Turn) (k : ℕ) (s : At) → k ≡ t.kind → want_of s ≡ t.want → opened s ≡ opened_after o k → Leads o k (going (t ∷ ts) k) (some s)
unfolding going steps.first_of Leads
taken o t ts k s e w p = (rw (eq-eqb k t.kind e) (ap Some (sym w)), p)

passed : (o : Opened) (t : Turn) (ts : List Turn) (k : ℕ) (a : Option At) → (k ≡ t.kind → ⊥) → Leads o k (going ts k) a → Leads o k (going (t ∷ ts) k) a
unfolding going steps.first_of
passed o t ts k a e l = rw (ne_eqb k t.kind e) l

one_leads : (o : Opened) (m : Move) (t : Turn) (ms : List Move) (ts : List Turn) → Goes o m t → (w : Token) → Leads o (kind_of w) (going ts (kind_of w)) (next ms w)
    → Leads o (kind_of w) (going (t ∷ ts) (kind_of w)) (next (m ∷ ms) w)
unfolding Goes next answer kind_of
one_leads o (on k s) t ms ts g (name n) l = passed o t ts 0 (next ms (name n)) (λ z. let h = g.0 in omega (arith, h, z)) l
one_leads o (on_name f) t ms ts g (fixed j) l = passed o t ts (suc j) (next ms (fixed j)) (λ z. let h = g.0 in omega (arith, h, z)) l
one_leads o (on_name f) t ms ts g (name n) l = taken o t ts 0 (f n) g.0 (g.1 n) (g.2 n)
one_leads o (on k s) t ms ts g (fixed j) l = go (eqb j k) refl
  where
    go : (b : Bool) → eqb j k ≡ b → Leads o (suc j) (going (t ∷ ts) (suc j)) (maybe (choose b (λ _. some s) (λ _. none)) (λ _. next ms (fixed j)) some)
    go true h =
        let e : suc j ≡ suc k = ap suc (eqb-true j k h) in
        taken o t ts (suc j) s (e ∙ g.0) g.1 (g.2 ∙ ap (opened_after o) (sym e))
    go false h = passed o t ts (suc j) (next ms (fixed j)) (λ z. eqb-false j k h (let x = g.0 in omega (arith, x, z))) l

all_lead : (o : Opened) (ms : List Move) (ts : List Turn) → All-go o ms ts → (w : Token) → Leads o (kind_of w) (going ts (kind_of w)) (next ms w)
unfolding All-go going next Leads
all_lead o [] [] g w = refl
all_lead o [] (t ∷ ts) g w = absurd g
all_lead o (m ∷ ms) [] g w = absurd g
all_lead o (m ∷ ms) (t ∷ ts) g w = one_leads o m t ms ts g.0 w (all_lead o ms ts g.1 w)

-- where a word leads by numbers, there it leads the machine
pub leads : (s : At) (w : Token) → Leads (opened s) (kind_of w) (going (turns_in (want_of s) (opened s)) (kind_of w)) (next (moves s) w)
leads s w = all_lead (opened s) (moves s) (turns_in (want_of s) (opened s)) (all_go s) w

-- the open ifs by their number
abbrev pub by_number : Opened → Open
by_number o = record { brackets = o.brackets; nested = o.nested; ifs = length o.ifs }

else_length : (b : Ifs) → length (with_else b) ≡ length b
unfolding with_else
else_length [] = refl
else_length (e ∷ b) = refl

closed_length : (b : Ifs) → length (closed b) ≡ length b - 1
unfolding closed
closed_length [] = omega arith
closed_length (e ∷ b) = omega arith

pub ifs_length : (b : Ifs) (k : ℕ) → length (ifs_after b k) ≡ counted (length b) k 12 14
unfolding ifs_after counted
ifs_length b k = go (eqb k 12) (eqb k 13) refl (eqb k 14) refl
  where
    go : (t u : Bool) → eqb k 13 ≡ u → (v : Bool) → eqb k 14 ≡ v
        → length (choose t (λ _. false ∷ b) (λ _. choose u (λ _. with_else b) (λ _. choose v (λ _. closed b) (λ _. b))))
        ≡ choose t (λ _. suc (length b)) (λ _. choose v (λ _. length b - 1) (λ _. length b))
    go true u q v r = refl
    go false true q true r = absurd (let x = eqb-true k 13 q in let y = eqb-true k 14 r in omega (arith, x, y))
    go false true q false r = else_length b
    go false false q true r = closed_length b
    go false false q false r = refl

pub by_number_after : (o : Opened) (k : ℕ) → by_number (opened_after o k) ≡ open_after (by_number o) k
unfolding opened_after open_after
by_number_after o k = λ j. record { brackets = counted o.brackets k 21 22; nested = nested_after o.nested k; ifs = ifs_length o.ifs k j }

-- whether an if had its else matters to the word else alone
endings : (d : ℕ) (a b : Bool) (k : ℕ) → (k ≡ 13 → ⊥) → going (ending_turns d a) k ≡ going (ending_turns d b) k
unfolding ending_turns going steps.first_of
endings zero a b k h = refl
endings (suc d) true true k h = refl
endings (suc d) false false k h = refl
endings (suc d) true false k h = rw (ne_eqb k 13 h)
endings (suc d) false true k h = rw (ne_eqb k 13 h)

else_alone : (w : Want) (n : ℕ) (i : Bool) (d : ℕ) (a b : Bool) (k : ℕ) → (k ≡ 13 → ⊥) → going (turns w n i d a) k ≡ going (turns w n i d b) k
unfolding turns statement_turns going
else_alone Start n i d a b k h = refl
else_alone ClassRead n i d a b k h = refl
else_alone TopRead n i d a b k h = refl
else_alone ClassNamed n i d a b k h = refl
else_alone StateRead n i d a b k h = refl
else_alone InWhens n i d a b k h = refl
else_alone OperandWanted n i d a b k h = refl
else_alone KinWanted n i d a b k h = refl
else_alone SideWanted n i d a b k h = refl
else_alone SetWanted n i d a b k h = refl
else_alone LeftRead n i d a b k h = refl
else_alone CommaRead n i d a b k h = refl
else_alone NamesRead n i d a b k h = refl
else_alone OperandRead n i d a b k h = refl
else_alone MoveRead n i d a b k h = refl
else_alone DoRead n i d a b k h = refl
else_alone StayRead n i d a b k h = refl
else_alone ActionRead n i d a b k h = refl
else_alone Statements n i d a b k h = rw (endings d a b k h)
else_alone SendRead n i d a b k h = refl
else_alone CommandRead n i d a b k h = refl
else_alone SendAllRead n i d a b k h = refl
else_alone GoRead n i d a b k h = refl
else_alone Finished n i d a b k h = refl

-- the same of the code's numbers
pub step_leads : (s : At) (w : Token) (want : Want) (o : Open) (h : Bool) → want_of s ≡ want → by_number (opened s) ≡ o → (kind_of w ≡ 13 → h ≡ had_else (opened s).ifs)
    → Leads (opened s) (kind_of w) (going (turns want o.brackets o.nested o.ifs h) (kind_of w)) (next (moves s) w)
step_leads s w want o h e f g =
    subst (λ (x : std.Option Want). Leads (opened s) (kind_of w) x (next (moves s) w))
    (right (eqb (kind_of w) 13) refl ∙ (λ j. going (turns (e j) (f j).brackets (f j).nested (f j).ifs h) (kind_of w))) (leads s w)
  where
    right : (b : Bool) → eqb (kind_of w) 13 ≡ b
        → going (turns_in (want_of s) (opened s)) (kind_of w) ≡ going (turns (want_of s) (opened s).brackets (opened s).nested (length (opened s).ifs) h) (kind_of w)
    right true p =
        ap (λ (x : Bool). going (turns (want_of s) (opened s).brackets (opened s).nested (length (opened s).ifs) x) (kind_of w)) (sym (g (eqb-true (kind_of w) 13 p)))
    right false p =
        else_alone (want_of s) (opened s).brackets (opened s).nested (length (opened s).ifs) (had_else (opened s).ifs) h (kind_of w) (eqb-false (kind_of w) 13 p)
