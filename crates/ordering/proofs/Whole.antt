-- The walk over the words of a text ends with the guard records of its class, in the sheet's order.
-- Assumes nothing.
use Prim.Native.Nat.{ℕ, ◌≤◌}
use mathlib.Core.Path.{◌≡◌, refl, sym, ◌∙◌, ap, subst}
use mathlib.Core.Bool.{Bool, true, ◌&&◌}
use mathlib.Core.List.{List, [], ◌∷◌, ◌++◌, map, append-nil, append_assoc}
use lib.ListN.{length}
use Rattle.model.specs.Words.{every}
use Rattle.model.specs.Tree as M
use Rattle.model.proofs.Words.{and_left, and_right}
use Rattle.grammar.specs.Grammar as G
use Rattle.grammar.specs.Grammar.{Token, fixed, name, Name, Row, none, ◌then◌, Kin, Guard, Referrer, When, Part, Action, State, Text, children_word, action_word, state_word, do_word, all_word, move_word, if_word, then_word, else_word, endif_word, end_word, row_words, kin_words, guard_words, referrer_words, when_words, part_words, action_words, state_words, text_words}
use Rattle.grammar.specs.Words.{position}
use Rattle.grammar.specs.Kinds as K
use Rattle.naming.specs.NameLists.{Lists, child_names, class_names, command_names, number_in, listed_in, none_twice}
use Rattle.naming.specs.Naming.{in_order, all_states, own_names, action_names, guard_of, pattern_of, part_of, when_of, action_of, state_of, class_in}
use Rattle.naming.specs.Known.{among, kin_known, guard_known, part_known, referrer_known, when_known, action_known, state_known, text_known}
use Rattle.encoding.specs.Records.{Eight}
use Rattle.encoding.specs.Encoding.{guard_records, part_guards, gathered, when_guards, action_guards, state_guards, all_guards}
use Rattle.std.specs.Prelude.{None}
use Rattle.ordering.specs.Ordering.{Ahead, Way, run, pattern_in, side_ahead, atom_ahead, mark_of, with_atom, turn, walked, in_prefix_order}
use Rattle.ordering.proofs.AtomLaws.{kin_passed}
use Rattle.ordering.proofs.Operands.{way, guard_keys, guard_walk}

gathered_map : {A B C : Type 0} (f : B → List C) (g : A → B) (xs : List A) → gathered f (map g xs) ≡ gathered (λ x. f (g x)) xs
unfolding gathered
gathered_map {A} {B} {C} f g [] = refl
gathered_map {A} {B} {C} f g (x ∷ xs) = ap (λ (l : List C). f (g x) ++ l) (gathered_map f g xs)

-- what holds of a row and of what follows it holds of what follows it
every_behind : {A : Type 0} (f : A → Bool) (xs : Row A) (ys : List A) → every f (in_order xs ys) ≡ true → every f ys ≡ true
unfolding in_order every
every_behind {A} f none ys e = e
every_behind {A} f (xs then x) ys e = and_right (f x) (every f ys) (every_behind f xs (x ∷ ys) e)

module _ (names classes : List (List ℕ)) where
  -- the words do not begin with in_state or not_in_state, so that a kin before them is none of an atom
  pub Apart : List Token → Type 0
  Apart rest = (k p : ℕ) → side_ahead names k p rest ≡ None

  -- words between which guards stand: they add these records
  pub record Adds (words : List Token → List Token) (xs : List Eight) : Type 0 where
    pub walks : (rs : List Eight) (rest : List Token) → Apart rest → walked names classes (words rest) (way 0 [] rs) ≡ walked names classes rest (way 0 [] (rs ++ xs))
    pub apart : (rest : List Token) → Apart rest → Apart (words rest)

  abbrev Nothing_more : List Eight → List Token → Type 0
  Nothing_more rs rest = walked names classes rest (way 0 [] rs) ≡ walked names classes rest (way 0 [] (rs ++ []))

  nothing_more : (rs : List Eight) (rest : List Token) → Nothing_more rs rest
  nothing_more rs rest = ap (λ (zs : List Eight). walked names classes rest (way 0 [] zs)) (sym (append-nil rs))

  adds_nothing : Adds (λ rest. rest) []
  adds_nothing = record { walks = λ rs rest a. nothing_more rs rest; apart = λ rest a. a }

  both : (f g : List Token → List Token) (xs ys : List Eight) → Adds f xs → Adds g ys → Adds (λ rest. f (g rest)) (xs ++ ys)
  both f g xs ys a b =
      record {
        walks = λ rs rest h.
            a.walks rs (g rest) (b.apart rest h) ∙ b.walks (rs ++ xs) rest h ∙ ap (λ (zs : List Eight). walked names classes rest (way 0 [] zs)) (append_assoc rs xs ys);
        apart = λ rest h. a.apart (g rest) (b.apart rest h);
      }

  -- a row of them, before others
  module _ {A : Type 0} (words : A → List Token → List Token) (records : A → List Eight) (known : A → Bool)
      (each : (x : A) → known x ≡ true → Adds (words x) (records x)) where
    rows : (xs : Row A) (ys : List A) (g : List Token → List Token) → every known (in_order xs ys) ≡ true → Adds g (gathered records ys)
        → Adds (λ rest. row_words words xs (g rest)) (gathered records (in_order xs ys))
    unfolding row_words in_order gathered every
    rows none ys g e a = a
    rows (xs then x) ys g e a =
        rows xs (x ∷ ys) (λ rest. words x (g rest)) e
        (both (words x) g (records x) (gathered records ys) (each x (and_left (known x) (every known ys) (every_behind known xs (x ∷ ys) e))) a)

  -- behind a guard its referrer closes it
  referrer_passed : (r : Referrer) (keys : List ℕ) (rs : List Eight) (rest : List Token)
      → walked names classes (referrer_words r rest) (way 0 keys rs) ≡ walked names classes rest (way 0 [] rs)
  unfolding referrer_words walked turn mark_of K.kind_of
  referrer_passed (G.move_to n) keys rs rest = refl
  referrer_passed (G.run n) keys rs rest = refl
  referrer_passed G.stay keys rs rest = refl
  referrer_passed (G.stay_in n) keys rs rest = refl

  kin_apart : (k : Kin) (rest : List Token) → Apart rest → atom_ahead names classes 2 (kin_words k rest) ≡ None
  unfolding kin_words atom_ahead Apart
  kin_apart G.children rest a = a 2 (pattern_in classes (fixed children_word))
  kin_apart (G.kin n) rest a = a 2 (pattern_in classes (name n))

  -- a do sends to its kin, which is none of an atom
  send_adds : (c : Name) (k : Kin) → Adds (λ rest. fixed do_word ∷ name c ∷ fixed all_word ∷ kin_words k rest) []
  unfolding walked turn mark_of K.kind_of side_ahead Apart
  send_adds c k =
      record {
        walks = λ rs rest a.
            ap (λ (x : Ahead). walked names classes (kin_words k rest) (with_atom x (way 0 [] rs))) (kin_apart k rest a)
            ∙ kin_passed names classes k rest (way 0 [] rs) ∙ nothing_more rs rest;
        apart = λ rest a k p. refl;
      }

  -- words that change nothing
  passes : (words : List Token → List Token) → ((rs : List Eight) (rest : List Token) → walked names classes (words rest) (way 0 [] rs) ≡ walked names classes rest (way 0 [] rs))
      → ((rest : List Token) → Apart (words rest)) → Adds words []
  passes words same a = record { walks = λ rs rest h. same rs rest ∙ nothing_more rs rest; apart = λ rest h. a rest }

module _ (l : Lists) (few : length (child_names l) ≤ 32) (fewer : length (class_names l) ≤ 8) where
  abbrev Here : (List Token → List Token) → List Eight → Type 0
  Here = Adds (child_names l) (class_names l)

  abbrev walk : List Token → Way → Way
  walk = walked (child_names l) (class_names l)

  -- a guard between its two words
  guard_here : (g : Guard) (rs : List Eight) (rest : List Token) → guard_known g l ≡ true
      → walk (guard_words g rest) (way 0 [] rs) ≡ walk rest (way 0 (guard_keys g 0 []) (rs ++ guard_records (guard_of g l)))
  unfolding run
  guard_here g rs rest k = guard_walk l few fewer g 0 [] rs rest k refl

  when_adds : (w : When) → guard_known w.guard l ≡ true → Here (when_words w) (guard_records (guard_of w.guard l))
  unfolding when_words walked turn mark_of K.kind_of side_ahead Apart
  when_adds w k =
      record {
        walks = λ rs rest a.
            guard_here w.guard rs (referrer_words w.referrer rest) k
            ∙ referrer_passed (child_names l) (class_names l) w.referrer (guard_keys w.guard 0 []) (rs ++ guard_records (guard_of w.guard l)) rest;
        apart = λ rest a k p. refl;
      }

  if_adds : (g : Guard) → guard_known g l ≡ true → Here (λ rest. fixed if_word ∷ guard_words g (fixed then_word ∷ rest)) (guard_records (guard_of g l))
  unfolding walked turn mark_of K.kind_of side_ahead Apart
  if_adds g k = record { walks = λ rs rest a. guard_here g rs (fixed then_word ∷ rest) k; apart = λ rest a k p. refl }

  -- the records of a part's ifs, as they are added
  unfoldable ifs : Part → List Eight
  ifs G.nothing = []
  ifs (G.send p c k) = ifs p ++ []
  ifs (G.go_to p s) = ifs p ++ []
  ifs (G.if_then p g q) = ifs p ++ (guard_records (guard_of g l) ++ (ifs q ++ []))
  ifs (G.if_else p g q r) = ifs p ++ (guard_records (guard_of g l) ++ (ifs q ++ ([] ++ (ifs r ++ []))))

  ifs_guards : (own : List Name) (p : Part) (more : M.Part) → part_guards (part_of l own p more) ≡ ifs p ++ part_guards more
  unfolding ifs part_of part_guards
  ifs_guards own G.nothing more = refl
  ifs_guards own (G.send p c k) more = rw (ifs_guards own p (M.◌then◌ (M.send (number_in (command_names l) c) (pattern_of l k)) more)) (simp append-nil)
  ifs_guards own (G.go_to p s) more = rw (ifs_guards own p (M.◌then◌ (M.go_to (position own s)) more)) (simp append-nil)
  ifs_guards own (G.if_then p g q) more =
      rw (ifs_guards own p (M.◌then◌ (M.branch (guard_of g l) (part_of l own q M.end) M.end) more), ifs_guards own q M.end) (simp (append-nil, append_assoc))
  ifs_guards own (G.if_else p g q r) more =
      rw (ifs_guards own p (M.◌then◌ (M.branch (guard_of g l) (part_of l own q M.end) (part_of l own r M.end)) more), ifs_guards own q M.end, ifs_guards own r M.end)
      (simp (append-nil, append_assoc))

  then_adds : (f g : List Token → List Token) (xs ys : List Eight) → Here f xs → Here g ys → Here (λ rest. f (g rest)) (xs ++ ys)
  then_adds = both (child_names l) (class_names l)

  -- one word of a part, which stands between guards; and with a name
  else_adds : Here (λ rest. fixed else_word ∷ rest) []
  unfolding walked turn mark_of K.kind_of side_ahead Apart
  else_adds = passes (child_names l) (class_names l) (λ rest. fixed else_word ∷ rest) (λ rs rest. refl) (λ rest k p. refl)

  endif_adds : Here (λ rest. fixed endif_word ∷ rest) []
  unfolding walked turn mark_of K.kind_of side_ahead Apart
  endif_adds = passes (child_names l) (class_names l) (λ rest. fixed endif_word ∷ rest) (λ rs rest. refl) (λ rest k p. refl)

  move_adds : (s : Name) → Here (λ rest. fixed move_word ∷ name s ∷ rest) []
  unfolding walked turn mark_of K.kind_of side_ahead Apart
  move_adds s = passes (child_names l) (class_names l) (λ rest. fixed move_word ∷ name s ∷ rest) (λ rs rest. refl) (λ rest k p. refl)

  action_adds : (c : Name) → Here (λ rest. fixed action_word ∷ name c ∷ rest) []
  unfolding walked turn mark_of K.kind_of side_ahead Apart
  action_adds c = passes (child_names l) (class_names l) (λ rest. fixed action_word ∷ name c ∷ rest) (λ rs rest. refl) (λ rest k p. refl)

  own_adds : (n : Name) → Here (λ rest. fixed state_word ∷ name n ∷ rest) []
  unfolding walked turn mark_of K.kind_of side_ahead Apart
  own_adds n = passes (child_names l) (class_names l) (λ rest. fixed state_word ∷ name n ∷ rest) (λ rs rest. refl) (λ rest k p. refl)

  module _ (own : List Name) where
    part_adds : (p : Part) → part_known l own p ≡ true → Here (λ rest. part_words p rest) (ifs p)
    unfolding part_words part_known ifs
    part_adds G.nothing e = adds_nothing (child_names l) (class_names l)
    part_adds (G.send p c k) e =
        then_adds (λ rest. part_words p rest) (λ rest. fixed do_word ∷ name c ∷ fixed all_word ∷ kin_words k rest) (ifs p) []
        (part_adds p (and_left (part_known l own p) (listed_in (command_names l) c && kin_known l k) e)) (send_adds (child_names l) (class_names l) c k)
    part_adds (G.go_to p s) e =
        then_adds (λ rest. part_words p rest) (λ rest. fixed move_word ∷ name s ∷ rest) (ifs p) [] (part_adds p (and_left (part_known l own p) (among own s) e)) (move_adds s)
    part_adds (G.if_then p g q) e =
        let f = and_right (part_known l own p) (guard_known g l && part_known l own q) e in
        let xs = guard_records (guard_of g l) in
        then_adds (λ rest. part_words p rest) (λ rest. fixed if_word ∷ guard_words g (fixed then_word ∷ part_words q (fixed endif_word ∷ rest))) (ifs p) (xs ++ (ifs q ++ []))
        (part_adds p (and_left (part_known l own p) (guard_known g l && part_known l own q) e))
        (then_adds (λ rest. fixed if_word ∷ guard_words g (fixed then_word ∷ rest)) (λ rest. part_words q (fixed endif_word ∷ rest)) xs (ifs q ++ [])
        (if_adds g (and_left (guard_known g l) (part_known l own q) f))
        (then_adds (λ rest. part_words q rest) (λ rest. fixed endif_word ∷ rest) (ifs q) [] (part_adds q (and_right (guard_known g l) (part_known l own q) f)) endif_adds))
    part_adds (G.if_else p g q r) e =
        let f = and_right (part_known l own p) (guard_known g l && (part_known l own q && part_known l own r)) e in
        let h = and_right (guard_known g l) (part_known l own q && part_known l own r) f in
        let xs = guard_records (guard_of g l) in
        then_adds (λ rest. part_words p rest) (λ rest. fixed if_word ∷ guard_words g (fixed then_word ∷ part_words q (fixed else_word ∷ part_words r (fixed endif_word ∷ rest))))
        (ifs p) (xs ++ (ifs q ++ (ifs r ++ [])))
        (part_adds p (and_left (part_known l own p) (guard_known g l && (part_known l own q && part_known l own r)) e))
        (then_adds (λ rest. fixed if_word ∷ guard_words g (fixed then_word ∷ rest)) (λ rest. part_words q (fixed else_word ∷ part_words r (fixed endif_word ∷ rest)))
        xs (ifs q ++ (ifs r ++ []))
        (if_adds g (and_left (guard_known g l) (part_known l own q && part_known l own r) f))
        (then_adds (λ rest. part_words q rest) (λ rest. fixed else_word ∷ part_words r (fixed endif_word ∷ rest)) (ifs q) (ifs r ++ [])
        (part_adds q (and_left (part_known l own q) (part_known l own r) h))
        (then_adds (λ rest. fixed else_word ∷ rest) (λ rest. part_words r (fixed endif_word ∷ rest)) [] (ifs r ++ []) else_adds
        (then_adds (λ rest. part_words r rest) (λ rest. fixed endif_word ∷ rest) (ifs r) [] (part_adds r (and_right (part_known l own q) (part_known l own r) h)) endif_adds))))

    action_here : (a : Action) → action_known l own a ≡ true → Here (action_words a) (action_guards (action_of l own a))
    unfolding action_words action_known action_of part_guards
    action_here a e =
        let f = and_right (listed_in (command_names l) a.command) (part_known l own a.body) e in
        subst (λ (xs : List Eight). Here (action_words a) xs) (sym (ifs_guards own a.body M.end ∙ append-nil (ifs a.body)))
        (then_adds (λ rest. fixed action_word ∷ name a.command ∷ rest) (λ rest. part_words a.body rest) [] (ifs a.body) (action_adds a.command) (part_adds a.body f))

    when_here : (actions : List Name) (w : When) → when_known l own actions w ≡ true → Here (when_words w) (when_guards (when_of l own actions w))
    unfolding when_known when_of
    when_here actions w e = when_adds w (and_left (guard_known w.guard l) (referrer_known l own actions w.referrer) e)

    -- a row, with what is told of each entry in the class
    row_adds : {A B : Type 0} (words : A → List Token → List Token) (records : B → List Eight) (told : A → B) (known : A → Bool)
        → ((x : A) → known x ≡ true → Here (words x) (records (told x))) → (xs : Row A) → every known (in_order xs []) ≡ true
        → Here (λ rest. row_words words xs rest) (gathered records (map told (in_order xs [])))
    unfolding gathered
    row_adds {A} {B} words records told known each xs e =
        subst (λ (zs : List Eight). Here (λ rest. row_words words xs rest) zs) (sym (gathered_map records told (in_order xs [])))
        (rows (child_names l) (class_names l) words (λ x. records (told x)) known each xs [] (λ rest. rest) e (adds_nothing (child_names l) (class_names l)))

    state_here : (s : State) → state_known l own s ≡ true → Here (state_words s) (state_guards (state_of l own s))
    unfolding state_words state_known state_of
    state_here s e =
        let names = action_names s in
        let ws = in_order s.whens [] in
        let as' = in_order s.actions [] in
        let xs = gathered when_guards (map (when_of l own names) ws) in
        let ys = gathered action_guards (map (action_of l own) as') in
        let f = and_right (every (when_known l own names) ws) (every (action_known l own) as' && none_twice names) e in
        then_adds (λ rest. fixed state_word ∷ name s.own ∷ rest) (λ rest. row_words when_words s.whens (row_words action_words s.actions rest)) [] (xs ++ ys)
        (own_adds s.own)
        (then_adds (λ rest. row_words when_words s.whens rest) (λ rest. row_words action_words s.actions rest) xs ys
        (row_adds when_words when_guards (when_of l own names) (when_known l own names) (when_here names) s.whens
        (and_left (every (when_known l own names) ws) (every (action_known l own) as' && none_twice names) e))
        (row_adds action_words action_guards (action_of l own) (action_known l own) action_here s.actions
        (and_left (every (action_known l own) as') (none_twice names) f)))

  -- the whole text
  pub text_walk : (t : Text) → text_known l t ≡ true → in_prefix_order (child_names l) (class_names l) (text_words t) ≡ all_guards (class_in l t)
  unfolding text_known class_in all_states in_prefix_order text_words walked turn mark_of K.kind_of side_ahead Apart in_order every gathered
  text_walk t e =
      let own = own_names t in
      let N = child_names l in
      let C = class_names l in
      let known = and_left (every (state_known l own) (all_states t)) (none_twice own) e in
      let records : State → List Eight = λ s. state_guards (state_of l own s) in
      let last_known = and_left (state_known l own t.last) true (every_behind (state_known l own) t.earlier (t.last ∷ []) known) in
      let all = rows N C state_words records (state_known l own) (state_here own) t.earlier (t.last ∷ []) (λ rest. state_words t.last rest) known
      (both N C (λ rest. state_words t.last rest) (λ rest. rest) (records t.last) [] (state_here own t.last last_known) (adds_nothing N C)) in
      ap (λ (w : Way). w.records) (all.walks [] (fixed end_word ∷ []) (λ k p. refl))
      ∙ sym (gathered_map state_guards (state_of l own) (all_states t))
