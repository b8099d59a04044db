-- Guards see occupancy only: two lists with the same occupied names in every class make the same moves, those of a DO too. What is sent may
-- differ.
-- Assumes nothing.
use Prim.Native.Nat.{ℕ, ◌+◌}
use mathlib.Core.Path.{◌≡◌, refl, sym, ◌∙◌, ap, ap₂, subst, fun_ext}
use mathlib.Core.Bool.{Bool, true, ◌&&◌, ◌||◌, not}
use mathlib.Core.List.{List, [], ◌∷◌, Memᴰ}
use lib.Dec.{eqb}
use borrow.Author.Tests.{eqb-true, eq-eqb}
use Rattle.model.specs.Words.{has, each, every, some_in}
use Rattle.model.specs.Tree.{Child, Pattern, Kind, any_in, any_not_in, all_in, all_not_in, Guard, atom, both, either, opposite, move_to, run, stay, When, Statement, send, go_to, branch, Part, end, ◌then◌, Class}
use Rattle.model.specs.Guards.{concerns, any_of, all_of, named_in, atom_holds, holds}
use Rattle.model.specs.Running.{run_one, goes_one, goes}
use Rattle.model.specs.Node.{state_of, Probed, nothing, found, first_true, probe, action_of, next}
use Rattle.model.specs.Crews.{child_classes, belongs, occurs, all_occur, fits, occupied, Same}
use Rattle.model.proofs.Words.{both_ways, and_left, and_right, and_both}
use Rattle.model.proofs.RunLaws.{goes_end, goes_then, goes_branch}
use Rattle.model.proofs.NodeLaws.{led, next_by}
use Rattle.model.proofs.Lists.{every_elim, every_intro, some_in_elim, some_in_intro}

-- the name of a child of the list is occupied in its class
pub mem_occupied : (ks : List Child) (k : Child) → Memᴰ k ks → occupied ks k.class k.name ≡ true
unfolding occupied
mem_occupied ks k m =
    some_in_intro (λ j. eqb j.class k.class && eqb j.name k.name) ks k m
    (and_both (eqb k.class k.class) (eqb k.name k.name) (eq-eqb k.class k.class refl) (eq-eqb k.name k.name refl))

-- an occupied name is that of a child of the list
pub occupied_mem : (ks : List Child) (i n : ℕ) → occupied ks i n ≡ true → Memᴰ (record { class = i; name = n }) ks
unfolding occupied
occupied_mem ks i n h =
    let (k, m, t) = some_in_elim (λ j. eqb j.class i && eqb j.name n) ks h in
    let p = eqb-true k.class i (and_left (eqb k.class i) (eqb k.name n) t) in
    let r = eqb-true k.name n (and_right (eqb k.class i) (eqb k.name n) t) in
    let e : k ≡ record { class = i; name = n } = λ d. record { class = p d; name = r d } in
    subst (λ x. Memᴰ x ks) e m

-- every child of the first list is in the second
abbrev pub Covered : List Child → List Child → Type 0
Covered ks ls = (k : Child) → Memᴰ k ks → Memᴰ k ls

-- lists with the same occupied names have the same children
pub same_covered : (ks ls : List Child) → Same ks ls → Covered ks ls
same_covered ks ls s k m = occupied_mem ls k.class k.name (sym (s k.class k.name) ∙ mem_occupied ks k m)

-- having the same occupied names is mutual
pub same_sym : (ks ls : List Child) → Same ks ls → Same ls ks
same_sym ks ls s i n = sym (s i n)

-- lists with the same children have the same occupied names
pub covered_same : (ks ls : List Child) → Covered ks ls → Covered ls ks → Same ks ls
covered_same ks ls f g i n =
    both_ways (occupied ks i n) (occupied ls i n)
    (λ h. mem_occupied ls (record { class = i; name = n }) (f (record { class = i; name = n }) (occupied_mem ks i n h)))
    (λ h. mem_occupied ks (record { class = i; name = n }) (g (record { class = i; name = n }) (occupied_mem ls i n h)))

module _ (ks ls : List Child) (s : Same ks ls) where
  -- whether some child passes a test is a matter of occupancy
  pub some_same : (f : Child → Bool) → some_in f ks ≡ some_in f ls
  some_same f = both_ways (some_in f ks) (some_in f ls) (across ks ls (same_covered ks ls s)) (across ls ks (same_covered ls ks (same_sym ks ls s)))
    where
      across : (xs ys : List Child) → Covered xs ys → some_in f xs ≡ true → some_in f ys ≡ true
      across xs ys c h = let (k, m, t) = some_in_elim f xs h in some_in_intro f ys k (c k m) t

  -- and whether every child passes it
  pub every_same : (f : Child → Bool) → every f ks ≡ every f ls
  every_same f = both_ways (every f ks) (every f ls) (across ks ls (same_covered ls ks (same_sym ks ls s))) (across ls ks (same_covered ks ls s))
    where
      across : (xs ys : List Child) → Covered ys xs → every f xs ≡ true → every f ys ≡ true
      across xs ys c h = every_intro f ys (λ k m. every_elim f xs h k (c k m))

  -- which classes occur
  pub occurs_same : (i : ℕ) → occurs i ks ≡ occurs i ls
  unfolding occurs
  occurs_same i = some_same (λ k. eqb k.class i)

  -- whether each present class occurs
  pub all_occur_same : (c : Class) (present : ℕ) → all_occur c present ks ≡ all_occur c present ls
  unfolding all_occur
  all_occur_same c present = ap (each (child_classes c)) (fun_ext (λ i. ap (λ (b : Bool). not (has present i) || b) (occurs_same i)))

  -- whether the list fits
  pub fits_same : (c : Class) (present : ℕ) → fits c present ks ≡ fits c present ls
  unfolding fits
  fits_same c present = ap₂ ◌&&◌ (every_same (belongs c present)) (all_occur_same c present)

-- an atom sees occupancy only
atom_same : (kind : Kind) (p : Pattern) (set : ℕ) (ks ls : List Child) → Same ks ls → atom_holds kind p set ks ≡ atom_holds kind p set ls
unfolding atom_holds any_of all_of
atom_same any_in p set ks ls s = some_same ks ls s (λ k. concerns p k && named_in set k)
atom_same any_not_in p set ks ls s = some_same ks ls s (λ k. concerns p k && not (named_in set k))
atom_same all_in p set ks ls s = every_same ks ls s (λ k. not (concerns p k) || named_in set k)
atom_same all_not_in p set ks ls s = every_same ks ls s (λ k. not (concerns p k) || not (named_in set k))

-- a guard sees occupancy only
pub holds_same : (g : Guard) (ks ls : List Child) → Same ks ls → holds g ks ≡ holds g ls
unfolding holds
holds_same (atom kind p set) ks ls s = atom_same kind p set ks ls s
holds_same (both g h) ks ls s = ap₂ ◌&&◌ (holds_same g ks ls s) (holds_same h ks ls s)
holds_same (either g h) ks ls s = ap₂ ◌||◌ (holds_same g ks ls s) (holds_same h ks ls s)
holds_same (opposite g) ks ls s = ap not (holds_same g ks ls s)

-- where a do and a move_to go is no matter of the children
send_same : (m : ℕ) (p : Pattern) (ks ls : List Child) → goes_one (send m p) ks ≡ goes_one (send m p) ls
unfolding goes_one run_one
send_same m p ks ls = refl

go_to_same : (t : ℕ) (ks ls : List Child) → goes_one (go_to t) ks ≡ goes_one (go_to t) ls
unfolding goes_one run_one
go_to_same t ks ls = refl

-- hence where a part goes
mutual
  goes_one_same : (ks ls : List Child) → Same ks ls → (s : Statement) → goes_one s ks ≡ goes_one s ls
  goes_one_same ks ls h (send m p) = send_same m p ks ls
  goes_one_same ks ls h (go_to t) = go_to_same t ks ls
  goes_one_same ks ls h (branch g a b) =
      goes_branch g a b ks ∙ rw (holds_same g ks ls h, goes_same ks ls h a, goes_same ks ls h b) (sym (goes_branch g a b ls))

  pub goes_same : (ks ls : List Child) → Same ks ls → (p : Part) → goes p ks ≡ goes p ls
  goes_same ks ls h end = goes_end ks ∙ sym (goes_end ls)
  goes_same ks ls h (s then p) = goes_then s p ks ∙ rw (goes_one_same ks ls h s, goes_same ks ls h p) (sym (goes_then s p ls))

module _ (ks ls : List Child) (s : Same ks ls) where
  -- hence the first true clause
  first_true_same : (i : ℕ) (ws : List When) → first_true ks i ws ≡ first_true ls i ws
  unfolding first_true
  first_true_same i [] = refl
  first_true_same i (w ∷ ws) = rw (holds_same w.guard ks ls s, first_true_same (i + 1) ws)

  module _ (c : Class) where
    -- hence the probe
    pub probe_same : (q : ℕ) → probe c ks q ≡ probe c ls q
    unfolding probe
    probe_same q = first_true_same 0 (state_of c q).whens

    -- hence where it leads, and the same moves, as functions; what a DO sends goes by the list itself
    led_same : (q : ℕ) (p : Probed) → led c ks q p ≡ led c ls q p
    led_same q nothing = refl
    led_same q (found i (move_to t)) = refl
    led_same q (found i (run a)) = goes_same ks ls s (action_of c q a).body
    led_same q (found i stay) = refl

    pub next_same : next c ks ≡ next c ls
    next_same = fun_ext (λ q. next_by c ks q ∙ led_same q (probe c ks q) ∙ ap (led c ls q) (probe_same q) ∙ sym (next_by c ls q))
