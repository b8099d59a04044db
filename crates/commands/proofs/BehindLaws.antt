-- Laws about a command with the when phase behind it: the command is counted, the phase is asked on the buffer behind as many bytes, and then
-- the command is written in front.
-- Assumes nothing.
use Prim.Native.Nat.{ℕ, ◌-◌, ◌<◌, ◌≤◌}
use native.Mathlib.Omega.{arith}
use mathlib.Core.Path.{◌≡◌, sym, ◌∙◌, ap, subst}
use mathlib.Core.List.{List, [], ◌++◌, append-nil}
use lib.ListN.{length, take, drop, length-take, length-drop, length-append, take-append-drop, drop_of_length-le}
use lib.Seq.{drop-append_seam}
use Rattle.std.specs.Prelude.{Ok, Err}
use Rattle.model.specs.Answers.{PhaseAnswer}
use Rattle.model.specs.Node as Tree
use Rattle.model.specs.Commands.{Commanded, command, left_by, command_then_phase}
use Rattle.model.specs.declared.Refusal.{Refusal}
use Rattle.model.specs.declared.Refusal.TheVariants.{Room}
use Rattle.model.specs.declared.Handling.{Handling}
use Rattle.model.specs.declared.Phase.{Phase}
use Rattle.sheet.specs.Reading.{class_of}
use Rattle.children.specs.ChildList.{children_of}
use Rattle.running.proofs.SendLaws.{sets_all}
use Rattle.phases.specs.Phases.{Phases}
use Rattle.phases.proofs.PhasingLaws.{PhasedSo, refused_so}
use Rattle.commands.specs.Handling.{bytes_of_handling}
use Rattle.commands.specs.Commands.{left_in, own_in, RunsCommand}
use Rattle.commands.proofs.HandlingLaws.{own_told, left_told, CommandedSo, short_so, refused_behind, given_behind}

-- a buffer from place n on, lent, and given back with other bytes in it
abbrev pub from_on : ℕ → List ℕ → List ℕ
from_on n l = take (length l - n) (drop n l)

abbrev pub back_in : ℕ → List ℕ → List ℕ → List ℕ
back_in n l last = take n l ++ (last ++ drop (length l - n) (drop n l))

none_left : (n : ℕ) (l : List ℕ) → drop (length l - n) (drop n l) ≡ []
none_left n l = let h : length (drop n l) ≤ length l - n = omega (arith, length-drop n l) in drop_of_length-le (drop n l) h

from_all : (n : ℕ) (l : List ℕ) → from_on n l ≡ drop n l
from_all n l = sym (append-nil (from_on n l)) ∙ ap (λ (x : List ℕ). from_on n l ++ x) (sym (none_left n l)) ∙ take-append-drop (length l - n) (drop n l)

back_all : (n : ℕ) (l last : List ℕ) → back_in n l last ≡ take n l ++ last
back_all n l last = ap (λ (x : List ℕ). take n l ++ x) (ap (λ (x : List ℕ). last ++ x) (none_left n l) ∙ append-nil last)

back_behind : (n : ℕ) (l last : List ℕ) → n ≤ length l → drop n (back_in n l last) ≡ last
back_behind n l last h =
    let k : length (take n l) ≡ n = omega (arith, length-take n l) in
    ap (drop n) (back_all n l last) ∙ ap (λ (j : ℕ). drop j (take n l ++ last)) (sym k) ∙ drop-append_seam (take n l) last

module _ (b list : List ℕ) (q m : ℕ) (e e' : List ℕ) (counted : Handling) (C : RunsCommand b list q m e e' counted) (out out' : List ℕ) (same : out' ≡ out) (n : ℕ) (en : n ≡ own_in counted) where
  abbrev all : Commanded
  all = command_then_phase (class_of b) (children_of list) q m

  own_count : n ≡ length (bytes_of_handling all.handling)
  unfolding command_then_phase
  own_count = en ∙ own_told (command (class_of b) (children_of list) q m) counted C.values_are

  pub short_told : length out' < n → CommandedSo all out out' (Err Room)
  short_told l = short_so all out out' (omega (arith, own_count, ap length same)) same

  -- the phase that was asked on the buffer behind the command's own bytes
  module _ (s : ℕ) (es : s ≡ (left_in counted).0) (fits : n ≤ length out') (rest last : List ℕ) (is_rest : rest ≡ from_on n out') (answer : PhaseAnswer) (P : Phases b list s rest last answer) where
    asked_behind : {a : PhaseAnswer} → answer ≡ a → PhasedSo all.phase rest last a
    unfolding command_then_phase
    asked_behind {a} f =
        let z : s ≡ left_by (command (class_of b) (children_of list) q m) = es ∙ left_told (command (class_of b) (children_of list) q m) counted C.values_are in
        subst (λ (t : ℕ). PhasedSo (Tree.phase (class_of b) (children_of list) t) rest last a) z (subst (Phases b list s rest last) f P)

    room : length (bytes_of_handling all.handling) ≤ length out
    room = omega (arith, own_count, ap length same)

    rest_is : rest ≡ drop (length (bytes_of_handling all.handling)) out
    rest_is = is_rest ∙ from_all n out' ∙ ap (drop n) same ∙ ap (λ (k : ℕ). drop k out) own_count

    pub refused_told : (x : Refusal) → answer ≡ Err x → CommandedSo all out (back_in n out' last) (Err x)
    refused_told x f =
        let (w, l, k) = refused_so all.phase rest last x (asked_behind f) in
        let z : back_in n out' last ≡ out = back_all n out' last ∙ ap (λ (y : List ℕ). take n out' ++ y) (k ∙ is_rest ∙ from_all n out') ∙ take-append-drop n out' ∙ same in
        refused_behind all out rest last room rest_is x (back_in n out' last) (asked_behind f) z

    pub given_told : (p : Phase) → answer ≡ Ok p → (front end : List ℕ) (h : Handling) → front ≡ take n (back_in n out' last) → RunsCommand b list q m front end h
        → CommandedSo all out (end ++ drop n (back_in n out' last)) (Ok (h, p))
    unfolding command_then_phase
    given_told p f front end h is_front R =
        let bytes = bytes_of_handling (command (class_of b) (children_of list) q m) in
        let k : length (take n out') ≡ n = omega (arith, length-take n out') in
        let w : end ≡ bytes = R.written ∙ sets_all front bytes (omega (arith, own_count, ap length is_front, length-take n (back_in n out' last), ap length (back_all n out' last), length-append (take n out') last)) in
        given_behind all out rest last room rest_is h p (end ++ drop n (back_in n out' last)) R.values_are (asked_behind f)
        (ap (λ (x : List ℕ). end ++ x) (back_behind n out' last fits) ∙ ap (λ (x : List ℕ). x ++ last) w)
