-- The table of refusals against the rules: a reply's refusal is the first check that is not passed.
-- Assumes nothing.
use Prim.Native.Nat.{ℕ, ◌*◌}
use native.Mathlib.Omega.{arith}
use mathlib.Core.Path.{◌≡◌, refl, sym, ◌∙◌, ap}
use mathlib.Core.Bool.{Bool, true, false}
use mathlib.Core.List.{List, [], ◌∷◌, ◌++◌}
use lib.Dec.{eqb, leb, ltb}
use lib.ListN.{length}
use borrow.Author.Tests.{ne_eqb, ltb-true}
use Rattle.model.specs.Words.{choose, every}
use Rattle.model.specs.Tree.{Class}
use Rattle.model.specs.Node.{own_states, Phase, phase, sent_of}
use Rattle.model.specs.Commands.{Commanded, command_then_phase, sent_in_all}
use Rattle.model.proofs.Words.{and_left, and_right}
use Rattle.model.specs.Replies.{Reply, refuse, give, check, told_as}
use Rattle.sheet.specs.Rules.{refusal, refusal_in}
use Rattle.sheet.specs.Asked.{on_sheet}
use Rattle.sheet.specs.Reading.{class_of}
use Rattle.children.specs.ChildList.{children_of, list_right}
use Rattle.children.proofs.ChildListLaws.{three_each}
use Rattle.configurations.specs.Configurations.{name_count}
use Rattle.configurations.specs.LoopAnswer.{Loops, loop_answer}
use Rattle.commands.specs.Handling.{bytes_of_commanded, reply_commanded}
use Rattle.phases.specs.Phasing.{bytes_of_phase, reply_phase}
use Rattle.loops.specs.LoopQuestion.{present_right, bytes_of_loops, reply_loop}
use Rattle.writings.specs.Layout.{Named, class_text}
use Rattle.writings.specs.Missing.{names_right}
use Rattle.writings.specs.Writings.{guards_few, reply_text}
use Rattle.bargewicker.specs.Questions.{Question, judge, probe_in, phase_from, command_in, loop_with, text_of, phased, commanded, looped, wrote, placed, reply, reply_command}
use Rattle.bargewicker.specs.Table.{Check, rule, first_failed, body_checks, sheet_checks, place_checks, phase_checks, command_checks, loop_checks, text_checks, table}

-- the number of a refusal, 0 of an answer
abbrev pub refused_number : {A : Type 0} → Reply A → ℕ
refused_number (refuse n) = n
refused_number (give a bytes) = 0

-- an answer told in another type is refused as it was
told_failed : {A B : Type 0} (f : A → B) (r : Reply A) → refused_number (told_as f r) ≡ refused_number r
told_failed f (refuse n) = refl
told_failed f (give a bytes) = refl

-- a check has a number
abbrev numbered : Check → Bool
numbered c = ltb 0 c.number

-- checks, and others behind them
first_of_both : (cs ds : List Check) → every numbered cs ≡ true
    → first_failed (cs ++ ds) ≡ choose (eqb (first_failed cs) 0) (λ _. first_failed ds) (λ _. first_failed cs)
unfolding first_failed every
first_of_both [] ds h = refl
first_of_both (c ∷ cs) ds h = go c.passed (first_of_both cs ds (and_right (numbered c) (every numbered cs) h))
  where
    go : (t : Bool) → first_failed (cs ++ ds) ≡ choose (eqb (first_failed cs) 0) (λ _. first_failed ds) (λ _. first_failed cs)
        → choose t (λ _. first_failed (cs ++ ds)) (λ _. c.number)
        ≡ choose (eqb (choose t (λ _. first_failed cs) (λ _. c.number)) 0) (λ _. first_failed ds) (λ _. choose t (λ _. first_failed cs) (λ _. c.number))
    go true e = e
    go false e =
        let n = ltb-true 0 c.number (and_left (numbered c) (every numbered cs) h) in
        rw (ne_eqb c.number 0 (λ z. let w : c.number ≡ 0 = z in omega arith))

-- the sheet's refusal is the first of its checks that is not passed
pub sheet_failed : (b : List ℕ) → refusal b ≡ first_failed (sheet_checks b)
unfolding refusal refusal_in sheet_checks body_checks first_failed
sheet_failed b = refl

sheet_numbered : (b : List ℕ) → every numbered (sheet_checks b) ≡ true
unfolding sheet_checks body_checks every
sheet_numbered b = refl

-- a sheet's checks, then those of what is asked of it
asked_failed : {A : Type 0} (b : List ℕ) (rest : Class → Reply A) (more : List Check) → refused_number (rest (class_of b)) ≡ first_failed more
    → refused_number (on_sheet b rest) ≡ first_failed (sheet_checks b ++ more)
unfolding on_sheet
asked_failed b rest more h =
    go (eqb (refusal b) 0) ∙ ap (λ (n : ℕ). choose (eqb n 0) (λ _. first_failed more) (λ _. n)) (sheet_failed b) ∙ sym (first_of_both (sheet_checks b) more (sheet_numbered b))
  where
    go : (t : Bool) → refused_number (check t (refusal b) (λ _. rest (class_of b))) ≡ choose t (λ _. first_failed more) (λ _. refusal b)
    go true = h
    go false = refl

placed_failed : {A : Type 0} (b l : List ℕ) (q : ℕ) (rest : Class → Reply A) (more : List Check) → refused_number (rest (class_of b)) ≡ first_failed more
    → refused_number (placed b l q rest) ≡ first_failed (sheet_checks b ++ (place_checks (class_of b) l q ++ more))
unfolding placed place_checks first_failed
placed_failed b l q rest more h = asked_failed b _ _ (go (list_right (class_of b) l) (ltb q (own_states (class_of b))))
  where
    go : (t u : Bool) → refused_number (check t 10 (λ _. check u 11 (λ _. rest (class_of b)))) ≡ first_failed (rule 10 t ∷ rule 11 u ∷ more)
    go true true = h
    go true false = refl
    go false u = refl

-- a settled phase needs three bytes for each command sent, one that loops none
phase_failed : (p : Phase) (out : List ℕ) → refused_number (reply_phase p out) ≡ first_failed (rule 15 (leb (3 * length (sent_of p)) (length out)) ∷ [])
unfolding reply_phase bytes_of_phase first_failed
phase_failed p out = go (leb (length (bytes_of_phase p)) (length out)) ∙ ap (λ (n : ℕ). first_failed (rule 15 (leb n (length out)) ∷ [])) (three_each (sent_of p))
  where
    go : (t : Bool) → refused_number (check t 15 (λ _. give p (bytes_of_phase p))) ≡ first_failed (rule 15 t ∷ [])
    go true = refl
    go false = refl

-- a command and the phase behind it need three bytes for each command sent
command_failed : (c : Class) (l : List ℕ) (q m : ℕ) (out : List ℕ) → refused_number (reply_command c l q m out) ≡ first_failed (command_checks c l q m out)
unfolding reply_command reply_commanded bytes_of_commanded command_checks first_failed
command_failed c l q m out =
    let r : Commanded = command_then_phase c (children_of l) q m in
    go (leb m 63) (leb (length (bytes_of_commanded r)) (length out)) r (bytes_of_commanded r)
    ∙ ap (λ (n : ℕ). first_failed (rule 12 (leb m 63) ∷ rule 15 (leb n (length out)) ∷ [])) (three_each (sent_in_all r))
  where
    go : (t u : Bool) (a : Commanded) (bytes : List ℕ) → refused_number (check t 12 (λ _. check u 15 (λ _. give a bytes))) ≡ first_failed (rule 12 t ∷ rule 15 u ∷ [])
    go true true a bytes = refl
    go true false a bytes = refl
    go false u a bytes = refl

loop_failed : (c : Class) (present : ℕ) (out : List ℕ) → refused_number (reply_loop c present out) ≡ first_failed (loop_checks c present out)
unfolding reply_loop loop_checks first_failed
loop_failed c present out =
    go (present_right c present) (leb (name_count c present) 20) (leb (2 * name_count c present) (length out)) (loop_answer c present) (bytes_of_loops (loop_answer c present))
  where
    go : (t u v : Bool) (a : Loops) (bytes : List ℕ) → refused_number (check t 13 (λ _. check u 14 (λ _. check v 15 (λ _. give a bytes))))
        ≡ first_failed (rule 13 t ∷ rule 14 u ∷ rule 15 v ∷ [])
    go true true true a bytes = refl
    go true true false a bytes = refl
    go true false v a bytes = refl
    go false u v a bytes = refl

-- 17, 19 and 15
text_failed : (n : Named) (c : Class) (out : List ℕ) → refused_number (reply_text n c out) ≡ first_failed (text_checks n c out)
unfolding reply_text text_checks first_failed
text_failed n c out = go (names_right n c) (guards_few c) (leb (length (class_text n c)) (length out)) (length (class_text n c)) (class_text n c)
  where
    go : (t u v : Bool) (a : ℕ) (bytes : List ℕ) → refused_number (check t 17 (λ _. check u 19 (λ _. check v 15 (λ _. give a bytes))))
        ≡ first_failed (rule 17 t ∷ rule 19 u ∷ rule 15 v ∷ [])
    go true true true a bytes = refl
    go true true false a bytes = refl
    go true false v a bytes = refl
    go false u v a bytes = refl

-- whatever is asked
pub failed : (q : Question) → refused_number (reply q) ≡ first_failed (table q)
unfolding reply table sheet_checks body_checks place_checks phase_checks first_failed
failed (judge b) = asked_failed b _ [] refl
failed (probe_in b l q) = placed_failed b l q _ [] refl
failed (phase_from b l q out) =
    let p : Phase = phase (class_of b) (children_of l) q in
    placed_failed b l q _ (phase_checks (class_of b) l q out) (told_failed phased (reply_phase p out) ∙ phase_failed p out)
failed (command_in b l q m out) = placed_failed b l q _ (command_checks (class_of b) l q m out) (told_failed commanded (reply_command (class_of b) l q m out) ∙ command_failed (class_of b) l q m out)
failed (loop_with b present out) = asked_failed b _ (loop_checks (class_of b) present out) (told_failed looped (reply_loop (class_of b) present out) ∙ loop_failed (class_of b) present out)
failed (text_of b n out) = asked_failed b _ (text_checks n (class_of b) out) (told_failed wrote (reply_text n (class_of b) out) ∙ text_failed n (class_of b) out)
