-- What the loop question's reply writes: a pair for each set bit of a loop's configuration, at most twenty.
-- Assumes nothing.
use Prim.Native.Nat.{ℕ, ◌*◌, ◌^◌, ◌≤◌}
use native.Mathlib.Omega.{arith}
use mathlib.Core.Path.{◌≡◌, refl, ◌∙◌, ap}
use mathlib.Core.Bool.{Bool, true, false}
use mathlib.Core.List.{List, []}
use mathlib.Core.Option.{Option, none, some}
use lib.Count.{ones}
use lib.Dec.{eqb, leb}
use lib.ListN.{length, take, drop}
use lib.Seq.{take_at}
use borrow.Author.Tests.{leb-true}
use Rattle.std.specs.Prelude.{Ok, Err}
use Rattle.model.specs.Words.{maybe, least, greatest}
use Rattle.model.specs.Tree.{Class}
use Rattle.model.specs.Replies.{Reply, refuse, give, check, numbers, buffer_after}
use Rattle.model.specs.Answers.{loop_numbers, LoopAnswer}
use Rattle.model.specs.declared.Loops.TheVariants.{Loop, Free}
use Rattle.model.proofs.Words.{clash, least_some}
use Rattle.sheet.specs.Rules.{refusal}
use Rattle.sheet.specs.Reading.{class_of}
use Rattle.sheet.specs.Asked.{on_sheet}
use Rattle.children.proofs.ChildListLaws.{pairs_length}
use Rattle.configurations.specs.Configurations.{cells, name_count, chosen, list_of}
use Rattle.configurations.proofs.Configurations.{chosen_length, chosen_most}
use Rattle.configurations.specs.LoopAnswer.{Loops, loop, free, has_loop, longest_in, loop_in, loop_answer}
use Rattle.loops.specs.LoopQuestion.{present_right, bytes_of_loops, reply_loop, loops_values}
use Rattle.loopcheck.specs.Line.{all_present, loop_reply, bytes_of, children_in}

-- the bytes are n pairs, at most twenty
pub record Paired (bytes : List ℕ) (n : ℕ) : Type 0 where
  pub size : length bytes ≡ 2 * n
  pub few : n ≤ 20

-- the set bits of an answer's configuration
abbrev set_bits : Loops → ℕ
set_bits (free m) = 0
set_bits (loop k q ks) = ones k

answer_paired : (c : Class) (present : ℕ) → name_count c present ≤ 20 → Paired (bytes_of_loops (loop_answer c present)) (set_bits (loop_answer c present))
unfolding loop_answer bytes_of_loops list_of
answer_paired c present few = go (least (2 ^ N) (has_loop c present)) refl
  where
    N : ℕ
    N = name_count c present

    made : Option ℕ → Loops
    made o = maybe o (λ _. free (greatest (2 ^ N) (longest_in c present))) (loop_in c present)

    go : (o : Option ℕ) → least (2 ^ N) (has_loop c present) ≡ o → Paired (bytes_of_loops (made o)) (set_bits (made o))
    go none e = record { size = refl; few = omega arith }
    go (some k) e =
        let n = chosen_length (cells c present) k (least_some (2 ^ N) (has_loop c present) k e).0 in
        record { size = omega (arith, pairs_length (chosen (cells c present) k)); few = omega (arith, chosen_most (cells c present) k) }

-- so it is in every reply
abbrev PairedReply : Reply Loops → Type 0
PairedReply (refuse n) = Unit {0}
PairedReply (give a bytes) = Paired bytes (set_bits a)

checked : (ok : Bool) (n : ℕ) (rest : Unit {0} → Reply Loops) → (ok ≡ true → PairedReply (rest tt)) → PairedReply (check ok n rest)
checked true n rest h = h refl
checked false n rest h = tt

reply_paired : (b out : List ℕ) → PairedReply (loop_reply b out)
unfolding loop_reply on_sheet reply_loop
reply_paired b out =
    let c : Class = class_of b in
    let N : ℕ = name_count c (all_present c) in
    let a : Loops = loop_answer c (all_present c) in
    let last : Unit {0} → Reply Loops = λ _. give a (bytes_of_loops a) in
    let room : Unit {0} → Reply Loops = λ _. check (leb (2 * N) (length out)) 15 last in
    let names : Unit {0} → Reply Loops = λ _. check (leb N 20) 14 room in
    checked (eqb (refusal b) 0) (refusal b) (λ _. check (present_right c (all_present c)) 13 names) λ _.
    checked (present_right c (all_present c)) 13 names λ _.
    checked (leb N 20) 14 room λ few.
    checked (leb (2 * N) (length out)) 15 last λ _. answer_paired c (all_present c) (leb-true N 20 few)

-- the code counts the set bits of the answer that has the reply's numbers
told_paired : (a : LoopAnswer) (r : Reply Loops) → loop_numbers a ≡ numbers loops_values r → PairedReply r → Paired (bytes_of r) (children_in a)
told_paired (Err x) (refuse n) e p = record { size = refl; few = omega arith }
told_paired (Err x) (give (free m) bytes) e p = absurd (clash (cc))
told_paired (Err x) (give (loop j s ks) bytes) e p = absurd (clash (cc))
told_paired (Ok (Free i)) (refuse n) e p = absurd (clash (cc))
told_paired (Ok (Free i)) (give (free m) bytes) e p = p
told_paired (Ok (Free i)) (give (loop j s ks) bytes) e p = absurd (clash (cc))
told_paired (Ok (Loop k q)) (refuse n) e p = absurd (clash (cc))
told_paired (Ok (Loop k q)) (give (free m) bytes) e p = absurd (clash (cc))
told_paired (Ok (Loop k q)) (give (loop j s ks) bytes) e p = let z : k ≡ j = cc in rw z p

pub paired : (b out : List ℕ) (a : LoopAnswer) → loop_numbers a ≡ numbers loops_values (loop_reply b out) → Paired (bytes_of (loop_reply b out)) (children_in a)
paired b out a e = told_paired a (loop_reply b out) e (reply_paired b out)

-- the pairs that a reply wrote are at the head of the buffer
pub read_back : (r : Reply Loops) (n : ℕ) → Paired (bytes_of r) n → (out after : List ℕ) → after ≡ buffer_after r out → take (2 * n) after ≡ bytes_of r
read_back (refuse m) n p out after e = ap (take (2 * n)) e ∙ take_at [] out (2 * n) p.size
read_back (give a bytes) n p out after e = ap (take (2 * n)) e ∙ take_at bytes (drop (length bytes) out) (2 * n) p.size
