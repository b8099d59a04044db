-- From what the heads, the judge and the writing come to, to what is printed.
-- Assumes nothing.
use Prim.Native.Nat.{ℕ, ◌+◌, ◌-◌, ◌<◌, ◌≤◌}
use native.Mathlib.Omega.{arith}
use mathlib.Core.Path.{◌≡◌, refl, sym, ◌∙◌, ap, subst}
use mathlib.Core.Bool.{Bool, true, false}
use mathlib.Core.List.{List, [], ◌∷◌, ◌++◌}
use lib.Dec.{eqb, leb}
use lib.ListN.{length, take, drop, replicate, length-append, length-take, length-drop}
use lib.Seq.{take-append_seam, take-take}
use borrow.Author.Tests.{leb-true, eqb-true, lt-ltb, le-ltb}
use Rattle.std.specs.Prelude.{Ok, Err}
use Rattle.model.specs.Tree.{Class}
use Rattle.model.specs.Refusals.{number_of}
use Rattle.model.specs.Answers.{write_numbers, WriteAnswer}
use Rattle.model.specs.Replies.{Reply, refuse, give, check, in_room, Answered}
use Rattle.model.specs.declared.Refusal.{Refusal}
use Rattle.model.proofs.ReplyLaws.{answered}
use Rattle.model.proofs.Words.{and_left}
use Rattle.grammar.proofs.Machine.{clash}
use Rattle.sheet.specs.Rules.{refusal, Accepted}
use Rattle.sheet.specs.Reading.{class_of}
use Rattle.sheet.specs.Verdict.{Verdict, verdict_numbers, verdict}
use Rattle.sheet.specs.Asked.{on_sheet}
use Rattle.sheet.proofs.AskedLaws.{asked, refused_too}
use Rattle.writings.specs.Layout.{Named, class_text}
use Rattle.writings.specs.Missing.{names_right}
use Rattle.writings.specs.Writings.{named, guards_few, reply_text, text_values}
use Rattle.classfile.specs.Fields.{Next}
use Rattle.classfile.specs.declared.fields.Kind.{Kind}
use Rattle.classfile.specs.declared.fields.Kind.TheVariants.{FileEnd}
use Rattle.classfile.specs.Heads as H
use Rattle.classfile.specs.Heads.{stretch, head_of}
use Rattle.classfile.specs.Reads.{Answer, head_answer, bad_line, Fits, HeadRead, rooms, shown}
use Rattle.classfile.specs.declared.parts.Fault.{Fault}
use Rattle.classfile.specs.declared.heads.Used.{Used}
use Rattle.classfile.proofs.GivenLaws.{head_read, head_wrong, full_room}
use Rattle.classfile.proofs.PartLaws.{counted}
use Rattle.saying.specs.declared.Why.{Why}
use Rattle.writeclass.specs.Made.{Outcome, made, text_reply, Replied, headed, one_class, text_file, second_file, opened, first_file, class_file, Inside, Prints}
use Rattle.writeclass.specs.declared.converting.ClassFile.{ClassFile}

-- a field that is not the end of the file moves on
pub moved : (file : List ℕ) (at : ℕ) (kind : Kind) (start end : ℕ) → Next file at kind start end → (kind ≡ FileEnd → ⊥) → length file - end < length file - at
moved file at kind start end n x = omega (arith, n.onward, n.moves x, n.inside)

-- a head of so many bytes, from a place of the file on, ends inside it
pub head_ends : (file : List ℕ) (from size : ℕ) → from ≤ length file → size ≤ length (stretch file from (length file)) → from + size ≤ length file
head_ends file from size l m = omega (arith, length-take (length file - from) (drop from file), length-drop from file)

-- nothing is printed
pub nothing : (file want text : List ℕ) (why : Why) → want ≡ [] → Prints file want (Err why) text
nothing file want text why e = record { inside = tt; prints = sym e }

module _ (b : List ℕ) (n : Named) (out : List ℕ) where
  -- the judge refused, or the text was asked for
  pub judge_refused : (r : Verdict) (x : Refusal) → verdict_numbers r ≡ verdict b → r ≡ Err x → Replied b n out (Err x) out
  unfolding text_reply
  judge_refused r x e a = answered text_values (text_reply b n out) (refuse (number_of x)) (refused_too b r e x a (λ c. reply_text n c out)) out out refl

  pub text_asked : Accepted b → (r : WriteAnswer) (after : List ℕ) → Answered text_values (reply_text n (class_of b) out) out (write_numbers r) after → Replied b n out r after
  unfolding text_reply
  text_asked a r after h = rw (asked b (λ c. reply_text n c out) a) h

-- an answer that is given counts the bytes of its text, and there is room for them
abbrev Sized : List ℕ → Reply ℕ → Type 0
Sized out (refuse n) = Unit {0}
Sized out (give a text) = (a ≡ length text) × (length text ≤ length out)

sized_check : (out : List ℕ) (ok : Bool) (n : ℕ) (rest : Unit {0} → Reply ℕ) → Sized out (rest tt) → Sized out (check ok n rest)
sized_check out true n rest h = h
sized_check out false n rest h = tt

sized_room : (text out : List ℕ) → Sized out (in_room (length text) text out)
sized_room text out = go (leb (length text) (length out)) refl
  where
    go : (ok : Bool) → leb (length text) (length out) ≡ ok → Sized out (check ok 15 λ _. give (length text) text)
    go true e = (refl, leb-true (length text) (length out) e)
    go false e = tt

sized_text : (n : Named) (c : Class) (out : List ℕ) → Sized out (reply_text n c out)
unfolding reply_text
sized_text n c out =
    sized_check out (names_right n c) 17 (λ _. check (guards_few c) 19 λ _. in_room (length (class_text n c)) (class_text n c) out)
    (sized_check out (guards_few c) 19 (λ _. in_room (length (class_text n c)) (class_text n c) out) (sized_room (class_text n c) out))

sized : (b : List ℕ) (n : Named) (out : List ℕ) → Sized out (text_reply b n out)
unfolding text_reply on_sheet
sized b n out = sized_check out (eqb (refusal b) 0) (refusal b) (λ _. reply_text n (class_of b) out) (sized_text n (class_of b) out)

module _ (file out : List ℕ) (n : Named) (from start : ℕ) (r : WriteAnswer) (after : List ℕ) (h : Replied (stretch file start (length file)) n out r after) where
  -- the text was written
  pub text_written : (size : ℕ) → r ≡ Ok size → from ≤ start → start ≤ length file → Prints file (text_file file out n from start) (made from start size) after
  unfolding text_file
  text_written size e l m = go (text_reply (stretch file start (length file)) n out) (sized (stretch file start (length file)) n out) (subst (λ (w : WriteAnswer). Answered text_values (text_reply (stretch file start (length file)) n out) out (write_numbers w) after) e h)
    where
      go : (reply : Reply ℕ) → Sized out reply → Answered text_values reply out (0 ∷ size ∷ []) after → Prints file (headed (stretch file from start) reply) (made from start size) after
      go (refuse x) s a = absurd (clash (cc a.numbers_are))
      go (give v text) (p, q) a =
          let k : size ≡ length text = (let z : size ≡ v = cc a.numbers_are in z ∙ p) in
          let t : take size after ≡ text = ap (λ (i : ℕ). take i after) k ∙ ap (take (length text)) a.buffer_is ∙ take-append_seam text (drop (length text) out) in
          let w : length after ≡ length text + length (drop (length text) out) = ap length a.buffer_is ∙ length-append text (drop (length text) out) in
          record { inside = (l, m, omega arith); prints = ap (λ (x : List ℕ). stretch file from start ++ x) t }

  -- it was not
  pub text_refused : (x : Refusal) → r ≡ Err x → (why : Why) → Prints file (text_file file out n from start) (Err why) after
  unfolding text_file
  text_refused x e why = nothing file (text_file file out n from start) after why (go (text_reply (stretch file start (length file)) n out) (subst (λ (w : WriteAnswer). Answered text_values (text_reply (stretch file start (length file)) n out) out (write_numbers w) after) e h))
    where
      go : (reply : Reply ℕ) → Answered text_values reply out (number_of x ∷ []) after → headed (stretch file from start) reply ≡ []
      go (refuse y) a = refl
      go (give v text) a = absurd (clash (cc a.numbers_are))

-- a head that is read or not, with these buffers before and after it
module _ (part n c k : List ℕ) (r : Answer) (n' c' k' : List ℕ) (h : HeadRead part n c k r n' c' k') (file out : List ℕ) where
  -- the second one
  module _ (own_name own_states : List ℕ) (from : ℕ) where
    pub second_read : (u : Used) (size : ℕ) → r ≡ head_answer u size → (o : Outcome) (after : List ℕ)
        → Prints file (text_file file out (named own_name own_states (take u.names n') (take u.commands c') (take u.classes k')) from (from + size)) o after
        → Prints file (second_file file out own_name own_states from (head_of part (rooms n c k))) o after
    unfolding second_file
    second_read u size e o after p =
        subst (λ (w : H.Outcome). Prints file (second_file file out own_name own_states from w) o after) (sym (head_read part n c k r n' c' k' h u size e)) p

    pub second_wrong : (x : Fault) (start end : ℕ) → r ≡ bad_line x start end → (why : Why) (text : List ℕ)
        → Prints file (second_file file out own_name own_states from (head_of part (rooms n c k))) (Err why) text
    unfolding second_file
    second_wrong x start end e why text =
        let (l, w) = head_wrong part n c k r n' c' k' h x start end e in
        nothing file (second_file file out own_name own_states from (head_of part (rooms n c k))) text why (ap (second_file file out own_name own_states from) w)

  -- the first one
  pub first_read : (u : Used) (from : ℕ) → r ≡ head_answer u from → (o : Outcome) (after : List ℕ)
      → Prints file (opened file out (shown u n' c' k') from) o after → Prints file (first_file file out (head_of part (rooms n c k))) o after
  unfolding first_file
  first_read u from e o after p = subst (λ (w : H.Outcome). Prints file (first_file file out w) o after) (sym (head_read part n c k r n' c' k' h u from e)) p

  pub first_wrong : (x : Fault) (start end : ℕ) → r ≡ bad_line x start end → (why : Why) (text : List ℕ)
      → Prints file (first_file file out (head_of part (rooms n c k))) (Err why) text
  unfolding first_file
  first_wrong x start end e why text =
      let (l, w) = head_wrong part n c k r n' c' k' h x start end e in
      nothing file (first_file file out (head_of part (rooms n c k))) text why (ap (first_file file out) w)

-- a first head with one class has its record
pub own_long : (n c k : List ℕ) (u : Used) → Fits u n c k → one_class u.classes u.commands ≡ true → 32 ≤ length k
own_long n c k u fits e = let i : u.classes ≡ 36 = eqb-true u.classes 36 (and_left _ _ e) in omega (arith, fits.classes)

-- the first head has one class and no commands, or not
module _ (file out n c k : List ℕ) (u : Used) (from : ℕ) (fits : Fits u n c k) where
  lengths : one_class (length (take u.classes k)) (length (take u.commands c)) ≡ one_class u.classes u.commands
  lengths = rw (← counted k u.classes fits.classes, ← counted c u.commands fits.commands)

  pub not_own : one_class u.classes u.commands ≡ false → (why : Why) (text : List ℕ) → Prints file (opened file out (shown u n c k) from) (Err why) text
  unfolding opened
  not_own e why text = nothing file (opened file out (shown u n c k) from) text why (rw (lengths, e))

  pub own : one_class u.classes u.commands ≡ true → (o : Outcome) (after : List ℕ)
      → Prints file (second_file file out (take 32 k) (take u.names n) from (head_of (stretch file from (length file)) (rooms (replicate 1024 0) (replicate 2048 0) (replicate 288 0)))) o after
      → Prints file (opened file out (shown u n c k) from) o after
  unfolding opened
  own e o after p =
      let i : u.classes ≡ 36 = eqb-true u.classes 36 (and_left _ _ e) in
      rw (lengths, e, take-take 32 u.classes k (omega arith), ← full_room) p

-- a file that is too long, and one that is not
pub too_long : (file out : List ℕ) → 262144 < length file → (why : Why) (text : List ℕ) → Prints file (class_file file out) (Err why) text
unfolding class_file
too_long file out l why text = nothing file (class_file file out) text why (rw (lt-ltb 262144 (length file) l))

pub converted : (file out : List ℕ) → length file ≤ 262144 → (o : Outcome) (after : List ℕ)
    → Prints file (first_file file out (head_of file (rooms (replicate 1024 0) (replicate 2048 0) (replicate 288 0)))) o after → Prints file (class_file file out) o after
unfolding class_file
converted file out l o after p = rw (le-ltb 262144 (length file) l, ← full_room) p

-- what is printed is there
pub text_inside : (file text : List ℕ) (o : Outcome) → Inside file o text → (m : ClassFile) → o ≡ Ok m → (m.from ≤ m.to) × (m.to ≤ length file) × (m.length ≤ length text)
text_inside file text o i m e = rw e at i
