-- What is written where the text of an accepted sheet's class is asked for.
-- Assumes nothing.
use Prim.Native.Nat.{ℕ}
use mathlib.Core.Path.{◌≡◌, refl, ◌∙◌, ap}
use mathlib.Core.Bool.{Bool, true, false}
use mathlib.Core.List.{List}
use lib.Dec.{leb}
use lib.ListN.{length}
use borrow.Author.Tests.{leb-true}
use Rattle.std.specs.Prelude.{Ok, Err}
use Rattle.model.specs.Tree.{Class}
use Rattle.model.specs.Replies.{Reply, give, check, told_as, numbers, buffer_after}
use Rattle.model.specs.Answers.{write_numbers, WriteAnswer}
use Rattle.model.proofs.Words.{clash}
use Rattle.model.proofs.RefusalLaws.{not_zero}
use Rattle.sheet.specs.Rules.{Accepted}
use Rattle.sheet.specs.Reading.{class_of}
use Rattle.sheet.proofs.AskedLaws.{asked}
use Rattle.writings.specs.Layout.{Named, class_text}
use Rattle.writings.specs.Missing.{names_right}
use Rattle.writings.specs.Writings.{guards_few, reply_text}
use Rattle.bargewicker.specs.Questions.{Answer, text_of, wrote, reply}
use Rattle.bargewicker.specs.Numbers.{values}
use Rattle.bargewicker.specs.Promises.{Promised}
use Rattle.bargewicker.specs.Demands.{TextRight}

module _ (n : Named) (c : Class) (out final : List ℕ) where
  abbrev text : List ℕ
  text = class_text n c

  -- 17, 19, 15, or the text
  abbrev reply_by : Bool → Bool → Bool → Reply Answer
  reply_by t u v = told_as wrote (check t 17 (λ _. check u 19 (λ _. check v 15 (λ _. give (length text) text))))

  by_checks : (t u v : Bool) → names_right n c ≡ t → guards_few c ≡ u → leb (length text) (length out) ≡ v
      → (r : WriteAnswer) → write_numbers r ≡ numbers values (reply_by t u v) → final ≡ buffer_after (reply_by t u v) out → TextRight n c out final r
  unfolding values
  by_checks true true true a b d (Ok m) e f =
      let z : m ≡ length text = cc in (a, b, z, rw z (leb-true (length text) (length out) d), f)
  by_checks true true true a b d (Err x) e f = absurd (not_zero x (cc))
  by_checks true true false a b d (Ok m) e f = absurd (clash (cc))
  by_checks true true false a b d (Err x) e f = f
  by_checks true false v a b d (Ok m) e f = absurd (clash (cc))
  by_checks true false v a b d (Err x) e f = f
  by_checks false u v a b d (Ok m) e f = absurd (clash (cc))
  by_checks false u v a b d (Err x) e f = f

pub text_right : (b : List ℕ) (n : Named) (out : List ℕ) → Accepted b → (r : WriteAnswer) (final : List ℕ) → Promised (text_of b n out) r final → TextRight n (class_of b) out final r
unfolding reply reply_text
text_right b n out a r final h =
    let e : reply (text_of b n out) ≡ told_as wrote (reply_text n (class_of b) out) = asked b (λ c. told_as wrote (reply_text n c out)) a in
    by_checks n (class_of b) out final (names_right n (class_of b)) (guards_few (class_of b)) (leb (length (class_text n (class_of b))) (length out)) refl refl refl r
    (h.numbers_are ∙ ap (numbers values) e) (h.buffer_is ∙ ap (λ (p : Reply Answer). buffer_after p out) e)
