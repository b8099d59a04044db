-- Demand 1: what is refused, with which number, and that a refusal writes nothing, for all six questions at once.
-- Assumes nothing.
use Prim.Native.Nat.{ℕ}
use mathlib.Core.Path.{◌≡◌, refl, sym, ◌∙◌, ap}
use mathlib.Core.List.{List, []}
use mathlib.Core.Logic.{◌↔◌}
use lib.ListN.{get_or}
use Rattle.std.specs.Prelude.{Ok, Err}
use Rattle.model.specs.Answers.{JudgeAnswer}
use Rattle.model.specs.Refusals.{number_of}
use Rattle.model.specs.declared.Refusal.{Refusal}
use Rattle.model.proofs.Words.{clash}
use Rattle.sheet.specs.Rules.{Accepted}
use Rattle.model.specs.Replies.{Reply, refuse, give, numbers, buffer_after}
use Rattle.model.proofs.RefusalLaws.{not_zero}
use Rattle.bargewicker.specs.Questions.{Question, judge, probe_in, phase_from, command_in, loop_with, text_of, Answer, reply, lent}
use Rattle.bargewicker.specs.Numbers.{values}
use Rattle.bargewicker.specs.Promises.{AnswerTo, refusing, numbers_of, Promised}
use Rattle.bargewicker.specs.Table.{first_failed, table}
use Rattle.bargewicker.specs.Demands.{Demand1}
use Rattle.bargewicker.proofs.PromiseLaws.{refusing_numbers, refused_so, accepted_so}
use Rattle.bargewicker.proofs.TableLaws.{refused_number, sheet_failed, failed}
use Rattle.bargewicker.proofs.Unique.{unique}

-- the first of an answer's numbers: its refusal, or 0
abbrev first : List ℕ → ℕ
first ns = get_or ns 0 0

-- an answer that is no refusal begins with 0
no_refusal : (q : Question) (r : AnswerTo q) → ((x : Refusal) → r ≡ refusing q x → ⊥) → first (numbers_of q r) ≡ 0
no_refusal (judge b) (Err x) h = absurd (h x refl)
no_refusal (judge b) (Ok u) h = refl
no_refusal (probe_in b l q) (Err x) h = absurd (h x refl)
no_refusal (probe_in b l q) (Ok p) h = refl
no_refusal (phase_from b l q out) (Err x) h = absurd (h x refl)
no_refusal (phase_from b l q out) (Ok p) h = refl
no_refusal (command_in b l q m out) (Err x) h = absurd (h x refl)
no_refusal (command_in b l q m out) (Ok (h, p)) z = refl
no_refusal (loop_with b present out) (Err x) h = absurd (h x refl)
no_refusal (loop_with b present out) (Ok p) h = refl
no_refusal (text_of b n out) (Err x) h = absurd (h x refl)
no_refusal (text_of b n out) (Ok m) h = refl

-- a reply begins with its refusal
reply_first : (p : Reply Answer) → first (numbers values p) ≡ refused_number p
reply_first (refuse n) = refl
reply_first (give a bytes) = refl

-- a reply whose refusal has a number refuses
is_refused : (p : Reply Answer) (x : Refusal) → refused_number p ≡ number_of x → p ≡ refuse (number_of x)
is_refused (refuse n) x e = ap refuse e
is_refused (give a bytes) x e = absurd (not_zero x (sym e))

module _ (q : Question) (r : AnswerTo q) (final : List ℕ) (h : Promised q r final) where
  begins : first (numbers_of q r) ≡ first_failed (table q)
  begins = ap first h.numbers_are ∙ reply_first (reply q) ∙ failed q

  if_refused : (x : Refusal) → r ≡ refusing q x → first_failed (table q) ≡ number_of x
  if_refused x e = sym begins ∙ ap (λ (s : AnswerTo q). first (numbers_of q s)) e ∙ ap first (refusing_numbers q x)

  refuses : (x : Refusal) → first_failed (table q) ≡ number_of x → reply q ≡ refuse (number_of x)
  refuses x e = is_refused (reply q) x (failed q ∙ e)

  refused_if : (x : Refusal) → first_failed (table q) ≡ number_of x → r ≡ refusing q x
  refused_if x e = (unique.sheets q r (refusing q x) final (lent q) h (refused_so q x (refuses x e) (lent q) refl)).0

  pub demand_1 : Demand1 q r final
  demand_1 =
      record {
        refused = λ x. (if_refused x, refused_if x);
        answered = ((λ none. sym begins ∙ no_refusal q r none), λ z x e. not_zero x (sym (if_refused x e) ∙ z));
        untouched = λ x e. h.buffer_is ∙ ap (λ (p : Reply Answer). buffer_after p (lent q)) (refuses x (if_refused x e));
      }

-- the judge accepts exactly the sheets that get no refusal
pub accepted_exactly : (b : List ℕ) (r : JudgeAnswer) (final : List ℕ) → Promised (judge b) r final → (r ≡ Ok tt) ↔ Accepted b
unfolding table
accepted_exactly b r final h = (
  (λ e. sheet_failed b ∙ (demand_1 (judge b) r final h).answered.0 (λ x f. absurd (clash (cc (sym e ∙ f))))),
  λ a. (unique.sheets (judge b) r (Ok tt) final [] h (accepted_so b a)).0,
)
