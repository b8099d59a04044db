-- The promises: what the words come to is what the class of a text has.
-- Assumes nothing.
use Prim.Native.Nat.{ℕ}
use mathlib.Core.Path.{sym, ◌∙◌, ap, subst}
use mathlib.Core.List.{List}
use Rattle.grammar.specs.Words.{words, tokens}
use Rattle.encoding.specs.Records.{Four, fours}
use Rattle.encoding.specs.Encoding.{state_bytes}
use Rattle.pen.specs.Writing.{Puts}
use Rattle.clauses.specs.Bodies.{states_from, actions_from, WritesStates, WritesActions}
use Rattle.clauses.proofs.StateLaws.{text_states}
use Rattle.clauses.proofs.ActionLaws.{text_actions}

module _ (text before : List ℕ) (at : ℕ) (after : List ℕ) (r : ℕ) where
  pub writes_states : Puts (state_bytes (states_from (tokens (words text)))) before at after r → WritesStates text before at after r
  writes_states p =
      record {
        told = p;
        of_text = λ l t e w. subst (λ (rs : List Four). Puts (state_bytes rs) before at after r) (ap states_from (sym e) ∙ text_states l t w) p;
      }

  pub writes_actions : (commands : List ℕ) → Puts (fours (actions_from commands (tokens (words text)))) before at after r → WritesActions text commands before at after r
  writes_actions commands p =
      record {
        told = p;
        of_text =
            λ l t c e k w.
            subst (λ (rs : List Four). Puts (fours rs) before at after r) (ap (actions_from commands) (sym e) ∙ (rw (sym c) (text_actions l t k w))) p;
      }
