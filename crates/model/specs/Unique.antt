-- That a promise leaves one result, and why one that is an equation does.
-- Assumes nothing.
use Rattle.std.specs.Prelude.{◌≡◌}
use Rattle.model.specs.Refusals.{number_of}
use Rattle.model.specs.Answers.{referrer_as, probed_as, ending_as, phased_values, judge_numbers, probe_numbers, phase_numbers, command_numbers, loop_numbers, read_numbers, write_numbers}
use Rattle.model.specs.declared.OwnState.{OwnState}

-- any two results that a promise allows are equal
abbrev pub LeavesOne : {A : Type 0} → (A → Type 0) → Type 0
LeavesOne {A} promise = (r s : A) → promise r → promise s → r ≡ s

-- any two results that a reading does not tell apart are equal
abbrev pub TellsApart : {A B : Type 0} → (A → B) → Type 0
TellsApart {A} reading = (r s : A) → reading r ≡ reading s → r ≡ s

-- one general law: a promise that names the result, or a reading of it that tells results apart, leaves one
pub record Equations : Type 1 where
  pub named : {A : Type 0} (x : A) → LeavesOne (λ (r : A). r ≡ x)
  pub read : {A B : Type 0} (reading : A → B) → TellsApart reading → (x : B) → LeavesOne (λ (r : A). reading r ≡ x)

-- the readings in which promises are stated
pub record Readings : Type 0 where
  pub refusals : TellsApart number_of
  pub states : TellsApart (λ (q : OwnState). q.0)
  pub referrers : TellsApart referrer_as
  pub probes : TellsApart probed_as
  pub endings : TellsApart ending_as
  pub phases : TellsApart phased_values
  pub judging : TellsApart judge_numbers
  pub probing : TellsApart probe_numbers
  pub phasing : TellsApart phase_numbers
  pub commanding : TellsApart command_numbers
  pub looping : TellsApart loop_numbers
  pub reading : TellsApart read_numbers
  pub writing : TellsApart write_numbers
