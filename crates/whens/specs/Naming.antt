-- What the functions that look ahead for names promise.
-- Assumes nothing.
use Rattle.std.specs.Prelude.{ℕ, ◌≤◌, ◌≡◌, List, length}
use Rattle.words.specs.Scanning.{tokens_from, stretch}
use Rattle.grammar.specs.Grammar.{Referrer, move_to, run, stay}
use Rattle.own.specs.Ahead.{first_bytes}
use Rattle.whens.specs.Whens.{referrer_ahead}
use Rattle.whens.specs.declared.Stretch.{Stretch}
use Rattle.whens.specs.declared.Refer.{Refer}
use Rattle.whens.specs.declared.Refer.TheVariants.{MoveTo, Do, Stay}

-- the bytes of the next word, if it is a name, stand there
pub record NameAhead (text : List ℕ) (at start end : ℕ) : Type 0 where
  pub bytes : stretch text start end ≡ first_bytes (tokens_from text at)
  pub ordered : start ≤ end
  pub inside : end ≤ length text

-- a referrer with its name as it stands in the text
abbrev pub referrer_as : List ℕ → Refer → Referrer
referrer_as text (MoveTo n) = move_to (stretch text n.start n.end)
referrer_as text (Do n) = run (stretch text n.start n.end)
referrer_as text Stay = stay

-- a name that stands in the text
pub record Stands (text : List ℕ) (n : Stretch) : Type 0 where
  pub ordered : n.start ≤ n.end
  pub inside : n.end ≤ length text

abbrev pub Named : List ℕ → Refer → Type 0
Named text (MoveTo n) = Stands text n
Named text (Do n) = Stands text n
Named text Stay = Unit {0}

-- the first referrer from a place on
pub record Refers (text : List ℕ) (at : ℕ) (r : Refer) : Type 0 where
  pub says : referrer_as text r ≡ referrer_ahead (tokens_from text at)
  pub named : Named text r
