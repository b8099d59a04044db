-- What the lines of a head come to, in the numbers of the code and in lists.
-- Assumes nothing.
use Prim.Native.Nat.{ℕ, ◌+◌, ◌-◌}
use mathlib.Core.Path.{◌≡◌, refl, sym, ◌∙◌, ap, subst}
use mathlib.Core.Bool.{true, false}
use mathlib.Core.List.{List}
use lib.ListN.{length, take}
use lib.Seq.{sets}
use borrow.Author.Tests.{eq-eqb, ne_eqb}
use Rattle.grammar.specs.Words.{spelled, same}
use Rattle.classfile.specs.Heads.{Judged, Grown, class_record, judge_name, add_state}
use Rattle.classfile.specs.Reads.{Turn, on_line, alone, begun, used, ended, ended_buffer, lined, lined_buffer, Stands, Added, Named, Commanded, classed, stated, on_judged, on_grown}
use Rattle.classfile.specs.declared.parts.Fault.{Fault}
use Rattle.classfile.specs.declared.parts.Fault.TheVariants.{UnknownLine, NoStates}
use Rattle.classfile.specs.declared.heads.Used.{Used}
use Rattle.classfile.specs.declared.heads.Line.{Line}
use Rattle.classfile.specs.declared.heads.Line.TheVariants.{Begins, Names, Commands, Class, States}
use Rattle.std.specs.Prelude.{Ok, Err}

-- the first word of a line, by its tests
module _ (u : Used) (w : List ℕ) where
  pub begun_names : same (spelled "names") w ≡ true → alone Names u.names u ≡ begun u w
  unfolding begun
  begun_names a = rw a

  pub begun_commands : same (spelled "names") w ≡ false → same (spelled "commands") w ≡ true → alone Commands u.commands u ≡ begun u w
  unfolding begun
  begun_commands a b = rw (a, b)

  pub begun_class : same (spelled "names") w ≡ false → same (spelled "commands") w ≡ false → same (spelled "class") w ≡ true → on_line Class u ≡ begun u w
  unfolding begun
  begun_class a b d = rw (a, b, d)

  pub begun_unknown : same (spelled "names") w ≡ false → same (spelled "commands") w ≡ false → same (spelled "class") w ≡ false → Err UnknownLine ≡ begun u w
  unfolding begun
  begun_unknown a b d = rw (a, b, d)

-- the end of a class's line
module _ (u : Used) (name : List ℕ) (set : ℕ) (before : List ℕ) where
  pub ended_none : set ≡ 0 → (Err NoStates ≡ ended u set) × (before ≡ ended_buffer u name set before)
  unfolding ended ended_buffer
  ended_none h = rw (eq-eqb set 0 h) (refl, refl)

  pub ended_some : (after : List ℕ) → (set ≡ 0 → ⊥) → after ≡ sets before u.classes (class_record name set)
      → (on_line Begins (used u.names u.commands (u.classes + 36)) ≡ ended u set) × (after ≡ ended_buffer u name set before)
  unfolding ended ended_buffer
  ended_some after h e = rw (ne_eqb set 0 h) (refl, e)

-- a word of the names line, of the commands line
module _ (u : Used) (before w after : List ℕ) (j : Judged) where
  pub named_fine : Added before u.names w j after → j ≡ Ok tt → Named u before w (on_line Names (used (u.names + 32) u.commands u.classes)) after
  named_fine a f = record { judged = j; added = a; turn = ap (λ (x : Judged). on_judged x (on_line Names (used (u.names + 32) u.commands u.classes))) (sym f) }

  pub named_bad : Added before u.names w j after → (x : Fault) → j ≡ Err x → Named u before w (Err x) after
  named_bad a x f = record { judged = j; added = a; turn = ap (λ (y : Judged). on_judged y (on_line Names (used (u.names + 32) u.commands u.classes))) (sym f) }

  pub commanded_fine : Added before u.commands w j after → j ≡ Ok tt → Commanded u before w (on_line Commands (used u.names (u.commands + 32) u.classes)) after
  commanded_fine a f = record { judged = j; added = a; turn = ap (λ (x : Judged). on_judged x (on_line Commands (used u.names (u.commands + 32) u.classes))) (sym f) }

  pub commanded_bad : Added before u.commands w j after → (x : Fault) → j ≡ Err x → Commanded u before w (Err x) after
  commanded_bad a x f = record { judged = j; added = a; turn = ap (λ (y : Judged). on_judged y (on_line Commands (used u.names (u.commands + 32) u.classes))) (sym f) }

-- a class's name, and its states
module _ (u : Used) (k w : List ℕ) (start end : ℕ) (j : Judged) (e : j ≡ judge_name 36 (length k - u.classes) (take u.classes k) w) where
  pub classed_fine : j ≡ Ok tt → on_line (States start end 0) u ≡ classed u k w start end
  unfolding classed
  classed_fine f = ap (λ (x : Judged). on_judged x (on_line (States start end 0) u)) (sym f ∙ e)

  pub classed_bad : (x : Fault) → j ≡ Err x → Err x ≡ classed u k w start end
  unfolding classed
  classed_bad x f = ap (λ (y : Judged). on_judged y (on_line (States start end 0) u)) (sym f ∙ e)

module _ (u : Used) (n w : List ℕ) (start end set : ℕ) (g : Grown) (e : g ≡ add_state (take u.names n) set w) where
  pub stated_to : (more : ℕ) → g ≡ Ok more → on_line (States start end more) u ≡ stated u n w start end set
  unfolding stated
  stated_to more f = ap (λ (x : Grown). on_grown x (λ m. on_line (States start end m) u)) (sym f ∙ e)

  pub stated_bad : (x : Fault) → g ≡ Err x → Err x ≡ stated u n w start end set
  unfolding stated
  stated_bad x f = ap (λ (y : Grown). on_grown y (λ m. on_line (States start end m) u)) (sym f ∙ e)

-- the end of a line, by what the line is
module _ (file : List ℕ) (line want : Line) (u : Used) (k : List ℕ) (e : line ≡ want) where
  pub line_as : (lined want u ≡ lined line u) × (lined_buffer file want u k ≡ lined_buffer file line u k)
  line_as = (ap (λ (x : Line). lined x u) (sym e), ap (λ (x : Line). lined_buffer file x u k) (sym e))

  pub stands_as : Stands file line u k → Stands file want u k
  stands_as s = subst (λ (x : Line). Stands file x u k) e s

  pub line_ends : (r : Turn) (after : List ℕ) → (r ≡ lined want u) × (after ≡ lined_buffer file want u k) → (r ≡ lined line u) × (after ≡ lined_buffer file line u k)
  line_ends r after (a, b) = (a ∙ line_as.0, b ∙ line_as.1)
