-- Laws about specs/Answers.antt: the tree's terms and the paper's numbers tell the code's answers apart.
-- Assumes nothing.
use Prim.Native.Nat.{ℕ}
use native.Mathlib.Omega.{arith}
use mathlib.Core.Path.{◌≡◌, refl, sym, ap, ap₂}
use mathlib.Core.List.{List, ◌++◌}
use Rattle.std.specs.Prelude.{Ok, Err, Some, None}
use Rattle.model.specs.declared.Misread.TheVariants.{Refused, WrongWord}
use Rattle.model.specs.Tree as Tree
use Rattle.model.specs.Node as Node
use Rattle.model.specs.Values.{referrer_values, probed_values, settled_values, loop_values}
use Rattle.model.specs.Answers.{referrer_as, probed_as, ending_as, phased_values, handled_values, looped_values, judge_numbers, probe_numbers, phase_numbers, command_numbers, loop_numbers, read_numbers, write_numbers, Probed, JudgeAnswer, ProbeAnswer, PhaseAnswer, CommandAnswer, LoopAnswer, ReadAnswer, WriteAnswer}
use Rattle.model.specs.declared.OwnState.{OwnState}
use Rattle.model.specs.declared.Referrer.{Referrer}
use Rattle.model.specs.declared.Referrer.TheVariants.{MoveTo, Do, Stay}
use Rattle.model.specs.declared.Ending.{Ending}
use Rattle.model.specs.declared.Ending.TheVariants.{ByNone, ByStay, ByDo}
use Rattle.model.specs.declared.Phase.{Phase}
use Rattle.model.specs.declared.Phase.TheVariants.{Settled, Loops as Looping}
use Rattle.model.specs.declared.Handling.{Handling}
use Rattle.model.specs.declared.Handling.TheVariants.{Ignored, Handled}
use Rattle.model.specs.declared.Loops.{Loops}
use Rattle.model.specs.declared.Loops.TheVariants.{Loop, Free}
use Rattle.model.proofs.Words.{clash}
use Rattle.model.proofs.RefusalLaws.{same_number, not_zero, not_sixteen}

-- own states of one number are one
pub same_state : (s t : OwnState) → s.0 ≡ t.0 → s ≡ t
same_state s t e = λ i. record { 0 = e i }

-- the tree's terms tell the code's apart
pub same_referrer : (r s : Referrer) → referrer_as r ≡ referrer_as s → r ≡ s
same_referrer (MoveTo t) (MoveTo u) e = ap MoveTo (same_state t u (cc))
same_referrer (MoveTo t) (Do b) e = absurd (clash (cc))
same_referrer (MoveTo t) Stay e = absurd (clash (cc))
same_referrer (Do a) (MoveTo u) e = absurd (clash (cc))
same_referrer (Do a) (Do b) e = ap Do (cc)
same_referrer (Do a) Stay e = absurd (clash (cc))
same_referrer Stay (MoveTo u) e = absurd (clash (cc))
same_referrer Stay (Do b) e = absurd (clash (cc))
same_referrer Stay Stay e = refl

pub same_probed : (r s : Probed) → probed_as r ≡ probed_as s → r ≡ s
same_probed None None e = refl
same_probed None (Some (j, s)) e = absurd (clash (cc))
same_probed (Some (i, r)) None e = absurd (clash (cc))
same_probed (Some (i, r)) (Some (j, s)) e = ap₂ (λ (k : ℕ) t. Some (k, t)) (cc) (same_referrer r s (cc))

pub same_ending : (d e : Ending) → ending_as d ≡ ending_as e → d ≡ e
same_ending ByNone ByNone h = refl
same_ending ByNone ByStay h = absurd (clash (cc))
same_ending ByNone (ByDo b) h = absurd (clash (cc))
same_ending ByStay ByNone h = absurd (clash (cc))
same_ending ByStay ByStay h = refl
same_ending ByStay (ByDo b) h = absurd (clash (cc))
same_ending (ByDo a) ByNone h = absurd (clash (cc))
same_ending (ByDo a) ByStay h = absurd (clash (cc))
same_ending (ByDo a) (ByDo b) h = ap ByDo (cc)

-- the paper's values tell the tree's terms apart
pub referrer_told : (r s : Tree.Referrer) → referrer_values r ≡ referrer_values s → r ≡ s
referrer_told (Tree.move_to t) (Tree.move_to u) e = ap Tree.move_to (cc)
referrer_told (Tree.move_to t) (Tree.run b) e = absurd (clash (cc))
referrer_told (Tree.move_to t) Tree.stay e = absurd (let z : ◌≡◌ {A = ℕ} 0 2 = cc in omega arith)
referrer_told (Tree.run a) (Tree.move_to u) e = absurd (clash (cc))
referrer_told (Tree.run a) (Tree.run b) e = ap Tree.run (cc)
referrer_told (Tree.run a) Tree.stay e = absurd (let z : ◌≡◌ {A = ℕ} 1 2 = cc in omega arith)
referrer_told Tree.stay (Tree.move_to u) e = absurd (let z : ◌≡◌ {A = ℕ} 0 2 = cc in omega arith)
referrer_told Tree.stay (Tree.run b) e = absurd (let z : ◌≡◌ {A = ℕ} 1 2 = cc in omega arith)
referrer_told Tree.stay Tree.stay e = refl

pub probed_told : (r s : Node.Probed) → probed_values r ≡ probed_values s → r ≡ s
probed_told Node.nothing Node.nothing e = refl
probed_told Node.nothing (Node.found j s) e = absurd (clash (cc))
probed_told (Node.found i r) Node.nothing e = absurd (clash (cc))
probed_told (Node.found i r) (Node.found j s) e = ap₂ Node.found (cc) (referrer_told r s (cc))

-- settled phases of equal parts are one
same_settled : (d e : Ending) (q r : OwnState) (m n x y : ℕ) → d ≡ e → q.0 ≡ r.0 → m ≡ n → x ≡ y → Settled d q m x ≡ Settled e r n y
same_settled d e q r m n x y f g h k = λ i. Settled (f i) (same_state q r g i) (h i) (k i)

-- by what a phase settled, and what it gives with it
settled_told : (d e : Ending) (q r : OwnState) (m n x y : ℕ) → settled_values (ending_as d) q.0 m x ≡ settled_values (ending_as e) r.0 n y → Settled d q m x ≡ Settled e r n y
settled_told ByNone ByNone q r m n x y h = same_settled ByNone ByNone q r m n x y refl (cc) (cc) (cc)
settled_told ByNone ByStay q r m n x y h = absurd (clash (cc))
settled_told ByNone (ByDo b) q r m n x y h = absurd (let z : ◌≡◌ {A = ℕ} 0 2 = cc in omega arith)
settled_told ByStay ByNone q r m n x y h = absurd (clash (cc))
settled_told ByStay ByStay q r m n x y h = same_settled ByStay ByStay q r m n x y refl (cc) (cc) (cc)
settled_told ByStay (ByDo b) q r m n x y h = absurd (let z : ◌≡◌ {A = ℕ} 1 2 = cc in omega arith)
settled_told (ByDo a) ByNone q r m n x y h = absurd (let z : ◌≡◌ {A = ℕ} 0 2 = cc in omega arith)
settled_told (ByDo a) ByStay q r m n x y h = absurd (let z : ◌≡◌ {A = ℕ} 1 2 = cc in omega arith)
settled_told (ByDo a) (ByDo b) q r m n x y h = same_settled (ByDo a) (ByDo b) q r m n x y (ap ByDo (cc)) (cc) (cc) (cc)

-- a settled phase is no loop
not_loop : (d : Ending) (q r m n x : ℕ) → settled_values (ending_as d) q m x ≡ loop_values r n → ⊥
not_loop ByNone q r m n x e = let z : ◌≡◌ {A = ℕ} 0 3 = cc in omega arith
not_loop ByStay q r m n x e = let z : ◌≡◌ {A = ℕ} 1 3 = cc in omega arith
not_loop (ByDo a) q r m n x e = let z : ◌≡◌ {A = ℕ} 2 3 = cc in omega arith

pub same_phase : (r s : Phase) → phased_values r ≡ phased_values s → r ≡ s
same_phase (Settled d q m x) (Settled e r n y) h = settled_told d e q r m n x y h
same_phase (Settled d q m x) (Looping r n) h = absurd (not_loop d q.0 r.0 m n x h)
same_phase (Looping q m) (Settled e r n y) h = absurd (not_loop e r.0 q.0 n m y (sym h))
same_phase (Looping q m) (Looping r n) h = ap₂ Looping (same_state q r (cc)) (cc)

-- every handling has three values, so they and what stands behind them are told apart
pub handled_told : (r s : Handling) (xs ys : List ℕ) → handled_values r ++ xs ≡ handled_values s ++ ys → (r ≡ s) × (xs ≡ ys)
handled_told (Ignored q) (Ignored r) xs ys e = (ap Ignored (same_state q r (cc)), cc)
handled_told (Ignored q) (Handled r n) xs ys e = absurd (clash (cc))
handled_told (Handled q m) (Ignored r) xs ys e = absurd (clash (cc))
handled_told (Handled q m) (Handled r n) xs ys e = (ap₂ Handled (same_state q r (cc)) (cc), cc)

pub looped_told : (r s : Loops) → looped_values r ≡ looped_values s → r ≡ s
looped_told (Loop k q) (Loop j r) e = ap₂ Loop (cc) (same_state q r (cc))
looped_told (Loop k q) (Free m) e = absurd (clash (cc))
looped_told (Free m) (Loop k q) e = absurd (clash (cc))
looped_told (Free m) (Free n) e = ap Free (cc)

-- the paper's numbers tell answers apart
pub same_judge : (r s : JudgeAnswer) → judge_numbers r ≡ judge_numbers s → r ≡ s
same_judge (Err x) (Err y) e = ap Err (same_number x y (cc))
same_judge (Err x) (Ok v) e = absurd (not_zero x (cc))
same_judge (Ok u) (Err y) e = absurd (not_zero y (cc))
same_judge (Ok u) (Ok v) e = refl

pub same_probe : (r s : ProbeAnswer) → probe_numbers r ≡ probe_numbers s → r ≡ s
same_probe (Err x) (Err y) e = ap Err (same_number x y (cc))
same_probe (Err x) (Ok s) e = absurd (not_zero x (cc))
same_probe (Ok r) (Err y) e = absurd (not_zero y (cc))
same_probe (Ok r) (Ok s) e = ap Ok (same_probed r s (probed_told (probed_as r) (probed_as s) (cc)))

pub same_phase_answer : (r s : PhaseAnswer) → phase_numbers r ≡ phase_numbers s → r ≡ s
same_phase_answer (Err x) (Err y) e = ap Err (same_number x y (cc))
same_phase_answer (Err x) (Ok s) e = absurd (not_zero x (cc))
same_phase_answer (Ok r) (Err y) e = absurd (not_zero y (cc))
same_phase_answer (Ok r) (Ok s) e = ap Ok (same_phase r s (cc))

pub same_command : (r s : CommandAnswer) → command_numbers r ≡ command_numbers s → r ≡ s
same_command (Err x) (Err y) e = ap Err (same_number x y (cc))
same_command (Err x) (Ok (k, s)) e = absurd (not_zero x (cc))
same_command (Ok (h, r)) (Err y) e = absurd (not_zero y (cc))
same_command (Ok (h, r)) (Ok (k, s)) e = let (f, g) = handled_told h k (phased_values r) (phased_values s) (cc) in ap₂ (λ (l : Handling) t. Ok (l, t)) f (same_phase r s g)

pub same_loop : (r s : LoopAnswer) → loop_numbers r ≡ loop_numbers s → r ≡ s
same_loop (Err x) (Err y) e = ap Err (same_number x y (cc))
same_loop (Err x) (Ok s) e = absurd (not_zero x (cc))
same_loop (Ok r) (Err y) e = absurd (not_zero y (cc))
same_loop (Ok r) (Ok s) e = ap Ok (looped_told r s (cc))

pub same_read : (r s : ReadAnswer) → read_numbers r ≡ read_numbers s → r ≡ s
same_read (Err (Refused x)) (Err (Refused y)) e = ap (λ x. Err (Refused x)) (same_number x y (cc))
same_read (Err (Refused x)) (Err (WrongWord q)) e = absurd (not_sixteen x (cc))
same_read (Err (Refused x)) (Ok (l, n)) e = absurd (not_zero x (cc))
same_read (Err (WrongWord p)) (Err (Refused y)) e = absurd (not_sixteen y (cc))
same_read (Err (WrongWord p)) (Err (WrongWord q)) e = ap (λ n. Err (WrongWord n)) (cc)
same_read (Err (WrongWord p)) (Ok (l, n)) e = absurd (clash (cc))
same_read (Ok (k, m)) (Err (Refused y)) e = absurd (not_zero y (cc))
same_read (Ok (k, m)) (Err (WrongWord q)) e = absurd (clash (cc))
same_read (Ok (k, m)) (Ok (l, n)) e = let f : k ≡ l = cc in let g : m ≡ n = cc in λ i. Ok (f i, g i)

pub same_write : (r s : WriteAnswer) → write_numbers r ≡ write_numbers s → r ≡ s
same_write (Err x) (Err y) e = ap Err (same_number x y (cc))
same_write (Err x) (Ok n) e = absurd (not_zero x (cc))
same_write (Ok m) (Err y) e = absurd (not_zero y (cc))
same_write (Ok m) (Ok n) e = ap Ok (cc)
