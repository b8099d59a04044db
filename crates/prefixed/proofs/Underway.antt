-- The loop over the words of a text: before its first turn, a turn, and its end.
-- Assumes nothing.
use Prim.Native.Nat.{ℕ, ◌-◌, ◌*◌, ◌≤◌, ◌<◌}
use native.Mathlib.Omega.{arith}
use mathlib.Core.Path.{◌≡◌, refl, sym, ◌∙◌, ap}
use mathlib.Core.Bool.{true}
use mathlib.Core.List.{List, [], ◌∷◌}
use lib.ListN.{length, take}
use Rattle.grammar.specs.Grammar.{Token, Text}
use Rattle.grammar.specs.Words.{words}
use Rattle.grammar.specs.Reading.{Says}
use Rattle.grammar.specs.Kinds.{kind_of}
use Rattle.naming.specs.NameLists.{Lists, child_names, class_names, records_in}
use Rattle.naming.specs.Naming.{class_in}
use Rattle.naming.specs.Known.{text_known}
use Rattle.words.specs.Scanning.{words_from, tokens_from, stretch, Next}
use Rattle.words.proofs.Turns.{last, kind_as}
use Rattle.words.proofs.Turns as T
use Rattle.encoding.specs.Records.{eights}
use Rattle.encoding.specs.Encoding.{operator_record, all_guards}
use Rattle.ordering.specs.declared.Mark.{Mark}
use Rattle.ordering.specs.declared.Mark.TheVariants.{Any, All, Edge, And, Or, Not, Open, Close, Other}
use Rattle.std.specs.Prelude.{Some, None}
use Rattle.prefixed.specs.declared.walks.Stand.{Stand}
use Rattle.ordering.specs.Ordering.{Ahead, Way, key, run, atom_record, atom_ahead, mark_of, with_atom, turn, walked, at_first, in_prefix_order}
use Rattle.prefixed.specs.Walking.{latest, Safe, Shows, Fits, Turned, Ordered}
use Rattle.atoms.proofs.AtomSteps.{goes}
use Rattle.prefixed.proofs.WalkLaws.{length_inserted}
use Rattle.ordering.proofs.Whole.{text_walk}

-- records only come
module _ (names classes : List (List ℕ)) where
  atom_grows : (a : Ahead) (w : Way) → length w.records ≤ length (with_atom a w).records
  atom_grows (Some (k, p, s)) w = omega (arith, length_inserted 0 (atom_record k p s) w.records)
  atom_grows None w = omega arith

  turn_grows : (m : Mark) (rest : List Token) (w : Way) → length w.records ≤ length (turn names classes m rest w).records
  unfolding turn
  turn_grows Any rest w = atom_grows (atom_ahead names classes 0 rest) w
  turn_grows All rest w = atom_grows (atom_ahead names classes 2 rest) w
  turn_grows Edge rest w = omega arith
  turn_grows And rest w = omega (arith, length_inserted (run (key w.level 2) w.keys) (operator_record 4) w.records)
  turn_grows Or rest w = omega (arith, length_inserted (run (key w.level 1) w.keys) (operator_record 5) w.records)
  turn_grows Not rest w = omega (arith, length_inserted 0 (operator_record 6) w.records)
  turn_grows Open rest w = omega arith
  turn_grows Close rest w = omega arith
  turn_grows Other rest w = omega arith

  walk_grows : (ts : List Token) (w : Way) → length w.records ≤ length (walked names classes ts w).records
  unfolding walked
  walk_grows [] w = omega arith
  walk_grows (t ∷ rest) w =
      let v : Way = turn names classes (mark_of (kind_of t)) rest w in
      omega (arith, turn_grows (mark_of (kind_of t)) rest w, walk_grows rest v)

-- the loop's invariant: what the tables hold is what the walk knows here, if all records have room
pub record Underway (text names classes : List ℕ) (size : ℕ) (bytes keys : List ℕ) (s : Stand) (at : ℕ) : Type 0 where
  pub inside : at ≤ length text
  pub low : s.level ≤ at
  pub held : length keys ≡ 1024
  pub kept : length bytes ≡ size
  pub safe : Safe s keys bytes
  pub known : (all : Way) → all ≡ walked (records_in 32 names) (records_in 36 classes) (tokens_from text 0) at_first → Fits all keys bytes
      → (w : Way) × Shows s keys bytes w × (all ≡ walked (records_in 32 names) (records_in 36 classes) (tokens_from text at) w)

module _ (text names classes : List ℕ) where
  abbrev N : List (List ℕ)
  N = records_in 32 names

  abbrev C : List (List ℕ)
  C = records_in 36 classes

  pub underway_first : (keys bytes : List ℕ) → length keys ≡ 1024 → Underway text names classes (length bytes) bytes keys (record { level = 0; first = 0; count = 0 }) 0
  unfolding latest eights
  underway_first keys bytes h =
      record {
        inside = omega arith;
        low = omega arith;
        held = h;
        kept = refl;
        safe = record { begun = omega arith; held = omega arith; room = omega arith };
        known = λ all e fit. (at_first, record { level = refl; latest_keys = refl; count = refl; records = refl }, e);
      }

  module _ (size : ℕ) (bytes keys : List ℕ) (s : Stand) (at kind start end : ℕ) (u : Underway text names classes size bytes keys s at) (n : Next text at kind start end) where
    pub underway_less : (kind ≡ 26 → ⊥) → length text - end < length text - at
    underway_less z = let g = goes text at kind start end n z in omega arith

    pub underway_low : (kind ≡ 26 → ⊥) → length text < 9223372036854775808 → s.level < 9223372036854775807
    underway_low z h =
        let g = goes text at kind start end n z in
        let low = u.low in
        omega arith

    -- the word at the place does what its mark says
    underway_turn : (mark : Mark) (w : Way) → (kind ≡ 26 → ⊥) → mark ≡ mark_of kind
        → walked N C (tokens_from text at) w ≡ walked N C (tokens_from text end) (turn N C mark (tokens_from text end) w)
    unfolding walked
    underway_turn mark w z e =
        let rest = tokens_from text end in
        ap (λ (ts : List Token). walked N C ts w) (T.turn text at kind start end n z)
        ∙ ap (λ (m : Mark). walked N C rest (turn N C m rest w)) (ap mark_of (kind_as kind (stretch text start end)) ∙ sym e)

    pub underway_more : (mark : Mark) (r : Stand) (after_bytes after_keys : List ℕ) → (kind ≡ 26 → ⊥) → mark ≡ mark_of kind → length after_keys ≡ length keys → length after_bytes ≡ length bytes
        → Turned s r keys bytes after_keys after_bytes (turn N C mark (tokens_from text end)) → Underway text names classes size after_bytes after_keys r end
    underway_more mark r after_bytes after_keys z e a b t =
        let g = goes text at kind start end n z in
        let low = u.low in
        let risen = t.risen in
        record { inside = g.inside; low = omega arith; held = a ∙ u.held; kept = b ∙ u.kept; safe = t.safe; known = onward }
      where
        rest : List Token
        rest = tokens_from text end

        onward : (all : Way) → all ≡ walked N C (tokens_from text 0) at_first → Fits all after_keys after_bytes
            → (w : Way) × Shows r after_keys after_bytes w × (all ≡ walked N C rest w)
        onward all f fit =
            let (w, shown, q) = u.known all f ((omega arith), (omega arith)) in
            let v : Way = turn N C mark rest w in
            let whole : all ≡ walked N C rest v = q ∙ underway_turn mark w z e in
            let grow = walk_grows N C rest v in
            let long : length all.records ≡ length (walked N C rest v).records = ap (λ (x : Way). length x.records) whole in
            (v, t.shows w shown ((omega arith), (omega arith)), whole)

    pub underway_last : kind ≡ 26 → Ordered text names classes bytes s.count
    unfolding walked turn mark_of kind_of in_prefix_order tokens_from words_from words
    underway_last z = record { room = u.safe.room; right = right }
      where
        right : (l : Lists) (t : Text) → l.names ≡ names → l.classes ≡ classes → Says text t → text_known l t ≡ true → length (child_names l) ≤ 32
            → length (class_names l) ≤ 8 → length (all_guards (class_in l t)) ≤ 1024 → length (all_guards (class_in l t)) * 8 ≤ length bytes
            → (s.count ≡ length (all_guards (class_in l t))) × (take (s.count * 8) bytes ≡ eights (all_guards (class_in l t)))
        right l t en ec says k few fewer fits room =
            let all : Way = walked N C (tokens_from text 0) at_first in
            let p : all.records ≡ all_guards (class_in l t) =
            ap (λ (x : List ℕ). (walked (records_in 32 x) C (tokens_from text 0) at_first).records) (sym en)
            ∙ ap (λ (x : List ℕ). (walked (child_names l) (records_in 36 x) (tokens_from text 0) at_first).records) (sym ec)
            ∙ ap (λ (ts : List Token). (walked (child_names l) (class_names l) ts at_first).records) (sym says)
            ∙ text_walk l few fewer t k in
            let h = u.held in
            let len : length all.records ≡ length (all_guards (class_in l t)) = ap length p in
            let (w, shown, q) = u.known all refl ((omega arith), (omega arith)) in
            let r : w.records ≡ all_guards (class_in l t) =
            ap (λ (x : Way). x.records) (sym (q ∙ ap (λ (ts : List Token). walked N C ts w) (last text at kind start end n z))) ∙ p in
            (sym shown.count ∙ ap length r, shown.records ∙ ap eights r)
