-- What the code's turns come to in lists.
-- Assumes nothing.
use Prim.Native.Nat.{ℕ, ◌+◌, ◌-◌, ◌≤◌, min}
use native.Mathlib.Omega.{arith}
use mathlib.Core.Path.{◌≡◌, refl, sym, ◌∙◌, ap, subst}
use mathlib.Core.Bool.{Bool, true, false, ◌&&◌}
use mathlib.Core.List.{List, ◌++◌}
use lib.Dec.{eqb, ltb, leb}
use lib.ListN.{length, take, drop, length-take, length-drop, length-append}
use lib.Seq.{sets, sets-eq, take_at, drop_at, length-sets, length-take-le}
use borrow.Author.Tests.{ltb-false, leb-true}
use Rattle.model.specs.Words.{choose, every, listed}
use Rattle.model.proofs.Words.{clash, and_left, and_right}
use Rattle.model.proofs.Lists.{length_listed}
use Rattle.grammar.specs.Words.{spelled, same, is_name, name_char, position, fixed_words, bare_runs}
use Rattle.naming.specs.NameLists.{padded, records_in, listed_in}
use Rattle.naming.proofs.TableLaws.{length_padded}
use Rattle.laying.specs.Laying.{number_bytes, entry}
use Rattle.lists.specs.Lent.{lent}
use Rattle.classfile.specs.Heads as H
use Rattle.classfile.specs.Heads.{Judged, Grown, stretch, judge_name, add_state, class_record, Rooms, judged, grown}
use Rattle.classfile.specs.Reads.{Turn, on_line, begun, used, Added, Named, Commanded, classed, stated, on_judged, on_grown, ended, ended_buffer, lined, lined_buffer, Fits, Stands, shown, Turned, rooms, Worded, FieldTurned}
use Rattle.classfile.specs.declared.fields.Kind.{Kind}
use Rattle.classfile.specs.declared.fields.Kind.TheVariants.{LineEnd}
use Rattle.classfile.specs.declared.parts.Fault.{Fault}
use Rattle.classfile.specs.declared.parts.Fault.TheVariants.{UnknownLine, LineTwice, NoName, NameTwice, TooMany, NoClass, NoStates}
use Rattle.classfile.specs.declared.heads.Used.{Used}
use Rattle.classfile.specs.declared.heads.Line.{Line}
use Rattle.classfile.specs.declared.heads.Line.TheVariants.{Begins, Names, Commands, Class, States}
use Rattle.std.specs.Prelude.{Ok, Err, None}
use Rattle.classfile.proofs.FieldLaws.{line_end, no_line_end}

-- what is known of a word that is fine
pub record Fine (size left : ℕ) (b w : List ℕ) : Type 0 where
  pub name : is_name w ≡ true
  pub new : listed_in (records_in size b) w ≡ false
  pub room : size ≤ left

fine_case : (size left : ℕ) (b w : List ℕ) (s t r : Bool) → is_name w ≡ s → listed_in (records_in size b) w ≡ t → ltb left size ≡ r
    → ◌≡◌ {A = Judged} (choose s (λ _. choose t (λ _. Err NameTwice) λ _. choose r (λ _. Err TooMany) λ _. Ok tt) (λ _. Err NoName)) (Ok tt) → Fine size left b w
fine_case size left b w true true r e f g h = absurd (clash cc)
fine_case size left b w true false true e f g h = absurd (clash cc)
fine_case size left b w true false false e f g h = record { name = e; new = f; room = ltb-false left size g }
fine_case size left b w false t r e f g h = absurd (clash cc)

pub fine_is : (size left : ℕ) (b w : List ℕ) → judge_name size left b w ≡ Ok tt → Fine size left b w
unfolding judge_name
fine_is size left b w h = fine_case size left b w (is_name w) (listed_in (records_in size b) w) (ltb left size) refl refl refl h

-- a name has at most 31 bytes
name_short : (w : List ℕ) → is_name w ≡ true → length w ≤ 31
unfolding is_name
name_short w h =
    leb-true (length w) 31
    (and_right (leb 1 (length w)) (leb (length w) 31)
    (and_left (leb 1 (length w) && leb (length w) 31) (every name_char w && (eqb (position fixed_words w) 25 && eqb (position bare_runs w) 7)) h))

-- a list that grows inside its buffer
pub grows : (l xs : List ℕ) (at n : ℕ) → length xs ≡ n → at + n ≤ length l
    → (take (at + n) (sets l at xs) ≡ take at l ++ xs) × (drop (at + n) (sets l at xs) ≡ drop (at + n) l)
grows l xs at n e h =
    let a : length (take at l) ≡ at = length-take-le at l (omega arith) in
    let s : length (take at l ++ xs) ≡ at + n = length-append (take at l) xs ∙ (let z : length (take at l) + length xs ≡ at + n = omega arith in z) in
    let f : sets l at xs ≡ take at l ++ xs ++ drop (at + n) l =
    sets-eq xs l at (omega arith) ∙ ap (λ (m : ℕ). take at l ++ xs ++ drop (at + m) l) e in (
      ap (take (at + n)) f ∙ take_at (take at l ++ xs) (drop (at + n) l) (at + n) s,
      ap (drop (at + n)) f ∙ drop_at (take at l ++ xs) (drop (at + n) l) (at + n) s,
    )

-- a class's record has 36 bytes
length_class : (name : List ℕ) (set : ℕ) → length name ≤ 31 → length (class_record name set) ≡ 36
unfolding class_record padded number_bytes entry
length_class name set h =
    length-append (name ++ listed 0 (32 - length name) (λ _. 0)) (number_bytes set)
    ∙ omega (arith, length-append name (listed 0 (32 - length name) (λ _. 0)), length_listed {A = ℕ} 0 (32 - length name) (λ _. 0))

module _ (file : List ℕ) (u : Used) (n c k : List ℕ) (f : Fits u n c k) where
  -- nothing is written
  on_still : (line : Line) → Stands file line u k → Turned file (H.on line (shown u n c k)) u n c k (on_line line u) n c k
  on_still line s = record { says = refl; kept = record { names = (omega arith, refl); commands = (omega arith, refl); classes = (omega arith, refl) }; going = (f, s) }

  bad_still : (x : Fault) → Turned file (H.bad x) u n c k (Err x) n c k
  bad_still x = record { says = refl; kept = record { names = refl; commands = refl; classes = refl }; going = tt }

  -- the first word of a line
  first_still : (w : List ℕ) → Turned file (H.first_turn (shown u n c k) w) u n c k (begun u w) n c k
  unfolding begun H.first_turn H.once
  first_still w =
      rw (length-take-le u.names n f.names, length-take-le u.commands c f.commands)
      (go (same (spelled "names") w) (same (spelled "commands") w) (same (spelled "class") w) (ltb 0 u.names) (ltb 0 u.commands))
    where
      go : (a b d p q : Bool)
          → Turned file
          (choose a (λ _. choose p (λ _. H.bad LineTwice) (λ _. H.on Names (shown u n c k))) λ _.
          choose b (λ _. choose q (λ _. H.bad LineTwice) (λ _. H.on Commands (shown u n c k))) λ _.
          choose d (λ _. H.on Class (shown u n c k)) λ _. H.bad UnknownLine)
          u n c k
          (choose a (λ _. choose p (λ _. Err LineTwice) (λ _. on_line Names u)) λ _.
          choose b (λ _. choose q (λ _. Err LineTwice) (λ _. on_line Commands u)) λ _. choose d (λ _. on_line Class u) λ _. Err UnknownLine)
          n c k
      go true b d true q = bad_still LineTwice
      go true b d false q = on_still Names tt
      go false true d p true = bad_still LineTwice
      go false true d p false = on_still Commands tt
      go false false true p q = on_still Class tt
      go false false false p q = bad_still UnknownLine

  pub first_turned : (start end : ℕ) (line : Line) (r : Turn) → line ≡ Begins → r ≡ begun u (stretch file start end) → Worded file start end line u n c k r n c
  unfolding H.word_turn
  first_turned start end line r e g = rw (e, g) (first_still (stretch file start end))

  -- a word that is judged and nothing is written for
  judged_still : (line : Line) (j : Judged) → (j ≡ Ok tt → Stands file line u k)
      → Turned file (judged j λ _. H.on line (shown u n c k)) u n c k (on_judged j (on_line line u)) n c k
  judged_still line (Ok tt) s = on_still line (s refl)
  judged_still line (Err x) s = bad_still x

  -- a word of the names line
  name_go : (w n' : List ℕ) (j : Judged) → Added n u.names w j n'
      → Turned file
      (judged j λ _. H.on Names (lent (take u.names n ++ padded w) (take u.commands c) (take u.classes k)))
      u n c k
      (on_judged j (on_line Names (used (u.names + 32) u.commands u.classes)))
      n' c k
  name_go w n' (Ok tt) a =
      let good = fine_is 32 (length n - u.names) (take u.names n) w (sym a.judged) in
      let room = good.room in
      let fits = f.names in
      let (t, d) = grows n (padded w) u.names 32 (length_padded w good.name) (omega arith) in
      let b : n' ≡ sets n u.names (padded w) = a.buffer in
      let m : length n' ≡ length n = ap length b ∙ length-sets n u.names (padded w) in
      record {
        says = λ i. H.on Names (lent ((ap (take (u.names + 32)) b ∙ t) i) (take u.commands c) (take u.classes k));
        kept = record { names = (omega arith, ap (drop (u.names + 32)) b ∙ d); commands = (omega arith, refl); classes = (omega arith, refl) };
        going = (record { names = (omega arith); commands = f.commands; classes = f.classes }, tt);
      }
  name_go w n' (Err x) a = record { says = refl; kept = record { names = a.buffer; commands = refl; classes = refl }; going = tt }

  pub name_turned : (start end : ℕ) (line : Line) (r : Turn) (n' : List ℕ) → line ≡ Names → Named u n (stretch file start end) r n'
      → Worded file start end line u n c k r n' c
  unfolding H.word_turn
  name_turned start end line r n' e d =
      rw (e, d.turn, length-take-le u.names n f.names, sym d.added.judged) (name_go (stretch file start end) n' d.judged d.added)

  -- a word of the commands line
  command_go : (w c' : List ℕ) (j : Judged) → Added c u.commands w j c'
      → Turned file
      (judged j λ _. H.on Commands (lent (take u.names n) (take u.commands c ++ padded w) (take u.classes k)))
      u n c k
      (on_judged j (on_line Commands (used u.names (u.commands + 32) u.classes)))
      n c' k
  command_go w c' (Ok tt) a =
      let good = fine_is 32 (length c - u.commands) (take u.commands c) w (sym a.judged) in
      let room = good.room in
      let fits = f.commands in
      let (t, d) = grows c (padded w) u.commands 32 (length_padded w good.name) (omega arith) in
      let b : c' ≡ sets c u.commands (padded w) = a.buffer in
      let m : length c' ≡ length c = ap length b ∙ length-sets c u.commands (padded w) in
      record {
        says = λ i. H.on Commands (lent (take u.names n) ((ap (take (u.commands + 32)) b ∙ t) i) (take u.classes k));
        kept = record { names = (omega arith, refl); commands = (omega arith, ap (drop (u.commands + 32)) b ∙ d); classes = (omega arith, refl) };
        going = (record { names = f.names; commands = (omega arith); classes = f.classes }, tt);
      }
  command_go w c' (Err x) a = record { says = refl; kept = record { names = refl; commands = a.buffer; classes = refl }; going = tt }

  pub command_turned : (start end : ℕ) (line : Line) (r : Turn) (c' : List ℕ) → line ≡ Commands → Commanded u c (stretch file start end) r c'
      → Worded file start end line u n c k r n c'
  unfolding H.word_turn
  command_turned start end line r c' e d =
      rw (e, d.turn, length-take-le u.commands c f.commands, sym d.added.judged) (command_go (stretch file start end) c' d.judged d.added)

  -- a class's name
  class_stands : (start end : ℕ) → start ≤ end → end ≤ length file
      → judge_name 36 (length k - u.classes) (take u.classes k) (stretch file start end) ≡ Ok tt → Stands file (States start end 0) u k
  class_stands start end o i e =
      let good = fine_is 36 (length k - u.classes) (take u.classes k) (stretch file start end) e in
      let room = good.room in
      let fits = f.classes in
      let short = name_short (stretch file start end) good.name in
      let long : length (stretch file start end) ≡ end - start =
      length-take (end - start) (drop start file) ∙ (let z = length-drop start file in let y : min (end - start) (length (drop start file)) ≡ end - start = omega arith in y) in
      (o, i, omega arith, omega arith)

  pub class_turned : (start end : ℕ) (line : Line) (r : Turn) → start ≤ end → end ≤ length file → line ≡ Class → r ≡ classed u k (stretch file start end) start end
      → Worded file start end line u n c k r n c
  unfolding H.word_turn classed
  class_turned start end line r o i e g =
      rw (e, g, length-take-le u.classes k f.classes)
      (judged_still (States start end 0) (judge_name 36 (length k - u.classes) (take u.classes k) (stretch file start end)) (class_stands start end o i))

  -- a state of a class
  grown_still : (a b : ℕ) (g : Grown) → ((more : ℕ) → Stands file (States a b more) u k)
      → Turned file (grown g λ more. H.on (States a b more) (shown u n c k)) u n c k (on_grown g (λ more. on_line (States a b more) u)) n c k
  grown_still a b (Ok more) s = on_still (States a b more) (s more)
  grown_still a b (Err x) s = bad_still x

  pub state_turned : (start end : ℕ) (line : Line) (r : Turn) (a b set : ℕ) → line ≡ States a b set → Stands file line u k
      → r ≡ stated u n (stretch file start end) a b set → Worded file start end line u n c k r n c
  unfolding H.word_turn stated
  state_turned start end line r a b set e s g =
      rw (e, g)
      (grown_still a b (add_state (take u.names n) set (stretch file start end)) (λ more. subst (λ (x : Line). Stands file x u k) e s))

  over_still : Turned file H.over u n c k (Ok None) n c k
  over_still = record { says = refl; kept = record { names = refl; commands = refl; classes = refl }; going = tt }

  -- the end of a class's line
  class_ended : (name : List ℕ) (set : ℕ) → length name ≤ 31 → u.classes + 36 ≤ length k
      → Turned file (H.on Begins (lent (take u.names n) (take u.commands c) (take u.classes k ++ class_record name set))) u n c k
      (on_line Begins (used u.names u.commands (u.classes + 36))) n c (sets k u.classes (class_record name set))
  class_ended name set s h =
      let (t, d) = grows k (class_record name set) u.classes 36 (length_class name set s) h in
      let m : length (sets k u.classes (class_record name set)) ≡ length k = length-sets k u.classes (class_record name set) in
      record {
        says = λ i. H.on Begins (lent (take u.names n) (take u.commands c) (t i));
        kept = record { names = (omega arith, refl); commands = (omega arith, refl); classes = (omega arith, d) };
        going = (record { names = f.names; commands = f.commands; classes = omega arith }, tt);
      }

  line_go : (line : Line) → Stands file line u k
      → Turned file (H.line_turn file (rooms n c k) line (shown u n c k)) u n c k (lined line u) n c (lined_buffer file line u k)
  unfolding H.line_turn lined lined_buffer ended ended_buffer
  line_go Begins s = over_still
  line_go Names s = on_still Begins tt
  line_go Commands s = on_still Begins tt
  line_go Class s = bad_still NoClass
  line_go (States a b set) s = go (eqb set 0)
    where
      short : length (stretch file a b) ≤ 31
      short = let z = length-take (b - a) (drop a file) in let y = s.2 in omega arith

      go : (t : Bool)
          → Turned file
          (choose t (λ _. H.bad NoStates) λ _. H.on Begins (lent (take u.names n) (take u.commands c) (take u.classes k ++ class_record (stretch file a b) set)))
          u n c k
          (choose t (λ _. Err NoStates) (λ _. on_line Begins (used u.names u.commands (u.classes + 36))))
          n c
          (choose t (λ _. k) (λ _. sets k u.classes (class_record (stretch file a b) set)))
      go true = bad_still NoStates
      go false = class_ended (stretch file a b) set short s.3

  -- a field
  pub line_turned : (kind : Kind) (start end : ℕ) (line : Line) (r : Turn) (k' : List ℕ) → kind ≡ LineEnd → Stands file line u k
      → (r ≡ lined line u) × (k' ≡ lined_buffer file line u k) → FieldTurned file kind start end line u n c k r n c k'
  unfolding H.turn
  line_turned kind start end line r k' e s (a, b) = rw (line_end kind e, a, b) (line_go line s)

pub word_turned : (file : List ℕ) (kind : Kind) (start end : ℕ) (line : Line) (u : Used) (n c k : List ℕ) (r : Turn) (n' c' : List ℕ) → (kind ≡ LineEnd → ⊥)
    → Worded file start end line u n c k r n' c' → FieldTurned file kind start end line u n c k r n' c' k
unfolding H.turn
word_turned file kind start end line u n c k r n' c' e w = rw (no_line_end kind e) w
