-- The loop that reads a head, field by field.
-- Assumes nothing.
use Prim.Native.Nat.{ℕ, ◌+◌, ◌-◌, ◌<◌, ◌≤◌}
use native.Mathlib.Omega.{arith}
use mathlib.Core.Path.{◌≡◌, refl, sym, ◌∙◌, ap, subst}
use mathlib.Core.Bool.{Bool}
use mathlib.Core.List.{List, [], ◌∷◌, ◌++◌}
use lib.ListN.{length, take, drop, take-append-drop}
use lib.Seq.{drop-drop, length-take-le}
use Rattle.model.specs.Words.{choose}
use Rattle.naming.specs.NameLists.{Lists}
use Rattle.classfile.specs.Fields.{Field, field, fields_from, behind, Next}
use Rattle.classfile.specs.Heads as H
use Rattle.classfile.specs.Heads.{Rooms, Outcome, read, wrong, reads, head_of}
use Rattle.classfile.specs.Reads.{Turn, Answer, on_line, bad_line, head_answer, used, Fits, Stands, shown, told, Behind, Same, Kept, Going, rooms, FieldTurned, answer_of, lists_of, over, HeadRead, Inside}
use Rattle.classfile.specs.declared.fields.Kind.{Kind}
use Rattle.classfile.specs.declared.fields.Kind.TheVariants.{FileEnd}
use Rattle.classfile.specs.declared.parts.Fault.{Fault}
use Rattle.classfile.specs.declared.parts.Fault.TheVariants.{NoEmptyLine}
use Rattle.classfile.specs.declared.heads.Used.{Used}
use Rattle.classfile.specs.declared.heads.Line.{Line}
use Rattle.classfile.specs.declared.heads.Line.TheVariants.{Begins}
use Rattle.std.specs.Prelude.{Ok, Err, None}
use Rattle.classfile.proofs.FieldLaws.{file_end, no_file_end}

-- the buffers keep their lengths
pub record Sizes (n c k n' c' k' : List ℕ) : Type 0 where
  pub names : length n' ≡ length n
  pub commands : length c' ≡ length c
  pub classes : length k' ≡ length k

-- what is kept from a place on is kept from a later one on
farther : (u v : ℕ) (l m n : List ℕ) → drop u m ≡ drop u l → (u ≤ v) × (drop v n ≡ drop v m) → drop v n ≡ drop v l
farther u v l m n e (h, f) =
    let d : u + (v - u) ≡ v = omega arith in
    f ∙ (ap (λ (j : ℕ). drop j m) (sym d) ∙ (sym (drop-drop (v - u) u m) ∙ (ap (drop (v - u)) e ∙ (drop-drop (v - u) u l ∙ ap (λ (j : ℕ). drop j l) d))))

-- the head of a file, read as far as here
pub record Way (file n₀ c₀ k₀ n c k : List ℕ) (line : Line) (u : Used) (at : ℕ) : Type 0 where
  pub same : reads file (rooms n₀ c₀ k₀) line (shown u n c k) (fields_from file at) ≡ head_of file (rooms n₀ c₀ k₀)
  pub fits : Fits u n c k
  pub stands : Stands file line u k
  pub kept : Behind u u n₀ c₀ k₀ n c k
  pub sizes : Sizes n₀ c₀ k₀ n c k
  pub inside : at ≤ length file

-- a field that is not the file's end leaves less of the file
pub shorter : (file : List ℕ) (at : ℕ) (kind : Kind) (start end : ℕ) → Next file at kind start end → (kind ≡ FileEnd → ⊥) → length file - end < length file - at
shorter file at kind start end x h =
    let a = x.onward in
    let b = x.inside in
    let c = x.moves h in
    omega arith

pub way_none : (file n c k : List ℕ) → Way file n c k n c k Begins (used 0 0 0) 0
unfolding head_of
way_none file n c k =
    record {
      same = refl;
      fits = record { names = (omega arith); commands = (omega arith); classes = omega arith };
      stands = tt;
      kept = record { names = (omega arith, refl); commands = (omega arith, refl); classes = (omega arith, refl) };
      sizes = record { names = refl; commands = refl; classes = refl };
      inside = omega arith;
    }

-- a field that is not the file's end
reads_on : (file : List ℕ) (room : Rooms) (line : Line) (l : Lists) (kind : Kind) (start end : ℕ) (fs : List Field) (t : H.Turn) → (kind ≡ FileEnd → ⊥)
    → t ≡ H.turn file room kind start end line l
    → reads file room line l (field kind start end ∷ fs) ≡ H.after t l start end (λ next m. reads file room next m fs)
unfolding reads
reads_on file room line l kind start end fs t h e = rw (no_file_end kind h, e)

reads_end : (file : List ℕ) (room : Rooms) (line : Line) (l : Lists) (kind : Kind) (start end : ℕ) (fs : List Field) → kind ≡ FileEnd
    → reads file room line l (field kind start end ∷ fs) ≡ wrong NoEmptyLine start end l
unfolding reads
reads_end file room line l kind start end fs h = rw (file_end kind h)

module _ (file n₀ c₀ k₀ n c k : List ℕ) (line : Line) (u : Used) (at : ℕ) (kind : Kind) (start end : ℕ) (w : Way file n₀ c₀ k₀ n c k line u at) (x : Next file at kind start end) where
  -- what the head comes to by this field
  ahead : reads file (rooms n₀ c₀ k₀) line (shown u n c k) (field kind start end ∷ behind file kind end) ≡ head_of file (rooms n₀ c₀ k₀)
  ahead = ap (reads file (rooms n₀ c₀ k₀) line (shown u n c k)) (sym x.fields) ∙ w.same

  same_room : rooms n c k ≡ rooms n₀ c₀ k₀
  same_room = λ i. record { names = w.sizes.names i; commands = w.sizes.commands i; classes = w.sizes.classes i }

  -- the file ends
  pub at_end : kind ≡ FileEnd → head_of file (rooms n₀ c₀ k₀) ≡ wrong NoEmptyLine start end (shown u n c k)
  at_end e = sym ahead ∙ reads_end file (rooms n₀ c₀ k₀) line (shown u n c k) kind start end (behind file kind end) e

  module _ (h : kind ≡ FileEnd → ⊥) (r : Turn) (n' c' k' : List ℕ) (t : FieldTurned file kind start end line u n c k r n' c' k') where
    turned : told r n' c' k' ≡ H.turn file (rooms n₀ c₀ k₀) kind start end line (shown u n c k)
    turned = t.says ∙ ap (λ (z : Rooms). H.turn file z kind start end line (shown u n c k)) same_room

    goes : head_of file (rooms n₀ c₀ k₀)
        ≡ H.after (told r n' c' k') (shown u n c k) start end (λ next m. reads file (rooms n₀ c₀ k₀) next m (behind file kind end))
    goes = sym ahead ∙ reads_on file (rooms n₀ c₀ k₀) line (shown u n c k) kind start end (behind file kind end) (told r n' c' k') h turned

    pub at_over : r ≡ Ok None → head_of file (rooms n₀ c₀ k₀) ≡ read (shown u n c k) end
    at_over e = goes ∙ ap (λ (z : Turn). H.after (told z n' c' k') (shown u n c k) start end (λ next m. reads file (rooms n₀ c₀ k₀) next m (behind file kind end))) e

    pub at_bad : (b : Fault) → r ≡ Err b → head_of file (rooms n₀ c₀ k₀) ≡ wrong b start end (shown u n c k)
    at_bad b e = goes ∙ ap (λ (z : Turn). H.after (told z n' c' k') (shown u n c k) start end (λ next m. reads file (rooms n₀ c₀ k₀) next m (behind file kind end))) e

    -- the head goes on
    pub way_on : (next : Line) (v : Used) → r ≡ on_line next v → Sizes n c k n' c' k' → Way file n₀ c₀ k₀ n' c' k' next v end
    way_on next v e z =
        let g : Going file (on_line next v) n' c' k' = subst (λ (y : Turn). Going file y n' c' k') e t.going in
        let b : Behind u v n c k n' c' k' = subst (λ (y : Turn). Kept y u n c k n' c' k') e t.kept in
        record {
          same =
              sym (goes ∙ ap (λ (y : Turn). H.after (told y n' c' k') (shown u n c k) start end (λ next m. reads file (rooms n₀ c₀ k₀) next m (behind file kind end))) e
              ∙ ap (λ (q : Bool). reads file (rooms n₀ c₀ k₀) next (shown v n' c' k') (choose q (λ _. []) (λ _. fields_from file end))) (no_file_end kind h));
          fits = g.0;
          stands = g.1;
          kept =
              record {
                names = (omega arith, farther u.names v.names n₀ n n' w.kept.names.1 b.names);
                commands = (omega arith, farther u.commands v.commands c₀ c c' w.kept.commands.1 b.commands);
                classes = (omega arith, farther u.classes v.classes k₀ k k' w.kept.classes.1 b.classes);
              };
          sizes =
              record {
                names = z.names ∙ w.sizes.names;
                commands = z.commands ∙ w.sizes.commands;
                classes = z.classes ∙ w.sizes.classes;
              };
          inside = x.inside;
        }

-- a list at the front of its buffer
front : (u : ℕ) (n₀ n : List ℕ) → u ≤ length n → drop u n ≡ drop u n₀ → n ≡ over (take u n) n₀
front u n₀ n h e =
    sym (take-append-drop u n) ∙ ap (λ (l : List ℕ). take u n ++ l) (e ∙ ap (λ (j : ℕ). drop j n₀) (sym (length-take-le u n h)))

-- what is said in the end
module _ (file n₀ c₀ k₀ n c k : List ℕ) (u : Used) (f : Fits u n c k) (b : Behind u u n₀ c₀ k₀ n c k) where
  pub said : (o : Outcome) (r : Answer) → head_of file (rooms n₀ c₀ k₀) ≡ o → r ≡ answer_of o → lists_of o ≡ shown u n c k → HeadRead file n₀ c₀ k₀ r n c k
  said o r e a l =
      let m : lists_of (head_of file (rooms n₀ c₀ k₀)) ≡ shown u n c k = ap lists_of e ∙ l in
      record {
        answer = a ∙ ap answer_of (sym e);
        names = front u.names n₀ n f.names b.names.1 ∙ ap (λ (z : Lists). over z.names n₀) (sym m);
        commands = front u.commands c₀ c f.commands b.commands.1 ∙ ap (λ (z : Lists). over z.commands c₀) (sym m);
        classes = front u.classes k₀ k f.classes b.classes.1 ∙ ap (λ (z : Lists). over z.classes k₀) (sym m);
      }

  pub said_read : (at : ℕ) → head_of file (rooms n₀ c₀ k₀) ≡ read (shown u n c k) at → HeadRead file n₀ c₀ k₀ (head_answer u at) n c k
  unfolding answer_of lists_of
  said_read at e =
      said (read (shown u n c k) at) (head_answer u at) e
      (λ i. head_answer (used (sym (length-take-le u.names n f.names) i) (sym (length-take-le u.commands c f.commands) i) (sym (length-take-le u.classes k f.classes) i)) at) refl

  pub said_wrong : (x : Fault) (start end : ℕ) → head_of file (rooms n₀ c₀ k₀) ≡ wrong x start end (shown u n c k) → HeadRead file n₀ c₀ k₀ (bad_line x start end) n c k
  unfolding answer_of lists_of
  said_wrong x start end e = said (wrong x start end (shown u n c k)) (bad_line x start end) e refl refl

-- buffers that are as they were
same_said : (file n₀ c₀ k₀ n c k n' c' k' : List ℕ) (r : Answer) → Same n c k n' c' k' → HeadRead file n₀ c₀ k₀ r n c k → HeadRead file n₀ c₀ k₀ r n' c' k'
same_said file n₀ c₀ k₀ n c k n' c' k' r s h =
    record { answer = h.answer; names = s.names ∙ h.names; commands = s.commands ∙ h.commands; classes = s.classes ∙ h.classes }

same_fits : (n c k n' c' k' : List ℕ) (u : Used) → Same n c k n' c' k' → Fits u n c k → Fits u n' c' k'
same_fits n c k n' c' k' u s f =
    let a = ap length s.names in
    let b = ap length s.commands in
    let d = ap length s.classes in
    let x = f.names in
    let y = f.commands in
    let z = f.classes in
    record { names = (omega arith); commands = (omega arith); classes = omega arith }

module _ (file n₀ c₀ k₀ n c k : List ℕ) (line : Line) (u : Used) (at : ℕ) (kind : Kind) (start end : ℕ) (w : Way file n₀ c₀ k₀ n c k line u at) (x : Next file at kind start end) where
  pub ends : kind ≡ FileEnd → Inside (bad_line NoEmptyLine start end) file n c k × HeadRead file n₀ c₀ k₀ (bad_line NoEmptyLine start end) n c k
  ends e = (
    (x.order, x.inside),
    said_wrong file n₀ c₀ k₀ n c k u w.fits w.kept NoEmptyLine start end (at_end file n₀ c₀ k₀ n c k line u at kind start end w x e),
  )

  module _ (h : kind ≡ FileEnd → ⊥) (r : Turn) (n' c' k' : List ℕ) (t : FieldTurned file kind start end line u n c k r n' c' k') where
    pub is_over : r ≡ Ok None → Inside (head_answer u end) file n' c' k' × HeadRead file n₀ c₀ k₀ (head_answer u end) n' c' k'
    is_over e =
        let s : Same n c k n' c' k' = subst (λ (y : Turn). Kept y u n c k n' c' k') e t.kept in (
          (same_fits n c k n' c' k' u s w.fits, x.inside),
          same_said file n₀ c₀ k₀ n c k n' c' k' (head_answer u end) s
              (said_read file n₀ c₀ k₀ n c k u w.fits w.kept end (at_over file n₀ c₀ k₀ n c k line u at kind start end w x h r n' c' k' t e)),
        )

    pub is_bad : (b : Fault) → r ≡ Err b → Inside (bad_line b start end) file n' c' k' × HeadRead file n₀ c₀ k₀ (bad_line b start end) n' c' k'
    is_bad b e =
        let s : Same n c k n' c' k' = subst (λ (y : Turn). Kept y u n c k n' c' k') e t.kept in (
          (x.order, x.inside),
          same_said file n₀ c₀ k₀ n c k n' c' k' (bad_line b start end) s
              (said_wrong file n₀ c₀ k₀ n c k u w.fits w.kept b start end (at_bad file n₀ c₀ k₀ n c k line u at kind start end w x h r n' c' k' t b e)),
        )
