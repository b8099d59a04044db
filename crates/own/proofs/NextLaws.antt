-- The turns of the loop that looks for the next name.
-- Assumes nothing.
use Prim.Native.Nat.{ℕ, suc, ◌-◌, ◌<◌, ◌≤◌}
use native.Mathlib.Omega.{arith}
use mathlib.Core.Path.{◌≡◌, refl, sym, ◌∙◌, ap}
use mathlib.Core.Bool.{Bool, true, false, ◌||◌}
use mathlib.Core.List.{List, [], ◌∷◌}
use lib.Dec.{eqb}
use lib.ListN.{length, take, drop}
use borrow.Author.Tests.{eqb-true, eqb-false, eq-eqb, ne_eqb}
use Rattle.model.specs.Words.{choose}
use Rattle.model.proofs.Words.{clash}
use Rattle.grammar.specs.Grammar.{Token, fixed, name, Name, end_word}
use Rattle.grammar.specs.Kinds.{kind_of, bytes_of, token_as}
use Rattle.words.specs.Scanning.{tokens_from, stretch, Next}
use Rattle.words.proofs.Turns.{turn, last, kind_as, a_name, a_fixed}
use Rattle.own.specs.Ahead.{first_bytes, names_ahead, names_from}
use Rattle.own.specs.Held.{Kinds, Here}

-- the loop's invariant: the names are those from i on
pub record Looking (text : List ℕ) (kind stop at i : ℕ) : Type 0 where
  pub names : names_from text kind stop at ≡ names_from text kind stop i
  pub onward : at ≤ i

module _ (kind stop : ℕ) (w : Token) (ws : List Token) where
  ahead_stop : kind_of w ≡ stop → names_ahead kind stop (w ∷ ws) ≡ []
  unfolding names_ahead
  ahead_stop e = rw (eq-eqb (kind_of w) stop e)

  ahead_on : (kind_of w ≡ stop → ⊥) → (kind_of w ≡ kind → ⊥) → names_ahead kind stop (w ∷ ws) ≡ names_ahead kind stop ws
  unfolding names_ahead
  ahead_on a b = rw (ne_eqb (kind_of w) stop a, ne_eqb (kind_of w) kind b)

  ahead_named : (kind_of w ≡ stop → ⊥) → kind_of w ≡ kind → names_ahead kind stop (w ∷ ws) ≡ first_bytes ws ∷ names_ahead kind stop ws
  unfolding names_ahead
  ahead_named a b = rw (ne_eqb (kind_of w) stop a, eq-eqb (kind_of w) kind b)

-- behind the end there is nothing
ahead_end : (kind stop : ℕ) → kind < 26 → names_ahead kind stop (fixed end_word ∷ []) ≡ []
unfolding names_ahead kind_of
ahead_end kind stop h = rw (ne_eqb 26 kind (λ e. omega arith)) (go (eqb 26 stop))
  where
    go : (b : Bool) → ◌≡◌ {A = List Name} (choose b (λ _. []) (λ _. [])) []
    go true = refl
    go false = refl

-- a name itself tells nothing
ahead_name : (kind stop : ℕ) → Kinds kind stop → (n : Name) (ws : List Token) → names_ahead kind stop (name n ∷ ws) ≡ names_ahead kind stop ws
unfolding names_ahead kind_of
ahead_name kind stop k n ws =
    let a = k.above in
    let b = k.stopping in
    rw (ne_eqb 0 stop (λ e. omega arith), ne_eqb 0 kind (λ e. omega arith))

-- no bytes of a word that is no name
first_fixed : (text : List ℕ) (at j u v : ℕ) → Next text at j u v → (j ≡ 0 → ⊥) → first_bytes (tokens_from text at) ≡ []
unfolding first_bytes bytes_of
first_fixed text at j u v m z = go (eqb j 26) refl
  where
    go : (b : Bool) → eqb j 26 ≡ b → first_bytes (tokens_from text at) ≡ []
    go true f = ap first_bytes (last text at j u v m (eqb-true j 26 f))
    go false f =
        ap first_bytes (turn text at j u v m (eqb-false j 26 f))
        ∙ ap bytes_of (a_fixed j (j - 1) (stretch text u v) (let y : j ≡ suc (j - 1) = omega arith in y))

either : (a b : Bool) → b ≡ false → (a || b) ≡ true → a ≡ true
either true b e h = refl
either false b e h = sym e ∙ h

-- the two tests that end the search
stops : (k stop : ℕ) → (eqb k stop || eqb k 26) ≡ false → (k ≡ stop → ⊥) × (k ≡ 26 → ⊥)
stops k stop h = go (eqb k stop) refl (eqb k 26) refl h
  where
    go : (a : Bool) → eqb k stop ≡ a → (b : Bool) → eqb k 26 ≡ b → (a || b) ≡ false → (k ≡ stop → ⊥) × (k ≡ 26 → ⊥)
    go true e b f g = absurd (clash (cc))
    go false e true f g = absurd (clash (cc))
    go false e false f g = (eqb-false k stop e, eqb-false k 26 f)

module _ (text : List ℕ) (kind stop at i k s e : ℕ) (ks : Kinds kind stop) (l : Looking text kind stop at i) (n : Next text i k s e) where
  pub search_over : (eqb k stop || eqb k 26) ≡ true → names_from text kind stop at ≡ []
  unfolding names_from
  search_over h = l.names ∙ go (eqb k 26) refl
    where
      go : (b : Bool) → eqb k 26 ≡ b → names_ahead kind stop (tokens_from text i) ≡ []
      go true f = ap (names_ahead kind stop) (last text i k s e n (eqb-true k 26 f)) ∙ ahead_end kind stop ks.below
      go false f =
          let g : eqb k stop ≡ true = either (eqb k stop) (eqb k 26) f h in
          ap (names_ahead kind stop) (turn text i k s e n (eqb-false k 26 f))
          ∙ ahead_stop kind stop (token_as k (stretch text s e)) (tokens_from text e) (kind_as k (stretch text s e) ∙ eqb-true k stop g)

  module _ (h : (eqb k stop || eqb k 26) ≡ false) where
    word : tokens_from text i ≡ token_as k (stretch text s e) ∷ tokens_from text e
    word = turn text i k s e n (stops k stop h).1

    pub search_less : length text - e < length text - i
    search_less =
        let (a, b) = stops k stop h in
        let x = n.onward in
        let y = n.moves b in
        let z = n.inside b in
        omega arith

    pub search_on : (k ≡ kind → ⊥) → Looking text kind stop at e
    unfolding names_from
    search_on o =
        let (a, b) = stops k stop h in
        record {
          names =
              l.names
              ∙ ap (names_ahead kind stop) word
              ∙ ahead_on kind stop (token_as k (stretch text s e)) (tokens_from text e) (λ z. a (sym (kind_as k (stretch text s e)) ∙ z)) (λ z. o (sym (kind_as k (stretch text s e)) ∙ z));
          onward = (let x = l.onward in let y = n.onward in let z = n.moves b in omega arith);
        }

    module _ (o : k ≡ kind) where
      behind : names_from text kind stop at ≡ first_bytes (tokens_from text e) ∷ names_from text kind stop e
      unfolding names_from
      behind =
          let (a, b) = stops k stop h in
          l.names
          ∙ ap (names_ahead kind stop) word
          ∙ ahead_named kind stop (token_as k (stretch text s e)) (tokens_from text e) (λ z. a (sym (kind_as k (stretch text s e)) ∙ z)) (kind_as k (stretch text s e) ∙ o)

      module _ (j u v : ℕ) (m : Next text e j u v) where
        pub name_found : j ≡ 0 → Here text kind stop at u v
        unfolding names_from first_bytes bytes_of
        name_found z =
            let (a, b) = stops k stop h in
            let q : j ≡ 26 → ⊥ = λ (y : j ≡ 26). omega arith in
            let p : tokens_from text e ≡ name (stretch text u v) ∷ tokens_from text v =
            turn text e j u v m q ∙ ap (λ (t : Token). t ∷ tokens_from text v) (a_name j (stretch text u v) z) in
            record {
              names = behind ∙ (λ d. first_bytes (p d) ∷ names_ahead kind stop (p d)) ∙ ap (λ (ns : List Name). stretch text u v ∷ ns) (ahead_name kind stop ks (stretch text u v) (tokens_from text v));
              onward = (let x = l.onward in let y = n.onward in let w = n.moves b in let c = m.onward in let d = m.moves q in omega arith);
              whole = (let d = m.moves q in omega arith);
              inside = m.inside q;
            }

        pub no_name_found : (j ≡ 0 → ⊥) → Here text kind stop at e e
        no_name_found z =
            let (a, b) = stops k stop h in
            let p : first_bytes (tokens_from text e) ≡ stretch text e e =
            first_fixed text e j u v m z ∙ ap (λ (x : ℕ). take x (drop e text)) (let y : 0 ≡ e - e = omega arith in y) in
            record {
              names = behind ∙ ap (λ (x : List ℕ). x ∷ names_from text kind stop e) p;
              onward = (let x = l.onward in let y = n.onward in let w = n.moves b in omega arith);
              whole = omega arith;
              inside = n.inside b;
            }
