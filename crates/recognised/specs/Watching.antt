-- Whether the innermost open if has had its else, by watching one level from a place where no if was open.
-- Assumes nothing.
use Rattle.std.specs.Prelude.{ℕ, suc, ◌<◌, ◌≤◌, ◌≡◌, Bool, false, ◌&&◌, ◌||◌, not, List, [], ◌∷◌, eqb, length, get_or}
use Rattle.model.specs.Words.{choose}
use Rattle.grammar.specs.Grammar.{then_word, else_word}
use Rattle.grammar.specs.Words.{Word}
use Rattle.grammar.specs.Kinds.{kind_of}
use Rattle.words.specs.Scanning.{words_from}
use Rattle.steps.specs.Opening.{Ifs, had_else, ifs_after}

-- the words from one place to another
unfoldable pub Along : List ℕ → ℕ → List Word → ℕ → Type 0
Along text at [] to = at ≡ to
Along text at (w ∷ ws) to = (words_from text at ≡ w ∷ words_from text w.end) × (at < w.end) × Along text w.end ws to

-- the open ifs behind words
unfoldable pub ifs_along : Ifs → List Word → Ifs
ifs_along b [] = b
ifs_along b (w ∷ ws) = ifs_along (ifs_after b (kind_of w.token)) ws

-- whether the if at the watched level has had its else, behind a word of a kind, where so many ifs are open
unfoldable pub seen_after : Bool → ℕ → ℕ → ℕ → Bool
seen_after seen level watched k = choose (eqb level watched) (λ _. not (eqb k (suc then_word)) && (eqb k (suc else_word) || seen)) (λ _. seen)

-- the last place where no if was open
unfoldable pub begun_at : ℕ → ℕ → ℕ → ℕ
begun_at from at ifs = choose (eqb ifs 0) (λ _. at) (λ _. from)

-- of the ifs that are open behind the words from one place to another, so many, the innermost one has had its else
unfoldable pub Watched : List ℕ → ℕ → ℕ → ℕ → Bool → Type 0
Watched text from to ifs r = (ws : List Word) → Along text from ws to → length (ifs_along [] ws) ≡ ifs → (ifs ≡ 0 → ⊥) → r ≡ had_else (ifs_along [] ws)

-- whether the if at level d had its else, the outermost level being 1
unfoldable pub bit_at : Ifs → ℕ → Bool
bit_at [] d = false
bit_at (e ∷ b) d = choose (eqb (suc (length b)) d) (λ _. e) (λ _. bit_at b d)

-- the levels of the open ifs are marked so, as far as there are marks
abbrev pub Marks : List Bool → Ifs → Type 0
Marks m b = (d : ℕ) → (d ≡ 0 → ⊥) → d < length m → d ≤ length b → get_or m d false ≡ bit_at b d

-- behind a word of a kind, where so many ifs are open, the marks are these
pub record Noted (m : List Bool) (level k : ℕ) (m' : List Bool) : Type 0 where
  pub as_many : length m' ≡ length m
  pub marked : (d : ℕ) → d < length m → get_or m' d false ≡ seen_after (get_or m d false) level d k

-- the same, where the next word is else, and the marks are those of the open ifs
unfoldable pub HadElse : List ℕ → ℕ → ℕ → ℕ → ℕ → List Bool → Bool → Type 0
HadElse text from to ifs kind m r = kind ≡ suc else_word → (ws : List Word) → Along text from ws to → length (ifs_along [] ws) ≡ ifs → Marks m (ifs_along [] ws)
    → r ≡ had_else (ifs_along [] ws)
