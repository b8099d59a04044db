-- Every byte string is a text in one way only, or goes wrong at one place only.
-- Assumes nothing.
use Prim.Native.Nat.{ℕ}
use mathlib.Core.Path.{◌≡◌, refl, sym, ◌∙◌, ap}
use mathlib.Core.List.{List, [], ◌∷◌, ◌++◌}
use mathlib.Core.Option.{Option, none, some}
use mathlib.Core.Logic.{◌⊎◌, inl, inr}
use Rattle.grammar.specs.Grammar.{Text}
use Rattle.grammar.specs.Words.{Word, words, tokens}
use Rattle.grammar.specs.Machine.{start}
use Rattle.grammar.specs.Reading.{Says, WrongAt, OneWay}
use Rattle.grammar.proofs.Complete as complete
use Rattle.grammar.proofs.Reached.{tokens_behind, tokens_append, reached_none, stuck_at, Settled, settled}

-- two splits of one list at an entry
pub data Splits (xs ys : List Word) (x y : Word) : Type 0 where
  alike : xs ≡ ys → x ≡ y → Splits xs ys x y
  earlier : (zs : List Word) → ys ≡ xs ++ (x ∷ zs) → Splits xs ys x y
  later : (zs : List Word) → xs ≡ ys ++ (y ∷ zs) → Splits xs ys x y

splits : (xs ys as' bs : List Word) (x y : Word) → xs ++ (x ∷ as') ≡ ys ++ (y ∷ bs) → Splits xs ys x y
splits [] [] as' bs x y e = alike refl (cc)
splits [] (v ∷ ys) as' bs x y e = let h : v ≡ x = cc in earlier ys (ap (λ (w : Word). w ∷ ys) h)
splits (u ∷ xs) [] as' bs x y e = let h : u ≡ y = cc in later xs (ap (λ (w : Word). w ∷ xs) h)
splits (u ∷ xs) (v ∷ ys) as' bs x y e =
    let h : u ≡ v = cc in
    let t : xs ++ (x ∷ as') ≡ ys ++ (y ∷ bs) = cc in
    go h (splits xs ys as' bs x y t)
  where
    go : u ≡ v → Splits xs ys x y → Splits (u ∷ xs) (v ∷ ys) x y
    go h (alike p q) = alike (λ j. h j ∷ p j) q
    go h (earlier zs p) = earlier zs (λ j. sym h j ∷ p j)
    go h (later zs p) = later zs (λ j. h j ∷ p j)

-- a text that begins with the words before a later place begins with the word that is wrong
not_before : (b : List ℕ) (p q : ℕ) (v : WrongAt b p) (w : WrongAt b q) (zs : List Word) → w.before ≡ v.before ++ (v.word ∷ zs) → ⊥
unfolding tokens
not_before b p q v w zs e =
    v.no_text w.text (tokens zs ++ w.rest)
    (w.some_text ∙ (ap (λ (ws : List Word). tokens ws ++ w.rest) e ∙ tokens_behind v.before (v.word ∷ zs) w.rest))

one_place : (b : List ℕ) (p q : ℕ) → WrongAt b p → WrongAt b q → p ≡ q
one_place b p q v w = go (splits v.before w.before v.behind w.behind v.word w.word (sym v.split ∙ w.split))
  where
    go : Splits v.before w.before v.word w.word → p ≡ q
    go (alike e f) = v.starts ∙ (ap (λ (x : Word). x.start) f ∙ sym w.starts)
    go (earlier zs e) = absurd (not_before b p q v w zs e)
    go (later zs e) = absurd (not_before b q p w v zs e)

never_both : (b : List ℕ) (t : Text) (p : ℕ) → Says b t → WrongAt b p → ⊥
unfolding tokens
never_both b t p s w = w.no_text t (tokens w.behind) (s ∙ (ap tokens w.split ∙ tokens_append w.before (w.word ∷ w.behind)))

always_one : (b : List ℕ) → ((t : Text) × Says b t) ⊎ ((p : ℕ) × WrongAt b p)
unfolding Settled
always_one b = go (stuck_at start (words b)) (settled b (words b) start (reached_none b))
  where
    go : (p : Option ℕ) → Settled b p → ((t : Text) × Says b t) ⊎ ((p : ℕ) × WrongAt b p)
    go none s = inl s
    go (some p) w = inr (p, w)

pub one_way : OneWay
one_way = record { one_tree = λ b t u p q. complete.one_tree t u (p ∙ sym q); one_place = one_place; never_both = never_both; always_one = always_one }
