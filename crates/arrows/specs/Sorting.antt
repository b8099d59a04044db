-- Where the lanes of a block move. One table has a word for each move and for each action clause: word q * 32 + t has the lanes that move from q
-- to t, word 1024 + a those in which a DO runs action clause a. A when clause takes its lanes to the word that it aims at; those of a clause
-- that aims at 1,280 or more go nowhere.
-- Assumes nothing.
use Rattle.std.specs.Prelude.{ℕ, zero, suc, ◌+◌, ◌-◌, ◌*◌, ◌%◌, ◌<◌, ◌≤◌, ◌≡◌, ◌&&◌, ◌||◌, List, ◌⊎◌, eqb, ltb, length, get_or, take, drop}
use Rattle.std.proofs.Math.Option.{Option, none, some}
use Rattle.model.specs.Words.{has, choose, some_below}
use Rattle.model.specs.Tree.{Child, Referrer, move_to, run, stay, Part}
use Rattle.model.specs.Moves.{is_at}
use Rattle.model.specs.Running.{goes}
use Rattle.bodies.specs.PartChecks.{Reads}
use Rattle.sweeps.specs.Sweeps.{move_word, Narrow, WordsFor, Kept}

-- where a clause of state q aims, whose action clauses stand from `first` on: at a move, at the run of an action clause, at nothing
abbrev pub aim : ℕ → ℕ → Referrer → ℕ
aim q first (move_to t) = q * 32 + t
aim q first (run a) = 1024 + (first + a)
aim q first stay = 1280

-- the word of the lanes in which action clause a is run
abbrev pub run_word : List ℕ → ℕ → ℕ
run_word table a = get_or table (1024 + a) 0

-- of n clauses from clause m on, where the first whose word has lane i aims; at nothing where none has it
unfoldable pub taken : List ℕ → List ℕ → List ℕ → ℕ → ℕ → ℕ → ℕ
taken places aims words m zero i = 1280
taken places aims words m (suc n) i = choose (has (get_or words (get_or places m 0) 0) i) (λ _. get_or aims m 0) (λ _. taken places aims words (suc m) n i)

-- every word has in addition the lanes that count and that the clauses from first to last take there
pub record Took (places aims words : List ℕ) (first last counted : ℕ) (before table : List ℕ) : Type 0 where
  pub long : length table ≡ length before
  pub narrow : Narrow before → Narrow table
  pub hits : (x i : ℕ) → x < 1280 → i < 64 → has (get_or table x 0) i ≡ (has (get_or before x 0) i || (has counted i && eqb (taken places aims words first (last - first) i) x))

-- the statements of action clause a
abbrev pub clause_bytes : List ℕ → List ℕ → ℕ → List ℕ
clause_bytes statements froms a = take (get_or froms (a + 1) 0 - get_or froms a 0) (drop (get_or froms a 0) statements)

-- the action clauses from first to last read as these parts
abbrev pub ReadAs : List ℕ → List ℕ → List ℕ → ℕ → ℕ → (ℕ → Part) → Type 0
ReadAs gs statements froms first last p = (a : ℕ) → first ≤ a → a < last → Reads gs (clause_bytes statements froms a) (p a)

-- the words of state q have in addition the lanes of the action clauses from first to last, where these go; the other words are kept
pub record RanAll (words statements froms : List ℕ) (first last q : ℕ) (before table : List ℕ) : Type 0 where
  pub kept : Kept q before table
  pub ran : (gs : List ℕ) (ks : ℕ → List Child) → WordsFor gs ks words → (p : ℕ → Part) → ReadAs gs statements froms first last p → (i t : ℕ) → i < 64 → t < 32
      → has (move_word table q t) i ≡ (has (move_word before q t) i || some_below (last - first) (λ a. has (run_word before (first + a)) i && is_at t (goes (p (first + a)) (ks i))))

-- where a lane moves that was taken to word x
abbrev pub leads_to : (ℕ → Part) → List Child → ℕ → Option ℕ
leads_to p l x = choose (ltb x 1024) (λ _. some (x % 32)) (λ _. choose (ltb x 1280) (λ _. goes (p (x - 1024)) l) (λ _. none))

-- where the clauses of state q take lane i
abbrev pub taken_from : List ℕ → List ℕ → List ℕ → List ℕ → ℕ → ℕ → ℕ
taken_from places aims firsts words q i = taken places aims words (get_or firsts q 0) (get_or firsts (q + 1) 0 - get_or firsts q 0) i

-- word x is one of state q: of a move from it, of one of its action clauses, or none of the table
abbrev pub Own : List ℕ → ℕ → ℕ → Type 0
Own actions q x = ((t : ℕ) × (t < 32) × (x ≡ q * 32 + t)) ⊎ (((a : ℕ) × (get_or actions q 0 ≤ a) × (a < get_or actions (q + 1) 0) × (x ≡ 1024 + a)) ⊎ (1280 ≤ x))

-- lane i has the children ks i: every guard that is read has its word, each clause aims at a word of its state, and the action clauses read as
-- these parts
pub record TablesFor (aims firsts actions froms statements : List ℕ) (s : ℕ) (words gs : List ℕ) (ks : ℕ → List Child) (p : ℕ → Part) : Type 0 where
  pub words_right : WordsFor gs ks words
  pub own : (q m : ℕ) → q < s → get_or firsts q 0 ≤ m → m < get_or firsts (q + 1) 0 → Own actions q (get_or aims m 0)
  pub bodies : ReadAs gs statements froms 0 (get_or actions s 0) p

-- no word of the table has a lane
abbrev pub Empty : List ℕ → Type 0
Empty table = (x : ℕ) → get_or table x 0 ≡ 0

-- of the states below n: the words of the moves have the lanes that count in which the next move leads there, those of the action clauses the
-- lanes that clauses take there; the other words are empty
pub record Sorted (places aims firsts actions froms statements : List ℕ) (s n : ℕ) (words : List ℕ) (counted : ℕ) (table : List ℕ) : Type 0 where
  pub long : length table ≡ 1280
  pub narrow : Narrow table
  pub runs : (a i : ℕ) → a < 256 → i < 64 → has (run_word table a) i ≡ (has counted i && some_below n (λ q. eqb (taken_from places aims firsts words q i) (1024 + a)))
  pub moves : (gs : List ℕ) (ks : ℕ → List Child) (p : ℕ → Part) → TablesFor aims firsts actions froms statements s words gs ks p → (q t i : ℕ) → q < 32 → t < 32 → i < 64
      → has (move_word table q t) i ≡ (has counted i && (ltb q n && is_at t (leads_to p (ks i) (taken_from places aims firsts words q i))))

-- the tables that are lent for the when clauses of one state
pub record HitsLent (places aims : List ℕ) (first last : ℕ) (table : List ℕ) : Type 0 where
  pub rising : first ≤ last
  pub inside : last ≤ 256
  pub of_places : length places ≡ 256
  pub of_aims : length aims ≡ 256
  pub of_table : length table ≡ 1280

-- for its action clauses
pub record RunsLent (statements froms : List ℕ) (first last q : ℕ) (table : List ℕ) : Type 0 where
  pub rising : first ≤ last
  pub inside : last ≤ 256
  pub of_froms : length froms ≡ 257
  pub state : q < 32
  pub of_table : length table ≡ 1280
  pub from_rising : (a : ℕ) → a < last → get_or froms a 0 ≤ get_or froms (a + 1) 0
  pub from_inside : (a : ℕ) → a < last → get_or froms (a + 1) 0 ≤ length statements

-- and for s states
pub record Ranges (places aims firsts actions froms statements : List ℕ) (s : ℕ) : Type 0 where
  pub few : s ≤ 32
  pub of_places : length places ≡ 256
  pub of_aims : length aims ≡ 256
  pub of_firsts : length firsts ≡ 33
  pub of_actions : length actions ≡ 33
  pub of_froms : length froms ≡ 257
  pub rising : (q : ℕ) → q < s → get_or firsts q 0 ≤ get_or firsts (q + 1) 0
  pub inside : (q : ℕ) → q < s → get_or firsts (q + 1) 0 ≤ 256
  pub actions_rising : (q r : ℕ) → q ≤ r → r ≤ s → get_or actions q 0 ≤ get_or actions r 0
  pub actions_inside : get_or actions s 0 ≤ 256
  pub from_rising : (a : ℕ) → a < get_or actions s 0 → get_or froms a 0 ≤ get_or froms (a + 1) 0
  pub from_inside : (a : ℕ) → a < get_or actions s 0 → get_or froms (a + 1) 0 ≤ length statements
