-- Worked examples, computed from the bytes: a text that is read, and texts that earn a refusal or several, of which the first is given.
-- Assumes nothing.
use Prim.Native.Nat.{ℕ}
use mathlib.Core.Path.{◌≡◌, refl}
use mathlib.Core.List.Memᴰ
use mathlib.Core.List.{List, [], ◌∷◌, ◌++◌}
use mathlib.Core.Logic.{inl, inr}
use lib.ListN.{replicate}
use Rattle.grammar.specs.Words.{spelled}
use Rattle.grammar.proofs.Worked.{wrong_texts, wrong_there, press}
use Rattle.sheet.specs.Samples.{sheet_A}
use Rattle.naming.specs.NameLists.{Lists}
use Rattle.naming.proofs.Examples.{worked, tree, class_record, lists, states, commands, heater, heaters, press_read}
use Rattle.readings.specs.Readings.{Lent, Reading, wrong, refused, read, known, within, room, filled, outcome, Answers}

-- a text and lists, with a buffer of so many bytes for the sheet and one for the table, each byte 9
unfoldable pub lending : List ℕ → Lists → ℕ → ℕ → Lent
lending text l m n = record { text = text; lists = l; sheet = replicate m 9; table = replicate n 9 }

-- the press is read: sheet A and READY, HOLD at the heads of the buffers, and what stands behind them is kept
pub press_answered : Answers (lending press heaters 62 65)
    (record { reading = read 60 2; sheet = sheet_A ++ (9 ∷ 9 ∷ []); table = spelled "READY" ++ (replicate 27 0 ++ (spelled "HOLD" ++ (replicate 28 0 ++ (9 ∷ [])))) })
unfolding worked known within room filled outcome lending
press_answered = inr (tree press, press_read, refl)

-- what is answered to the press with lists and buffers
unfoldable pub answered : Lists → ℕ → ℕ → Reading
answered l m n = (outcome (lending press l m n) (tree press)).reading

-- an unknown child class; a child class with an empty name set; a list that is not right, too
unfoldable pub pumps : Lists
pumps = lists states commands (class_record "PUMP" 7)

unfoldable pub empty_set : Lists
empty_set = lists states commands (heater ++ class_record "PUMP" 0)

unfoldable pub empty_and_unknown : Lists
empty_and_unknown = lists states commands (class_record "PUMP" 0)

-- buffers that just suffice, one byte too few for the sheet, one too few for the table; 17 alone and before 18 and 15; 18 alone and before 15
pub first_refusal : answered heaters 60 64 ∷ answered heaters 59 64 ∷ answered heaters 60 63 ∷ answered pumps 60 64 ∷ answered empty_and_unknown 60 64
    ∷ answered empty_and_unknown 0 0 ∷ answered empty_set 64 64 ∷ answered empty_set 0 0 ∷ []
    ≡ read 60 2 ∷ refused 15 ∷ refused 15 ∷ refused 17 ∷ refused 17 ∷ refused 17 ∷ refused 18 ∷ refused 18 ∷ []
unfolding worked known within room filled outcome lending answered pumps empty_set empty_and_unknown
first_refusal = refl

-- 16 comes before all others: a text that is cut off, a list that ends within a record, and no room
pub sixteen_first : Answers (lending (spelled "class: $FWPART_$TOP$X sta") (lists (9 ∷ []) [] []) 0 0) (record { reading = wrong 22; sheet = []; table = [] })
unfolding wrong_texts lending
sixteen_first =
    inl (22, wrong_there (record { text = spelled "class: $FWPART_$TOP$X sta"; place = 22 }) (Memᴰ.tail (Memᴰ.tail (Memᴰ.head refl))), refl)
