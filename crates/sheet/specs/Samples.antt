-- The paper's sheets to try, A, B and C, as bytes.
-- Assumes nothing.
use Rattle.std.specs.Prelude.{ℕ, List, [], ◌∷◌, set}

-- heaters (COLD 0, HOT 1, FAULT 2); READY 0: any heater not in HOT, move to HOLD; HOLD 1: any in HOT, move to READY
abbrev pub sheet_A : List ℕ
sheet_A =
    0x18 ∷ 0 ∷ 4 ∷ 0 ∷ 0x1c ∷ 0 ∷ 8 ∷ 0 ∷ 0x24 ∷ 0 ∷ 8 ∷ 0 ∷ 0x2c ∷ 0 ∷ 0x10 ∷ 0 ∷ 0x3c ∷ 0 ∷ 0 ∷ 0 ∷ 0x3c ∷ 0 ∷ 0 ∷ 0 ∷
    7 ∷ 0 ∷ 0 ∷ 0 ∷ 1 ∷ 0 ∷ 0 ∷ 0 ∷ 1 ∷ 0 ∷ 0 ∷ 0 ∷ 0 ∷ 0 ∷ 0 ∷ 1 ∷ 1 ∷ 0 ∷ 0 ∷ 0 ∷
    1 ∷ 0 ∷ 0 ∷ 0 ∷ 2 ∷ 0 ∷ 0 ∷ 0 ∷ 0 ∷ 0 ∷ 0 ∷ 0 ∷ 2 ∷ 0 ∷ 0 ∷ 0 ∷ []

-- A with ALL in for ANY in
abbrev pub sheet_B : List ℕ
sheet_B = set sheet_A 52 2

-- B with one action clause in READY, command 9: do 4 to all; if guard 1, then move_to 1; do 5 to all
abbrev pub sheet_C : List ℕ
sheet_C =
    0x18 ∷ 0 ∷ 4 ∷ 0 ∷ 0x1c ∷ 0 ∷ 8 ∷ 0 ∷ 0x24 ∷ 0 ∷ 8 ∷ 0 ∷ 0x2c ∷ 0 ∷ 0x10 ∷ 0 ∷ 0x3c ∷ 0 ∷ 4 ∷ 0 ∷ 0x40 ∷ 0 ∷ 0x20 ∷ 0 ∷
    7 ∷ 0 ∷ 0 ∷ 0 ∷ 1 ∷ 0 ∷ 1 ∷ 0 ∷ 1 ∷ 0 ∷ 0 ∷ 0 ∷ 0 ∷ 0 ∷ 0 ∷ 1 ∷ 1 ∷ 0 ∷ 0 ∷ 0 ∷
    1 ∷ 0 ∷ 0 ∷ 0 ∷ 2 ∷ 0 ∷ 0 ∷ 0 ∷ 2 ∷ 0 ∷ 0 ∷ 0 ∷ 2 ∷ 0 ∷ 0 ∷ 0 ∷
    9 ∷ 0 ∷ 4 ∷ 0 ∷
    0 ∷ 4 ∷ 255 ∷ 0 ∷ 0 ∷ 0 ∷ 0 ∷ 0 ∷ 2 ∷ 0 ∷ 1 ∷ 0 ∷ 1 ∷ 0 ∷ 0 ∷ 0 ∷ 1 ∷ 1 ∷ 0 ∷ 0 ∷ 0 ∷ 0 ∷ 0 ∷ 0 ∷ 0 ∷ 5 ∷ 255 ∷ 0 ∷ 0 ∷ 0 ∷ 0 ∷ 0 ∷ []
