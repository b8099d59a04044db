-- Room for one more record in a string of guard records.
-- Assumes nothing.
use Rattle.std.specs.Prelude.{ℕ, ◌+◌, ◌-◌, ◌*◌, List, [], ◌++◌, take, drop}
use Rattle.encoding.specs.Records.{Eight, bytes8}

-- the bytes from a place to another stand eight higher; what stood behind them is overwritten
unfoldable pub opened : ℕ → ℕ → List ℕ → List ℕ
opened from to b = take (from + 8) b ++ (take (to - from) (drop from b) ++ drop (to + 8) b)

-- of so many records those from a place on stand one higher, and another in front of them
unfoldable pub with_record : ℕ → ℕ → Eight → List ℕ → List ℕ
with_record at count r b = take (at * 8) b ++ (bytes8 r [] ++ (take (count * 8 - at * 8) (drop (at * 8) b) ++ drop (count * 8 + 8) b))
