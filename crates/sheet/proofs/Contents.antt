-- What right contents say: where the bodies lie, that each is a whole number of records, and how many it may have.
-- Assumes nothing.
use Prim.Native.Nat.{ℕ, zero, suc, ◌+◌, ◌*◌, ◌/◌, ◌%◌, ◌-◌, ◌<◌, ◌≤◌}
use native.Mathlib.Omega.{arith}
use native.Mathlib.Nat.{div-add-mod'}
use mathlib.Core.Path.{◌≡◌}
use mathlib.Core.Bool.{Bool, true, ◌&&◌}
use mathlib.Core.List.{List}
use lib.Dec.{eqb, leb}
use lib.ListN.{length, drop, length-take, length-drop}
use borrow.Author.Tests.{eqb-true, leb-true}
use Rattle.model.specs.Words.{each}
use Rattle.model.proofs.Words.{and_left, and_right, each_elim}
use Rattle.model.specs.Words.{Bytes}
use Rattle.sheet.specs.Contents.{record_bytes, fewest, most, start, size, body, bodies_follow, count_right, counts_in_range, contents_right, Bodies, bodies}
use Rattle.records.specs.Bytes.{in_fours, in_eights}
use Rattle.records.proofs.Bytes.{take_bytes, drop_bytes}

-- a body of a byte string is a byte string
pub body_bytes : (b : List ℕ) → Bytes b → (k : ℕ) → Bytes (body b k)
unfolding body
body_bytes b h k = take_bytes (size b k) (drop (start b k) b) (drop_bytes (start b k) b h)

-- names for the parts of the tests, to take them apart by
abbrev each_follows : List ℕ → Bool
each_follows b = each 5 (λ k. eqb (start b (k + 1)) (start b k + size b k))

abbrev ends_right : List ℕ → Bool
ends_right b = eqb (start b 5 + size b 5) (length b)

abbrev enough : List ℕ → ℕ → Bool
enough b k = leb (fewest k) (size b k / record_bytes k)

abbrev not_many : List ℕ → ℕ → Bool
not_many b k = leb (size b k / record_bytes k) (most k)

-- the table's bounds, where they are used: whole records, and how many
pub record Counted (s : Bodies) : Type 0 where
  pub classes_whole : length s.classes ≡ in_fours s.classes * 4
  pub classes_most : in_fours s.classes ≤ 8
  pub states_whole : length s.states ≡ in_fours s.states * 4
  pub states_least : 1 ≤ in_fours s.states
  pub states_most : in_fours s.states ≤ 32
  pub whens_whole : length s.whens ≡ in_fours s.whens * 4
  pub whens_most : in_fours s.whens ≤ 256
  pub actions_whole : length s.actions ≡ in_fours s.actions * 4
  pub actions_most : in_fours s.actions ≤ 256
  pub statements_most : in_eights s.statements ≤ 1024

module _ (b : List ℕ) (h : contents_right b ≡ true) where
  -- the first half of the test
  follow : bodies_follow b ≡ true
  unfolding contents_right
  follow = and_left (bodies_follow b) (counts_in_range b) h

  -- the half about the starts, but for the first
  starts : (each_follows b && ends_right b) ≡ true
  unfolding bodies_follow
  starts = and_right (eqb (start b 0) 24) (each_follows b && ends_right b) follow

  -- each next one where the one before ended
  pub next_start : (k : ℕ) → k < 5 → start b (k + 1) ≡ start b k + size b k
  next_start k l =
      eqb-true (start b (k + 1)) (start b k + size b k)
      (each_elim 5 (λ k. eqb (start b (k + 1)) (start b k + size b k))
      (and_left (each_follows b) (ends_right b) starts)
      k l)

  -- the last ends with the sheet
  pub last_end : start b 5 + size b 5 ≡ length b
  last_end =
      eqb-true (start b 5 + size b 5) (length b)
      (and_right (each_follows b) (ends_right b) starts)

  -- counted down from the last body
  inside_from : (d k : ℕ) → k + d ≡ 5 → start b k + size b k ≤ length b
  inside_from zero k e = let k5 : k ≡ 5 = omega arith in rw k5 (let z : start b 5 + size b 5 ≤ length b = omega (arith, last_end) in z)
  inside_from (suc d) k e = omega (arith, next_start k (omega arith), inside_from d (k + 1) (omega arith))

  -- every body lies inside the sheet
  pub body_inside : (k : ℕ) → k < 6 → start b k + size b k ≤ length b
  body_inside k l = inside_from (5 - k) k (omega arith)

  -- so that it is as long as the contents say
  pub body_length : (k : ℕ) → k < 6 → length (body b k) ≡ size b k
  unfolding body
  body_length k l =
      omega (arith, body_inside k l, length-take (size b k) (drop (start b k) b), length-drop (start b k) b)

  -- the second half of the test, at body k
  count : (k : ℕ) → k < 6 → count_right b k ≡ true
  unfolding contents_right counts_in_range
  count = each_elim 6 (count_right b) (and_right (bodies_follow b) (counts_in_range b) h)

  -- its record count is in the table's range
  range : (k : ℕ) → k < 6 → (enough b k && not_many b k) ≡ true
  range k l = and_right (eqb (size b k % record_bytes k) 0) (enough b k && not_many b k) (count k l)

  -- its size is a whole number of records
  pub size_whole : (k : ℕ) → k < 6 → size b k % record_bytes k ≡ 0
  size_whole k l =
      eqb-true (size b k % record_bytes k) 0
      (and_left (eqb (size b k % record_bytes k) 0) (enough b k && not_many b k) (count k l))

  -- it has at least the table's fewest records
  pub body_fewest : (k : ℕ) → k < 6 → fewest k ≤ length (body b k) / record_bytes k
  body_fewest k l =
      rw (body_length k l)
      (leb-true (fewest k) (size b k / record_bytes k)
      (and_left (enough b k) (not_many b k) (range k l)))

  -- and at most the table's most
  pub body_most : (k : ℕ) → k < 6 → length (body b k) / record_bytes k ≤ most k
  body_most k l =
      rw (body_length k l)
      (leb-true (size b k / record_bytes k) (most k)
      (and_right (enough b k) (not_many b k) (range k l)))

  -- it is as long as its records together
  pub body_whole : (k : ℕ) → k < 6 → length (body b k) ≡ length (body b k) / record_bytes k * record_bytes k
  body_whole k l = rw (body_length k l) (let z = div-add-mod' (size b k) (record_bytes k) in omega (arith, size_whole k l))

  -- the same of the bodies by name
  pub counted : Counted (bodies b)
  unfolding bodies
  counted =
      record {
        classes_whole = body_whole 0 (omega arith);
        classes_most = body_most 0 (omega arith);
        states_whole = body_whole 1 (omega arith);
        states_least = body_fewest 1 (omega arith);
        states_most = body_most 1 (omega arith);
        whens_whole = body_whole 2 (omega arith);
        whens_most = body_most 2 (omega arith);
        actions_whole = body_whole 4 (omega arith);
        actions_most = body_most 4 (omega arith);
        statements_most = body_most 5 (omega arith);
      }
