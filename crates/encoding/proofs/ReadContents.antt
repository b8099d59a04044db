-- The contents of six bodies laid out, read back.
-- Assumes nothing.
use Prim.Native.Nat.{ℕ, zero, suc, ◌+◌, ◌*◌, ◌/◌, ◌%◌, ◌<◌, ◌≤◌}
use native.Mathlib.Omega.{arith}
use mathlib.Core.Path.{◌≡◌, refl, ◌∙◌, ap}
use mathlib.Core.Bool.{true, ◌&&◌}
use mathlib.Core.List.{List, [], ◌∷◌, ◌++◌}
use lib.ListN.{length, take, drop}
use lib.Dec.{eqb, leb}
use borrow.Author.Tests.{eq-eqb, le-leb}
use Rattle.model.specs.Words.{each}
use Rattle.model.proofs.Words.{and_both, each_intro}
use Rattle.sheet.specs.Contents.{start, size, body, length_right, bodies_follow, count_right, counts_in_range, contents_right, bodies}
use Rattle.encoding.specs.Records.{fours}
use Rattle.encoding.specs.Encoding.{gathered, contents, laid_out}
use Rattle.encoding.proofs.From.{From, whole, next, taken, again16}

-- entry k of the contents says where body xs lies, and there it lies
pub record BodyAt (b : List ℕ) (k n : ℕ) (xs : List ℕ) : Type 0 where
  pub starts : start b k ≡ n
  pub long : size b k ≡ length xs
  pub same : body b k ≡ xs

body_at : (b : List ℕ) (k n : ℕ) (xs ys : List ℕ) → start b k ≡ n → size b k ≡ length xs → From b n (xs ++ ys) → BodyAt b k n xs
unfolding body
body_at b k n xs ys e f g =
    record {
      starts = e;
      long = f;
      same = ap (λ (m : ℕ). take m (drop (start b k) b)) f ∙ ap (λ (m : ℕ). take (length xs) (drop m b)) e ∙ taken b n xs ys g;
    }

-- whole records of w bytes, as many as the table allows
count_ok4 : (n m lo hi : ℕ) → n ≡ m * 4 → lo ≤ m → m ≤ hi → (eqb (n % 4) 0 && (leb lo (n / 4) && leb (n / 4) hi)) ≡ true
count_ok4 n m lo hi e l h =
    let e1 : n % 4 ≡ 0 = omega arith in
    let e2 : n / 4 ≡ m = omega arith in
    rw (e1, e2) (rw (le-leb lo m l, le-leb m hi h))

count_ok8 : (n m lo hi : ℕ) → n ≡ m * 8 → lo ≤ m → m ≤ hi → (eqb (n % 8) 0 && (leb lo (n / 8) && leb (n / 8) hi)) ≡ true
count_ok8 n m lo hi e l h =
    let e1 : n % 8 ≡ 0 = omega arith in
    let e2 : n / 8 ≡ m = omega arith in
    rw (e1, e2) (rw (le-leb lo m l, le-leb m hi h))

-- six bodies of so many records
pub record Counts (b0 b1 b2 b3 b4 b5 : List ℕ) : Type 0 where
  pub K : ℕ
  pub S : ℕ
  pub W : ℕ
  pub G : ℕ
  pub A : ℕ
  pub T : ℕ
  pub k_is : length b0 ≡ K * 4
  pub s_is : length b1 ≡ S * 4
  pub w_is : length b2 ≡ W * 4
  pub g_is : length b3 ≡ G * 8
  pub a_is : length b4 ≡ A * 4
  pub t_is : length b5 ≡ T * 8
  pub k_most : K ≤ 8
  pub s_least : 1 ≤ S
  pub s_most : S ≤ 32
  pub w_most : W ≤ 256
  pub g_most : G ≤ 1024
  pub a_most : A ≤ 256
  pub t_most : T ≤ 1024

module _ (b0 b1 b2 b3 b4 b5 : List ℕ) where
  abbrev laid : List ℕ
  laid = laid_out (b0 ∷ b1 ∷ b2 ∷ b3 ∷ b4 ∷ b5 ∷ [])

  abbrev n1 : ℕ
  n1 = 24 + length b0

  abbrev n2 : ℕ
  n2 = n1 + length b1

  abbrev n3 : ℕ
  n3 = n2 + length b2

  abbrev n4 : ℕ
  n4 = n3 + length b3

  abbrev n5 : ℕ
  n5 = n4 + length b4

  abbrev r4 : List ℕ
  r4 = b5 ++ []

  abbrev r3 : List ℕ
  r3 = b4 ++ r4

  abbrev r2 : List ℕ
  r2 = b3 ++ r3

  abbrev r1 : List ℕ
  r1 = b2 ++ r2

  abbrev r0 : List ℕ
  r0 = b1 ++ r1

  from0 : From laid 24 (b0 ++ r0)
  unfolding gathered contents fours
  from0 = next laid 0 (fours (contents 24 (b0 ∷ b1 ∷ b2 ∷ b3 ∷ b4 ∷ b5 ∷ []))) (b0 ++ r0) (whole laid)

  from1 : From laid n1 (b1 ++ r1)
  from1 = next laid 24 b0 r0 from0

  from2 : From laid n2 (b2 ++ r2)
  from2 = next laid n1 b1 r1 from1

  from3 : From laid n3 (b3 ++ r3)
  from3 = next laid n2 b2 r2 from2

  from4 : From laid n4 (b4 ++ r4)
  from4 = next laid n3 b3 r3 from3

  from5 : From laid n5 (b5 ++ [])
  from5 = next laid n4 b4 r4 from4

  pub long : length laid ≡ n5 + length b5
  long = let e = (next laid n5 b5 [] from5).ends in omega arith

  pub body0 : BodyAt laid 0 24 b0
  unfolding gathered contents fours
  body0 = body_at laid 0 24 b0 r0 refl (again16 (length b0)) from0

  pub body1 : BodyAt laid 1 n1 b1
  unfolding gathered contents fours
  body1 = body_at laid 1 n1 b1 r1 (again16 n1) (again16 (length b1)) from1

  pub body2 : BodyAt laid 2 n2 b2
  unfolding gathered contents fours
  body2 = body_at laid 2 n2 b2 r2 (again16 n2) (again16 (length b2)) from2

  pub body3 : BodyAt laid 3 n3 b3
  unfolding gathered contents fours
  body3 = body_at laid 3 n3 b3 r3 (again16 n3) (again16 (length b3)) from3

  pub body4 : BodyAt laid 4 n4 b4
  unfolding gathered contents fours
  body4 = body_at laid 4 n4 b4 r4 (again16 n4) (again16 (length b4)) from4

  pub body5 : BodyAt laid 5 n5 b5
  unfolding gathered contents fours
  body5 = body_at laid 5 n5 b5 [] (again16 n5) (again16 (length b5)) from5

  pub bodies_back : bodies laid ≡ record { classes = b0; states = b1; whens = b2; guards = b3; actions = b4; statements = b5 }
  unfolding bodies
  bodies_back = λ i. record { classes = body0.same i; states = body1.same i; whens = body2.same i; guards = body3.same i; actions = body4.same i; statements = body5.same i }

  -- rule 2, and rule 1
  follows : (k : ℕ) → k < 5 → eqb (start laid (k + 1)) (start laid k + size laid k) ≡ true
  follows zero l = eq-eqb (start laid 1) (start laid 0 + size laid 0) (omega (arith, body0.starts, body0.long, body1.starts))
  follows (suc zero) l = eq-eqb (start laid 2) (start laid 1 + size laid 1) (omega (arith, body1.starts, body1.long, body2.starts))
  follows (suc (suc zero)) l = eq-eqb (start laid 3) (start laid 2 + size laid 2) (omega (arith, body2.starts, body2.long, body3.starts))
  follows (suc (suc (suc zero))) l = eq-eqb (start laid 4) (start laid 3 + size laid 3) (omega (arith, body3.starts, body3.long, body4.starts))
  follows (suc (suc (suc (suc zero)))) l = eq-eqb (start laid 5) (start laid 4 + size laid 4) (omega (arith, body4.starts, body4.long, body5.starts))
  follows (suc (suc (suc (suc (suc k))))) l = absurd (omega arith)

  all_follow : bodies_follow laid ≡ true
  unfolding bodies_follow
  all_follow =
      and_both (eqb (start laid 0) 24) (each 5 (λ k. eqb (start laid (k + 1)) (start laid k + size laid k)) && eqb (start laid 5 + size laid 5) (length laid))
      (eq-eqb (start laid 0) 24 body0.starts)
      (and_both (each 5 (λ k. eqb (start laid (k + 1)) (start laid k + size laid k))) (eqb (start laid 5 + size laid 5) (length laid))
      (each_intro 5 (λ k. eqb (start laid (k + 1)) (start laid k + size laid k)) follows)
      (eq-eqb (start laid 5 + size laid 5) (length laid) (omega (arith, body5.starts, body5.long, long))))

  module _ (c : Counts b0 b1 b2 b3 b4 b5) where
    counts : (k : ℕ) → k < 6 → count_right laid k ≡ true
    counts zero l = count_ok4 (size laid 0) c.K 0 8 (body0.long ∙ c.k_is) (omega arith) c.k_most
    counts (suc zero) l = count_ok4 (size laid 1) c.S 1 32 (body1.long ∙ c.s_is) c.s_least c.s_most
    counts (suc (suc zero)) l = count_ok4 (size laid 2) c.W 0 256 (body2.long ∙ c.w_is) (omega arith) c.w_most
    counts (suc (suc (suc zero))) l = count_ok8 (size laid 3) c.G 0 1024 (body3.long ∙ c.g_is) (omega arith) c.g_most
    counts (suc (suc (suc (suc zero)))) l = count_ok4 (size laid 4) c.A 0 256 (body4.long ∙ c.a_is) (omega arith) c.a_most
    counts (suc (suc (suc (suc (suc zero))))) l = count_ok8 (size laid 5) c.T 0 1024 (body5.long ∙ c.t_is) (omega arith) c.t_most
    counts (suc (suc (suc (suc (suc (suc k)))))) l = absurd (omega arith)

    pub right2 : contents_right laid ≡ true
    unfolding contents_right counts_in_range
    right2 = and_both (bodies_follow laid) (counts_in_range laid) all_follow (each_intro 6 (count_right laid) counts)

    pub short : length laid ≤ 18616
    short = omega (arith, long, c.k_is, c.s_is, c.w_is, c.g_is, c.a_is, c.t_is, c.k_most, c.s_most, c.w_most, c.g_most, c.a_most, c.t_most)

    pub right1 : length_right laid ≡ true
    unfolding length_right
    right1 =
        and_both (leb 24 (length laid)) (leb (length laid) 18616) (le-leb 24 (length laid) (omega (arith, long))) (le-leb (length laid) 18616 short)
