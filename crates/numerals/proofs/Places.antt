-- How many decimal digits a number has. Assumes nothing.
use Prim.Native.Nat.{ℕ, zero, suc, ◌+◌, ◌*◌, ◌/◌, ◌^◌, ◌≤◌, ◌<◌, max}
use native.Mathlib.Nat.{pow-suc}
use native.Mathlib.Omega.{arith}
use mathlib.Core.Path.{◌≡◌, refl, ap, ◌∙◌}
use mathlib.Core.Bool.{Bool, true, false, cond}
use mathlib.Core.List.{List, [], ◌∷◌}
use borrow.Author.Tests.{ltb-true, ltb-false, lt-ltb, le-ltb}
use lib.Dec.{ltb}
use lib.ListN.{length}
use Rattle.words.specs.Numbers.{digit_of, are_digits, value_from}
use Rattle.numerals.specs.Numerals.{places_by, places}
use Rattle.numerals.proofs.Digits.{digits-parts}

-- the bound does not matter where it is no smaller than the number
same : (j k n : ℕ) → n ≤ j → n ≤ k → places_by j n ≡ places_by k n
unfolding places_by
same zero zero n h l = refl
same zero (suc k) n h l = rw (lt-ltb n 10 (omega arith))
same (suc j) zero n h l = rw (lt-ltb n 10 (omega arith))
same (suc j) (suc k) n h l = ap (λ (m : ℕ). cond (ltb n 10) 1 (suc m)) (same j k (n / 10) (omega arith) (omega arith))

places-step : (n : ℕ) → places n ≡ cond (ltb n 10) 1 (suc (places (n / 10)))
unfolding places_by
places-step n =
    same n (suc n) n (omega arith) (omega arith)
    ∙ ap (λ (m : ℕ). cond (ltb n 10) 1 (suc m)) (same n (n / 10) (n / 10) (omega arith) (omega arith))

pub places-one : (n : ℕ) → n < 10 → places n ≡ 1
places-one n h = places-step n ∙ ap (λ (t : Bool). cond t 1 (suc (places (n / 10)))) (lt-ltb n 10 h)

pub places-suc : (n : ℕ) → 9 < n → places n ≡ suc (places (n / 10))
places-suc n h = places-step n ∙ ap (λ (t : Bool). cond t 1 (suc (places (n / 10)))) (le-ltb n 10 h)

-- a fact of each number that follows from that of the number without its last digit
pub by-places : (P : ℕ → Type 0) → ((n : ℕ) → n < 10 → P n) → ((n : ℕ) → 9 < n → P (n / 10) → P n) → (n : ℕ) → P n
by-places P few more n = go n n (omega arith)
  where
    step : (n : ℕ) (t : Bool) → ltb n 10 ≡ t → P (n / 10) → P n
    step n true e p = few n (ltb-true n 10 e)
    step n false e p = more n (ltb-false n 10 e) p

    go : (k n : ℕ) → n ≤ k → P n
    go zero n h = few n (omega arith)
    go (suc k) n h = step n (ltb n 10) refl (go k (n / 10) (omega arith))

pub below-places : (n : ℕ) → n < 10 ^ places n
below-places =
    by-places (λ n. n < 10 ^ places n)
    (λ n h. rw (places-one n h) h)
    (λ n h p. rw (places-suc n h) (omega (arith, pow-suc 10 (places (n / 10)))))

pub places-most : (k n : ℕ) → n < 10 ^ suc k → places n ≤ suc k
places-most zero n h = omega (arith, places-one n (omega arith))
places-most (suc k) n h = go (ltb n 10) refl (places-most k (n / 10) (omega (arith, pow-suc 10 (suc k))))
  where
    go : (t : Bool) → ltb n 10 ≡ t → places (n / 10) ≤ suc k → places n ≤ suc (suc k)
    go true e l = omega (arith, places-one n (ltb-true n 10 e))
    go false e l = omega (arith, places-suc n (ltb-false n 10 e))

pow-positive : (k : ℕ) → 0 < 10 ^ k
pow-positive zero = omega arith
pow-positive (suc k) = omega (arith, pow-suc 10 k, pow-positive k)

-- one more than the greatest power of 10 that is not above the number, 0 counting as 1
power-is : (n k : ℕ) → 0 < n → 10 ^ k ≤ n → n < 10 * 10 ^ k → suc k ≡ places n
power-is n k h l m = by-places (λ n. (k : ℕ) → 0 < n → 10 ^ k ≤ n → n < 10 * 10 ^ k → suc k ≡ places n) few more n k h l m
  where
    few : (n : ℕ) → n < 10 → (k : ℕ) → 0 < n → 10 ^ k ≤ n → n < 10 * 10 ^ k → suc k ≡ places n
    few n d zero h l m = omega (arith, places-one n d)
    few n d (suc k) h l m = absurd (omega (arith, pow-suc 10 k, pow-positive k))

    more : (n : ℕ) → 9 < n → ((k : ℕ) → 0 < n / 10 → 10 ^ k ≤ n / 10 → n / 10 < 10 * 10 ^ k → suc k ≡ places (n / 10)) → (k : ℕ) → 0 < n → 10 ^ k ≤ n → n < 10 * 10 ^ k → suc k ≡ places n
    more n d p zero h l m = absurd (omega arith)
    more n d p (suc k) h l m = omega (arith, places-suc n d, p k (omega arith) (omega (arith, pow-suc 10 k)) (omega (arith, pow-suc 10 k)))

pub by-power : (n m k : ℕ) → m ≡ max n 1 → 10 ^ k ≤ m → m < 10 * 10 ^ k → k + 1 ≡ places n
by-power zero m k e l h = omega (arith, power-is m k (omega arith) l h, places-one m (omega arith), places-one 0 (omega arith))
by-power (suc n) m k e l h = let q : m ≡ suc n = omega arith in omega (arith, power-is m k (omega arith) l h, ap places q)

-- one more digit, behind a number that is not 0
module _ (v d : ℕ) (h : 0 < v) (l : d < 10) where
  places-more : places (v * 10 + d) ≡ suc (places v)
  places-more =
      let q : (v * 10 + d) / 10 ≡ v = omega arith in
      places-suc (v * 10 + d) (omega arith) ∙ ap (λ (n : ℕ). suc (places n)) q

pub places-value : (s : List ℕ) (v : ℕ) → 0 < v → are_digits 10 s ≡ true → places (value_from 10 v s) ≡ places v + length s
unfolding value_from
places-value [] v h e = omega arith
places-value (x ∷ s) v h e =
    let p = digits-parts 10 x s e in
    omega (arith, places-value s (v * 10 + digit_of x) (omega arith) p.1, places-more v (digit_of x) h p.0)
