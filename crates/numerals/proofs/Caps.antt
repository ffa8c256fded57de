-- Numbers that stop growing at 2 ^ 63 + 1: the same date or lack of one, and read digit by digit. Assumes nothing.
use Prim.Native.Nat.{ℕ, suc, ◌+◌, ◌*◌, ◌^◌, ◌≤◌, ◌<◌}
use native.Mathlib.Numerals.{add-one}
use native.Mathlib.Omega.{arith}
use mathlib.Core.Path.{◌≡◌, refl, ap}
use mathlib.Core.Bool.{Bool, true, false}
use mathlib.Core.List.{List}
use Rattle.std.specs.declared.option.Option.{Option}
use Rattle.std.specs.declared.option.Option.TheVariants.{None, Some}
use borrow.Author.Tests.{leb-true, leb-false, le-ltb, lt-ltb, lt-leb}
use lib.Dec.{leb}
use lib.ListN.{length, get_or, drop, drop_of_length-le}
use lib.Seq.{drop-cons}
use Rattle.words.specs.Numbers.{digit_of, are_digits, value_from, some_if, positive_of}
use Rattle.words.proofs.Digits.{grows}
use Rattle.numerals.specs.Numerals.{no_spare, decimal_in, negative_of, capped, capped_in}

-- what holds of a number that is small enough, and of the number at which it stops, where it is not
by-cap : (P : ℕ → Type 0) (n : ℕ) → (n ≤ 2 ^ 63 → P n) → (2 ^ 63 < n → P (2 ^ 63 + 1)) → P (capped n)
by-cap P n small large = go (leb n (2 ^ 63)) refl
  where
    go : (t : Bool) → leb n (2 ^ 63) ≡ t → P (capped n)
    go true e = let l = leb-true n (2 ^ 63) e in let m : capped n ≡ n = omega arith in rw m (small l)
    go false e = let l = leb-false n (2 ^ 63) e in let m : capped n ≡ 2 ^ 63 + 1 = omega arith in rw m (large l)

pub cap-positive : (o : Option ℕ) → positive_of (capped_in o) ≡ positive_of o
cap-positive None = refl
cap-positive (Some n) =
    by-cap (λ m. positive_of (Some m) ≡ positive_of (Some n)) n
    (λ h. refl)
    (λ h. rw (le-ltb n (2 ^ 63) (omega arith)))

pub cap-negative : (o : Option ℕ) → negative_of (capped_in o) ≡ negative_of o
cap-negative None = refl
cap-negative (Some n) =
    by-cap (λ m. negative_of (Some m) ≡ negative_of (Some n)) n
    (λ h. refl)
    (λ h. rw (lt-ltb 0 n (omega arith), lt-leb n (2 ^ 63) h))

-- ---- digits read one by one

-- a number that stopped growing before the last digits, and one that stops behind them
capped-value : (n : ℕ) (s : List ℕ) → capped (value_from 10 (capped n) s) ≡ capped (value_from 10 n s)
capped-value n s =
    by-cap (λ m. capped (value_from 10 m s) ≡ capped (value_from 10 n s)) n
    (λ h. refl)
    (λ h. omega (arith, grows (2 ^ 63 + 1) s, grows n s))

-- what the digits that are left make of n
abbrev pub from : ℕ → List ℕ → Option ℕ
from n l = some_if (are_digits 10 l) (capped (value_from 10 n l))

module _ (s : List ℕ) where
  pub spare : no_spare s ≡ false → None ≡ capped_in (decimal_in s)
  unfolding decimal_in
  spare e = rw e

  pub at_first : no_spare s ≡ true → from 0 s ≡ capped_in (decimal_in s)
  unfolding decimal_in
  at_first e = rw e (go (are_digits 10 s))
    where
      go : (t : Bool) → some_if t (capped (value_from 10 0 s)) ≡ capped_in (some_if t (value_from 10 0 s))
      go true = refl
      go false = refl

module _ (s : List ℕ) (n i : ℕ) (h : i < length s) where
  pub bad-digit : 9 < digit_of (get_or s i 0) → None ≡ from n (drop i s)
  unfolding are_digits
  bad-digit l = rw (drop-cons s i 0 h, le-ltb (digit_of (get_or s i 0)) 10 l)

  pub next-digit : (d : ℕ) → d ≡ digit_of (get_or s i 0) → d ≤ 9 → from (capped (n * 10 + d)) (drop (i + 1) s) ≡ from n (drop i s)
  unfolding are_digits value_from
  next-digit d e l =
      let r = drop (suc i) s in
      rw (drop-cons s i 0 h, lt-ltb (digit_of (get_or s i 0)) 10 (omega arith), add-one i, e)
      (ap (λ (v : ℕ). some_if (are_digits 10 r) v) (capped-value (n * 10 + digit_of (get_or s i 0)) r))

pub all_read : (s : List ℕ) (n i : ℕ) → n ≤ 2 ^ 63 + 1 → length s ≤ i → Some n ≡ from n (drop i s)
unfolding are_digits value_from
all_read s n i h l = let m : capped n ≡ n = omega arith in rw (drop_of_length-le s l, m)
