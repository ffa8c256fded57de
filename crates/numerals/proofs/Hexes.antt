-- 16 hexadecimal digits: each pattern of 64 bits has one text, and what is read is what was written. Assumes nothing.
use Prim.Native.Nat.{ℕ, ◌+◌, ◌^◌, ◌<◌}
use native.Mathlib.Omega.{arith}
use mathlib.Core.Path.{◌≡◌, refl, sym, ap, ◌∙◌}
use mathlib.Core.Bool.{Bool, true, false, ◌&&◌}
use mathlib.Core.List.{List}
use Rattle.std.specs.declared.option.Option.TheVariants.{None, Some}
use borrow.Author.Tests.{eq-eqb, eqb-true}
use lib.Dec.{eqb, lit<, lit≤}
use lib.Ieee.{binary64, of_bits}
use lib.ListN.{length}
use Rattle.lists.specs.Lists.{given}
use Rattle.words.specs.Numbers.{are_digits, value_from, some_if, float_of}
use Rattle.numerals.specs.Numerals.{last_digits, hex16, bits_in}
use Rattle.numerals.proofs.Tests.{and-true, both_true, some-if, if_some}
use Rattle.numerals.proofs.Digits.{length_last, last-are, value-last, last-value, value-below}

pub length-hex : (n : ℕ) → length (hex16 n) ≡ 16
length-hex n = length_last 16 16 n

pub bits_are : (n : ℕ) → n < 2 ^ 64 → bits_in (hex16 n) ≡ Some n
unfolding bits_in
bits_are n h =
    if_some _ _ (both_true (eq-eqb (length (hex16 n)) 16 (length-hex n)) (last-are 16 (lit< tt) (lit≤ tt) 16 n))
    ∙ ap Some (value-last 16 (lit< tt) (lit≤ tt) 16 n h)

module _ (s : List ℕ) (n : ℕ) (e : bits_in s ≡ Some n) where
  is_read : (length s ≡ 16) × (are_digits 16 s ≡ true) × (value_from 16 0 s ≡ n)
  unfolding bits_in
  is_read =
      let p = some-if (eqb (length s) 16 && are_digits 16 s) (value_from 16 0 s) n e in
      let q = and-true (eqb (length s) 16) (are_digits 16 s) p.0 in
      (eqb-true (length s) 16 q.0, q.1, p.1)

  pub bits-text : s ≡ hex16 n
  bits-text =
      sym (last-value 16 (lit≤ tt) s is_read.1)
      ∙ ap (λ (k : ℕ). last_digits 16 k (value_from 16 0 s)) is_read.0
      ∙ ap hex16 is_read.2

  pub bits_fit : n < 2 ^ 64
  bits_fit =
      let z : 0 < 16 ^ 0 = lit< tt in
      let p : length s ≡ 16 = is_read.0 in
      let k : 0 + length s ≡ 16 = omega arith in
      rw (← is_read.2) (rw k at (value-below 16 s 0 0 z is_read.1))

-- the float of the bits
pub float-bits : (s : List ℕ) → float_of s ≡ given (bits_in s) None (λ n. Some (of_bits binary64 n))
unfolding float_of bits_in
float-bits s = go (eqb (length s) 16 && are_digits 16 s)
  where
    go : (t : Bool) → some_if t (of_bits binary64 (value_from 16 0 s)) ≡ given (some_if t (value_from 16 0 s)) None (λ n. Some (of_bits binary64 n))
    go true = refl
    go false = refl
