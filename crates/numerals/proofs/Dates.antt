-- Dates of 64 bits: each date has one text, and what is read is what was written. Assumes nothing.
use Prim.Native.Nat.{ℕ, zero, suc, ◌^◌, ◌≤◌}
use native.Mathlib.Omega.{arith}
use mathlib.Core.Path.{◌≡◌, refl, ap, subst, ◌∙◌}
use mathlib.Core.Bool.{Bool, true, false, ◌&&◌, cond}
use mathlib.Core.List.{List, [], ◌∷◌}
use Rattle.std.specs.declared.option.Option.{Option}
use Rattle.std.specs.declared.option.Option.TheVariants.{None, Some}
use Rattle.std.proofs.lemmas.Option.{none-some}
use borrow.Author.Tests.{lt-ltb, le-leb, ne_eqb, ltb-true, leb-true, eqb-true, eqb-false}
use lib.Dec.{ltb, leb, eqb}
use lib.IntN.{ℤ, pos, negsuc, nat_abs}
use lib.ListN.{length, get_or}
use lib.Signed.{le_z}
use mir.Syntax.{w64}
use mir.Facts.{to_z-of_z}
use mir.Val.{SFits, to_z, of_z}
use Rattle.words.specs.Numbers.{positive_of}
use Rattle.numerals.specs.Numerals.{no_spare, places, digits, date_text, negative_of, decimal_in, date_in}
use Rattle.numerals.proofs.Tests.{and-true, both_true, some-if, if_some}
use Rattle.numerals.proofs.Places.{places-most}
use Rattle.numerals.proofs.Bytes.{Lacks, digits-lack-minus}
use Rattle.numerals.proofs.Decimals.{length_digits, decimal-is, decimal-text}

-- ---- what is written is read

pub no_minus : (s : List ℕ) → (get_or s 0 0 ≡ 45 → ⊥) → date_in s ≡ positive_of (decimal_in s)
unfolding date_in decimal_in no_spare
no_minus [] h = refl
no_minus (b ∷ s) h = rw (ne_eqb b 45 h)

lacks-first : (s : List ℕ) → Lacks 45 s → get_or s 0 0 ≡ 45 → ⊥
lacks-first [] h = eqb-false 0 45 refl
lacks-first (b ∷ s) h = eqb-false b 45 h.0

pub date-is : (z : ℤ) → SFits w64 z → date_in (date_text z) ≡ Some z
unfolding date_in
date-is (pos n) f = no_minus (digits n) (lacks-first (digits n) (digits-lack-minus n)) ∙ ap positive_of (decimal-is n) ∙ if_some _ _ (lt-ltb n (2 ^ 63) f.sfits)
date-is (negsuc n) f = ap negative_of (decimal-is (suc n)) ∙ if_some _ _ (both_true (lt-ltb 0 (suc n) (omega arith)) (le-leb (suc n) (2 ^ 63) f.sfits))

-- ---- what is read is what would be written

-- a date that is read: what it would be written as, and that it fits
record Read (s : List ℕ) (z : ℤ) : Type 0 where
  text : s ≡ date_text z
  fits : SFits w64 z

positive-read : (s : List ℕ) (o : Option ℕ) (z : ℤ) → decimal_in s ≡ o → positive_of o ≡ Some z → Read s z
positive-read s None z d e = absurd (none-some z e)
positive-read s (Some n) z d e =
    let p = some-if (ltb n (2 ^ 63)) (pos n) z e in
    subst (Read s) p.1 (record { text = decimal-text s n d; fits = record { sfits = ltb-true n (2 ^ 63) p.0 } })

negative-read : (s : List ℕ) (o : Option ℕ) (z : ℤ) → decimal_in s ≡ o → negative_of o ≡ Some z → Read (45 ∷ s) z
negative-read s None z d e = absurd (none-some z e)
negative-read s (Some zero) z d e = absurd (none-some z e)
negative-read s (Some (suc n)) z d e =
    let p = some-if (ltb 0 (suc n) && leb (suc n) (2 ^ 63)) (negsuc n) z e in
    let q = and-true (ltb 0 (suc n)) (leb (suc n) (2 ^ 63)) p.0 in
    subst (Read (45 ∷ s)) p.1 (record { text = ap (λ (t : List ℕ). 45 ∷ t) (decimal-text s (suc n) d); fits = record { sfits = leb-true (suc n) (2 ^ 63) q.1 } })

read : (s : List ℕ) (z : ℤ) → date_in s ≡ Some z → Read s z
unfolding date_in
read [] z e = absurd (none-some z e)
read (b ∷ s) z e = go (eqb b 45) refl e
  where
    go : (t : Bool) → eqb b 45 ≡ t → cond t (negative_of (decimal_in s)) (positive_of (decimal_in (b ∷ s))) ≡ Some z → Read (b ∷ s) z
    go true m e = rw (eqb-true b 45 m) (negative-read s (decimal_in s) z refl e)
    go false m e = positive-read (b ∷ s) (decimal_in (b ∷ s)) z refl e

pub date-text : (s : List ℕ) (z : ℤ) → date_in s ≡ Some z → s ≡ date_text z
date-text s z e = (read s z e).text

pub date-fits : (s : List ℕ) (z : ℤ) → date_in s ≡ Some z → SFits w64 z
date-fits s z e = (read s z e).fits

-- ---- how long it is

few : (z : ℤ) → SFits w64 z → places (nat_abs z) ≤ 19
few (pos n) f = places-most 18 n (omega (arith, f.sfits))
few (negsuc n) f = places-most 18 (suc n) (omega (arith, f.sfits))

pub date-length : (z : ℤ) → SFits w64 z → length (date_text z) ≤ 20
date-length (pos n) f = omega (arith, length_digits n, few (pos n) f)
date-length (negsuc n) f = omega (arith, length_digits (suc n), few (negsuc n) f)

-- ---- as the program spells it: by its size m

spelled : (z : ℤ) → date_text z ≡ cond (le_z (pos 0) z) (digits (nat_abs z)) (45 ∷ digits (nat_abs z))
spelled (pos n) = rw (le-leb 0 n (omega arith))
spelled (negsuc n) = refl

module _ (z : ℤ) (f : SFits w64 z) (m : ℕ) (e : m ≡ nat_abs (to_z w64 (of_z w64 z))) where
  pub size_few : places m ≤ 19
  size_few = rw (e, to_z-of_z f) (few z f)

  pub by_size : (t : Bool) → le_z (pos 0) (to_z w64 (of_z w64 z)) ≡ t → date_text z ≡ cond t (digits m) (45 ∷ digits m)
  by_size t h = rw (e, ← h, to_z-of_z f) (spelled z)
