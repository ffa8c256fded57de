-- Decimal numbers without spare zeros: each number has one text, and what is read is what was written. Assumes nothing.
use Prim.Native.Nat.{ℕ, zero, suc, ◌+◌, ◌*◌, ◌/◌, ◌%◌, ◌<◌}
use native.Mathlib.Omega.{arith}
use mathlib.Core.Path.{◌≡◌, refl, sym, ap, ◌∙◌}
use mathlib.Core.Bool.{Bool, true, false, not, ◌&&◌}
use mathlib.Core.List.{List, [], ◌∷◌, ◌++◌}
use Rattle.std.specs.declared.option.Option.TheVariants.{Some}
use borrow.Author.Tests.{ne_eqb, eqb-false, not-true}
use lib.Dec.{eqb, lit<, lit≤}
use lib.ListN.{length}
use Rattle.words.specs.Numbers.{digit_of, are_digits, value_from}
use Rattle.numerals.specs.Numerals.{glyph, last_digits, places_by, places, digits, no_spare, decimal_in}
use Rattle.numerals.proofs.Tests.{and-true, both_true, some-if, if_some}
use Rattle.numerals.proofs.Digits.{glyph-digit, digit_glyph, digits-parts, length_last, last-are, value-last, last-value}
use Rattle.numerals.proofs.Places.{places-one, places-suc, by-places, below-places, places-value}
pub use Rattle.numerals.proofs.Places.{places-most}

pub length_digits : (n : ℕ) → length (digits n) ≡ places n
length_digits n = length_last 10 (places n) n

pub digits_are : (n : ℕ) → are_digits 10 (digits n) ≡ true
digits_are n = last-are 10 (lit< tt) (lit≤ tt) (places n) n

-- ---- what is written has no spare zero

-- is the first byte another than `0`?
abbrev leads : List ℕ → Bool
leads [] = false
leads (b ∷ s) = not (eqb b 48)

leads-append : (s t : List ℕ) → leads s ≡ true → leads (s ++ t) ≡ true
leads-append [] t e = absurd (let z : ◌≡◌ {A = ℕ} 0 1 = cc in omega arith)
leads-append (b ∷ s) t e = e

leads-spare : (s : List ℕ) → leads s ≡ true → no_spare s ≡ true
unfolding no_spare
leads-spare [] e = e
leads-spare (b ∷ []) e = refl
leads-spare (b ∷ c ∷ s) e = e

-- the digits of a number that is not 0 start with another digit
digits-lead : (n : ℕ) → 0 < n → leads (digits n) ≡ true
unfolding last_digits
digits-lead = by-places (λ n. 0 < n → leads (digits n) ≡ true) few more
  where
    few : (n : ℕ) → n < 10 → 0 < n → leads (digits n) ≡ true
    few n h l =
        let m : n % 10 ≡ n = omega arith in
        let other : glyph n ≡ 48 → ⊥ = λ e. let z : digit_of (glyph n) ≡ digit_of 48 = ap digit_of e in omega (arith, glyph-digit n (omega arith), glyph-digit 0 (lit< tt)) in
        rw (places-one n h, m, ne_eqb (glyph n) 48 other)

    more : (n : ℕ) → 9 < n → (0 < n / 10 → leads (digits (n / 10)) ≡ true) → 0 < n → leads (digits n) ≡ true
    more n h p l = rw (places-suc n h) (leads-append (digits (n / 10)) _ (p (omega arith)))

digits-spare : (n : ℕ) → no_spare (digits n) ≡ true
unfolding no_spare last_digits places_by
digits-spare zero = refl
digits-spare (suc n) = leads-spare (digits (suc n)) (digits-lead (suc n) (omega arith))

pub decimal-is : (n : ℕ) → decimal_in (digits n) ≡ Some n
unfolding decimal_in
decimal-is n =
    if_some _ _ (both_true (digits-spare n) (digits_are n))
    ∙ ap Some (value-last 10 (lit< tt) (lit≤ tt) (places n) n (below-places n))

-- ---- what is read is what would be written

places-are : (s : List ℕ) → no_spare s ≡ true → are_digits 10 s ≡ true → places (value_from 10 0 s) ≡ length s
unfolding no_spare value_from
places-are [] f e = absurd (let z : ◌≡◌ {A = ℕ} 0 1 = cc in omega arith)
places-are (b ∷ []) f e = places-one _ (omega (arith, (digits-parts 10 b [] e).0))
places-are (b ∷ c ∷ s) f e =
    let p = digits-parts 10 b (c ∷ s) e in
    let other : digit_of b ≡ 0 → ⊥ = λ z. eqb-false b 48 (not-true (eqb b 48) f) (sym (digit_glyph b (omega arith)) ∙ ap glyph z) in
    places-value (c ∷ s) (0 * 10 + digit_of b) (omega arith) p.1 ∙ omega (arith, places-one (0 * 10 + digit_of b) (omega arith))

pub decimal-text : (s : List ℕ) (n : ℕ) → decimal_in s ≡ Some n → s ≡ digits n
unfolding decimal_in
decimal-text s n e =
    let p = some-if (no_spare s && are_digits 10 s) (value_from 10 0 s) n e in
    let q = and-true (no_spare s) (are_digits 10 s) p.0 in
    sym (last-value 10 (lit≤ tt) s q.1)
    ∙ ap (λ (k : ℕ). last_digits 10 k (value_from 10 0 s)) (sym (places-are s q.0 q.1))
    ∙ ap digits p.1
