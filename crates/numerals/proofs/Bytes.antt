-- Bytes that a text does not hold: numbers hold no comma and no newline. Assumes nothing.
use Prim.Native.Nat.{ℕ, ◌≤◌}
use native.Mathlib.Omega.{arith}
use mathlib.Core.Path.{◌≡◌, refl, ap}
use mathlib.Core.Bool.{true, false}
use mathlib.Core.List.{List, [], ◌∷◌, ◌++◌}
use borrow.Author.Tests.{ne_eqb}
use lib.Dec.{eqb, lit<, lit≤}
use lib.IntN.{ℤ, pos, negsuc}
use Rattle.words.specs.Numbers.{digit_of, are_digits}
use Rattle.numerals.specs.Numerals.{digits, date_text, hex16}
use Rattle.numerals.proofs.Digits.{digits-parts, last-are}
use Rattle.numerals.proofs.Decimals.{digits_are}

-- no byte of the text is b
abbrev pub Lacks : ℕ → List ℕ → Type 0
Lacks b [] = Unit {0}
Lacks b (x ∷ s) = (eqb x b ≡ false) × Lacks b s

pub lacks-append : (b : ℕ) (s t : List ℕ) → Lacks b s → Lacks b t → Lacks b (s ++ t)
lacks-append b [] t h k = k
lacks-append b (x ∷ s) t h k = (h.0, lacks-append b s t h.1 k)

-- digits lack a byte that is no digit
pub digits-lack : (base b : ℕ) (s : List ℕ) → base ≤ 16 → digit_of b ≡ 16 → are_digits base s ≡ true → Lacks b s
digits-lack base b [] l n e = tt
digits-lack base b (x ∷ s) l n e =
    let p = digits-parts base x s e in
    (ne_eqb x b (λ z. let q : digit_of x ≡ digit_of b = ap digit_of z in omega arith), digits-lack base b s l n p.1)

module _ (b : ℕ) (no_digit : digit_of b ≡ 16) where
  number-lacks : (n : ℕ) → Lacks b (digits n)
  number-lacks n = digits-lack 10 b (digits n) (lit≤ tt) no_digit (digits_are n)

  date-lacks : eqb 45 b ≡ false → (z : ℤ) → Lacks b (date_text z)
  date-lacks e (pos n) = number-lacks n
  date-lacks e (negsuc n) = (e, number-lacks _)

  hex-lacks : (n : ℕ) → Lacks b (hex16 n)
  hex-lacks n = digits-lack 16 b (hex16 n) (lit≤ tt) no_digit (last-are 16 (lit< tt) (lit≤ tt) 16 n)

comma : digit_of 44 ≡ 16
unfolding digit_of
comma = refl

newline : digit_of 10 ≡ 16
unfolding digit_of
newline = refl

minus : digit_of 45 ≡ 16
unfolding digit_of
minus = refl

pub digits-lack-minus : (n : ℕ) → Lacks 45 (digits n)
digits-lack-minus = number-lacks 45 minus

pub digits-lack-comma : (n : ℕ) → Lacks 44 (digits n)
digits-lack-comma = number-lacks 44 comma

pub digits-lack-newline : (n : ℕ) → Lacks 10 (digits n)
digits-lack-newline = number-lacks 10 newline

pub date-lacks-comma : (z : ℤ) → Lacks 44 (date_text z)
date-lacks-comma = date-lacks 44 comma refl

pub date-lacks-newline : (z : ℤ) → Lacks 10 (date_text z)
date-lacks-newline = date-lacks 10 newline refl

pub hex-lacks-comma : (n : ℕ) → Lacks 44 (hex16 n)
hex-lacks-comma = hex-lacks 44 comma

pub hex-lacks-newline : (n : ℕ) → Lacks 10 (hex16 n)
hex-lacks-newline = hex-lacks 10 newline
