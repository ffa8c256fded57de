-- What `floor` and `ceil` return, and what that comes to for every `f64` (document 01, section 1). Definitions only.
-- A finite value `fin s m e` is the fraction (m * up e) / (down e) of two whole numbers, negative where s is true.
-- Below zero, down is away from zero and up is towards it. The sign stays, so a result of zero keeps it.
use Rattle.std.specs.Prelude.{◌≡◌, ℕ, ◌+◌, ◌*◌, ◌/◌, ◌%◌, Bool, true, false, cond, not, T, pos, ◌==◌, Float}
use Rattle.std.specs.Float.{nan, inf, fin, binary64}
use Rattle.std.specs.Float.Ieee.{up, down, round, lt, le}
use Rattle.std.specs.Float.Ieee.Scale.{finite}

-- the greatest whole number not above a / b: the quotient without the remainder
abbrev pub under : ℕ → ℕ → ℕ
under a b = a / b

-- the least whole number not below a / b: one more where there is a remainder
abbrev pub over : ℕ → ℕ → ℕ
over a b = a / b + cond (a % b == 0) 0 1

-- round down. `round binary64 s n 1` is the whole number n with the sign s as an `f64`
unfoldable pub floor_of : Float → Float
floor_of nan = nan
floor_of (inf s) = inf s
floor_of (fin false m e) = round binary64 false (under (m * up e) (down e)) 1
floor_of (fin true m e) = round binary64 true (over (m * up e) (down e)) 1

-- round up
unfoldable pub ceil_of : Float → Float
ceil_of nan = nan
ceil_of (inf s) = inf s
ceil_of (fin false m e) = round binary64 false (over (m * up e) (down e)) 1
ceil_of (fin true m e) = round binary64 true (under (m * up e) (down e)) 1

-- ---- the rules of 01 as a statement. `proofs/Nearest.antt` proves `RoundsDown x (floor_of x)` and `RoundsUp x (ceil_of x)` of every x that binary64 holds

-- a whole number, of any size and either sign
abbrev pub whole : Float → Bool
whole nan = false
whole (inf s) = false
whole (fin s m e) = m * up e % down e == 0

-- the sign, true for minus; a zero has one too
abbrev pub sign : Float → Bool
sign nan = false
sign (inf s) = s
sign (fin s m e) = s

abbrev pub signed_zero : Bool → Float
signed_zero s = fin s 0 (pos 0)

abbrev pub minus_one : Float
minus_one = fin true 1 (pos 0)

-- r is the nearest whole number not above x, with x's sign
pub record Down (x r : Float) : Type 0 where
  pub is_whole : T (whole r)
  pub not-above : T (le r x)
  pub nearest : (y : Float) → T (whole y) → T (le y x) → T (le y r)
  pub same_sign : sign r ≡ sign x

-- r is the nearest whole number not below x, with x's sign
pub record Up (x r : Float) : Type 0 where
  pub is_whole : T (whole r)
  pub not-below : T (le x r)
  pub nearest : (y : Float) → T (whole y) → T (le x y) → T (le r y)
  pub same_sign : sign r ≡ sign x

-- r is x rounded down: the nearest whole number not above; infinities, NaN and signed zeros give themselves
pub record RoundsDown (x r : Float) : Type 0 where
  pub number : T (finite x) → Down x r
  pub infinity-or-nan : T (not (finite x)) → r ≡ x
  pub signed-zero : (s : Bool) → x ≡ signed_zero s → r ≡ x

-- r is x rounded up: the nearest whole number not below; infinities, NaN and signed zeros give themselves; between -1 and 0 it is -0
pub record RoundsUp (x r : Float) : Type 0 where
  pub number : T (finite x) → Up x r
  pub infinity-or-nan : T (not (finite x)) → r ≡ x
  pub signed-zero : (s : Bool) → x ≡ signed_zero s → r ≡ x
  pub below-zero : T (lt minus_one x) → T (lt x (signed_zero false)) → r ≡ signed_zero true
