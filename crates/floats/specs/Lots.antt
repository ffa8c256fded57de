-- Rounding down to a lot size (document 02, request 1): what `floor_to_lot` answers, and what that comes to. Definitions only.
-- As in `Whole`, a finite value `fin s m e` is ±a / b, the whole numbers a = m * up e and b = down e with the sign s.
use Rattle.std.specs.Prelude.{◌≡◌, ℕ, ◌*◌, ◌%◌, Bool, true, false, cond, ◌&&◌, T, ◌==◌, nat_le, Float}
use Rattle.std.specs.Prelude.{Option, None, Some}
use Rattle.std.specs.Float.{nan, inf, fin, binary64}
use Rattle.std.specs.Float.Ieee.{up, down, round, le}
use Rattle.floats.specs.Whole.{under, over, floor_of, sign}

-- a lot size is 1 to 1,000,000
abbrev pub is_lot : ℕ → Bool
is_lot L = nat_le 1 L && nat_le L 1000000

-- the greatest multiple of L not above a / b: L times the whole part of a / (b * L)
abbrev pub lot_under : ℕ → ℕ → ℕ → ℕ
lot_under a b L = under a (b * L) * L

-- the least multiple of L not below a / b
abbrev pub lot_over : ℕ → ℕ → ℕ → ℕ
lot_over a b L = over a (b * L) * L

-- round down to a multiple of L. The sign stays, as in `floor_of`
unfoldable pub lot_of : ℕ → Float → Float
lot_of L nan = nan
lot_of L (inf s) = inf s
lot_of L (fin false m e) = round binary64 false (lot_under (m * up e) (down e) L) 1
lot_of L (fin true m e) = round binary64 true (lot_over (m * up e) (down e) L) 1

-- a NaN, or at least 4,503,599,627,370,496 (2 ^ 52) in size, infinities included
abbrev pub beyond : Float → Bool
beyond nan = true
beyond (inf s) = true
beyond (fin s m e) = nat_le (4503599627370496 * down e) (m * up e)

-- the shares of a quotient. A lot of 1 rounds to whole numbers, whatever the quotient, and so does a lot of 0, which is no lot size;
-- for a lot above 1 a quotient that is `beyond` has none, which is 18
unfoldable pub lot_shares : ℕ → Float → Option Float
lot_shares L x = cond (nat_le L 1) (Some (floor_of x)) (cond (beyond x) None (Some (lot_of L x)))

-- ---- the rule as a statement

-- a multiple of L, of any size and either sign
abbrev pub multiple : ℕ → Float → Bool
multiple L nan = false
multiple L (inf s) = false
multiple L (fin s m e) = m * up e % (down e * L) == 0

-- r is the greatest multiple of L not above x, with x's sign. `lot-rounds` in `proofs/Lots.antt` proves it of `lot_shares L x ≡ some r`,
-- for every L from 1 to 4,294,967,295 and every x that is not `beyond`
pub record LotDown (L : ℕ) (x r : Float) : Type 0 where
  pub is-multiple : T (multiple L r)
  pub not-above : T (le r x)
  pub nearest : (y : Float) → T (multiple L y) → T (le y x) → T (le y r)
  pub same_sign : sign r ≡ sign x
