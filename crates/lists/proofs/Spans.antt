-- Numbers from a number on: how many they are, and which stands where. Assumes nothing.
use Prim.Native.Nat.{ℕ, zero, suc, ◌+◌, ◌<◌}
use mathlib.Core.Path.{◌≡◌, refl, ap, ◌∙◌}
use native.Mathlib.Omega.{arith}
use lib.ListN.{length, get_or}
use Rattle.lists.specs.Lists.{span}

pub length-span : (i n : ℕ) → length (span i n) ≡ n
length-span i zero = refl
length-span i (suc n) = ap suc (length-span (suc i) n)

pub span-at : (i n k d : ℕ) → k < n → get_or (span i n) k d ≡ i + k
span-at i zero k d h = absurd (omega arith)
span-at i (suc n) zero d h = omega arith
span-at i (suc n) (suc k) d h = span-at (suc i) n k d (omega arith) ∙ omega arith
