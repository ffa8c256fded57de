-- Rows that stand first in an array, stored in a list: none where something is drawn. Assumes nothing.
use Prim.Native.Nat.{ℕ, ◌+◌, ◌≤◌}
use native.Mathlib.Nat.{zero-add}
use native.Mathlib.Omega.{arith}
use mathlib.Core.Path.{◌≡◌, refl, ap}
use mathlib.Core.List.{List, [], ◌++◌}
use Rattle.std.specs.declared.option.Option.{Option}
use Rattle.std.specs.declared.option.Option.TheVariants.{None, Some}
use lib.ListN.{length, take, drop}
use Rattle.lists.specs.Lists.{over, stored}
use Rattle.lists.proofs.Over.{take-over}
use Rattle.market.specs.Faults.{unless_drawn}
use Rattle.market.specs.declared.fault.Fault.{Fault}

module _ {A : Type 0} where
  pub count-most : (d : Option Fault) (count most : ℕ) (new : List A) → (d ≡ None → length new ≤ most) → count ≡ unless_drawn d (length new) 0 → count ≤ most
  count-most None count most new few counted = omega (arith, few refl)
  count-most (Some f) count most new few counted = omega arith

  -- the first `count` rows of the array are the new ones
  pub front-is : (d : Option Fault) (count : ℕ) (rows new rest : List A) → (d ≡ None → rows ≡ over new rest) → count ≡ unless_drawn d (length new) 0 → take count rows ≡ unless_drawn d new []
  front-is None count rows new rest are counted = rw (are refl, counted) (take-over new rest (length new) refl)
  front-is (Some f) count rows new rest are counted = rw counted

  -- the rows `part`, stored from a place on
  pub stored-by : (d : Option Fault) (from at : ℕ) (list part new : List A) → part ≡ unless_drawn d new [] → from ≡ unless_drawn d at 0 → stored list from part ≡ unless_drawn d (stored list at new) list
  stored-by None from at list part new are placed = rw (are, placed)
  stored-by (Some f) from at list part new are placed = rw (are, placed)

  pub fits_by : (d : Option Fault) (from at : ℕ) (list part new : List A) → part ≡ unless_drawn d new [] → from ≡ unless_drawn d at 0 → (d ≡ None → at + length new ≤ length list) → from + length part ≤ length list
  fits_by None from at list part new are placed fit = omega (arith, ap length are, fit refl)
  fits_by (Some f) from at list part new are placed fit = omega (arith, ap length are)

  -- and from the first place on
  pub fits-first : (d : Option Fault) (list part new : List A) → part ≡ unless_drawn d new [] → (d ≡ None → length new ≤ length list) → 0 + length part ≤ length list
  fits-first None list part new are fit = omega (arith, ap length are, fit refl)
  fits-first (Some f) list part new are fit = omega (arith, ap length are)

  pub over-by : (d : Option Fault) (list part new : List A) → part ≡ unless_drawn d new [] → stored list 0 part ≡ unless_drawn d (over new list) list
  over-by None list part new are = rw are (ap (λ (i : ℕ). new ++ drop i list) (zero-add (length new)))
  over-by (Some f) list part new are = rw are
