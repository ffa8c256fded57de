-- A list without the element at a place: its length, and of two lists joined. Assumes nothing.
use Prim.Native.Nat.{ℕ, suc, ◌+◌, ◌<◌}
use mathlib.Core.Path.{◌≡◌, ap₂, sym, ◌∙◌}
use mathlib.Core.List.{List, ◌++◌, append_assoc}
use native.Mathlib.Omega.{arith}
use lib.ListN.{length, take, drop, length-append, length-drop}
use lib.Seq.{take-append-le, drop-append-le, length-take-le}
use Rattle.lists.specs.Lists.{without}

module _ {A : Type 0} where
  pub length_without : (l : List A) (i : ℕ) → i < length l → length (without l i) + 1 ≡ length l
  length_without l i h = omega (arith, length-append (take i l) (drop (suc i) l), length-take-le i l (omega arith), length-drop (suc i) l)

  pub without-append : (l m : List A) (i : ℕ) → i < length l → without (l ++ m) i ≡ without l i ++ m
  without-append l m i h =
      ap₂ (λ x y. x ++ y) (take-append-le i l m (omega arith)) (drop-append-le (suc i) l m (omega arith)) ∙ sym (append_assoc (take i l) (drop (suc i) l) m)
