-- What a test that holds says, and what an answer under a test says. Assumes nothing.
use Prim.Native.Nat.{ℕ}
use native.Mathlib.Omega.{arith}
use mathlib.Core.Path.{◌≡◌, refl}
use mathlib.Core.Bool.{Bool, true, false, ◌&&◌}
use Rattle.std.specs.declared.option.Option.TheVariants.{Some}
use Rattle.std.proofs.lemmas.Option.{same_Some, none-some}
use Rattle.words.specs.Numbers.{some_if}

pub and-true : (t u : Bool) → (t && u) ≡ true → (t ≡ true) × (u ≡ true)
and-true true u e = (refl, e)
and-true false u e = absurd (let z : ◌≡◌ {A = ℕ} 0 1 = cc in omega arith)

pub both_true : {t u : Bool} → t ≡ true → u ≡ true → (t && u) ≡ true
both_true h k = rw (h, k)

module _ {A : Type 0} where
  pub some-if : (t : Bool) (x y : A) → some_if t x ≡ Some y → (t ≡ true) × (x ≡ y)
  some-if true x y e = (refl, same_Some x y e)
  some-if false x y e = absurd (none-some y e)

  pub if_some : (t : Bool) (x : A) → t ≡ true → some_if t x ≡ Some x
  if_some t x e = rw e
