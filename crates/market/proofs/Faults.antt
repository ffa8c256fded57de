-- Laws of the tests that draw a number: tests one after the other, and what none says.
use mathlib.Core.Path.{◌≡◌, refl, ap, sym, ◌∙◌}
use mathlib.Core.Bool.{Bool, true, false, true≢false}
use mathlib.Core.List.{List, [], ◌∷◌, ◌++◌}
use Rattle.std.specs.declared.option.Option.{Option}
use Rattle.std.specs.declared.option.Option.TheVariants.{None, Some}
use Rattle.std.specs.Prelude.{is_some}
use Rattle.market.specs.Faults.{Test, ◌draws◌, drawn, unless_drawn, first_drawn}
use Rattle.market.specs.declared.fault.Fault.{Fault}

-- ---- an answer where something is drawn, and where nothing is

pub unless-some : {A : Type 0} (d : Option Fault) (x y : A) → (d ≡ None → ⊥) → y ≡ unless_drawn d x y
unless-some None x y n = absurd (n refl)
unless-some (Some f) x y n = refl

pub unless-none : {A : Type 0} (d : Option Fault) (x y : A) → d ≡ None → x ≡ unless_drawn d x y
unless-none d x y e = rw e refl

-- no refusal is none
pub some-drawn : (f : Fault) → ◌≡◌ {A = Option Fault} (Some f) None → ⊥
some-drawn f e = true≢false (ap is_some e)

-- ---- tests one after the other

-- the first list's refusal, or else the second's
pub drawn-append : (a b : List Test) → drawn (a ++ b) ≡ first_drawn (drawn a) (drawn b)
unfolding drawn
drawn-append [] b = refl
drawn-append ((true draws f) ∷ a) b = refl
drawn-append ((false draws f) ∷ a) b = drawn-append a b

-- ---- two refusals, one after the other

-- only where the first draws nothing does it matter what comes second
pub first-same : (d a b : Option Fault) → (d ≡ None → a ≡ b) → first_drawn d a ≡ first_drawn d b
first-same None a b e = e refl
first-same (Some f) a b e = refl

-- what comes second, and what comes first
pub first-none-is : (d a : Option Fault) → d ≡ None → a ≡ first_drawn d a
first-none-is d a e = rw e refl

pub first-some-is : (d a : Option Fault) → (d ≡ None → ⊥) → d ≡ first_drawn d a
first-some-is None a n = absurd (n refl)
first-some-is (Some f) a n = refl

-- ---- where nothing was drawn

pub first-none : (a b : Option Fault) → first_drawn a b ≡ None → (a ≡ None) × (b ≡ None)
first-none None b e = (refl, e)
first-none (Some f) b e = absurd (some-drawn f e)

-- neither list drew anything
pub append-none : (a b : List Test) → drawn (a ++ b) ≡ None → (drawn a ≡ None) × (drawn b ≡ None)
append-none a b e = first-none (drawn a) (drawn b) (sym (drawn-append a b) ∙ e)

-- the first test did not hold, and the others drew nothing
pub none-drawn : (b : Bool) (f : Fault) (l : List Test) → drawn ((b draws f) ∷ l) ≡ None → (b ≡ false) × (drawn l ≡ None)
unfolding drawn
none-drawn true f l e = absurd (some-drawn f e)
none-drawn false f l e = (refl, e)

-- a first test that holds, and one that does not
pub test-holds : (b : Bool) (f : Fault) (l : List Test) → b ≡ true → drawn ((b draws f) ∷ l) ≡ Some f
unfolding drawn
test-holds b f l e = rw e refl

pub test-fails : (b : Bool) (f : Fault) (l : List Test) → b ≡ false → drawn ((b draws f) ∷ l) ≡ drawn l
unfolding drawn
test-fails b f l e = rw e refl
