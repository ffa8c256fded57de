-- What is picked by one test or two, or by a value that may be none. Assumes nothing.
use mathlib.Core.Path.{◌≡◌, sym, ap, ◌∙◌}
use mathlib.Core.Bool.{Bool, true, false, ◌&&◌, cond}
use Rattle.std.specs.declared.option.Option.{Option}
use Rattle.std.specs.declared.option.Option.TheVariants.{None, Some}
use Rattle.lists.specs.Lists.{given}

module _ {A : Type 0} (yes no : A) (t v : Bool) where
  pub not_first : t ≡ false → no ≡ cond (t && v) yes no
  not_first e = ap (λ (b : Bool). cond (b && v) yes no) (sym e)

  pub not-second : t ≡ true → v ≡ false → no ≡ cond (t && v) yes no
  not-second e f = ap (λ (b : Bool). cond b yes no) (sym f) ∙ ap (λ (b : Bool). cond (b && v) yes no) (sym e)

  pub both : t ≡ true → v ≡ true → yes ≡ cond (t && v) yes no
  both e f = ap (λ (b : Bool). cond b yes no) (sym f) ∙ ap (λ (b : Bool). cond (b && v) yes no) (sym e)

-- in a chain of tests, each worked out as r: the first that holds picks, those before it pass on
module _ {A : Type 0} (yes no : A) {x : A} {r t : Bool} where
  pub picked : r ≡ t → r ≡ true → x ≡ yes → x ≡ cond t yes no
  picked e h q = q ∙ ap (λ (b : Bool). cond b yes no) (sym h ∙ e)

  pub passed : r ≡ t → r ≡ false → x ≡ no → x ≡ cond t yes no
  passed e h q = q ∙ ap (λ (b : Bool). cond b yes no) (sym h ∙ e)

-- what an enum's answer says, by the case that it is
pub says : {R A : Type 0} (f : R → A) {r v : R} {x : A} → f r ≡ x → r ≡ v → f v ≡ x
says f e told = sym (ap f told) ∙ e

-- what is made of a value, or of none
module _ {A B : Type 0} (f : A → B) (no : B) {o : Option A} {x : B} where
  pub with-some : (a : A) → Some a ≡ o → x ≡ f a → x ≡ given o no f
  with-some a e q = q ∙ ap (λ (p : Option A). given p no f) e

  pub with_none : None ≡ o → x ≡ no → x ≡ given o no f
  with_none e q = q ∙ ap (λ (p : Option A). given p no f) e
