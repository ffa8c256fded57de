-- The verb of a word: by whether it has a byte, and by a table whose last rows were tested first. Assumes nothing.
use Prim.Native.Nat.{ℕ}
use native.Mathlib.Omega.{arith}
use mathlib.Core.Path.{◌≡◌, refl, ap, ◌∙◌}
use mathlib.Core.List.{List, [], ◌∷◌}
use lib.ListN.{length}
use Rattle.calls.specs.declared.verb.Verb.{Verb}
use Rattle.calls.specs.declared.verb.Verb.TheVariants.{Blank}
use Rattle.calls.specs.Verbs.{named_or, verb_in, verbs, verb_of}

pub no_name : (w : List ℕ) → length w ≡ 0 → Blank ≡ verb_of w
unfolding verb_of
no_name [] e = refl
no_name (b ∷ w) e = let bad : ⊥ = omega arith in absurd bad

pub some-name : (w : List ℕ) → (length w ≡ 0 → ⊥) → verb_in verbs w ≡ verb_of w
unfolding verb_of
some-name [] h = absurd (h refl)
some-name (b ∷ w) h = refl

pub row_of : (w name : List ℕ) (v : Verb) {x y z : Verb} → x ≡ named_or w name v y → y ≡ z → x ≡ named_or w name v z
row_of w name v e q = e ∙ ap (named_or w name v) q
