-- Two texts compared byte by byte: the comparison's laws, and its steps from a place on. Assumes nothing.
use Prim.Native.Nat.{ℕ}
use native.Mathlib.Omega.{arith}
use mathlib.Core.Path.{◌≡◌, refl, ap, ◌∙◌}
use mathlib.Core.Bool.{Bool, true, false, ◌&&◌}
use mathlib.Core.List.{List, [], ◌∷◌}
use borrow.Author.Tests.{eq-eqb, eqb-true}
use lib.Dec.{eqb}
use Rattle.std.specs.Cmp.Lexicographic.{pointwise}
use Rattle.words.specs.Words.{same_bytes}

-- ---- it holds of the same text, and of no other
pub same_text : (l : List ℕ) → same_bytes l l ≡ true
unfolding same_bytes
same_text [] = refl
same_text (x ∷ l) = ap (λ (t : Bool). t && same_bytes l l) (eq-eqb x x refl) ∙ same_text l

both_hold : (t v : Bool) → (t && v) ≡ true → (t ≡ true) × (v ≡ true)
both_hold true v e = (refl, e)
both_hold false v e = let z : ◌≡◌ {A = ℕ} 0 1 = cc in let bad : ⊥ = omega arith in absurd bad

pub text_same : (l m : List ℕ) → same_bytes l m ≡ true → l ≡ m
unfolding same_bytes
text_same [] [] e = refl
text_same [] (y ∷ m) e = let z : ◌≡◌ {A = ℕ} 0 1 = cc in let bad : ⊥ = omega arith in absurd bad
text_same (x ∷ l) [] e = let z : ◌≡◌ {A = ℕ} 0 1 = cc in let bad : ⊥ = omega arith in absurd bad
text_same (x ∷ l) (y ∷ m) e =
    let h = both_hold (eqb x y) (same_bytes l m) e in
    ap (λ (n : ℕ). n ∷ l) (eqb-true x y h.0) ∙ ap (λ (k : List ℕ). y ∷ k) (text_same l m h.1)

-- ---- it is the library's test of two slices
pub same_bytes-is : (l m : List ℕ) → same_bytes l m ≡ pointwise eqb l m
unfolding same_bytes
same_bytes-is [] [] = refl
same_bytes-is [] (y ∷ m) = refl
same_bytes-is (x ∷ l) [] = refl
same_bytes-is (x ∷ l) (y ∷ m) = ap (λ (t : Bool). eqb x y && t) (same_bytes-is l m)
