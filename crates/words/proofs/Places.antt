-- The place of the first byte that passes a test, found byte by byte. Assumes nothing.
use Prim.Native.Nat.{ℕ, zero, suc, ◌+◌, ◌≤◌, min}
use native.Mathlib.Omega.{arith}
use mathlib.Core.Path.{◌≡◌, refl, sym, ap, ◌∙◌}
use mathlib.Core.Bool.{Bool, true, false, cond}
use mathlib.Core.List.{List, [], ◌∷◌}
use lib.ListN.{length, drop, length-drop}
use lib.Seq.{drop-nil}
use lib.Dec.{ltb}
use Rattle.std.specs.declared.option.Option.TheVariants.{None, Some}
use Rattle.std.specs.List.{position_or_len}
use Rattle.std.proofs.lemmas.List.Recursion.{is_position_or_len}
use Rattle.std.proofs.lemmas.Bool.Decides.{nat_tests}
use Rattle.words.specs.Words.{lead, place}

at_most : (t : Bool) (n m : ℕ) → n ≤ m → cond t 0 (suc n) ≤ suc m
at_most true n m h = omega arith
at_most false n m h = omega arith

pub drop_min : (l : List ℕ) (i n : ℕ) → drop (min i (length l) + n) l ≡ drop n (drop i l)
drop_min l zero n = let e : min 0 (length l) + n ≡ n = omega arith in ap (λ (k : ℕ). drop k l) e
drop_min [] (suc i) n = drop-nil (min (suc i) 0 + n) ∙ sym (drop-nil n)
drop_min (x ∷ l) (suc i) n =
    let e : min (suc i) (suc (length l)) + n ≡ suc (min i (length l) + n) = omega arith in
    ap (λ (k : ℕ). drop k (x ∷ l)) e ∙ drop_min l i n

pub from-least : (l : List ℕ) (i : ℕ) → drop (min i (length l)) l ≡ drop i l
from-least l i = let e : min i (length l) + 0 ≡ min i (length l) = omega arith in ap (λ (k : ℕ). drop k l) (sym e) ∙ drop_min l i 0

module _ (p : ℕ → Bool) where
  lead-here : (x : ℕ) (l : List ℕ) → p x ≡ true → lead p (x ∷ l) ≡ 0
  unfolding lead
  lead-here x l e = ap (λ (t : Bool). cond t 0 (suc (lead p l))) e

  pub lead-on : (x : ℕ) (l : List ℕ) → p x ≡ false → lead p (x ∷ l) ≡ suc (lead p l)
  unfolding lead
  lead-on x l e = ap (λ (t : Bool). cond t 0 (suc (lead p l))) e

  lead-is : (l : List ℕ) → lead p l ≡ position_or_len p l
  unfolding lead
  lead-is l = is_position_or_len (lead p) p refl (λ x l. ap (cond (p x) 0) (omega arith)) l

  pub lead-within : (l : List ℕ) → lead p l ≤ length l
  unfolding lead
  lead-within [] = omega arith
  lead-within (x ∷ l) = at_most (p x) (lead p l) (length l) (lead-within l)

  module _ (l : List ℕ) (i : ℕ) where
    -- the first one that passes among those from there on, as the library finds it
    pub found : (n k : ℕ) → n ≡ min i (length l) → Some k ≡ cond (ltb (position_or_len p (drop i l)) (length (drop i l))) (Some (position_or_len p (drop i l))) None → n + k ≡ place p l i
    found n k m e = grind (arith, nat_tests, lead-is (drop i l), length-drop i l)

    pub not-found : None ≡ cond (ltb (position_or_len p (drop i l)) (length (drop i l))) (Some (position_or_len p (drop i l))) None → length l ≡ place p l i
    not-found e = grind (arith, nat_tests, lead-is (drop i l), lead-within (drop i l), length-drop i l)

    pub place-within : place p l i ≤ length l
    place-within = omega (arith, lead-within (drop i l), length-drop i l)

    pub place-from : min i (length l) ≤ place p l i
    place-from = omega arith

    -- what stands from the place on
    pub drop-place : drop (place p l i) l ≡ drop (lead p (drop i l)) (drop i l)
    drop-place = drop_min l i (lead p (drop i l))
