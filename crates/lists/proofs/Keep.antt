-- What a test keeps of a list, and what a function gathers from one: of two lists joined, of one element more, and their lengths.
-- Assumes nothing.
use Prim.Native.Nat.{ℕ, suc, ◌+◌, ◌-◌, ◌≤◌, ◌<◌}
use mathlib.Core.Path.{◌≡◌, refl, ap, sym, ◌∙◌}
use mathlib.Core.Bool.{Bool, true, false, not, cond}
use mathlib.Core.List.{List, [], ◌∷◌, ◌++◌, append_assoc, append-nil}
use native.Mathlib.Numerals.{add-one}
use native.Mathlib.Omega.{arith}
use lib.ListN.{length, take, drop, get_or, length-append}
use lib.Seq.{take-suc, take-add}
use Rattle.lists.specs.Lists.{keep, gather}

module _ {A : Type 0} where
  keep-append-by : (b : Bool) (a : A) (x y m : List A) → x ≡ y ++ m → cond b (a ∷ x) x ≡ cond b (a ∷ y) y ++ m
  keep-append-by true a x y m e = ap (λ (z : List A). a ∷ z) e
  keep-append-by false a x y m e = e

  pub keep_append : (p : A → Bool) (l m : List A) → keep p (l ++ m) ≡ keep p l ++ keep p m
  keep_append p [] m = refl
  keep_append p (a ∷ l) m = keep-append-by (p a) a _ _ _ (keep_append p l m)

  -- at an element that passes, one more is kept; at another, none
  pub keep-more : (p : A → Bool) (l : List A) (i : ℕ) (d : A) → i < length l → p (get_or l i d) ≡ true → keep p (take (i + 1) l) ≡ keep p (take i l) ++ (get_or l i d ∷ [])
  keep-more p l i d h t = rw (add-one, take-suc l i d, keep_append, t)

  pub keep-less : (p : A → Bool) (l : List A) (i : ℕ) (d : A) → i < length l → p (get_or l i d) ≡ false → keep p (take (i + 1) l) ≡ keep p (take i l)
  keep-less p l i d h t = rw (add-one, take-suc l i d, keep_append, t, append-nil)

  -- each element passes a test or its contrary
  keep-split-by : (b : Bool) (a : A) (x y : List A) (n : ℕ) → length x + length y ≡ n → length (cond b (a ∷ x) x) + length (cond (not b) (a ∷ y) y) ≡ suc n
  keep-split-by true a x y n e = omega arith
  keep-split-by false a x y n e = omega arith

  pub keep-split : (p : A → Bool) (l : List A) → length (keep p l) + length (keep (λ a. not (p a)) l) ≡ length l
  keep-split p [] = refl
  keep-split p (a ∷ l) = keep-split-by (p a) a _ _ _ (keep-split p l)

  pub length-keep : (p : A → Bool) (l : List A) → length (keep p l) ≤ length l
  length-keep p l = omega (arith, keep-split p l)

  -- no more is kept of the first elements than of more of them
  pub keep-mono : (p : A → Bool) (l : List A) (i n : ℕ) → i ≤ n → length (keep p (take i l)) ≤ length (keep p (take n l))
  keep-mono p l i n h =
      let e : n ≡ i + (n - i) = omega arith in
      let f : length (keep p (take n l)) ≡ length (keep p (take i l)) + length (keep p (take (n - i) (drop i l)))
      = ap (λ (k : ℕ). length (keep p (take k l))) e ∙ rw (take-add i (n - i) l, keep_append, length-append) in
      omega arith

module _ {A B : Type 0} where
  pub gather_append : (f : A → List B) (l m : List A) → gather f (l ++ m) ≡ gather f l ++ gather f m
  gather_append f [] m = refl
  gather_append f (a ∷ l) m = ap (λ (z : List B). f a ++ z) (gather_append f l m) ∙ sym (append_assoc (f a) (gather f l) (gather f m))

  pub gather-more : (f : A → List B) (l : List A) (i : ℕ) (d : A) → i < length l → gather f (take (i + 1) l) ≡ gather f (take i l) ++ f (get_or l i d)
  gather-more f l i d h = rw (add-one, take-suc l i d, gather_append, append-nil)
