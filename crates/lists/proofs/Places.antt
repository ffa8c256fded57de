-- The first element that passes a test, sought from a place on, and a list without the element at a place, as it grows by one.
-- Assumes nothing.
use Prim.Native.Nat.{ℕ, suc, ◌+◌, ◌-◌, ◌≤◌, ◌<◌}
use mathlib.Core.Path.{◌≡◌}
use mathlib.Core.Bool.{Bool, true, false, cond}
use mathlib.Core.List.{List, [], ◌∷◌, ◌++◌, append-nil}
use Rattle.std.specs.declared.option.Option.{Option}
use Rattle.std.specs.declared.option.Option.TheVariants.{None, Some}
use native.Mathlib.Numerals.{add-one}
use native.Mathlib.Omega.{arith}
use lib.ListN.{length, take, drop, get_or, length-take, drop_of_length-le}
use lib.Seq.{drop-cons, take-suc, take-take}
use Rattle.lists.specs.Lists.{first_from, without}
use Rattle.lists.proofs.Without.{without-append}

within_by : (j i n : ℕ) (b : Bool) (o : Option ℕ) → (Some i ≡ o → i < suc j + n) → Some i ≡ cond b (Some j) o → i < j + suc n
within_by j i n true o h e = let z : i ≡ j = cc in omega arith
within_by j i n false o h e = omega (arith, h e)

module _ {A : Type 0} where
  -- what is found is there
  pub first-within : (p : A → Bool) (j i : ℕ) (l : List A) → Some i ≡ first_from j p l → i < j + length l
  first-within p j i [] e = absurd (let z : ◌≡◌ {A = ℕ} 0 1 = cc in omega arith)
  first-within p j i (a ∷ l) e = within_by j i (length l) (p a) _ (first-within p (suc j) i l) e

  -- the elements from i to n, the first one apart
  pub from_cons : (n i : ℕ) (l : List A) (d : A) → i < n → i < length l → take (n - i) (drop i l) ≡ get_or l i d ∷ take (n - (i + 1)) (drop (i + 1) l)
  from_cons n i l d h k = let e : n - i ≡ suc (n - (i + 1)) = omega arith in rw (e, drop-cons l i d, add-one)

  -- what is found from i on: past an element that fails, at one that passes, and past the end
  pub first_next : (p : A → Bool) (n i : ℕ) (l : List A) (d : A) → i < n → i < length l → p (get_or l i d) ≡ false →
      first_from i p (take (n - i) (drop i l)) ≡ first_from (i + 1) p (take (n - (i + 1)) (drop (i + 1) l))
  first_next p n i l d h k f = rw (from_cons n i l d h k, f, add-one)

  pub first-here : (p : A → Bool) (n i : ℕ) (l : List A) (d : A) → i < n → i < length l → p (get_or l i d) ≡ true →
      first_from i p (take (n - i) (drop i l)) ≡ Some i
  first-here p n i l d h k t = rw (from_cons n i l d h k, t)

  pub first-end : (p : A → Bool) (n i : ℕ) (l : List A) → n ≤ i → first_from i p (take (n - i) (drop i l)) ≡ None
  first-end p n i l h = let e : n - i ≡ 0 = omega arith in rw e

  -- one more element behind the one that is left out
  pub without_more : (l : List A) (at n : ℕ) (d : A) → at < n → n < length l → without (take (n + 1) l) at ≡ without (take n l) at ++ (get_or l n d ∷ [])
  without_more l at n d h k =
      let m : at < length (take n l) = simp length-take (omega arith) in
      rw (add-one, take-suc l n d, without-append (take n l) (get_or l n d ∷ []) at m)

  -- the last element left out
  pub without-last : (l : List A) (at : ℕ) → without (take (at + 1) l) at ≡ take at l
  without-last l at =
      let n : length (take (suc at) l) ≤ suc at = simp length-take (omega arith) in
      rw (add-one, take-take at (suc at) l (omega arith), drop_of_length-le (take (suc at) l) n, append-nil)
