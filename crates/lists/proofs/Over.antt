-- An array with a list in its first places: reads, stores, lengths, and a longer list in the place of a shorter one.
-- And rows stored in the middle of a list. Assumes nothing.
use Prim.Native.Nat.{ℕ, zero, suc, ◌+◌, ◌-◌, ◌≤◌, ◌<◌}
use mathlib.Core.Path.{◌≡◌, refl, ap, sym, ◌∙◌}
use mathlib.Core.List.{List, [], ◌∷◌, ◌++◌, append_assoc}
use native.Mathlib.Numerals.{add-one}
use native.Mathlib.Omega.{arith}
use lib.ListN.{length, take, drop, set, get_or, length-append, length-drop}
use lib.Seq.{drop-cons, take-suc, length-take-le, set-append_seam, get_or-append-add, get_or-drop, drop-append-add, drop-drop, take_at, paste, take-append_seam}
use Rattle.lists.specs.Lists.{over, stored}

module _ {A : Type 0} where
  pub length_over : (k l : List A) → length k ≤ length l → length (over k l) ≡ length l
  length_over k l h = simp (length-append, length-drop) (omega arith)

  pub take-over : (k l : List A) (n : ℕ) → length k ≡ n → take n (over k l) ≡ k
  take-over k l n e = take_at k (drop (length k) l) n e

  -- what lies past the list is as it was
  pub over-read : (k l : List A) (i : ℕ) (d : A) → length k ≤ i → get_or (over k l) i d ≡ get_or l i d
  over-read k l i d h =
      let e : i ≡ length k + (i - length k) = omega arith in
      ap (λ (n : ℕ). get_or (over k l) n d) e ∙ get_or-append-add k (drop (length k) l) (i - length k) d ∙ get_or-drop (length k) l (i - length k) d
      ∙ ap (λ (n : ℕ). get_or l n d) (sym e)

  -- so what is dropped past the list is as it was
  pub drop-over : (k l : List A) (n : ℕ) → length k ≤ n → drop n (over k l) ≡ drop n l
  drop-over k l n h =
      let e : n ≡ length k + (n - length k) = omega arith in
      ap (λ (m : ℕ). drop m (over k l)) e ∙ drop-append-add k (drop (length k) l) (n - length k) ∙ drop-drop (n - length k) (length k) l
      ∙ ap (λ (m : ℕ). drop m l) (sym e)

  -- a store just past the list makes it longer by one
  pub over-more : (k l : List A) (n : ℕ) (x : A) → n ≡ length k → length k < length l → set (over k l) n x ≡ over (k ++ (x ∷ [])) l
  over-more k l n x e h = ap (λ (m : ℕ). set (over k l) m x) e ∙ rw (drop-cons l (length k) x, set-append_seam, length-append, append_assoc, add-one)

  -- an element more of the list that is copied
  pub over-next : (m l : List A) (i : ℕ) (x d : A) → i < length m → length m ≤ length l → x ≡ get_or m i d → set (over (take i m) l) i x ≡ over (take (i + 1) m) l
  over-next m l i x d h k e =
      let size : length (take i m) ≡ i = length-take-le i m (omega arith) in
      over-more (take i m) l i x (sym size) (omega (arith, size))
      ∙ ap (λ (z : A). over (take i m ++ (z ∷ [])) l) e
      ∙ ap (λ (z : List A). over z l) (sym (take-suc m i d h) ∙ ap (λ (n : ℕ). take n m) (sym (add-one i)))

  -- an array with its own first places in them is as it was
  pub over-take : (n : ℕ) (l : List A) → over (take n l) l ≡ l
  over-take zero l = refl
  over-take (suc n) [] = refl
  over-take (suc n) (a ∷ l) = ap (λ (z : List A). a ∷ z) (over-take n l)

  -- a longer list takes the place of a shorter one
  pub over-over : (k m l : List A) → over (k ++ m) (over k l) ≡ over (k ++ m) l
  over-over k m l =
      ap (λ (z : List A). (k ++ m) ++ z)
      (ap (λ (n : ℕ). drop n (k ++ drop (length k) l)) (length-append k m)
      ∙ drop-append-add k (drop (length k) l) (length m)
      ∙ drop-drop (length m) (length k) l
      ∙ ap (λ (n : ℕ). drop n l) (sym (length-append k m)))

  -- rows that stand in the first n places of an array, copied into a list
  pub paste-over : (d : List A) (at : ℕ) (k l : List A) (n : ℕ) → length k ≡ n → paste d at (over k l) n ≡ stored d at k
  paste-over d at k l n e =
      ap (λ (z : List A). take at d ++ z ++ drop (at + n) d) (take-over k l n e) ∙ ap (λ (m : ℕ). take at d ++ k ++ drop (at + m) d) (sym e)

  -- rows stored behind those that stand first
  pub stored-over : (x y l : List A) (n : ℕ) → n ≡ length x → stored (over x l) n y ≡ over (x ++ y) l
  stored-over x y l n h =
      ap (λ (m : ℕ). stored (over x l) m y) h
      ∙ ap (λ (z : List A). z ++ y ++ drop (length x + length y) (over x l)) (take-append_seam x (drop (length x) l))
      ∙ ap (λ (z : List A). x ++ y ++ z) (drop-append-add x (drop (length x) l) (length y) ∙ drop-drop (length y) (length x) l)
      ∙ ap (λ (m : ℕ). (x ++ y) ++ drop m l) (sym (length-append x y))
