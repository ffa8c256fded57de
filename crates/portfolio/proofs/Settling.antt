-- Fetched quotes merged: the rows that a closure makes place by place are the merged ones. Assumes nothing.
use Rattle.std.proofs.Common.{◌≡◌, ℕ, zero, suc, ◌+◌, ◌<◌, ◌≤◌, List, [], ◌∷◌, length, refl, ap, ap₂, sym, ◌∙◌, arith, subst, get_or}
use Rattle.std.specs.declared.option.Option.{Option}
use Rattle.std.specs.declared.option.Option.TheVariants.{None, Some}
use Rattle.std.specs.Option.{option_or}
use Rattle.std.specs.Array.{IsFromFnResult, IsFromFnResultFrom}
use Rattle.std.specs.Fn.{Mut, Called}
use Rattle.lists.specs.Lists.{each, given}

-- the calls of a closure that keeps its state: each gives the element of its place
module _ {F B : Type 0} (g : Mut F (ℕ × Unit {0}) B) (at : ℕ → B) (f : F) (ys : List B) (step : (s : ℕ) (r : B) (q : F) → s < 256 → Called g f (s, tt) r q → (r ≡ at s) × (q ≡ f)) where
  first_call : (i : ℕ) (p q : F) (y : B) → p ≡ f → i < 256 → Called g p (i, tt) y q → (y ≡ at i) × (q ≡ f)
  first_call i p q y e h called = step i y q h (subst (λ (x : F). Called g x (i, tt) y q) e called)

  -- of n calls from place i on, the k-th
  calls : (n i k j : ℕ) (p : F) (d : B) → p ≡ f → IsFromFnResultFrom g p ys i n → i + n ≤ 256 → k < n → j ≡ i + k → get_or ys j d ≡ at j
  calls zero i k j p d e r fits h is_at = absurd (omega arith)
  calls (suc n) i zero j p d e (q, y, is, called, more) fits h is_at =
      let here : j ≡ i = omega arith in
      ap (λ (m : ℕ). get_or ys m d) here ∙ is.1 d ∙ (first_call i p q y e (omega arith) called).0 ∙ ap at (sym here)
  calls (suc n) i (suc k) j p d e (q, y, is, called, more) fits h is_at =
      calls n (i + 1) k j q d (first_call i p q y e (omega arith) called).1 more (omega arith) (omega arith) (omega arith)

  pub made : IsFromFnResult g f ys 256 → (j : ℕ) (d : B) → j < 256 → get_or ys j d ≡ at j
  made r j d h = calls 256 0 j j f d refl r.each (omega arith) h (omega arith)

-- a list whose element at each place is what h makes of that of another
each-is : {A B : Type 0} (h : ℕ → A → B) (d : A) (e : B) (ys : List B) (l : List A) (i : ℕ) → length ys ≡ length l →
    ((k j : ℕ) → k < length l → j ≡ i + k → get_or ys k e ≡ h j (get_or l k d)) → ys ≡ each h i l
each-is h d e [] [] i n at = refl
each-is h d e [] (a ∷ l) i n at = absurd (omega (arith, n))
each-is h d e (b ∷ ys) [] i n at = absurd (omega (arith, n))
each-is h d e (b ∷ ys) (a ∷ l) i n at =
    ap₂ (λ (x : _) (xs : List _). x ∷ xs) (at 0 i (omega arith) (omega arith))
    (each-is h d e ys l (suc i) (omega (arith, n)) (λ k j low is. at (suc k) j (omega arith) (omega arith)))

module _ {A : Type 0} (f l ys : List (Option A)) where
  or-given : (x q : Option A) → option_or x q ≡ given x q Some
  or-given None q = refl
  or-given (Some a) q = refl

  -- the elements of a list that are there, put into another
  pub merged : length l ≡ 256 → length ys ≡ 256 → ((j : ℕ) → j < 256 → get_or ys j None ≡ option_or (get_or f j None) (get_or l j None)) →
      ys ≡ each (λ i q. given (get_or f i None) q Some) 0 l
  merged w long at =
      each-is (λ i q. given (get_or f i None) q Some) None None ys l 0 (long ∙ sym w)
      (λ k j low is. let here : k ≡ j = omega (arith, is) in ap (λ (m : ℕ). get_or ys m None) here ∙ at j (omega (arith, low, w)) ∙ or-given (get_or f j None) (get_or l j None) ∙ ap (λ (m : ℕ). given (get_or f j None) (get_or l m None) Some) (sym here))
