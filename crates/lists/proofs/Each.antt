-- A function of each element and its place: lengths, equal functions, and what holds of every element and its place.
-- Assumes nothing.
use Prim.Native.Nat.{ℕ, zero, suc, ◌+◌, ◌≤◌, ◌<◌}
use mathlib.Core.Path.{◌≡◌, refl, ap, ap₂, subst}
use mathlib.Core.List.{List, [], ◌∷◌, ◌++◌, map}
use Rattle.std.specs.declared.option.Option.TheVariants.{Some}
use native.Mathlib.Omega.{arith}
use lib.ListN.{length}
use Rattle.std.specs.Prelude.{slice_get}
use Rattle.lists.specs.Lists.{each, gather}

module _ {A B : Type 0} where
  pub length-each : (f : ℕ → A → B) (i : ℕ) (l : List A) → length (each f i l) ≡ length l
  length-each f i [] = refl
  length-each f i (a ∷ l) = ap suc (length-each f (suc i) l)

  pub each-each : (f g : ℕ → A → B) → ((n : ℕ) (a : A) → f n a ≡ g n a) → (i : ℕ) (l : List A) → each f i l ≡ each g i l
  each-each f g h i [] = refl
  each-each f g h i (a ∷ l) = ap₂ (λ x y. x ∷ y) (h i a) (each-each f g h (suc i) l)

  pub each_map : (f : ℕ → A → B) (g : A → B) → ((n : ℕ) (a : A) → f n a ≡ g a) → (i : ℕ) (l : List A) → each f i l ≡ map g l
  each_map f g h i [] = refl
  each_map f g h i (a ∷ l) = ap₂ (λ x y. x ∷ y) (h i a) (each_map f g h (suc i) l)

  pub gather-map : (g : A → List B) (l : List A) → gather (λ k. k) (map g l) ≡ gather g l
  gather-map g [] = refl
  gather-map g (a ∷ l) = ap (λ y. g a ++ y) (gather-map g l)

  pub each_none : (f : ℕ → A → List B) → ((n : ℕ) (a : A) → f n a ≡ []) → (i : ℕ) (l : List A) → gather (λ k. k) (each f i l) ≡ []
  each_none f h i [] = refl
  each_none f h i (a ∷ l) = ap₂ (λ x y. x ++ y) (h i a) (each_none f h (suc i) l)

module _ {A : Type 0} where
  pub each_same : (f : ℕ → A → A) → ((n : ℕ) (a : A) → f n a ≡ a) → (i : ℕ) (l : List A) → each f i l ≡ l
  each_same f h i [] = refl
  each_same f h i (a ∷ l) = ap₂ (λ x y. x ∷ y) (h i a) (each_same f h (suc i) l)

  -- P of every element and its place, the first place being i
  abbrev pub AllFrom : (ℕ → A → Type 0) → ℕ → List A → Type 0
  AllFrom P i [] = Unit {0}
  AllFrom P i (a ∷ l) = P i a × AllFrom P (suc i) l

  pub all_append : (P : ℕ → A → Type 0) (i j : ℕ) (l m : List A) → i + length l ≡ j → AllFrom P i l → AllFrom P j m → AllFrom P i (l ++ m)
  all_append P i j [] m h a b = subst (λ k. AllFrom P k m) (omega arith) b
  all_append P i j (e ∷ l) m h a b = (a.0, all_append P (suc i) j l m (omega arith) a.1 b)

  pub all-at : (P : ℕ → A → Type 0) (i n k : ℕ) (l : List A) → i + n ≡ k → n < length l → AllFrom P i l → (e : A) × (slice_get l n ≡ Some e) × P k e
  all-at P i n k [] h b a = absurd (omega arith)
  all-at P i zero k (e ∷ l) h b a = (e, refl, subst (λ j. P j e) (omega arith) a.0)
  all-at P i (suc n) k (e ∷ l) h b a = all-at P (suc i) n k l (omega arith) (omega arith) a.1

module _ {A B : Type 0} where
  pub all-each : (P : ℕ → A → Type 0) (Q : ℕ → B → Type 0) (f : ℕ → A → B) (i : ℕ) (l : List A) →
      ((n : ℕ) (a : A) → n < i + length l → P n a → Q n (f n a)) → AllFrom P i l → AllFrom Q i (each f i l)
  all-each P Q f i [] h a = tt
  all-each P Q f i (e ∷ l) h a = (h i e (omega arith) a.0, all-each P Q f (suc i) l (λ n e b p. h n e (omega arith) p) a.1)

  pub all_map : (P : ℕ → B → Type 0) (f : A → B) (i : ℕ) (l : List A) → ((n : ℕ) (a : A) → i ≤ n → n < i + length l → P n (f a)) → AllFrom P i (map f l)
  all_map P f i [] h = tt
  all_map P f i (a ∷ l) h = (h i a (omega arith) (omega arith), all_map P f (suc i) l (λ n o p q. h n o (omega arith) (omega arith)))

  -- functions that are equal where P holds
  pub each_all : (P : ℕ → A → Type 0) (f g : ℕ → A → B) → ((n : ℕ) (a : A) → P n a → f n a ≡ g n a) → (i : ℕ) (l : List A) → AllFrom P i l → each f i l ≡ each g i l
  each_all P f g h i [] a = refl
  each_all P f g h i (e ∷ l) a = ap₂ (λ x y. x ∷ y) (h i e a.0) (each_all P f g h (suc i) l a.1)
