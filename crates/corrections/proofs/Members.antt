-- What stands in a list: in two lists joined, in what is gathered, in a span of numbers, and what holds of all of them.
-- Assumes nothing.
use Prim.Native.Nat.{ℕ, zero, suc, ◌+◌, ◌<◌}
use mathlib.Core.Path.{◌≡◌, refl, ap, subst}
use mathlib.Core.List.{List, [], ◌∷◌, ◌++◌}
use Rattle.std.specs.declared.option.Option.TheVariants.{Some}
use Rattle.std.proofs.lemmas.Option.{none-some, same_Some}
use native.Mathlib.Omega.{arith}
use Rattle.std.specs.Prelude.{slice_get}
use Rattle.lists.specs.Lists.{All, gather, span}
use Rattle.corrections.specs.Claims.{Among}

module _ {A : Type 0} where
  -- ---- in a list

  pub first-among : (x : A) (l : List A) → Among x (x ∷ l)
  first-among x l = record { place = 0; there = refl }

  pub later-among : (x y : A) (l : List A) → Among x l → Among x (y ∷ l)
  later-among x y l h = record { place = suc h.place; there = h.there }

  pub among-front : (x : A) (l m : List A) → Among x l → Among x (l ++ m)
  among-front x l m h = go l h.place h.there
    where
      go : (l : List A) (i : ℕ) → slice_get l i ≡ Some x → Among x (l ++ m)
      go [] i e = absurd (none-some x e)
      go (y ∷ l) zero e = record { place = 0; there = e }
      go (y ∷ l) (suc i) e = later-among x y (l ++ m) (go l i e)

  pub among-back : (x : A) (l m : List A) → Among x m → Among x (l ++ m)
  among-back x [] m h = h
  among-back x (y ∷ l) m h = later-among x y (l ++ m) (among-back x l m h)

  -- ---- of all of a list

  module _ (P : A → Type 0) where
    pub all-at : (x : A) (l : List A) → All P l → Among x l → P x
    all-at x l a h = go l h.place a h.there
      where
        go : (l : List A) (i : ℕ) → All P l → slice_get l i ≡ Some x → P x
        go [] i a e = absurd (none-some x e)
        go (y ∷ l) zero a e = subst P (same_Some y x e) a.0
        go (y ∷ l) (suc i) a e = go l i a.1 e

    pub all-by : (l : List A) → ((x : A) → Among x l → P x) → All P l
    all-by [] f = tt
    all-by (y ∷ l) f = (f y (first-among y l), all-by l (λ x h. f x (later-among x y l h)))

    pub all_append : (l m : List A) → All P l → All P m → All P (l ++ m)
    all_append [] m a b = b
    all_append (y ∷ l) m a b = (a.0, all_append l m a.1 b)

  pub all_so : (P Q : A → Type 0) → ((x : A) → P x → Q x) → (l : List A) → All P l → All Q l
  all_so P Q f [] a = tt
  all_so P Q f (y ∷ l) a = (f y a.0, all_so P Q f l a.1)

-- ---- what is gathered

module _ {A B : Type 0} (f : A → List B) where
  pub all-gather : (P : B → Type 0) → ((a : A) → All P (f a)) → (l : List A) → All P (gather f l)
  all-gather P h [] = tt
  all-gather P h (a ∷ l) = all_append P (f a) (gather f l) (h a) (all-gather P h l)

  pub among-gather : (x : B) (a : A) (l : List A) → Among a l → Among x (f a) → Among x (gather f l)
  among-gather x a l h k = go l h.place h.there
    where
      go : (l : List A) (i : ℕ) → slice_get l i ≡ Some a → Among x (gather f l)
      go [] i e = absurd (none-some a e)
      go (b ∷ l) zero e = among-front x (f b) (gather f l) (rw (same_Some b a e) k)
      go (b ∷ l) (suc i) e = among-back x (f b) (gather f l) (go l i e)

-- ---- numbers from a number on

span-there : (i n k s : ℕ) → k < n → i + k ≡ s → slice_get (span i n) k ≡ Some s
span-there i zero k s h e = absurd (omega arith)
span-there i (suc n) zero s h e = ap (λ (j : ℕ). Some j) (omega arith)
span-there i (suc n) (suc k) s h e = span-there (suc i) n k s (omega arith) (omega arith)

pub among-span : (n k : ℕ) → k < n → Among k (span 0 n)
among-span n k h = record { place = k; there = span-there 0 n k k h (omega arith) }
