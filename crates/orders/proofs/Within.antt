-- Where an element stands in lists that are joined, mapped or put in turn, and how many rows are of a sort. Assumes nothing.
use Prim.Native.Nat.{ℕ, zero, suc, ◌+◌}
use native.Mathlib.Omega.{arith}
use mathlib.Core.Bool.{Bool, true, false, cond, beq}
use mathlib.Core.Path.{◌≡◌, refl, ◌∙◌, ap}
use mathlib.Core.List.{List, [], ◌∷◌, ◌++◌, map}
use Rattle.std.specs.declared.option.Option.TheVariants.{Some}
use lib.ListN.{length, length-append}
use Rattle.std.specs.Prelude.{slice_get, option_map}
use Rattle.std.proofs.lemmas.Option.{none-some, same_Some, slice_get-map}
use Rattle.lists.specs.Lists.{keep, each}
use Rattle.lists.proofs.Keep.{keep_append}
use Rattle.market.specs.Orders.{is_sell}
use Rattle.orders.specs.Orders.{Taken, side_by, in_turn}
use Rattle.orders.specs.Claim.{Within, how_many}

module _ {A : Type 0} where
  pub at_left : (l m : List A) (k : ℕ) (a : A) → slice_get l k ≡ Some a → slice_get (l ++ m) k ≡ Some a
  at_left [] m k a e = grind arith
  at_left (b ∷ l) m zero a e = e
  at_left (b ∷ l) m (suc k) a e = at_left l m k a e

  pub at_right : (l m : List A) (k n : ℕ) (a : A) → length l + k ≡ n → slice_get m k ≡ Some a → slice_get (l ++ m) n ≡ Some a
  at_right [] m k n a h e = grind arith
  at_right (b ∷ l) m k zero a h e = grind arith
  at_right (b ∷ l) m k (suc n) a h e = at_right l m k n a (omega arith) e

  -- an element of two lists that are joined stands in the one or in the other
  pub at-either : (l m : List A) (k : ℕ) (a : A) (P : Type 0) → slice_get (l ++ m) k ≡ Some a → (slice_get l k ≡ Some a → P) →
      ((j : ℕ) → length l + j ≡ k → slice_get m j ≡ Some a → P) → P
  at-either [] m k a P e f g = g k (omega arith) e
  at-either (b ∷ l) m zero a P e f g = f e
  at-either (b ∷ l) m (suc k) a P e f g = at-either l m k a P e f (λ j s h. g j (omega (arith, s)) h)

  pub within-left : (l m : List A) (a : A) → Within a l → Within a (l ++ m)
  within-left l m a h = (h.0, at_left l m h.0 a h.1)

  pub within-right : (l m : List A) (a : A) → Within a m → Within a (l ++ m)
  within-right l m a h = (length l + h.0, at_right l m h.0 (length l + h.0) a refl h.1)

  -- what passes the test is kept
  within-keep : (p : A → Bool) (a : A) → p a ≡ true → (l : List A) (k : ℕ) → slice_get l k ≡ Some a → Within a (keep p l)
  within-keep p a t [] k e = grind arith
  within-keep p a t (b ∷ l) zero e = rw (ap p (same_Some _ _ e) ∙ t) (0, e)
  within-keep p a t (b ∷ l) (suc k) e = by (p b) (within-keep p a t l k e)
    where
      by : (x : Bool) → Within a (keep p l) → Within a (cond x (b ∷ keep p l) (keep p l))
      by true h = (suc h.0, h.1)
      by false h = h

pub at_map : {A B : Type 0} (f : A → B) (l : List A) (k : ℕ) (a : A) → slice_get l k ≡ Some a → slice_get (map f l) k ≡ Some (f a)
at_map f l k a e = slice_get-map f l k ∙ ap (option_map f) e

-- an element of a list after a function of each element and its place, and the element that it was made of
pub at_each : {A B : Type 0} (f : ℕ → A → B) (i k n : ℕ) (l : List A) (a : A) → i + k ≡ n → slice_get l k ≡ Some a → slice_get (each f i l) k ≡ Some (f n a)
at_each f i k n [] a s e = grind arith
at_each f i zero n (b ∷ l) a s e = grind arith
at_each f i (suc k) n (b ∷ l) a s e = at_each f (suc i) k n l a (omega arith) e

pub each_at : {A B : Type 0} (f : ℕ → A → B) (i k n : ℕ) (l : List A) (b : B) → i + k ≡ n → slice_get (each f i l) k ≡ Some b → (a : A) × (slice_get l k ≡ Some a) × (b ≡ f n a)
each_at f i k n [] b s e = absurd (none-some b e)
each_at f i zero n (a ∷ l) b s e = (a, refl, grind arith)
each_at f i (suc k) n (a ∷ l) b s e = each_at f (suc i) k n l b (omega arith) e

pub at-mapped : {A B : Type 0} (f : A → B) (l : List A) (k : ℕ) (b : B) → slice_get (map f l) k ≡ Some b → (a : A) × (f a ≡ b)
at-mapped f [] k b e = absurd (none-some b e)
at-mapped f (a ∷ l) zero b e = (a, cc)
at-mapped f (a ∷ l) (suc k) b e = at-mapped f l k b e

-- every order that waits is booked: it sells, or it buys
pub within-turn : (w : Taken) (l : List Taken) → Within w l → Within w (in_turn l)
within-turn w l h = by (is_sell w.order.kind) refl
  where
    side : Bool → List Taken
    side sells = side_by (λ a. a.order) sells l

    by : (b : Bool) → is_sell w.order.kind ≡ b → Within w (in_turn l)
    by true e = within-left (side true) (side false) w (within-keep (λ a. beq (is_sell a.order.kind) true) w (ap (λ b. beq b true) e) l h.0 h.1)
    by false e = within-right (side true) (side false) w (within-keep (λ a. beq (is_sell a.order.kind) false) w (ap (λ b. beq b false) e) l h.0 h.1)

-- ---- how many are of a sort

pub how-many-append : {A : Type 0} (p : A → Bool) (l m : List A) → how_many p (l ++ m) ≡ how_many p l + how_many p m
how-many-append p l m = grind (arith, keep_append, length-append)

pub how-many-turn : (p : Taken → Bool) (l : List Taken) → how_many p (in_turn l) ≡ how_many p l
how-many-turn p l = how-many-append p (side_by (λ a. a.order) true l) (side_by (λ a. a.order) false l) ∙ both l
  where
    both : (l : List Taken) → how_many p (side_by (λ a. a.order) true l) + how_many p (side_by (λ a. a.order) false l) ≡ how_many p l
    both [] = refl
    both (w ∷ l) = grind (arith, both l)
