-- `newer` and `supersedes` are strict orders: none is above itself, above is transitive, and of two rows of a symbol that are
-- not alike one is above the other. Assumes nothing.
use Prim.Native.Nat.{ℕ, suc, ◌+◌, ◌<◌, ◌≤◌}
use mathlib.Core.Path.{◌≡◌, refl, ap₂, sym, ◌∙◌}
use mathlib.Core.Bool.{Bool, true, false, ◌&&◌, ◌||◌, true≢false, false≢true}
use native.Mathlib.Nat.{add-zero, zero-add}
use native.Mathlib.Omega.{arith}
use lib.Dec.{ltb, eqb, leb-suc-suc, eqb-suc-suc}
use lib.IntN.{ℤ, pos, negsuc}
use lib.Signed.{lt_z}
use borrow.Author.Tests.{ltb-true, ltb-false, lt-ltb, le-ltb, eqb-true, eqb-false, eq-eqb, ne_eqb}
use Rattle.market.specs.declared.vendor_quote.VendorQuote.{VendorQuote}
use Rattle.corrections.specs.Corrections.{same_date, newer, supersedes, alike}

-- the laws, of a test `above`
pub record StrictOrder (above : VendorQuote → VendorQuote → Bool) : Type 0 where
  pub irreflexive : (a : VendorQuote) → above a a ≡ false
  pub transitive : (a b c : VendorQuote) → above a b ≡ true → above b c ≡ true → above a c ≡ true
  -- of two rows of a symbol that are not alike one is above the other
  pub total : (a b : VendorQuote) → a.symbol ≡ b.symbol → alike a b ≡ false → (above a b || above b a) ≡ true

-- ---- tests

and-true : (x y : Bool) → (x && y) ≡ true → (x ≡ true) × (y ≡ true)
and-true true y e = (refl, e)
and-true false y e = absurd (false≢true e)

pub and-false : (x y : Bool) → y ≡ false → (x && y) ≡ false
and-false true y e = e
and-false false y e = refl

pub false-by : (x : Bool) → (x ≡ true → ⊥) → x ≡ false
false-by true f = absurd (f refl)
false-by false f = refl

pub true-by : (x : Bool) → (x ≡ false → ⊥) → x ≡ true
true-by true f = refl
true-by false f = absurd (f refl)

-- one of two tests holds where not both fail
or-true : (x y : Bool) → (x ≡ false → y ≡ false → ⊥) → (x || y) ≡ true
or-true true y f = refl
or-true false true f = refl
or-true false false f = absurd (f refl refl)

eqb-sym : (m n : ℕ) → eqb m n ≡ eqb n m
eqb-sym m n = go (eqb m n) refl
  where
    go : (x : Bool) → eqb m n ≡ x → x ≡ eqb n m
    go true e = sym (eq-eqb n m (sym (eqb-true m n e)))
    go false e = sym (ne_eqb n m (λ d. eqb-false m n e (sym d)))

-- ---- dates

-- a date is `up` less `down`, so that its tests are tests of sums, which `omega` reads
abbrev up : ℤ → ℕ
up (pos n) = n
up (negsuc n) = 0

abbrev down : ℤ → ℕ
down (pos n) = 0
down (negsuc n) = suc n

earlier-is : (x y : ℤ) → lt_z x y ≡ ltb (up x + down y) (up y + down x)
earlier-is (pos a) (pos b) = rw (add-zero a, add-zero b)
earlier-is (pos a) (negsuc b) = sym (le-ltb (a + suc b) 0 (omega arith))
earlier-is (negsuc a) (pos b) = sym (lt-ltb 0 (b + suc a) (omega arith))
earlier-is (negsuc a) (negsuc b) = rw (zero-add (suc a), zero-add (suc b)) (sym (leb-suc-suc (suc b) a))

same-is : (x y : ℤ) → same_date x y ≡ eqb (up x + down y) (up y + down x)
same-is (pos a) (pos b) = rw (add-zero a, add-zero b)
same-is (pos a) (negsuc b) = sym (ne_eqb (a + suc b) 0 (omega arith))
same-is (negsuc a) (pos b) = sym (ne_eqb 0 (b + suc a) (omega arith))
same-is (negsuc a) (negsuc b) = rw (zero-add (suc a), zero-add (suc b)) (eqb-sym a b ∙ sym (eqb-suc-suc b a))

-- ---- first by one number, then by another

module _ (m n r s : ℕ) where
  abbrev higher : Bool
  higher = ltb m n || eqb n m && ltb r s

  -- what the test says, and its contrary, as bounds
  higher-is : higher ≡ true → (m ≤ n) × (n ≤ m → r < s)
  higher-is = go (ltb m n) (eqb n m) (ltb r s) refl refl refl
    where
      go : (x y z : Bool) → ltb m n ≡ x → eqb n m ≡ y → ltb r s ≡ z → (x || y && z) ≡ true → (m ≤ n) × (n ≤ m → r < s)
      go true y z p q t e = omega (arith, ltb-true)
      go false true true p q t e = omega (arith, ltb-true, eqb-true)
      go false true false p q t e = absurd (false≢true e)
      go false false z p q t e = absurd (false≢true e)

  not-higher : higher ≡ false → (n ≤ m) × (m ≤ n → s ≤ r)
  not-higher = go (ltb m n) (eqb n m) (ltb r s) refl refl refl
    where
      go : (x y z : Bool) → ltb m n ≡ x → eqb n m ≡ y → ltb r s ≡ z → (x || y && z) ≡ false → (n ≤ m) × (m ≤ n → s ≤ r)
      go true y z p q t e = absurd (true≢false e)
      go false true true p q t e = absurd (true≢false e)
      go false true false p q t e = omega (arith, ltb-false)
      go false false z p q t e = let d = eqb-false n m q in (ltb-false m n p, λ h. absurd (d (omega (arith, ltb-false))))

-- ---- a row is newer

module _ (a b : VendorQuote) where
  -- b's date is below a's where `less` is below `more`
  abbrev less : ℕ
  less = up b.date + down a.date

  abbrev more : ℕ
  more = up a.date + down b.date

  newer-higher : newer a b ≡ higher less more b.revision a.revision
  unfolding newer
  newer-higher = ap₂ (λ (x y : Bool). x || y && ltb b.revision a.revision) (earlier-is b.date a.date) (same-is a.date b.date)

  newer-is : newer a b ≡ true → (less ≤ more) × (more ≤ less → b.revision < a.revision)
  newer-is e = higher-is less more b.revision a.revision (sym newer-higher ∙ e)

  not-newer : newer a b ≡ false → (more ≤ less) × (less ≤ more → a.revision ≤ b.revision)
  not-newer e = not-higher less more b.revision a.revision (sym newer-higher ∙ e)

newer-irreflexive : (a : VendorQuote) → newer a a ≡ false
newer-irreflexive a = false-by (newer a a) (λ e. omega (arith, (newer-is a a e).1 (omega arith)))

newer-transitive : (a b c : VendorQuote) → newer a b ≡ true → newer b c ≡ true → newer a c ≡ true
newer-transitive a b c e f =
    let p = newer-is a b e in
    let q = newer-is b c f in
    true-by (newer a c) (λ d. let n = not-newer a c d in omega (arith, p.1 (omega arith), q.1 (omega arith), n.1 (omega arith)))

-- ---- rows alike

same-sym : (x y : ℤ) → same_date x y ≡ same_date y x
same-sym (pos a) (pos b) = eqb-sym a b
same-sym (pos a) (negsuc b) = refl
same-sym (negsuc a) (pos b) = refl
same-sym (negsuc a) (negsuc b) = eqb-sym a b

-- which of two rows is asked first does not matter
pub alike-sym : (a b : VendorQuote) → alike a b ≡ alike b a
unfolding alike
alike-sym a b = rw (eqb-sym a.symbol b.symbol, same-sym a.date b.date, eqb-sym a.revision b.revision)

alike_is : (a b : VendorQuote) → a.symbol ≡ b.symbol → more a b ≡ less a b → a.revision ≡ b.revision → alike a b ≡ true
unfolding alike
alike_is a b s d r = rw (same-is a.date b.date, eq-eqb _ _ s, eq-eqb _ _ d, eq-eqb _ _ r)

newer-total : (a b : VendorQuote) → a.symbol ≡ b.symbol → alike a b ≡ false → (newer a b || newer b a) ≡ true
newer-total a b s e =
    or-true (newer a b) (newer b a)
    (λ x y.
    let p = not-newer a b x in
    let q = not-newer b a y in
    let r : a.revision ≡ b.revision = omega (arith, p.1 (omega arith), q.1 (omega arith)) in
    true≢false (sym (alike_is a b s (omega arith) r) ∙ e))

-- ---- the laws

pub newer-order : StrictOrder newer
newer-order = record { irreflexive = newer-irreflexive; transitive = newer-transitive; total = newer-total }

pub supersedes-order : StrictOrder supersedes
supersedes-order =
    record {
      irreflexive = λ a. and-false (eqb a.symbol a.symbol) (newer a a) (newer-irreflexive a);
      transitive = λ a b c e f.
          let p = and-true (eqb a.symbol b.symbol) (newer a b) e in
          let q = and-true (eqb b.symbol c.symbol) (newer b c) f in
          let s = eqb-true a.symbol b.symbol p.0 ∙ eqb-true b.symbol c.symbol q.0 in
          rw (eq-eqb a.symbol c.symbol s) (newer-transitive a b c p.1 q.1);
      total = λ a b s e. rw (eq-eqb a.symbol b.symbol s, eq-eqb b.symbol a.symbol (sym s)) (newer-total a b s e);
    }
