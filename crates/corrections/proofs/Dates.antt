-- Dates as the library compares them, alone and before a revision, and as the rule does. Assumes nothing.
use Prim.Native.Nat.{ℕ}
use native.Mathlib.Omega.{arith}
use mathlib.Core.Bool.{Bool, true, false, cond, ◌&&◌, ◌||◌, false≢true}
use mathlib.Core.Path.{◌≡◌, refl, sym}
use borrow.Author.Tests.{ltb-true, ltb-false, eqb-true, eqb-false, le-ltb, lt-ltb, ne_eqb, eq-eqb}
use lib.Dec.{ltb, eqb}
use lib.IntN.{ℤ, pos, negsuc}
use lib.Signed.{lt_z}
use Rattle.std.proofs.Common.{Less, Equal, Greater}
use Rattle.std.specs.Ordering.{is_eq, is_gt, is_some_and, partial_ordering_then, nat_cmp, int_cmp, int_eq}
use Rattle.std.specs.declared.option.Option.TheVariants.{Some}
use Rattle.corrections.specs.Corrections.{same_date}

earlier-differs : (x y : ℤ) → lt_z x y ≡ true → same_date x y ≡ false
earlier-differs (pos a) (pos b) e = let h = ltb-true a b e in ne_eqb a b (λ z. omega arith)
earlier-differs (pos a) (negsuc b) e = refl
earlier-differs (negsuc a) (pos b) e = refl
earlier-differs (negsuc a) (negsuc b) e = let h = ltb-true b a e in ne_eqb a b (λ z. omega arith)

later-differs : (x y : ℤ) → lt_z y x ≡ true → same_date x y ≡ false
later-differs (pos a) (pos b) e = let h = ltb-true b a e in ne_eqb a b (λ z. omega arith)
later-differs (pos a) (negsuc b) e = refl
later-differs (negsuc a) (pos b) e = refl
later-differs (negsuc a) (negsuc b) e = let h = ltb-true a b e in ne_eqb a b (λ z. omega arith)

-- of two dates not both are later
one-later : (x y : ℤ) → lt_z x y ≡ true → lt_z y x ≡ true → ⊥
one-later (pos a) (pos b) e f = let h = ltb-true a b e in let k = ltb-true b a f in omega arith
one-later (pos a) (negsuc b) e f = false≢true e
one-later (negsuc a) (pos b) e f = false≢true f
one-later (negsuc a) (negsuc b) e f = let h = ltb-true b a e in let k = ltb-true a b f in omega arith

neither-later : (x y : ℤ) → lt_z x y ≡ false → lt_z y x ≡ false → same_date x y ≡ true
neither-later (pos a) (pos b) e f = let h = ltb-false a b e in let k = ltb-false b a f in eq-eqb a b (omega arith)
neither-later (pos a) (negsuc b) e f = sym f
neither-later (negsuc a) (pos b) e f = sym e
neither-later (negsuc a) (negsuc b) e f = let h = ltb-false b a e in let k = ltb-false a b f in eq-eqb a b (omega arith)

-- the same date
pub same-as : (x y : ℤ) → int_eq x y ≡ same_date x y
same-as x y = by (lt_z x y) (lt_z y x) refl refl
  where
    by : (a b : Bool) → lt_z x y ≡ a → lt_z y x ≡ b → is_eq (cond a Less (cond b Greater Equal)) ≡ same_date x y
    by true b e f = sym (earlier-differs x y e)
    by false true e f = sym (later-differs x y f)
    by false false e f = sym (neither-later x y e f)

-- a later date, or the same date and a higher revision
higher : (r s : ℕ) → is_gt (nat_cmp r s) ≡ ltb s r
higher r s = by (ltb r s) (eqb r s) refl refl
  where
    by : (a b : Bool) → ltb r s ≡ a → eqb r s ≡ b → is_gt (cond a Less (cond b Equal Greater)) ≡ ltb s r
    by true b e f = let h = ltb-true r s e in sym (le-ltb s r (omega arith))
    by false true e f = let h = eqb-true r s f in sym (le-ltb s r (omega arith))
    by false false e f = let h = ltb-false r s e in let k = eqb-false r s f in sym (lt-ltb s r (omega arith))

pub newer-as : (x y : ℤ) (r s : ℕ) → is_some_and is_gt (partial_ordering_then (Some (int_cmp x y)) (Some (nat_cmp r s))) ≡ (lt_z y x || same_date x y && ltb s r)
newer-as x y r s = by (lt_z x y) (lt_z y x) refl refl
  where
    by : (a b : Bool) → lt_z x y ≡ a → lt_z y x ≡ b →
        is_some_and is_gt (partial_ordering_then (Some (cond a Less (cond b Greater Equal))) (Some (nat_cmp r s))) ≡ (b || same_date x y && ltb s r)
    by true true e f = absurd (one-later x y e f)
    by true false e f = rw (earlier-differs x y e)
    by false true e f = refl
    by false false e f = rw (neither-later x y e f) (higher r s)
