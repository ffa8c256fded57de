-- Rows that draw no number: each draws none, and no two are alike. And back; and what draws 21. Assumes nothing.
use Rattle.std.specs.declared.option.Option.{Option}
use Rattle.std.specs.declared.option.Option.TheVariants.{None, Some}
use Prim.Native.Nat.{ℕ, zero, suc}
use mathlib.Core.Path.{◌≡◌, refl, sym, ◌∙◌}
use mathlib.Core.Bool.{Bool, true, false, ◌||◌, true≢false}
use mathlib.Core.List.{List, [], ◌∷◌}
use Rattle.std.proofs.lemmas.Option.{none-some, same_Some}
use Rattle.std.specs.Prelude.{slice_get}
use Rattle.lists.specs.Lists.{All, gather}
use Rattle.market.specs.Faults.{◌draws◌, drawn, first_drawn}
use Rattle.market.specs.declared.fault.Fault.{Fault}
use Rattle.market.specs.declared.fault.Fault.TheVariants.{ListTooShort, AlikeRows, TooManyRows}
use Rattle.market.specs.VendorQuotes.{vendor_row_tests}
use Rattle.market.specs.declared.vendor_quote.VendorQuote.{VendorQuote}
use Rattle.market.proofs.Faults.{drawn-append, append-none, none-drawn, test-holds, test-fails}
use Rattle.corrections.specs.Claims.{Among}
use Rattle.corrections.specs.Corrections.{alike, alike_among, some_alike, vendor_tests, correct_fault}
use Rattle.corrections.proofs.Members.{all-at}
use Rattle.corrections.proofs.StrictOrder.{alike-sym}

-- each row draws neither 1 nor 2, and no two draw 21
pub record NoneDrawn (rows : List VendorQuote) : Type 0 where
  pub sound : All (λ r. drawn (vendor_row_tests r) ≡ None) rows
  pub unlike : some_alike rows ≡ false

-- ---- 1 and 2

pub no-tests : drawn [] ≡ None
unfolding drawn
no-tests = refl

-- where the first draws nothing the second counts
second : (d e : Option Fault) → d ≡ None → first_drawn d e ≡ e
second d e none = rw none refl

all_sound : (rows : List VendorQuote) → drawn (gather vendor_row_tests rows) ≡ None → All (λ r. drawn (vendor_row_tests r) ≡ None) rows
all_sound [] e = tt
all_sound (r ∷ rows) e = let d = append-none (vendor_row_tests r) (gather vendor_row_tests rows) e in (d.0, all_sound rows d.1)

sound_none : (rows : List VendorQuote) → All (λ r. drawn (vendor_row_tests r) ≡ None) rows → drawn (gather vendor_row_tests rows) ≡ None
sound_none [] a = no-tests
sound_none (r ∷ rows) a =
    drawn-append (vendor_row_tests r) (gather vendor_row_tests rows) ∙ second _ _ a.0 ∙ sound_none rows a.1

-- ---- then 21

module _ (rows : List VendorQuote) where
  -- where no row draws a number, only 21 is left
  then-alike : drawn (gather vendor_row_tests rows) ≡ None → drawn (vendor_tests rows) ≡ drawn ((some_alike rows draws AlikeRows) ∷ [])
  then-alike e = drawn-append (gather vendor_row_tests rows) ((some_alike rows draws AlikeRows) ∷ []) ∙ second _ _ e

  pub draws-none : drawn (vendor_tests rows) ≡ None → NoneDrawn rows
  draws-none e =
      let d = append-none (gather vendor_row_tests rows) ((some_alike rows draws AlikeRows) ∷ []) e in
      record { sound = all_sound rows d.0; unlike = (none-drawn (some_alike rows) AlikeRows [] d.1).0 }

  pub none-draws : NoneDrawn rows → drawn (vendor_tests rows) ≡ None
  none-draws n = then-alike (sound_none rows n.sound) ∙ test-fails (some_alike rows) AlikeRows [] n.unlike ∙ no-tests

  -- where each row is sound, two alike draw 21
  pub alike-draws : drawn (gather vendor_row_tests rows) ≡ None → some_alike rows ≡ true → drawn (vendor_tests rows) ≡ Some AlikeRows
  alike-draws e a = then-alike e ∙ test-holds (some_alike rows) AlikeRows [] a

-- rows that are not refused draw none
pub not-refused : (room n : ℕ) (rows : List VendorQuote) → correct_fault room n rows ≡ None → drawn (vendor_tests rows) ≡ None
unfolding correct_fault
not-refused room n rows e = (none-drawn _ TooManyRows _ (none-drawn _ ListTooShort _ e).1).1

-- ---- rows alike are one row

or-false : (x y : Bool) → (x || y) ≡ false → (x ≡ false) × (y ≡ false)
or-false true y e = absurd (true≢false e)
or-false false y e = (refl, e)

none_alike : (r : VendorQuote) (rows : List VendorQuote) → alike_among r rows ≡ false → All (λ a. alike r a ≡ false) rows
none_alike r [] e = tt
none_alike r (a ∷ rows) e = let d = or-false (alike r a) (alike_among r rows) e in (d.0, none_alike r rows d.1)

first-apart : (r a : VendorQuote) (rows : List VendorQuote) → some_alike (r ∷ rows) ≡ false → Among a rows → alike r a ≡ false
first-apart r a rows e h =
    all-at (λ x. alike r x ≡ false) a rows (none_alike r rows (or-false (alike_among r rows) (some_alike rows) e).0) h

-- two rows that are alike stand at one place
module _ (a b : VendorQuote) (same : alike a b ≡ true) where
  one_place : (rows : List VendorQuote) → some_alike rows ≡ false → (i j : ℕ) → slice_get rows i ≡ Some a → slice_get rows j ≡ Some b → a ≡ b
  one_place [] n i j e f = absurd (none-some a e)
  one_place (x ∷ rows) n zero zero e f = sym (same_Some x a e) ∙ same_Some x b f
  one_place (x ∷ rows) n zero (suc j) e f = let d = first-apart x b rows n (record { place = j; there = f }) in cc
  one_place (x ∷ rows) n (suc i) zero e f = let d = first-apart x a rows n (record { place = i; there = e }) in cc (alike-sym a b)
  one_place (x ∷ rows) n (suc i) (suc j) e f = one_place rows (or-false (alike_among x rows) (some_alike rows) n).1 i j e f

  pub one-row : (rows : List VendorQuote) → some_alike rows ≡ false → Among a rows → Among b rows → a ≡ b
  one-row rows n h k = one_place rows n h.place k.place h.there k.there
