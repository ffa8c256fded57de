-- The order in which the rows are given does not matter: in another order they draw no number either, and the table is the same.
-- Assumes nothing.
use Rattle.std.specs.declared.option.Option.TheVariants.{None}
use mathlib.Core.Path.{◌≡◌, refl, ap, ap₂, sym, ◌∙◌}
use mathlib.Core.Bool.{Bool, true, false, ◌||◌}
use mathlib.Core.List.{List}
use mathlib.Core.Logic.{◌↔◌}
use Rattle.lists.specs.Lists.{All}
use Rattle.market.specs.Faults.{drawn}
use Rattle.market.specs.VendorQuotes.{vendor_row_tests}
use Rattle.market.specs.declared.quote.Quote.{Quote}
use Rattle.market.specs.declared.vendor_quote.VendorQuote.{VendorQuote}
use Rattle.corrections.specs.Claims.{Among, Corrects, Reordered, none_left, same_first, first_two, by_way_of}
use Rattle.corrections.specs.Corrections.{corrected_of, alike, alike_among, some_alike, vendor_tests}
use Rattle.corrections.proofs.Corrects.{corrects, corrects-once}
use Rattle.corrections.proofs.Members.{all-at, all-by}
use Rattle.corrections.proofs.NoneDrawn.{draws-none, none-draws}
use Rattle.corrections.proofs.StrictOrder.{alike-sym}

-- ---- lists with the same rows in them

module _ (l m : List VendorQuote) (same : (r : VendorQuote) → Among r l ↔ Among r m) where
  -- a table that corrects the one corrects the other
  corrects-both : (t : List Quote) → Corrects m t → Corrects l t
  corrects-both t c =
      record {
        ascends = c.ascends;
        shown = λ r h. c.shown r ((same r).0 h);
        is-given = λ q here. let g = c.is-given q here in record { row = g.row; in_rows = (same g.row).1 g.in_rows; shown-as = g.shown-as };
        newest = λ q here r h. c.newest q here r ((same r).0 h);
      }

  pub same-members : drawn (vendor_tests l) ≡ None → drawn (vendor_tests m) ≡ None → corrected_of m ≡ corrected_of l
  same-members e f = corrects-once l e (corrected_of m) (corrected_of l) (corrects-both (corrected_of m) (corrects m f)) (corrects l e)

-- ---- the same rows in another order

back : {l m : List VendorQuote} → Reordered l m → Reordered m l
back none_left = none_left
back (same_first r l m p) = same_first r m l (back p)
back (first_two r s l) = first_two s r l
back (by_way_of k l m p q) = by_way_of m l k (back q) (back p)

all-reordered : (P : VendorQuote → Type 0) {l m : List VendorQuote} → Reordered l m → All P l → All P m
all-reordered P none_left a = a
all-reordered P (same_first r l m p) a = (a.0, all-reordered P p a.1)
all-reordered P (first_two r s l) a = (a.1.0, (a.0, a.1.1))
all-reordered P (by_way_of k l m p q) a = all-reordered P q (all-reordered P p a)

among-reordered : {l m : List VendorQuote} → Reordered l m → (r : VendorQuote) → Among r l → Among r m
among-reordered {l} {m} p r h = all-at (λ x. Among x m) r l (all-reordered (λ x. Among x m) (back p) (all-by (λ x. Among x m) m (λ x k. k))) h

-- ---- rows alike

or_swap : (x y z : Bool) → (x || (y || z)) ≡ (y || (x || z))
or_swap true true z = refl
or_swap true false z = refl
or_swap false y z = refl

-- a row is alike to one of them in any order
alike-among : (r : VendorQuote) {l m : List VendorQuote} → Reordered l m → alike_among r l ≡ alike_among r m
alike-among r none_left = refl
alike-among r (same_first a l m p) = ap (λ (x : Bool). alike r a || x) (alike-among r p)
alike-among r (first_two a b l) = or_swap (alike r a) (alike r b) (alike_among r l)
alike-among r (by_way_of k l m p q) = alike-among r p ∙ alike-among r q

-- the same behind a first test
or-behind : (v x y z : Bool) → (v || x || (y || z)) ≡ (v || y || (x || z))
or-behind true x y z = refl
or-behind false x y z = or_swap x y z

-- some two of them are alike in any order
some_alike-reordered : {l m : List VendorQuote} → Reordered l m → some_alike l ≡ some_alike m
some_alike-reordered none_left = refl
some_alike-reordered (same_first r l m p) = ap₂ (λ (x y : Bool). x || y) (alike-among r p) (some_alike-reordered p)
some_alike-reordered (first_two r s l) =
    ap (λ (v : Bool). v || alike_among r l || (alike_among s l || some_alike l)) (alike-sym r s)
    ∙ or-behind (alike s r) (alike_among r l) (alike_among s l) (some_alike l)
some_alike-reordered (by_way_of k l m p q) = some_alike-reordered p ∙ some_alike-reordered q

-- ---- any order

pub any_order : (l m : List VendorQuote) → Reordered l m → drawn (vendor_tests l) ≡ None → (drawn (vendor_tests m) ≡ None) × (corrected_of m ≡ corrected_of l)
any_order l m p e =
    let n = draws-none l e in
    let f = none-draws m (record { sound = all-reordered (λ r. drawn (vendor_row_tests r) ≡ None) p n.sound; unlike = sym (some_alike-reordered p) ∙ n.unlike }) in
    (f, same-members l m (λ r. (among-reordered p r, among-reordered (back p) r)) e f)
