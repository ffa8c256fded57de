-- The first refusal that one of the rows draws, as `find_map` looks for it. Assumes nothing.
use Prim.Native.Nat.{ℕ, zero, suc, ◌+◌, ◌<◌}
use native.Mathlib.Omega.{arith}
use mathlib.Core.Bool.{true}
use mathlib.Core.Path.{◌≡◌, refl, ap, sym, ◌∙◌}
use mathlib.Core.List.{List, [], ◌∷◌}
use denote.Ref.{Bor}
use denote.Param.Members.{Mut, Called}
use lib.ListN.{length, get_or}
use Rattle.std.specs.declared.option.Option.{Option}
use Rattle.std.specs.declared.option.Option.TheVariants.{None, Some}
use Rattle.std.specs.Option.{MatchOption, IfSome, IsSomeAnd, option_map}
use Rattle.std.specs.Iterator.Runs.{Run, ItemsMapTo, AllItemsGive, IsFirstToGive}
use Rattle.std.proofs.lemmas.Option.{none-some, same_Some}
use Rattle.lists.specs.Lists.{gather}
use Rattle.market.specs.Faults.{drawn, first_drawn}
use Rattle.market.specs.declared.fault.Fault.{Fault}
use Rattle.market.specs.VendorQuotes.{vendor_row_tests}
use Rattle.market.specs.declared.vendor_quote.VendorQuote.{VendorQuote}
use Rattle.market.proofs.Faults.{drawn-append}
use Rattle.corrections.specs.Places.{no_vendor}

-- what a row draws, and what these rows draw
abbrev pub row_drew : VendorQuote → Option Fault
row_drew r = drawn (vendor_row_tests r)

abbrev pub rows_drew : List VendorQuote → Option Fault
rows_drew l = drawn (gather vendor_row_tests l)

abbrev row_at : List VendorQuote → ℕ → VendorQuote
row_at rows i = get_or rows i no_vendor

drew-first : (r : VendorQuote) (l : List VendorQuote) (d : Option Fault) → row_drew r ≡ d → rows_drew (r ∷ l) ≡ first_drawn d (rows_drew l)
drew-first r l d e = drawn-append (vendor_row_tests r) (gather vendor_row_tests l) ∙ ap (λ (o : Option Fault). first_drawn o (rows_drew l)) e

-- no row draws a refusal
none-draws-one : (rows : List VendorQuote) → ((k : ℕ) → k < length rows → row_drew (row_at rows k) ≡ None) → rows_drew rows ≡ None
unfolding drawn
none-draws-one [] e = refl
none-draws-one (r ∷ rows) e = drew-first r rows None (e 0 (omega arith)) ∙ none-draws-one rows (λ k h. e (suc k) (omega arith))

-- row i is the first that draws one
first-draws : (f : Fault) (rows : List VendorQuote) (i : ℕ) → i < length rows → row_drew (row_at rows i) ≡ Some f → ((k : ℕ) → k < i → row_drew (row_at rows k) ≡ None) → rows_drew rows ≡ Some f
first-draws f [] i h here before = absurd (omega arith)
first-draws f (r ∷ rows) zero h here before = drew-first r rows (Some f) here
first-draws f (r ∷ rows) (suc i) h here before =
    drew-first r rows None (before 0 (omega arith)) ∙ first-draws f rows i (omega arith) here (λ k l. before (suc k) (omega arith))

module _ {F : Type 0} (g : Mut F (Bor VendorQuote × Unit {0}) (Option Fault)) (f : F)
    (told : (x : Bor VendorQuote) (d : Option Fault) (h : F) → Called g f (x, tt) d h → (h ≡ f) × (d ≡ row_drew x.now)) where
  keeps : (a : Bor VendorQuote × Unit {0}) (d : Option Fault) (h : F) → Called g f a d h → h ≡ f
  keeps a d h c = (told a.0 d h c).0

  if-gave : (o : Option (Bor VendorQuote)) (r : VendorQuote) (d : Option Fault) → option_map (λ x. x.now) o ≡ Some r → IfSome o (λ x. Called g f (x, tt) d f) → row_drew r ≡ d
  if-gave None r d e c = absurd (none-some r e)
  if-gave (Some x) r d e c = ap row_drew (sym (same_Some x.now r e)) ∙ sym (told x d f c).1

  and-gave : (o : Option (Bor VendorQuote)) (r : VendorQuote) (d : Option Fault) → option_map (λ x. x.now) o ≡ Some r → IsSomeAnd o (λ x. Called g f (x, tt) d f) → row_drew r ≡ d
  and-gave None r d e c = absurd (none-some r e)
  and-gave (Some x) r d e c = if-gave (Some x) r d e c

  pub found-first : {S : Type 0} {steps : S → Option (Bor VendorQuote) → S → Type 0} (rows : List VendorQuote) (d : Option Fault) (p : Run steps) → ItemsMapTo p (λ x. x.now) rows
      → MatchOption d ((p.whole ≡ true) × AllItemsGive p g f None) (λ y. (i : ℕ) × (i < p.len) × (p.len ≡ i + 1) × IsFirstToGive p g f (Some y) None i) → d ≡ rows_drew rows
  found-first rows None p m e =
      sym (none-draws-one rows (λ k h. if-gave (p.at k) (row_at rows k) None (m.2 k no_vendor (omega (arith, m.1 e.0))) (e.1 keeps k)))
  found-first rows (Some y) p m (i, h, l, e) =
      let k = e keeps in
      sym (first-draws y rows i (omega (arith, m.0))
      (and-gave (p.at i) (row_at rows i) (Some y) (m.2 i no_vendor h) k.0)
      (λ j b. and-gave (p.at j) (row_at rows j) None (m.2 j no_vendor (omega arith)) (k.1 j b)))
