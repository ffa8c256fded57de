-- The rows that stand, listed symbol by symbol in the first places of an array. Assumes nothing.
use Prim.Native.Nat.{ℕ, suc, ◌+◌, ◌≤◌, ◌<◌}
use native.Mathlib.Omega.{arith}
use mathlib.Core.List.{List, [], ◌∷◌, ◌++◌, map}
use Rattle.std.specs.declared.option.Option.{Option}
use Rattle.std.specs.declared.option.Option.TheVariants.{None, Some}
use mathlib.Core.Path.{◌≡◌, refl, ap, ap₂, sym, ◌∙◌}
use lib.ListN.{length, get_or, take, set, replicate, length-map, length-replicate}
use lib.Seq.{take_all}
use Rattle.std.specs.List.{flat_map, enumerate_from}
use Rattle.std.specs.Option.{option_to_list}
use Rattle.std.proofs.lemmas.List.{get_or-map}
use Rattle.std.proofs.lemmas.List.FromFn.{length-enumerate_from, get_or-enumerate_from}
use Rattle.lists.specs.Lists.{over, span, gather, given}
use Rattle.lists.proofs.Over.{over-next}
use Rattle.market.specs.Quotes.{blank_quote, listing}
use Rattle.market.specs.VendorQuotes.{quote_of}
use Rattle.market.specs.declared.quote.Quote.{Quote}
use Rattle.market.specs.declared.table.QuoteRows.{QuoteRows}
use Rattle.corrections.specs.Places.{stands_at, listed_from}
use Rattle.market.specs.declared.vendor_quote.VendorQuote.{VendorQuote}

-- the row listed for a symbol, if one stands
abbrev pub listed_at : List (Option VendorQuote) → ℕ → List Quote
listed_at w s = given (stands_at w s) [] (λ r. quote_of r ∷ [])

-- the rows that stand, as the library's `flatten` gives them, and numbered
abbrev pub standing : List (Option VendorQuote) → List VendorQuote
standing w = flat_map option_to_list w

abbrev pub numbered : List (Option VendorQuote) → List (ℕ × VendorQuote)
numbered w = enumerate_from 0 (standing w)

-- their rows of the table
abbrev pub quotes : List (Option VendorQuote) → List Quote
quotes w = map quote_of (standing w)

-- ---- they are the rows listed symbol by symbol

first_is : (o p : Option VendorQuote) (l : List (Option VendorQuote)) → o ≡ p → quotes (o ∷ l) ≡ given p [] (λ r. quote_of r ∷ []) ++ quotes l
first_is None p l e = ap (λ (q : Option VendorQuote). given q [] (λ r. quote_of r ∷ []) ++ quotes l) e
first_is (Some r) p l e = ap (λ (q : Option VendorQuote). given q [] (λ r. quote_of r ∷ []) ++ quotes l) e

from_place : (w l : List (Option VendorQuote)) (i : ℕ) → ((k j : ℕ) → k < length l → j ≡ i + k → get_or l k None ≡ get_or w j None) → quotes l ≡ gather (listed_at w) (span i (length l))
from_place w [] i each = refl
from_place w (o ∷ l) i each =
    first_is o (stands_at w i) l (each 0 i (omega arith) (omega arith))
    ∙ ap (λ (k : List Quote). listed_at w i ++ k) (from_place w l (suc i) (λ k j h e. each (suc k) j (omega arith) (omega arith)))

module _ (w : List (Option VendorQuote)) (long : length w ≡ 256) where
  quotes-are : quotes w ≡ listed_from w
  unfolding listed_from
  quotes-are = from_place w w 0 (λ k j h e. ap (λ (m : ℕ). get_or w m None) (omega arith)) ∙ ap (λ (n : ℕ). gather (listed_at w) (span 0 n)) long

  few : (l : List (Option VendorQuote)) → length (standing l) ≤ length l
  few [] = omega arith
  few (None ∷ l) = omega (arith, few l)
  few (Some r ∷ l) = omega (arith, few l)

  length-quotes : length (quotes w) ≡ length (standing w)
  length-quotes = length-map (standing w) quote_of

  abbrev blanks : List Quote
  blanks = replicate 257 blank_quote

  module _ (k n : ℕ) (r : VendorQuote) (h : k < length (numbered w)) (is : ◌≡◌ {A = ℕ × VendorQuote} (n, r) (get_or (numbered w) k (n, r))) where
    within : k < length (standing w)
    within = omega (arith, h, length-enumerate_from 0 (standing w))

    both : ◌≡◌ {A = ℕ × VendorQuote} (n, r) (0 + k, get_or (standing w) k r)
    both = is ∙ get_or-enumerate_from 0 (standing w) k (n, r) within

    place-is : n ≡ k
    place-is = ap (λ (p : ℕ × VendorQuote). p.0) both ∙ omega arith

    quote-is : quote_of r ≡ get_or (quotes w) k (quote_of r)
    quote-is = ap (λ (p : ℕ × VendorQuote). quote_of p.1) both ∙ sym (get_or-map quote_of (standing w) k r (quote_of r) within)

    pub place-within : n < 256
    place-within = omega (arith, place-is, within, few w, long)

    -- one more is listed
    pub list_one : (rows : List Quote) (q : Quote) → q ≡ quote_of r → rows ≡ over (take k (quotes w)) blanks → set rows n q ≡ over (take (k + 1) (quotes w)) blanks
    list_one rows q f e =
        ap (λ (m : ℕ). set rows m q) place-is
        ∙ ap (λ (d : List Quote). set d k q) e
        ∙ over-next (quotes w) blanks k q (quote_of r) (omega (arith, within, length-quotes)) (omega (arith, length-quotes, few w, long, length-replicate 257 blank_quote)) (f ∙ quote-is)

  -- once all are through
  pub list_all : (k n : ℕ) (rows : List Quote) → k ≡ length (numbered w) → n ≡ length (standing w) → rows ≡ over (take k (quotes w)) blanks → ◌≡◌ {A = QuoteRows} (record { rows = rows; count = n }) (listing (listed_from w))
  list_all k n rows h c e =
      ap₂ (λ (x : List Quote) (y : ℕ). record { rows = x; count = y })
      (e ∙ ap (λ (m : List Quote). over m blanks) (take_all k (quotes w) (omega (arith, h, length-quotes, length-enumerate_from 0 (standing w)))))
      (c ∙ sym length-quotes)
      ∙ ap listing quotes-are
