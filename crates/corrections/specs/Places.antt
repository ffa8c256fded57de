-- The rows by symbol as the program's loop keeps them. Definitions only.
use Rattle.std.specs.Prelude.{ℕ, ◌<◌, Bool, true, List, [], ◌∷◌, ◌≡◌, pos, get_or}
use Rattle.std.specs.Prelude.{Option, None, Some}
use Rattle.std.specs.Float.{nan}
use Rattle.lists.specs.Lists.{span, gather, given}
use Rattle.market.specs.VendorQuotes.{quote_of}
use Rattle.market.specs.declared.quote.Quote.{Quote}
use Rattle.market.specs.declared.vendor_quote.VendorQuote.{VendorQuote}
use Rattle.corrections.specs.Corrections.{newer, winner}

-- what a read past the end of an array of these rows gives; no code reads there
abbrev pub no_vendor : VendorQuote
no_vendor = record { symbol = 0; bid = nan; ask = nan; date = pos 0; revision = 0 }

-- a row goes where none stands, and takes the place of one that it is newer than
abbrev pub takes_place : Option VendorQuote → VendorQuote → Bool
takes_place None r = true
takes_place (Some old) r = newer r old

-- the row that stands for a symbol
abbrev pub stands_at : List (Option VendorQuote) → ℕ → Option VendorQuote
stands_at kept s = get_or kept s None

-- at each symbol's place the row that wins among those given
pub record KeepsNewest (rows : List VendorQuote) (kept : List (Option VendorQuote)) : Type 0 where
  pub wins : (s : ℕ) → s < 256 → stands_at kept s ≡ winner rows s

-- the rows that stand, by ascending symbol
unfoldable pub listed_from : List (Option VendorQuote) → List Quote
listed_from kept = gather (λ s. given (stands_at kept s) [] (λ r. quote_of r ∷ [])) (span 0 256)
