-- What request 5 of document 02 says of the table, sentence by sentence. Definitions only.
use Rattle.std.specs.Prelude.{None}
use Rattle.std.specs.Prelude.{ℕ, false, List, [], ◌∷◌, ◌≡◌}
use Rattle.std.specs.Prelude.{Some}
use Rattle.std.specs.Prelude.{slice_get}
use Rattle.market.specs.Faults.{drawn}
use Rattle.market.specs.Quotes.{table_tests}
use Rattle.market.specs.VendorQuotes.{quote_of}
use Rattle.market.specs.declared.quote.Quote.{Quote}
use Rattle.market.specs.declared.vendor_quote.VendorQuote.{VendorQuote}
use Rattle.corrections.specs.Corrections.{supersedes, corrected_of, vendor_tests}

-- x stands in l, at some place
pub record Among {A : Type 0} (x : A) (l : List A) : Type 0 where
  pub place : ℕ
  pub there : slice_get l place ≡ Some x

-- a row of the table that has this symbol
pub record ShownIn (table : List Quote) (symbol : ℕ) : Type 0 where
  pub row : Quote
  pub in_table : Among row table
  pub of-symbol : row.symbol ≡ symbol

-- a row given of which q is the row of the table
pub record GivenAs (rows : List VendorQuote) (q : Quote) : Type 0 where
  pub row : VendorQuote
  pub in_rows : Among row rows
  pub shown-as : q ≡ quote_of row

-- the table that is made of these rows
pub record Corrects (rows : List VendorQuote) (table : List Quote) : Type 0 where
  -- one ascending table: its rows draw no number
  pub ascends : drawn (table_tests 0 table) ≡ None
  -- each symbol given is shown
  pub shown : (r : VendorQuote) → Among r rows → ShownIn table r.symbol
  -- every row shown is one of those given
  pub is-given : (q : Quote) → Among q table → GivenAs rows q
  -- and none given supersedes it
  pub newest : (q : Quote) (here : Among q table) (r : VendorQuote) → Among r rows → supersedes r (is-given q here).row ≡ false

-- the same rows in another order
pub data Reordered : List VendorQuote → List VendorQuote → Type 0 where
  none_left : Reordered [] []
  same_first : (r : VendorQuote) (l m : List VendorQuote) → Reordered l m → Reordered (r ∷ l) (r ∷ m)
  first_two : (r s : VendorQuote) (l : List VendorQuote) → Reordered (r ∷ s ∷ l) (s ∷ r ∷ l)
  by_way_of : (k l m : List VendorQuote) → Reordered k l → Reordered l m → Reordered k m

-- what is proved of rows that draw no number
pub record CorrectsQuotes : Type 0 where
  -- their table is made as the sentences above say
  pub made : (rows : List VendorQuote) → drawn (vendor_tests rows) ≡ None → Corrects rows (corrected_of rows)
  -- these leave no choice
  pub once : (rows : List VendorQuote) → drawn (vendor_tests rows) ≡ None → (t u : List Quote) → Corrects rows t → Corrects rows u → t ≡ u
  -- in another order the rows draw no number either, and their table is the same
  pub any_order : (l m : List VendorQuote) → Reordered l m → drawn (vendor_tests l) ≡ None → (drawn (vendor_tests m) ≡ None) × (corrected_of m ≡ corrected_of l)
  -- no check refuses the table for its rows
  pub taken : (rows : List VendorQuote) → drawn (vendor_tests rows) ≡ None → drawn (table_tests 0 (corrected_of rows)) ≡ None
