-- Lists of rows among the words of a line: docs/SCENARIOS.md, "The calls" (COST*, ORDER*, QUOTE*, WEIGHT*, VENDOR*). A list ends at a `/` or
-- at the line's end. Definitions only.
use Rattle.std.specs.Prelude.{ℕ, zero, suc, min, Bool, true, false, ◌&&◌, cond, leb, length, get_or, drop, replicate}
use Rattle.std.specs.Bool.{beq}
use mathlib.Core.List.{List, [], ◌∷◌, map, foldl}
use Rattle.std.specs.Prelude.{Option, None, Some, is_some, unwrap_or}
use Rattle.lists.specs.Lists.{over}
use Rattle.market.specs.Orders.{zero64, blank_order}
use Rattle.market.specs.Quotes.{blank_quote}
use Rattle.market.specs.VendorQuotes.{blank_vendor}
use Rattle.market.specs.Weights.{blank_weight}
use Rattle.market.specs.declared.order.Order.{Order}
use Rattle.market.specs.declared.quote.Quote.{Quote}
use Rattle.market.specs.declared.vendor_quote.VendorQuote.{VendorQuote}
use Rattle.market.specs.declared.weight.Weight.{Weight}
use Rattle.costs.specs.Kept.{no_costs, with_cost}
use Rattle.costs.specs.declared.BrokerCost.{BrokerCost}
use Rattle.costs.specs.declared.BrokerCost.TheVariants.{Flat}
use Rattle.costs.specs.declared.TradeCosts.{TradeCosts}
use Rattle.words.specs.Numbers.{some_if}
use Rattle.words.specs.Words.{words_of, same_bytes, ascii}
use Rattle.rows.specs.Rows.{order_of, quote_of, vendor_of, weight_of, cost_of}
use Rattle.calls.specs.declared.list.Span.{Span}

abbrev pub Words : Type 0
Words = List (List ℕ)

-- the first word, which is empty where there is none, and the words behind it
abbrev pub first_of : Words → List ℕ
first_of ws = get_or ws 0 []

abbrev pub rest_of : Words → Words
rest_of ws = drop 1 ws

abbrev pub is_empty : Words → Bool
is_empty [] = true
is_empty (w ∷ ws) = false

-- the first word where no other is behind it: the empty one, which is of no form, where there is none
unfoldable pub only_of : Words → Option (List ℕ)
only_of ws = some_if (is_empty (rest_of ws)) (first_of ws)

-- the first n words; empty ones stand where there are fewer
unfoldable pub first_words : ℕ → Words → Words
first_words zero ws = []
first_words (suc n) ws = first_of ws ∷ first_words n (rest_of ws)

-- ---- the words of a list

abbrev pub is_slash : List ℕ → Bool
is_slash w = same_bytes w (ascii "/")

-- those before the first slash
unfoldable pub until_slash : Words → Words
until_slash [] = []
until_slash (w ∷ ws) = cond (is_slash w) [] (w ∷ until_slash ws)

-- is there a slash?
unfoldable pub has_slash : Words → Bool
has_slash [] = false
has_slash (w ∷ ws) = cond (is_slash w) true (has_slash ws)

-- those behind the first slash
unfoldable pub behind_slash : Words → Words
behind_slash [] = []
behind_slash (w ∷ ws) = cond (is_slash w) ws (behind_slash ws)

-- is the word a row, and is each of the words? A reader of words says what a row is.
unfoldable pub is_row : {A : Type 0} → (List ℕ → Option A) → List ℕ → Bool
is_row f w = is_some (f w)

unfoldable pub are_rows : {A : Type 0} → (List ℕ → Option A) → Words → Bool
are_rows f [] = true
are_rows f (w ∷ ws) = is_row f w && are_rows f ws

-- ---- a list at the head of some words

-- its words, and the words behind the slash that ends it
pub record Listed : Type 0 where
  pub words : Words
  pub behind : Words

-- a list of at most so many rows by f, before a slash or, with `before` false, at the line's end
unfoldable pub list_of : {A : Type 0} → (List ℕ → Option A) → ℕ → Bool → Words → Option Listed
list_of f most before ws =
    some_if (are_rows f (until_slash ws) && leb (length (until_slash ws)) most && beq (has_slash ws) before)
    (record { words = until_slash ws; behind = behind_slash ws })

-- the words of a span of a line
unfoldable pub words_in : List ℕ → Span → Words
words_in line s = first_words s.count (words_of (drop s.at line))

-- what a span that was read or not says of a line
unfoldable pub spanned : List ℕ → Option Span → Option Listed
spanned line (Some s) = Some (record { words = words_in line s; behind = words_of (drop s.next line) })
spanned line None = None

-- ---- rows read off words

abbrev pub blank_cost : BrokerCost
blank_cost = Flat zero64

-- a word as a row, which is blank where the word is none; the words of a list are rows, by list_of
unfoldable pub order_or_blank : List ℕ → Order
order_or_blank w = unwrap_or (order_of w) blank_order

unfoldable pub quote_or_blank : List ℕ → Quote
quote_or_blank w = unwrap_or (quote_of w) blank_quote

unfoldable pub vendor_or_blank : List ℕ → VendorQuote
vendor_or_blank w = unwrap_or (vendor_of w) blank_vendor

unfoldable pub weight_or_blank : List ℕ → Weight
weight_or_blank w = unwrap_or (weight_of w) blank_weight

unfoldable pub cost_or_blank : List ℕ → BrokerCost
cost_or_blank w = unwrap_or (cost_of w) blank_cost

-- the first n words as rows by f, in the first places of an array of blanks
abbrev pub read_rows : {A : Type 0} → (List ℕ → Option A) → A → ℕ → ℕ → Words → List A
read_rows f blank most n ws = over (map (λ w. unwrap_or (f w) blank) (first_words (min n most) ws)) (replicate most blank)

-- the first n words as orders, quotes, vendor quotes or weights, in the first places of an array of blanks
unfoldable pub read_orders : ℕ → Words → List Order
read_orders n ws = over (map order_or_blank (first_words (min n 1024) ws)) (replicate 1024 blank_order)

unfoldable pub read_quotes : ℕ → Words → List Quote
read_quotes n ws = over (map quote_or_blank (first_words (min n 512) ws)) (replicate 512 blank_quote)

unfoldable pub read_vendors : ℕ → Words → List VendorQuote
read_vendors n ws = over (map vendor_or_blank (first_words (min n 1100) ws)) (replicate 1100 blank_vendor)

unfoldable pub read_weights : ℕ → Words → List Weight
read_weights n ws = over (map weight_or_blank (first_words (min n 512) ws)) (replicate 512 blank_weight)

-- the first n words as costs, in their order
abbrev pub cost_step : TradeCosts → List ℕ → TradeCosts
cost_step c w = with_cost c (cost_or_blank w)

unfoldable pub read_costs : ℕ → Words → TradeCosts
read_costs n ws = foldl cost_step no_costs (first_words n ws)
