-- Orders, quotes, vendor quotes, weights, costs and lots as words: the last rows of the table of words in docs/SCENARIOS.md. A word is a row
-- where it has the row's number of parts and each part is of its form. Definitions only.
use Rattle.std.specs.Prelude.{ℕ, cond, List, eqb, leb, Float, length}
use Rattle.std.specs.Prelude.{Option, None, Some}
use Rattle.lists.specs.Lists.{given}
use Rattle.market.specs.declared.order.Order.{Order}
use Rattle.market.specs.declared.order.OrderType.{OrderType}
use Rattle.market.specs.declared.order.OrderType.TheVariants.{MarketSell, MarketBuy, LimitSell, LimitBuy, StopSell, StopBuy}
use Rattle.market.specs.declared.quote.Quote.{Quote}
use Rattle.market.specs.declared.vendor_quote.VendorQuote.{VendorQuote}
use Rattle.market.specs.declared.weight.Weight.{Weight}
use Rattle.costs.specs.declared.BrokerCost.{BrokerCost}
use Rattle.costs.specs.declared.BrokerCost.TheVariants.{PerShare, PctOfValue, Flat}
use Rattle.words.specs.Numbers.{some_if, whole_of, symbol_of, signed_of, float_of}
use Rattle.words.specs.Words.{split, part_of, same_bytes, ascii}

-- what is made of a word that has n parts
abbrev pub of_parts : {A : Type 0} → ℕ → List ℕ → Option A → Option A
of_parts n w x = cond (eqb (length (split 58 w)) n) x None

-- what is made of a part that is of its form
abbrev pub of_part : {A B : Type 0} → Option A → (A → Option B) → Option B
of_part o f = given o None f

-- KIND: market, limit or stop, buy or sell
unfoldable pub kind_of : List ℕ → Option OrderType
kind_of s =
    cond (same_bytes s (ascii "mb")) (Some MarketBuy)
    (cond (same_bytes s (ascii "ms")) (Some MarketSell)
    (cond (same_bytes s (ascii "lb")) (Some LimitBuy)
    (cond (same_bytes s (ascii "ls")) (Some LimitSell)
    (cond (same_bytes s (ascii "sb")) (Some StopBuy)
    (cond (same_bytes s (ascii "ss")) (Some StopSell)
    None)))))

-- PRICE: a FLOAT, or `-` for none
abbrev pub priced_at : Option Float → Option (Option Float)
priced_at None = None
priced_at (Some x) = Some (Some x)

unfoldable pub price_of : List ℕ → Option (Option Float)
price_of s = cond (same_bytes s (ascii "-")) (Some None) (priced_at (float_of s))

-- ORDER: KIND:SYMBOL:SHARES:PRICE
abbrev pub order_at : OrderType → ℕ → Float → Option Float → Order
order_at kind symbol shares price = record { kind = kind; symbol = symbol; shares = shares; price = price }

unfoldable pub order_of : List ℕ → Option Order
order_of w =
    of_parts 4 w
    (of_part (kind_of (part_of w 0)) (λ kind.
    of_part (symbol_of (part_of w 1)) (λ symbol.
    of_part (float_of (part_of w 2)) (λ shares.
    of_part (price_of (part_of w 3)) (λ price.
    Some (order_at kind symbol shares price))))))

-- QUOTE: SYMBOL:BID:ASK:DATE
unfoldable pub quote_of : List ℕ → Option Quote
quote_of w =
    of_parts 4 w
    (of_part (symbol_of (part_of w 0)) (λ symbol.
    of_part (float_of (part_of w 1)) (λ bid.
    of_part (float_of (part_of w 2)) (λ ask.
    of_part (signed_of (part_of w 3)) (λ date.
    Some (record { symbol = symbol; bid = bid; ask = ask; date = date }))))))

-- SYMBOL:BID:ASK:DATE, the first four parts of a word
unfoldable pub quote_parts : List ℕ → Option Quote
quote_parts w =
    of_part (symbol_of (part_of w 0)) (λ symbol.
    of_part (float_of (part_of w 1)) (λ bid.
    of_part (float_of (part_of w 2)) (λ ask.
    of_part (signed_of (part_of w 3)) (λ date.
    Some (record { symbol = symbol; bid = bid; ask = ask; date = date })))))

-- REVISION: a WHOLE, at most 255
abbrev pub revision_from : Option ℕ → Option ℕ
revision_from None = None
revision_from (Some n) = some_if (leb n 255) n

unfoldable pub revision_of : List ℕ → Option ℕ
revision_of s = revision_from (whole_of s)

-- VENDOR: SYMBOL:BID:ASK:DATE:REVISION, a quote and its revision
abbrev pub revised : Quote → ℕ → VendorQuote
revised q revision = record { symbol = q.symbol; bid = q.bid; ask = q.ask; date = q.date; revision = revision }

unfoldable pub vendor_of : List ℕ → Option VendorQuote
vendor_of w =
    of_parts 5 w
    (of_part (quote_parts w) (λ q.
    of_part (revision_of (part_of w 4)) (λ revision.
    Some (revised q revision))))

-- WEIGHT: SYMBOL:FLOAT
unfoldable pub weight_of : List ℕ → Option Weight
weight_of w =
    of_parts 2 w
    (of_part (symbol_of (part_of w 0)) (λ symbol.
    of_part (float_of (part_of w 1)) (λ weight.
    Some (record { symbol = symbol; weight = weight }))))

-- COST: per_share:FLOAT, pct_of_value:FLOAT or flat:FLOAT
unfoldable pub cost_named : List ℕ → Float → Option BrokerCost
cost_named s x =
    cond (same_bytes s (ascii "per_share")) (Some (PerShare x))
    (cond (same_bytes s (ascii "pct_of_value")) (Some (PctOfValue x))
    (cond (same_bytes s (ascii "flat")) (Some (Flat x))
    None))

unfoldable pub cost_of : List ℕ → Option BrokerCost
cost_of w = of_parts 2 w (of_part (float_of (part_of w 1)) (λ x. cost_named (part_of w 0) x))

-- lot:LOT: a WHOLE that 32 bits hold, as of a SYMBOL, behind the name
unfoldable pub lot_of : List ℕ → Option ℕ
lot_of w = of_parts 2 w (of_part (symbol_of (part_of w 1)) (λ n. some_if (same_bytes (part_of w 0) (ascii "lot")) n))
