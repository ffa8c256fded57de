-- Cases of document 01, section 2, and of the supplier's 1, 2 and 3; the number of each refusal. Definitions only.
use Rattle.std.specs.Prelude.{ℕ, true, false, List, [], ◌∷◌, map}
use Rattle.std.specs.Prelude.{None, Some}
use Rattle.std.specs.Float.{nan, inf}
use Rattle.market.specs.Faults.{drawn, number_of, number_drawn}
use Rattle.market.specs.declared.fault.Fault.TheVariants.{UnknownSymbol, BadValue, NotAscending, BrokerFailed, Unquoted, NotMarket, ExceedsCash, ExceedsHolding, ZeroShares, LogFull, BookFull, WithdrawFailed, NothingToWeigh, TooManyCosts, ListTooShort, Unsound, LotOutOfRange, BeyondLot, MalformedLine, TextTooLong, AlikeRows, TooManyRows}
use Rattle.market.specs.Orders.{market_order, priced_order, order_tests}
use Rattle.market.specs.Quotes.{table_tests, row_for, table_of, row_at}
use Rattle.market.specs.Weights.{weight_rows}
use Rattle.market.specs.declared.order.Order.{Order}
use Rattle.market.specs.declared.order.OrderType.TheVariants.{MarketBuy, LimitBuy}
use Rattle.market.specs.declared.quote.Quote.{Quote}
use Rattle.market.specs.declared.weight.Weight.{Weight}
use Rattle.ledger.specs.Examples.{Example, example, num, quote, weight}
use Rattle.cases.specs.Made.{negative}

-- the number that rows, weights or an order draw, or 0
abbrev rows_draw : List Quote → ℕ
rows_draw l = number_drawn (drawn (table_tests 0 l))

abbrev weights_draw : List Weight → ℕ
weights_draw l = number_drawn (drawn (weight_rows 0 l))

abbrev order_draws : Order → ℕ
order_draws o = number_drawn (drawn (order_tests o))

abbrev good : ℕ → Quote
good s = quote s (num 9) (num 10)

abbrev pub tables : List Example
tables =
    -- rows that ascend strictly from 0 to 255, and no row: 0
    example 201 (map rows_draw ((good 0 ∷ good 7 ∷ good 255 ∷ []) ∷ [] ∷ [])) (0 ∷ 0 ∷ []) ∷
    -- 1: symbol 256
    example 202 (rows_draw (good 256 ∷ [])) 1 ∷
    -- 2: a bid of 0, an ask of -1, an infinite bid, a NaN ask
    example 203
    (map rows_draw ((quote 1 (num 0) (num 10) ∷ []) ∷ (quote 1 (num 9) (negative 1 1) ∷ []) ∷ (quote 1 (inf false) (num 10) ∷ []) ∷ (quote 1 (num 9) nan ∷ []) ∷ []))
    (2 ∷ 2 ∷ 2 ∷ 2 ∷ []) ∷
    -- 3: the same symbol twice, and one that descends
    example 204 (map rows_draw ((good 1 ∷ good 1 ∷ []) ∷ (good 2 ∷ good 1 ∷ []) ∷ [])) (3 ∷ 3 ∷ []) ∷
    -- per row 1, 2, 3: symbol 256 with a NaN is 1, a NaN in a row that descends is 2; the rows in order: the first one's 2 comes before the second one's 1
    example 205
    (map rows_draw ((quote 256 nan (num 10) ∷ []) ∷ (good 2 ∷ quote 1 nan (num 10) ∷ []) ∷ (quote 1 nan (num 10) ∷ good 256 ∷ []) ∷ []))
    (1 ∷ 2 ∷ 2 ∷ []) ∷
    -- the row for a symbol, in the list and in the table by symbol: 7 and 255 have one, 8 has none; 256 reads no other symbol's place
    example 206 (map (row_for (good 0 ∷ good 7 ∷ good 255 ∷ [])) (7 ∷ 255 ∷ 8 ∷ 256 ∷ [])) (Some (good 7) ∷ Some (good 255) ∷ None ∷ None ∷ []) ∷
    example 207 (map (row_at (table_of (good 0 ∷ good 7 ∷ good 255 ∷ []))) (7 ∷ 255 ∷ 8 ∷ 256 ∷ [])) (Some (good 7) ∷ Some (good 255) ∷ None ∷ None ∷ []) ∷
    -- the table by symbol keeps the number of its first bad row: 3, then 1
    example 208 (number_drawn (table_of (good 2 ∷ good 1 ∷ good 256 ∷ [])).fault) 3 ∷
    -- weights: any finite one passes, also below zero; 1, 2 and 3
    example 209
    (map weights_draw
    ((weight 0 (negative 1 1) ∷ weight 255 (num 0) ∷ []) ∷ (weight 256 nan ∷ []) ∷ (weight 2 (num 1) ∷ weight 1 nan ∷ []) ∷ (weight 1 (num 1) ∷ weight 1 (num 1) ∷ []) ∷ []))
    (0 ∷ 1 ∷ 2 ∷ 3 ∷ []) ∷
    -- orders: 1 before 2; 2 by the shares, and by the price where there is one
    example 210
    (map order_draws (market_order MarketBuy 256 nan ∷ market_order MarketBuy 1 (inf true) ∷ priced_order LimitBuy 1 (num 1) nan ∷ market_order LimitBuy 255 (num 1) ∷ []))
    (1 ∷ 2 ∷ 2 ∷ 0 ∷ []) ∷
    -- the number of each refusal: of the supplier, the sender, the cash mover, the weights, the builder, the lender, then those of document 02
    example 211
    (map number_of
    (UnknownSymbol ∷ BadValue ∷ NotAscending ∷ BrokerFailed ∷ Unquoted ∷ NotMarket ∷ ExceedsCash ∷ ExceedsHolding ∷ ZeroShares ∷ LogFull ∷ BookFull ∷
    WithdrawFailed ∷ NothingToWeigh ∷ TooManyCosts ∷ ListTooShort ∷ Unsound ∷ LotOutOfRange ∷ BeyondLot ∷ MalformedLine ∷ TextTooLong ∷ AlikeRows ∷ TooManyRows ∷ []))
    (1 ∷ 2 ∷ 3 ∷ 4 ∷ 5 ∷ 6 ∷ 7 ∷ 8 ∷ 9 ∷ 10 ∷ 11 ∷ 12 ∷ 13 ∷ 14 ∷ 15 ∷ 16 ∷ 17 ∷ 18 ∷ 19 ∷ 20 ∷ 21 ∷ 22 ∷ []) ∷ []
