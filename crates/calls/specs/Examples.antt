-- Lines as docs/SCENARIOS.md writes them, and what they say: a table that one theorem proves. Definitions only.
use Rattle.std.specs.Prelude.{ℕ, false, [], ◌∷◌, ◌≡◌, ℤ, pos, Float}
use Prim.Native.String.{String}
use Rattle.std.specs.Float.{binary64}
use Rattle.std.specs.Float.Ieee.{of_bits}
use Rattle.market.specs.Orders.{zero64, market_order}
use Rattle.market.specs.declared.order.OrderType.TheVariants.{MarketBuy}
use Rattle.market.specs.declared.quote.Quote.{Quote}
use Rattle.costs.specs.declared.BrokerCost.TheVariants.{PctOfValue, Flat}
use Rattle.words.specs.Words.{words_of, ascii}
use Rattle.rows.specs.Rows.{revised}
use Rattle.calls.specs.declared.verb.Verb.TheVariants.{Blank, Malformed, New, Lend, Deposit, SendList, Delete, Check, Walk, Update, GetPositionQty, GetPositionLiquidationValue, GetHoldings, TradeImpactTotal, Correct, State}
use Rattle.calls.specs.Calls.{Said, saying, amounting, lotting, plainly, no_rows, said}

-- 1.0, 99.0 and 100.0
abbrev one : Float
one = of_bits binary64 0x3ff0000000000000

abbrev ninety_nine : Float
ninety_nine = of_bits binary64 0x4058c00000000000

abbrev hundred : Float
hundred = of_bits binary64 0x4059000000000000

-- a quote of 99.0 and 100.0
abbrev quoted : ℕ → ℤ → Quote
quoted symbol date = record { symbol = symbol; bid = ninety_nine; ask = hundred; date = date }

-- what a line says
abbrev line_says : String → Said
line_says s = said (words_of (ascii s))

abbrev pub Examples : Type 0
Examples =
    -- a verb alone, with spaces around it; no word; a word behind it; a word that is no verb
    (line_says "  state " ≡ plainly State)
    × (line_says "   " ≡ plainly Blank)
    × (line_says "state 1" ≡ plainly Malformed)
    × (line_says "states" ≡ plainly Malformed)
    -- one word
    × (line_says "deposit 4059000000000000" ≡ amounting Deposit hundred zero64 false)
    × (line_says "deposit 4059000000000000 1" ≡ plainly Malformed)
    × (line_says "deposit" ≡ plainly Malformed)
    × (line_says "delete 7" ≡ saying Delete 0 7 0 0 no_rows)
    × (line_says "lend 16" ≡ saying Lend 16 0 0 0 no_rows)
    × (line_says "get_position_qty 255" ≡ saying GetPositionQty 0 0 255 0 no_rows)
    × (line_says "get_position_liquidation_value 3" ≡ saying GetPositionLiquidationValue 0 0 3 0 no_rows)
    × (line_says "get_holdings 1024" ≡ saying GetHoldings 0 0 0 1024 no_rows)
    × (line_says "get_holdings 1025" ≡ plainly Malformed)
    -- three words
    × (line_says "trade_impact_total 4059000000000000 4058c00000000000 sell" ≡ amounting TradeImpactTotal hundred ninety_nine false)
    × (line_says "trade_impact_total 4059000000000000 4058c00000000000 hold" ≡ plainly Malformed)
    -- costs in their order, then the first table
    × (line_says "new 16 flat:3ff0000000000000 pct_of_value:3ff0000000000000 / 3:4058c00000000000:4059000000000000:1" ≡
    lotting New 16 1 (record { costs = Flat one ∷ PctOfValue one ∷ []; first = quoted 3 (pos 1) ∷ []; fetched = []; weights = []; orders = []; vendors = [] }))
    × (line_says "new 16 /" ≡ lotting New 16 1 no_rows)
    -- a lot behind the log's length; a number that is too large; a lot behind a cost; a second one
    × (line_says "new 16 lot:5 /" ≡ lotting New 16 5 no_rows)
    × (line_says "new 16 lot:5 flat:3ff0000000000000 / 3:4058c00000000000:4059000000000000:1" ≡
    lotting New 16 5 (record { costs = Flat one ∷ []; first = quoted 3 (pos 1) ∷ []; fetched = []; weights = []; orders = []; vendors = [] }))
    × (line_says "new 16 lot:4294967296 /" ≡ plainly Malformed)
    × (line_says "new 16 flat:3ff0000000000000 lot:5 /" ≡ plainly Malformed)
    × (line_says "new 16 lot:5 lot:5 /" ≡ plainly Malformed)
    -- the tradable table, then the fetched one; no slash; a slash too many
    × (line_says "check 3:4058c00000000000:4059000000000000:1 / 4:4058c00000000000:4059000000000000:2 5:4058c00000000000:4059000000000000:2" ≡
    saying Check 0 0 0 0 (record { costs = []; first = quoted 3 (pos 1) ∷ []; fetched = quoted 4 (pos 2) ∷ quoted 5 (pos 2) ∷ []; weights = []; orders = []; vendors = [] }))
    × (line_says "check 3:4058c00000000000:4059000000000000:1" ≡ plainly Malformed)
    × (line_says "check / /" ≡ plainly Malformed)
    -- a room and lists
    × (line_says "walk 8 3:3ff0000000000000" ≡ saying Walk 0 0 0 8 (record { costs = []; first = []; fetched = []; weights = record { symbol = 3; weight = one } ∷ []; orders = []; vendors = [] }))
    × (line_says "send_list 2 mb:3:3ff0000000000000:-" ≡ saying SendList 0 0 0 2 (record { costs = []; first = []; fetched = []; weights = []; orders = market_order MarketBuy 3 one ∷ []; vendors = [] }))
    × (line_says "update 8 3:4058c00000000000:4059000000000000:1 / 4:4058c00000000000:4059000000000000:1 / 5:3ff0000000000000" ≡
    saying Update 0 0 0 8 (record { costs = []; first = quoted 3 (pos 1) ∷ []; fetched = quoted 4 (pos 1) ∷ []; weights = record { symbol = 5; weight = one } ∷ []; orders = []; vendors = [] }))
    × (line_says "update 8 / 5:3ff0000000000000" ≡ plainly Malformed)
    -- two of a vendor's quotes; none; a revision that is too large; a quote with no revision; a room that is too large
    × (line_says "correct 256 4:4058c00000000000:4059000000000000:2:255 3:4058c00000000000:4059000000000000:1:0" ≡
    saying Correct 0 0 0 256 (record { costs = []; first = []; fetched = []; weights = []; orders = []; vendors = revised (quoted 4 (pos 2)) 255 ∷ revised (quoted 3 (pos 1)) 0 ∷ [] }))
    × (line_says "correct 256" ≡ saying Correct 0 0 0 256 no_rows)
    × (line_says "correct 256 3:4058c00000000000:4059000000000000:1:256" ≡ plainly Malformed)
    × (line_says "correct 256 3:4058c00000000000:4059000000000000:1" ≡ plainly Malformed)
    × (line_says "correct 1025" ≡ plainly Malformed)
