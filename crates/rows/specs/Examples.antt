-- Words as docs/SCENARIOS.md writes them, and what they say: a table that one theorem proves. Definitions only.
use Rattle.std.specs.Prelude.{[], ◌∷◌, ◌≡◌, neg_ℤ, pos, Float}
use Rattle.std.specs.Prelude.{None, Some}
use Rattle.std.specs.Float.{binary64}
use Rattle.std.specs.Float.Ieee.{of_bits}
use Rattle.market.specs.declared.order.OrderType.TheVariants.{MarketBuy, StopSell}
use Rattle.costs.specs.declared.BrokerCost.TheVariants.{PctOfValue}
use Rattle.words.specs.Words.{words_of, ascii}
use Rattle.rows.specs.Rows.{order_of, quote_of, vendor_of, weight_of, cost_of, lot_of}

-- 1.0, 99.0 and 100.0
abbrev one : Float
one = of_bits binary64 0x3ff0000000000000

abbrev ninety_nine : Float
ninety_nine = of_bits binary64 0x4058c00000000000

abbrev hundred : Float
hundred = of_bits binary64 0x4059000000000000

abbrev pub Examples : Type 0
Examples =
    -- the words of a line
    (words_of (ascii "  send mb:3:3ff0000000000000:-  ") ≡ ascii "send" ∷ ascii "mb:3:3ff0000000000000:-" ∷ [])
    -- a market buy, and a stop sale with its price
    × (order_of (ascii "mb:3:3ff0000000000000:-") ≡ Some (record { kind = MarketBuy; symbol = 3; shares = one; price = None }))
    × (order_of (ascii "ss:255:4059000000000000:4058c00000000000") ≡ Some (record { kind = StopSell; symbol = 255; shares = hundred; price = Some ninety_nine }))
    -- an unknown kind, no price, a part too many, a capital digit
    × (order_of (ascii "xb:3:3ff0000000000000:-") ≡ None)
    × (order_of (ascii "mb:3:3ff0000000000000") ≡ None)
    × (order_of (ascii "mb:3:3ff0000000000000:-:") ≡ None)
    × (order_of (ascii "mb:3:3FF0000000000000:-") ≡ None)
    -- the bid stands before the ask, and a date may be below zero
    × (quote_of (ascii "3:4058c00000000000:4059000000000000:-1") ≡ Some (record { symbol = 3; bid = ninety_nine; ask = hundred; date = neg_ℤ (pos 1) }))
    × (quote_of (ascii "3:4058c00000000000:4059000000000000") ≡ None)
    -- a vendor's quote with the highest revision, and one more; no revision; a part too many
    × (vendor_of (ascii "3:4058c00000000000:4059000000000000:-1:255") ≡ Some (record { symbol = 3; bid = ninety_nine; ask = hundred; date = neg_ℤ (pos 1); revision = 255 }))
    × (vendor_of (ascii "3:4058c00000000000:4059000000000000:-1:256") ≡ None)
    × (vendor_of (ascii "3:4058c00000000000:4059000000000000:-1") ≡ None)
    × (vendor_of (ascii "3:4058c00000000000:4059000000000000:-1:0:") ≡ None)
    × (weight_of (ascii "7:3ff0000000000000") ≡ Some (record { symbol = 7; weight = one }))
    × (cost_of (ascii "pct_of_value:3ff0000000000000") ≡ Some (PctOfValue one))
    × (cost_of (ascii "per_shares:3ff0000000000000") ≡ None)
    -- a lot, the most of one and one more; no number; another name; a part too many
    × (lot_of (ascii "lot:100") ≡ Some 100)
    × (lot_of (ascii "lot:4294967295") ≡ Some 4294967295)
    × (lot_of (ascii "lot:4294967296") ≡ None)
    × (lot_of (ascii "lot:") ≡ None)
    × (lot_of (ascii "lots:100") ≡ None)
    × (lot_of (ascii "lot:100:") ≡ None)
