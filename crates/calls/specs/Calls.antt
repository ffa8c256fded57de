-- What a line says: the forms of docs/SCENARIOS.md, "The calls", over the words of the line. A line of no form is malformed, and says
-- nothing else. Definitions only.
use Rattle.std.specs.Prelude.{ℕ, Bool, true, false, ◌||◌, cond, List, [], map, leb, Float}
use Rattle.std.specs.Prelude.{Option, None, Some}
use Rattle.lists.specs.Lists.{given}
use Rattle.market.specs.Orders.{zero64, blank_order}
use Rattle.market.specs.declared.order.Order.{Order}
use Rattle.market.specs.declared.quote.Quote.{Quote}
use Rattle.market.specs.declared.vendor_quote.VendorQuote.{VendorQuote}
use Rattle.market.specs.declared.weight.Weight.{Weight}
use Rattle.costs.specs.declared.BrokerCost.{BrokerCost}
use Rattle.words.specs.Words.{same_bytes, ascii}
use Rattle.words.specs.Numbers.{some_if, whole_of, symbol_of, float_of}
use Rattle.rows.specs.Rows.{order_of, quote_of, vendor_of, weight_of, cost_of, lot_of}
use Rattle.calls.specs.declared.list.Span.{Span}
use Rattle.calls.specs.declared.call.Call.{Call}
use Rattle.calls.specs.declared.verb.Verb.{Verb}
use Rattle.calls.specs.declared.verb.Verb.TheVariants.{Blank, Malformed, New, Lend, Deposit, Withdraw, Liquidate, Send, Insert, SendList, Delete, Check, Walk, Update, GetQuote, GetPositionQty, GetPendingOrder, GetPositionValue, GetPositionLiquidationValue, CostBasis, GetPositions, GetQuotes, GetHoldings, GetPendingOrders, GetTradeCosts, GetTotalValue, GetLiquidationValue, GetCashBalance, Turnover, GetBrokerState, ExecutedTradeCount, TradeImpactTotal, CalculateTradeCosts, Floor, Ceil, Correct, State, Quiet, Full, Clock}
use Rattle.calls.specs.Verbs.{verb_of}
use Rattle.calls.specs.Lists.{Words, is_empty, first_of, rest_of, only_of, list_of, words_in, order_or_blank, quote_or_blank, vendor_or_blank, weight_or_blank, cost_or_blank}

-- the lists of a line
pub record Rows : Type 0 where
  pub costs : List BrokerCost
  pub first : List Quote
  pub fetched : List Quote
  pub weights : List Weight
  pub orders : List Order
  pub vendors : List VendorQuote

-- what a line says; what its verb does not use is 0, false or empty
pub record Said : Type 0 where
  pub verb : Verb
  pub log : ℕ
  pub lot : ℕ
  pub whole : ℕ
  pub symbol : ℕ
  pub amount : Float
  pub second : Float
  pub is-buy : Bool
  pub order : Order
  pub room : ℕ
  pub rows : Rows

abbrev pub no_rows : Rows
no_rows = record { costs = []; first = []; fetched = []; weights = []; orders = []; vendors = [] }

-- a verb with whole numbers and lists, with amounts, with an order, or with a log's length, a lot and lists
abbrev pub saying : Verb → ℕ → ℕ → ℕ → ℕ → Rows → Said
saying v log whole symbol room rows =
    record { verb = v; log = log; lot = 0; whole = whole; symbol = symbol; amount = zero64; second = zero64; is-buy = false; order = blank_order; room = room; rows = rows }

abbrev pub amounting : Verb → Float → Float → Bool → Said
amounting v x y is_buy =
    record { verb = v; log = 0; lot = 0; whole = 0; symbol = 0; amount = x; second = y; is-buy = is_buy; order = blank_order; room = 0; rows = no_rows }

abbrev pub ordering : Verb → Order → Said
ordering v o =
    record { verb = v; log = 0; lot = 0; whole = 0; symbol = 0; amount = zero64; second = zero64; is-buy = false; order = o; room = 0; rows = no_rows }

abbrev pub lotting : Verb → ℕ → ℕ → Rows → Said
lotting v log lot rows =
    record { verb = v; log = log; lot = lot; whole = 0; symbol = 0; amount = zero64; second = zero64; is-buy = false; order = blank_order; room = 0; rows = rows }

abbrev pub plainly : Verb → Said
plainly v = saying v 0 0 0 0 no_rows

-- what is said where the form is met, or a malformed line: by a test, and by a value that was read or not
unfoldable pub said_if : Bool → Said → Said
said_if ok s = cond ok s (plainly Malformed)

abbrev pub formed : {A : Type 0} → Option A → (A → Said) → Said
formed o f = given o (plainly Malformed) f

-- ---- a verb alone, or with one word that is the line's last

unfoldable pub said_alone : Verb → Words → Said
said_alone v ws = said_if (is_empty ws) (plainly v)

-- WHOLE
unfoldable pub said_whole : Verb → Words → Said
said_whole v ws = formed (only_of ws) (λ w. formed (whole_of w) (λ n. saying v 0 n 0 0 no_rows))

-- LOG
unfoldable pub said_log : Verb → Words → Said
said_log v ws = formed (only_of ws) (λ w. formed (whole_of w) (λ n. saying v n 0 0 0 no_rows))

-- SYMBOL
unfoldable pub said_symbol : Verb → Words → Said
said_symbol v ws = formed (only_of ws) (λ w. formed (symbol_of w) (λ symbol. saying v 0 0 symbol 0 no_rows))

-- FLOAT
unfoldable pub said_amount : Verb → Words → Said
said_amount v ws = formed (only_of ws) (λ w. formed (float_of w) (λ x. amounting v x zero64 false))

-- ORDER
unfoldable pub said_order : Verb → Words → Said
said_order v ws = formed (only_of ws) (λ w. formed (order_of w) (λ order. ordering v order))

-- ROOM: a WHOLE, at most 1,024
abbrev pub room_from : Option ℕ → Option ℕ
room_from None = None
room_from (Some n) = some_if (leb n 1024) n

unfoldable pub room_of : List ℕ → Option ℕ
room_of w = room_from (whole_of w)

unfoldable pub said_room : Verb → Words → Said
said_room v ws = formed (only_of ws) (λ w. formed (room_of w) (λ room. saying v 0 0 0 room no_rows))

-- ---- two words or three

-- QUANTITY VALUE
unfoldable pub said_quantity : Verb → Words → Said
said_quantity v ws =
    formed (float_of (first_of ws)) (λ quantity.
    formed (only_of (rest_of ws)) (λ w.
    formed (float_of w) (λ value.
    amounting v quantity value false)))

-- BUDGET PRICE, and `buy` or `sell`
abbrev pub side_said : Verb → Float → Float → Bool → Bool → Said
side_said v budget price buys sells = said_if (buys || sells) (amounting v budget price buys)

abbrev pub side_named : Verb → Float → Float → List ℕ → Said
side_named v budget price w = side_said v budget price (same_bytes w (ascii "buy")) (same_bytes w (ascii "sell"))

unfoldable pub said_side : Verb → Words → Said
said_side v ws =
    formed (float_of (first_of ws)) (λ budget.
    formed (float_of (first_of (rest_of ws))) (λ price.
    formed (only_of (rest_of (rest_of ws))) (side_named v budget price)))

-- ---- lists: a slash ends each but the last

-- a lot, and the words behind it
pub record Lotted : Type 0 where
  pub lot : ℕ
  pub behind : Words

-- the lot, which may be left out: the first word's number and the words behind it; where it is none, 1 and the words as they are
unfoldable pub lot_at : Words → Lotted
lot_at ws = given (lot_of (first_of ws)) (record { lot = 1; behind = ws }) (λ n. record { lot = n; behind = rest_of ws })

-- LOG lot:LOT COST* / QUOTE*, where the lot may be left out: what stands behind LOG, and all of it
abbrev pub said_built : Verb → ℕ → Lotted → Said
said_built v log lotted =
    formed (list_of cost_of 32 true lotted.behind) (λ costs.
    formed (list_of quote_of 512 false costs.behind) (λ first.
    lotting v log lotted.lot (record { costs = map cost_or_blank costs.words; first = map quote_or_blank first.words; fetched = []; weights = []; orders = []; vendors = [] })))

unfoldable pub said_new : Verb → Words → Said
said_new v ws = formed (whole_of (first_of ws)) (λ log. said_built v log (lot_at (rest_of ws)))

-- QUOTE* / QUOTE*: the tradable table, then the fetched one
unfoldable pub said_check : Verb → Words → Said
said_check v ws =
    formed (list_of quote_of 512 true ws) (λ first.
    formed (list_of quote_of 512 false first.behind) (λ fetched.
    saying v 0 0 0 0 (record { costs = []; first = map quote_or_blank first.words; fetched = map quote_or_blank fetched.words; weights = []; orders = []; vendors = [] })))

-- ROOM WEIGHT*
unfoldable pub said_walk : Verb → Words → Said
said_walk v ws =
    formed (room_of (first_of ws)) (λ room.
    formed (list_of weight_of 512 false (rest_of ws)) (λ weights.
    saying v 0 0 0 room (record { costs = []; first = []; fetched = []; weights = map weight_or_blank weights.words; orders = []; vendors = [] })))

-- ROOM ORDER*
unfoldable pub said_orders : Verb → Words → Said
said_orders v ws =
    formed (room_of (first_of ws)) (λ room.
    formed (list_of order_of 1024 false (rest_of ws)) (λ orders.
    saying v 0 0 0 room (record { costs = []; first = []; fetched = []; weights = []; orders = map order_or_blank orders.words; vendors = [] })))

-- ROOM VENDOR*
unfoldable pub said_correct : Verb → Words → Said
said_correct v ws =
    formed (room_of (first_of ws)) (λ room.
    formed (list_of vendor_of 1100 false (rest_of ws)) (λ vendors.
    saying v 0 0 0 room (record { costs = []; first = []; fetched = []; weights = []; orders = []; vendors = map vendor_or_blank vendors.words })))

-- ROOM QUOTE* / QUOTE* / WEIGHT*
unfoldable pub said_update : Verb → Words → Said
said_update v ws =
    formed (room_of (first_of ws)) (λ room.
    formed (list_of quote_of 512 true (rest_of ws)) (λ first.
    formed (list_of quote_of 512 true first.behind) (λ fetched.
    formed (list_of weight_of 512 false fetched.behind) (λ weights.
    saying v 0 0 0 room (record { costs = []; first = map quote_or_blank first.words; fetched = map quote_or_blank fetched.words; weights = map weight_or_blank weights.words; orders = []; vendors = [] })))))

-- ---- the form of each verb

unfoldable pub said_as : Verb → Words → Said
said_as Blank ws = plainly Blank
said_as Malformed ws = plainly Malformed
said_as New ws = said_new New ws
said_as Lend ws = said_log Lend ws
said_as Deposit ws = said_amount Deposit ws
said_as Withdraw ws = said_amount Withdraw ws
said_as Liquidate ws = said_amount Liquidate ws
said_as Send ws = said_order Send ws
said_as Insert ws = said_order Insert ws
said_as SendList ws = said_orders SendList ws
said_as Delete ws = said_whole Delete ws
said_as Check ws = said_check Check ws
said_as Walk ws = said_walk Walk ws
said_as Update ws = said_update Update ws
said_as GetQuote ws = said_symbol GetQuote ws
said_as GetPositionQty ws = said_symbol GetPositionQty ws
said_as GetPendingOrder ws = said_symbol GetPendingOrder ws
said_as GetPositionValue ws = said_symbol GetPositionValue ws
said_as GetPositionLiquidationValue ws = said_symbol GetPositionLiquidationValue ws
said_as CostBasis ws = said_symbol CostBasis ws
said_as GetPositions ws = said_room GetPositions ws
said_as GetQuotes ws = said_room GetQuotes ws
said_as GetHoldings ws = said_room GetHoldings ws
said_as GetPendingOrders ws = said_room GetPendingOrders ws
said_as GetTradeCosts ws = said_room GetTradeCosts ws
said_as GetTotalValue ws = said_alone GetTotalValue ws
said_as GetLiquidationValue ws = said_alone GetLiquidationValue ws
said_as GetCashBalance ws = said_alone GetCashBalance ws
said_as Turnover ws = said_alone Turnover ws
said_as GetBrokerState ws = said_alone GetBrokerState ws
said_as ExecutedTradeCount ws = said_alone ExecutedTradeCount ws
said_as TradeImpactTotal ws = said_side TradeImpactTotal ws
said_as CalculateTradeCosts ws = said_quantity CalculateTradeCosts ws
said_as Floor ws = said_amount Floor ws
said_as Ceil ws = said_amount Ceil ws
said_as Correct ws = said_correct Correct ws
said_as State ws = said_alone State ws
said_as Quiet ws = said_alone Quiet ws
said_as Full ws = said_alone Full ws
said_as Clock ws = said_alone Clock ws

-- what the words of a line say: the first one is the verb
unfoldable pub said : Words → Said
said ws = said_as (verb_of (first_of ws)) (rest_of ws)

-- ---- what the program's calls mean

-- a call on its line
unfoldable pub heard : List ℕ → Call → Said
heard line c =
    record {
      verb = c.verb;
      log = c.log;
      lot = c.lot;
      whole = c.whole;
      symbol = c.symbol;
      amount = c.amount;
      second = c.second;
      is-buy = c.is_buy;
      order = c.order;
      room = c.room;
      rows =
          record {
            costs = map cost_or_blank (words_in line c.costs);
            first = map quote_or_blank (words_in line c.first);
            fetched = map quote_or_blank (words_in line c.fetched);
            weights = map weight_or_blank (words_in line c.weights);
            orders = map order_or_blank (words_in line c.orders);
            vendors = map vendor_or_blank (words_in line c.vendors);
          };
    }

-- a call that was read or not: a line of no form is malformed
abbrev pub heard_or : List ℕ → Option Call → Said
heard_or line c = formed c (heard line)

-- a call that is its verb alone
abbrev pub no_span : Span
no_span = record { at = 0; count = 0; next = 0 }

unfoldable pub plain_call : Verb → Call
plain_call v =
    record {
      verb = v;
      log = 0;
      lot = 0;
      whole = 0;
      symbol = 0;
      amount = zero64;
      second = zero64;
      is_buy = false;
      order = blank_order;
      room = 0;
      costs = no_span;
      first = no_span;
      fetched = no_span;
      weights = no_span;
      orders = no_span;
      vendors = no_span;
    }
