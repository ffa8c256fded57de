-- What the cases start from, and what they look at. Definitions only.
use Rattle.std.specs.Prelude.{ℕ, false, true, cond, List, [], ◌∷◌, eqb, ℤ, pos, Float}
use Rattle.std.specs.Prelude.{Option, None, Some}
use Rattle.std.specs.Float.Ieee as Ieee
use Rattle.std.specs.Float.{fin, binary64}
use Rattle.market.specs.Faults.{number_drawn}
use Rattle.market.specs.Quotes.{row_for}
use Rattle.market.specs.declared.order.Order.{Order}
use Rattle.market.specs.declared.quote.Quote.{Quote}
use Rattle.market.specs.declared.trade.Trade.{Trade}
use Rattle.market.specs.declared.trade.TradeType.{TradeType}
use Rattle.costs.specs.declared.BrokerCost.{BrokerCost}
use Rattle.orders.specs.Orders.{no_orders}
use Rattle.rules.specs.Money.{Money}
use Rattle.rules.specs.Weights.{Plan}
use Rattle.ledger.specs.Calls.{Answer, fault, deposited, withdrawn, refused, event, events, traded, updated}
use Rattle.ledger.specs.Ledger.{Ledger}

-- ---- figures: the binary64 nearest to n / d, and to -n / d

abbrev pub ratio : ℕ → ℕ → Float
ratio n d = Ieee.round binary64 false n d

abbrev pub negative : ℕ → ℕ → Float
negative n d = Ieee.round binary64 true n d

-- 9,007,199,254,740,992, 2 to the 53rd, from where on the floats are the even numbers, and the next one. A sum that lies half way between two of them is
-- the one whose half is even: 1 more than `even` is `even`, 1 more than `even+2` is the one after it
abbrev pub even : Float
even = fin false 1 (pos 53)

abbrev pub even+2 : Float
even+2 = fin false 4503599627370497 (pos 1)

-- ---- quotes and trades with a date

abbrev pub dated : ℕ → Float → Float → ℤ → Quote
dated s bid ask date = record { symbol = s; bid = bid; ask = ask; date = date }

abbrev pub trade_at : TradeType → ℕ → Float → Float → ℤ → Trade
trade_at k s quantity value date = record { symbol = s; typ = k; value = value; quantity = quantity; date = date }

-- ---- money: these costs, latest quotes, cash, holdings and pending quantities; lot 1, Ready

abbrev pub entries : List (ℕ × Float) → ℕ → Option Float
entries [] n = None
entries (e ∷ l) n = cond (eqb n e.0) (Some e.1) (entries l n)

abbrev pub having : List BrokerCost → List Quote → Float → List (ℕ × Float) → List (ℕ × Float) → Money
having costs quotes cash held pending =
    record { costs = costs; lot = 1; latest = row_for quotes; failed = false; cash = cash; held = entries held; pending = entries pending }

-- the same with another lot
abbrev pub in_lots : ℕ → Money → Money
in_lots lot m =
    record { costs = m.costs; lot = lot; latest = m.latest; failed = m.failed; cash = m.cash; held = m.held; pending = m.pending }

-- the plain ledger with this money, for a log of 8 rows, no order taken yet
abbrev pub holding : Money → Ledger
holding m = record { room = 8; money = m; orders = no_orders }

-- ---- the numbers that are drawn, 0 where none is

-- a plan by its number and its orders
abbrev pub plan_told : Plan → ℕ × List Order
plan_told p = (number_drawn p.fault, p.orders)

-- the number that an answer tells
abbrev pub number_told : Answer → ℕ
number_told (fault d) = number_drawn d
number_told (deposited a) = 0
number_told (withdrawn a) = 0
number_told (refused d a) = number_drawn d
number_told (event e) = number_drawn e.fault
number_told (events d l) = number_drawn d
number_told (traded d n) = number_drawn d
number_told (updated d total n l) = number_drawn d

-- an answer, with its number
abbrev pub numbered : Answer → Answer × ℕ
numbered a = (a, number_told a)
