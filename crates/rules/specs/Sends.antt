-- Sends: document 01, section 4, and the sender's numbers. Definitions only.
use Rattle.std.specs.Prelude.{Bool, false, not, ◌&&◌, List, [], ◌∷◌, ◌++◌, Float}
use Rattle.std.specs.Prelude.{Option, is_none}
use Rattle.lists.specs.Lists.{given}
use Rattle.market.specs.Faults.{Test, ◌draws◌}
use Rattle.market.specs.declared.fault.Fault.TheVariants.{BrokerFailed, Unquoted, NotMarket, ExceedsCash, ExceedsHolding, ZeroShares}
use Rattle.market.specs.Orders.{order_tests, is_sell, is_market}
use Rattle.market.specs.declared.order.Order.{Order}
use Rattle.market.specs.declared.quote.Quote.{Quote}
use Rattle.rules.specs.Amounts.{times, below, at_most, is_zero}
use Rattle.rules.specs.Money.{Money}

-- a buy passes if cash > shares × ask
abbrev pub exceeds_cash : Float → Order → Option Quote → Bool
exceeds_cash cash o quote = not (is_sell o.kind) && given quote false (λ q. not (below (times o.shares q.ask) cash))

-- a sale of a held symbol passes if holding >= shares; a sale of an unheld symbol passes
abbrev pub exceeds_holding : Order → Option Float → Bool
exceeds_holding o holding = is_sell o.kind && given holding false (λ h. not (at_most o.shares h))

-- 4 broker Failed, 5 no latest quote, 6 limit or stop, 7 cash, 8 holding, 9 zero shares; then 10 and 11
abbrev pub send_tests_at : Bool → Float → Option Quote → Option Float → Order → List Test
send_tests_at failed cash quote holding o =
    (failed draws BrokerFailed) ∷
    (is_none quote draws Unquoted) ∷
    (not (is_market o.kind) draws NotMarket) ∷
    (exceeds_cash cash o quote draws ExceedsCash) ∷
    (exceeds_holding o holding draws ExceedsHolding) ∷
    (is_zero o.shares draws ZeroShares) ∷ []

-- 1, 2, then the above, then the tests of room, 10 and 11
abbrev pub send_tests : Money → List Test → Order → List Test
send_tests m room o = order_tests o ++ send_tests_at m.failed m.cash (m.latest o.symbol) (m.held o.symbol) o ++ room
