-- What the lender draws at the broker, 16 and 15: document 01, "Who causes which number". Definitions only.
use Rattle.std.specs.Prelude.{ℕ, Bool, ◌||◌, List, [], ◌∷◌, ltb, length, Option}
use Rattle.market.specs.Faults.{Test, ◌draws◌, drawn}
use Rattle.market.specs.declared.fault.Fault.{Fault}
use Rattle.market.specs.declared.fault.Fault.TheVariants.{ListTooShort, Unsound}
use Rattle.market.specs.declared.trade.Trade.{Trade}
use Rattle.exchange.specs.State.{log_differs}
use Rattle.sender.specs.Sound.{broken_with}
use Rattle.broker.specs.declared.state.UistBroker.{UistBroker}

-- 16: the counts do not hold together, or the lot is outside its range
abbrev pub broken : UistBroker → Bool
broken b = broken_with b.exchange.counts b.portfolio.lot

-- 16 of a call to which the log is lent: also where its length is not that of the start
abbrev pub broken_for : UistBroker → ℕ → Bool
broken_for b n = log_differs b.exchange.counts n || broken b

abbrev pub length_test : UistBroker → ℕ → Test
length_test b n = broken_for b n draws Unsound

abbrev pub log_test : UistBroker → List Trade → Test
log_test b log = length_test b (length log)

abbrev pub broker_fault : UistBroker → Option Fault
broker_fault b = drawn ((broken b draws Unsound) ∷ [])

abbrev pub broker_log_fault : UistBroker → ℕ → Option Fault
broker_log_fault b n = drawn (length_test b n ∷ [])

-- 15: a list of `room` entries is lent for `rows` rows
abbrev pub short_test : ℕ → ℕ → Test
short_test rows room = ltb room rows draws ListTooShort

-- 16, then 15
abbrev pub lender_tests : UistBroker → ℕ → ℕ → List Test
lender_tests b rows room = (broken b draws Unsound) ∷ short_test rows room ∷ []
