-- The broker's lists, read to the first entries of an array of 1,024. Definitions only.
use Rattle.std.specs.Prelude.{ℕ, ◌≡◌, List, replicate, Result}
use Rattle.market.specs.Orders.{zero64}
use Rattle.market.specs.Quotes.{blank_quote}
use Rattle.market.specs.declared.fault.Fault.{Fault}
use Rattle.market.specs.declared.quote.Quote.{Quote}
use Rattle.costs.specs.declared.BrokerCost.TheVariants.{Flat}
use Rattle.costs.specs.declared.BrokerCost.{BrokerCost}
use Rattle.broker.specs.declared.state.UistBroker.{UistBroker}
use Rattle.reads.specs.Answers.{AnswersList}
use Rattle.reads.specs.declared.collected.Holding.{Holding}
use Rattle.arrays.specs.Arrays.{lent_of, past_lent}

-- the first entries, as many as are said, are the lent list; past them the array stays as it was, `blank`
pub record ReadOn {A : Type 0} (b : UistBroker) (rows : List A) (room : ℕ) (blank : List A) (r : Result ℕ Fault) (after : List A) : Type 0 where
  pub lent : AnswersList b rows (lent_of room blank) r (lent_of room after)
  pub past : past_lent room after ≡ past_lent room blank

-- what the arrays hold before the call
unfoldable pub blank_positions : List ℕ
blank_positions = replicate 1024 0

unfoldable pub blank_holdings : List Holding
blank_holdings = replicate 1024 (record { symbol = 0; quantity = zero64 })

unfoldable pub blank_quotes : List Quote
blank_quotes = replicate 1024 blank_quote

unfoldable pub blank_costs : List BrokerCost
blank_costs = replicate 1024 (Flat zero64)
