-- The examples of document 01, and two of them with a lot of 5, proved by computing. Assumes nothing.
use Rattle.std.proofs.Common.{rules}
use lib.Ieee as Ieee
use Rattle.floats.specs.Lots.{lot_of, lot_shares}
use Rattle.floats.specs.Whole.{floor_of, ceil_of}
use Rattle.market.specs.Faults.{drawn}
use Rattle.market.specs.Quotes.{empty_table}
use Rattle.market.specs.Trades.{trade_on}
use Rattle.costs.specs.Costs.{trade_impact, trade_impact_total}
use Rattle.costs.specs.Kept.{costs_of, no_costs, with_cost}
use Rattle.exchange.specs.State.{fresh}
use Rattle.exchange.specs.Insert.{insert_of}
use Rattle.exchange.specs.Tick.{ticked, tick_of}
use Rattle.rules.specs.Values.{symbols, liquidation_value}
use Rattle.rules.specs.Liquidation.{sales_from, sales_for}
use Rattle.rules.specs.Weights.{shares_for, order_for, wanted, plan_of}
use Rattle.rules.specs.Basis.{basis_step, cost_basis}
use Rattle.portfolio.specs.State.{no_funds}
use Rattle.broker.specs.Send.{send_of, sent_one, event_for}
use Rattle.broker.specs.Cash.{cash_moved, withdraw_of}
use Rattle.broker.specs.Liquidate.{liquidate_of, liquidated_by}
use Rattle.ledger.specs.Examples.{Examples, LotExample}

pub examples : Examples
unfolding Ieee.le Ieee.of_int Ieee.sub Ieee.mul Ieee.div Ieee.of_bits floor_of ceil_of lot_shares drawn empty_table trade_on trade_impact trade_impact_total costs_of no_costs with_cost fresh insert_of ticked tick_of symbols liquidation_value sales_from sales_for shares_for order_for wanted plan_of basis_step cost_basis no_funds send_of sent_one event_for cash_moved withdraw_of liquidate_of liquidated_by
examples other = search rules

pub lot-example : LotExample
unfolding Ieee.le Ieee.of_int Ieee.sub Ieee.mul Ieee.div Ieee.of_bits lot_of lot_shares drawn empty_table trade_impact trade_impact_total costs_of no_costs with_cost fresh symbols liquidation_value shares_for order_for wanted plan_of no_funds
lot-example other = search rules
