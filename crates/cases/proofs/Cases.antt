-- The worked cases, proved by computing. Assumes nothing.
use Rattle.std.proofs.Common.{rules}
use lib.Ieee as Ieee
use Rattle.floats.specs.Lots.{lot_of, lot_shares}
use Rattle.floats.specs.Whole.{floor_of, ceil_of}
use Rattle.market.specs.Faults.{drawn}
use Rattle.market.specs.Quotes.{empty_table, table_of}
use Rattle.market.specs.Rows.{good_rows}
use Rattle.market.specs.Trades.{trade_on}
use Rattle.costs.specs.Costs.{trade_impact, trade_impact_total, calc, trade_costs}
use Rattle.costs.specs.Kept.{costs_of, no_costs, with_cost}
use Rattle.rules.specs.Money.{fetched, settled, expected, failed_if}
use Rattle.rules.specs.Values.{symbols, total_value, liquidation_value}
use Rattle.rules.specs.Liquidation.{sales_from, sales_for, debited_by}
use Rattle.rules.specs.Weights.{shares_for, order_for, wanted, plan_of}
use Rattle.rules.specs.Basis.{basis_step, cost_basis}
use Rattle.turnover.specs.Turnover.{turnover}
use Rattle.corrections.specs.Corrections.{newer, corrected_of, alike, correct_fault, rows_shown}
use Rattle.ledger.specs.Ledger.{start, send_event, send_events, insert_event, inserting, rescuing, call_tests, acting, step, answer_as, run, answers}
use Rattle.ledger.specs.Ledger as Ledger
use Rattle.ledger.specs.Examples.{AllHold}
use Rattle.cases.specs.Figures.{figures}
use Rattle.cases.specs.Tables.{tables}
use Rattle.cases.specs.Trading.{trading}
use Rattle.cases.specs.Sending.{sending}
use Rattle.cases.specs.Booking.{booking, valuing, folding}
use Rattle.cases.specs.Liquidating.{liquidating}
use Rattle.cases.specs.Checking.{checking}
use Rattle.cases.specs.Weighing.{weighing}
use Rattle.cases.specs.Lots.{lots}
use Rattle.cases.specs.Turnovers.{turnovers}
use Rattle.cases.specs.Corrected.{corrected}
use Rattle.cases.specs.Cases.{Cases}

figures-hold : AllHold figures
unfolding Ieee.of_int Ieee.sub Ieee.mul Ieee.of_bits floor_of ceil_of drawn trade_impact trade_impact_total calc trade_costs costs_of no_costs with_cost
figures-hold = search rules

tables-hold : AllHold tables
unfolding Ieee.le Ieee.of_int Ieee.of_bits drawn table_of good_rows empty_table
tables-hold = search rules

trading-hold : AllHold trading
unfolding Ieee.le Ieee.of_int Ieee.mul trade_on
trading-hold = search rules

sending-hold : AllHold sending
unfolding Ieee.le Ieee.of_int Ieee.sub Ieee.mul Ieee.of_bits drawn expected failed_if insert_event
sending-hold = search rules

booking-hold : AllHold booking
unfolding Ieee.le Ieee.of_int Ieee.sub Ieee.of_bits settled fetched
booking-hold = search rules

valuing-hold : AllHold valuing
unfolding Ieee.of_int Ieee.sub Ieee.mul Ieee.of_bits trade_impact trade_impact_total symbols total_value liquidation_value
valuing-hold = search rules

folding-hold : AllHold folding
unfolding Ieee.le Ieee.of_int Ieee.sub Ieee.div Ieee.of_bits basis_step cost_basis
folding-hold = search rules

liquidating-hold : AllHold liquidating
unfolding Ieee.le Ieee.of_int Ieee.sub Ieee.mul Ieee.div Ieee.of_bits ceil_of drawn trade_impact trade_impact_total symbols liquidation_value expected sales_from sales_for debited_by send_event Ledger.sending Ledger.liquidating call_tests acting step answer_as
liquidating-hold = search rules

checking-hold : AllHold checking
unfolding Ieee.le Ieee.of_int Ieee.sub Ieee.mul Ieee.div Ieee.of_bits ceil_of drawn trade_on trade_impact_total symbols liquidation_value settled fetched expected failed_if sales_from sales_for debited_by start send_event Ledger.sending insert_event inserting Ledger.liquidating rescuing Ledger.checking call_tests acting step answer_as run answers
checking-hold = search rules

weighing-hold : AllHold weighing
unfolding Ieee.le Ieee.of_int Ieee.sub Ieee.mul Ieee.div Ieee.of_bits floor_of lot_shares drawn trade_impact trade_impact_total symbols total_value liquidation_value fetched expected shares_for order_for wanted plan_of send_event Ledger.sending send_events rescuing Ledger.checking call_tests answer_as
weighing-hold = search rules

lots-hold : AllHold lots
unfolding Ieee.le Ieee.of_int Ieee.sub Ieee.mul Ieee.div Ieee.of_bits floor_of ceil_of lot_of lot_shares drawn trade_on trade_impact trade_impact_total symbols total_value liquidation_value fetched settled expected failed_if sales_from sales_for shares_for order_for wanted plan_of start send_event Ledger.sending send_events rescuing Ledger.checking call_tests acting step answer_as run
lots-hold = search rules

turnovers-hold : AllHold turnovers
unfolding Ieee.lt Ieee.add Ieee.of_int Ieee.of_bits turnover
turnovers-hold = search rules

corrected-hold : AllHold corrected
unfolding Ieee.lt Ieee.of_int Ieee.of_bits drawn newer corrected_of alike correct_fault rows_shown
corrected-hold = search rules

pub cases : Cases
cases = (figures-hold, tables-hold, trading-hold, sending-hold, booking-hold, valuing-hold, folding-hold, liquidating-hold, checking-hold, weighing-hold, lots-hold, turnovers-hold, corrected-hold)
