-- What a check leaves for an update's sends. Assumes nothing.
use Prim.Native.Nat.{ℕ}
use mathlib.Core.Bool.{Bool, true, false, cond}
use mathlib.Core.Path.{◌≡◌, refl}
use mathlib.Core.List.{List, [], ◌∷◌}
use Rattle.std.specs.declared.option.Option.{Option}
use Rattle.std.specs.declared.option.Option.TheVariants.{None, Some}
use lib.Ieee.{Float}
use Rattle.lists.specs.Lists.{given}
use Rattle.market.specs.Faults.{drawn, first_drawn}
use Rattle.market.proofs.Faults.{first-none}
use Rattle.market.specs.declared.fault.Fault.{Fault}
use Rattle.market.specs.Orders.{zero64}
use Rattle.market.specs.Quotes.{row_at}
use Rattle.market.specs.declared.order.Order.{Order}
use Rattle.market.specs.declared.table.Table.{Table}
use Rattle.rules.specs.Amounts.{below}
use Rattle.broker.specs.Lender.{broker_log_fault, short_test}
use Rattle.broker.specs.Send.{sent_all, SendsFit}
use Rattle.broker.specs.Cash.{cash_of}
use Rattle.portfolio.specs.Liquidate.{succeeds}
use Rattle.broker.specs.Liquidate.{failing, sales_of, liquidated_by}
use Rattle.broker.specs.Check.{failed_of, shortfall, rescued_by, check_fault, booked_by, checked_by}
use Rattle.broker.specs.Update.{update_fault}
use Rattle.broker.specs.declared.state.UistBroker.{UistBroker}
use Rattle.broker.specs.declared.update.Lengths.{Lengths}
use Rattle.broker.proofs.Sending.{sent-all-fits}
use Rattle.broker.proofs.Settling.{none-drew, ticked-fits}

-- ---- a shortfall's rescue keeps the counts where sends fit

either-fits : (b c : UistBroker) (t : Bool) → SendsFit b.exchange.counts → SendsFit c.exchange.counts → SendsFit (cond t b c).exchange.counts
either-fits b c true p q = p
either-fits b c false p q = q

liquidated-by : (b c : UistBroker) (s : Option (List Order)) → SendsFit b.exchange.counts → SendsFit c.exchange.counts →
    SendsFit (given s c (sent_all b)).exchange.counts
liquidated-by b c None p q = q
liquidated-by b c (Some l) p q = sent-all-fits b l p

liquidated-fits : (b : UistBroker) (a : Float) → SendsFit b.exchange.counts → SendsFit (liquidated_by b a).exchange.counts
unfolding liquidated_by
liquidated-fits b a p = liquidated-by b (failing b a) (sales_of b a) p (either-fits b _ (below (cash_of b) a) p p)

rescued-fits : (b : UistBroker) → SendsFit b.exchange.counts → SendsFit (rescued_by b).exchange.counts
unfolding rescued_by failed_of
rescued-fits b p =
    let a = shortfall b in
    let l = liquidated-fits b a p in
    either-fits _ b (below (cash_of b) zero64) (either-fits (liquidated_by b a) _ (succeeds (sales_of b a)) l l) p

-- ---- what an update draws

-- the first of three that are drawn, however they are bracketed
pub first_of : (x y z : Option Fault) → first_drawn (first_drawn x y) z ≡ first_drawn x (first_drawn y z)
first_of None y z = refl
first_of (Some f) y z = refl

-- ---- the check of an update that draws nothing

-- neither was drawn
none_first : (x y : Option Fault) → x ≡ None → y ≡ None → first_drawn x y ≡ None
none_first x y e f = rw e f

pub update-none : (b : UistBroker) (x : Lengths) (t f w : Option Fault) → update_fault b x t f w ≡ None → check_fault b x.log t f ≡ None
unfolding update_fault check_fault
update-none b x t f w z =
    let own = first-none (broker_log_fault b x.log) _ z in
    let short = first-none (drawn (short_test x.weights x.events ∷ [])) _ own.1 in
    let rows = first-none t _ short.1 in
    none_first _ _ own.0 (none_first _ _ rows.0 (first-none f w rows.1).0)

checked-fits : (b : UistBroker) (t f : Table) (n : ℕ) → check_fault b n t.fault f.fault ≡ None → SendsFit (checked_by b t f).exchange.counts
unfolding checked_by
checked-fits b t f n z =
    rescued-fits (booked_by b t f) (ticked-fits b.exchange (row_at t) (none-drew b n t.fault f.fault z).0)

-- ---- the update

-- `update-none`, by a name that an attribute can cite
pub check_draws_none : (b : UistBroker) (x : Lengths) (t f w : Option Fault) → update_fault b x t f w ≡ None → check_fault b x.log t f ≡ None
check_draws_none = update-none

-- the sends of an update that draws nothing before it acts
pub sends_fit : (b : UistBroker) (t f : Table) (x : Lengths) (w : Option Fault) → update_fault b x t.fault f.fault w ≡ None → SendsFit (checked_by b t f).exchange.counts
sends_fit b t f x w z = checked-fits b t f x.log (update-none b x t.fault f.fault w z)
