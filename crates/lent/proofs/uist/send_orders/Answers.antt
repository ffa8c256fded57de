-- the first i orders are sent, and their events told
use Rattle.std.proofs.Common.{sym, ◌∙◌}
use Rattle.broker.specs.Send.{sent_with}
use Rattle.lent.proofs.Sends.{sends_none, sends-one, send-answers, send-refused}
use Rattle.lent.proofs.uist.send_orders.Goals as goal

pub returns-in-Some : goal.returns-in-Some
returns-in-Some c = send-refused c.args.broker c.args.orders.now c.args.events.now c.in-Some.fault (sym c.lender_fault.ensures ∙ c.in-Some.is)

pub loop-i-init : goal.loop-i-init
loop-i-init c = sends_none c.args.broker c.args.orders.now c.args.events.now (sym c.lender_fault.ensures ∙ c.in_default.is)

pub loop-i-preserved : goal.loop-i-preserved
loop-i-preserved c = sends-one c.args.broker c.args.orders.now c.args.events.now c.loop-i.invariant c.loop-i-test.true _ (sent_with c.send_in_place.new.self c.send_in_place.result) c.send_in_place.ensures

pub returns : goal.returns
returns c = send-answers c.args.broker c.args.orders.now c.args.events.now c.loop-i.invariant c.loop-i-test.false
