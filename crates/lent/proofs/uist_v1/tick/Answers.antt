-- a tick on a lent log: the tick by value, and its trades stored in the log
use Rattle.std.proofs.Common.{◌≡◌, ◌∙◌, ap, sym, subst, length, List, arith}
use lib.ListN.{length-take}
use Rattle.market.specs.Quotes.{table_of}
use Rattle.market.specs.declared.quote.Quote.{Quote}
use Rattle.market.specs.declared.table.Table.{Table}
use Rattle.market.specs.declared.trade.Trade.{Trade}
use Rattle.exchange.specs.Tick.{tick_for_of}
use Rattle.exchange.specs.declared.state.UistV1.{UistV1}
use Rattle.exchange.specs.declared.tick.Ticked.{Ticked}
use Rattle.exchange.proofs.LentTicks.{TickFor, tick-for as tick_is}
use Rattle.lent.proofs.uist_v1.tick.Goals as goal

-- what the tick answers, where the table is that of the rows
for-log : (e : UistV1) (rows : List Quote) (log : List Trade) {t : Table} {x : Ticked} → t ≡ table_of rows → x ≡ tick_for_of e t (length log) → TickFor e rows log x
for-log e rows log read is = subst (TickFor e rows log) (sym (is ∙ ap (λ k. tick_for_of e k (length log)) read)) (tick_is e rows log)

pub shared_ref_as_front-store : goal.shared_ref_as_front-store
shared_ref_as_front-store c = (for-log c.args.exchange c.args.quotes.now c.args.log.now c.of-t.ensures c.tick_for-ticked.ensures).few

pub store-requires : goal.store-requires
store-requires c =
    let f = for-log c.args.exchange c.args.quotes.now c.args.log.now c.of-t.ensures c.tick_for-ticked.ensures in
    omega (arith, f.fits, length-take c.tick_for-ticked.result.count c.tick_for-ticked.result.trades)

pub returns : goal.returns
returns c =
    let f = for-log c.args.exchange c.args.quotes.now c.args.log.now c.of-t.ensures c.tick_for-ticked.ensures in
    (c.answer.ensures ∙ f.answer, c.store.ensures ∙ f.log_is)
