-- `sell_positions` meets its contract: the orders so far, then those of the walk over the symbols that are left, are those of the whole walk.
use mathlib.Core.Path.{ap, ◌∙◌}
use native.Mathlib.Omega.{arith}
use Rattle.rules.specs.Liquidation.{last_sale}
use Rattle.portfolio.specs.Liquidate.{part_in}
use Rattle.portfolio.proofs.Symbols.{worth}
use Rattle.portfolio.proofs.Selling.{is-held, not-held, selling-starts, selling-ends, passes, sells, stops, sold-last, sold-whole}
use Rattle.portfolio.proofs.liquidate.sell_positions.Goals as goal
use Rattle.portfolio.proofs.liquidate.sell_positions.Goals.{then-holding+else-not-value-rest, else-holding, then-symbol-gt255, else-symbol-gt255+then-holding+then-not-value-rest}

pub loop-symbol-init : goal.loop-symbol-init
loop-symbol-init c = selling-starts _ _ _ c.none-list.ensures

pub loop-symbol-preserved : goal.loop-symbol-preserved
loop-symbol-preserved c =
    elim c.if-holding.branch [
      | then-holding+else-not-value-rest w ↦ sells c.loop-symbol.invariant (omega (arith, c.if-symbol-gt255.false)) c.holding_of-holding.result w.unwrap_or-value.result w.market_sell.result
          c.holding_of-holding.ensures (is-held _ w.if-holding.true) (worth _ _ _ w.unwrap_or-value.ensures w.value_of.ensures) w.if-not-value-rest.false w.market_sell.ensures _ _ (w.list-is ∙ w.push.ensures) w.rest-is
      | else-holding w ↦ passes c.loop-symbol.invariant (omega (arith, c.if-symbol-gt255.false)) c.holding_of-holding.result c.holding_of-holding.ensures (not-held _ w.if-holding.false) _ _ w.list-is w.rest-is
    ]

pub returns-in-Some : goal.returns-in-Some
returns-in-Some c = sold-last (elim c.if-symbol-gt255.branch [
  | then-symbol-gt255 w ↦ selling-ends c.loop-symbol.invariant c.if-symbol-gt255.part (omega (arith, w.if-symbol-gt255.true)) w.part-is
  | else-symbol-gt255+then-holding+then-not-value-rest w ↦ stops c.loop-symbol.invariant (omega (arith, w.if-symbol-gt255.false)) w.holding_of-holding.result w.unwrap_or-value.result c.if-symbol-gt255.part
      w.holding_of-holding.ensures (is-held _ w.if-holding.true) (worth _ _ _ w.unwrap_or-value.ensures w.value_of.ensures) w.if-not-value-rest.true
      (ap part_in w.part-is ∙ w.last_sale-part.ensures ∙ ap (λ q. last_sale q c.loop-symbol.symbol c.loop-symbol.rest) w.row.ensures)
]) _ c.in-Some.is _ c.push-in-Some.ensures

pub returns-in_default : goal.returns-in_default
returns-in_default c = sold-whole (elim c.if-symbol-gt255.branch [
  | then-symbol-gt255 w ↦ selling-ends c.loop-symbol.invariant c.if-symbol-gt255.part (omega (arith, w.if-symbol-gt255.true)) w.part-is
  | else-symbol-gt255+then-holding+then-not-value-rest w ↦ stops c.loop-symbol.invariant (omega (arith, w.if-symbol-gt255.false)) w.holding_of-holding.result w.unwrap_or-value.result c.if-symbol-gt255.part
      w.holding_of-holding.ensures (is-held _ w.if-holding.true) (worth _ _ _ w.unwrap_or-value.ensures w.value_of.ensures) w.if-not-value-rest.true
      (ap part_in w.part-is ∙ w.last_sale-part.ensures ∙ ap (λ q. last_sale q c.loop-symbol.symbol c.loop-symbol.rest) w.row.ensures)
]) c.in_default.is
