-- `wanted_orders` meets its contract: the orders so far, and those of the weights that are left, are the whole walk.
use mathlib.Core.Path.{refl, ap, sym, ◌∙◌}
use native.Mathlib.Omega.{arith}
use lib.ListN.{get_or}
use Rattle.market.proofs.Weights.{no_weight}
use Rattle.std.specs.declared.option.Option.TheVariants.{None, Some}
use Rattle.lists.specs.Lists.{holds}
use Rattle.portfolio.specs.Lists.{listed_in}
use Rattle.portfolio.proofs.Weighing.{walk-starts, walk_end, walk-stops, walk-breaks, walk-lists-none, walk-lists, zero-read, unquoted-read, quoted-read}
use Rattle.portfolio.proofs.Symbols.{worth}
use Rattle.portfolio.proofs.state.Portfolio.wanted_orders.Goals as goal
use Rattle.portfolio.proofs.state.Portfolio.wanted_orders.Goals.{in-Some-order_for, in_default-order_for}

pub loop-w-init : goal.loop-w-init
loop-w-init c = walk-starts _ _ _ _ c.none-list.ensures

pub loop-w-preserved-in_default : goal.loop-w-preserved-in_default
loop-w-preserved-in_default c =
    let v = worth _ _ _ c.unwrap_or-value.ensures c.value_of.ensures in
    let w = get_or c.args.rows.now c.loop-w.w-index no_weight in
    walk-lists-none c.loop-w.invariant c.loop-w-test.true (zero-read c.args.self.now c.args.total w _ _ v c.if-difference.false) _
    (unquoted-read c.args.self.now c.args.total w _ v (sym c.in_default.is ∙ c.row.ensures)) refl

pub returns-in_err-shares : goal.returns-in_err-shares
returns-in_err-shares c =
    let v = worth _ _ _ c.unwrap_or-value.ensures c.value_of.ensures in
    let w = get_or c.args.rows.now c.loop-w.w-index no_weight in
    ap listed_in c.from_residual.ensures
    ∙ walk-breaks c.loop-w.invariant c.loop-w-test.true (zero-read c.args.self.now c.args.total w _ _ v c.if-difference.false)
    (quoted-read c.args.self.now c.args.total w _ _ None v (sym c.in-Some.is ∙ c.row.ensures) (sym c.in_err-shares.was ∙ c.shares_for.ensures))

pub loop-w-preserved : goal.loop-w-preserved
loop-w-preserved c =
    let v = worth _ _ _ c.unwrap_or-value.ensures c.value_of.ensures in
    let w = get_or c.args.rows.now c.loop-w.w-index no_weight in
    let here = zero-read c.args.self.now c.args.total w _ _ v c.if-difference.false in
    let row = quoted-read c.args.self.now c.args.total w _ _ (Some c.in_ok-shares.shares) v (sym c.in-Some.is ∙ c.row.ensures) (sym c.in_ok-shares.was ∙ c.shares_for.ensures) in
    elim c.match-order_for.branch [
      | in-Some-order_for b ↦ walk-lists c.loop-w.invariant c.loop-w-test.true here _ (omega (arith, c.loop-w-test.true, c.requires)) b.in-Some-order_for.order
          (ap Some (ap holds (sym b.in-Some-order_for.is) ∙ c.order_for.ensures) ∙ row) (b.list-is ∙ b.push.ensures)
      | in_default-order_for b ↦ walk-lists-none c.loop-w.invariant c.loop-w-test.true here _
          (ap Some (ap holds (sym b.in_default-order_for.is) ∙ c.order_for.ensures) ∙ row) b.list-is
    ]

pub returns-after-loop-w : goal.returns-after-loop-w
returns-after-loop-w c = walk_end c.loop-w.invariant c.loop-w-test.false

pub returns-then-difference : goal.returns-then-difference
returns-then-difference c =
    walk-stops c.loop-w.invariant c.loop-w-test.true
    (zero-read c.args.self.now c.args.total (get_or c.args.rows.now c.loop-w.w-index no_weight) _ _ (worth _ _ _ c.unwrap_or-value.ensures c.value_of.ensures) c.if-difference.true)
