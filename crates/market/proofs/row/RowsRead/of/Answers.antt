-- `RowsRead::of` goes on while a row draws nothing, and stops at the first that draws.
use mathlib.Core.Path.{◌≡◌, sym, ap, subst, ◌∙◌}
use Prim.Native.Nat.{ℕ, ◌+◌, ◌<◌}
use native.Mathlib.Omega.{arith}
use lib.ListN.{length, take}
use Rattle.market.specs.Faults.{drawn}
use Rattle.market.specs.Rows.{Ascends}
use Rattle.market.specs.Reading.{tests_by}
use Rattle.market.proofs.Faults.{some-drawn}
use Rattle.market.proofs.Rows.{RowsAt, supplier-laws, tests-ascend, ended, goes_on, stops}
use Rattle.market.proofs.row.RowsRead.of.Goals as goal

pub returns-in-Some : goal.returns-in-Some
returns-in-Some g c =
    let laws = supplier-laws g.R.Row.symbol_of g.R.Row.sound in
    let x = c.index-rows-i.result in
    let same = c.fault.ensures ∙ ap (λ r. drawn (tests_by g.R.Row.symbol_of g.R.Row.sound c.loop-i.least r)) c.index-rows-i.is in
    let drew = sym c.in-Some.is ∙ same in
    let left = stops laws c.loop-i.invariant x c.loop-i-test.true (λ z. some-drawn _ (drew ∙ z)) in
    record { count = left.count; good = left.good; fault = drew ∙ left.fault-is }

below : (least n : ℕ) → Ascends least n → n < 256
below least n a = a.high

pub overflow_add-least : goal.overflow_add-least
overflow_add-least g c =
    let high = below _ _ (tests-ascend c.loop-i.least _ _ (sym c.fault.ensures ∙ c.in_default.is)) in
    omega (arith, high, c.symbol-least.ensures)

pub loop-i-preserved : goal.loop-i-preserved
loop-i-preserved g c =
    let laws = supplier-laws g.R.Row.symbol_of g.R.Row.sound in
    let x = c.index-rows-i.result in
    let same = c.fault.ensures ∙ ap (λ r. drawn (tests_by g.R.Row.symbol_of g.R.Row.sound c.loop-i.least r)) c.index-rows-i.is in
    let next = ap (λ r. g.R.Row.symbol_of r + 1) (sym c.index-rows-i.is) ∙ ap (λ (n : ℕ). n + 1) (sym c.symbol-least.ensures) in
    subst (λ (n : ℕ). RowsAt (tests_by g.R.Row.symbol_of g.R.Row.sound) g.R.Row.symbol_of c.args.rows.now n (c.loop-i.i + 1)) next
    (goes_on laws c.loop-i.invariant x c.loop-i-test.true (sym same ∙ c.in_default.is))

pub returns : goal.returns
returns g c =
    let left = ended (supplier-laws g.R.Row.symbol_of g.R.Row.sound) c.loop-i.invariant c.loop-i-test.false in
    let whole : c.loop-i.i ≡ length c.args.rows.now = omega (arith, c.loop-i-test.false, c.loop-i.auto.i-end) in
    record { count = sym whole ∙ left.count; good = ap (λ (n : ℕ). take n c.args.rows.now) (sym whole) ∙ left.good; fault = left.fault-is }
