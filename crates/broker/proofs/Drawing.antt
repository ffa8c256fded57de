-- The symbols for which a call that asks about one draws nothing. Assumes nothing.
use Prim.Native.Nat.{ℕ, ◌<◌}
use native.Mathlib.Omega.{arith}
use mathlib.Core.Path.{◌≡◌}
use borrow.Author.Tests.{ltb-false}
use Rattle.std.specs.declared.option.Option.TheVariants.{None}
use Rattle.market.specs.declared.fault.Fault.TheVariants.{UnknownSymbol, Unsound}
use Rattle.market.proofs.Faults.{none-drawn}
use Rattle.broker.specs.Read.{symbol_fault}
use Rattle.broker.specs.declared.state.UistBroker.{UistBroker}

-- where it draws nothing, the symbol has a place in the arrays
pub symbol-within : (b : UistBroker) (s : ℕ) → symbol_fault b s ≡ None → s < 256
unfolding symbol_fault
symbol-within b s e =
    let a = none-drawn _ Unsound _ e in
    let high = none-drawn _ UnknownSymbol _ a.1 in
    let x = ltb-false 255 s high.0 in
    omega arith
