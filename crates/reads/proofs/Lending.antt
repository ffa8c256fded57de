-- A lent list of which nothing is drawn is long enough. Assumes nothing.
use Rattle.std.proofs.Common.{◌≡◌, ℕ, ◌≤◌}
use Rattle.std.specs.declared.option.Option.TheVariants.{None}
use borrow.Author.Tests.{ltb-false}
use Rattle.market.specs.declared.fault.Fault.TheVariants.{ListTooShort, Unsound}
use Rattle.market.proofs.Faults.{none-drawn}
use Rattle.broker.specs.Lender.{broken}
use Rattle.broker.specs.declared.state.UistBroker.{UistBroker}
use Rattle.reads.specs.Answers.{list_fault}

pub fits_lent : (b : UistBroker) (count room : ℕ) → list_fault b count room ≡ None → count ≤ room
unfolding list_fault
fits_lent b count room z = ltb-false room count (none-drawn _ ListTooShort _ (none-drawn (broken b) Unsound _ z).1).0
