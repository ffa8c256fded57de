-- The cost basis of a symbol: document 01, section 4, on the program's state. Definitions only.
use Rattle.market.specs.Orders.{zero64}
use Rattle.rules.specs.Basis as Rules
use Rattle.portfolio.specs.declared.basis.Basis.{Basis}

-- what a `Basis` says
abbrev pub basis_in : Basis → Rules.Basis
basis_in b = record { quantity = b.quantity; value = b.value }

abbrev pub no_basis : Rules.Basis
no_basis = record { quantity = zero64; value = zero64 }
