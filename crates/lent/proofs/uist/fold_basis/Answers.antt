-- the basis so far is the one over the trades so far
use Rattle.std.proofs.Common.{◌≡◌, [], ◌∷◌, rules, subst}
use mathlib.Core.List.{List, foldl-append}
use Rattle.std.proofs.lemmas.Fn.{fold_over, slice_gives, fronts}
use Rattle.market.specs.declared.trade.Trade.{Trade}
use Rattle.portfolio.specs.declared.basis.Basis.{Basis}
use Rattle.rules.specs.Basis.{basis_step}
use Rattle.portfolio.specs.Basis.{basis_in, no_basis}
use Rattle.lent.specs.Logs.{basis_over}
use Rattle.lent.proofs.uist.fold_basis.Goals as goal

pub returns : goal.returns
returns c =
    subst (λ l. basis_in c.fold.result ≡ basis_over c.args.symbol l) c.iter.ensures.rest
    (fold_over fronts (λ y. y.now) _ (λ (ys : List Trade) (b : Basis). basis_in b ≡ basis_over c.args.symbol ys) _
    (λ ys a x b f' j k. let more = foldl-append (basis_step c.args.symbol) no_basis ys (x.now ∷ []) in search rules)
    c.iter.result c.iter.result.rest.now c.no_basis.result c.fold.result (slice_gives c.iter.result) c.no_basis.ensures c.fold.ensures.ran)
