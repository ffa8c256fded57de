-- `kind` meets its contract: the first name that the word is has its kind. Assumes nothing.
use Rattle.std.proofs.Common.{rules, ◌≡◌, ap, sym, ◌∙◌}
use Rattle.std.specs.declared.option.Option.TheVariants.{None, Some}
use Rattle.std.specs.Prelude.{option_map}
use Rattle.std.proofs.lemmas.Iterator.{YieldsList-from_slice}
use Rattle.std.proofs.lemmas.Iterator.Search.{find_from_yields_List}
use Rattle.rows.proofs.Names.{Named, kinds, is_named, kind-is}
use Rattle.rows.proofs.kind.Goals as goal

pub returns-in_err-named : goal.returns-in_err-named
returns-in_err-named c =
    let none : c.find.result ≡ None = search rules in
    let found = find_from_yields_List (is_named c.args.s.now) _ _ c.find.result c.find.ensures.ran (YieldsList-from_slice kinds c.iter.ensures.rest) (λ x b q k. search rules) in
    c.from_residual.ensures ∙ ap (λ o. option_map (λ (e : Named). e.1) (option_map (λ y. y.now) o)) (sym none) ∙ ap (option_map (λ (e : Named). e.1)) found ∙ kind-is c.args.s.now

pub returns : goal.returns
returns c =
    let some : c.find.result ≡ Some c.in_ok-named.named = search rules in
    let found = find_from_yields_List (is_named c.args.s.now) _ _ c.find.result c.find.ensures.ran (YieldsList-from_slice kinds c.iter.ensures.rest) (λ x b q k. search rules) in
    ap (λ o. option_map (λ (e : Named). e.1) (option_map (λ y. y.now) o)) (sym some) ∙ ap (option_map (λ (e : Named). e.1)) found ∙ kind-is c.args.s.now
