-- `merged` meets its contract: each row that the closure makes is that of its symbol.
use Rattle.std.proofs.Common.{rules, ◌≡◌, length, get_or}
use Rattle.std.specs.declared.option.Option.TheVariants.{None}
use Rattle.std.specs.Option.{option_or}
use Rattle.portfolio.proofs.Settling.{made, merged}
use Rattle.portfolio.proofs.booking.merged.Goals as goal

pub returns : goal.returns
returns c =
    let wide : length c.args.latest.now ≡ 256 = search rules in
    let items = c.from_fn.ensures.items in
    merged c.args.fetched.now.rows c.args.latest.now c.from_fn.result wide items.long
    (λ j h. made _ (λ s. option_or (get_or c.args.fetched.now.rows s None) (get_or c.args.latest.now s None)) _ _ (λ s r q h k. search rules) items j None h)
