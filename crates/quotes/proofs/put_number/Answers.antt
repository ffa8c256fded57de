-- the digits are put, and a newline stands behind them
use Rattle.std.proofs.Common.{rules, ◌≡◌, length}
use Rattle.quotes.proofs.Printing.{line-put}
use Rattle.quotes.proofs.put_number.Goals as goal

pub returns : goal.returns
returns c =
    let long : length c.decimal_text-text.result.bytes ≡ 20 = search rules in
    line-put c.args.n c.decimal_text-text.result c.args.out.now c.copy_from_slice.new.self c.decimal_text-text.ensures long c.requires c.copy_from_slice.ensures.after
