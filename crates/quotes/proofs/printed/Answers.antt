-- the text of the rows, or the number that is drawn
use Rattle.quotes.proofs.Printing.{rows-printed, number-printed}
use Rattle.quotes.proofs.printed.Goals as goal

pub returns-in-Ok-clause-out_after : goal.returns-in-Ok-clause-out_after
returns-in-Ok-clause-out_after c =
    (rows-printed c.args.input.now c.read_on-x.result c.args.out.now _ c.read_on-x.ensures c.in-Ok.n _ _ c.requires c.in-Ok.is c.write_on.ensures c.unwrap_or.ensures).1

pub returns-in-Err-clause-out_after : goal.returns-in-Err-clause-out_after
returns-in-Err-clause-out_after c =
    (number-printed c.args.input.now c.read_on-x.result c.args.out.now _ c.read_on-x.ensures c.in-Err.fault _ _ c.in-Err.is c.number.ensures c.put_number.ensures).1
