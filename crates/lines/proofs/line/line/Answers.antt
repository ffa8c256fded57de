-- `line` meets its contract: the row of its fields is that of the line. Assumes nothing.
use mir.Syntax.{w64}
use mir.Val.{SFits}
use mir.Facts.{to_z-of_z}
use borrow.Author.Rules.{rules}
use mathlib.Core.Path.{◌∙◌}
use Rattle.lines.proofs.Fields.{line-row, no-symbol, no_date, no_bid, no_ask, is-row}
use Rattle.lines.proofs.line.line.Goals as goal

pub returns-in_err-symbol : goal.returns-in_err-symbol
returns-in_err-symbol c = c.from_residual.ensures ∙ no-symbol _ _ _ _ c.in_err-symbol.ensures ∙ line-row c.args.s.now c.field.ensures.first c.field.ensures.rest c.field-2.ensures.first c.field-2.ensures.rest c.field-3.ensures.first c.field-3.ensures.rest

pub returns-in_err-date : goal.returns-in_err-date
returns-in_err-date c = c.from_residual-in_err-date.ensures ∙ no_date _ _ _ _ c.in_err-date.ensures ∙ line-row c.args.s.now c.field.ensures.first c.field.ensures.rest c.field-2.ensures.first c.field-2.ensures.rest c.field-3.ensures.first c.field-3.ensures.rest

pub returns-in_err-bid : goal.returns-in_err-bid
returns-in_err-bid c = c.from_residual-in_err-bid.ensures ∙ no_bid _ _ _ _ c.in_err-bid.ensures ∙ line-row c.args.s.now c.field.ensures.first c.field.ensures.rest c.field-2.ensures.first c.field-2.ensures.rest c.field-3.ensures.first c.field-3.ensures.rest

pub returns-in_err-ask : goal.returns-in_err-ask
returns-in_err-ask c = c.from_residual-in_err-ask.ensures ∙ no_ask _ _ _ _ c.in_err-ask.ensures ∙ line-row c.args.s.now c.field.ensures.first c.field.ensures.rest c.field-2.ensures.first c.field-2.ensures.rest c.field-3.ensures.first c.field-3.ensures.rest

pub returns : goal.returns
returns c = let fits : SFits w64 c.in_ok-date.date = search rules in
    rw (c.capped.ensures, to_z-of_z fits) (is-row c.in_ok-symbol.ensures c.in_ok-date.ensures c.in_ok-bid.ensures c.in_ok-ask.ensures) ∙ line-row c.args.s.now c.field.ensures.first c.field.ensures.rest c.field-2.ensures.first c.field-2.ensures.rest c.field-3.ensures.first c.field-3.ensures.rest
