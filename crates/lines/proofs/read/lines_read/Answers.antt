-- `lines_read` meets its contract: the rows so far and the lines that are left give what all lines give. Assumes nothing.
use Prim.Native.Nat.{ℕ, ◌+◌, ◌≤◌}
use mathlib.Core.Path.{◌≡◌, sym, subst, ◌∙◌}
use mathlib.Core.List.{◌∷◌}
use native.Mathlib.Omega.{arith}
use lib.ListN.{length, set, drop, drop_of_length-le}
use Rattle.std.proofs.Common.{rules}
use Rattle.std.proofs.lemmas.Iterator.Consumers.{YieldsList-at, YieldsList-turn, YieldsList-end}
use Rattle.std.proofs.lemmas.List.{length_push}
use Rattle.std.specs.declared.option.Option.TheVariants.{None}
use Rattle.std.specs.Prelude.{Err}
use Rattle.market.specs.declared.fault.Fault.TheVariants.{MalformedLine}
use Rattle.lines.specs.Reading.{lines_of}
use Rattle.lines.proofs.Lines.{lines_yielded, line_before, next_line}
use Rattle.lines.proofs.Loading.{ReadTo, refuses, ends, no-newline, nothing_said, row-stops, GoesOn, row-goes-on}
use Rattle.lines.proofs.read.lines_read.Goals as goal
use Rattle.lines.proofs.read.lines_read.Goals.{After-strip_suffix, In_default}

-- the part's line is the first that is left
next : (c : After-strip_suffix) → drop (length c.loop-part.yielded) (lines_of c.args.input.now) ≡ line_before c.strip_suffix.result ∷ drop (length c.loop-part.yielded + 1) (lines_of c.args.input.now)
next c =
    let t = YieldsList-turn (YieldsList-at c.into_iter-part-iterator.ensures.into_iter_gives (lines_yielded _ c.args.input.now c.split_inclusive-part-items.ensures.rest c.split_inclusive-part-items.ensures.closure (λ x b q k. search rules))) c.loop-part.yielded _ c.loop-part.yielded_by _ _ c.in-Some.part c.in-Some.is c.next.ensures.steps in
    next_line _ c.in-Some.part.now _ t c.strip_suffix.result c.strip_suffix.ensures.cases

pub returns-in_err-text : goal.returns-in_err-text
returns-in_err-text c =
    let e : c.from_residual.result ≡ Err MalformedLine = search rules in
    e ∙ refuses c.args.input.now MalformedLine (no-newline c.loop-part.invariant _ _ (next (goal.at.returns-in_err-text c).After-strip_suffix) c.in_err-text.ensures.ok_part)

pub returns-in_err-q : goal.returns-in_err-q
returns-in_err-q c =
    let e : c.from_residual-in_err-q.result ≡ Err MalformedLine = search rules in
    e ∙ refuses c.args.input.now MalformedLine
    (nothing_said c.loop-part.invariant _ _ (next (goal.at.returns-in_err-q c).After-strip_suffix) _ c.in_ok-text.ensures.ok_part _ c.line.ensures c.in_err-q.ensures.ok_part)

pub returns-in-Some-fault : goal.returns-in-Some-fault
returns-in-Some-fault c =
    refuses c.args.input.now c.in-Some-fault.fault
    (row-stops c.loop-part.invariant _ _ (next (goal.at.returns-in-Some-fault c).After-strip_suffix) _ c.in_ok-text.ensures.ok_part _ c.line.ensures _ c.in_ok-q.ensures.ok_part _ (sym c.in-Some-fault.is ∙ c.fault.ensures))

-- a row that draws nothing
good : (c : In_default) → (drop (length c.loop-part.yielded) (lines_of c.args.input.now) ≡ line_before c.strip_suffix.result ∷ drop (length c.loop-part.yielded + 1) (lines_of c.args.input.now)) → GoesOn c.args.input.now c.loop-part.rows c.loop-part.n c.in_ok-q.q (drop (length c.loop-part.yielded + 1) (lines_of c.args.input.now))
good c first =
    let z : c.fault.result ≡ None = search rules in
    row-goes-on c.loop-part.invariant _ _ first _ c.in_ok-text.ensures.ok_part _ c.line.ensures c.in_ok-q.q c.in_ok-q.ensures.ok_part (sym c.fault.ensures ∙ z)

pub loop-part-preserved : goal.loop-part-preserved
loop-part-preserved c =
    let g = goal.at.loop-part-preserved c in
    subst (λ (k : ℕ). ReadTo c.args.input.now (set c.loop-part.rows c.loop-part.n c.in_ok-q.q) (c.loop-part.n + 1) (c.in_ok-q.q.symbol + 1) (drop k (lines_of c.args.input.now)))
    (sym (length_push c.loop-part.yielded c.in-Some.part)) (good g.In_default (next g.After-strip_suffix)).on

pub returns : goal.returns
returns c =
    let t = YieldsList-end (YieldsList-at c.into_iter-part-iterator.ensures.into_iter_gives (lines_yielded _ c.args.input.now c.split_inclusive-part-items.ensures.rest c.split_inclusive-part-items.ensures.closure (λ x b q k. search rules))) c.loop-part.yielded _ c.loop-part.yielded_by _ _ c.in-None.is c.next.ensures.steps in
    let all : length (lines_of c.args.input.now) ≤ length c.loop-part.yielded = omega (arith, t.1) in
    ends c.loop-part.invariant (drop_of_length-le _ all)
