-- reading on takes no line, so that their number stays
use Rattle.std.proofs.Common.{◌≡◌}
use Rattle.text.proofs.input.Lines.wait.Given as goal

abbrev pub invariant-loop : goal.invariant-loop
invariant-loop g l = l.self.input.number ≡ l.fn.self.input.number
