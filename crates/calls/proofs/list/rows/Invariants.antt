-- `list::rows` meets its contract. The loop's invariant: the first `i` words are stored as rows, and `place` is behind them. Assumes nothing.
use mathlib.Core.List.{List}
use Prim.Native.Nat.{ℕ}
use Rattle.std.specs.Option.{unwrap_or}
use Rattle.calls.proofs.Lists.{Filled}
use Rattle.calls.proofs.list.rows.Given as goal

abbrev pub invariant-loop-i : goal.invariant-loop-i
invariant-loop-i g l = Filled (λ (w : List ℕ). unwrap_or (g.R.WordRow.row_of w) g.R.WordRow.blank_row) g.R.WordRow.blank_row g.row.N l.line l.fn.span.at l.fn.span.count l.list l.place l.i
