-- `listed` meets its contract: the rows so far stand in the first places.
use mathlib.Core.Path.{◌≡◌}
use lib.ListN.{length, take, replicate}
use Rattle.lists.specs.Lists.{over}
use Rattle.market.specs.Quotes.{blank_quote}
use Rattle.corrections.proofs.Listing.{quotes}
use Rattle.corrections.proofs.newest.listed.Given as goal

abbrev pub invariant-loop-n : goal.invariant-loop-n
invariant-loop-n l = (length l.rows ≡ 257) × (l.rows ≡ over (take (length l.yielded) (quotes l.kept)) (replicate 257 blank_quote))
