-- Deletion: document 01, section 3. Definitions only.
use Rattle.std.specs.Prelude.{ℕ, ◌+◌, ◌-◌, Bool, List, take, ◌==◌}
use Rattle.lists.specs.Lists.{over, without, first_from, given}
use Rattle.market.specs.Faults.{unless_drawn}
use Rattle.market.specs.declared.fault.After.{After}
use Rattle.exchange.specs.State.{broken_fault, resting_of}
use Rattle.exchange.specs.declared.state.Booked.{Booked}
use Rattle.exchange.specs.declared.state.Counts.{Counts}
use Rattle.exchange.specs.declared.state.UistV1.{UistV1}

abbrev pub has_number : ℕ → Booked → Bool
has_number n b = b.id == n

-- the counts with one resting order less
abbrev pub rests_one_less : Counts → Counts
rests_one_less c = record { resting = c.resting - 1; waits = c.waits; ids = c.ids; taken = c.taken; logged = c.logged; room = c.room }

-- a book without the order at a place among the first n; the orders behind it keep their order
abbrev pub moved_of : List Booked → ℕ → ℕ → List Booked
moved_of book i n = over (without (take n book) i) book

-- the state without the resting order at a place; the orders behind it keep their order
unfoldable pub removed_of : UistV1 → ℕ → UistV1
removed_of e i =
    record {
      book = moved_of e.book i (e.counts.resting + e.counts.waits);
      counts = rests_one_less e.counts;
    }

-- 16; else the resting order of that number leaves the book. Deleting an unknown or waiting order does nothing
unfoldable pub delete_of : UistV1 → ℕ → After UistV1
delete_of e n =
    let m = broken_fault e.counts in
    record { state = unless_drawn m (given (first_from 0 (has_number n) (resting_of e)) e (removed_of e)) e; fault = m }
