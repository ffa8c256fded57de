-- What a read to a lent list answers, and what the list holds after it. Definitions only.
use Rattle.std.specs.Prelude.{ℕ, ◌≡◌, List, length, Option, Result}
use Rattle.lists.specs.Lists.{over}
use Rattle.market.specs.Faults.{drawn, unless_drawn, ok_unless}
use Rattle.market.specs.declared.fault.Fault.{Fault}
use Rattle.broker.specs.declared.state.UistBroker.{UistBroker}
use Rattle.broker.specs.Lender.{lender_tests}

-- 16, then 15 where a list of `room` entries is lent for `count` rows
unfoldable pub list_fault : UistBroker → ℕ → ℕ → Option Fault
list_fault b count room = drawn (lender_tests b count room)

-- how many rows are written, or what is drawn
unfoldable pub read_of : UistBroker → ℕ → ℕ → Result ℕ Fault
read_of b count room = ok_unless (list_fault b count room) count

-- a read of `rows` to the list l; `after` is the list at exit: the rows stand in its first places, its old entries past them, and where something is drawn
-- the list is as it was
pub record AnswersList {A : Type 0} (b : UistBroker) (rows l : List A) (r : Result ℕ Fault) (after : List A) : Type 0 where
  pub read : r ≡ read_of b (length rows) (length l)
  pub list-is : after ≡ unless_drawn (list_fault b (length rows) (length l)) (over rows l) l
