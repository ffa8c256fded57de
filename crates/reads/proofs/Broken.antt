-- Every call on a broker that draws Unsound by itself draws it first and changes nothing; so on one whose lot is outside its range. Assumes nothing.
use Prim.Native.Nat.{ℕ}
use mathlib.Core.Bool.{Bool, true, false, not, ◌||◌}
use mathlib.Core.Path.{◌≡◌, refl, ap, ◌∙◌}
use lib.ListN.{length}
use Rattle.floats.specs.Lots.{is_lot}
use Rattle.market.specs.Faults.{drawn}
use Rattle.exchange.specs.State.{broken_of, log_differs}
use Rattle.broker.specs.Lender.{broken, broken_for}
use Rattle.broker.specs.Cash.{cash_moved, deposit_of, withdraw_of}
use Rattle.broker.specs.Liquidate.{liquidate_of}
use Rattle.broker.specs.Send.{send_of, insert_of, delete_of}
use Rattle.broker.specs.Lent.{send_list_fault, send_list_broker, send_list_events, check_for, check_broker, check_log, update_for, update_fault_of, update_broker, update_events, update_log}
use Rattle.broker.specs.Read.{symbol_fault, amounts_fault}
use Rattle.broker.specs.declared.state.UistBroker.{UistBroker}
use Rattle.lent.specs.Walks.{walk_for, walk_fault, walk_orders}
use Rattle.reads.specs.Answers.{list_fault}
use Rattle.reads.specs.Broken.{DrawsSixteen}

or-true : (a : Bool) → a || true ≡ true
or-true true = refl
or-true false = refl

module _ (b : UistBroker) (h : broken b ≡ true) where
  -- also where a log of any length is lent
  for-log : (n : ℕ) → broken_for b n ≡ true
  for-log n = ap (λ (t : Bool). log_differs b.exchange.counts n || t) h ∙ or-true (log_differs b.exchange.counts n)

  pub broken-refuses : DrawsSixteen b
  unfolding cash_moved deposit_of withdraw_of liquidate_of send_of insert_of delete_of send_list_fault send_list_broker send_list_events check_for check_broker check_log walk_for walk_fault walk_orders update_for update_fault_of update_broker update_events update_log symbol_fault amounts_fault list_fault drawn
  broken-refuses =
      record {
        deposit = λ a. rw h;
        withdraw = λ a. rw h;
        liquidate = λ a. rw h;
        send = λ o. rw h;
        insert = λ o. rw h;
        delete = λ n. rw h;
        send-list = λ l e. (rw h, rw h, rw h);
        check = λ t f log. (rw (for-log (length log)), rw (for-log (length log)), rw (for-log (length log)));
        walk = λ w o. (rw h, rw h);
        update = λ t f w e log. (rw (for-log (length log)), rw (for-log (length log)), rw (for-log (length log)), rw (for-log (length log)));
        read = rw h;
        read-symbol = λ s. rw h;
        read-amounts = λ x y. rw h;
        turnover = λ log. rw (for-log (length log));
        basis = λ log s. rw (for-log (length log));
        read-list = λ count room. rw h;
      }

-- a lot that somebody made up
pub lot-refuses-all : (b : UistBroker) → is_lot b.portfolio.lot ≡ false → DrawsSixteen b
lot-refuses-all b e = broken-refuses b (ap (λ (t : Bool). broken_of b.exchange.counts || not t) e ∙ or-true (broken_of b.exchange.counts))
