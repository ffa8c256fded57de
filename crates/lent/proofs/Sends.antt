-- The loop that sends a lent list of orders: what a turn keeps, and what the call answers. Assumes nothing.
use Prim.Native.Nat.{ℕ, suc, ◌+◌, ◌<◌, ◌≤◌}
use mathlib.Core.Bool.{false}
use mathlib.Core.Path.{◌≡◌, refl, sym, ◌∙◌, ap}
use mathlib.Core.List.{List, [], ◌∷◌, ◌++◌}
use Rattle.std.specs.declared.option.Option.{Option}
use Rattle.std.specs.declared.option.Option.TheVariants.{None, Some}
use native.Mathlib.Numerals.{add-one}
use native.Mathlib.Omega.{arith}
use lib.ListN.{length, take, get_or, set, length-take}
use lib.Seq.{take-suc, take_all}
use borrow.Author.Tests.{ltb-false}
use Rattle.lists.specs.Lists.{over}
use Rattle.lists.proofs.Over.{over-more}
use Rattle.market.specs.Faults.{drawn, unless_drawn}
use Rattle.market.specs.declared.fault.Fault.{Fault}
use Rattle.market.specs.declared.fault.Fault.TheVariants.{ListTooShort, Unsound}
use Rattle.market.specs.declared.order.Order.{Order}
use Rattle.market.proofs.Faults.{none-drawn, unless-none}
use Rattle.broker.specs.Send.{event_for, sent_one, sent_all, events_of, send_of}
use Rattle.broker.specs.Lent.{send_list_fault, send_list_broker, send_list_events}
use Rattle.broker.specs.declared.state.UistBroker.{UistBroker}
use Rattle.market.specs.declared.order.OrderEvent.{OrderEvent}
use Rattle.broker.specs.declared.state.Told.{Told}
use Rattle.broker.proofs.Sending.{sent-unbroken}
use Rattle.broker.specs.Lender.{broken, lender_tests}
use Rattle.lent.specs.Answers.{AnswersSend}

-- ---- a list with one order more

events-append : (b : UistBroker) (l m : List Order) → events_of b (l ++ m) ≡ events_of b l ++ events_of (sent_all b l) m
unfolding events_of
events-append b [] m = refl
events-append b (o ∷ l) m = ap (λ (z : List OrderEvent). event_for b o ∷ z) (events-append (sent_one b o) l m)

sent-append : (b : UistBroker) (l m : List Order) → sent_all b (l ++ m) ≡ sent_all (sent_all b l) m
sent-append b [] m = refl
sent-append b (o ∷ l) m = sent-append (sent_one b o) l m

events-one : (b : UistBroker) (o : Order) → events_of b (o ∷ []) ≡ event_for b o ∷ []
unfolding events_of
events-one b o = refl

pub length-events : (b : UistBroker) (l : List Order) → length (events_of b l) ≡ length l
unfolding events_of
length-events b [] = refl
length-events b (o ∷ l) = ap suc (length-events (sent_one b o) l)

events-none : (b : UistBroker) → events_of b [] ≡ []
unfolding events_of
events-none b = refl

-- an order sent to a broker that draws no 16
module _ (b : UistBroker) (o : Order) (x : Told OrderEvent) (is : x ≡ send_of b o) (s : broken b ≡ false) where
  moved : send_of b o ≡ record { broker = sent_one b o; event = event_for b o }
  unfolding send_of
  moved = rw s

  pub moved-broker : x.broker ≡ sent_one b o
  moved-broker = ap (λ (y : Told OrderEvent). y.broker) (is ∙ moved)

  pub moved-event : x.event ≡ event_for b o
  moved-event = ap (λ (y : Told OrderEvent). y.event) (is ∙ moved)

-- ---- the loop, where nothing was drawn: after i turns the first i orders were sent, and their events stand in the first places

pub record Sends (start : UistBroker) (l : List Order) (e : List OrderEvent) (b : UistBroker) (events : List OrderEvent) (i : ℕ) : Type 0 where
  pub none : send_list_fault start l e ≡ None
  pub room : length l ≤ length e
  pub sound : broken b ≡ false
  pub broker : b ≡ sent_all start (take i l)
  pub told : events ≡ over (events_of start (take i l)) e

module _ (start : UistBroker) (l : List Order) (e : List OrderEvent) where
  -- then there is no 16, and there is a place for each event
  pub sends_none : drawn (lender_tests start (length l) (length e)) ≡ None → Sends start l e start e 0
  unfolding send_list_fault
  sends_none z =
      let p = none-drawn (broken start) Unsound _ z in
      record {
        none = z;
        room = ltb-false (length e) (length l) (none-drawn _ ListTooShort _ p.1).0;
        sound = p.0;
        broker = refl;
        told = ap (λ (k : List OrderEvent). over k e) (sym (events-none start));
      }

  pub sends-one : {b : UistBroker} {events : List OrderEvent} {i : ℕ} → Sends start l e b events i → i < length l → (d : Order) (x : Told OrderEvent) → x ≡ send_of b (get_or l i d) → Sends start l e x.broker (set events i x.event) (i + 1)
  sends-one {b} {events} {i} v h d x is =
      let o = get_or l i d in
      let long : length (events_of start (take i l)) ≡ i = length-events start (take i l) ∙ length-take i l ∙ omega arith in
      let next : take (i + 1) l ≡ take i l ++ (o ∷ []) = rw (add-one, take-suc l i d) in
      let here : x.broker ≡ sent_one b o = moved-broker b o x is v.sound in
      let event : x.event ≡ event_for (sent_all start (take i l)) o = moved-event b o x is v.sound ∙ ap (λ (k : UistBroker). event_for k o) v.broker in
      let more : events_of start (take (i + 1) l) ≡ events_of start (take i l) ++ (x.event ∷ [])
      = ap (events_of start) next ∙ events-append start (take i l) (o ∷ [])
      ∙ ap (λ (k : List OrderEvent). events_of start (take i l) ++ k) (events-one (sent_all start (take i l)) o ∙ ap (λ (k : OrderEvent). k ∷ []) (sym event)) in
      record {
        none = v.none;
        room = v.room;
        sound = rw here (sent-unbroken b o v.sound);
        broker = here ∙ ap (λ (k : UistBroker). sent_one k o) v.broker ∙ sym (ap (sent_all start) next ∙ sent-append start (take i l) (o ∷ []));
        told = ap (λ (k : List OrderEvent). set k i x.event) v.told
            ∙ over-more (events_of start (take i l)) e i x.event (sym long) (omega (arith, v.room, long))
            ∙ ap (λ (k : List OrderEvent). over k e) (sym more);
      }

  -- what the call answers after it
  pub send-answers : {b : UistBroker} {events : List OrderEvent} {i : ℕ} → Sends start l e b events i → length l ≤ i → AnswersSend start l e (record { state = b; fault = None }) events
  unfolding send_list_broker send_list_events
  send-answers {b} {events} {i} v end =
      let all : take i l ≡ l = take_all i l end in
      record {
        broker = v.broker ∙ ap (sent_all start) all ∙ unless-none _ (sent_all start l) start v.none;
        fault = sym v.none;
        events = v.told ∙ ap (λ (k : List Order). over (events_of start k) e) all ∙ unless-none _ (over (events_of start l) e) e v.none;
      }

  -- and where something was drawn
  pub send-refused : (f : Fault) → drawn (lender_tests start (length l) (length e)) ≡ Some f → AnswersSend start l e (record { state = start; fault = Some f }) e
  unfolding send_list_fault send_list_broker send_list_events
  send-refused f is =
      record {
        broker = ap (λ (k : Option Fault). unless_drawn k (sent_all start l) start) (sym is);
        fault = sym is;
        events = ap (λ (k : Option Fault). unless_drawn k (over (events_of start l) e) e) (sym is);
      }
