-- The loop that trades the resting orders. Assumes nothing.
use Rattle.std.proofs.Common.{◌≡◌, ℕ, suc, ◌+◌, ◌<◌, ◌≤◌, true, false, cond, List, [], ◌∷◌, ◌++◌, length, get_or, take, set, sym, refl, ap, ◌∙◌, append-nil, arith, length-append, length-take}
use Rattle.std.specs.declared.option.Option.{Option}
use Rattle.std.specs.declared.option.Option.TheVariants.{None, Some}
use lib.Ieee.{nan}
use Rattle.lists.specs.Lists.{over, keep, given, holds}
use Rattle.lists.proofs.Over.{over-read, over-more}
use Rattle.lists.proofs.Keep.{keep-more, keep-less, gather-more}
use Rattle.market.specs.Quotes.{row_at}
use Rattle.market.specs.declared.order.OrderType.TheVariants.{MarketSell}
use Rattle.market.specs.declared.quote.Quote.{Quote}
use Rattle.market.specs.declared.table.Table.{Table}
use Rattle.market.specs.declared.trade.Trade.{Trade}
use Rattle.exchange.specs.Tick.{no_trades, trade_at, stays, trades_of, Executed, execute_of}
use Rattle.exchange.specs.declared.state.Booked.{Booked}

-- what a read past the end of an array of booked orders gives; no code reads there
abbrev pub no_booked : Booked
no_booked = record { id = 0; order = record { kind = MarketSell; symbol = 0; shares = nan; price = None } }

-- ---- each order stays or trades

one-by : (o : Option Trade) (b : Booked) (x : List Booked) (y : List Trade) (n : ℕ) → length x + length y ≡ n →
    length (cond (given o true (λ v. false)) (b ∷ x) x) + length (holds o ++ y) ≡ suc n
one-by None b x y n e = omega arith
one-by (Some v) b x y n e = omega arith

module _ (rows : ℕ → Option Quote) where
  pub all-executed : (l : List Booked) → length (keep (stays rows) l) + length (trades_of rows l) ≡ length l
  all-executed [] = refl
  all-executed (b ∷ l) = one-by (trade_at rows b.order) b (keep (stays rows) l) (trades_of rows l) (length l) (all-executed l)

  -- no more orders stay and trade than rest
  pub few-executed : (book : List Booked) (n : ℕ) → length (keep (stays rows) (take n book)) + length (trades_of rows (take n book)) ≤ n
  few-executed book n = omega (arith, all-executed (take n book), length-take n book)

-- ---- the loop

pub record Inv (rows : ℕ → Option Quote) (resting : ℕ) (book : List Booked) (stay : List Booked) (trades : List Trade) (kept count i : ℕ) : Type 0 where
  pub within : i ≤ resting
  pub small : resting ≤ 1024
  pub long : length book ≡ 1024
  pub room : length no_trades ≡ 1024
  pub few : kept + count ≤ i
  pub left : stay ≡ over (keep (stays rows) (take i book)) book
  pub stayed : kept ≡ length (keep (stays rows) (take i book))
  pub traded : trades ≡ over (trades_of rows (take i book)) no_trades
  pub counted : count ≡ length (trades_of rows (take i book))

module _ (rows : ℕ → Option Quote) (resting : ℕ) (book stay : List Booked) (trades : List Trade) (kept count i : ℕ)
    (v : Inv rows resting book stay trades kept count i) where
  -- the order that a turn reads stands where it stood
  pub unmoved : get_or stay i no_booked ≡ get_or book i no_booked
  unmoved =
      ap (λ (l : List Booked). get_or l i no_booked) v.left
      ∙ over-read (keep (stays rows) (take i book)) book i no_booked (omega (arith, v.stayed, v.few))

module _ (rows : ℕ → Option Quote) (resting : ℕ) (book stay : List Booked) (trades : List Trade) (kept count i : ℕ)
    (v : Inv rows resting book stay trades kept count i) (h : i < resting) where
  abbrev here : Booked
  here = get_or book i no_booked

  -- the trades of one order more
  one_more : (o : Option Trade) → trade_at rows here.order ≡ o → trades_of rows (take (i + 1) book) ≡ trades_of rows (take i book) ++ holds o
  one_more o e =
      gather-more (λ (b : Booked). holds (trade_at rows b.order)) book i no_booked (omega (arith, v.long, v.small))
      ∙ ap (λ (x : Option Trade). trades_of rows (take i book) ++ holds x) e

  pub trades-one : (x : Trade) (stay' : List Booked) (trades' : List Trade) (kept' count' : ℕ) → trade_at rows here.order ≡ Some x →
      stay' ≡ stay → trades' ≡ set trades count x → kept' ≡ kept → count' ≡ count + 1 → Inv rows resting book stay' trades' kept' count' (i + 1)
  trades-one x stay' trades' kept' count' e es et ek ec =
      let done = trades_of rows (take i book) in
      let low : length done < length no_trades = omega (arith, v.counted, v.few, v.room, v.small) in
      let same = sym (keep-less (stays rows) book i no_booked (omega (arith, v.long, v.small)) (ap (λ (o : Option Trade). given o true (λ y. false)) e)) in
      let more = sym (one_more (Some x) e) in
      record {
        within = omega arith;
        small = v.small;
        long = v.long;
        room = v.room;
        few = omega (arith, v.few);
        left = es ∙ v.left ∙ ap (λ (l : List Booked). over l book) same;
        stayed = ek ∙ v.stayed ∙ ap length same;
        traded = et ∙ ap (λ (l : List Trade). set l count x) v.traded ∙ over-more done no_trades count x v.counted low ∙ ap (λ (l : List Trade). over l no_trades) more;
        counted = ec ∙ ap (λ (m : ℕ). m + 1) v.counted ∙ sym (length-append done (x ∷ [])) ∙ ap length more;
      }

  pub keeps-one : (stay' : List Booked) (trades' : List Trade) (kept' count' : ℕ) → trade_at rows here.order ≡ None →
      stay' ≡ set stay kept here → trades' ≡ trades → kept' ≡ kept + 1 → count' ≡ count → Inv rows resting book stay' trades' kept' count' (i + 1)
  keeps-one stay' trades' kept' count' e es et ek ec =
      let k = keep (stays rows) (take i book) in
      let low : length k < length book = omega (arith, v.stayed, v.few, v.long, v.small) in
      let more = sym (keep-more (stays rows) book i no_booked (omega (arith, v.long, v.small)) (ap (λ (o : Option Trade). given o true (λ y. false)) e)) in
      let same = sym (one_more None e ∙ append-nil (trades_of rows (take i book))) in
      record {
        within = omega arith;
        small = v.small;
        long = v.long;
        room = v.room;
        few = omega (arith, v.few);
        left = es ∙ ap (λ (l : List Booked). set l kept here) v.left ∙ over-more k book kept here v.stayed low ∙ ap (λ (l : List Booked). over l book) more;
        stayed = ek ∙ ap (λ (m : ℕ). m + 1) v.stayed ∙ sym (length-append k (here ∷ [])) ∙ ap length more;
        traded = et ∙ v.traded ∙ ap (λ (l : List Trade). over l no_trades) same;
        counted = ec ∙ v.counted ∙ ap length same;
      }

-- at the loop's end all resting orders have been gone over
pub executed : (t : Table) (resting : ℕ) (book stay : List Booked) (trades : List Trade) (kept count i : ℕ) → Inv (row_at t) resting book stay trades kept count i → resting ≤ i →
    ◌≡◌ {A = Executed} (record { book = stay; kept = kept; trades = trades; count = count }) (execute_of book resting t)
unfolding execute_of
executed t resting book stay trades kept count i v h =
    let e : i ≡ resting = omega (arith, v.within) in
    let made : ◌≡◌ {A = Executed} (record { book = stay; kept = kept; trades = trades; count = count }) (execute_of book i t) = cc (v.left, v.stayed, v.traded, v.counted) in
    made ∙ ap (λ (n : ℕ). execute_of book n t) e
