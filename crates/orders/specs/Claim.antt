-- The claim of demand 3 about what becomes of orders, over a list of calls of any kind. Definitions only.
use Rattle.std.specs.Prelude.{ℕ, ◌+◌, ◌≤◌, ◌<◌, Bool, false, cond, ◌≡◌, ◌↔◌, List, [], ◌∷◌, ◌++◌, map, length, ltb}
use Rattle.std.specs.Prelude.{Option, None, Some}
use Rattle.std.specs.Prelude.{slice_get}
use Rattle.lists.specs.Lists.{keep, gather, each, given, holds, All}
use Rattle.market.specs.declared.quote.Quote.{Quote}
use Rattle.market.specs.declared.trade.Trade.{Trade}
use Rattle.orders.specs.Orders.{Taken, End, traded, deleted, Fate, resting, ended, Entry, Orders, no_orders, trade_for, trade_end, in_turn}

-- calls, as far as they concern orders: the tradable table of an unrefused check or tick, and whether a call deletes the order of a number
pub record Calls : Type 1 where
  pub Call : Type 0
  pub tradable : Call → Option (List Quote)
  pub deletes : ℕ → Call → Bool

-- the row of an order that rested until now and trades, or does not; one that has ended gives none
abbrev pub row_from : Fate → Option Trade → List Trade
row_from resting x = holds x
row_from (ended y) x = []

-- how many of a list are of a sort
abbrev pub how_many : {A : Type 0} → (A → Bool) → List A → ℕ
how_many p l = length (keep p l)

-- the orders of the entries
abbrev pub taken_in : List Entry → List Taken
taken_in l = map (λ e. e.taken) l

-- w stands somewhere in the list
abbrev pub Within : {A : Type 0} → A → List A → Type 0
Within w l = (k : ℕ) × (slice_get l k ≡ Some w)

-- the order of number n has traded, and x is its row
pub record TradedAs (booked : List Entry) (n : ℕ) (x : Trade) : Type 0 where
  pub entry : Entry
  pub there : slice_get booked n ≡ Some entry
  pub has-traded : entry.fate ≡ ended (traded x)

-- the rows of a log and the booked orders that have traded match one to one: `who` has the number of each row's order, in the order of the rows
pub record OneRowEach (rows : List Trade) (booked : List Entry) : Type 0 where
  pub who : List ℕ
  pub each_row : length who ≡ length rows
  -- the k-th row is that of the order whose number stands there
  pub its-order : (k n : ℕ) → slice_get who k ≡ Some n → (x : Trade) × (slice_get rows k ≡ Some x) × TradedAs booked n x
  -- no order has two rows
  pub no-two : (j k n : ℕ) → slice_get who j ≡ Some n → slice_get who k ≡ Some n → j ≡ k
  -- each order that has traded has one
  pub none-missing : (n : ℕ) (x : Trade) → TradedAs booked n x → Within n who

module _ (K : Calls) where
  -- the trade of an order in a call: the call is an unrefused check with a tradable row for its symbol that meets its rule
  abbrev pub trade_in : Taken → K.Call → Option Trade
  trade_in w c = given (K.tradable c) None (λ t. trade_for t w.order)

  -- some unrefused check among the calls `after` its booking had a tradable row for the order's symbol that met its rule, and the trade there is x;
  -- the order had not been deleted before that check
  pub record CanTrade (w : Taken) (n : ℕ) (after : List K.Call) (x : Trade) : Type 0 where
    pub before : List K.Call
    pub here : K.Call
    pub rest : List K.Call
    pub split : after ≡ before ++ (here ∷ rest)
    pub trades : trade_in w here ≡ Some x
    pub not-deleted : All (λ c. K.deletes n c ≡ false) before

  -- and it is the first such check
  pub record FirstTrade (w : Taken) (n : ℕ) (after : List K.Call) (x : Trade) : Type 0 where
    pub can : CanTrade w n after x
    pub none-sooner : All (λ c. trade_in w c ≡ None) can.before

  -- how a call ends a resting order, and the fate over the calls after its booking: the first such end
  abbrev pub end_in : Taken → ℕ → K.Call → Option End
  end_in w n c = cond (K.deletes n c) (Some deleted) (trade_end (trade_in w c))

  abbrev pub fate_of : Taken → ℕ → List K.Call → Fate
  fate_of w n [] = resting
  fate_of w n (c ∷ cs) = given (end_in w n c) (fate_of w n cs) ended

  -- an order has traded exactly when it could, and it traded in the first such check, at that row;
  -- what became of it is the first end among the calls after its booking, and it rests where there is none
  pub record Life (e : Entry) (n : ℕ) (after : List K.Call) : Type 0 where
    pub exactly-when : ((x : Trade) × (e.fate ≡ ended (traded x))) ↔ ((x : Trade) × CanTrade e.taken n after x)
    pub in-the-first : (x : Trade) → (e.fate ≡ ended (traded x)) ↔ FirstTrade e.taken n after x
    pub fate-is : e.fate ≡ fate_of e.taken n after

  -- those of the waiting orders that wait on after a call: all of them, but after an unrefused check none
  abbrev pub wait_on : K.Call → List Taken → List Taken
  wait_on c w = given (K.tradable c) w (λ t. [])

  -- those that a call books: an unrefused check all that waited before it, sells first, then buys, each in order of taking; any other call none
  abbrev pub books_of : K.Call → List Taken → List Taken
  books_of c w = given (K.tradable c) [] (λ t. in_turn w)

-- `takes past c` are the orders that the call c takes where it follows the calls `past`, in order of taking: those that draw no number;
-- `after cs` are the ledger's orders after the calls cs
module _ (K : Calls) (takes : List K.Call → K.Call → List Taken) (after : List K.Call → Orders) where
  -- the order of number n was booked by the call c that follows the calls `past`
  pub record BookedBy (past : List K.Call) (c : K.Call) (n : ℕ) : Type 0 where
    pub not_yet : length (after past).booked ≤ n
    pub now-is : n < length (after (past ++ (c ∷ []))).booked

  -- the calls that follow the one that booked the order of number n
  abbrev pub since_from : List K.Call → List K.Call → ℕ → List K.Call
  since_from past [] n = []
  since_from past (c ∷ cs) n = cond (ltb n (length (after (past ++ (c ∷ []))).booked)) cs (since_from (past ++ (c ∷ [])) cs n)

  -- the rows of a call that follows the calls `past`: those of the orders booked by then that had neither traded nor been deleted, in book order
  abbrev pub rows_in : List K.Call → K.Call → List Trade
  rows_in past c = gather (λ l. l) (each (λ n e. row_from (fate_of K e.taken n (since_from [] past n)) (trade_in K e.taken c)) 0 (after past).booked)

  -- call by call
  abbrev pub log_of : List K.Call → List K.Call → List Trade
  log_of past [] = []
  log_of past (c ∷ cs) = rows_in past c ++ log_of (past ++ (c ∷ [])) cs

  -- the orders taken, call by call
  abbrev pub taken_over : List K.Call → List K.Call → List Taken
  taken_over past [] = []
  taken_over past (c ∷ cs) = takes past c ++ taken_over (past ++ (c ∷ [])) cs

  -- x is the trade, in the call c that follows the calls `past`, of an order that one of these calls had booked
  pub record TradeOfBooked (past : List K.Call) (c : K.Call) (x : Trade) : Type 0 where
    pub number : ℕ
    pub entry : Entry
    pub booked-before : slice_get (after past).booked number ≡ Some entry
    pub its-trade : trade_in K entry.taken c ≡ Some x

  -- after the calls cs the order w has the number n, and its life over the calls `rest` that followed its booking
  pub record Placed (cs : List K.Call) (n : ℕ) (w : Taken) (rest : List K.Call) : Type 0 where
    pub entry : Entry
    pub there : slice_get (after cs).booked n ≡ Some entry
    pub its-order : entry.taken ≡ w
    pub life : Life K entry n rest

  -- the claim about a list of calls
  pub record Lived (cs : List K.Call) : Type 0 where
    -- at the start nothing waits, is booked or has traded
    pub starts : after [] ≡ no_orders
    -- what a call takes waits, in order of taking, behind those that wait on: only an unrefused check ends a wait, and no deletion does
    pub waiting : (past : List K.Call) (c : K.Call) → (after (past ++ (c ∷ []))).waiting ≡ wait_on K c (after past).waiting ++ takes past c
    -- an unrefused check books all that waited before it, behind those booked before, which keep their numbers; no other call books
    pub booking : (past : List K.Call) (c : K.Call) →
        taken_in (after (past ++ (c ∷ []))).booked ≡ taken_in (after past).booked ++ books_of K c (after past).waiting
    -- one for one, the orders taken are those that wait and those booked
    pub one-for-one : (p : Taken → Bool) → how_many p (after cs).waiting + how_many p (taken_in (after cs).booked) ≡ how_many p (taken_over [] cs)
    -- an order taken waits as long as no unrefused check follows
    pub waits : (past : List K.Call) (c : K.Call) (rest : List K.Call) (w : Taken) → cs ≡ past ++ (c ∷ rest) → Within w (takes past c) →
        All (λ d. K.tradable d ≡ None) rest → Within w (after cs).waiting
    -- the first unrefused check that follows books it; and it has traded exactly when it could, in the first check that could trade it, at that row
    pub lives : (past : List K.Call) (c : K.Call) (quiet : List K.Call) (d : K.Call) (rest : List K.Call) (t : List Quote) (w : Taken) →
        cs ≡ (past ++ (c ∷ quiet)) ++ (d ∷ rest) → Within w (takes past c) → All (λ b. K.tradable b ≡ None) quiet → K.tradable d ≡ Some t →
        (n : ℕ) × BookedBy (past ++ (c ∷ quiet)) d n × Placed cs n w rest
    -- so has each order booked
    pub fates : (past : List K.Call) (c : K.Call) (rest : List K.Call) (n : ℕ) → cs ≡ past ++ (c ∷ rest) → BookedBy past c n →
        (w : Taken) × Placed cs n w rest
    -- once: the logged rows and the booked orders that have traded match one to one; an order that waits has no number, and so no row
    pub once : OneRowEach (after cs).trades (after cs).booked
    -- the logged rows are these trades and no others, check by check, in book order within each
    pub log : (after cs).trades ≡ log_of [] cs
