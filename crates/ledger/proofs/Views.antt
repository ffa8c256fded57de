-- What the rules read of a portfolio, after each change of the program's arrays. Assumes nothing.
use Prim.Native.Nat.{ℕ, ◌<◌}
use native.Mathlib.Nat.{mod-eq_of_lt}
use native.Mathlib.Omega.{arith}
use mathlib.Core.Bool.{Bool}
use mathlib.Core.Path.{◌≡◌, refl, ◌∙◌, sym, ap, ap₂, fun_ext}
use mathlib.Core.List.{List, [], ◌∷◌, foldl}
use Rattle.std.specs.declared.option.Option.{Option}
use Rattle.std.specs.declared.option.Option.TheVariants.{None, Some}
use lib.Ieee.{Float, nan}
use lib.ListN.{length, get_or, set, length-set}
use lib.Seq.{get_or-set_other}
use Rattle.std.proofs.lemmas.Grind.{get_or-set_at}
use Rattle.lists.specs.Lists.{All}
use Rattle.market.specs.declared.order.Order.{Order}
use Rattle.market.specs.declared.trade.Trade.{Trade}
use Rattle.rules.specs.Money.{Money, put, or_zero, unless_zero, adding, taking, paid, settled, expected}
use Rattle.portfolio.specs.State.{held_at, pending_at, money_of}
use Rattle.sender.specs.Sender.{pending_after}
use Rattle.broker.specs.Send.{expecting}
use Rattle.portfolio.specs.Booking.{settle_of, settled_at, put_settled, settle_one}
use Rattle.portfolio.specs.declared.state.Funds.{Funds}
use Rattle.portfolio.specs.declared.state.Portfolio.{Portfolio}

-- the arrays have a place for each symbol
pub record Wide (f : Funds) : Type 0 where
  pub holding : length f.holding ≡ 256
  pub pending : length f.pending ≡ 256

-- ---- a store at a symbol, as the rules read it

held-put : (l : List Float) (s : ℕ) (x : Float) → s < 256 → length l ≡ 256 → held_at (set l s x) ≡ put (held_at l) s (unless_zero x)
held-put l s x h p = fun_ext (λ n. grind (arith, get_or-set_at, get_or-set_other))

pending-put : (l : List (Option Float)) (s : ℕ) (x : Option Float) → s < 256 → length l ≡ 256 → pending_at (set l s x) ≡ put (pending_at l) s x
pending-put l s x h p = fun_ext (λ n. grind (arith, get_or-set_at, get_or-set_other))

held-here : (l : List Float) (s : ℕ) → s < 256 → held_at l s ≡ unless_zero (get_or l s nan)
held-here l s h = grind arith

-- ---- money with other funds

abbrev pub with_funds : Portfolio → Funds → Portfolio
with_funds p f = record { latest = p.latest; funds = f; costs = p.costs; lot = p.lot }

abbrev money_with : Portfolio → (ℕ → Option Float) → (ℕ → Option Float) → Float → Bool → Money
money_with p held pending cash failed = record { costs = (money_of p).costs; lot = (money_of p).lot; latest = (money_of p).latest; failed = failed; cash = cash; held = held; pending = pending }

-- ---- a sent order

pub expecting-view : (p : Portfolio) (o : Order) → o.symbol < 256 → Wide p.funds → money_of (with_funds p (expecting p.funds o)) ≡ expected o (money_of p)
unfolding expected pending_after
expecting-view p o h w =
    let f = p.funds in
    let s = o.symbol in
    ap (λ t. money_of (with_funds p (record { holding = f.holding; pending = set f.pending t (Some (pending_after o (get_or f.pending t None))); cash = f.cash; failed = f.failed }))) (mod-eq_of_lt h)
    ∙ ap (λ m. money_with p (held_at f.holding) m f.cash f.failed) (pending-put f.pending s (Some (pending_after o (get_or f.pending s None))) h w.pending)

pub expecting-wide : (f : Funds) (o : Order) → Wide f → Wide (expecting f o)
expecting-wide f o w = record { holding = w.holding; pending = length-set f.pending _ _ ∙ w.pending }

-- ---- a trade

pub settle-view : (p : Portfolio) (t : Trade) → t.symbol < 256 → Wide p.funds → money_of (with_funds p (settle_one p.funds t)) ≡ settled (money_of p) t
unfolding settle_one settle_of settled
settle-view p t h w =
    let f = p.funds in
    let s = t.symbol in
    let hs = adding t.typ (or_zero (unless_zero (get_or f.holding s nan))) t.quantity in
    ap (λ k. money_of (with_funds p (put_settled f k (settle_of t (settled_at f k))))) (mod-eq_of_lt h)
    ∙ ap₂ (λ a b. money_with p a b (paid t.typ f.cash t.value) f.failed)
    (held-put f.holding s hs h w.holding ∙ ap (λ v. put (held_at f.holding) s (unless_zero (adding t.typ (or_zero v) t.quantity))) (sym (held-here f.holding s h)))
    (pending-put f.pending s (unless_zero (taking t.typ (or_zero (get_or f.pending s None)) t.quantity)) h w.pending)

settle-wide : (f : Funds) (t : Trade) → Wide f → Wide (settle_one f t)
unfolding settle_one
settle-wide f t w = record { holding = length-set f.holding _ _ ∙ w.holding; pending = length-set f.pending _ _ ∙ w.pending }

pub settles-wide : (f : Funds) (l : List Trade) → Wide f → Wide (foldl settle_one f l)
settles-wide f [] w = w
settles-wide f (t ∷ l) w = settles-wide (settle_one f t) l (settle-wide f t w)

pub settles-view : (p : Portfolio) (l : List Trade) → All (λ t. t.symbol < 256) l → Wide p.funds → money_of (with_funds p (foldl settle_one p.funds l)) ≡ foldl settled (money_of p) l
settles-view p [] a w = refl
settles-view p (t ∷ l) a w =
    settles-view (with_funds p (settle_one p.funds t)) l a.1 (settle-wide p.funds t w) ∙ ap (λ m. foldl settled m l) (settle-view p t a.0 w)
