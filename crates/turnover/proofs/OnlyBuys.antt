-- A log with only buys, of values above zero, has turnover 0.0: document 02, request 4. Assumes nothing.
use Prim.Native.Nat.{ℕ, zero, suc, ◌+◌, ◌*◌, ◌^◌}
use mathlib.Core.Bool.{Bool, true, false, not, cond}
use mathlib.Core.List.{List, [], ◌∷◌, foldl}
use mathlib.Core.Path.{◌≡◌, refl, sym, subst}
use native.Mathlib.Omega.{arith}
use lib.Dec.{T, ltb}
use borrow.Author.Tests.{le-ltb}
use lib.Ieee as Ieee
use lib.Ieee.{Float, nan, inf, fin, Format, binary64, prec, emax, low, up, down, odd, units, round}
use lib.Ieee.Fits.{round_is}
use Rattle.market.specs.Orders.{zero64}
use Rattle.market.specs.declared.trade.Trade.{Trade}
use Rattle.market.specs.declared.trade.TradeType.{TradeType}
use Rattle.market.specs.declared.trade.TradeType.TheVariants.{Buy}
use Rattle.rules.specs.Amounts.{plus, below}
use Rattle.turnover.specs.Turnover.{add_to, add_sums, no_sums, lesser, turnover, OnlyBuys}
use Rattle.turnover.specs.declared.Sums.{Sums}

-- ---- numbers without a minus, infinity among them: their sum is one too

abbrev unsigned : Float → Bool
unsigned nan = false
unsigned (inf s) = not s
unsigned (fin s m e) = not s

unsigned-odd : (d q k l : ℕ) → T (unsigned (odd d false q k l))
unfolding odd
unsigned-odd d zero k l = tt
unsigned-odd d (suc q) k l = tt

unsigned-units : (f : Format) (q k : ℕ) → T (unsigned (units f false q k))
unfolding units
unsigned-units f q k = go (ltb (q * 2 ^ k) (2 ^ (low f + suc (emax f))))
  where
    go : (b : Bool) → T (unsigned (cond b (odd (suc (prec f)) false q k (low f)) (inf false)))
    go true = unsigned-odd (suc (prec f)) q k (low f)
    go false = tt

unsigned-round : (f : Format) (n d : ℕ) → T (unsigned (round f false n d))
unsigned-round f n d = subst (λ (x : Float). T (unsigned x)) (sym (round_is f false n d)) (unsigned-units f _ _)

unsigned-plus : (x y : Float) → T (unsigned x) → T (unsigned y) → T (unsigned (plus x y))
unfolding Ieee.add Ieee.sum
unsigned-plus nan y a b = absurd a
unsigned-plus (inf true) y a b = absurd a
unsigned-plus (inf false) nan a b = absurd b
unsigned-plus (inf false) (inf true) a b = absurd b
unsigned-plus (inf false) (inf false) a b = tt
unsigned-plus (inf false) (fin t n d) a b = tt
unsigned-plus (fin true m e) y a b = absurd a
unsigned-plus (fin false m e) nan a b = absurd b
unsigned-plus (fin false m e) (inf true) a b = absurd b
unsigned-plus (fin false m e) (inf false) a b = tt
unsigned-plus (fin false m e) (fin true n d) a b = absurd b
unsigned-plus (fin false m e) (fin false n d) a b = unsigned-round binary64 (m * up e * down d + n * up d * down e) (down e * down d)

-- ---- and zero

above_zero : (x : Float) → T (below zero64 x) → T (unsigned x)
unfolding Ieee.lt Ieee.of_bits
above_zero nan h = absurd h
above_zero (inf true) h = absurd h
above_zero (inf false) h = tt
above_zero (fin true m e) h = absurd h
above_zero (fin false m e) h = tt

not-below : (x : Float) → T (unsigned x) → below x zero64 ≡ false
unfolding Ieee.lt Ieee.of_bits
not-below nan a = refl
not-below (inf true) a = absurd a
not-below (inf false) a = refl
not-below (fin true m e) a = absurd a
not-below (fin false m e) a = le-ltb (m * up e * 1) (0 * down e) (omega arith)

-- ---- the sums of such a log

abbrev NoneSold : Sums → Type 0
NoneSold s = T (unsigned s.bought) × (s.sold ≡ zero64)

none-sold : (log : List Trade) (s : Sums) → OnlyBuys log → NoneSold s → NoneSold (foldl add_sums s log)
none-sold [] s o h = h
none-sold (x ∷ l) s o h =
    subst (λ (k : TradeType). NoneSold (foldl add_sums (add_to k s x.value) l)) (sym o.0.0)
    (none-sold l (add_to Buy s x.value) o.1 (unsigned-plus s.bought x.value h.0 (above_zero x.value (subst T (sym o.0.1) tt)), h.1))

lesser-zero : (s : Sums) → NoneSold s → lesser s ≡ zero64
lesser-zero s h = rw (h.1, not-below s.bought h.0)

pub only-buys : (log : List Trade) → OnlyBuys log → turnover log ≡ zero64
unfolding turnover Ieee.of_bits
only-buys log o = lesser-zero (foldl add_sums no_sums log) (none-sold log no_sums o (tt, refl))
