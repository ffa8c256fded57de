-- The kind of the first name that a word is, of the names in their order. Assumes nothing.
use Rattle.std.proofs.Common.{◌≡◌, ℕ, Bool, true, false, List, [], ◌∷◌, refl}
use mathlib.Core.Bool.{cond}
use Rattle.std.specs.declared.option.Option.{Option}
use Rattle.std.specs.declared.option.Option.TheVariants.{None, Some}
use Rattle.std.specs.Prelude.{option_map}
use Rattle.std.specs.List.{find}
use Rattle.market.specs.declared.order.OrderType.{OrderType}
use Rattle.market.specs.declared.order.OrderType.TheVariants.{MarketSell, MarketBuy, LimitSell, LimitBuy, StopSell, StopBuy}
use Rattle.words.specs.Words.{same_bytes, ascii}
use Rattle.rows.specs.Rows.{kind_of}

abbrev pub Named : Type 0
Named = List ℕ × OrderType

abbrev pub kinds : List Named
kinds =
    (ascii "mb", MarketBuy) ∷ (ascii "ms", MarketSell) ∷ (ascii "lb", LimitBuy) ∷ (ascii "ls", LimitSell) ∷ (ascii "sb", StopBuy) ∷ (ascii "ss", StopSell) ∷ []

abbrev pub is_named : List ℕ → Named → Bool
is_named s e = same_bytes s e.0

abbrev kind_in : Option Named → Option OrderType
kind_in o = option_map (λ (e : Named). e.1) o

abbrev chosen : List ℕ → List Named → Option OrderType
chosen s [] = None
chosen s (e ∷ l) = cond (is_named s e) (Some e.1) (chosen s l)

first : (t : Bool) (e : Named) (o : Option Named) (k : Option OrderType) → kind_in o ≡ k → kind_in (cond t (Some e) o) ≡ cond t (Some e.1) k
first true e o k h = refl
first false e o k h = h

choose : (s : List ℕ) (l : List Named) → kind_in (find (is_named s) l) ≡ chosen s l
choose s [] = refl
choose s (e ∷ l) = first (is_named s e) e (find (is_named s) l) (chosen s l) (choose s l)

pub kind-is : (s : List ℕ) → kind_in (find (is_named s) kinds) ≡ kind_of s
unfolding kind_of
kind-is s = choose s kinds
