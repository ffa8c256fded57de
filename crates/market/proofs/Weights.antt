-- Rows of weights: what is read of them, and that 257 rows are enough.
use Prim.Native.Nat.{ℕ, min, ◌≤◌}
use mathlib.Core.Path.{◌≡◌, refl, sym, ap, ◌∙◌}
use mathlib.Core.List.{List}
use native.Mathlib.Omega.{arith}
use lib.ListN.{length, take, length-take}
use lib.Seq.{take-take}
use Rattle.std.proofs.lemmas.List.{take-append-le, take_min}
use Rattle.std.specs.declared.option.Option.TheVariants.{None}
use lib.Ieee.{nan}
use lib.Ieee.Scale.{finite}
use Rattle.market.specs.Faults.{drawn}
use Rattle.market.specs.Rows.{good_rows}
use Rattle.market.specs.Weights.{weight_tests, weight_rows, weights_of, weighed}
use Rattle.market.specs.declared.weight.Weight.{Weight}
use Rattle.market.proofs.Rows.{RowLaws, supplier-laws, good-all, good-few, good_first}

-- what a read past the end of a list gives; no code reads there
abbrev pub no_weight : Weight
no_weight = record { symbol = 0; weight = nan }

pub weight-laws : RowLaws weight_tests (λ (w : Weight). w.symbol)
weight-laws = supplier-laws (λ (w : Weight). w.symbol) (λ w. finite w.weight)

pub weights-fault : (l : List Weight) → (weights_of l).fault ≡ drawn (weight_rows 0 l)
unfolding weights_of
weights-fault l = refl

-- the first n of the first 256 rows are the first rows, as many as n or 256 if that is less
pub counted-rows : {A : Type 0} (n k : ℕ) (l : List A) → k ≡ min n 256 → take k l ≡ take n (take 256 l)
counted-rows n k l is =
    let short = length-take 256 l in
    ap (λ j. take j l) is
    ∙ sym (take_min (min n 256) l)
    ∙ ap (λ j. take j l) (omega (arith, short))
    ∙ sym (take-take (min n (length (take 256 l))) 256 l (omega (arith, short)))
    ∙ take_min n (take 256 l)

-- the good rows are what counts
pub weights-good : (l : List Weight) → weighed (weights_of l) ≡ good_rows weight_tests (λ w. w.symbol) 0 l
unfolding weights_of
weights-good l =
    let good = good_rows weight_tests (λ w. w.symbol) 0 l in
    let n = length good in
    let first = good_first weight_tests (λ w. w.symbol) 0 l in
    let most : n ≤ 256 = omega (arith, good-few weight_tests (λ w. w.symbol) weight-laws 0 l (omega arith)) in
    let there : n ≤ length (take 257 l) = omega (arith, most, length-take 257 l, length-take n l, ap length first) in
    take-take n 256 _ most
    ∙ take-append-le n (take 257 l) _ there
    ∙ take-take n 257 l (omega (arith, most))
    ∙ first

-- where no number is drawn all rows count
pub weights-all : (l : List Weight) → drawn (weight_rows 0 l) ≡ None → weighed (weights_of l) ≡ l
weights-all l e = weights-good l ∙ good-all weight_tests (λ w. w.symbol) weight-laws 0 l e
