-- The rows of a table, gathered symbol by symbol: they are those that were read, in their order.
use Prim.Native.Nat.{ℕ, zero, suc, ◌+◌, ◌≤◌}
use mathlib.Core.Path.{◌≡◌, refl, ap, sym, subst, ◌∙◌}
use mathlib.Core.Bool.{Bool, true, false, cond}
use mathlib.Core.List.{List, [], ◌∷◌, ◌++◌}
use Rattle.std.specs.declared.option.Option.{Option}
use Rattle.std.specs.declared.option.Option.TheVariants.{None, Some}
use native.Mathlib.Omega.{arith}
use lib.Dec.{eqb}
use borrow.Author.Tests.{le-ltb, ne_eqb, eqb-true, eqb-false}
use Rattle.lists.specs.Lists.{span, gather, given}
use Rattle.market.specs.Faults.{drawn}
use Rattle.market.specs.declared.fault.Fault.TheVariants.{UnknownSymbol, BadValue, NotAscending}
use Rattle.market.specs.Quotes.{table_tests, row_for, table_of, row_at}
use Rattle.market.specs.declared.quote.Quote.{Quote}
use Rattle.market.proofs.Faults.{none-drawn, test-fails}
use Rattle.market.proofs.Tables.{row-ascends, rows_none, row_below, table-row}

-- rows that draw nothing draw nothing for any bound that the first still meets
higher : (least n : ℕ) (q : Quote) (l : List Quote) → n ≤ q.symbol → drawn (table_tests least (q ∷ l)) ≡ None → drawn (table_tests n (q ∷ l)) ≡ None
higher least n q l h e =
    let a = none-drawn _ UnknownSymbol _ e in
    let b = none-drawn _ BadValue _ a.1 in
    let c = none-drawn _ NotAscending _ b.1 in
    test-fails _ UnknownSymbol _ a.0 ∙ test-fails _ BadValue _ b.0 ∙ test-fails _ NotAscending _ (le-ltb q.symbol n h) ∙ c.1

module _ {B : Type 0} (f : ℕ → Quote → List B) where
  -- what is gathered at a symbol
  abbrev at_symbol : List Quote → ℕ → List B
  at_symbol l s = given (row_for l s) [] (f s)

  -- behind the first row's symbol the other rows count
  past_first : (q : Quote) (l : List Quote) (i n : ℕ) → suc q.symbol ≤ i → gather (at_symbol (q ∷ l)) (span i n) ≡ gather (at_symbol l) (span i n)
  past_first q l i zero h = refl
  past_first q l i (suc n) h =
      let other : eqb q.symbol i ≡ false = ne_eqb q.symbol i (λ e. omega arith) in
      ap (λ (b : Bool). given (cond b (Some q) (row_for l i)) [] (f i) ++ gather (at_symbol (q ∷ l)) (span (suc i) n)) other
      ∙ ap (λ (k : List B). at_symbol l i ++ k) (past_first q l (suc i) n (omega arith))

  -- the rows from a bound on, where `on` is that they are so from the next symbol on
  module _ (least n : ℕ) (on : (l : List Quote) → drawn (table_tests (suc least) l) ≡ None → gather (at_symbol l) (span (suc least) n) ≡ gather (λ q. f q.symbol q) l) where
    first_by : (q : Quote) (l : List Quote) → drawn (table_tests least (q ∷ l)) ≡ None → (b : Bool) → eqb q.symbol least ≡ b →
        given (cond b (Some q) (row_for l least)) [] (f least) ++ gather (at_symbol (q ∷ l)) (span (suc least) n) ≡ f q.symbol q ++ gather (λ q. f q.symbol q) l
    first_by q l e true same =
        let is = eqb-true q.symbol least same in
        let later = (rows_none least q l e).1 in
        let here : q.symbol + 1 ≡ suc least = omega arith in
        ap (λ (s : ℕ). f s q ++ gather (at_symbol (q ∷ l)) (span (suc least) n)) (sym is)
        ∙ ap (λ (k : List B). f q.symbol q ++ k)
        (past_first q l (suc least) n (omega arith) ∙ on l (subst (λ (k : ℕ). drawn (table_tests k l) ≡ None) here later))
    first_by q l e false other =
        let d = rows_none least q l e in
        let a = row-ascends least q d.0 in
        let differs = eqb-false q.symbol least other in
        let above : suc least ≤ q.symbol = omega (arith, a.low, differs) in
        ap (λ (o : Option Quote). given o [] (f least) ++ gather (at_symbol (q ∷ l)) (span (suc least) n)) (row_below (q.symbol + 1) l least d.1 (omega arith))
        ∙ on (q ∷ l) (higher least (suc least) q l above e)

  rows-by : (n least : ℕ) (l : List Quote) → least + n ≡ 256 → drawn (table_tests least l) ≡ None → gather (at_symbol l) (span least n) ≡ gather (λ q. f q.symbol q) l
  rows-by zero least [] h e = refl
  rows-by zero least (q ∷ l) h e = let a = row-ascends least q (rows_none least q l e).0 in absurd (omega (arith, a.low, a.high))
  rows-by (suc n) least [] h e = rows-by n (suc least) [] (omega arith) e
  rows-by (suc n) least (q ∷ l) h e = first_by least n (λ k. rows-by n (suc least) k (omega arith)) q l e (eqb q.symbol least) refl

  gather-rows : (t u : ℕ → Option Quote) → ((s : ℕ) → t s ≡ u s) → (i n : ℕ) → gather (λ s. given (t s) [] (f s)) (span i n) ≡ gather (λ s. given (u s) [] (f s)) (span i n)
  gather-rows t u e i zero = refl
  gather-rows t u e i (suc n) =
      ap (λ (o : Option Quote). given o [] (f i) ++ gather (λ s. given (t s) [] (f s)) (span (suc i) n)) (e i)
      ∙ ap (λ (k : List B). given (u i) [] (f i) ++ k) (gather-rows t u e (suc i) n)

  -- what is gathered of a table symbol by symbol is what is gathered of its rows
  pub by-symbol : (l : List Quote) → drawn (table_tests 0 l) ≡ None → gather (λ s. given (row_at (table_of l) s) [] (f s)) (span 0 256) ≡ gather (λ q. f q.symbol q) l
  by-symbol l e = gather-rows (row_at (table_of l)) (row_for l) (table-row l e) 0 256 ∙ rows-by 256 0 l (omega arith) e
