-- A table whose rows ascend is known by its row for each symbol: two with the same are equal. Assumes nothing.
use Prim.Native.Nat.{ℕ, zero, suc, ◌+◌}
use mathlib.Core.Path.{◌≡◌, refl, ap, sym, fun_ext, ◌∙◌}
use mathlib.Core.Bool.{Bool, true, false, cond}
use mathlib.Core.List.{List, [], ◌∷◌}
use Rattle.std.specs.declared.option.Option.{Option}
use Rattle.std.specs.declared.option.Option.TheVariants.{None, Some}
use Rattle.std.proofs.lemmas.Option.{none-some, same_Some}
use native.Mathlib.Omega.{arith}
use lib.Dec.{eqb}
use Rattle.std.specs.Prelude.{slice_get}
use borrow.Author.Tests.{eqb-true, eq-eqb, ne_eqb}
use Rattle.lists.specs.Lists.{span, gather, given}
use Rattle.market.specs.Faults.{drawn}
use Rattle.market.specs.Quotes.{table_tests, row_for}
use Rattle.market.specs.declared.quote.Quote.{Quote}
use Rattle.market.proofs.Listed.{by-symbol}
use Rattle.market.proofs.Tables.{rows_none, row_below, table-row}
use Rattle.corrections.specs.Claims.{Among}
use Rattle.corrections.proofs.Members.{later-among}

-- ---- the row for a symbol

-- it is in the table, and of the symbol
pub row_in : (t : List Quote) (s : ℕ) (q : Quote) → row_for t s ≡ Some q → Among q t × (q.symbol ≡ s)
row_in [] s q e = absurd (none-some q e)
row_in (p ∷ t) s q e = go (eqb p.symbol s) refl e (row_in t s q)
  where
    go : (b : Bool) → eqb p.symbol s ≡ b → cond b (Some p) (row_for t s) ≡ Some q → (row_for t s ≡ Some q → Among q t × (q.symbol ≡ s)) → Among q (p ∷ t) × (q.symbol ≡ s)
    go true b e on = (record { place = 0; there = e }, ap (λ (r : Quote). r.symbol) (sym (same_Some p q e)) ∙ eqb-true p.symbol s b)
    go false b e on = (later-among q p t (on e).0, (on e).1)

-- where the rows ascend, a row of the table is its symbol's
pub in_row : (least : ℕ) (t : List Quote) (q : Quote) → drawn (table_tests least t) ≡ None → Among q t → row_for t q.symbol ≡ Some q
in_row least t q d h = go least t h.place d h.there
  where
    -- the first row's symbol is no later row's
    apart : (p : Quote) (t : List Quote) → drawn (table_tests (p.symbol + 1) t) ≡ None → row_for t q.symbol ≡ Some q → p.symbol ≡ q.symbol → ⊥
    apart p t d e s = none-some q (sym (row_below (p.symbol + 1) t q.symbol d (omega arith)) ∙ e)

    go : (least : ℕ) (t : List Quote) (i : ℕ) → drawn (table_tests least t) ≡ None → slice_get t i ≡ Some q → row_for t q.symbol ≡ Some q
    go least [] i d e = absurd (none-some q e)
    go least (p ∷ t) zero d e = rw (same_Some p q e, eq-eqb q.symbol q.symbol refl)
    go least (p ∷ t) (suc i) d e =
        let later = (rows_none least p t d).1 in
        let on = go (p.symbol + 1) t i later e in
        rw (ne_eqb p.symbol q.symbol (apart p t later on)) on

-- ---- the table of them

-- the rows, symbol by symbol
all-rows : (ℕ → Option Quote) → List Quote
all-rows f = gather (λ s. given (f s) [] (λ q. q ∷ [])) (span 0 256)

gather-single : (l : List Quote) → gather (λ q. q ∷ []) l ≡ l
gather-single [] = refl
gather-single (q ∷ l) = ap (λ (k : List Quote). q ∷ k) (gather-single l)

table-rows : (t : List Quote) → drawn (table_tests 0 t) ≡ None → all-rows (row_for t) ≡ t
unfolding all-rows
table-rows t d = ap all-rows (fun_ext (λ s. sym (table-row t d s))) ∙ by-symbol (λ s q. q ∷ []) t d ∙ gather-single t

same-option : (o p : Option Quote) → ((q : Quote) → o ≡ Some q → p ≡ Some q) → ((q : Quote) → p ≡ Some q → o ≡ Some q) → o ≡ p
same-option None None f g = refl
same-option None (Some q) f g = g q refl
same-option (Some q) p f g = sym (f q refl)

-- two tables, where each row for a symbol of one is that of the other
pub same_rows : (t u : List Quote) → drawn (table_tests 0 t) ≡ None → drawn (table_tests 0 u) ≡ None →
    ((s : ℕ) (q : Quote) → row_for t s ≡ Some q → row_for u s ≡ Some q) → ((s : ℕ) (q : Quote) → row_for u s ≡ Some q → row_for t s ≡ Some q) → t ≡ u
same_rows t u d e f g =
    sym (table-rows t d) ∙ ap all-rows (fun_ext (λ s. same-option (row_for t s) (row_for u s) (f s) (g s))) ∙ table-rows u e
