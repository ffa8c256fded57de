-- The rows that a closure makes symbol by symbol, and those of a table, gathered: they are the rows of the symbols. Assumes nothing.
use Rattle.std.proofs.Common.{◌≡◌, ℕ, zero, suc, ◌+◌, ◌<◌, ◌≤◌, List, [], ◌∷◌, ◌++◌, length, refl, ap, ap₂, sym, ◌∙◌, arith, subst, get_or}
use Rattle.std.specs.declared.option.Option.{Option}
use Rattle.std.specs.declared.option.Option.TheVariants.{None, Some}
use Rattle.std.specs.Array.{IsFromFnResult, IsFromFnResultFrom}
use Rattle.std.specs.Fn.{Mut, Called}
use Rattle.lists.specs.Lists.{gather, span, holds}
use Rattle.rules.specs.Values.{symbols}
use Rattle.market.specs.Quotes.{row_at}
use Rattle.market.specs.declared.table.Table.{Table}
use Rattle.market.specs.declared.quote.Quote.{Quote}
use Rattle.lists.specs.Lists.{given}
use Rattle.reads.specs.Rows.{rows_at, rows_of}
use Rattle.reads.specs.Answers.{AnswersList}
use Rattle.std.specs.declared.result.Result.{Result}
use Rattle.market.specs.declared.fault.Fault.{Fault}
use Rattle.broker.specs.declared.state.UistBroker.{UistBroker}

-- what is gathered from rows that stand at their symbols' places
gathered : {T : Type 0} (at : ℕ → List T) (rows : List (Option T)) (i : ℕ) → ((k j : ℕ) → k < length rows → j ≡ i + k → holds (get_or rows k None) ≡ at j) → gather holds rows ≡ gather at (span i (length rows))
gathered at [] i each = refl
gathered at (r ∷ rows) i each =
    let first : holds r ≡ at i = each 0 i (omega arith) (omega arith) in
    let more : gather holds rows ≡ gather at (span (suc i) (length rows)) =
    gathered at rows (suc i) (λ k j h e. each (suc k) j (omega arith) (omega arith)) in
    ap₂ (λ (x y : List _). x ++ y) first more

-- the calls of a closure that keeps its state: each gives the row of its symbol
module _ {F T : Type 0} (g : Mut F (ℕ × Unit {0}) (Option T)) (at : ℕ → List T) (f : F) (ys : List (Option T)) (step : (s : ℕ) (r : Option T) (q : F) → s < 256 → Called g f (s, tt) r q → (holds r ≡ at s) × (q ≡ f)) where
  first_call : (i : ℕ) (p q : F) (y : Option T) → p ≡ f → i < 256 → Called g p (i, tt) y q → (holds y ≡ at i) × (q ≡ f)
  first_call i p q y e h called = step i y q h (subst (λ (x : F). Called g x (i, tt) y q) e called)

  -- of n calls from symbol i on, the k-th
  calls : (n i k j : ℕ) (p : F) → p ≡ f → IsFromFnResultFrom g p ys i n → i + n ≤ 256 → k < n → j ≡ i + k → holds (get_or ys j None) ≡ at j
  calls zero i k j p e r fits h is_at = absurd (omega arith)
  calls (suc n) i zero j p e (q, y, is, called, more) fits h is_at =
      let here : j ≡ i = omega arith in
      ap (λ (m : ℕ). holds (get_or ys m None)) here ∙ ap holds (is.1 None) ∙ (first_call i p q y e (omega arith) called).0 ∙ ap at (sym here)
  calls (suc n) i (suc k) j p e (q, y, is, called, more) fits h is_at =
      calls n (i + 1) k j q (first_call i p q y e (omega arith) called).1 more (omega arith) (omega arith) (omega arith)

  pub made : IsFromFnResult g f ys 256 → gather holds ys ≡ gather at symbols
  unfolding symbols
  made r = gathered at ys 0 (λ k j h e. ap (λ (m : ℕ). holds (get_or ys m None)) (omega arith) ∙ calls 256 0 k j f refl r.each (omega arith) (omega (arith, r.long)) e) ∙ ap (λ (n : ℕ). gather at (span 0 n)) r.long

-- the rows of a table, each at its symbol's place
module _ (t : Table) where
  at_row : (o : Option Quote) → holds o ≡ given o [] (λ q. q ∷ [])
  at_row None = refl
  at_row (Some q) = refl

  abbrev quote_at : ℕ → List Quote
  quote_at = rows_at (λ s q. q) (row_at t)

  pub latest-rows : length t.rows ≡ 256 → gather holds t.rows ≡ rows_of (λ s q. q) (row_at t)
  unfolding symbols
  latest-rows long =
      gathered quote_at t.rows 0 (λ k j h e. at_row (get_or t.rows k None) ∙ ap quote_at (omega (arith, e)))
      ∙ ap (λ (n : ℕ). gather quote_at (span 0 n)) long

-- what is answered of rows is answered of equal ones
pub same_rows : {A : Type 0} {b : UistBroker} {rows rows' l after : List A} {r : Result ℕ Fault} → rows ≡ rows' → AnswersList b rows l r after → AnswersList b rows' l r after
same_rows {A} {b} {rows} {rows'} {l} {after} {r} e a = subst (λ (k : List A). AnswersList b k l r after) e a
