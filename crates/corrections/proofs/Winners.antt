-- The row that wins for a symbol: it is one of those given, of that symbol, and none given supersedes it; and one wins where one
-- is given. Assumes nothing.
use Prim.Native.Nat.{ℕ}
use mathlib.Core.Path.{◌≡◌, refl, sym, subst, ◌∙◌}
use mathlib.Core.Bool.{Bool, true, false, cond, true≢false}
use mathlib.Core.List.{List, [], ◌∷◌, ◌++◌, append-nil, foldl}
use Rattle.std.specs.declared.option.Option.{Option}
use Rattle.std.specs.declared.option.Option.TheVariants.{None, Some}
use lib.Dec.{eqb}
use lib.Seq.{append_snoc}
use borrow.Author.Tests.{eqb-true, eqb-false, eq-eqb, ne_eqb}
use Rattle.lists.specs.Lists.{All}
use Rattle.market.specs.declared.vendor_quote.VendorQuote.{VendorQuote}
use Rattle.corrections.specs.Claims.{Among}
use Rattle.corrections.specs.Corrections.{newer, supersedes, newer_of, winner_step, winner}
use Rattle.corrections.proofs.Members.{first-among, among-front, among-back, all-at, all_append, all_so}
use Rattle.corrections.proofs.StrictOrder.{supersedes-order, false-by, and-false}

-- r is one of the rows, of the symbol, and none of them supersedes it
pub record Wins (rows : List VendorQuote) (s : ℕ) (r : VendorQuote) : Type 0 where
  pub in_rows : Among r rows
  pub of-symbol : r.symbol ≡ s
  pub newest : All (λ x. supersedes x r ≡ false) rows

-- what is so of the row that won among the rows so far: where none did, none is of the symbol
abbrev Best : List VendorQuote → ℕ → Option VendorQuote → Type 0
Best rows s None = All (λ x. x.symbol ≡ s → ⊥) rows
Best rows s (Some r) = Wins rows s r

-- ---- one row more

module _ (rows : List VendorQuote) (s : ℕ) (x : VendorQuote) where
  abbrev more : List VendorQuote
  more = rows ++ (x ∷ [])

  -- the row that won so far still does
  still-wins : (r : VendorQuote) → supersedes x r ≡ false → Wins rows s r → Wins more s r
  still-wins r e w =
      record {
        in_rows = among-front r rows (x ∷ []) w.in_rows;
        of-symbol = w.of-symbol;
        newest = all_append _ rows (x ∷ []) w.newest (e, tt);
      }

  -- it wins over those before it
  now-wins : x.symbol ≡ s → All (λ y. supersedes y x ≡ false) rows → Wins more s x
  now-wins e a =
      record {
        in_rows = among-back x rows (x ∷ []) (first-among x []);
        of-symbol = e;
        newest = all_append _ rows (x ∷ []) a (supersedes-order.irreflexive x, tt);
      }

  other-symbol : (o : Option VendorQuote) → (x.symbol ≡ s → ⊥) → Best rows s o → Best more s o
  other-symbol None d b = all_append _ rows (x ∷ []) b (d, tt)
  other-symbol (Some r) d b = still-wins r (rw (ne_eqb x.symbol r.symbol (λ e. d (e ∙ b.of-symbol)))) b

  same-symbol : (o : Option VendorQuote) → x.symbol ≡ s → Best rows s o → Wins more s (newer_of o x)
  same-symbol None e b =
      now-wins e
      (all_so (λ y. y.symbol ≡ s → ⊥) (λ y. supersedes y x ≡ false) (λ y d. rw (ne_eqb y.symbol x.symbol (λ k. d (k ∙ e)))) rows b)
  same-symbol (Some r) e b = go (newer x r) refl
    where
      go : (t : Bool) → newer x r ≡ t → Wins more s (cond t x r)
      go true n =
          let above : supersedes x r ≡ true = rw (eq-eqb x.symbol r.symbol (e ∙ sym b.of-symbol)) n in
          now-wins e
          (all_so (λ y. supersedes y r ≡ false) (λ y. supersedes y x ≡ false)
          (λ y d. false-by (supersedes y x) (λ k. true≢false (sym (supersedes-order.transitive y x r k above) ∙ d)))
          rows
          b.newest)
      go false n = still-wins r (and-false (eqb x.symbol r.symbol) (newer x r) n) b

  -- whichever it is
  step : (o : Option VendorQuote) → Best rows s o → Best more s (winner_step s o x)
  step o b = go (eqb x.symbol s) refl
    where
      go : (t : Bool) → eqb x.symbol s ≡ t → Best more s (cond t (Some (newer_of o x)) o)
      go true e = same-symbol o (eqb-true x.symbol s e) b
      go false e = other-symbol o (eqb-false x.symbol s e) b

-- ---- all rows

all-best : (before rows : List VendorQuote) (s : ℕ) (o : Option VendorQuote) → Best before s o → Best (before ++ rows) s (foldl (winner_step s) o rows)
all-best before [] s o b = rw (append-nil before) b
all-best before (x ∷ rows) s o b =
    subst (λ (l : List VendorQuote). Best l s (foldl (winner_step s) (winner_step s o x) rows)) (append_snoc before x rows)
    (all-best (before ++ (x ∷ [])) rows s (winner_step s o x) (step before s x o b))

best : (rows : List VendorQuote) (s : ℕ) → Best rows s (winner rows s)
best rows s = all-best [] rows s None tt

pub winner-wins : (rows : List VendorQuote) (s : ℕ) (r : VendorQuote) → winner rows s ≡ Some r → Wins rows s r
winner-wins rows s r e = subst (Best rows s) e (best rows s)

-- a row that is given has a winner of its symbol
pub some-wins : (rows : List VendorQuote) (x : VendorQuote) → Among x rows → winner rows x.symbol ≡ None → ⊥
some-wins rows x h e = all-at (λ y. y.symbol ≡ x.symbol → ⊥) x rows (subst (Best rows x.symbol) e (best rows x.symbol)) h refl
