-- The rows by symbol as the loop of `newest` keeps them: what stands is what wins among the rows so far. Assumes nothing.
use Prim.Native.Nat.{ℕ, ◌≤◌, ◌<◌}
use native.Mathlib.Omega.{arith}
use mathlib.Core.Bool.{Bool, true, false, cond}
use mathlib.Core.List.{List, [], ◌∷◌, ◌++◌, foldl-append}
use Rattle.std.specs.declared.option.Option.{Option}
use Rattle.std.specs.declared.option.Option.TheVariants.{None, Some}
use mathlib.Core.Path.{◌≡◌, refl, ap, sym, ◌∙◌}
use borrow.Author.Tests.{eqb-true, eqb-false, ne_eqb}
use lib.Dec.{eqb}
use lib.ListN.{length, set, replicate, length-set, length-replicate, get_or-replicate}
use lib.Seq.{get_or-set_same, get_or-set_other}
use Rattle.market.specs.declared.vendor_quote.VendorQuote.{VendorQuote}
use Rattle.corrections.specs.Corrections.{newer_of, winner_step, winner}
use Rattle.corrections.specs.Places.{takes_place, stands_at}

-- the array keeps its length, and has the rows that win among those of l
pub record Standing (l : List VendorQuote) (kept : List (Option VendorQuote)) : Type 0 where
  pub long : length kept ≡ 256
  pub wins : (s : ℕ) → s < 256 → stands_at kept s ≡ winner l s

-- ---- no rows

pub none-standing : Standing [] (replicate 256 None)
none-standing =
    let none : Option VendorQuote = None in
    record { long = length-replicate 256 none; wins = λ s h. get_or-replicate 256 s none none h }

-- ---- one row more

takes-newer : (old : Option VendorQuote) (r : VendorQuote) → takes_place old r ≡ true → newer_of old r ≡ r
takes-newer (Some old) r e = ap (λ (b : Bool). cond b r old) e
takes-newer None r e = refl

stays-newer : (old : Option VendorQuote) (r : VendorQuote) → takes_place old r ≡ false → Some (newer_of old r) ≡ old
stays-newer (Some old) r e = ap (λ (b : Bool). Some (cond b r old)) e
stays-newer None r e = ap (λ (b : Bool). cond b None (Some r)) (sym e)

module _ (l : List VendorQuote) (kept : List (Option VendorQuote)) (k : Standing l kept) (r : VendorQuote) where
  more : (s : ℕ) → winner (l ++ (r ∷ [])) s ≡ cond (eqb r.symbol s) (Some (newer_of (winner l s) r)) (winner l s)
  more s = foldl-append (winner_step s) None l (r ∷ [])

  -- the row counts for its own symbol alone
  more-other : (s : ℕ) → eqb r.symbol s ≡ false → winner (l ++ (r ∷ [])) s ≡ winner l s
  more-other s e = more s ∙ ap (λ (b : Bool). cond b (Some (newer_of (winner l s) r)) (winner l s)) e

  more_same : (s : ℕ) → eqb r.symbol s ≡ true → s < 256 → winner (l ++ (r ∷ [])) s ≡ Some (newer_of (stands_at kept s) r)
  more_same s e h =
      more s
      ∙ ap (λ (b : Bool). cond b (Some (newer_of (winner l s) r)) (winner l s)) e
      ∙ ap (λ (o : Option VendorQuote). Some (newer_of o r)) (sym (k.wins s h))

  -- its symbol is above 255
  pub passes : 256 ≤ r.symbol → Standing (l ++ (r ∷ [])) kept
  passes above = record { long = k.long; wins = λ s h. k.wins s h ∙ sym (more-other s (ne_eqb r.symbol s (λ e. omega arith))) }

  -- it is not newer than the row that stands
  stays_by : takes_place (stands_at kept r.symbol) r ≡ false → (s : ℕ) → s < 256 → (b : Bool) → eqb r.symbol s ≡ b → stands_at kept s ≡ winner (l ++ (r ∷ [])) s
  stays_by t s h true e =
      let here = eqb-true r.symbol s e in
      sym (more_same s e h ∙ stays-newer (stands_at kept s) r (ap (λ (i : ℕ). takes_place (stands_at kept i) r) (sym here) ∙ t))
  stays_by t s h false e = k.wins s h ∙ sym (more-other s e)

  pub stays : takes_place (stands_at kept r.symbol) r ≡ false → Standing (l ++ (r ∷ [])) kept
  stays t = record { long = k.long; wins = λ s h. stays_by t s h (eqb r.symbol s) refl }

  -- it goes to its symbol's place
  module _ (t : takes_place (stands_at kept r.symbol) r ≡ true) (low : r.symbol < 256) where
    placed_by : (s : ℕ) → s < 256 → (b : Bool) → eqb r.symbol s ≡ b → stands_at (set kept r.symbol (Some r)) s ≡ winner (l ++ (r ∷ [])) s
    placed_by s h true e =
        let here = eqb-true r.symbol s e in
        ap (stands_at (set kept r.symbol (Some r))) (sym here)
        ∙ get_or-set_same kept r.symbol (Some r) None (omega (arith, low, k.long))
        ∙ ap Some (sym (takes-newer (stands_at kept s) r (ap (λ (i : ℕ). takes_place (stands_at kept i) r) (sym here) ∙ t)))
        ∙ sym (more_same s e h)
    placed_by s h false e =
        let other : s ≡ r.symbol → ⊥ = λ x. eqb-false r.symbol s e (sym x) in
        get_or-set_other kept r.symbol s (Some r) None other ∙ k.wins s h ∙ sym (more-other s e)

    pub placed : Standing (l ++ (r ∷ [])) (set kept r.symbol (Some r))
    placed = record { long = length-set kept r.symbol (Some r) ∙ k.long; wins = λ s h. placed_by s h (eqb r.symbol s) refl }
