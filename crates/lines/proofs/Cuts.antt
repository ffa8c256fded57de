-- A text cut at the first byte b: what stands before it, and what stands behind it. Assumes nothing.
use Prim.Native.Nat.{ℕ, suc, ◌<◌}
use mathlib.Core.Bool.{Bool, true, false, cond, beq}
use mathlib.Core.Path.{◌≡◌, refl, ap, sym, ◌∙◌}
use mathlib.Core.List.{List, [], ◌∷◌, ◌++◌}
use native.Mathlib.Numerals.{add-one}
use native.Mathlib.Omega.{arith}
use borrow.Author.Tests.{eq-eqb, eqb-true}
use lib.Dec.{eqb}
use lib.ListN.{length, take, drop}
use lib.Seq.{take_at, drop-append-add}
use Rattle.numerals.proofs.Bytes.{Lacks}
use Rattle.words.specs.Words.{on_first, split, is_byte, lead}
use Rattle.words.proofs.Places.{lead-on}
use Rattle.words.proofs.Splits.{some-part}

-- ---- a byte behind a text that lacks it

pub lead-at : (b : ℕ) (p r : List ℕ) → Lacks b p → lead (is_byte b true) (p ++ b ∷ r) ≡ length p
unfolding lead
lead-at b [] r h = rw (eq-eqb b b refl)
lead-at b (x ∷ p) r h = lead-on (is_byte b true) x (p ++ b ∷ r) (rw h.0) ∙ ap suc (lead-at b p r h.1)

module _ (b : ℕ) (p r : List ℕ) (h : Lacks b p) where
  pub cut-before : take (lead (is_byte b true) (p ++ b ∷ r)) (p ++ b ∷ r) ≡ p
  cut-before = take_at p (b ∷ r) _ (sym (lead-at b p r h))

  pub cut-behind : drop (suc (lead (is_byte b true) (p ++ b ∷ r))) (p ++ b ∷ r) ≡ r
  cut-behind =
      ap (λ (n : ℕ). drop (suc n) (p ++ b ∷ r)) (lead-at b p r h)
      ∙ ap (λ (n : ℕ). drop n (p ++ b ∷ r)) (sym (add-one (length p)))
      ∙ drop-append-add p (b ∷ r) 1

-- ---- a text with something behind its first byte b is its two parts and that byte

parted-by : (t : Bool) (b x n : ℕ) (s : List ℕ) → eqb x b ≡ t →
    ((drop (suc n) s ≡ [] → ⊥) → s ≡ take n s ++ b ∷ drop (suc n) s) →
    (drop (suc (cond (beq t true) 0 (suc n))) (x ∷ s) ≡ [] → ⊥) →
    x ∷ s ≡ take (cond (beq t true) 0 (suc n)) (x ∷ s) ++ b ∷ drop (suc (cond (beq t true) 0 (suc n))) (x ∷ s)
parted-by true b x n s e f h = ap (λ (y : ℕ). y ∷ s) (eqb-true x b e)
parted-by false b x n s e f h = ap (λ (l : List ℕ). x ∷ l) (f h)

pub parted : (b : ℕ) (s : List ℕ) → (drop (suc (lead (is_byte b true) s)) s ≡ [] → ⊥) → s ≡ take (lead (is_byte b true) s) s ++ b ∷ drop (suc (lead (is_byte b true) s)) s
unfolding lead
parted b [] h = absurd (h refl)
parted b (x ∷ s) h = parted-by (eqb x b) b x (lead (is_byte b true) s) s refl (parted b s) h

-- ---- the parts that b separates, joined by it, are the text

abbrev pub joined : ℕ → List (List ℕ) → List ℕ
joined b [] = []
joined b (p ∷ []) = p
joined b (p ∷ q ∷ ps) = p ++ b ∷ joined b (q ∷ ps)

joined_by : (t : Bool) (b x : ℕ) (l : List ℕ) (ps : List (List ℕ)) → eqb x b ≡ t → 0 < length ps → joined b ps ≡ l → joined b (cond t ([] ∷ ps) (on_first x ps)) ≡ x ∷ l
joined_by true b x l [] e h j = absurd (omega arith)
joined_by true b x l (p ∷ ps) e h j = ap (λ (k : List ℕ). b ∷ k) j ∙ ap (λ (y : ℕ). y ∷ l) (sym (eqb-true x b e))
joined_by false b x l [] e h j = absurd (omega arith)
joined_by false b x l (p ∷ []) e h j = ap (λ (k : List ℕ). x ∷ k) j
joined_by false b x l (p ∷ q ∷ ps) e h j = ap (λ (k : List ℕ). x ∷ k) j

pub joined-split : (b : ℕ) (l : List ℕ) → joined b (split b l) ≡ l
unfolding split
joined-split b [] = refl
joined-split b (x ∷ l) = joined_by (eqb x b) b x l (split b l) refl (some-part b l) (joined-split b l)
