-- Texts split by a byte: the first part ends at the first such byte, and the others are those of what stands behind it. Assumes nothing.
use Prim.Native.Nat.{ℕ, zero, suc, ◌+◌, ◌-◌, ◌≤◌, ◌<◌}
use native.Mathlib.Numerals.{add-one}
use native.Mathlib.Omega.{arith}
use mathlib.Core.Path.{◌≡◌, refl, sym, ap, ◌∙◌}
use mathlib.Core.Bool.{Bool, true, false, cond, beq}
use mathlib.Core.List.{List, [], ◌∷◌}
use native.Mathlib.Nat.{not-suc-le-zero}
use lib.Dec.{eqb}
use lib.ListN.{length, get_or, take, drop, drop_of_length-le}
use lib.Seq.{drop-cons, drop-drop}
use Rattle.std.specs.declared.option.Option.{Option}
use Rattle.std.specs.declared.option.Option.TheVariants.{None, Some}
use Rattle.std.specs.Option.{option_map, unwrap_or}
use Rattle.std.specs.List.{slice_split, slice_get, onto_first}
use Rattle.std.proofs.lemmas.Option.{unwrap_or-slice_get}
use denote.Ref.{Bor}
use Rattle.words.specs.Words.{split, on_first, is_byte, lead, place, bytes_in}

-- the parts behind the first one, of what stands from the first byte b on
abbrev pub after : ℕ → List ℕ → List (List ℕ)
after b [] = []
after b (y ∷ m) = split b m

-- ---- the first part
module _ (b : ℕ) where
  first_step : (t : Bool) (x : ℕ) (l : List ℕ) (n : ℕ) (ps : List (List ℕ)) → ps ≡ take n l ∷ after b (drop n l) → cond t ([] ∷ split b l) (on_first x ps) ≡ take (cond (beq t true) 0 (suc n)) (x ∷ l) ∷ after b (drop (cond (beq t true) 0 (suc n)) (x ∷ l))
  first_step true x l n ps e = refl
  first_step false x l n ps e = ap (on_first x) e

  pub split-first : (l : List ℕ) → split b l ≡ take (lead (is_byte b true) l) l ∷ after b (drop (lead (is_byte b true) l) l)
  unfolding split lead
  split-first [] = refl
  split-first (x ∷ l) = first_step (eqb x b) x l (lead (is_byte b true) l) (split b l) (split-first l)

pub some-part : (b : ℕ) (l : List ℕ) → 0 < length (split b l)
some-part b l = omega (arith, ap length (split-first b l))

-- ---- they are the library's parts of a slice
like-first : (x : ℕ) (ps : List (List ℕ)) → on_first x ps ≡ onto_first x ps
like-first x [] = refl
like-first x (p ∷ ps) = refl

pub split-is : (b : ℕ) (l : List ℕ) → split b l ≡ slice_split (λ x. eqb x b) l
unfolding split
split-is b [] = refl
split-is b (x ∷ l) =
    ap (λ (ps : List (List ℕ)). cond (eqb x b) ([] ∷ ps) (on_first x ps)) (split-is b l)
    ∙ ap (cond (eqb x b) ([] ∷ slice_split (λ x. eqb x b) l)) (like-first x (slice_split (λ x. eqb x b) l))

-- the part behind k of them, empty where there are fewer
pub one_of : (r : Option (Bor (List ℕ))) (none : Bor (List ℕ)) (ps : List (List ℕ)) (k : ℕ) → option_map (λ x. x.now) r ≡ slice_get ps k → none.now ≡ [] → (unwrap_or r none).now ≡ get_or ps k []
one_of None none ps k e h = h ∙ ap (λ (o : Option (List ℕ)). unwrap_or o []) e ∙ unwrap_or-slice_get ps k []
one_of (Some x) none ps k e h = ap (λ (o : Option (List ℕ)). unwrap_or o []) e ∙ unwrap_or-slice_get ps k []

-- no byte stands between a place and itself
pub nothing : (l : List ℕ) (n : ℕ) → bytes_in l (record { from = n; to = n }) ≡ []
nothing l n = let e : n - n ≡ 0 = omega arith in ap (λ (k : ℕ). take k (drop n l)) e

-- ---- the part behind k bytes b, found from a place on
module _ (b : ℕ) (l : List ℕ) (from to : ℕ) (h : from ≤ length l) (e : to ≡ place (is_byte b true) l from) where
  width : to - from ≡ lead (is_byte b true) (drop from l)
  width = omega arith

  -- the part that starts here
  pub this-part : bytes_in l (record { from = from; to = to }) ≡ get_or (split b (drop from l)) 0 []
  this-part =
      ap (λ (n : ℕ). take n (drop from l)) width
      ∙ ap (λ (ps : List (List ℕ)). get_or ps 0 []) (sym (split-first b (drop from l)))

  behind : drop (lead (is_byte b true) (drop from l)) (drop from l) ≡ drop to l
  behind =
      drop-drop (lead (is_byte b true) (drop from l)) from l
      ∙ let q : from + lead (is_byte b true) (drop from l) ≡ to = omega arith in
      ap (λ (n : ℕ). drop n l) q

  later : (k : ℕ) → get_or (split b (drop from l)) (suc k) [] ≡ get_or (after b (drop to l)) k []
  later k =
      ap (λ (ps : List (List ℕ)). get_or ps (suc k) []) (split-first b (drop from l))
      ∙ ap (λ (m : List ℕ). get_or (after b m) k []) behind

  -- none behind it
  pub last-part : (k : ℕ) → to ≡ length l → 0 < k → get_or (split b (drop from l)) k [] ≡ []
  last-part zero q g = absurd (not-suc-le-zero g)
  last-part (suc k) q g =
      let n : length l ≤ to = omega arith in
      later k ∙ ap (λ (m : List ℕ). get_or (after b m) k []) (drop_of_length-le l n)

  -- the next one starts behind its end
  pub next-part : (k : ℕ) → to < length l → 0 < k → get_or (split b (drop (to + 1) l)) (k - 1) [] ≡ get_or (split b (drop from l)) k []
  next-part zero q g = absurd (not-suc-le-zero g)
  next-part (suc k) q g =
      let j : suc k - 1 ≡ k = omega arith in
      ap (λ (n : ℕ). get_or (split b (drop (to + 1) l)) n []) j
      ∙ ap (λ (n : ℕ). get_or (split b (drop n l)) k []) (add-one to)
      ∙ ap (λ (m : List ℕ). get_or (after b m) k []) (sym (drop-cons l to 0 q))
      ∙ sym (later k)
