-- The words of a list, passed one by one, and rows read off the first words. Assumes nothing.
use Prim.Native.Nat.{ℕ, zero, suc, ◌+◌, ◌-◌, ◌≤◌, ◌<◌, min}
use native.Mathlib.Nat.{zero-add, add-zero}
use native.Mathlib.Numerals.{add-one}
use native.Mathlib.Omega.{arith}
use mathlib.Core.Path.{◌≡◌, refl, sym, ap, ◌∙◌}
use mathlib.Core.Bool.{Bool, true, false, ◌&&◌, ◌||◌, beq}
use mathlib.Core.List.{List, [], ◌∷◌, ◌++◌, map, foldl, append-nil, append_assoc, map-append}
use mathlib.Core.Logic.{◌⊎◌, ⊎_elim, inl, inr}
use Rattle.std.specs.declared.option.Option.{Option}
use Rattle.std.specs.declared.option.Option.TheVariants.{None, Some}
use borrow.Author.Tests.{le-leb, lt-leb, ne_eqb, eqb-false}
use lib.Dec.{eqb, leb}
use lib.ListN.{length, drop, set, replicate, length-append, length-map, length-replicate}
use lib.Seq.{drop-drop}
use Rattle.lists.specs.Lists.{over}
use Rattle.lists.proofs.Over.{over-more}
use Rattle.words.specs.Numbers.{some_if}
use Rattle.words.specs.Words.{words_of, same_bytes}
use Rattle.words.proofs.Words.{no-first}
use Rattle.costs.specs.Kept.{no_costs}
use Rattle.costs.specs.declared.TradeCosts.{TradeCosts}
use Rattle.calls.specs.Lists.{Words, Listed, first_of, rest_of, first_words, is_slash, until_slash, has_slash, behind_slash, is_row, are_rows, list_of, words_in, spanned, cost_step, read_costs}

-- ---- the first words
pub length-first : (n : ℕ) (ws : Words) → length (first_words n ws) ≡ n
unfolding first_words
length-first zero ws = refl
length-first (suc n) ws = ap suc (length-first n (rest_of ws))

drop-rest : (n : ℕ) (ws : Words) → drop n (rest_of ws) ≡ drop (n + 1) ws
drop-rest n ws = let e : 1 + n ≡ n + 1 = omega arith in drop-drop n 1 ws ∙ ap (λ (k : ℕ). drop k ws) e

pub first_more : (n : ℕ) (ws : Words) → first_words (n + 1) ws ≡ first_words n ws ++ (first_of (drop n ws) ∷ [])
unfolding first_words
first_more zero ws = refl
first_more (suc n) ws =
    ap (λ (k : ℕ). first_words k ws) (add-one (suc n))
    ∙ ap (λ (vs : Words). first_of ws ∷ vs) (ap (λ (k : ℕ). first_words k (rest_of ws)) (sym (add-one n)) ∙ first_more n (rest_of ws))
    ∙ ap (λ (vs : Words). first_of ws ∷ (first_words n (rest_of ws) ++ (first_of vs ∷ []))) (drop-rest n ws ∙ ap (λ (k : ℕ). drop k ws) (add-one n))

and-false : (t : Bool) → (t && false) ≡ false
and-false true = refl
and-false false = refl

-- ---- a list whose words ks were passed, with the words ws left
module _ {A : Type 0} (row : List ℕ → Option A) (most : ℕ) (before : Bool) where
  unfoldable pub after : Words → Words → Option Listed
  after ks ws =
      some_if (are_rows row (until_slash ws) && leb (length ks + length (until_slash ws)) most && beq (has_slash ws) before)
      (record { words = ks ++ until_slash ws; behind = behind_slash ws })

  at_first : (ws : Words) → after [] ws ≡ list_of row most before ws
  unfolding list_of after
  at_first ws = rw (zero-add (length (until_slash ws)))

  module _ (ks : Words) where
    no_more : length ks ≤ most → some_if (beq false before) (record { words = ks; behind = [] }) ≡ after ks []
    unfolding after until_slash has_slash behind_slash are_rows
    no_more h = rw (add-zero (length ks), le-leb (length ks) most h, append-nil ks)

    module _ (w : List ℕ) (ws : Words) where
      at-slash : is_slash w ≡ true → length ks ≤ most → some_if (beq true before) (record { words = ks; behind = ws }) ≡ after ks (w ∷ ws)
      unfolding after until_slash has_slash behind_slash are_rows
      at-slash e h = rw (e, add-zero (length ks), le-leb (length ks) most h, append-nil ks)

      too_many : is_slash w ≡ false → most ≤ length ks → None ≡ after ks (w ∷ ws)
      unfolding after until_slash has_slash behind_slash are_rows
      too_many e h =
          rw (
            e,
            lt-leb (length ks + suc (length (until_slash ws))) most (omega arith),
            and-false (is_row row w && are_rows row (until_slash ws)),
          )

      no_row : is_slash w ≡ false → is_row row w ≡ false → None ≡ after ks (w ∷ ws)
      unfolding after until_slash has_slash behind_slash are_rows
      no_row e h = rw (e, h)

      one_more : is_slash w ≡ false → is_row row w ≡ true → after (ks ++ (w ∷ [])) ws ≡ after ks (w ∷ ws)
      unfolding after until_slash has_slash behind_slash are_rows
      one_more e h =
          let q : length (ks ++ (w ∷ [])) + length (until_slash ws) ≡ length ks + suc (length (until_slash ws)) = omega (arith, length-append ks (w ∷ [])) in
          rw (e, h, append_assoc ks (w ∷ []) (until_slash ws), q)

-- the words of a list that were passed, up to a place of the line
pub record Passed (line : List ℕ) (at : ℕ) {A : Type 0} (row : List ℕ → Option A) (most : ℕ) (before : Bool) (i count : ℕ) : Type 0 where
  pub few : count ≤ most
  pub left : words_of (drop i line) ≡ drop count (words_of (drop at line))
  pub same : after row most before (first_words count (words_of (drop at line))) (words_of (drop i line)) ≡ list_of row most before (words_of (drop at line))

pub none_passed : (line : List ℕ) (at : ℕ) {A : Type 0} (row : List ℕ → Option A) (most : ℕ) (before : Bool) → Passed line at row most before at 0
unfolding first_words
none_passed line at row most before = record { few = omega arith; left = refl; same = at_first row most before (words_of (drop at line)) }

or-false : (t v : Bool) → (t || v) ≡ false → (t ≡ false) × (v ≡ false)
or-false true v e = let z : ◌≡◌ {A = ℕ} 0 1 = cc in let bad : ⊥ = omega arith in absurd bad
or-false false v e = (refl, e)

or-true : (t v : Bool) → (t || v) ≡ true → v ≡ false → t ≡ true
or-true true v e f = refl
or-true false v e f = sym f ∙ e

not-slash : is_slash [] ≡ false
unfolding same_bytes
not-slash = refl

-- the code's test that a list ends: at a slash, or where no word is left
pub tested : (slash : Bool) {empty b : Bool} (w : List ℕ) → empty ≡ eqb (length w) 0 → (slash || empty) ≡ b → (slash || eqb (length w) 0) ≡ b
tested slash w e t = ap (λ (v : Bool). slash || v) (sym e) ∙ t

nil-or : (w : List ℕ) → (w ≡ []) ⊎ (0 < length w)
nil-or [] = inl refl
nil-or (x ∷ w) = inr (omega arith)

some-first : (ws : Words) → (first_of ws ≡ [] → ⊥) → ws ≡ first_of ws ∷ rest_of ws
some-first [] h = absurd (h refl)
some-first (w ∷ ws) h = refl

-- w is the first of the words at i, and the others stand at `next`
module _ (line : List ℕ) (at : ℕ) {A : Type 0} (row : List ℕ → Option A) (most : ℕ) (before : Bool) (i count : ℕ) (p : Passed line at row most before i count) {w : List ℕ} (next : ℕ) (e : w ≡ first_of (words_of (drop i line))) (f : words_of (drop next line) ≡ rest_of (words_of (drop i line))) (slash : Bool) (s : slash ≡ is_slash w) where
  abbrev ks : Words
  ks = first_words count (words_of (drop at line))

  size : length ks ≡ count
  size = length-first count (words_of (drop at line))

  abbrev ended : Bool → Words → Option Listed
  ended b vs = some_if (beq b before) (record { words = ks; behind = vs })

  none : w ≡ [] → words_of (drop i line) ≡ []
  none h = no-first (drop i line) (sym e ∙ h)

  some : 0 < length w → words_of (drop i line) ≡ w ∷ words_of (drop next line)
  some h =
      some-first (words_of (drop i line)) (λ q. omega (arith, ap length (e ∙ q)))
      ∙ ap (λ (v : List ℕ). v ∷ rest_of (words_of (drop i line))) (sym e)
      ∙ ap (λ (vs : Words). w ∷ vs) (sym f)

  -- the list ends here: no word is left, or the word is a slash
  at-line-end : w ≡ [] → ended slash (words_of (drop next line)) ≡ list_of row most before (words_of (drop at line))
  at-line-end h =
      ap (λ (b : Bool). ended b (words_of (drop next line))) (s ∙ ap is_slash h ∙ not-slash)
      ∙ ap (ended false) (f ∙ ap rest_of (none h))
      ∙ no_more row most before ks (omega (arith, size, p.few))
      ∙ ap (after row most before ks) (sym (none h))
      ∙ p.same

  at-a-slash : slash ≡ true → 0 < length w → ended slash (words_of (drop next line)) ≡ list_of row most before (words_of (drop at line))
  at-a-slash t h =
      ap (λ (b : Bool). ended b (words_of (drop next line))) t
      ∙ at-slash row most before ks w (words_of (drop next line)) (sym s ∙ t) (omega (arith, size, p.few))
      ∙ ap (after row most before ks) (sym (some h))
      ∙ p.same

  ends : (slash || eqb (length w) 0) ≡ true → ended slash (words_of (drop next line)) ≡ list_of row most before (words_of (drop at line))
  ends t =
      ⊎_elim at-line-end
      (λ h. at-a-slash (or-true slash (eqb (length w) 0) t (ne_eqb (length w) 0 (λ q. omega arith))) h)
      (nil-or w)

  -- as it should, or not
  pub ends-well : (slash || eqb (length w) 0) ≡ true → beq slash before ≡ true → spanned line (Some (record { at = at; count = count; next = next })) ≡ list_of row most before (words_of (drop at line))
  unfolding spanned words_in
  ends-well t b = ap (λ (u : Bool). some_if u (record { words = ks; behind = words_of (drop next line) })) (sym b) ∙ ends t

  pub ends-ill : (slash || eqb (length w) 0) ≡ true → beq slash before ≡ false → None ≡ list_of row most before (words_of (drop at line))
  ends-ill t b = ap (λ (u : Bool). some_if u (record { words = ks; behind = words_of (drop next line) })) (sym b) ∙ ends t

  -- another word is here
  module _ (t : (slash || eqb (length w) 0) ≡ false) where
    no_slash : is_slash w ≡ false
    no_slash = sym s ∙ (or-false slash (eqb (length w) 0) t).0

    some_byte : 0 < length w
    some_byte =
        let q : length w ≡ 0 → ⊥ = eqb-false (length w) 0 (or-false slash (eqb (length w) 0) t).1 in
        omega arith

    here : words_of (drop i line) ≡ w ∷ words_of (drop next line)
    here = some some_byte

    pub fewer : length (words_of (drop next line)) < length (words_of (drop i line))
    fewer = omega (arith, ap length here)

    pub many : most ≤ count → None ≡ list_of row most before (words_of (drop at line))
    many h =
        too_many row most before ks w (words_of (drop next line)) no_slash (omega (arith, size))
        ∙ ap (after row most before ks) (sym here)
        ∙ p.same

    pub unfit : is_row row w ≡ false → None ≡ list_of row most before (words_of (drop at line))
    unfit h =
        no_row row most before ks w (words_of (drop next line)) no_slash h
        ∙ ap (after row most before ks) (sym here)
        ∙ p.same

    first-here : first_of (drop count (words_of (drop at line))) ≡ w
    first-here = ap first_of (sym p.left) ∙ sym e

    pub passed-more : count < most → is_row row w ≡ true → Passed line at row most before next (count + 1)
    passed-more h q =
        record {
          few = omega arith;
          left = f ∙ ap rest_of p.left ∙ drop-drop 1 count (words_of (drop at line));
          same =
              ap (λ (vs : Words). after row most before vs (words_of (drop next line)))
              (first_more count (words_of (drop at line)) ∙ ap (λ (w : List ℕ). ks ++ (w ∷ [])) first-here)
              ∙ one_more row most before ks w (words_of (drop next line)) no_slash q
              ∙ ap (after row most before ks) (sym here)
              ∙ p.same;
        }

-- ---- rows read off the first words, stored one by one in an array of blanks
module _ {A : Type 0} (f : List ℕ → A) (blank : A) (most : ℕ) (line : List ℕ) (at n : ℕ) where
  pub record Filled (list : List A) (place i : ℕ) : Type 0 where
    pub few : i ≤ n
    pub room : i ≤ most
    pub left : words_of (drop place line) ≡ drop i (words_of (drop at line))
    pub stored : list ≡ over (map f (first_words i (words_of (drop at line)))) (replicate most blank)

  pub none_filled : (list : List A) → list ≡ replicate most blank → Filled list at 0
  unfolding first_words
  none_filled list e = record { few = omega arith; room = omega arith; left = refl; stored = e }

  module _ (list : List A) (place i : ℕ) (p : Filled list place i) where
    pub filled_more : {w : List ℕ} (next : ℕ) → w ≡ first_of (words_of (drop place line)) → words_of (drop next line) ≡ rest_of (words_of (drop place line)) → (x : A) → x ≡ f w → i < min n most → Filled (set list i x) next (i + 1)
    filled_more next e d x q h =
        let ws = words_of (drop at line) in
        let size : i ≡ length (map f (first_words i ws)) = sym (length-map (first_words i ws) f ∙ length-first i ws) in
        let fits : length (map f (first_words i ws)) < length (replicate most blank) = omega (arith, length-replicate most blank) in
        record {
          few = omega arith;
          room = omega arith;
          left = d ∙ ap rest_of p.left ∙ drop-drop 1 i ws;
          stored =
              ap (λ (l : List A). set l i x) p.stored
              ∙ over-more (map f (first_words i ws)) (replicate most blank) i x size fits
              ∙ ap (λ (y : A). over (map f (first_words i ws) ++ (y ∷ [])) (replicate most blank)) (q ∙ ap f (e ∙ ap first_of p.left))
              ∙ ap (λ (l : List A). over l (replicate most blank)) (sym (map-append f (first_words i ws) (first_of (drop i ws) ∷ [])) ∙ ap (map f) (sym (first_more i ws)));
        }

    pub all-filled : min n most ≤ i → list ≡ over (map f (first_words (min n most) (words_of (drop at line)))) (replicate most blank)
    all-filled h =
        let e : i ≡ min n most = omega (arith, p.few, p.room) in
        p.stored ∙ ap (λ (k : ℕ). over (map f (first_words k (words_of (drop at line)))) (replicate most blank)) e

-- ---- costs read off the first words, one after the other
module _ (line : List ℕ) (at n : ℕ) where
  pub record Gathered (list : TradeCosts) (place i : ℕ) : Type 0 where
    pub few : i ≤ n
    pub same : foldl cost_step list (first_words (n - i) (words_of (drop place line))) ≡ read_costs n (words_of (drop at line))

  pub none-gathered : (list : TradeCosts) → list ≡ no_costs → Gathered list at 0
  unfolding read_costs
  none-gathered list e =
      let z : n - 0 ≡ n = omega arith in
      record { few = omega arith; same = ap (λ (l : TradeCosts). foldl cost_step l (first_words (n - 0) (words_of (drop at line)))) e ∙ ap (λ (k : ℕ). foldl cost_step no_costs (first_words k (words_of (drop at line)))) z }

  module _ (list : TradeCosts) (place i : ℕ) (p : Gathered list place i) where
    pub gathered-more : {w : List ℕ} (next : ℕ) → w ≡ first_of (words_of (drop place line)) → words_of (drop next line) ≡ rest_of (words_of (drop place line)) → (l : TradeCosts) → l ≡ cost_step list w → i < n → Gathered l next (i + 1)
    unfolding first_words
    gathered-more next e d l q h =
        let ws = words_of (drop place line) in
        let z : suc (n - (i + 1)) ≡ n - i = omega arith in
        record {
          few = omega arith;
          same =
              ap (λ (vs : Words). foldl cost_step l (first_words (n - (i + 1)) vs)) d
              ∙ ap (λ (c : TradeCosts). foldl cost_step c (first_words (n - (i + 1)) (rest_of ws))) (q ∙ ap (cost_step list) e)
              ∙ ap (λ (k : ℕ). foldl cost_step list (first_words k ws)) z
              ∙ p.same;
        }

    pub all-gathered : n ≤ i → list ≡ read_costs n (words_of (drop at line))
    unfolding first_words
    all-gathered h =
        let z : 0 ≡ n - i = omega arith in
        ap (λ (k : ℕ). foldl cost_step list (first_words k (words_of (drop place line)))) z ∙ p.same
