-- `word_at`, called from place to place, gives the words of a line. Assumes nothing.
use Prim.Native.Nat.{ℕ, zero, suc, ◌+◌, ◌-◌, ◌≤◌, ◌<◌, min}
use native.Mathlib.Omega.{arith}
use native.Mathlib.Nat.{not-suc-le-zero, eq-or-lt_of_le}
use mathlib.Core.Path.{◌≡◌, refl, sym, ap, subst, ◌∙◌}
use mathlib.Core.Bool.{Bool, true, false, cond, beq}
use mathlib.Core.List.{List, [], ◌∷◌}
use mathlib.Core.Logic.{⊎_elim}
use lib.Dec.{eqb}
use lib.ListN.{length, get_or, take, drop}
use lib.Seq.{drop-drop}
use Rattle.words.specs.declared.word.Word.{Word}
use Rattle.words.specs.Words.{split, on_first, nonempty, words_of, is_byte, lead, place, word_at, bytes_in}
use Rattle.words.proofs.Places.{lead-on, lead-within, place-within, drop-place}
use Rattle.words.proofs.Splits.{after, split-first}

-- a space, and another byte
abbrev space : ℕ → Bool
space = is_byte 32 true

abbrev other : ℕ → Bool
other = is_byte 32 false

-- ---- a space before the rest of a line makes no word
space-first : (x : ℕ) (l : List ℕ) → eqb x 32 ≡ true → words_of (x ∷ l) ≡ words_of l
unfolding words_of split
space-first x l q = ap (λ (t : Bool). nonempty (cond t ([] ∷ split 32 l) (on_first x (split 32 l)))) q

skip_step : (t : Bool) (x : ℕ) (l : List ℕ) (n : ℕ) → eqb x 32 ≡ t → words_of l ≡ words_of (drop n l) → words_of (x ∷ l) ≡ words_of (drop (cond (beq t false) 0 (suc n)) (x ∷ l))
skip_step true x l n q e = space-first x l q ∙ e
skip_step false x l n q e = refl

skip-spaces : (l : List ℕ) → words_of l ≡ words_of (drop (lead other l) l)
unfolding lead
skip-spaces [] = refl
skip-spaces (x ∷ l) = skip_step (eqb x 32) x l (lead other l) refl (skip-spaces l)

-- where no byte stands before the next space, none is left
none-step : (t : Bool) (x : ℕ) (l : List ℕ) (n : ℕ) → eqb x 32 ≡ t → (lead space (drop n l) ≡ 0 → drop n l ≡ []) → lead space (drop (cond (beq t false) 0 (suc n)) (x ∷ l)) ≡ 0 → drop (cond (beq t false) 0 (suc n)) (x ∷ l) ≡ []
none-step true x l n q f h = f h
none-step false x l n q f h =
    let bad : ⊥ = omega (arith, lead-on space x l (ap (λ (t : Bool). beq t true) q)) in
    absurd bad

none-there : (l : List ℕ) → lead space (drop (lead other l) l) ≡ 0 → drop (lead other l) l ≡ []
unfolding lead
none-there [] h = refl
none-there (x ∷ l) h = none-step (eqb x 32) x l (lead other l) refl (none-there l) h

-- ---- a word, and what stands behind it
behind-step : (t : Bool) (x : ℕ) (l : List ℕ) (n : ℕ) → eqb x 32 ≡ t → nonempty (after 32 (drop n l)) ≡ words_of (drop n l) → nonempty (after 32 (drop (cond (beq t true) 0 (suc n)) (x ∷ l))) ≡ words_of (drop (cond (beq t true) 0 (suc n)) (x ∷ l))
unfolding words_of
behind-step true x l n q e = sym (space-first x l q)
behind-step false x l n q e = e

behind : (l : List ℕ) → nonempty (after 32 (drop (lead space l) l)) ≡ words_of (drop (lead space l) l)
unfolding lead words_of split
behind [] = refl
behind (x ∷ l) = behind-step (eqb x 32) x l (lead space l) refl (behind l)

kept : (l : List ℕ) (n : ℕ) (ps : List (List ℕ)) → 0 < n → n ≤ length l → nonempty (take n l ∷ ps) ≡ take n l ∷ nonempty ps
kept l zero ps h k = absurd (not-suc-le-zero h)
kept [] (suc n) ps h k = absurd (not-suc-le-zero k)
kept (x ∷ l) (suc n) ps h k = refl

first_word : (l : List ℕ) → 0 < lead space l → words_of l ≡ take (lead space l) l ∷ words_of (drop (lead space l) l)
unfolding words_of
first_word l h =
    ap nonempty (split-first 32 l)
    ∙ kept l (lead space l) (after 32 (drop (lead space l) l)) h (lead-within space l)
    ∙ ap (λ (ps : List (List ℕ)). take (lead space l) l ∷ ps) (behind l)

not-nil : {ws vs : List (List ℕ)} {w : List ℕ} → ws ≡ w ∷ vs → ws ≡ [] → ⊥
not-nil e f = let z : ◌≡◌ {A = ℕ} 0 1 = cc in omega arith

-- ---- the word at or after a place
module _ (l : List ℕ) (at : ℕ) where
  -- its places
  pub at_from : min at (length l) ≤ (word_at l at).from
  unfolding word_at
  at_from = omega arith

  pub from-to : (word_at l at).from ≤ (word_at l at).to
  unfolding word_at
  from-to = omega (arith, place-within other l at)

  pub to_end : (word_at l at).to ≤ length l
  unfolding word_at
  to_end = place-within space l (place other l at)

  width : (word_at l at).to ≡ (word_at l at).from + lead space (drop (word_at l at).from l)
  unfolding word_at
  width = omega (arith, place-within other l at)

  from-there : words_of (drop at l) ≡ words_of (drop (word_at l at).from l)
  unfolding word_at
  from-there = skip-spaces (drop at l) ∙ ap words_of (sym (drop-place other l at))

  -- it is the next word of the line, and the others stand behind it
  pub next_word : (word_at l at).from < (word_at l at).to → words_of (drop at l) ≡ bytes_in l (word_at l at) ∷ words_of (drop (word_at l at).to l)
  next_word h =
      let from = (word_at l at).from in
      let n = lead space (drop from l) in
      let some : 0 < n = omega (arith, width) in
      let size : n ≡ (word_at l at).to - from = omega (arith, width) in
      from-there
      ∙ first_word (drop from l) some
      ∙ ap (λ (k : ℕ). take k (drop from l) ∷ words_of (drop n (drop from l))) size
      ∙ ap (λ (m : List ℕ). bytes_in l (word_at l at) ∷ words_of m) (drop-drop n from l ∙ ap (λ (k : ℕ). drop k l) (sym width))

  -- it is empty just where no word is left
  pub no-word-left : (word_at l at).from ≡ (word_at l at).to → words_of (drop at l) ≡ []
  unfolding word_at words_of split
  no-word-left h =
      let none : lead space (drop (place other l at) l) ≡ 0 = omega (arith, width) in
      skip-spaces (drop at l) ∙ ap words_of (none-there (drop at l) (ap (lead space) (sym (drop-place other l at)) ∙ none))

  pub no_word : words_of (drop at l) ≡ [] → (word_at l at).from ≡ (word_at l at).to
  no_word h = ⊎_elim (λ e. e) (λ k. absurd (not-nil (next_word k) h)) (eq-or-lt_of_le from-to)

-- ---- the same of what `word_at` answers
module _ (l : List ℕ) (at : ℕ) {r : Word} (e : r ≡ word_at l at) where
  pub ordered : r.from ≤ r.to
  ordered = subst (λ (w : Word). w.from ≤ w.to) (sym e) (from-to l at)

  pub within : r.to ≤ length l
  within = subst (λ (w : Word). w.to ≤ length l) (sym e) (to_end l at)

  pub beyond : min at (length l) ≤ r.from
  beyond = subst (λ (w : Word). min at (length l) ≤ w.from) (sym e) (at_from l at)

  pub next_of : r.from < r.to → words_of (drop at l) ≡ bytes_in l r ∷ words_of (drop r.to l)
  next_of = subst (λ (w : Word). w.from < w.to → words_of (drop at l) ≡ bytes_in l w ∷ words_of (drop w.to l)) (sym e) (next_word l at)

  pub none_of : r.to ≤ r.from → words_of (drop at l) ≡ []
  none_of h =
      let same : r.from ≡ r.to = omega (arith, ordered) in
      no-word-left l at (ap (λ (w : Word). w.from) (sym e) ∙ same ∙ ap (λ (w : Word). w.to) e)

  -- its bytes are the first word that is left, and the others stand behind it; where none is left it is empty
  pub first-of : bytes_in l r ≡ get_or (words_of (drop at l)) 0 []
  first-of =
      ⊎_elim
      (λ h. let z : r.to - r.from ≡ 0 = omega arith in ap (λ (k : ℕ). take k (drop r.from l)) z ∙ sym (ap (λ (ws : List (List ℕ)). get_or ws 0 []) (none_of (omega arith))))
      (λ h. sym (ap (λ (ws : List (List ℕ)). get_or ws 0 []) (next_of h)))
      (eq-or-lt_of_le ordered)

  pub rest-of : words_of (drop r.to l) ≡ drop 1 (words_of (drop at l))
  rest-of =
      ⊎_elim
      (λ h.
      let none = none_of (omega arith) in
      ap (λ (k : ℕ). words_of (drop k l)) (sym h)
      ∙ ap (λ (w : Word). words_of (drop w.from l)) e
      ∙ sym (from-there l at)
      ∙ none
      ∙ sym (ap (drop 1) none))
      (λ h. sym (ap (drop 1) (next_of h)))
      (eq-or-lt_of_le ordered)

-- ---- no word is empty: where the first one is, none is left
nonempty-none : (ps : List (List ℕ)) → get_or (nonempty ps) 0 [] ≡ [] → nonempty ps ≡ []
nonempty-none [] e = refl
nonempty-none ([] ∷ ps) e = nonempty-none ps e
nonempty-none ((x ∷ p) ∷ ps) e = absurd (let z : ◌≡◌ {A = ℕ} 0 1 = cc in omega arith)

pub no-first : (l : List ℕ) → get_or (words_of l) 0 [] ≡ [] → words_of l ≡ []
unfolding words_of
no-first l e = nonempty-none (split 32 l) e
