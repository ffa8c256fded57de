-- A text stored in an array from a place on: byte by byte from its end, and read back. Assumes nothing.
use Prim.Native.Nat.{ℕ, zero, suc, ◌+◌, ◌-◌, ◌/◌, ◌%◌, ◌≤◌, ◌<◌}
use native.Mathlib.Omega.{arith}
use mathlib.Core.Path.{◌≡◌, sym, ap, ◌∙◌}
use mathlib.Core.List.{List, [], ◌∷◌, ◌++◌, append-nil, append_assoc}
use lib.ListN.{length, take, drop, set, length-append, length-set, take-append-drop}
use lib.Seq.{drop-cons, take-set-le, drop-set-lt, get_or-set_same, take_at, length-take-le}
use Rattle.lists.specs.Lists.{stored}
use Rattle.numerals.specs.Numerals.{glyph, last_digits, Spells}
use Rattle.numerals.specs.declared.spelled.Spelled.{Spelled}
use Rattle.numerals.proofs.Digits.{length_last}

module _ {A : Type 0} where
  -- the last element stored first
  stored-snoc : (d l : List A) (at : ℕ) (a : A) → at + length l < length d → stored (set d (at + length l) a) at l ≡ stored d at (l ++ (a ∷ []))
  stored-snoc d l at a h =
      let m = at + length l in
      let w : m < length (set d m a) = rw length-set h in
      let e : at + length (l ++ (a ∷ [])) ≡ suc m = simp length-append (omega arith) in
      rw (take-set-le at d m a (omega arith), drop-cons (set d m a) m a w, get_or-set_same d m a a h, drop-set-lt (suc m) d m a (omega arith), e) (simp append_assoc)

  pub stored-none : (d : List A) (at : ℕ) → stored d at [] ≡ d
  stored-none d at = let z : at + 0 ≡ at = omega arith in rw (z, append-nil, take-append-drop)

  -- the array up to the text's end
  pub take-stored : (d l : List A) (at n : ℕ) → at ≤ length d → n ≡ at + length l → take n (stored d at l) ≡ take at d ++ l
  take-stored d l at n h e =
      take_at (take at d ++ l) (drop (at + length l) d) n (length-append (take at d) l ∙ omega (arith, length-take-le at d h))

-- the last of i digits stored: the others are still to be stored
pub stored-digit : (d : List ℕ) (at base i n : ℕ) → 0 < i → at + i ≤ length d →
    stored (set d (at + (i - 1)) (glyph (n % base))) at (last_digits base (i - 1) (n / base)) ≡ stored d at (last_digits base i n)
unfolding last_digits
stored-digit d at base zero n z h = absurd (omega arith)
stored-digit d at base (suc j) n z h =
    let q : suc j - 1 ≡ j = omega arith in
    let l = last_digits base j (n / base) in
    let m : length l ≡ j = length_last base j (n / base) in
    rw q (ap (λ (i : ℕ). stored (set d (at + i) (glyph (n % base))) at l) (sym m) ∙ stored-snoc d l at (glyph (n % base)) (omega arith))

-- the array that spells a text: k digits behind the bytes before them
pub spells : (d : List ℕ) (at base k n : ℕ) (text : List ℕ) (r : Spelled) → at ≤ length d → text ≡ take at d ++ last_digits base k n →
    r.count ≡ at + k → r.bytes ≡ stored d at (last_digits base k n) → Spells text r
spells d at base k n text r h t c b =
    let l = last_digits base k n in
    let m : r.count ≡ at + length l = omega (arith, length_last base k n) in
    record {
      count = omega (arith, ap length t ∙ length-append (take at d) l, length-take-le at d h);
      bytes = ap (take r.count) b ∙ take-stored d l at r.count h m ∙ sym t;
    }
