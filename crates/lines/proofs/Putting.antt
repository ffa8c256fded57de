-- Bytes put behind others in a buffer. Assumes nothing.
use Prim.Native.Nat.{ℕ, suc, ◌+◌, ◌≤◌, ◌<◌}
use mathlib.Core.Path.{◌≡◌, refl, ap, sym, subst, ◌∙◌}
use mathlib.Core.List.{List, [], ◌∷◌, ◌++◌, append_assoc, append-nil}
use native.Mathlib.Omega.{arith}
use lib.ListN.{length, get_or, take, drop, set, length-append, length-drop, take-append-drop}
use lib.Seq.{drop-cons, drop-drop, set_at, take_at, drop-append-add, append_snoc, take_all, paste, length_paste_head, length-take-le}
use Rattle.std.proofs.lemmas.Slice.{put_mid-paste}
use borrow.Rule.Slice.PartMut.{put_mid}
use Rattle.lists.specs.Lists.{stored}
use Rattle.numerals.specs.Numerals.{digits, Spells}
use Rattle.numerals.specs.declared.spelled.Spelled.{Spelled}
use Rattle.numerals.proofs.Decimals.{length_digits, places-most}
use Rattle.lines.specs.Writing.{Puts}

-- a field that was copied, and the byte that ends it
module _ (d : List ℕ) (at : ℕ) (k : List ℕ) (n x : ℕ) (room : at + n < length d) (long : n ≤ length k) where
  abbrev field : List ℕ
  field = take n k ++ (x ∷ [])

  field-length : length field ≡ n + 1
  field-length = length-append (take n k) (x ∷ []) ∙ ap (λ (m : ℕ). m + 1) (length-take-le n k long)

  field_stored : set (paste d at k n) (at + n) x ≡ stored d at field
  field_stored =
      let p = take at d ++ take n k in
      let rest = drop (suc (at + n)) d in
      let q : suc (at + n) ≡ at + length field = omega (arith, field-length) in
      ap (λ (l : List ℕ). set (p ++ l) (at + n) x) (drop-cons d (at + n) 0 room)
      ∙ set_at p (get_or d (at + n) 0) rest x (at + n) (length_paste_head d at k n (omega arith) long)
      ∙ sym (append_snoc p x rest)
      ∙ ap (λ (l : List ℕ). l ++ rest) (append_assoc (take at d) (take n k) (x ∷ []))
      ∙ ap (λ (m : ℕ). take at d ++ field ++ drop m d) q

  pub field_put : Puts field at d (at + n + 1) (set (paste d at k n) (at + n) x)
  field_put = record { end = omega (arith, field-length); buffer = field_stored }

-- the same of a part of the buffer, m bytes long, into which the field's first n bytes were copied
pub copied-put : (d : List ℕ) (at : ℕ) (k : List ℕ) (n x m : ℕ) (l : List ℕ) → at + n < length d → n ≤ length k → l ≡ take n k → m ≡ n → Puts (take n k ++ (x ∷ [])) at d (at + n + 1) (set (put_mid at m d l) (at + n) x)
copied-put d at k n x m l room long e f =
    let size : length (take n k) ≡ n = length-take-le n k long in
    rw (put_mid-paste at m d l (take n k) n e (sym f) (sym size))
    (subst (λ (t : List ℕ). Puts (t ++ (x ∷ [])) at d (at + n + 1) (set (paste d at (take n k) n) (at + n) x)) (take_all n (take n k) (omega arith)) (field_put d at (take n k) n x room (omega arith)))

-- nothing put
pub none-put : (at : ℕ) (d : List ℕ) → Puts [] at d at d
none-put at d =
    record {
      end = omega arith;
      buffer =
          sym (
          ap (λ (l : List ℕ). l ++ drop (at + 0) d) (append-nil (take at d))
          ∙ let e : at + 0 ≡ at = omega arith in
          ap (λ (k : ℕ). take at d ++ drop k d) e
          ∙ take-append-drop at d
          );
    }

-- one text put behind another
pub more-put : (x y : List ℕ) (at : ℕ) (d : List ℕ) (m : ℕ) (e : List ℕ) (n : ℕ) (f : List ℕ) → at ≤ length d → Puts x at d m e → Puts y m e n f → Puts (x ++ y) at d n f
more-put x y at d m e n f h a b =
    let p = take at d ++ x in
    let rest = drop (at + length x) d in
    let size : length p ≡ m = length-append (take at d) x ∙ ap (λ (k : ℕ). k + length x) (length-take-le at d h) ∙ sym a.end in
    let q : m + length y ≡ length p + length y = omega arith in
    let j : at + length x + length y ≡ at + length (x ++ y) = omega (arith, length-append x y) in
    record {
      end = omega (arith, a.end, b.end, length-append x y);
      buffer =
          b.buffer
          ∙ ap (λ (l : List ℕ). stored l m y) a.buffer
          ∙ ap (λ (l : List ℕ). l ++ y ++ drop (m + length y) (p ++ rest)) (take_at p rest m size)
          ∙ ap (λ (k : ℕ). p ++ y ++ drop k (p ++ rest)) q
          ∙ ap (λ (l : List ℕ). p ++ y ++ l) (drop-append-add p rest (length y) ∙ drop-drop (length y) (at + length x) d)
          ∙ ap (λ (l : List ℕ). l ++ drop (at + length x + length y) d) (append_assoc (take at d) x y)
          ∙ ap (λ (k : ℕ). take at d ++ (x ++ y) ++ drop k d) j;
    }

-- ---- how far the puts from a place on have come

-- at most k bytes were put, and the buffer keeps its length
pub record Room (k at : ℕ) (d : List ℕ) (n : ℕ) (e : List ℕ) : Type 0 where
  pub most : n ≤ at + k
  pub long : length e ≡ length d

pub room-start : (at : ℕ) (d : List ℕ) → Room 0 at d at d
room-start at d = record { most = omega arith; long = refl }

stored-length : (d : List ℕ) (at : ℕ) (x : List ℕ) → at + length x ≤ length d → length (stored d at x) ≡ length d
stored-length d at x h =
    omega (
      arith,
      length-append (take at d ++ x) (drop (at + length x) d),
      length-append (take at d) x,
      length-take-le at d (omega arith),
      length-drop (at + length x) d,
    )

pub room-more : (k at : ℕ) (d : List ℕ) (m : ℕ) (e : List ℕ) (f : List ℕ) (j n : ℕ) (g : List ℕ) → Room k at d m e → Puts f m e n g → length f ≤ j → at + (k + j) ≤ length d → Room (k + j) at d n g
room-more k at d m e f j n g r p h fits =
    record {
      most = omega (arith, r.most, p.end);
      long = ap length p.buffer ∙ stored-length e m f (omega (arith, r.most, r.long)) ∙ r.long;
    }

-- a spelled field of at most k bytes, with the byte that ends it
module _ (text : List ℕ) (r : Spelled) (s : Spells text r) where
  spelled_is : (x : ℕ) → take r.count r.bytes ++ (x ∷ []) ≡ text ++ (x ∷ [])
  spelled_is x = ap (λ (l : List ℕ). l ++ (x ∷ [])) s.bytes

  pub spelled_count : (k : ℕ) → length text ≤ k → r.count ≤ k
  spelled_count k h = omega (arith, s.count)

  pub spelled-most : (k x : ℕ) → length text ≤ k → length (take r.count r.bytes ++ (x ∷ [])) ≤ k + 1
  spelled-most k x h = omega (arith, ap length (spelled_is x), length-append text (x ∷ []))

  pub spelled-put : (x at : ℕ) (d : List ℕ) (n : ℕ) (e : List ℕ) → Puts (take r.count r.bytes ++ (x ∷ [])) at d n e → Puts (text ++ (x ∷ [])) at d n e
  spelled-put x at d n e p = subst (λ (l : List ℕ). Puts l at d n e) (spelled_is x) p

-- four fields, each with the byte that ends it, are a line
pub fields-line : (a b c d e f : List ℕ) → (a ++ e) ++ (b ++ e) ++ (c ++ e) ++ (d ++ f) ≡ a ++ e ++ b ++ e ++ c ++ e ++ d ++ f
fields-line a b c d e f =
    let x = a ++ e in
    let y = x ++ b ++ e in
    let z = y ++ c ++ e in
    ap (λ (l : List ℕ). l ++ (c ++ e) ++ (d ++ f)) (sym (append_assoc x b e))
    ∙ ap (λ (l : List ℕ). l ++ (d ++ f)) (sym (append_assoc y c e))
    ∙ sym (append_assoc z d f)

-- a symbol has at most three digits
pub symbol-fits : (n : ℕ) → n < 256 → length (digits n) ≤ 3
symbol-fits n h = omega (arith, length_digits n, places-most 2 n (omega arith))
