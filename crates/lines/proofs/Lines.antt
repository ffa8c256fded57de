-- The lines of an input, one after the other, as the library cuts them. Assumes nothing.
use Prim.Native.Nat.{ℕ, suc, ◌+◌, ◌-◌, ◌≤◌, ◌<◌, min}
use mathlib.Core.Bool.{Bool, true, false, ◌&&◌, cond}
use mathlib.Core.Path.{◌≡◌, refl, ap, sym, subst, ◌∙◌}
use mathlib.Core.Logic.{⊎_elim}
use mathlib.Core.List.{List, [], ◌∷◌, ◌++◌, append_assoc}
use native.Mathlib.Omega.{arith}
use borrow.Author.Tests.{eqb-true}
use denote.Ref.{Bor}
use denote.Param.Members.{Mut}
use lib.Dec.{eqb}
use lib.ListN.{length, get_or, take, drop, length-append, drop_of_length-le, take-append-drop}
use lib.Pointwise.{pointwise}
use lib.Seq.{drop-cons, length-take-le}
use Rattle.std.specs.declared.slice.SplitInclusive.{SplitInclusive}
use Rattle.std.specs.Fn.{ComputesKey, CalledAt}
use Rattle.std.specs.List.{All, IsFirstMatchOrLen}
use Rattle.std.specs.Option.{MatchOption}
use Rattle.std.specs.Slice.Iter.{split_inclusive_rest, split_inclusive_callee}
use Rattle.std.specs.declared.option.Option.{Option}
use Rattle.std.specs.declared.option.Option.TheVariants.{None, Some}
use Rattle.std.proofs.lemmas.Bool.{cases_lt}
use Rattle.std.proofs.lemmas.Fn.{always_returns_same}
use Rattle.std.proofs.lemmas.Grind.{common_steps}
use Rattle.std.proofs.lemmas.Iterator.{YieldsList}
use Rattle.std.proofs.lemmas.Iterator.Splits.{YieldsList-from_shown_while}
use Rattle.std.proofs.lemmas.List.{nil_from_length}
use Rattle.std.proofs.lemmas.List.Splits.{slice_split_none, slice_split_at}
use Rattle.words.specs.Words.{split}
use Rattle.words.proofs.Splits.{split-first, split-is}
use Rattle.lines.specs.Lines.{Line, line_in}
use Rattle.lines.specs.Reading.{unfinished, lines_in, lines_of}

-- no line is left at the end
pub no_lines : lines_of [] ≡ []
unfolding lines_of split
no_lines = refl

-- a part that others follow is a line
more_parts : (s p : List ℕ) (ps qs : List (List ℕ)) → qs ≡ p ∷ ps → lines_in (s ∷ qs) ≡ line_in s ∷ lines_in qs
more_parts s p ps qs e = ap (λ (l : List (List ℕ)). lines_in (s ∷ l)) e ∙ ap (λ (l : List (List ℕ)). line_in s ∷ lines_in l) (sym e)

-- behind the last newline there is none, or a line whose newline is missing
missing : (l : List ℕ) → 0 < length l → unfinished l ≡ None ∷ []
missing [] h = absurd (omega arith)
missing (b ∷ l) h = refl

-- ---- a part that the library cuts: a line with its newline, or the rest where there is none

abbrev newline_at : ℕ → Bool
newline_at x = eqb x 10

-- does a newline end the part?
abbrev pub has_end : List ℕ → Bool
has_end p = pointwise eqb (drop (length p - 1) p) (10 ∷ [])

-- the line that a part is
abbrev pub part_line : List ℕ → Option Line
part_line p = cond (has_end p) (line_in (take (length p - 1) p)) None

-- a text that lacks newlines, with one behind it, is a line
pub line-cut : (p r : List ℕ) → All (λ b. newline_at b ≡ false) p → lines_of (p ++ 10 ∷ r) ≡ line_in p ∷ lines_of r
unfolding lines_of
line-cut p r h =
    ap lines_in (split-is 10 (p ++ 10 ∷ r) ∙ slice_split_at newline_at p 10 r h refl)
    ∙ ap (λ (ps : List (List ℕ)). lines_in (p ∷ ps)) (sym (split-is 10 r))
    ∙ more_parts p _ _ (split 10 r) (split-first 10 r)

-- whether a part is one is said by its last byte
one_byte : (t : Bool) → (t && true) ≡ t
one_byte true = refl
one_byte false = refl

last_byte : (p : List ℕ) (n : ℕ) → length p ≡ suc n → drop n p ≡ get_or p n 0 ∷ []
last_byte p n h =
    let all : length p ≤ suc n = omega (arith, h) in
    drop-cons p n 0 (omega (arith, h)) ∙ ap (λ (l : List ℕ). get_or p n 0 ∷ l) (drop_of_length-le p all)

ends-by : (p : List ℕ) (n : ℕ) → length p ≡ suc n → has_end p ≡ eqb (get_or p n 0) 10
ends-by p n h =
    let e : length p - 1 ≡ n = omega (arith, h) in
    ap (λ (k : ℕ). pointwise eqb (drop k p) (10 ∷ [])) e
    ∙ ap (λ (l : List ℕ). pointwise eqb l (10 ∷ [])) (last_byte p n h)
    ∙ one_byte (eqb (get_or p n 0) 10)

-- the first part x of a text w, cut behind its first newline, is its first line
module _ (w x rest : List ℕ) (i : ℕ) (e : w ≡ x ++ rest) (h : IsFirstMatchOrLen newline_at w i) where
  -- a newline ends it
  whole_part : i < length w → length x ≡ suc i → lines_of w ≡ part_line x ∷ lines_of rest
  whole_part l size =
      let hit : eqb (get_or w i 0) 10 ≡ true = h.1 l 0 in
      let same : get_or x i 0 ≡ get_or w i 0 = grind (arith, common_steps) in
      let byte : get_or x i 0 ≡ 10 = same ∙ eqb-true (get_or w i 0) 10 hit in
      let before : length (take i x) ≡ i = length-take-le i x (omega (arith, size)) in
      let front : All (λ b. newline_at b ≡ false) (take i x) = λ k d m. let a = h.0 k d (omega arith) (omega arith) in grind (arith, common_steps) in
      let cut : x ≡ take i x ++ 10 ∷ [] = sym (take-append-drop i x) ∙ ap (λ (m : List ℕ). take i x ++ m) (last_byte x i size) ∙ ap (λ (b : ℕ). take i x ++ b ∷ []) byte in
      let all : w ≡ take i x ++ 10 ∷ rest = e ∙ ap (λ (m : List ℕ). m ++ rest) cut ∙ append_assoc (take i x) (10 ∷ []) rest in
      let said : has_end x ≡ true = ends-by x i size ∙ ap (λ (b : ℕ). eqb b 10) byte in
      let less : i ≡ length x - 1 = omega (arith, size) in
      ap lines_of all
      ∙ line-cut (take i x) rest front
      ∙ ap (λ (k : ℕ). line_in (take k x) ∷ lines_of rest) less
      ∙ ap (λ (t : Bool). cond t (line_in (take (length x - 1) x)) None ∷ lines_of rest) (sym said)

  -- no newline is left
  last_part : length w ≤ i → 0 < length w → length x ≡ length w → lines_of w ≡ part_line x ∷ lines_of rest
  unfolding lines_of
  last_part l some size =
      let none : rest ≡ [] = nil_from_length rest (omega (arith, size, ap length e, length-append x rest)) in
      let n : ℕ = length w - 1 in
      let long : length x ≡ suc n = omega (arith, size, some) in
      let front : All (λ b. newline_at b ≡ false) w = λ k d m. h.0 k d (omega arith) (omega arith) in
      let same : get_or x n 0 ≡ get_or w n 0 = grind (arith, common_steps) in
      let said : has_end x ≡ false = ends-by x n long ∙ ap (λ (b : ℕ). eqb b 10) same ∙ front n 0 (omega (arith, some)) in
      ap lines_in (split-is 10 w ∙ slice_split_none newline_at w front)
      ∙ missing w some
      ∙ ap (λ (ls : List (Option Line)). None ∷ ls) (sym (ap lines_of none ∙ no_lines))
      ∙ ap (λ (t : Bool). cond t (line_in (take (length x - 1) x)) None ∷ lines_of rest) (sym said)

  first_part : 0 < length w → length x ≡ min (i + 1) (length w) → lines_of w ≡ part_line x ∷ lines_of rest
  first_part some size =
      ⊎_elim
      (λ l. whole_part l (omega (arith, size, l)))
      (λ l. last_part l some (omega (arith, size, l)))
      (cases_lt i (length w))

-- ---- the lines are the parts, one after the other

module _ {F : Type 0} (g : Mut F (Bor ℕ × Unit {0}) Bool) where
  abbrev pub cuts : SplitInclusive ℕ F → Option (Bor (List ℕ)) → SplitInclusive ℕ F → Type 0
  cuts s r t =
      MatchOption r ((length (split_inclusive_rest s) ≡ 0) × (t ≡ s))
      (λ x.
      (split_inclusive_rest s ≡ x.now ++ split_inclusive_rest t)
      × ((i : ℕ) × (length x.now ≡ min (i + 1) (length (split_inclusive_rest s))) × ((p : ℕ → Bool) → ComputesKey g p (split_inclusive_callee s) → ComputesKey g p (split_inclusive_callee t) × IsFirstMatchOrLen p (split_inclusive_rest s) i))
      × (0 < length (split_inclusive_rest s)))

  pub lines_yielded : {s : SplitInclusive ℕ F} {f : F} (l : List ℕ) → split_inclusive_rest s ≡ l → split_inclusive_callee s ≡ f
      → ((x : ℕ) (b : Bool) (q : F) → CalledAt g f x b q → (q ≡ f) × (b ≡ newline_at x)) → YieldsList cuts (λ x. part_line x.now) s (lines_of l)
  lines_yielded {s} {f} l rest closure tests =
      subst (λ (m : List ℕ). YieldsList cuts (λ x. part_line x.now) s (lines_of m)) rest
      (YieldsList-from_shown_while cuts (λ x. part_line x.now) (λ t. lines_of (split_inclusive_rest t)) (λ t. ComputesKey g newline_at (split_inclusive_callee t))
      (λ t u h k. ap (λ (m : List ℕ). length (lines_of m)) (nil_from_length (split_inclusive_rest t) k.0) ∙ ap length no_lines)
      (λ t x u h k.
      let m = k.1.2 newline_at h in
      (m.0, first_part (split_inclusive_rest t) x.now (split_inclusive_rest u) k.1.0 k.0 m.1 k.2 k.1.1))
      s (subst (ComputesKey g newline_at) (sym closure) (always_returns_same g (λ a r. r ≡ newline_at a.0.now) f (λ a r q k. let m = tests a.0.now r q (record { shown = a.0; shows = refl; called = k }) in (m.1, m.0)))))

-- the line that stands before a newline
abbrev pub line_before : Option (Bor (List ℕ)) → Option Line
line_before None = None
line_before (Some x) = line_in x.now

-- the line of the part that comes behind k others
module _ (ls : List (Option Line)) (p : List ℕ) (k : ℕ) (t : (k < length ls) × (part_line p ≡ get_or ls k (part_line p))) where
  next_of : (o : Option Line) → part_line p ≡ o → drop k ls ≡ o ∷ drop (k + 1) ls
  next_of o e =
      let one : suc k ≡ k + 1 = omega arith in
      drop-cons ls k (part_line p) t.0 ∙ ap (λ (q : Option Line). q ∷ drop (suc k) ls) (sym t.1 ∙ e) ∙ ap (λ (n : ℕ). o ∷ drop n ls) one

  -- by what stands before its newline, where it has one
  pub next_line : (r : Option (Bor (List ℕ))) → MatchOption r (has_end p ≡ false) (λ x. (has_end p ≡ true) × (x.now ≡ take (length p - 1) p) × (length x.now + 1 ≡ length p)) →
      drop k ls ≡ line_before r ∷ drop (k + 1) ls
  next_line None h = next_of None (ap (λ (b : Bool). cond b (line_in (take (length p - 1) p)) None) h)
  next_line (Some x) h = next_of (line_in x.now) (ap (λ (b : Bool). cond b (line_in (take (length p - 1) p)) None) h.0 ∙ ap line_in (sym h.1))
