-- What may be missing, gathered: how many there are, and one more. Assumes nothing.
use Rattle.std.proofs.Common.{◌≡◌, ℕ, ◌+◌, ◌<◌, ◌≤◌, List, [], ◌∷◌, length, refl, ap, sym, ◌∙◌, arith, get_or, take, set}
use Rattle.std.specs.declared.option.Option.{Option}
use Rattle.std.specs.declared.option.Option.TheVariants.{None, Some}
use Rattle.std.specs.Prelude.{count_by, is_some}
use Rattle.std.proofs.lemmas.List.Recursion.{is_count_by}
use mathlib.Core.Bool.{cond}
use lib.Seq.{take_all}
use Rattle.std.specs.List.{flat_map, enumerate_from}
use Rattle.std.specs.Option.{option_to_list}
use Rattle.std.proofs.lemmas.List.FromFn.{length-enumerate_from, get_or-enumerate_from}
use Rattle.lists.specs.Lists.{gather, holds, over}
use Rattle.lists.proofs.Over.{over-next}

module _ {T : Type 0} where
  one : (r : Option T) (l : List (Option T)) → length (gather holds (r ∷ l)) ≡ cond (is_some r) (1 + length (gather holds l)) (length (gather holds l))
  one None l = refl
  one (Some x) l = omega arith

  pub count-present : (rows : List (Option T)) → count_by is_some rows ≡ length (gather holds rows)
  count-present rows = sym (is_count_by (λ l. length (gather holds l)) is_some refl one rows)

  -- the rows as the library's `flatten` gives them
  flat-is : (rows : List (Option T)) → flat_map option_to_list rows ≡ gather holds rows
  flat-is [] = refl
  flat-is (None ∷ rows) = flat-is rows
  flat-is (Some x ∷ rows) = ap (λ (k : List T). x ∷ k) (flat-is rows)

  abbrev pub numbered : List (Option T) → List (ℕ × T)
  numbered rows = enumerate_from 0 (flat_map option_to_list rows)

  module _ (rows : List (Option T)) where
    pub length-numbered : length (numbered rows) ≡ length (gather holds rows)
    length-numbered = length-enumerate_from 0 (flat_map option_to_list rows) ∙ ap length (flat-is rows)

    module _ (k n : ℕ) (x : T) (h : k < length (numbered rows)) (is : ◌≡◌ {A = ℕ × T} (n, x) (get_or (numbered rows) k (n, x))) where
      both : ◌≡◌ {A = ℕ × T} (n, x) (0 + k, get_or (flat_map option_to_list rows) k x)
      both = is ∙ get_or-enumerate_from 0 (flat_map option_to_list rows) k (n, x) (omega (arith, h, length-enumerate_from 0 (flat_map option_to_list rows)))

      pub place-is : n ≡ k
      place-is = ap (λ (p : ℕ × T). p.0) both ∙ omega arith

      row-is : x ≡ get_or (gather holds rows) k x
      row-is = ap (λ (p : ℕ × T). p.1) both ∙ ap (λ (l : List T). get_or l k x) (flat-is rows)

      pub place-within : n < length (gather holds rows)
      place-within = omega (arith, h, length-numbered, place-is)

      -- one more is stored
      pub stored_one : (l list : List T) → length (gather holds rows) ≤ length l → list ≡ over (take k (gather holds rows)) l → set list n x ≡ over (take (k + 1) (gather holds rows)) l
      stored_one l list fits e =
          ap (λ (m : ℕ). set list m x) place-is
          ∙ ap (λ (d : List T). set d k x) e
          ∙ over-next (gather holds rows) l k x x (omega (arith, place-within, place-is)) fits row-is

    -- all are
    pub stored_all : (k : ℕ) (l list : List T) → k ≡ length (numbered rows) → list ≡ over (take k (gather holds rows)) l → list ≡ over (gather holds rows) l
    stored_all k l list h e = e ∙ ap (λ (m : List T). over m l) (take_all k (gather holds rows) (omega (arith, h, length-numbered)))
