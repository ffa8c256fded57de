-- The place of a resting order, and the copy that removes it from the book. Assumes nothing.
use Rattle.std.proofs.Common.{◌≡◌, ℕ, suc, ◌+◌, ◌-◌, ◌<◌, ◌≤◌, List, length, take, drop, sym, refl, ap, add-one, ◌∙◌, arith, length-take}
use Rattle.std.specs.declared.option.Option.TheVariants.{Some}
use lib.Seq.{take-take}
use Rattle.std.specs.List.{copy_within}
use Rattle.std.proofs.lemmas.List.{drop-take}
use Rattle.lists.specs.Lists.{over, without, first_from}
use Rattle.lists.proofs.Places.{first-within}
use Rattle.lists.proofs.Without.{length_without}
use Rattle.exchange.specs.State.{resting_of}
use Rattle.exchange.specs.Delete.{has_number}
use Rattle.exchange.specs.declared.state.Booked.{Booked}
use Rattle.exchange.specs.declared.state.UistV1.{UistV1}

-- the orders behind a place move up by one
pub moved_up : (l : List Booked) (at n : ℕ) → at < n → n ≤ length l → copy_within l (at + 1) n at ≡ over (without (take n l) at) l
moved_up l at n h k =
    let whole : suc at + (n - suc at) ≡ n = omega arith in
    let front : take at (take n l) ≡ take at l = take-take at n l (omega arith) in
    let back : drop (suc at) (take n l) ≡ take (n - suc at) (drop (suc at) l)
    = ap (λ (m : ℕ). drop (suc at) (take m l)) (sym whole) ∙ drop-take (suc at) (n - suc at) l in
    let long : length (take n l) ≡ n = simp length-take (omega arith) in
    let rest : at + (n - suc at) ≡ length (without (take n l) at) = omega (arith, length_without (take n l) at (omega (arith, long)), long) in
    rw (add-one at, ← rest, front, back) refl

-- the place that is found is a resting order's
pub found_rests : (e : UistV1) (n i : ℕ) → first_from 0 (has_number n) (resting_of e) ≡ Some i → i < e.counts.resting
found_rests e n i p = omega (arith, first-within (has_number n) 0 i (resting_of e) (sym p), length-take e.counts.resting e.book)
