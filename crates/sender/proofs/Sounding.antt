-- The lender's 16 by counts and lot: it is drawn where the counts draw it or the lot is outside its range. Assumes nothing.
use Prim.Native.Nat.{ℕ}
use mathlib.Core.Bool.{true, false, not, ◌||◌}
use mathlib.Core.Path.{◌≡◌, ap₂}
use borrow.Author.Tests.{not-false}
use Rattle.floats.specs.Lots.{is_lot}
use Rattle.exchange.specs.State.{broken_of}
use Rattle.exchange.specs.declared.state.Counts.{Counts}
use Rattle.exchange.proofs.Counting.{Sound, or_left, or_right, sound-facts, sound-not-broken}
use Rattle.sender.specs.Sound.{broken_with}

module _ (c : Counts) (lot : ℕ) (h : broken_with c lot ≡ false) where
  pub counts-hold : broken_of c ≡ false
  counts-hold = or_left (broken_of c) (not (is_lot lot)) h

  pub counts-sound : Sound c
  counts-sound = sound-facts c counts-hold

  pub lot-sound : is_lot lot ≡ true
  lot-sound = not-false (is_lot lot) (or_right (broken_of c) (not (is_lot lot)) h)

pub both-sound : {c : Counts} (lot : ℕ) → Sound c → is_lot lot ≡ true → broken_with c lot ≡ false
both-sound lot s e = ap₂ (λ x y. x || not y) (sound-not-broken s) e
