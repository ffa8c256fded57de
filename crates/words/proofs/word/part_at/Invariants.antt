-- `word::part_at` meets its contract: the part looked for is as many parts behind `from` as turns are left. Assumes nothing.
use Prim.Native.Nat.{◌≤◌, ◌-◌}
use mathlib.Core.Path.{◌≡◌}
use mathlib.Core.Bool.{true}
use mathlib.Core.List.{[]}
use lib.ListN.{length, get_or, drop}
use Rattle.words.specs.Words.{split, is_byte, place, part_of}
use Rattle.words.proofs.word.part_at.Given as goal

abbrev pub invariant-loop-i : goal.invariant-loop-i
invariant-loop-i l = (l.from ≤ length l.w) × (l.to ≡ place (is_byte 58 true) l.w l.from) × (get_or (split 58 (drop l.from l.w)) (l.k - l._i) [] ≡ part_of l.w l.k)
