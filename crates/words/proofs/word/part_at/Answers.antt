-- `word::part_at` meets its contract: the part looked for is as many parts behind `from` as turns are left. Assumes nothing.
use Prim.Native.Nat.{ℕ, ◌-◌, ◌+◌, ◌<◌}
use mathlib.Core.Path.{◌≡◌, sym, ap, ◌∙◌}
use mathlib.Core.Bool.{true}
use mathlib.Core.List.{[]}
use native.Mathlib.Omega.{arith}
use lib.ListN.{length, get_or, drop}
use Rattle.words.specs.Words.{split, is_byte}
use Rattle.words.proofs.Places.{place-within}
use Rattle.words.proofs.Splits.{nothing, this-part, last-part, next-part}
use Rattle.words.proofs.word.part_at.Goals as goal

pub loop-i-init : goal.loop-i-init
loop-i-init c =
    let all : c.args.k - 0 ≡ c.args.k = omega arith in
    (omega arith, c.next-to.ensures, ap (λ (n : ℕ). get_or (split 58 c.args.w.now) n []) all)

pub returns-then-to-w : goal.returns-then-to-w
returns-then-to-w c =
    let some_left : 0 < c.args.k - c.loop-i._i = omega (arith, c.loop-i-test.true) in
    record {
      ordered = omega arith;
      within = omega arith;
      bytes = nothing c.args.w.now c.loop-i.to ∙ sym (last-part 58 c.args.w.now c.loop-i.from c.loop-i.to c.loop-i.invariant.0 c.loop-i.invariant.1 (c.args.k - c.loop-i._i) c.if-to-w.true some_left) ∙ c.loop-i.invariant.2;
    }

pub overflow_add-from : goal.overflow_add-from
overflow_add-from c = omega (arith, place-within (is_byte 58 true) c.args.w.now c.loop-i.from)

pub loop-i-preserved : goal.loop-i-preserved
loop-i-preserved c =
    let further : c.loop-i.to < length c.args.w.now = omega (arith, place-within (is_byte 58 true) c.args.w.now c.loop-i.from) in
    let some_left : 0 < c.args.k - c.loop-i._i = omega (arith, c.loop-i-test.true) in
    let one_less : c.args.k - (c.loop-i._i + 1) ≡ c.args.k - c.loop-i._i - 1 = omega arith in (
      omega arith,
      c.next-to-in-loop-i.ensures,
      ap (λ (n : ℕ). get_or (split 58 (drop (c.loop-i.to + 1) c.args.w.now)) n []) one_less
          ∙ next-part 58 c.args.w.now c.loop-i.from c.loop-i.to c.loop-i.invariant.0 c.loop-i.invariant.1 (c.args.k - c.loop-i._i) further some_left
          ∙ c.loop-i.invariant.2,
    )

pub returns : goal.returns
returns c =
    let none_left : c.args.k - c.loop-i._i ≡ 0 = omega arith in
    record {
      ordered = omega arith;
      within = omega (arith, place-within (is_byte 58 true) c.args.w.now c.loop-i.from);
      bytes = this-part 58 c.args.w.now c.loop-i.from c.loop-i.to c.loop-i.invariant.0 c.loop-i.invariant.1 ∙ ap (λ (n : ℕ). get_or (split 58 (drop c.loop-i.from c.args.w.now)) n []) (sym none_left) ∙ c.loop-i.invariant.2;
    }
