-- `listed` meets its contract: the rows so far stand in the first places.
use Rattle.std.proofs.Common.{rules, arith, ◌≡◌, ◌<◌, ℕ, length, get_or, sym, ◌∙◌, ap, take, replicate}
use Rattle.std.proofs.lemmas.Iterator.{YieldsList-from_slice}
use Rattle.std.proofs.lemmas.Iterator.Adapters.{YieldsList-from_once, YieldsList-from_flatten}
use Rattle.std.proofs.lemmas.Iterator.Consumers.{YieldsList-at, YieldsList-turn, YieldsList-end, YieldsList-from_copied, YieldsList-from_enumerate, count_from_yields_List}
use Rattle.std.proofs.lemmas.List.{length_push}
use Rattle.std.specs.Option.{option_to_list}
use lib.ListN.{length-set, length-replicate}
use Rattle.lists.specs.Lists.{over}
use Rattle.market.specs.Quotes.{blank_quote}
use Rattle.corrections.proofs.Listing.{numbered, quotes, place-within, list_one, list_all}
use Rattle.market.specs.declared.vendor_quote.VendorQuote.{VendorQuote}
use Rattle.corrections.proofs.newest.listed.Goals as goal
use Rattle.corrections.proofs.newest.listed.Goals.{In-Some}

-- the item is the next of the rows that stand, with its number
next : (c : In-Some) → (length c.loop-n.yielded < length (numbered c.args.kept.now)) × ◌≡◌ {A = ℕ × VendorQuote} (c.in-Some.n, c.in-Some.row) (get_or (numbered c.args.kept.now) (length c.loop-n.yielded) (c.in-Some.n, c.in-Some.row))
next c =
    let road = YieldsList-at c.into_iter-n-iterator.ensures.into_iter_gives (YieldsList-from_enumerate (YieldsList-at c.enumerate-n-items.ensures.source (YieldsList-from_flatten _ _ (λ x. x) option_to_list (λ x j b. YieldsList-from_once x b.0) (YieldsList-at c.flatten.ensures.source (YieldsList-from_copied (YieldsList-at c.copied.ensures.source (YieldsList-from_slice c.args.kept.now c.iter.ensures.rest)))) c.flatten.ensures.front c.flatten.ensures.back c.flatten.ensures.done)) c.enumerate-n-items.ensures.count) in
    YieldsList-turn road c.loop-n.yielded _ c.loop-n.yielded_by _ _ (c.in-Some.n, c.in-Some.row) c.in-Some.is c.next.ensures.steps

here : (c : In-Some) → c.in-Some.n < 256
here c =
    let long : length c.args.kept.now ≡ 256 = search rules in
    let t = next c in place-within c.args.kept.now long _ _ _ t.0 t.1

pub loop-n-init : goal.loop-n-init
loop-n-init c = (length-replicate 257 c.blank-rows.result, ap (replicate 257) c.blank-rows.ensures)

pub bounds-rows-n : goal.bounds-rows-n
bounds-rows-n c = let g = goal.at.bounds-rows-n c in omega (arith, here g.In-Some, c.loop-n.invariant.0)

pub offset_bounds-rows-n : goal.offset_bounds-rows-n
offset_bounds-rows-n c = let g = goal.at.offset_bounds-rows-n c in omega (arith, here g.In-Some)

pub loop-n-preserved : goal.loop-n-preserved
loop-n-preserved c =
    let long : length c.args.kept.now ≡ 256 = search rules in
    let g = goal.at.loop-n-preserved c in
    let t = next g.In-Some in (
      simp length-set c.loop-n.invariant.0,
      list_one c.args.kept.now long _ _ _ t.0 t.1 c.loop-n.rows _ c.quote.ensures c.loop-n.invariant.1
          ∙ ap (λ (k : ℕ). over (take k (quotes c.args.kept.now)) (replicate 257 blank_quote)) (sym (length_push c.loop-n.yielded (c.in-Some.n, c.in-Some.row))),
    )

pub returns : goal.returns
returns c =
    let long : length c.args.kept.now ≡ 256 = search rules in
    let road = YieldsList-at c.into_iter-n-iterator.ensures.into_iter_gives (YieldsList-from_enumerate (YieldsList-at c.enumerate-n-items.ensures.source (YieldsList-from_flatten _ _ (λ x. x) option_to_list (λ x j b. YieldsList-from_once x b.0) (YieldsList-at c.flatten.ensures.source (YieldsList-from_copied (YieldsList-at c.copied.ensures.source (YieldsList-from_slice c.args.kept.now c.iter.ensures.rest)))) c.flatten.ensures.front c.flatten.ensures.back c.flatten.ensures.done)) c.enumerate-n-items.ensures.count) in
    let t = YieldsList-end road c.loop-n.yielded _ c.loop-n.yielded_by _ _ c.in-None.is c.next.ensures.steps in
    let many = count_from_yields_List _ _ c.count-count.ensures.ran (YieldsList-from_flatten _ _ (λ x. x) option_to_list (λ x j b. YieldsList-from_once x b.0) (YieldsList-at c.flatten-2.ensures.source (YieldsList-from_copied (YieldsList-at c.copied-2.ensures.source (YieldsList-from_slice c.args.kept.now c.iter-2.ensures.rest)))) c.flatten-2.ensures.front c.flatten-2.ensures.back c.flatten-2.ensures.done) in
    list_all c.args.kept.now long _ _ _ t.1 many c.loop-n.invariant.1
