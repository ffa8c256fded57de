-- `store`: the rows so far stand in the first places of the list.
use Rattle.std.proofs.Common.{rules, arith, ◌≡◌, ◌<◌, ℕ, length, get_or, sym, ◌∙◌, ap, take}
use borrow.Author.Rules.{scaled_Fits}
use Rattle.std.proofs.lemmas.Iterator.{YieldsList-from_slice}
use Rattle.std.proofs.lemmas.Iterator.Adapters.{YieldsList-from_once, YieldsList-from_flatten}
use Rattle.std.proofs.lemmas.Iterator.Consumers.{YieldsList-at, YieldsList-turn, YieldsList-end, YieldsList-from_copied, YieldsList-from_enumerate}
use Rattle.std.proofs.lemmas.List.{length_push}
use Rattle.std.specs.Option.{option_to_list}
use Rattle.lists.specs.Lists.{over, gather, holds}
use Rattle.reads.proofs.Present.{numbered, place-within, stored_one, stored_all}
use Rattle.reads.proofs.collected.store.Given.{Over}
use Rattle.reads.proofs.collected.store.Goals as goal
use Rattle.reads.proofs.collected.store.Goals.{In-Some}

-- the item is the next of the rows that there are, with its number
next : (g : Over) (c : In-Some g) → (length c.loop-n.yielded < length (numbered c.args.rows.now)) × ◌≡◌ {A = ℕ × _} (c.in-Some.n, c.in-Some.row) (get_or (numbered c.args.rows.now) (length c.loop-n.yielded) (c.in-Some.n, c.in-Some.row))
next g c =
    let items = YieldsList-at c.copied.ensures.source (YieldsList-from_slice c.args.rows.now c.iter.ensures.rest) in
    let road = YieldsList-at c.into_iter-n-iterator.ensures.into_iter_gives (YieldsList-from_enumerate (YieldsList-at c.enumerate-n-items.ensures.source (YieldsList-from_flatten _ _ (λ x. x) option_to_list (λ x j b. YieldsList-from_once x b.0) (YieldsList-at c.flatten.ensures.source (YieldsList-from_copied items)) c.flatten.ensures.front c.flatten.ensures.back c.flatten.ensures.done)) c.enumerate-n-items.ensures.count) in
    YieldsList-turn road c.loop-n.yielded _ c.loop-n.yielded_by _ _ (c.in-Some.n, c.in-Some.row) c.in-Some.is c.next.ensures.steps

here : (g : Over) (c : In-Some g) → c.in-Some.n < length c.loop-n.list
here g c = let t = next g c in omega (arith, place-within c.args.rows.now _ _ _ t.0 t.1, c.requires, c.loop-n.auto.list)

pub bounds-list-n : goal.bounds-list-n
bounds-list-n g c = here g c

pub offset_bounds-list-n : goal.offset_bounds-list-n
offset_bounds-list-n g c = scaled_Fits _ _ _ (here g c) (search rules)

pub loop-n-preserved : goal.loop-n-preserved
loop-n-preserved g c =
    let t = next g c in
    stored_one c.args.rows.now _ _ _ t.0 t.1 c.args.list.now c.loop-n.list c.requires c.loop-n.invariant
    ∙ ap (λ (k : ℕ). over (take k (gather holds c.args.rows.now)) c.args.list.now) (sym (length_push c.loop-n.yielded (c.in-Some.n, c.in-Some.row)))

pub returns : goal.returns
returns g c =
    let items = YieldsList-at c.copied.ensures.source (YieldsList-from_slice c.args.rows.now c.iter.ensures.rest) in
    let road = YieldsList-at c.into_iter-n-iterator.ensures.into_iter_gives (YieldsList-from_enumerate (YieldsList-at c.enumerate-n-items.ensures.source (YieldsList-from_flatten _ _ (λ x. x) option_to_list (λ x j b. YieldsList-from_once x b.0) (YieldsList-at c.flatten.ensures.source (YieldsList-from_copied items)) c.flatten.ensures.front c.flatten.ensures.back c.flatten.ensures.done)) c.enumerate-n-items.ensures.count) in
    let t = YieldsList-end road c.loop-n.yielded _ c.loop-n.yielded_by _ _ c.in-None.is c.next.ensures.steps in
    stored_all c.args.rows.now _ c.args.list.now c.loop-n.list t.1 c.loop-n.invariant
