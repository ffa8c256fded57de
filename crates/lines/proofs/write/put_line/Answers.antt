-- `put_line` meets its contract: four fields, one behind the other. Assumes nothing.
use Prim.Native.Nat.{ℕ, ◌+◌, ◌≤◌}
use mir.Syntax.{w64}
use mir.Val.{SFits}
use mir.Facts.{to_z-of_z}
use lib.IntN.{ℤ}
use mathlib.Core.Path.{◌≡◌, subst}
use mathlib.Core.List.{List, [], ◌∷◌, ◌++◌}
use native.Mathlib.Omega.{arith}
use lib.Ieee.{binary64, to_bits}
use lib.ListN.{length, take}
use Rattle.numerals.specs.Numerals.{digits, date_text, hex16, Spells}
use Rattle.numerals.specs.declared.spelled.Spelled.{Spelled}
use Rattle.numerals.proofs.Dates.{date-length}
use Rattle.numerals.proofs.Hexes.{length-hex}
use Rattle.lines.specs.Lines.{comma, newline}
use Rattle.lines.specs.Writing.{Puts}
use Rattle.lines.proofs.Putting.{more-put, Room, room-start, room-more, spelled_count, spelled-most, spelled-put, fields-line, symbol-fits}
use borrow.Author.Rules.{rules}
use Rattle.lines.proofs.write.put_line.Goals as goal

hex-fits : (n : ℕ) → length (hex16 n) ≤ 16
hex-fits n = omega (arith, length-hex n)

-- how far a spelled field goes, with the byte that ends it
room-of : (k at : ℕ) (d : List ℕ) (m : ℕ) (e : List ℕ) (n : ℕ) (g : List ℕ) (text : List ℕ) (r : Spelled) (j x : ℕ) → Room k at d m e → Spells text r → length text ≤ j → Puts (take r.count r.bytes ++ (x ∷ [])) m e n g → at + (k + (j + 1)) ≤ length d → Room (k + (j + 1)) at d n g
room-of k at d m e n g text r j x room s h p fits = room-more k at d m e _ (j + 1) n g room p (spelled-most text r s j x h) fits

date-spelled : (z z' : ℤ) (r : Spelled) → z' ≡ z → Spells (date_text z') r → Spells (date_text z) r
date-spelled z z' r e s = subst (λ (y : ℤ). Spells (date_text y) r) e s

pub put_field-dated-requires : goal.put_field-dated-requires
put_field-dated-requires c = let few = spelled_count _ _ c.decimal_text.ensures 3 (symbol-fits _ c.requires.0) in
    (omega (arith, few), omega (arith, few, c.requires.1))

pub put_field-bid-requires : goal.put_field-bid-requires
put_field-bid-requires c =
    let fits : SFits w64 c.args.q.date = search rules in
    let spelled = date-spelled c.args.q.date _ c.date_text.result (to_z-of_z fits) c.date_text.ensures in
    let few = spelled_count _ _ spelled 20 (date-length _ fits) in
    let room1 = room-of 0 c.args.at c.args.out.now _ _ _ _ (digits c.args.symbol) _ 3 44 (room-start c.args.at c.args.out.now) c.decimal_text.ensures (symbol-fits _ c.requires.0) c.put_field-dated.ensures (omega (arith, c.requires.1)) in
    (omega (arith, few), omega (arith, few, room1.most, room1.long, c.requires.1))

pub put_field-ask-requires : goal.put_field-ask-requires
put_field-ask-requires c =
    let fits : SFits w64 c.args.q.date = search rules in
    let spelled = date-spelled c.args.q.date _ c.date_text.result (to_z-of_z fits) c.date_text.ensures in
    let few = spelled_count _ _ c.float_text.ensures 16 (hex-fits _) in
    let room1 = room-of 0 c.args.at c.args.out.now _ _ _ _ (digits c.args.symbol) _ 3 44 (room-start c.args.at c.args.out.now) c.decimal_text.ensures (symbol-fits _ c.requires.0) c.put_field-dated.ensures (omega (arith, c.requires.1)) in
    let room2 = room-of 4 c.args.at c.args.out.now _ _ _ _ (date_text c.args.q.date) c.date_text.result 20 44 room1 spelled (date-length _ fits) c.put_field-bid.ensures (omega (arith, c.requires.1)) in
    (omega (arith, few), omega (arith, few, room2.most, room2.long, c.requires.1))

pub put_field-requires : goal.put_field-requires
put_field-requires c =
    let fits : SFits w64 c.args.q.date = search rules in
    let spelled = date-spelled c.args.q.date _ c.date_text.result (to_z-of_z fits) c.date_text.ensures in
    let few = spelled_count _ _ c.float_text-2.ensures 16 (hex-fits _) in
    let room1 = room-of 0 c.args.at c.args.out.now _ _ _ _ (digits c.args.symbol) _ 3 44 (room-start c.args.at c.args.out.now) c.decimal_text.ensures (symbol-fits _ c.requires.0) c.put_field-dated.ensures (omega (arith, c.requires.1)) in
    let room2 = room-of 4 c.args.at c.args.out.now _ _ _ _ (date_text c.args.q.date) c.date_text.result 20 44 room1 spelled (date-length _ fits) c.put_field-bid.ensures (omega (arith, c.requires.1)) in
    let room3 = room-of 25 c.args.at c.args.out.now _ _ _ _ _ _ 16 44 room2 c.float_text.ensures (hex-fits _) c.put_field-ask.ensures (omega (arith, c.requires.1)) in
    (omega (arith, few), omega (arith, few, room3.most, room3.long, c.requires.1))

pub returns : goal.returns
returns c =
    let fits : SFits w64 c.args.q.date = search rules in
    let spelled = date-spelled c.args.q.date _ c.date_text.result (to_z-of_z fits) c.date_text.ensures in
    let room1 = room-of 0 c.args.at c.args.out.now _ _ _ _ (digits c.args.symbol) _ 3 44 (room-start c.args.at c.args.out.now) c.decimal_text.ensures (symbol-fits _ c.requires.0) c.put_field-dated.ensures (omega (arith, c.requires.1)) in
    let room2 = room-of 4 c.args.at c.args.out.now _ _ _ _ (date_text c.args.q.date) c.date_text.result 20 44 room1 spelled (date-length _ fits) c.put_field-bid.ensures (omega (arith, c.requires.1)) in
    let room3 = room-of 25 c.args.at c.args.out.now _ _ _ _ _ _ 16 44 room2 c.float_text.ensures (hex-fits _) c.put_field-ask.ensures (omega (arith, c.requires.1)) in
    let symbol = digits c.args.symbol in
    let date = date_text c.args.q.date in
    let bid = hex16 (to_bits binary64 c.args.q.bid) in
    let ask = hex16 (to_bits binary64 c.args.q.ask) in
    let within : c.args.at ≤ length c.args.out.now = omega (arith, c.requires.1) in
    let p1 = spelled-put symbol _ c.decimal_text.ensures 44 _ _ _ _ c.put_field-dated.ensures in
    let p2 = spelled-put date _ spelled 44 _ _ _ _ c.put_field-bid.ensures in
    let p3 = spelled-put bid _ c.float_text.ensures 44 _ _ _ _ c.put_field-ask.ensures in
    let p4 = spelled-put ask _ c.float_text-2.ensures 10 _ _ _ _ c.put_field.ensures in
    let q2 = more-put (symbol ++ comma) (date ++ comma) c.args.at c.args.out.now _ _ _ _ within p1 p2 in
    let q3 = more-put (symbol ++ comma ++ (date ++ comma)) (bid ++ comma) c.args.at c.args.out.now _ _ _ _ within q2 p3 in
    let q4 = more-put (symbol ++ comma ++ (date ++ comma) ++ (bid ++ comma)) (ask ++ newline) c.args.at c.args.out.now _ _ _ _ within q3 p4 in
    let room4 = room-of 42 c.args.at c.args.out.now _ _ _ _ ask _ 16 10 room3 c.float_text-2.ensures (hex-fits _) c.put_field.ensures c.requires.1 in
    record {
      puts = subst (λ (l : List ℕ). Puts l c.args.at c.args.out.now c.put_field.result c.put_field.new.out) (fields-line symbol date bid ask comma newline) q4;
      upper_bound = room4.most;
    }
