-- The text of a table by symbol, as it is put symbol by symbol. Assumes nothing.
use Rattle.std.specs.declared.option.Option.TheVariants.{None}
use Prim.Native.Nat.{ℕ, ◌+◌, ◌*◌, ◌≤◌, ◌<◌}
use mathlib.Core.Path.{◌≡◌, ap, sym, subst, ◌∙◌}
use mathlib.Core.List.{List, [], ◌++◌}
use native.Mathlib.Omega.{arith}
use borrow.Author.Tests.{ltb-false}
use lib.ListN.{length, get_or, take}
use lib.Seq.{take_all}
use Rattle.lists.specs.Lists.{span, gather}
use Rattle.lists.proofs.Keep.{gather-more}
use Rattle.lists.proofs.Spans.{length-span, span-at}
use Rattle.market.proofs.Faults.{first-none, none-drawn}
use Rattle.market.specs.declared.table.Table.{Table}
use Rattle.lines.specs.Writing.{line_at, table_text, table_fault, Puts}
use Rattle.lines.proofs.Putting.{none-put, more-put, Room, room-start, room-more}
use Rattle.market.specs.declared.fault.Fault.TheVariants.{ListTooShort}

-- the text of the first i symbols
abbrev text-to : Table → ℕ → List ℕ
text-to t i = gather (line_at t) (take i (span 0 256))

text-more : (t : Table) (i : ℕ) → i < 256 → text-to t (i + 1) ≡ text-to t i ++ line_at t i
text-more t i h =
    let k : i < length (span 0 256) = omega (arith, length-span 0 256) in
    let e : get_or (span 0 256) i 0 ≡ i = span-at 0 256 i 0 h ∙ omega arith in
    gather-more (line_at t) (span 0 256) i 0 k ∙ ap (λ (s : ℕ). text-to t i ++ line_at t s) e

text-all : (t : Table) → text-to t 256 ≡ table_text t
unfolding table_text
text-all t = ap (gather (line_at t)) (take_all 256 (span 0 256) (omega (arith, length-span 0 256)))

-- the lines of the first i symbols are put, in a buffer d that was lent
pub record PutTo (t : Table) (d : List ℕ) (e : List ℕ) (at i : ℕ) : Type 0 where
  pub within : i ≤ 256
  pub puts : Puts (text-to t i) 0 d at e
  pub room : Room (59 * i) 0 d at e

pub put-start : (t : Table) (d : List ℕ) → PutTo t d d 0 0
put-start t d = record { within = omega arith; puts = none-put 0 d; room = room-start 0 d }

module _ {t : Table} {d e : List ℕ} {at i : ℕ} (v : PutTo t d e at i) (long : 15104 ≤ length d) where
  pub put-within : i < 256 → at + 59 ≤ length e
  put-within h = omega (arith, v.room.most, v.room.long)

  pub put_next : (n : ℕ) (f : List ℕ) → i < 256 → Puts (line_at t i) at e n f → n ≤ at + 59 → PutTo t d f n (i + 1)
  put_next n f h p most =
      let line = line_at t i in
      let few : length line ≤ 59 = omega (arith, p.end) in
      let k : 59 * i + 59 ≡ 59 * (i + 1) = omega arith in
      record {
        within = omega arith;
        puts =
            subst (λ (l : List ℕ). Puts l 0 d n f) (sym (text-more t i h))
            (more-put (text-to t i) line 0 d at e n f (omega arith) v.puts p);
        room = subst (λ (m : ℕ). Room m 0 d n f) k (room-more (59 * i) 0 d at e line 59 n f v.room p few (omega arith));
      }

  pub put_all : 256 ≤ i → Puts (table_text t) 0 d at e
  put_all h =
      let all : i ≡ 256 = omega (arith, v.within) in
      subst (λ (l : List ℕ). Puts l 0 d at e) (ap (text-to t) all ∙ text-all t) v.puts

-- ---- what is answered

module _ (t : Table) (d : List ℕ) where
  -- a table that draws nothing has a buffer that is long enough
  pub fault_room : table_fault (length d) t ≡ None → 15104 ≤ length d
  fault_room e = ltb-false (length d) 15104 (none-drawn _ ListTooShort [] (first-none _ t.fault e).0).0
