-- The claim about a list of calls: every order's fate, and the log. Assumes nothing.
use Prim.Native.Nat.{ℕ, suc, ◌+◌, ◌≤◌, ◌<◌}
use native.Mathlib.Omega.{arith}
use mathlib.Core.Bool.{Bool}
use mathlib.Core.Path.{◌≡◌, refl, ◌∙◌, sym, ap, ap₂, subst}
use mathlib.Core.List.{List, [], ◌∷◌, ◌++◌, map, append-nil, append_assoc, map-append}
use Rattle.std.specs.declared.option.Option.{Option}
use Rattle.std.specs.declared.option.Option.TheVariants.{None, Some}
use lib.ListN.{length, length-append, length-map}
use Rattle.std.specs.Prelude.{slice_get}
use Rattle.std.proofs.lemmas.Option.{slice_get_within}
use Rattle.lists.specs.Lists.{gather, each, given, All}
use Rattle.lists.proofs.Each.{length-each, AllFrom, all_append, all-at, all-each, all_map, each_all}
use Rattle.market.specs.declared.quote.Quote.{Quote}
use Rattle.orders.specs.Orders.{Taken, Entry, Orders, no_orders, ended_by, in_turn, fresh}
use Rattle.orders.specs.Claim.{Calls, taken_in, row_from, how_many, Within, OneRowEach, trade_in, end_in, fate_of, books_of, wait_on, BookedBy, since_from, rows_in, log_of, taken_over, Placed, Lived}
use Rattle.orders.proofs.Shape.{moved_by, row_now, Shape}
use Rattle.orders.proofs.Fates.{Apart, fate-last, life}
use Rattle.orders.proofs.OneRow.{no_rows, one_more}
use Rattle.orders.proofs.Within.{at_left, at_right, at_map, within-left, within-right, within-turn, how-many-append, how-many-turn}

-- `after` starts with no orders, and each call has its effect
pub record Runs (K : Calls) (takes : List K.Call → K.Call → List Taken) (after : List K.Call → Orders) : Type 0 where
  pub apart : Apart K
  pub starts : after [] ≡ no_orders
  pub shape : (past : List K.Call) (c : K.Call) → Shape K (after past) c (takes past c) (after (past ++ (c ∷ [])))

-- what holds of no calls, and of one call more, holds of all
grow : {A : Type 0} (P : List A → Type 0) → P [] → ((cs : List A) (c : A) → P cs → P (cs ++ (c ∷ []))) → (cs : List A) → P cs
grow {A} P z s cs = go [] cs z
  where
    go : (past cs : List A) → P past → P (past ++ cs)
    go past [] p = subst P (sym (append-nil past)) p
    go past (c ∷ cs) p = subst P (append_assoc past (c ∷ []) cs) (go (past ++ (c ∷ [])) cs (s past c p))

module _ (K : Calls) (takes : List K.Call → K.Call → List Taken) (after : List K.Call → Orders) (R : Runs K takes after) where
  -- how many orders are booked
  abbrev count : List K.Call → ℕ
  count cs = length (after cs).booked

  -- ---- bookings

  count-one : (past : List K.Call) (c : K.Call) → count (past ++ (c ∷ [])) ≡ count past + length (books_of K c (after past).waiting)
  count-one past c =
      grind (arith, (R.shape past c).booked, length-append, length-each (moved_by K c) 0 (after past).booked, length-map (books_of K c (after past).waiting) fresh)

  count-more : (past cs : List K.Call) → count past ≤ count (past ++ cs)
  count-more past [] = omega (arith, ap count (append-nil past))
  count-more past (c ∷ cs) = omega (arith, count-one past c, count-more (past ++ (c ∷ [])) cs, ap count (append_assoc past (c ∷ []) cs))

  since-old : (past cs : List K.Call) (c : K.Call) (n : ℕ) → count past ≤ n → n < count (past ++ cs) → since_from K takes after past (cs ++ (c ∷ [])) n ≡ since_from K takes after past cs n ++ (c ∷ [])
  since-old past [] c n h k = absurd (omega (arith, ap count (append-nil past)))
  since-old past (d ∷ cs) c n h k =
      let q = past ++ (d ∷ []) in
      grind (arith, ap count (append_assoc past (d ∷ []) cs), since-old q cs c n)

  since-new : (past cs : List K.Call) (c : K.Call) (n : ℕ) (rest : List K.Call) → count (past ++ cs) ≤ n → n < count ((past ++ cs) ++ (c ∷ [])) → since_from K takes after past (cs ++ (c ∷ rest)) n ≡ rest
  since-new past [] c n rest h k =
      grind (arith, ap (λ l. count (l ++ (c ∷ []))) (append-nil past))
  since-new past (d ∷ cs) c n rest h k =
      let q = past ++ (d ∷ []) in
      let e = append_assoc past (d ∷ []) cs in
      grind (arith, count-more q cs, ap count e, ap (λ l. count (l ++ (c ∷ []))) e, since-new q cs c n rest)

  -- ---- the fates: an entry's fate is that of its order over the calls since its booking

  abbrev Right : List K.Call → ℕ → Entry → Type 0
  Right cs n e = e.fate ≡ fate_of K e.taken n (since_from K takes after [] cs n)

  right-step : (cs : List K.Call) (c : K.Call) → AllFrom (Right cs) 0 (after cs).booked → AllFrom (Right (cs ++ (c ∷ []))) 0 (after (cs ++ (c ∷ []))).booked
  right-step cs c a =
      let old = (after cs).booked in
      let new = books_of K c (after cs).waiting in
      let z : count [] ≡ 0 = ap length (ap (λ b. b.booked) R.starts) in
      subst (λ l. AllFrom (Right (cs ++ (c ∷ []))) 0 l) (sym (R.shape cs c).booked)
      (all_append (Right (cs ++ (c ∷ []))) 0 (count cs) (each (moved_by K c) 0 old) (map fresh new)
      (omega (arith, length-each (moved_by K c) 0 old))
      (all-each (Right cs) (Right (cs ++ (c ∷ []))) (moved_by K c) 0 old
      (λ n e b p.
      ap (ended_by (end_in K e.taken n c)) p
      ∙ sym (fate-last K e.taken n (since_from K takes after [] cs n) c)
      ∙ ap (fate_of K e.taken n) (sym (since-old [] cs c n (omega arith) (omega arith)))) a)
      (all_map (Right (cs ++ (c ∷ []))) fresh (count cs) new
      (λ n o p q. sym (ap (fate_of K o n) (since-new [] cs c n [] p (omega (arith, count-one cs c)))))))

  right : (cs : List K.Call) → AllFrom (Right cs) 0 (after cs).booked
  right = grow (λ cs. AllFrom (Right cs) 0 (after cs).booked) (subst (AllFrom (Right []) 0) (sym (ap (λ b. b.booked) R.starts)) tt) right-step

  -- ---- the log

  rows : (cs : List K.Call) (c : K.Call) → (after (cs ++ (c ∷ []))).trades ≡ (after cs).trades ++ rows_in K takes after cs c
  rows cs c =
      (R.shape cs c).trades
      ∙ ap (λ l. (after cs).trades ++ gather (λ k. k) l)
      (each_all (Right cs) (row_now K c) (λ n e. row_from (fate_of K e.taken n (since_from K takes after [] cs n)) (trade_in K e.taken c))
      (λ n e p. ap (λ f. row_from f (trade_in K e.taken c)) p) 0 (after cs).booked (right cs))

  log : (past cs : List K.Call) → (after (past ++ cs)).trades ≡ (after past).trades ++ log_of K takes after past cs
  log past [] = ap (λ l. (after l).trades) (append-nil past) ∙ sym (append-nil (after past).trades)
  log past (c ∷ cs) =
      ap (λ l. (after l).trades) (sym (append_assoc past (c ∷ []) cs))
      ∙ log (past ++ (c ∷ [])) cs
      ∙ ap (λ l. l ++ log_of K takes after (past ++ (c ∷ [])) cs) (rows past c)
      ∙ append_assoc (after past).trades (rows_in K takes after past c) (log_of K takes after (past ++ (c ∷ [])) cs)

  -- ---- once

  once : (cs : List K.Call) → OneRowEach (after cs).trades (after cs).booked
  once =
      grow (λ cs. OneRowEach (after cs).trades (after cs).booked)
      (rw R.starts no_rows)
      (λ cs c h. one_more K R.apart (after cs) (after (cs ++ (c ∷ []))) c (takes cs c) (R.shape cs c) h)

  -- ---- what a call books, and what waits on

  moved-taken : (c : K.Call) (i : ℕ) (l : List Entry) → taken_in (each (moved_by K c) i l) ≡ taken_in l
  moved-taken c i [] = refl
  moved-taken c i (e ∷ l) = ap (λ k. e.taken ∷ k) (moved-taken c (suc i) l)

  fresh-taken : (l : List Taken) → taken_in (map fresh l) ≡ l
  fresh-taken [] = refl
  fresh-taken (w ∷ l) = ap (λ k. w ∷ k) (fresh-taken l)

  booking : (past : List K.Call) (c : K.Call) →
      taken_in (after (past ++ (c ∷ []))).booked ≡ taken_in (after past).booked ++ books_of K c (after past).waiting
  booking past c =
      ap taken_in (R.shape past c).booked
      ∙ map-append (λ e. e.taken) (each (moved_by K c) 0 (after past).booked) (map fresh (books_of K c (after past).waiting))
      ∙ ap₂ (λ x y. x ++ y) (moved-taken c 0 (after past).booked) (fresh-taken (books_of K c (after past).waiting))

  -- an order keeps its number
  numbered : (past cs : List K.Call) (n : ℕ) (w : Taken) → slice_get (taken_in (after past).booked) n ≡ Some w →
      slice_get (taken_in (after (past ++ cs)).booked) n ≡ Some w
  numbered past [] n w h = rw (append-nil past) h
  numbered past (c ∷ cs) n w h =
      rw (sym (append_assoc past (c ∷ []) cs))
      (numbered (past ++ (c ∷ [])) cs n w (rw (booking past c) (at_left (taken_in (after past).booked) (books_of K c (after past).waiting) n w h)))

  -- an order that waits waits on until an unrefused check
  waiting-on : (past rest : List K.Call) (w : Taken) → Within w (after past).waiting → All (λ d. K.tradable d ≡ None) rest → Within w (after (past ++ rest)).waiting
  waiting-on past [] w h a = rw (append-nil past) h
  waiting-on past (d ∷ rest) w h a =
      rw (sym (append_assoc past (d ∷ []) rest))
      (waiting-on (past ++ (d ∷ [])) rest w
      (rw ((R.shape past d).waiting, a.0) (within-left (after past).waiting (takes past d) w h)) a.1)

  waits : (past : List K.Call) (c : K.Call) (rest : List K.Call) (w : Taken) → Within w (takes past c) → All (λ d. K.tradable d ≡ None) rest → Within w (after (past ++ (c ∷ rest))).waiting
  waits past c rest w h a =
      rw (sym (append_assoc past (c ∷ []) rest))
      (waiting-on (past ++ (c ∷ [])) rest w (rw (R.shape past c).waiting (within-right (wait_on K c (after past).waiting) (takes past c) w h)) a)

  -- an unrefused check books each order that waits
  books : (past : List K.Call) (d : K.Call) (t : List Quote) (w : Taken) → Within w (after past).waiting → K.tradable d ≡ Some t →
      (n : ℕ) × BookedBy K takes after past d n × (slice_get (taken_in (after (past ++ (d ∷ []))).booked) n ≡ Some w)
  books past d t w h s =
      let old = taken_in (after past).booked in
      let new = books_of K d (after past).waiting in
      let i : Within w new = rw s (within-turn w (after past).waiting h) in
      let long : length old ≡ count past = length-map (after past).booked (λ e. e.taken) in
      let n = count past + i.0 in (
        n,
        record { not_yet = omega arith; now-is = omega (arith, count-one past d, slice_get_within new i.0 w i.1) },
        rw (booking past d) (at_right old new i.0 n w (omega (arith, long)) i.1),
      )

  -- ---- each order taken waits or is booked

  taken-by : (p : Taken → Bool) (T : Option (List Quote)) (w : List Taken) → how_many p (given T w (λ t. [])) + how_many p (given T [] (λ t. in_turn w)) ≡ how_many p w
  taken-by p T w = grind (arith, how-many-turn p w)

  taken : (p : Taken → Bool) (past cs : List K.Call) → how_many p (after past).waiting + how_many p (taken_in (after past).booked) + how_many p (taken_over K takes after past cs) ≡ how_many p (after (past ++ cs)).waiting + how_many p (taken_in (after (past ++ cs)).booked)
  taken p past [] = rw (append-nil past) (omega arith)
  taken p past (c ∷ cs) =
      let w = (after past).waiting in
      let q = past ++ (c ∷ []) in
      rw (sym (append_assoc past (c ∷ []) cs))
      (omega (
        arith,
        taken p q cs,
        taken-by p (K.tradable c) w,
        how-many-append p (takes past c) (taken_over K takes after q cs),
        ap (how_many p) (R.shape past c).waiting ∙ how-many-append p (wait_on K c w) (takes past c),
        ap (how_many p) (booking past c) ∙ how-many-append p (taken_in (after past).booked) (books_of K c w),
      ))

  -- ---- the claim

  fates : (cs past : List K.Call) (c : K.Call) (rest : List K.Call) (n : ℕ) → cs ≡ past ++ (c ∷ rest) → BookedBy K takes after past c n → (w : Taken) × Placed K takes after cs n w rest
  fates cs past c rest n e b =
      let q = past ++ (c ∷ []) in
      let bound : n < count cs = omega (arith, ap count (e ∙ sym (append_assoc past (c ∷ []) rest)), count-more q rest, b.now-is) in
      let r = all-at (Right cs) 0 n n (after cs).booked (omega arith) bound (right cs) in
      let here : since_from K takes after [] cs n ≡ rest = ap (λ l. since_from K takes after [] l n) e ∙ since-new [] past c n rest b.not_yet b.now-is in
      (r.0.taken, record { entry = r.0; there = r.1; its-order = refl; life = life K R.apart r.0 n rest (r.2 ∙ ap (fate_of K r.0.taken n) here) })

  lives : (cs past : List K.Call) (d : K.Call) (rest : List K.Call) (t : List Quote) (w : Taken) → cs ≡ past ++ (d ∷ rest) → Within w (after past).waiting → K.tradable d ≡ Some t →
      (n : ℕ) × BookedBy K takes after past d n × Placed K takes after cs n w rest
  lives cs past d rest t w e h s =
      let b = books past d t w h s in
      let f = (fates cs past d rest b.0 e b.1).1 in
      let is : slice_get (taken_in (after cs).booked) b.0 ≡ Some w =
      ap (λ l. slice_get (taken_in (after l).booked) b.0) (e ∙ sym (append_assoc past (d ∷ []) rest)) ∙ numbered (past ++ (d ∷ [])) rest b.0 w b.2 in
      let same : Some f.entry.taken ≡ Some w = sym (at_map (λ e. e.taken) (after cs).booked b.0 f.entry f.there) ∙ is in
      (b.0, b.1, record { entry = f.entry; there = f.there; its-order = cc; life = f.life })

  pub lived : (cs : List K.Call) → Lived K takes after cs
  lived cs =
      record {
        starts = R.starts;
        waiting = λ past c. (R.shape past c).waiting;
        booking = booking;
        one-for-one = λ p. omega (arith, taken p [] cs, ap (λ b. how_many p b.waiting + how_many p (taken_in b.booked)) R.starts);
        waits = λ past c rest w e h a. rw e (waits past c rest w h a);
        lives = λ past c quiet d rest t w e h a s. lives cs (past ++ (c ∷ quiet)) d rest t w e (waits past c quiet w h a) s;
        fates = fates cs;
        once = once cs;
        log = log [] cs ∙ ap (λ l. l ++ log_of K takes after [] cs) (ap (λ b. b.trades) R.starts);
      }
