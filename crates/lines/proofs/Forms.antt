-- A line and its text: each line that 64 bits hold has one text, and no other text is read as it. Assumes nothing.
use Prim.Native.Nat.{ℕ}
use mathlib.Core.Path.{◌≡◌, refl, ap, sym, ◌∙◌}
use mathlib.Core.List.{List, [], ◌∷◌, ◌++◌, append_assoc}
use Rattle.std.specs.declared.option.Option.{Option}
use Rattle.std.specs.declared.option.Option.TheVariants.{None, Some}
use Rattle.std.proofs.lemmas.Option.{same_Some, none-some}
use lib.IntN.{ℤ}
use Rattle.words.specs.Words.{lead}
use Rattle.numerals.specs.Numerals.{digits, date_text, hex16, decimal_in, date_in, bits_in}
use Rattle.numerals.proofs.Decimals.{decimal-is, decimal-text}
use Rattle.numerals.proofs.Dates.{date-is, date-text, date-fits}
use Rattle.numerals.proofs.Hexes.{bits_are, bits-text, bits_fit}
use Rattle.numerals.proofs.Bytes.{Lacks, lacks-append, digits-lack-comma, date-lacks-comma, hex-lacks-comma, digits-lack-newline, date-lacks-newline, hex-lacks-newline}
use Rattle.lines.specs.Claims.{Said, LineForm}
use Rattle.lines.specs.Lines.{Line, line_text, before, behind, line_with, line_in}
use Rattle.lines.proofs.Cuts.{cut-before, cut-behind, parted}

-- four fields, each but the last with the comma that ends it
abbrev fields : List ℕ → List ℕ → List ℕ → List ℕ → List ℕ
fields n d b a = n ++ 44 ∷ (d ++ 44 ∷ (b ++ 44 ∷ a))

in-fields : (l : Line) → line_text l ≡ fields (digits l.symbol) (date_text l.date) (hex16 l.bid) (hex16 l.ask)
in-fields l = simp append_assoc

-- ---- what is written is read

module _ (l : Line) where
  abbrev asks : List ℕ
  asks = hex16 l.ask

  abbrev bids : List ℕ
  bids = hex16 l.bid ++ 44 ∷ asks

  abbrev dates : List ℕ
  dates = date_text l.date ++ 44 ∷ bids

  abbrev all : List ℕ
  all = digits l.symbol ++ 44 ∷ dates

  behind-symbol : behind all ≡ dates
  behind-symbol = cut-behind 44 (digits l.symbol) dates (digits-lack-comma l.symbol)

  behind-date : behind (behind all) ≡ bids
  behind-date = ap behind behind-symbol ∙ cut-behind 44 (date_text l.date) bids (date-lacks-comma l.date)

  behind-bid : behind (behind (behind all)) ≡ asks
  behind-bid = ap behind behind-date ∙ cut-behind 44 (hex16 l.bid) asks (hex-lacks-comma l.bid)

  symbol-read : decimal_in (before all) ≡ Some l.symbol
  symbol-read = ap decimal_in (cut-before 44 (digits l.symbol) dates (digits-lack-comma l.symbol)) ∙ decimal-is l.symbol

  module _ (h : Said l) where
    date-read : date_in (before (behind all)) ≡ Some l.date
    date-read =
        ap (λ (s : List ℕ). date_in (before s)) behind-symbol
        ∙ ap date_in (cut-before 44 (date_text l.date) bids (date-lacks-comma l.date))
        ∙ date-is l.date h.date

    bid-read : bits_in (before (behind (behind all))) ≡ Some l.bid
    bid-read =
        ap (λ (s : List ℕ). bits_in (before s)) behind-date
        ∙ ap bits_in (cut-before 44 (hex16 l.bid) asks (hex-lacks-comma l.bid))
        ∙ bits_are l.bid h.bid

    ask-read : bits_in (behind (behind (behind all))) ≡ Some l.ask
    ask-read = ap bits_in behind-bid ∙ bits_are l.ask h.ask

    fields_read : line_in all ≡ Some l
    unfolding line_in
    fields_read = rw (symbol-read, date-read, bid-read, ask-read)

    pub line_read : line_in (line_text l) ≡ Some l
    line_read = ap line_in (in-fields l) ∙ fields_read

  -- a line's text holds no newline
  pub line-lacks : Lacks 10 (line_text l)
  line-lacks =
      let bid = lacks-append 10 (hex16 l.bid) (44 ∷ asks) (hex-lacks-newline l.bid) (refl, hex-lacks-newline l.ask) in
      let date = lacks-append 10 (date_text l.date) (44 ∷ bids) (date-lacks-newline l.date) (refl, bid) in
      rw (in-fields l) (lacks-append 10 (digits l.symbol) (44 ∷ dates) (digits-lack-newline l.symbol) (refl, date))

-- ---- what is read is what would be written

fields-said : (n : Option ℕ) (d : Option ℤ) (b a : Option ℕ) (l : Line) → line_with n d b a ≡ Some l →
    (n ≡ Some l.symbol) × (d ≡ Some l.date) × (b ≡ Some l.bid) × (a ≡ Some l.ask)
fields-said None d b a l e = absurd (none-some l e)
fields-said (Some n) None b a l e = absurd (none-some l e)
fields-said (Some n) (Some d) None a l e = absurd (none-some l e)
fields-said (Some n) (Some d) (Some b) None l e = absurd (none-some l e)
fields-said (Some n) (Some d) (Some b) (Some a) l e =
    let p = same_Some _ l e in (
      ap (λ (k : Line). Some k.symbol) p,
      ap (λ (k : Line). Some k.date) p,
      ap (λ (k : Line). Some k.bid) p,
      ap (λ (k : Line). Some k.ask) p,
    )

-- nothing is no date and no bits, so a comma stands before each
no-date : (s : List ℕ) (z : ℤ) → date_in (before s) ≡ Some z → s ≡ [] → ⊥
unfolding lead date_in
no-date s z e n = none-some z (sym (ap (λ (t : List ℕ). date_in (before t)) n) ∙ e)

no_bits : (s : List ℕ) (m : ℕ) → bits_in (before s) ≡ Some m → s ≡ [] → ⊥
unfolding lead bits_in
no_bits s m e n = none-some m (sym (ap (λ (t : List ℕ). bits_in (before t)) n) ∙ e)

none-bits : (s : List ℕ) (m : ℕ) → bits_in s ≡ Some m → s ≡ [] → ⊥
unfolding bits_in
none-bits s m e n = none-some m (sym (ap bits_in n) ∙ e)

module _ (s : List ℕ) (l : Line) (e : line_in s ≡ Some l) where
  said : (decimal_in (before s) ≡ Some l.symbol)
      × (date_in (before (behind s)) ≡ Some l.date)
      × (bits_in (before (behind (behind s))) ≡ Some l.bid)
      × (bits_in (behind (behind (behind s))) ≡ Some l.ask)
  unfolding line_in
  said = fields-said _ _ _ _ l e

  pub line-said : Said l
  line-said = record { date = date-fits _ _ said.1; bid = bits_fit _ _ said.2; ask = bits_fit _ _ said.3 }

  pub line-is : s ≡ line_text l
  line-is =
      parted 44 s (no-date (behind s) _ said.1)
      ∙ ap (λ (t : List ℕ). before s ++ 44 ∷ t) (
      parted 44 (behind s) (no_bits (behind (behind s)) _ said.2)
      ∙ ap (λ (t : List ℕ). before (behind s) ++ 44 ∷ t) (parted 44 (behind (behind s)) (none-bits (behind (behind (behind s))) _ said.3))
      )
      ∙ ap (λ (t : List ℕ). fields t (before (behind s)) (before (behind (behind s))) (behind (behind (behind s)))) (decimal-text _ _ said.0)
      ∙ ap (λ (t : List ℕ). fields (digits l.symbol) t (before (behind (behind s))) (behind (behind (behind s)))) (date-text _ _ said.1)
      ∙ ap (λ (t : List ℕ). fields (digits l.symbol) (date_text l.date) t (behind (behind (behind s)))) (bits-text _ _ said.2)
      ∙ ap (λ (t : List ℕ). fields (digits l.symbol) (date_text l.date) (hex16 l.bid) t) (bits-text _ _ said.3)
      ∙ sym (in-fields l)

-- ---- both

pub line-form : LineForm
line-form s l = (λ e. (line-said s l e, line-is s l e), λ h e. ap line_in e ∙ line_read l h)
