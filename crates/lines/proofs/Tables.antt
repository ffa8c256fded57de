-- A table by symbol and its rows: they draw the same numbers, and have the same text. Assumes nothing.
use Rattle.std.specs.declared.option.Option.{Option}
use Rattle.std.specs.declared.option.Option.TheVariants.{None}
use Prim.Native.Nat.{ℕ}
use mathlib.Core.Path.{◌≡◌, ap, sym, ◌∙◌}
use mathlib.Core.List.{List, [], ◌∷◌, ◌++◌}
use lib.Dec.{ltb}
use Rattle.market.specs.Faults.{◌draws◌, drawn, unless_drawn, first_drawn}
use Rattle.market.specs.declared.fault.Fault.{Fault}
use Rattle.market.specs.declared.fault.Fault.TheVariants.{ListTooShort}
use Rattle.market.specs.Quotes.{table_tests, table_of}
use Rattle.market.specs.declared.quote.Quote.{Quote}
use Rattle.market.proofs.Faults.{drawn-append, append-none}
use Rattle.market.proofs.Listed.{by-symbol}
use Rattle.market.proofs.Rows.{unless-same}
use Rattle.market.proofs.Tables as Table
use Rattle.lines.specs.Lines.{line_text, line_for, newline, text_of}
use Rattle.lines.specs.Writing.{table_text, table_fault, table_written, write_fault, text_written}

module _ (room : ℕ) (l : List Quote) where
  pub table-fault : table_fault room (table_of l) ≡ write_fault room l
  unfolding write_fault
  table-fault =
      ap (first_drawn (drawn ((ltb room 15104 draws ListTooShort) ∷ []))) (Table.table-fault l)
      ∙ sym (drawn-append ((ltb room 15104 draws ListTooShort) ∷ []) (table_tests 0 l))

  rows-sound : write_fault room l ≡ None → drawn (table_tests 0 l) ≡ None
  unfolding write_fault
  rows-sound e = (append-none ((ltb room 15104 draws ListTooShort) ∷ []) (table_tests 0 l) e).1

  same_text : drawn (table_tests 0 l) ≡ None → table_text (table_of l) ≡ text_of l
  unfolding table_text
  same_text e = by-symbol (λ s q. line_text (line_for s q) ++ newline) l e

  pub table-written : table_written room (table_of l) ≡ text_written room l
  unfolding text_written
  table-written =
      ap (λ (d : Option Fault). unless_drawn d (table_text (table_of l)) []) table-fault
      ∙ unless-same (write_fault room l) (table_text (table_of l)) (text_of l) [] (λ z. same_text (rows-sound z))
