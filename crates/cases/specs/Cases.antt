-- The table of worked cases. A case's number begins with the section of document 01 whose rules it tries; from 1001 on they are of document 02, a thousand a
-- request. Definitions only.
use Rattle.ledger.specs.Examples.{AllHold}
use Rattle.cases.specs.Figures.{figures}
use Rattle.cases.specs.Tables.{tables}
use Rattle.cases.specs.Trading.{trading}
use Rattle.cases.specs.Sending.{sending}
use Rattle.cases.specs.Booking.{booking, valuing, folding}
use Rattle.cases.specs.Liquidating.{liquidating}
use Rattle.cases.specs.Checking.{checking}
use Rattle.cases.specs.Weighing.{weighing}
use Rattle.cases.specs.Lots.{lots}
use Rattle.cases.specs.Turnovers.{turnovers}
use Rattle.cases.specs.Corrected.{corrected}

-- every case is what documents 01 and 02 make of it: section 1; section 2 and its numbers; section 3; section 4, sends, trades, values, cost basis,
-- liquidations, checks; section 5; request 1; request 4; request 5
abbrev pub Cases : Type 0
Cases =
    AllHold figures ×
    AllHold tables ×
    AllHold trading ×
    AllHold sending × AllHold booking × AllHold valuing × AllHold folding × AllHold liquidating × AllHold checking × AllHold weighing × AllHold lots × AllHold turnovers × AllHold corrected
