-- Corrected quotes are as document 02 says, and in one way alone. Assumes nothing.
use Rattle.corrections.specs.Claims.{CorrectsQuotes}
use Rattle.corrections.proofs.AnyOrder.{any_order}
use Rattle.corrections.proofs.Corrects.{checks-take-it, corrects, corrects-once}

pub corrects-quotes : CorrectsQuotes
corrects-quotes = record { made = corrects; once = corrects-once; any_order = any_order; taken = checks-take-it }
