-- Tests that draw a number, as document 01 lists them under "Who causes which number", and the number of each refusal. Definitions only.
use Rattle.std.specs.Prelude.{ℕ, Bool, true, false, List, [], ◌∷◌, Option, None, Some, Result, Ok, Err}
use Rattle.std.specs.Option.{option_or}
use Rattle.market.specs.declared.fault.Fault.{Fault}
use Rattle.market.specs.declared.fault.Fault.TheVariants.{UnknownSymbol, BadValue, NotAscending, BrokerFailed, Unquoted, NotMarket, ExceedsCash, ExceedsHolding, ZeroShares, LogFull, BookFull, WithdrawFailed, NothingToWeigh, TooManyCosts, ListTooShort, Unsound, LotOutOfRange, BeyondLot, MalformedLine, TextTooLong, AlikeRows, TooManyRows}

-- the paper's number of a refusal
abbrev pub number_of : Fault → ℕ
number_of UnknownSymbol = 1
number_of BadValue = 2
number_of NotAscending = 3
number_of BrokerFailed = 4
number_of Unquoted = 5
number_of NotMarket = 6
number_of ExceedsCash = 7
number_of ExceedsHolding = 8
number_of ZeroShares = 9
number_of LogFull = 10
number_of BookFull = 11
number_of WithdrawFailed = 12
number_of NothingToWeigh = 13
number_of TooManyCosts = 14
number_of ListTooShort = 15
number_of Unsound = 16
number_of LotOutOfRange = 17
number_of BeyondLot = 18
number_of MalformedLine = 19
number_of TextTooLong = 20
number_of AlikeRows = 21
number_of TooManyRows = 22

-- the paper's number of what a call draws, 0 where it draws none
abbrev pub number_drawn : Option Fault → ℕ
number_drawn None = 0
number_drawn (Some f) = number_of f

infix 68 ◌draws◌
-- a condition, and the refusal that it draws
pub data Test : Type 0 where
  ◌draws◌ : Bool → Fault → Test

-- the refusal of the first test whose condition holds, and None where none does
unfoldable pub drawn : List Test → Option Fault
drawn [] = None
drawn ((true draws f) ∷ l) = Some f
drawn ((false draws f) ∷ l) = drawn l

-- a where nothing is drawn, else b
abbrev pub unless_drawn : {A : Type 0} → Option Fault → A → A → A
unless_drawn None a b = a
unless_drawn (Some f) a b = b

-- the first refusal where it is drawn, else the second
abbrev pub first_drawn : Option Fault → Option Fault → Option Fault
first_drawn a b = option_or a b

-- what is answered: a value, or the refusal that is drawn
abbrev pub ok_unless : {A : Type 0} → Option Fault → A → Result A Fault
ok_unless None a = Ok a
ok_unless (Some f) a = Err f
