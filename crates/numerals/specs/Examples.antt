-- Texts as document 02 describes them, and what they say: a table that one theorem proves. Definitions only.
use Rattle.std.specs.Prelude.{◌^◌, [], ◌≡◌, neg_ℤ, pos}
use Rattle.std.specs.Prelude.{None, Some}
use Rattle.words.specs.Words.{ascii}
use Rattle.numerals.specs.Numerals.{digits, date_text, hex16, decimal_in, date_in, bits_in}

-- the worked cases of numbers, by their number in docs/CASES.md
abbrev pub Examples : Type 0
Examples =
    -- 2001: written
    (digits 0 ≡ ascii "0")
    × (digits 10 ≡ ascii "10")
    × (digits 4294967303 ≡ ascii "4294967303")
    × (date_text (neg_ℤ (pos 1)) ≡ ascii "-1")
    × (date_text (neg_ℤ (pos (2 ^ 63))) ≡ ascii "-9223372036854775808")
    × (hex16 0x3ff0000000000000 ≡ ascii "3ff0000000000000")
    × (hex16 10 ≡ ascii "000000000000000a")
    -- 2002: decimal without spare zeros, of any length
    × (decimal_in (ascii "0") ≡ Some 0)
    × (decimal_in (ascii "4294967303") ≡ Some 4294967303)
    × (decimal_in (ascii "100000000000000000000000000000000007") ≡ Some 100000000000000000000000000000000007)
    × (decimal_in (ascii "07") ≡ None)
    × (decimal_in (ascii "00") ≡ None)
    × (decimal_in (ascii "+7") ≡ None)
    × (decimal_in (ascii "7 ") ≡ None)
    × (decimal_in (ascii "a") ≡ None)
    × (decimal_in [] ≡ None)
    -- 2003: dates of 64 bits, with a minus where negative, never minus zero
    × (date_in (ascii "-1") ≡ Some (neg_ℤ (pos 1)))
    × (date_in (ascii "0") ≡ Some (pos 0))
    × (date_in (ascii "9223372036854775807") ≡ Some (pos 9223372036854775807))
    × (date_in (ascii "9223372036854775808") ≡ None)
    × (date_in (ascii "-9223372036854775808") ≡ Some (neg_ℤ (pos 9223372036854775808)))
    × (date_in (ascii "-9223372036854775809") ≡ None)
    × (date_in (ascii "-0") ≡ None)
    × (date_in (ascii "-01") ≡ None)
    × (date_in (ascii "--1") ≡ None)
    × (date_in (ascii "-") ≡ None)
    × (date_in [] ≡ None)
    -- 2004: 16 lower-case hexadecimal digits
    × (bits_in (ascii "3ff0000000000000") ≡ Some 0x3ff0000000000000)
    × (bits_in (ascii "ffffffffffffffff") ≡ Some 0xffffffffffffffff)
    × (bits_in (ascii "3FF0000000000000") ≡ None)
    × (bits_in (ascii "3ff000000000000") ≡ None)
    × (bits_in (ascii "3ff00000000000000") ≡ None)
    × (bits_in (ascii "3ff000000000000g") ≡ None)
