-- Words of a line and parts of a word, as lists of bytes: docs/SCENARIOS.md, "A line". Definitions only.
use Rattle.std.specs.Prelude.{ℕ, suc, ◌+◌, ◌-◌, ◌≤◌, min, Bool, true, false, ◌&&◌, cond, ◌≡◌, List, [], ◌∷◌, eqb, length, get_or, take, drop}
use Prim.Native.Char.{code}
use Prim.Native.String.{String, [] as none, ◌∷◌ as ◌then◌}
use Rattle.std.specs.Bool.{beq}
use Rattle.words.specs.declared.word.Word.{Word}

-- a byte before the first of the parts
abbrev pub on_first : ℕ → List (List ℕ) → List (List ℕ)
on_first x [] = (x ∷ []) ∷ []
on_first x (p ∷ ps) = (x ∷ p) ∷ ps

-- the parts of a text that the byte b separates; they are one more than such bytes, and may be empty
unfoldable pub split : ℕ → List ℕ → List (List ℕ)
split b [] = [] ∷ []
split b (x ∷ l) = cond (eqb x b) ([] ∷ split b l) (on_first x (split b l))

-- the parts that have a byte, in their order
abbrev pub nonempty : List (List ℕ) → List (List ℕ)
nonempty [] = []
nonempty ([] ∷ ps) = nonempty ps
nonempty ((x ∷ p) ∷ ps) = (x ∷ p) ∷ nonempty ps

-- the words of a line: what spaces separate, and no word is empty
unfoldable pub words_of : List ℕ → List (List ℕ)
words_of l = nonempty (split 32 l)

-- the part of a word behind k colons; empty where there are fewer
abbrev pub part_of : List ℕ → ℕ → List ℕ
part_of w k = get_or (split 58 w) k []

-- is it the byte b, or with `is` false another one?
abbrev pub is_byte : ℕ → Bool → ℕ → Bool
is_byte b is x = beq (eqb x b) is

-- how many bytes stand before the first one that passes the test; all of them where none does
unfoldable pub lead : (ℕ → Bool) → List ℕ → ℕ
lead p [] = 0
lead p (x ∷ l) = cond (p x) 0 (suc (lead p l))

-- the place of the first byte at or after `at` that passes the test, or the text's end
abbrev pub place : (ℕ → Bool) → List ℕ → ℕ → ℕ
place p l at = min at (length l) + lead p (drop at l)

-- the word that starts at a place ends before the next space
abbrev pub word_from : List ℕ → ℕ → Word
word_from l from = record { from = from; to = place (is_byte 32 true) l from }

-- the word at or after a place starts at the first byte that is no space; it is empty, at the line's end, where there is none
unfoldable pub word_at : List ℕ → ℕ → Word
word_at l at = word_from l (place (is_byte 32 false) l at)

-- the bytes of a word of the line
abbrev pub bytes_in : List ℕ → Word → List ℕ
bytes_in l w = take (w.to - w.from) (drop w.from l)

-- a place of the line that holds these bytes
pub record Holds (l : List ℕ) (w : Word) (p : List ℕ) : Type 0 where
  pub ordered : w.from ≤ w.to
  pub within : w.to ≤ length l
  pub bytes : bytes_in l w ≡ p

-- are two texts the same, byte for byte?
unfoldable pub same_bytes : List ℕ → List ℕ → Bool
same_bytes [] [] = true
same_bytes [] (y ∷ m) = false
same_bytes (x ∷ l) [] = false
same_bytes (x ∷ l) (y ∷ m) = eqb x y && same_bytes l m

-- the bytes of a name of ASCII characters
abbrev pub ascii : String → List ℕ
ascii none = []
ascii (c then s) = code c ∷ ascii s
