-- What calls mean: of the form's test, and of the word at a place. Assumes nothing.
use Prim.Native.Nat.{ℕ, suc}
use native.Mathlib.Omega.{arith}
use mathlib.Core.Path.{◌≡◌, refl, sym, ap, ◌∙◌}
use mathlib.Core.Bool.{Bool, true, false, cond}
use mathlib.Core.List.{List, [], ◌∷◌}
use borrow.Author.Tests.{ne_eqb}
use lib.Dec.{eqb}
use lib.Ieee.{Float}
use Rattle.std.specs.declared.option.Option.{Option}
use Rattle.std.specs.declared.option.Option.TheVariants.{None, Some}
use Rattle.std.specs.Option.{unwrap_or}
use lib.ListN.{length, drop}
use Rattle.words.proofs.Words.{no-first}
use Rattle.words.specs.Words.{words_of, same_bytes, ascii}
use Rattle.calls.specs.declared.call.Call.{Call}
use Rattle.calls.specs.declared.verb.Verb.{Verb}
use Rattle.calls.specs.declared.verb.Verb.TheVariants.{Malformed}
use Rattle.calls.specs.Verbs.{verb_of}
use Rattle.calls.specs.Lists.{is_empty, first_of, rest_of, first_words, words_in}
use Rattle.calls.specs.Calls.{Said, plainly, said_if, heard, heard_or, plain_call, said_as, said, side_said, side_named, Lotted, said_built}

-- ---- a form is met, or it is not
module _ (t : Bool) (s : Said) {x : Said} where
  pub met : t ≡ true → x ≡ s → x ≡ said_if t s
  unfolding said_if
  met e q = q ∙ ap (λ (b : Bool). cond b s (plainly Malformed)) (sym e)

  pub unmet : t ≡ false → x ≡ plainly Malformed → x ≡ said_if t s
  unfolding said_if
  unmet e q = q ∙ ap (λ (b : Bool). cond b s (plainly Malformed)) (sym e)

-- a call that is its verb alone
pub plain-heard : (line : List ℕ) (v : Verb) {r : Call} → r ≡ plain_call v → heard line r ≡ plainly v
unfolding heard plain_call words_in first_words
plain-heard line v e = ap (heard line) e

-- a call that was read, or else one that is malformed
pub read_or : (line : List ℕ) (o : Option Call) {d r : Call} → r ≡ unwrap_or o d → d ≡ plain_call Malformed → heard line r ≡ heard_or line o
read_or line None e f = plain-heard line Malformed (e ∙ f)
read_or line (Some c) e f = ap (heard line) e

-- what the line's first word and the words behind it say
pub said-is : (line : List ℕ) {w : List ℕ} (next : ℕ) → w ≡ first_of (words_of line) → words_of (drop next line) ≡ rest_of (words_of line) → (v : Verb) → v ≡ verb_of w → said_as v (words_of (drop next line)) ≡ said (words_of line)
unfolding said
said-is line next e f v q = ap (said_as v) f ∙ ap (λ (u : Verb). said_as u (rest_of (words_of line))) (q ∙ ap verb_of e)

-- no word is left just where the first one is empty
end-by : (ws : List (List ℕ)) → (first_of ws ≡ [] → ws ≡ []) → eqb (length (first_of ws)) 0 ≡ is_empty ws
end-by [] h = refl
end-by ([] ∷ ws) h = absurd (let z : ◌≡◌ {A = ℕ} 0 1 = cc (h refl) in omega arith)
end-by ((x ∷ w) ∷ ws) h = ne_eqb (suc (length w)) 0 (λ q. omega arith)

pub end_of : (l w : List ℕ) → w ≡ first_of (words_of l) → eqb (length w) 0 ≡ is_empty (words_of l)
end_of l w e = ap (λ (v : List ℕ). eqb (length v) 0) e ∙ end-by (words_of l) (no-first l)

-- a side by its names
pub side-is : (v : Verb) (budget price : Float) {w u : List ℕ} → w ≡ u → {buys sells : Bool} → buys ≡ same_bytes w (ascii "buy") → sells ≡ same_bytes w (ascii "sell") → side_said v budget price buys sells ≡ side_named v budget price u
side-is v budget price {w} q {buys} {sells} eb es =
    ap (λ (b : Bool). side_said v budget price b sells) eb
    ∙ ap (side_said v budget price (same_bytes w (ascii "buy"))) es
    ∙ ap (side_named v budget price) q

-- what stands behind a log's length, with the lot as it was read
pub built : (v : Verb) (log : ℕ) {l m : Lotted} → l ≡ m → {x : Said} → x ≡ said_built v log l → x ≡ said_built v log m
built v log e q = q ∙ ap (said_built v log) e
