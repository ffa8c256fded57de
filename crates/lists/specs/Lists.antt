-- What the contracts are written with: lists, what may be missing, and an array with a list in its first places.
-- Definitions only.
use Rattle.std.specs.Prelude.{ℕ, zero, suc, ◌+◌, Bool, cond, List, [], ◌∷◌, ◌++◌, length, take, drop}
use Rattle.std.specs.Prelude.{Option, None, Some}

-- the array l with the list k in its first places; what lies past k is as it was
abbrev pub over : {A : Type 0} → List A → List A → List A
over k l = k ++ drop (length k) l

-- the list d with the rows l from place at on; what lies before them and past them is as it was
abbrev pub stored : {A : Type 0} → List A → ℕ → List A → List A
stored d at l = take at d ++ l ++ drop (at + length l) d

-- n numbers from i on
abbrev pub span : ℕ → ℕ → List ℕ
span i zero = []
span i (suc n) = i ∷ span (suc i) n

-- the elements that pass the test, in their order
abbrev pub keep : {A : Type 0} → (A → Bool) → List A → List A
keep p [] = []
keep p (a ∷ l) = cond (p a) (a ∷ keep p l) (keep p l)

-- what f makes of each element, joined in their order
abbrev pub gather : {A B : Type 0} → (A → List B) → List A → List B
gather f [] = []
gather f (a ∷ l) = f a ++ gather f l

-- f of each element and its place, the first place being i
abbrev pub each : {A B : Type 0} → (ℕ → A → B) → ℕ → List A → List B
each f i [] = []
each f i (a ∷ l) = f i a ∷ each f (suc i) l

-- the place of the first element that passes the test, counted from i
abbrev pub first_from : {A : Type 0} → ℕ → (A → Bool) → List A → Option ℕ
first_from i p [] = None
first_from i p (a ∷ l) = cond (p a) (Some i) (first_from (suc i) p l)

-- the list without the element at a place
abbrev pub without : {A : Type 0} → List A → ℕ → List A
without l i = take i l ++ drop (suc i) l

-- what may be missing: b where it is, f of it where it is there
abbrev pub given : {A B : Type 0} → Option A → B → (A → B) → B
given None b f = b
given (Some a) b f = f a

-- what may be missing, as a list of at most one
abbrev pub holds : {A : Type 0} → Option A → List A
holds None = []
holds (Some a) = a ∷ []

-- p of every element
abbrev pub All : {A : Type 0} → (A → Type 0) → List A → Type 0
All p [] = Unit {0}
All p (a ∷ l) = p a × All p l
