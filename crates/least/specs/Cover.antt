-- Covers of positions by lines, what they leave uncovered, the lack of a set, and that the greatest lack is the least uncovered total.
-- n sub-types, counted from 0; E j q: capability j may cover position q; p q: what position q asks for.
use Rattle.std.specs.Prelude.{◌≡◌, ℕ, zero, suc, ◌+◌, ◌-◌, ◌/◌, ◌%◌, ◌^◌, ◌<◌, ◌≤◌, max, Bool, false, ◌&&◌, ◌||◌, List, [], ◌∷◌, ◌==◌}
use Rattle.least.specs.Sources.{Set, sum_in, Source, reach_all}

-- the sum of f over all sub-types
abbrev pub sum_below : ℕ → (ℕ → ℕ) → ℕ
sum_below zero f = 0
sum_below (suc n) f = sum_below n f + f n

-- what a line gives: of capability j for position q
abbrev pub Amounts : Type 0
Amounts = ℕ → ℕ → ℕ

-- what the amounts of a line take of capability j
abbrev pub taken : ℕ → (ℕ → ℕ → Bool) → Amounts → ℕ → ℕ
taken n E x j = sum_in n (λ q. E j q) (λ q. x j q)

-- what position q gets from the amounts of a line, and of all lines
abbrev pub got : ℕ → (ℕ → ℕ → Bool) → Amounts → ℕ → ℕ
got n E x q = sum_in n (λ j. E j q) (λ j. x j q)

abbrev pub got_all : ℕ → (ℕ → ℕ → Bool) → List Amounts → ℕ → ℕ
got_all n E [] q = 0
got_all n E (x ∷ xs) q = got n E x q + got_all n E xs q

-- the amounts take no more of a capability than the line has, and in all no more than its room
pub record Fits (n : ℕ) (E : ℕ → ℕ → Bool) (l : Source) (x : Amounts) : Type 0 where
  pub caps : (j : ℕ) → j < n → taken n E x j ≤ l.capability j
  pub room : sum_below n (taken n E x) ≤ l.room

-- amounts for each line, that fit it
abbrev pub FitsAll : ℕ → (ℕ → ℕ → Bool) → List Source → List Amounts → Type 0
FitsAll n E [] [] = Unit {0}
FitsAll n E [] (x ∷ xs) = ⊥
FitsAll n E (l ∷ ls) [] = ⊥
FitsAll n E (l ∷ ls) (x ∷ xs) = Fits n E l x × FitsAll n E ls xs

-- amounts that fit the lines and give no position more than it asks for
pub record Cover (n : ℕ) (E : ℕ → ℕ → Bool) (ls : List Source) (p : ℕ → ℕ) (xs : List Amounts) : Type 0 where
  pub fits : FitsAll n E ls xs
  pub under : (q : ℕ) → q < n → got_all n E xs q ≤ p q

-- what the positions ask for beyond what they get
abbrev pub uncovered : ℕ → (ℕ → ℕ → Bool) → (ℕ → ℕ) → List Amounts → ℕ
uncovered n E p xs = sum_below n p - sum_below n (got_all n E xs)

-- u is the least uncovered total: a cover leaves it, and none leaves less
pub record Least (n : ℕ) (E : ℕ → ℕ → Bool) (ls : List Source) (p : ℕ → ℕ) (u : ℕ) : Type 0 where
  pub reached : (xs : List Amounts) × Cover n E ls p xs × (uncovered n E p xs ≡ u)
  pub least : (xs : List Amounts) → Cover n E ls p xs → u ≤ uncovered n E p xs

-- the set number k: the binary digits of k say which sub-types are in it
abbrev pub bit : ℕ → ℕ → Bool
bit k zero = k % 2 == 1
bit k (suc q) = bit (k / 2) q

-- whether f holds somewhere below n
abbrev pub any : ℕ → (ℕ → Bool) → Bool
any zero f = false
any (suc n) f = f n || any n f

-- the capabilities that may cover a position of A
abbrev pub able : ℕ → (ℕ → ℕ → Bool) → Set → Set
able n E A j = any n (λ q. E j q && A q)

-- the lack of A: what its positions ask for beyond all that the lines can give them
abbrev pub lack : ℕ → (ℕ → ℕ → Bool) → List Source → (ℕ → ℕ) → Set → ℕ
lack n E ls p A = sum_in n A p - reach_all n ls (able n E A)

-- the greatest of f below n
abbrev pub greatest : ℕ → (ℕ → ℕ) → ℕ
greatest zero f = 0
greatest (suc n) f = max (greatest n f) (f n)

-- the greatest lack of a set, over all sets
abbrev pub greatest_lack : ℕ → (ℕ → ℕ → Bool) → List Source → (ℕ → ℕ) → ℕ
greatest_lack n E ls p = greatest (2 ^ n) (λ k. lack n E ls p (bit k))

-- the fourteen pairs, capability first: within RRS, ECRS and Non-Spin a capability covers its own position and those after it
abbrev pub pairs : List (ℕ × ℕ)
pairs = (0, 0) ∷ (1, 1) ∷ (2, 2) ∷ (2, 3) ∷ (2, 4) ∷ (3, 3) ∷ (3, 4) ∷ (4, 4) ∷ (5, 5) ∷ (5, 6) ∷ (6, 6) ∷ (7, 7) ∷ (7, 8) ∷ (8, 8) ∷ []

-- whether (j, q) is in a table
abbrev pub holds : ℕ → ℕ → List (ℕ × ℕ) → Bool
holds j q [] = false
holds j q (t ∷ ts) = (j == t.0 && q == t.1) || holds j q ts

-- whether capability j may cover position q
abbrev pub Pair : ℕ → ℕ → Bool
Pair j q = holds j q pairs

-- the greatest lack of a set is the least uncovered total
abbrev pub Duality : Type 0
Duality = (ls : List Source) (p : ℕ → ℕ) → Least 9 Pair ls p (greatest_lack 9 Pair ls p)
