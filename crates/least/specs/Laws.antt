-- What the least uncovered total keeps as lines and positions change: four laws.
use Rattle.std.specs.Prelude.{◌≡◌, ℕ, ◌+◌, ◌≤◌, List, [], ◌∷◌, ◌++◌}
use Rattle.std.specs.List.Sorted.{IsPermutation}
use Rattle.least.specs.Sources.{Source}
use Rattle.least.specs.Cover.{greatest_lack, Pair}

-- the greatest lack of a set of the nine sub-types
abbrev pub short : List Source → (ℕ → ℕ) → ℕ
short ls p = greatest_lack 9 Pair ls p

-- the line m is no lower than l in any number
pub record Higher (l m : Source) : Type 0 where
  pub room : l.room ≤ m.room
  pub capability : (j : ℕ) → l.capability j ≤ m.capability j

-- line by line no lower, and perhaps more lines
abbrev pub Better : List Source → List Source → Type 0
Better [] ms = Unit {0}
Better (l ∷ ls) [] = ⊥
Better (l ∷ ls) (m ∷ ms) = Higher l m × Better ls ms

-- order: lines in another order change nothing. pool: two sides as one lack at most the sum.
-- help: higher lines, or lower positions, never raise it. nothing: no lines and no positions lack nothing.
pub record Laws : Type 0 where
  pub order : (ls ms : List Source) (p : ℕ → ℕ) → IsPermutation ls ms → short ms p ≡ short ls p
  pub pool : (ls ms : List Source) (p q r : ℕ → ℕ) → ((k : ℕ) → r k ≤ p k + q k) → short (ls ++ ms) r ≤ short ls p + short ms q
  pub help : (ls ms : List Source) (p q : ℕ → ℕ) → Better ls ms → ((k : ℕ) → q k ≤ p k) → short ms q ≤ short ls p
  pub nothing : short [] (λ k. 0) ≡ 0
