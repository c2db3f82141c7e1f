-- The pool: one QSE that every row names.
use Rattle.std.specs.Prelude.{◌≡◌, ℕ, ◌≤◌, ◌⊎◌, List, [], ◌∷◌, map, length, sum_by}
use Rattle.std.specs.List.{AllByRecursion}
use Rattle.rows.specs.Limits.{max_qses, max_value}
use Rattle.rows.specs.Rows.{PlainQse, PlainResource}
use Rattle.rows.specs.declared.codes.Side.{Side}
use Rattle.account.specs.View.{View, zeros, add, with_lines}
use Rattle.account.specs.Lines.{lines_on}
use Rattle.account.specs.Own.{Own, PlainTables, qse_own, view_on}
use Rattle.shortfall.specs.Shortfall.{shortfall_by, shortfall_of}

-- accounts added up, figure by figure
abbrev pub joined : Side → List Own → View
joined side [] = zeros
joined side (o ∷ os) = add (view_on side o) (joined side os)

-- the sum of all accounts, with all lines in the order of the table
abbrev pub pool_view : List Own → List PlainResource → Side → View
pool_view os rs side = with_lines (joined side os) (lines_on side rs)

-- its credit is the sum of credits
abbrev pub pool_shortfall : (View → ℕ) → List Own → List PlainResource → ℕ
pool_shortfall m os rs = shortfall_by m (pool_view os rs) (sum_by (λ o. o.figures.credit) os)

abbrev pub total : (View → ℕ) → List Own → ℕ
total m os = sum_by (shortfall_of m) os

abbrev pub Among : List ℕ → ℕ → Type 0
Among [] q = ⊥
Among (x ∷ xs) q = (x ≡ q) ⊎ Among xs q

-- no number stands twice
abbrev pub Distinct : List ℕ → Type 0
Distinct [] = Unit {0}
Distinct (x ∷ xs) = (Among xs x → ⊥) × Distinct xs

-- the rows of each QSE row in its own right
abbrev pub owns : PlainTables → List PlainQse → List Own
owns t qs = map (λ q. qse_own q t) qs

abbrev pub numbers : List PlainQse → List ℕ
numbers qs = map (λ q. q.number) qs

-- where the QSEs' numbers are distinct and every resource is one of theirs, the pool's shortfall is at most s
abbrev pub CoversPool : (View → ℕ) → PlainTables → List PlainQse → ℕ → Type 0
CoversPool m t qs s =
    Distinct (numbers qs)
    → AllByRecursion (λ r. Among (numbers qs) r.qse) t.resources
    → pool_shortfall m (owns t qs) t.resources ≤ s

-- the pool of no more QSEs than a book has is worth no more than a value may be, on either side
abbrev pub PoolBounded : (View → ℕ) → PlainTables → List PlainQse → Type 0
PoolBounded m t qs = length qs ≤ max_qses → (side : Side) → m (pool_view (owns t qs) t.resources side) ≤ max_value
