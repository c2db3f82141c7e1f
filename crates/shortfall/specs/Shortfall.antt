-- The shortfall of a QSE, by its own rows alone.
use Rattle.std.specs.Prelude.{ℕ, ◌-◌, ◌≤◌, max, [], ◌∷◌, ◌++◌}
use Rattle.rows.specs.Rows.{PlainResource}
use Rattle.rows.specs.declared.codes.Side.{Side}
use Rattle.rows.specs.declared.codes.Side.TheVariants.{Snapshot, Adjusted}
use Rattle.account.specs.View.{View}
use Rattle.account.specs.Own.{Own, view_on}

-- the greater of the two sides' values, less the credit
abbrev pub shortfall_by : (View → ℕ) → (Side → View) → ℕ → ℕ
shortfall_by m at credit = max (m (at Snapshot)) (m (at Adjusted)) - credit

abbrev pub shortfall_of : (View → ℕ) → Own → ℕ
shortfall_of m o = shortfall_by m (λ side. view_on side o) o.figures.credit

-- the same rows and one resource more
abbrev pub with_resource : Own → PlainResource → Own
with_resource o r = record { number = o.number; figures = o.figures; loads = o.loads; resources = o.resources ++ r ∷ []; trades = o.trades }

-- one more resource of its own never raises a shortfall above s
abbrev pub NeverRaised : (View → ℕ) → Own → ℕ → Type 0
NeverRaised m o s = (r : PlainResource) → shortfall_of m (with_resource o r) ≤ s
