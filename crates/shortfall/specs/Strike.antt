-- Shortfalls written into their rows.
use Rattle.std.specs.Prelude.{◌≡◌, ℕ, ◌<◌, ◌≤◌, List, map, length, Ok, Err, Result, slice_index, slice_index_or}
use Rattle.rows.specs.Limits.{max_shortfall, max_qses}
use Rattle.rows.specs.Rows.{PlainQse, plain_qse}
use Rattle.rows.specs.declared.qse.QseRow.{QseRow}
use Rattle.rows.specs.declared.fault.Fault.{Fault}
use Rattle.rows.specs.declared.fault.Fault.TheVariants.{TotalTooHigh}
use Rattle.account.specs.View.{View}
use Rattle.account.specs.Own.{PlainTables, qse_own}
use Rattle.shortfall.specs.Shortfall.{shortfall_of}
use Rattle.shortfall.specs.Pool.{total, owns, CoversPool}

abbrev pub row_short : (View → ℕ) → PlainTables → PlainQse → ℕ
row_short m t q = shortfall_of m (qse_own q t)

-- the row with its shortfall, and every other field as it was
abbrev pub written : (View → ℕ) → PlainTables → PlainQse → PlainQse
written m t q = record { number = q.number; figures = q.figures; shortfall = row_short m t q; cents = q.cents }

-- xs are the shortfalls of as many first rows as a book has, in the order of the rows
abbrev pub First : (View → ℕ) → PlainTables → List QseRow → List ℕ → Type 0
First m t qs xs = (i : ℕ) → i < length qs → i < max_qses → (d : QseRow) → slice_index xs i ≡ row_short m t (plain_qse (slice_index_or qs i d))

-- every shortfall is written and T is their sum, at least the pool's; or T is too high and nothing is written
abbrev pub Struck : (View → ℕ) → PlainTables → List PlainQse → List PlainQse → Result ℕ Fault → Type 0
Struck m t qs rs (Ok s) = (s ≡ total m (owns t qs)) × (s ≤ max_shortfall) × (rs ≡ map (written m t) qs) × CoversPool m t qs s
Struck m t qs rs (Err e) = (e ≡ TotalTooHigh) × (max_shortfall < total m (owns t qs)) × (rs ≡ qs)
