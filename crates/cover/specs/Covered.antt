-- A cover of the positions of an account, written row by row.
use Rattle.std.specs.Prelude.{◌≡◌, ℕ, ◌<◌, ◌≤◌, List, length, take, drop, Ok, Err, Result}
use Rattle.rows.specs.declared.fault.Fault.{Fault}
use Rattle.rows.specs.declared.fault.Fault.TheVariants.{CoverTooShort}
use Rattle.account.specs.View.{View}
use Rattle.least.specs.Cover.{Cover, uncovered, Pair}
use Rattle.least.specs.SubType.{sources, demand, reserve, LeastUncovered}
use Rattle.cover.specs.Amounts.{amounts_all}

-- the rows written, one for each line, are a cover that leaves u uncovered, the least; rows past them are as they were
pub record CoveredBy (v : View) (out out' : List (List ℕ)) (u : ℕ) : Type 0 where
  pub space : length v.lines ≤ length out
  pub covers : Cover 9 Pair (sources v.lines) (demand v) (amounts_all (take (length v.lines) out'))
  pub total : uncovered 9 Pair (demand v) (amounts_all (take (length v.lines) out')) ≡ u
  pub least : LeastUncovered v u
  pub value : u ≡ reserve v
  pub later : drop (length v.lines) out' ≡ drop (length v.lines) out

-- a cover, or nothing written where there are more lines than rows to write
abbrev pub CoverOf : View → List (List ℕ) → List (List ℕ) → Result ℕ Fault → Type 0
CoverOf v out out' (Ok u) = CoveredBy v out out' u
CoverOf v out out' (Err e) = (e ≡ CoverTooShort) × (length out < length v.lines) × (out' ≡ out)
