-- The grouped edition of the rules.
use Rattle.std.specs.Prelude.{◌≡◌, ℕ, ◌+◌, ◌-◌, ◌*◌, max, ℤ, pos, ◌-ℤ◌, sum_by}
use Rattle.account.specs.View.{View, Line, counted, over, reg_up, reg_down, rrs, slow, up}
use Rattle.measure.specs.Levels.{fast, with_ecrs, level, IsLevels}
use Rattle.measure.specs.declared.breakdown.Breakdown.{Breakdown}

-- what a line gives to the overall part
abbrev pub supply : Line → ℕ
supply l = l.available + l.loadpart

-- the reserves that the overall part asks for by what c asks of each sub-type: those that off-line units serve are asked for once
abbrev pub wanted_by : (ℕ → ℕ) → ℕ → ℕ
wanted_by c offline = over fast c + (over slow c - offline)

-- load and reserves beyond supply, net and storage net
abbrev pub overall_by : (load wanted supply : ℕ) (net storage : ℤ) → ℕ
overall_by load wanted supply net storage = counted (pos (4 * load + wanted) -ℤ pos supply -ℤ net -ℤ storage)

abbrev pub wanted : View → ℕ
wanted v = wanted_by (λ k. counted (v.position k)) (sum_by (λ l. l.offline) v.lines)

abbrev pub overall : View → ℕ
overall v = overall_by v.load (wanted v) (sum_by supply v.lines) v.net v.storage

abbrev pub reserve : View → ℕ
reserve v = max (level reg_up v) (max (level rrs v) (max (level fast v) (max (level with_ecrs v) (level up v)))) + level reg_down v

-- the grouped edition takes the storage net as 0
abbrev pub unstored : View → View
unstored v = record { load = v.load; net = v.net; storage = pos 0; position = v.position; lines = v.lines }

abbrev pub grouped : View → ℕ
grouped v = max (overall (unstored v)) (reserve v)

-- the figures from which the value is made
pub record BrokenDown (v : View) (b : Breakdown) : Type 0 where
  pub load : b.load ≡ v.load
  pub net : b.net ≡ v.net
  pub overall : b.overall ≡ overall (unstored v)
  pub levels : IsLevels b.levels (λ ks. level ks v)
  pub reserve : b.reserve ≡ reserve v
  pub value : b.value ≡ grouped v
