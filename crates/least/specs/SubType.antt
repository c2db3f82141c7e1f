-- The sub-type edition of the rules: each sub-type has its own position, and a capability may cover a position in fourteen pairs.
-- A cover gives each line fourteen amounts, one for each pair.
use Rattle.std.specs.Prelude.{ℕ, max, List, map}
use Rattle.account.specs.View.{View, Line, counted}
use Rattle.measure.specs.Grouped.{overall}
use Rattle.least.specs.Sources.{Source}
use Rattle.least.specs.Cover.{Least, greatest_lack, Pair}

-- what a line gives to covers: its room and its capabilities
abbrev pub source : Line → Source
source l = record { room = l.room; capability = l.capability }

abbrev pub sources : List Line → List Source
sources ls = map source ls

-- what the positions ask of each sub-type
abbrev pub demand : View → ℕ → ℕ
demand v k = counted (v.position k)

-- u kW are the least that a cover of the positions by the lines leaves uncovered
abbrev pub LeastUncovered : View → ℕ → Type 0
LeastUncovered v u = Least 9 Pair (sources v.lines) (demand v) u

-- the reserve part: the greatest lack of a set of sub-types, which is the least uncovered total.
-- Shut, so that no proof computes the lacks of all 512 sets.
unfoldable pub reserve : View → ℕ
reserve v = greatest_lack 9 Pair (sources v.lines) (demand v)

-- the overall part, with the storage net, or the reserve part where it is greater
abbrev pub sub_type : View → ℕ
sub_type v = max (overall v) (reserve v)
