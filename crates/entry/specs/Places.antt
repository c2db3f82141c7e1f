-- The places of each list.
use Rattle.std.specs.Prelude.{ℕ, ◌+◌, ◌*◌, List, [], ◌∷◌, ◌++◌, length, replicate, ℤ, pos, slice_index_or}
use Rattle.rows.specs.Limits.{max_power, lowest_power, highest_power, max_kwh, max_number, max_point}
use Rattle.entry.specs.declared.form.Form.{Form}
use Rattle.entry.specs.declared.form.Form.TheVariants.{Figures, Load, Resource, Trade}
use Rattle.entry.specs.declared.form.Rule.{Rule}
use Rattle.entry.specs.declared.form.Rule.TheVariants.{Free, Mark, Before, Lsl, Potential, SubTyped}

-- the least and the greatest number, and the rule beside them
abbrev pub Place : Type 0
Place = ℤ × ℤ × Rule

abbrev pub least : Place → ℤ
least p = p.0

abbrev pub greatest : Place → ℤ
greatest p = p.1

abbrev pub rule_of : Place → Rule
rule_of p = p.2

abbrev pub from : ℕ → ℕ → Place
from a b = (pos a, pos b, Free)

abbrev pub power : Place
power = from 0 max_power

abbrev pub signed : Place
signed = (lowest_power, highest_power, Free)

-- the number of a QSE
abbrev pub named : Place
named = from 1 max_number

abbrev pub marked : Place
marked = from 0 1

-- n powers after the first places
abbrev pub with_powers : List Place → ℕ → List Place
with_powers first n = first ++ replicate n power

-- how many sub-types of reserves there are
abbrev pub sub_types : ℕ
sub_types = 9

-- QSE, credit, day-ahead purchase, day-ahead sale, tie mark
abbrev pub figures_head : List Place
figures_head = named ∷ power ∷ power ∷ power ∷ marked ∷ []

-- a side begins with the DC import and the storage net
abbrev pub figures_first : List Place
figures_first = power ∷ signed ∷ []

-- then come the positions
abbrev pub positions_at : ℕ
positions_at = length figures_first

abbrev pub figures_side : List Place
figures_side = with_powers figures_first sub_types

-- a mark of a resource: of its outage, of its decommitment
abbrev pub resource_mark : Place
resource_mark = (pos 0, pos 1, Mark)

-- QSE, kind, the two marks, kW before the decommitment
abbrev pub resource_head : List Place
resource_head = named ∷ from 1 4 ∷ resource_mark ∷ resource_mark ∷ (pos 0, highest_power, Before) ∷ []

-- a side begins with the status, HSL, LSL and the potential
abbrev pub resource_first : List Place
resource_first = from 0 3 ∷ power ∷ (lowest_power, highest_power, Lsl) ∷ (pos 0, highest_power, Potential) ∷ []

-- then come what is offered, what the COP has and what the unit is qualified for
abbrev pub offered_at : ℕ
offered_at = length resource_first

abbrev pub cop_at : ℕ
cop_at = offered_at + sub_types

abbrev pub qualified_at : ℕ
qualified_at = cop_at + sub_types

abbrev pub resource_side : List Place
resource_side = with_powers resource_first (3 * sub_types)

abbrev pub two_sided : List Place → List Place → List Place
two_sided head side = head ++ (side ++ side)

abbrev pub places : Form → List Place
places Figures = two_sided figures_head figures_side
-- QSE, settlement point, kWh
places Load = named ∷ from 0 max_point ∷ from 0 max_kwh ∷ []
places Resource = two_sided resource_head resource_side
-- kind, sub-type, sides, seller, buyer, kW
places Trade = from 1 3 ∷ (pos 0, pos 9, SubTyped) ∷ from 1 3 ∷ named ∷ named ∷ from 1 max_power ∷ []

abbrev pub size : Form → ℕ
size f = length (places f)

-- the number at place k, counted from 0
abbrev pub at : List ℤ → ℕ → ℤ
at xs k = slice_index_or xs k (pos 0)

-- past the end there is no place, and only 0 stands there
abbrev pub place_at : List Place → ℕ → Place
place_at ps k = slice_index_or ps k (from 0 0)
