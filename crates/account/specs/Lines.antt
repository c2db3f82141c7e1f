-- The line of a resource on a side.
use Rattle.std.specs.Prelude.{ℕ, min, Bool, true, false, cond, ◌||◌, List, map, ℤ, pos, ◌-ℤ◌, nat_lt, slice_index}
use Rattle.rows.specs.Codes.{is_renewable}
use Rattle.rows.specs.Rows.{PlainSide, PlainResource}
use Rattle.rows.specs.declared.codes.Kind.{Kind}
use Rattle.rows.specs.declared.codes.Kind.TheVariants.{Generation, Renewable, Storage, LoadResource}
use Rattle.rows.specs.declared.codes.Status.{Status}
use Rattle.rows.specs.declared.codes.Status.TheVariants.{Absent, On, Off, OffQs}
use Rattle.rows.specs.declared.codes.Side.{Side}
use Rattle.rows.specs.declared.codes.Side.TheVariants.{Snapshot, Adjusted}
use Rattle.account.specs.View.{Line, counted, over, slow, up}

abbrev pub plan_on : Side → PlainResource → PlainSide
plan_on Snapshot r = r.snapshot
plan_on Adjusted r = r.adjusted

-- HSL − LSL when ON, HSL when off-line, 0 when absent
abbrev pub room_by : Status → ℕ → ℤ → ℕ
room_by Absent hsl lsl = 0
room_by On hsl lsl = counted (pos hsl -ℤ lsl)
room_by Off hsl lsl = hsl
room_by OffQs hsl lsl = hsl

abbrev pub room_of : PlainSide → ℕ
room_of s = room_by s.status s.hsl s.lsl

-- the sub-types that the status rules out: regulation and RRS when off-line, ECRS too when OFF
abbrev pub barred : Status → ℕ → Bool
barred Absent k = false
barred On k = false
barred Off k = nat_lt k 7
barred OffQs k = nat_lt k 5

-- the least of room, offered, COP capability and qualified
abbrev pub least_of : PlainSide → ℕ → ℕ
least_of s k = min (room_of s) (min (slice_index s.offered k) (min (slice_index s.cop k) (slice_index s.qualified k)))

abbrev pub capability_of : PlainSide → ℕ → ℕ
capability_of s k = cond (barred s.status k) 0 (least_of s k)

-- on-line, or quick enough to count as such
abbrev pub ready : Status → Bool
ready Absent = false
ready On = true
ready Off = false
ready OffQs = true

abbrev pub off_line : Status → Bool
off_line Absent = false
off_line On = false
off_line Off = true
off_line OffQs = true

-- HSL for generation and storage, no more than the potential for wind and solar, nothing for a load
abbrev pub giveable : Kind → PlainSide → ℕ
giveable Generation s = s.hsl
giveable Renewable s = min s.hsl s.potential
giveable Storage s = s.hsl
giveable LoadResource s = 0

abbrev pub own_available : Kind → PlainSide → ℕ
own_available kind s = cond (ready s.status) (giveable kind s) 0

-- wind and solar, and a unit with the outage mark, are available on both sides as at the snapshot
abbrev pub available_side : Side → PlainResource → Side
available_side Snapshot r = Snapshot
available_side Adjusted r = cond (is_renewable r.kind || r.outage) Snapshot Adjusted

-- the decommitment mark puts the kW before it in place
abbrev pub available_of : Side → PlainResource → ℕ
available_of side r = cond r.decommitted r.before (own_available r.kind (plan_on (available_side side r) r))

abbrev pub offline_by : Status → ℕ → (ℕ → ℕ) → ℕ
offline_by status room capability = cond (off_line status) (min room (over slow capability)) 0

abbrev pub is_load : Kind → Bool
is_load Generation = false
is_load Renewable = false
is_load Storage = false
is_load LoadResource = true

abbrev pub load_part_by : Kind → ℕ → (ℕ → ℕ) → ℕ
load_part_by kind room capability = cond (is_load kind) (min room (over up capability)) 0

abbrev pub line_of : Side → PlainResource → Line
line_of side r = let s = plan_on side r in record {
  room = room_of s;
  capability = capability_of s;
  available = available_of side r;
  offline = offline_by s.status (room_of s) (capability_of s);
  loadpart = load_part_by r.kind (room_of s) (capability_of s);
}

-- the lines of all of a QSE's resources on a side, in their order
abbrev pub lines_on : Side → List PlainResource → List Line
lines_on side rs = map (line_of side) rs
