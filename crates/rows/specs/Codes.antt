-- The numbers by which codes are entered and refusals reported.
use Rattle.std.specs.Prelude.{◌≡◌, ℕ, Bool, true, false, Some, None, Option, ℤ, pos, ◌≤ℤ◌, Ok, Err, Result}
use Rattle.rows.specs.declared.fault.Fault.{Fault}
use Rattle.rows.specs.declared.fault.Fault.TheVariants.{BrokenTable, WrongLength, OutOfLimits, NotEnrolled, AlreadyEnrolled, BuyerIsSeller, NoPlace, NoSuchTrade, CoverTooShort, TotalTooHigh, ClaimsUsedUp, ForeignClaim, NoLoad, ClaimOutstanding}
use Rattle.rows.specs.declared.codes.Kind.{Kind}
use Rattle.rows.specs.declared.codes.Kind.TheVariants.{Generation, Renewable, Storage, LoadResource}
use Rattle.rows.specs.declared.codes.Status.{Status}
use Rattle.rows.specs.declared.codes.Status.TheVariants.{Absent, On, Off, OffQs}
use Rattle.rows.specs.declared.codes.SubType.{SubType}
use Rattle.rows.specs.declared.codes.SubType.TheVariants.{RegUp, RegDown, Pfr, Ufr, Ffr, Ecs, Ecm, Nss, Nsm}
use Rattle.rows.specs.declared.codes.Side.{Side}
use Rattle.rows.specs.declared.codes.Side.TheVariants.{Snapshot, Adjusted}
use Rattle.rows.specs.declared.codes.Sides.{Sides}
use Rattle.rows.specs.declared.codes.Sides.TheVariants.{SnapshotOnly, AdjustedOnly, Both}
use Rattle.rows.specs.declared.codes.Traded.{Traded}
use Rattle.rows.specs.declared.codes.Traded.TheVariants.{Capacity, Energy, Position}

abbrev pub fault_number : Fault → ℕ
fault_number BrokenTable = 1
fault_number WrongLength = 2
fault_number (OutOfLimits p) = 3
fault_number NotEnrolled = 4
fault_number AlreadyEnrolled = 5
fault_number BuyerIsSeller = 6
fault_number NoPlace = 7
fault_number NoSuchTrade = 8
fault_number CoverTooShort = 9
fault_number TotalTooHigh = 10
fault_number ClaimsUsedUp = 11
fault_number ForeignClaim = 12
fault_number NoLoad = 13
fault_number ClaimOutstanding = 14

-- only a figure outside its limits has a place
abbrev pub fault_place : Fault → Option ℕ
fault_place BrokenTable = None
fault_place WrongLength = None
fault_place (OutOfLimits p) = Some p
fault_place NotEnrolled = None
fault_place AlreadyEnrolled = None
fault_place BuyerIsSeller = None
fault_place NoPlace = None
fault_place NoSuchTrade = None
fault_place CoverTooShort = None
fault_place TotalTooHigh = None
fault_place ClaimsUsedUp = None
fault_place ForeignClaim = None
fault_place NoLoad = None
fault_place ClaimOutstanding = None

abbrev pub kind_number : Kind → ℕ
kind_number Generation = 1
kind_number Renewable = 2
kind_number Storage = 3
kind_number LoadResource = 4

abbrev pub status_number : Status → ℕ
status_number Absent = 0
status_number On = 1
status_number Off = 2
status_number OffQs = 3

abbrev pub sub_number : SubType → ℕ
sub_number RegUp = 1
sub_number RegDown = 2
sub_number Pfr = 3
sub_number Ufr = 4
sub_number Ffr = 5
sub_number Ecs = 6
sub_number Ecm = 7
sub_number Nss = 8
sub_number Nsm = 9

abbrev pub traded_number : Traded → ℕ
traded_number Capacity = 1
traded_number Energy = 2
traded_number (Position s) = 3

-- the sub-type of a position, and 0 for capacity and energy
abbrev pub traded_sub : Traded → ℕ
traded_sub Capacity = 0
traded_sub Energy = 0
traded_sub (Position s) = sub_number s

abbrev pub side_number : Side → ℕ
side_number Snapshot = 1
side_number Adjusted = 2

abbrev pub sides_number : Sides → ℕ
sides_number SnapshotOnly = 1
sides_number AdjustedOnly = 2
sides_number Both = 3

-- the code that has the number; where there is none, the number is not among those from low to high
abbrev pub Reads : {C E : Type 0} → (C → ℕ) → ℕ → ℕ → ℤ → Result C E → Type 0
Reads number low high x (Ok c) = pos (number c) ≡ x
Reads number low high x (Err e) = (pos low ≤ℤ x) × (x ≤ℤ pos high) → ⊥

-- the kW before a decommitment, and 0 where there was none
abbrev pub kw_before : Option ℕ → ℕ
kw_before None = 0
kw_before (Some kw) = kw

abbrev pub is_renewable : Kind → Bool
is_renewable Generation = false
is_renewable Renewable = true
is_renewable Storage = false
is_renewable LoadResource = false

abbrev pub is_storage : Kind → Bool
is_storage Generation = false
is_storage Renewable = false
is_storage Storage = true
is_storage LoadResource = false

-- wind or solar, and a load, have neither mark
abbrev pub is_unmarked : Kind → Bool
is_unmarked Generation = false
is_unmarked Renewable = true
is_unmarked Storage = false
is_unmarked LoadResource = true
