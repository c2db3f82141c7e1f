-- What is asked of the number at each place of a list, places counted from 0.
use Rattle.std.specs.Prelude.{◌≡◌, ℕ, ◌-◌, ◌<◌, ◌≤◌, List, length, ℤ, ◌≤ℤ◌, Ok, Err, Result}
use Rattle.rows.specs.declared.fault.Fault.{Fault}
use Rattle.rows.specs.declared.fault.Fault.TheVariants.{BrokenTable, WrongLength, OutOfLimits, NotEnrolled, AlreadyEnrolled, BuyerIsSeller, NoPlace, NoSuchTrade, CoverTooShort, TotalTooHigh, ClaimsUsedUp, ForeignClaim, NoLoad, ClaimOutstanding}
use Rattle.entry.specs.Places.{at, place_at, places, size, least, greatest, rule_of}
use Rattle.entry.specs.Rules.{RuleKept}
use Rattle.entry.specs.declared.form.Form.{Form}
use Rattle.entry.specs.declared.form.Rule.{Rule}

-- a number from the one to the other
abbrev pub Within : ℤ → ℤ → ℤ → Type 0
Within x low high = (low ≤ℤ x) × (x ≤ℤ high)

-- the rule at place k, beside the number before it and the second number, which is the kind of a resource
abbrev pub RuleAt : Rule → List ℤ → ℕ → Type 0
RuleAt r xs k = RuleKept r (at xs k) (at xs (k - 1)) (at xs 1)

-- the number at place k is within its limits and keeps its rule
pub record Keeps (f : Form) (xs : List ℤ) (k : ℕ) : Type 0 where
  pub limited : Within (at xs k) (least (place_at (places f) k)) (greatest (place_at (places f) k))
  pub ruled : RuleAt (rule_of (place_at (places f) k)) xs k

pub record AllKept (f : Form) (xs : List ℤ) : Type 0 where
  pub long : length xs ≡ size f
  pub each : (k : ℕ) → k < size f → Keeps f xs k

-- p, counted from 1, is the first place whose number does not keep what is asked of it
pub record FirstBad (f : Form) (xs : List ℤ) (p : ℕ) : Type 0 where
  pub long : length xs ≡ size f
  pub counted : (0 < p) × (p ≤ size f)
  pub bad : Keeps f xs (p - 1) → ⊥
  pub before : (k : ℕ) → k < p - 1 → Keeps f xs k

-- why a list is no row
abbrev pub Refused : Form → List ℤ → Fault → Type 0
Refused f xs BrokenTable = ⊥
Refused f xs WrongLength = length xs ≡ size f → ⊥
Refused f xs (OutOfLimits p) = FirstBad f xs p
Refused f xs NotEnrolled = ⊥
Refused f xs AlreadyEnrolled = ⊥
Refused f xs BuyerIsSeller = ⊥
Refused f xs NoPlace = ⊥
Refused f xs NoSuchTrade = ⊥
Refused f xs CoverTooShort = ⊥
Refused f xs TotalTooHigh = ⊥
Refused f xs ClaimsUsedUp = ⊥
Refused f xs ForeignClaim = ⊥
Refused f xs NoLoad = ⊥
Refused f xs ClaimOutstanding = ⊥

abbrev pub Checked : Form → List ℤ → Result (Unit {0}) Fault → Type 0
Checked f xs (Ok u) = AllKept f xs
Checked f xs (Err e) = Refused f xs e

-- a row that was read, written out again, gives the numbers that were entered
abbrev pub Entered : {R : Type 0} → Form → (R → List ℤ) → List ℤ → Result R Fault → Type 0
Entered f numbers xs (Ok r) = AllKept f xs × (numbers r ≡ xs)
Entered f numbers xs (Err e) = Refused f xs e
