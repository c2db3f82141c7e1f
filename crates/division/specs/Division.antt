-- The division of a pot over rows by their weight.
use Rattle.std.specs.Prelude.{◌≡◌, ℕ, ◌+◌, ◌-◌, ◌*◌, ◌/◌, ◌<◌, ◌≤◌, List, length, take, Ok, Err, sum_by, Result, slice_index_or}
use Rattle.std.specs.List.{AllByRecursion}
use Rattle.rows.specs.declared.fault.Fault.{Fault}
use Rattle.rows.specs.declared.fault.Fault.TheVariants.{BrokenTable}
use Rattle.rows.specs.Limits.{max_cents}

-- what the row gets that takes the running sum of weights from v to w, of W in all
abbrev pub share : ℕ → ℕ → ℕ → ℕ → ℕ
share pot W v w = pot * w / W - pot * v / W

-- the weight of the first i rows
abbrev pub upto : {X : Type 0} → (X → ℕ) → List X → ℕ → ℕ
upto weighs rows i = sum_by weighs (take i rows)

-- each row can take the whole pot
abbrev pub HasRoom : {X : Type 0} → (X → ℕ) → ℕ → List X → Type 0
HasRoom holds pot rows = AllByRecursion (λ x. holds x + pot ≤ max_cents) rows

-- some row cannot
pub record TooFull {X : Type 0} (holds : X → ℕ) (pot : ℕ) (rows : List X) : Type 0 where
  pub place : ℕ
  pub within : place < length rows
  pub above : (d : X) → max_cents < holds (slice_index_or rows place d) + pot

-- n cents for a row of weight h, of W in all: within one cent of its part of the pot, and none for no weight
pub record Fair (pot W h n : ℕ) : Type 0 where
  pub under : n * W < pot * h + W
  pub over : pot * h < n * W + W
  pub none : h ≡ 0 → n ≡ 0

-- each of the first i rows is paid its share, and no more
abbrev pub PaidUpto : {X : Type 0} → (X → ℕ) → (X → ℕ → X → Type 0) → ℕ → ℕ → List X → List X → ℕ → Type 0
PaidUpto {X} weighs paid pot W old new i =
    (k : ℕ) → k < i → (d : X) → paid (slice_index_or old k d) (share pot W (upto weighs old k) (upto weighs old (k + 1))) (slice_index_or new k d)

module _ {X : Type 0} (weighs holds : X → ℕ) (paid : X → ℕ → X → Type 0) (pot : ℕ) (old new : List X) where
  -- the rows after a division by weights that sum to W
  pub record Spread (W : ℕ) : Type 0 where
    pub long : length new ≡ length old
    pub exact : PaidUpto weighs paid pot W old new (length old)
    pub whole : sum_by holds new ≡ sum_by holds old + pot
    pub fair : (i : ℕ) → i < length old → (d : X) → (n : ℕ) × paid (slice_index_or old i d) n (slice_index_or new i d) × Fair pot W (weighs (slice_index_or old i d)) n

  -- no row has a weight: none is paid
  pub record Idle (given : ℕ) : Type 0 where
    pub none : given ≡ 0
    pub same : new ≡ old

  -- what a division gave in all, and how the rows stand after it
  pub record Divided (given : ℕ) : Type 0 where
    pub room : HasRoom holds pot old
    pub all : 0 < sum_by weighs old → given ≡ pot
    pub spread : 0 < sum_by weighs old → Spread (sum_by weighs old)
    pub idle : sum_by weighs old ≡ 0 → Idle given

  -- nothing is written
  pub record Refused (fault : Fault) : Type 0 where
    pub broken : fault ≡ BrokenTable
    pub full : TooFull holds pot old
    pub same : new ≡ old

  abbrev pub Divides : Result ℕ Fault → Type 0
  Divides (Ok given) = Divided given
  Divides (Err fault) = Refused fault
