-- What a charge answers, and what it puts on the rows.
use Rattle.std.specs.Prelude.{◌≡◌, ℕ, ◌+◌, ◌-◌, ◌*◌, ◌/◌, ◌<◌, ◌≤◌, min, List, [], ◌∷◌, take, drop, Ok, Err, sum_by, Result}
use Rattle.std.specs.List.{AllByRecursion}
use Rattle.rows.specs.Rows.{PlainQse, PlainLoad}
use Rattle.rows.specs.declared.fault.Fault.{Fault}
use Rattle.rows.specs.declared.fault.Fault.TheVariants.{BrokenTable, NoLoad}
use Rattle.division.specs.Division.{Divided}
use Rattle.book.specs.State.{State, qse_rows, load_rows, with_claims}
use Rattle.book.specs.Causes.{Cause, Judged, Clear, broken, foreign}
use Rattle.book.specs.declared.books.Claim.{Claim}

-- the part of a claim that short QSEs pay: at most its rate in cents for each MW of T
abbrev pub pot_of : Claim → ℕ → ℕ
pot_of c T = min c.cents (c.rate * T / 1000)

-- the shortfalls sum to T, and each row can take a claim
pub record Fit (T : ℕ) (qs : List PlainQse) (ls : List PlainLoad) : Type 0 where
  pub sums : sum_by (λ x. x.shortfall) qs ≡ T
  pub qses : AllByRecursion (λ x. x.cents ≤ 999000000000) qs
  pub loads : AllByRecursion (λ x. x.cents ≤ 999000000000) ls

abbrev pub unfit : State → Cause
unfit s e = (e ≡ BrokenTable) × (Fit s.book.total (qse_rows s) (load_rows s) → ⊥)

-- cents remain after the pot, and no load takes them
abbrev pub no_load : Claim → State → Cause
no_load c s e = (e ≡ NoLoad) × (pot_of c s.book.total < c.cents) × (sum_by (λ l. l.kwh) (load_rows s) ≡ 0)

abbrev pub charging : Claim → State → List Cause
charging c s = broken s ∷ unfit s ∷ foreign s c.book ∷ no_load c s ∷ []

-- a row with n cents more, and all else as it was
abbrev pub PaysQse : PlainQse → ℕ → PlainQse → Type 0
PaysQse x n y = y ≡ record { number = x.number; figures = x.figures; shortfall = x.shortfall; cents = x.cents + n }

abbrev pub PaysLoad : PlainLoad → ℕ → PlainLoad → Type 0
PaysLoad x n y = y ≡ record { qse = x.qse; point = x.point; kwh = x.kwh; cents = x.cents + n }

-- the pot is divided over the QSE rows by shortfall, the rest over the load rows by kWh; the claim is no longer outstanding
pub record Charged (c : Claim) (s s' : State) (p r : ℕ) : Type 0 where
  pub pot : p ≡ pot_of c s.book.total
  pub rest : r ≡ c.cents - p
  pub book : s'.book ≡ with_claims s.book s.book.made (s.book.outstanding - 1)
  pub qses : Divided (λ x. x.shortfall) (λ x. x.cents) PaysQse p (qse_rows s) (take s.book.qses s'.qses) p
  pub loads : Divided (λ x. x.kwh) (λ x. x.cents) PaysLoad r (load_rows s) (take s.book.loads s'.loads) r
  pub later_qses : drop s.book.qses s'.qses ≡ drop s.book.qses s.qses
  pub later_loads : drop s.book.loads s'.loads ≡ drop s.book.loads s.loads
  pub resources : s'.resources ≡ s.resources
  pub trades : s'.trades ≡ s.trades

-- granted with the pot and the rest, or the claim comes back as it was
abbrev pub Charges : Claim → State → State → Result (ℕ × ℕ) (Claim × Fault) → Type 0
Charges c s s' (Ok p) = Clear (charging c s) × Charged c s s' p.0 p.1
Charges c s s' (Err e) = Judged (charging c s) e.1 × (e.0 ≡ c) × (s' ≡ s)
