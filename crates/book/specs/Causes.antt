-- The causes of refusal. A call is judged by its causes in the order of their numbers, and the first that applies is returned.
use Rattle.std.specs.Prelude.{◌≡◌, ℕ, ◌<◌, ◌≤◌, true, ◌⊎◌, List, [], ◌∷◌, length, ℤ, Some, None, Option, ◌≢◌, slice_index, slice_index_or}
use Rattle.rows.specs.Limits.{max_claims}
use Rattle.rows.specs.declared.fault.Fault.{Fault}
use Rattle.rows.specs.declared.fault.Fault.TheVariants.{BrokenTable, OutOfLimits, NotEnrolled, AlreadyEnrolled, BuyerIsSeller, NoPlace, NoSuchTrade, ClaimsUsedUp, ForeignClaim, ClaimOutstanding}
use Rattle.entry.specs.Keeps.{Refused, Within}
use Rattle.entry.specs.declared.form.Form.{Form}
use Rattle.shortfall.specs.Pool.{Among, numbers}
use Rattle.book.specs.State.{State, qse_rows}

-- a cause says with which fault it applies
abbrev pub Cause : Type 1
Cause = Fault → Type 0

abbrev pub Absent : Cause → Type 0
Absent c = (e : Fault) → c e → ⊥

-- the call is refused with e, by the first cause that applies
abbrev pub Judged : List Cause → Fault → Type 0
Judged [] e = ⊥
Judged (c ∷ cs) e = c e ⊎ (Absent c × Judged cs e)

-- no cause applies
abbrev pub Clear : List Cause → Type 0
Clear [] = Unit {0}
Clear (c ∷ cs) = Absent c × Clear cs

-- a table is shorter than its count: counts first, then lengths
abbrev pub BrokenBy : ℕ → ℕ → ℕ → ℕ → ℕ → ℕ → ℕ → ℕ → Type 0
BrokenBy q l r t qs ls rs ts = (qs < q) ⊎ ((ls < l) ⊎ ((rs < r) ⊎ (ts < t)))

abbrev pub Broken : State → Type 0
Broken s = BrokenBy s.book.qses s.book.loads s.book.resources s.book.trades (length s.qses) (length s.loads) (length s.resources) (length s.trades)

abbrev pub broken : State → Cause
broken s e = (e ≡ BrokenTable) × Broken s

-- the list is no row of its form
abbrev pub listed : Form → List ℤ → Cause
listed f xs e = Refused f xs e

-- a single figure outside its limits, at place p
abbrev pub outside : ℕ → ℤ → ℤ → ℤ → Cause
outside p x low high e = (e ≡ OutOfLimits p) × (Within x low high → ⊥)

-- some row of the book has the number
abbrev pub Enrolled : State → ℕ → Type 0
Enrolled s q = Among (numbers (qse_rows s)) q

-- k is the earliest place of n
pub record Earliest (ns : List ℕ) (n k : ℕ) : Type 0 where
  pub inside : k < length ns
  pub there : slice_index_or ns k 0 ≡ n
  pub first : (j : ℕ) → j < k → slice_index ns j ≢ n

-- the place that is found, if any
abbrev pub PlaceOf : List ℕ → ℕ → Option ℕ → Type 0
PlaceOf ns n (Some k) = Earliest ns n k
PlaceOf ns n None = Among ns n → ⊥

abbrev pub unenrolled : State → ℕ → Cause
unenrolled s q e = (e ≡ NotEnrolled) × (Enrolled s q → ⊥)

-- one of the two parties is not enrolled
abbrev pub unpartied : State → ℕ → ℕ → Cause
unpartied s seller buyer e = (e ≡ NotEnrolled) × (Enrolled s seller × Enrolled s buyer → ⊥)

abbrev pub already : State → ℕ → Cause
already s q e = (e ≡ AlreadyEnrolled) × Enrolled s q

abbrev pub same_party : ℕ → ℕ → Cause
same_party seller buyer e = (e ≡ BuyerIsSeller) × (buyer ≡ seller)

-- n rows fill the table, which holds at most `most`
abbrev pub full : ℕ → ℕ → ℕ → Cause
full n most long e = (e ≡ NoPlace) × ((most ≤ n) ⊎ (long ≤ n))

-- the trade at place k stands in the book and counts
abbrev pub Standing : State → ℕ → Type 0
Standing s k = (k < s.book.trades) × ((d : Rattle.rows.specs.Rows.PlainTrade) → (slice_index_or s.trades k d).counts ≡ true)

abbrev pub no_trade : State → ℕ → Cause
no_trade s k e = (e ≡ NoSuchTrade) × (Standing s k → ⊥)

abbrev pub claims_used : State → Cause
claims_used s e = (e ≡ ClaimsUsedUp) × (max_claims ≤ s.book.made)

-- the claim is another book's, or none of this book's is outstanding
abbrev pub Foreign : ℕ → ℕ → ℕ → Type 0
Foreign claimed number out = (claimed ≢ number) ⊎ (out ≡ 0)

abbrev pub foreign : State → ℕ → Cause
foreign s claimed e = (e ≡ ForeignClaim) × Foreign claimed s.book.number s.book.outstanding

abbrev pub outstanding : State → Cause
outstanding s e = (e ≡ ClaimOutstanding) × (0 < s.book.outstanding)
