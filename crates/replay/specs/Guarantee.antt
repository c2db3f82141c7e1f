-- What holds of every run of calls from an opening.
use Rattle.std.specs.Prelude.{◌≡◌, ℕ, ◌+◌, ◌*◌, ◌<◌, ◌≤◌, Bool, true, false, List, [], ◌∷◌, length, ℤ, Some, None, sum_by, Option, slice_index_or}
use Rattle.std.specs.Borrow.{Bor}
use Rattle.std.specs.List.{AllByRecursion}
use Rattle.rows.specs.Rows.{PlainQse}
use Rattle.account.specs.View.{View, counted}
use Rattle.measure.specs.Laws.{Order, Pool, Help, Nothing}
use Rattle.shortfall.specs.Pool.{owns, pool_shortfall}
use Rattle.shortfall.specs.Shortfall.{shortfall_of}
use Rattle.book.specs.Charging.{pot_of, PaysQse}
use Rattle.book.specs.Entries.{new_book}
use Rattle.book.specs.Measuring.{sum_short}
use Rattle.book.specs.Owned.{own_rows}
use Rattle.book.specs.State.{State, qse_rows, load_rows, tables_of}
use Rattle.book.specs.declared.books.Claim.{Claim as Slip}
use Rattle.replay.specs.declared.calls.Answer.{Answer}
use Rattle.replay.specs.declared.calls.Answer.TheVariants.{NotAllowed, Refused, Granted, Placed, Shortfall, Uncovered, Total, Shared, Claimed, Charged}
use Rattle.replay.specs.declared.calls.Call.{Call}
use Rattle.replay.specs.declared.calls.Call.TheVariants.{Figures, Load, Resource, Trade, Enrol, Void, Short, Cover, Strike, Share, Claim, Charge, HandBack, Reopen}
use Rattle.replay.specs.declared.calls.Entry.{Entry}
use Rattle.replay.specs.Runs.{Desk, Step, Run, measure_at}

-- a book just opened; tables, cover table and purse may hold anything
abbrev pub Opened : Desk → Type 0
Opened d = (n : ℕ) × (d.state.book ≡ new_book n)

abbrev pub measure_named : Call → ℕ
measure_named (Figures xs) = 0
measure_named (Load xs) = 0
measure_named (Resource xs) = 0
measure_named (Trade xs) = 0
measure_named (Enrol q) = 0
measure_named (Void k) = 0
measure_named (Short j q) = j
measure_named (Cover q side) = 0
measure_named (Strike j) = j
measure_named (Share q) = 0
measure_named (Claim cents rate) = 0
measure_named (Charge k) = 0
measure_named (HandBack k) = 0
measure_named Reopen = 0

abbrev pub is_granted : Answer → Bool
is_granted NotAllowed = false
is_granted (Refused e) = false
is_granted Granted = true
is_granted (Placed n) = true
is_granted (Shortfall v) = true
is_granted (Uncovered u) = true
is_granted (Total t) = true
is_granted (Shared p) = true
is_granted (Claimed n) = true
is_granted (Charged p r) = true

-- the measure of a strike and its T
pub record Struck : Type 0 where
  pub measure : ℕ
  pub total : ℕ

-- only a granted strike is answered by a total
abbrev pub struck_by : ℕ → Answer → Struck → Struck
struck_by j NotAllowed k = k
struck_by j (Refused e) k = k
struck_by j Granted k = k
struck_by j (Placed n) k = k
struck_by j (Shortfall v) k = k
struck_by j (Uncovered u) k = k
struck_by j (Total t) k = record { measure = j; total = t }
struck_by j (Shared p) k = k
struck_by j (Claimed n) k = k
struck_by j (Charged p r) k = k

-- the last granted strike of a run
abbrev pub last_strike : List Entry → Struck → Struck
last_strike [] k = k
last_strike (e ∷ es) k = last_strike es (struck_by (measure_named e.call) e.answer k)

abbrev pub no_strike : Struck
no_strike = record { measure = 0; total = 0 }

-- the cents of a claim that is charged: pot and rest
abbrev pub charged_by : Answer → ℕ
charged_by NotAllowed = 0
charged_by (Refused e) = 0
charged_by Granted = 0
charged_by (Placed n) = 0
charged_by (Shortfall v) = 0
charged_by (Uncovered u) = 0
charged_by (Total t) = 0
charged_by (Shared p) = 0
charged_by (Claimed n) = 0
charged_by (Charged p r) = p + r

-- the cents of all claims charged in a run
abbrev pub charged_in : List Entry → ℕ
charged_in es = sum_by (λ e. charged_by e.answer) es

-- all cents on the rows of the book
abbrev pub cents_on : Desk → ℕ
cents_on d = sum_by (λ x. x.cents) (qse_rows d.state) + sum_by (λ l. l.cents) (load_rows d.state)

-- how many claims are in a purse
abbrev pub claims_at : Option Slip → ℕ
claims_at (Some c) = 1
claims_at None = 0

abbrev pub claims_in : List (Option Slip) → ℕ
claims_in p = sum_by claims_at p

-- no claim but of the book n
abbrev pub OfBook : ℕ → Option Slip → Type 0
OfBook n (Some c) = c.book ≡ n
OfBook n None = Unit {0}

-- no table is shorter than its count
pub record Long (s : State) : Type 0 where
  pub qses : s.book.qses ≤ length s.qses
  pub loads : s.book.loads ≤ length s.loads
  pub resources : s.book.resources ≤ length s.resources
  pub trades : s.book.trades ≤ length s.trades

-- the claims in the purse are those outstanding, all of them the book's, and an open book has none
pub record Holding (d : Desk) : Type 0 where
  pub claims : claims_in d.purse ≡ d.state.book.outstanding
  pub ours : AllByRecursion (OfBook d.state.book.number) d.purse
  pub none : d.state.book.struck ≡ false → d.state.book.outstanding ≡ 0
  pub long : Long d.state

-- x and y differ by less than t
abbrev pub Near : ℕ → ℕ → ℕ → Type 0
Near t x y = (x < y + t) × (y < x + t)

-- n cents of a pot for a shortfall h of t in all
pub record ProRata (pot t h n : ℕ) : Type 0 where
  pub short : 0 < h → Near t (n * t) (pot * h)
  pub other : h ≡ 0 → n ≡ 0

-- what a measure must keep for the guarantee
pub record Lawful (m : View → ℕ) : Type 0 where
  pub order : Order m
  pub pool : Pool m
  pub help : Help m
  pub nothing : Nothing m

module _ (ms : List (View → ℕ)) where
  -- the shortfall of q under the measure j, by its own rows
  abbrev pub short_of : ℕ → ℕ → Desk → ℕ
  short_of j q d = shortfall_of (measure_at ms j) (own_rows q d.state)

  -- the sum of all shortfalls
  abbrev pub sum_of : ℕ → Desk → ℕ
  sum_of j d = sum_short (measure_at ms j) d.state

  -- the shortfall of one QSE that every row names
  abbrev pub pool_of : ℕ → Desk → ℕ
  pool_of j d = pool_shortfall (measure_at ms j) (owns (tables_of d.state) (qse_rows d.state)) (tables_of d.state).resources

  -- the QSE row at place i
  abbrev pub row_at : Desk → ℕ → PlainQse → PlainQse
  row_at d i x = slice_index_or (qse_rows d.state) i x

  -- of a desk to which the calls es lead from the opening d₀
  pub record After (d₀ : Desk) (es : List Entry) (d : Desk) : Type 0 where
    -- a call that is refused or not allowed leaves the book, every table, the cover table and the purse as they were
    pub refusal_keeps : (c : Call) (d' : Desk) (a : Answer) → is_granted a ≡ false → Step ms c d d' a → d' ≡ d
    -- `short` answers the shortfall by the QSE's own rows
    pub short_answers : (j : ℕ) (q : ℤ) (d' : Desk) (v : ℕ) → Step ms (Short j q) d d' (Shortfall v) → v ≡ short_of j (counted q) d
    -- and `strike` writes it into each row
    pub strike_writes : (j : ℕ) (d' : Desk) (t i : ℕ) (x : PlainQse) → Step ms (Strike j) d d' (Total t) → i < length (qse_rows d.state)
        → ((row_at d' i x).number ≡ (row_at d i x).number) × ((row_at d' i x).shortfall ≡ short_of j (row_at d i x).number d)
    -- whatever calls lead to the same own rows of q: the same shortfall, as `short` answers it
    pub same_short : (fs : List Entry) (b : Desk) → Run ms d₀ fs b → (j : ℕ) (q : ℤ) (d' b' : Desk) (v w : ℕ) → own_rows (counted q) d.state ≡ own_rows (counted q) b.state
        → Step ms (Short j q) d d' (Shortfall v) → Step ms (Short j q) b b' (Shortfall w) → v ≡ w
    -- and as `strike` writes it
    pub same_strike : (fs : List Entry) (b : Desk) → Run ms d₀ fs b → (j q : ℕ) (d' b' : Desk) (t u i k : ℕ) (x : PlainQse) → own_rows q d.state ≡ own_rows q b.state
        → Step ms (Strike j) d d' (Total t) → Step ms (Strike j) b b' (Total u)
        → i < length (qse_rows d.state) → (row_at d i x).number ≡ q → k < length (qse_rows b.state) → (row_at b k x).number ≡ q
        → (row_at d' i x).shortfall ≡ (row_at b' k x).shortfall
    -- one more resource never raises a shortfall
    pub resource_helps : (xs : Bor (List ℤ)) (d' : Desk) (j q : ℕ) → Step ms (Resource xs) d d' Granted → short_of j q d' ≤ short_of j q d
    -- T is the sum of all shortfalls, those in the rows, and at least the pool's
    pub strike_covers : (j : ℕ) (d' : Desk) (t : ℕ) → Step ms (Strike j) d d' (Total t)
        → (t ≡ sum_of j d) × (t ≡ sum_by (λ x. x.shortfall) (qse_rows d'.state)) × (pool_of j d ≤ t)
    -- a charge spends a claim of the purse, as pot and rest by the T of the last strike, which is the sum of the shortfalls
    pub charge_spends : (k : ℕ) (d' : Desk) (pot rest : ℕ) → Step ms (Charge k) d d' (Charged pot rest)
        → ((last_strike es no_strike).total ≡ sum_of (last_strike es no_strike).measure d)
        × ((c : Slip) × (slice_index_or d.purse k None ≡ Some c) × (pot ≡ pot_of c (last_strike es no_strike).total) × (pot + rest ≡ c.cents))
    -- and puts on each QSE row its part of the pot by its shortfall, and nothing else
    pub charge_shares : (k : ℕ) (d' : Desk) (pot rest i : ℕ) (x : PlainQse) → Step ms (Charge k) d d' (Charged pot rest) → i < length (qse_rows d.state)
        → (n : ℕ) × PaysQse (row_at d i x) n (row_at d' i x)
        × ProRata pot (last_strike es no_strike).total (short_of (last_strike es no_strike).measure (row_at d i x).number d) n
    -- no claim is lost: where the purse was empty at the opening, it holds the claims that are outstanding
    pub claims_held : claims_in d₀.purse ≡ 0 → Holding d
    -- the cents on all QSE and load rows are those of the claims charged
    pub cents_balance : cents_on d ≡ charged_in es

  -- every list of calls, granted or refused, on every opening
  abbrev pub Guarantee : Type 0
  Guarantee = (d₀ : Desk) (es : List Entry) (d : Desk) → Opened d₀ → Run ms d₀ es d → After d₀ es d
