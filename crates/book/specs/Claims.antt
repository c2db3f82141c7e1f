-- What the calls about claims answer, and what they make of the book.
use Rattle.std.specs.Prelude.{◌≡◌, ℕ, ◌+◌, ◌-◌, false, [], ◌∷◌, ℤ, pos, Ok, Err, Result}
use Rattle.rows.specs.Limits.{max_cost, max_rate}
use Rattle.rows.specs.declared.fault.Fault.{Fault}
use Rattle.book.specs.State.{State, open_book, with_book, with_claims, with_strike}
use Rattle.book.specs.Causes.{Judged, Clear, broken, outside, claims_used, foreign, outstanding}
use Rattle.book.specs.declared.books.Claim.{Claim}
use Rattle.book.specs.declared.books.OpenBook.{OpenBook}
use Rattle.book.specs.declared.books.StruckBook.{StruckBook}

-- a claim as its holder sees it, not spent yet
pub record Holds (c : Claim) (number : ℕ) (amount perMw : ℤ) : Type 0 where
  pub book : c.book ≡ number
  pub cents : pos c.cents ≡ amount
  pub rate : pos c.rate ≡ perMw
  pub fresh : c.spent ≡ false

-- one claim more is made and outstanding
abbrev pub Claims : ℤ → ℤ → State → State → Result Claim Fault → Type 0
Claims cents rate s s' (Ok c) =
    Clear (broken s ∷ outside 1 cents (pos 1) (pos max_cost) ∷ outside 2 rate (pos 0) (pos max_rate) ∷ claims_used s ∷ [])
    × Holds c s.book.number cents rate × (s' ≡ with_book s (with_claims s.book (s.book.made + 1) (s.book.outstanding + 1)))
Claims cents rate s s' (Err e) =
    Judged (broken s ∷ outside 1 cents (pos 1) (pos max_cost) ∷ outside 2 rate (pos 0) (pos max_rate) ∷ claims_used s ∷ []) e × (s' ≡ s)

-- the claim is spent and no longer outstanding, or comes back as it was
abbrev pub HandsBack : Claim → State → State → Result (Unit {0}) (Claim × Fault) → Type 0
HandsBack c s s' (Ok u) = Clear (broken s ∷ foreign s c.book ∷ []) × (s' ≡ with_book s (with_claims s.book s.book.made (s.book.outstanding - 1)))
HandsBack c s s' (Err e) = Judged (broken s ∷ foreign s c.book ∷ []) e.1 × (e.0 ≡ c) × (s' ≡ s)

-- the book takes entries again, or comes back as it was; no table is touched
abbrev pub Reopens : StruckBook → State → Result OpenBook (StruckBook × Fault) → Type 0
Reopens b s (Ok o) = Clear (broken s ∷ outstanding s ∷ []) × (open_book o ≡ with_strike s.book false 0)
Reopens b s (Err e) = Judged (broken s ∷ outstanding s ∷ []) e.1 × (e.0 ≡ b)
