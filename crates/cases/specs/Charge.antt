-- Case 12: a claim of 1,000 cents at 200 cents per MW.
use Rattle.std.specs.Prelude.{◌≡◌, ℕ, false, [], ◌∷◌, map}
use Rattle.std.specs.List.{AllByRecursion}
use Rattle.book.specs.Charging.{Charged as ChargedBy}
use Rattle.book.specs.State.{Book, State, qse_rows, load_rows}
use Rattle.book.specs.declared.books.Claim.{Claim}
use Rattle.cases.specs.Trade.{two_qses, traded}
use Rattle.cases.specs.declared.figures.Charged.{Charged}

-- an open book with the rows of case 9
abbrev pub two_book : Book
two_book = record { number = 1; struck = false; total = 0; made = 0; outstanding = 0; qses = 2; loads = 2; resources = 1; trades = 1 }

abbrev pub two_state : State
two_state = record { book = two_book; qses = two_qses; loads = traded.loads; resources = traded.resources; trades = traded.trades }

-- a book that is struck with T = 3,000: two QSEs short by 2,500 and 500 kW with loads of 1,000 and 500 kWh, and no cents on a row
pub record Short (s : State) : Type 0 where
  pub total : s.book.total ≡ 3000
  pub shortfalls : map (λ q. q.shortfall) (qse_rows s) ≡ 2500 ∷ 500 ∷ []
  pub loads : map (λ l. l.kwh) (load_rows s) ≡ 1000 ∷ 500 ∷ []
  pub unpaid : AllByRecursion (λ q. q.cents ≡ 0) (qse_rows s)
  pub uncharged : AllByRecursion (λ l. l.cents ≡ 0) (load_rows s)

pub record IsCharge (c : Charged) (s : State) (p r : ℕ) : Type 0 where
  pub pot : p ≡ c.pot
  pub rest : r ≡ c.rest
  pub qses : map (λ q. q.cents) (qse_rows s) ≡ c.on_qses
  pub loads : map (λ l. l.cents) (load_rows s) ≡ c.on_loads

-- whatever claim of these cents at this rate is charged to whatever book that stands so
abbrev pub Charges : Charged → Type 0
Charges c = (claim : Claim) (s s' : State) (p r : ℕ) → claim.cents ≡ 1000 → claim.rate ≡ 200 → Short s → ChargedBy claim s s' p r → IsCharge c s' p r
