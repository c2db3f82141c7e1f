-- What the calls that enter rows answer, and what they make of the book.
use Rattle.std.specs.Prelude.{◌≡◌, ℕ, zero, suc, ◌+◌, ◌<◌, true, false, cond, List, [], ◌∷◌, ◌++◌, length, drop, ℤ, pos, Ok, Err, Result, ◌==◌, slice_set}
use Rattle.rows.specs.Limits.{max_rows, max_number, max_book, max_qses}
use Rattle.rows.specs.Rows.{PlainQse, PlainFigures, PlainLoad, PlainResource, PlainTrade}
use Rattle.rows.specs.declared.fault.Fault.{Fault}
use Rattle.entry.specs.Numbers.{figures_numbers, plain_load_numbers, resource_numbers, trade_numbers}
use Rattle.entry.specs.Places.{at}
use Rattle.entry.specs.declared.form.Form.TheVariants.{Figures, Load, Resource, Trade}
use Rattle.account.specs.View.{counted}
use Rattle.book.specs.declared.books.OpenBook.{OpenBook}
use Rattle.book.specs.State.{Book, State, open_book, qse_rows, add_qse, add_load, add_resource, add_trade, with_qses, with_trades}
use Rattle.book.specs.Owned.{no_figures}
use Rattle.book.specs.Causes.{Cause, Judged, Clear, broken, listed, outside, unenrolled, unpartied, already, same_party, full, no_trade}

-- a granted call makes the state after it by `grants`; a refused one leaves it as it was
abbrev pub Outcome : {V : Type 0} → List Cause → (V → State → Type 0) → State → State → Result V Fault → Type 0
Outcome cs grants s s' (Ok v) = Clear cs × grants v s'
Outcome cs grants s s' (Err e) = Judged cs e × (s' ≡ s)

-- a row x after the first n, where a table has at most `most` rows and the book's has a place
abbrev pub Appends : {X : Type 0} → ℕ → ℕ → X → List X → List X → Result ℕ Fault → Type 0
Appends n most x old new (Ok k) = (n < most) × (n < length old) × (k ≡ n + 1) × (new ≡ slice_set old n x)
Appends n most x old new (Err e) = full n most (length old) e × (new ≡ old)

-- a book without rows and claims
abbrev pub new_book : ℕ → Book
new_book n = record { number = n; struck = false; total = 0; made = 0; outstanding = 0; qses = 0; loads = 0; resources = 0; trades = 0 }

abbrev pub Opens : ℤ → Result OpenBook Fault → Type 0
Opens n (Ok b) = Clear (outside 1 n (pos 0) (pos max_book) ∷ []) × (open_book b ≡ new_book (counted n))
Opens n (Err e) = Judged (outside 1 n (pos 0) (pos max_book) ∷ []) e

-- a QSE as it is enrolled
abbrev pub new_qse : ℕ → PlainQse
new_qse q = record { number = q; figures = no_figures; shortfall = 0; cents = 0 }

abbrev pub Enrols : ℤ → State → State → Result (Unit {0}) Fault → Type 0
Enrols q s s' r =
    Outcome (broken s ∷ outside 1 q (pos 1) (pos max_number) ∷ already s (counted q) ∷ full s.book.qses max_qses (length s.qses) ∷ [])
    (λ _ t. t ≡ add_qse s (new_qse (counted q))) s s' r

abbrev pub refigure : PlainFigures → PlainQse → PlainQse
refigure f x = record { number = x.number; figures = f; shortfall = x.shortfall; cents = x.cents }

-- the figures f in the earliest row of q
abbrev pub refigured : ℕ → PlainFigures → List PlainQse → List PlainQse
refigured q f [] = []
refigured q f (x ∷ xs) = cond (x.number == q) (refigure f x ∷ xs) (x ∷ refigured q f xs)

abbrev pub Figured : List ℤ → State → State → Result (Unit {0}) Fault → Type 0
Figured xs s s' r =
    Outcome (broken s ∷ listed Figures xs ∷ unenrolled s (counted (at xs 0)) ∷ [])
    (λ _ t. (f : PlainFigures) × (figures_numbers (counted (at xs 0)) f ≡ xs)
    × (t ≡ with_qses s (refigured (counted (at xs 0)) f (qse_rows s) ++ drop s.book.qses s.qses))) s s' r

abbrev pub Loads : List ℤ → State → State → Result (Unit {0}) Fault → Type 0
Loads xs s s' r =
    Outcome (broken s ∷ listed Load xs ∷ unenrolled s (counted (at xs 0)) ∷ full s.book.loads max_rows (length s.loads) ∷ [])
    (λ _ t. (l : PlainLoad) × (plain_load_numbers l ≡ xs) × (l.cents ≡ 0) × (t ≡ add_load s l)) s s' r

abbrev pub Supplies : List ℤ → State → State → Result (Unit {0}) Fault → Type 0
Supplies xs s s' r =
    Outcome (broken s ∷ listed Resource xs ∷ unenrolled s (counted (at xs 0)) ∷ full s.book.resources max_rows (length s.resources) ∷ [])
    (λ _ t. (x : PlainResource) × (resource_numbers x ≡ xs) × (t ≡ add_resource s x)) s s' r

-- granted with the place of the trade, counted from 0
abbrev pub Trades : List ℤ → State → State → Result ℕ Fault → Type 0
Trades xs s s' r =
    Outcome (broken s ∷ listed Trade xs ∷ unpartied s (counted (at xs 3)) (counted (at xs 4)) ∷ same_party (counted (at xs 3)) (counted (at xs 4)) ∷ full s.book.trades max_rows (length s.trades) ∷ [])
    (λ k t. (k ≡ s.book.trades) × ((x : PlainTrade) × (trade_numbers x ≡ xs) × (x.counts ≡ true) × (t ≡ add_trade s x))) s s' r

abbrev pub voided : PlainTrade → PlainTrade
voided x = record { traded = x.traded; sides = x.sides; seller = x.seller; buyer = x.buyer; kw = x.kw; counts = false }

-- the trade at place k no longer counts
abbrev pub void_at : ℕ → List PlainTrade → List PlainTrade
void_at zero [] = []
void_at (suc k) [] = []
void_at zero (x ∷ xs) = voided x ∷ xs
void_at (suc k) (x ∷ xs) = x ∷ void_at k xs

abbrev pub Voids : ℕ → State → State → Result (Unit {0}) Fault → Type 0
Voids k s s' r = Outcome (broken s ∷ no_trade s k ∷ []) (λ _ t. t ≡ with_trades s (void_at k s.trades)) s s' r
