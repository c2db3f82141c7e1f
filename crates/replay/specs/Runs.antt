-- What each call makes of a desk, and runs of calls. A desk is a book with its tables, the cover table, and the purse with the claims at hand.
use Rattle.std.specs.Prelude.{◌≡◌, ℕ, ◌<◌, ◌≤◌, true, false, ◌⊎◌, List, [], ◌∷◌, length, get_or, ℤ, Some, None, Ok, Err, Option, Result, slice_index_or, slice_set}
use Rattle.rows.specs.declared.fault.Fault.{Fault}
use Rattle.rows.specs.declared.load.LoadRow.{LoadRow}
use Rattle.rows.specs.declared.qse.QseRow.{QseRow}
use Rattle.rows.specs.declared.resource.ResourceRow.{ResourceRow}
use Rattle.rows.specs.declared.trade.TradeRow.{TradeRow}
use Rattle.account.specs.View.{View}
use Rattle.book.specs.Causes.{Judged, Clear, broken, outstanding}
use Rattle.book.specs.Charging.{Charges}
use Rattle.book.specs.Claims.{Claims, HandsBack}
use Rattle.book.specs.Entries.{Enrols, Figured, Loads, Supplies, Trades, Voids}
use Rattle.book.specs.Measuring.{Shorts, Shares, Covers, sum_short, too_high, struck_rows}
use Rattle.book.specs.State.{Book, State, state_of, open_book, struck_book, with_book, with_strike, with_qses}
use Rattle.book.specs.declared.books.Claim.{Claim as Slip}
use Rattle.replay.specs.declared.calls.Answer.{Answer}
use Rattle.replay.specs.declared.calls.Answer.TheVariants.{NotAllowed, Refused, Granted, Placed, Shortfall, Uncovered, Total, Shared, Claimed, Charged}
use Rattle.replay.specs.declared.calls.AnyBook.{AnyBook}
use Rattle.replay.specs.declared.calls.AnyBook.TheVariants.{Open, Struck}
use Rattle.replay.specs.declared.calls.Call.{Call}
use Rattle.replay.specs.declared.calls.Call.TheVariants.{Figures, Load, Resource, Trade, Enrol, Void, Short, Cover, Strike, Share, Claim, Charge, HandBack, Reopen}
use Rattle.replay.specs.declared.calls.Entry.{Entry}

abbrev pub any_book : AnyBook → Book
any_book (Open b) = open_book b
any_book (Struck b) = struck_book b

pub record Desk : Type 0 where
  pub state : State
  pub covers : List (List ℕ)
  pub purse : List (Option Slip)

abbrev pub desk_of : Book → List QseRow → List LoadRow → List ResourceRow → List TradeRow → List (List ℕ) → List (Option Slip) → Desk
desk_of b qs ls rs ts cs p = record { state = state_of b qs ls rs ts; covers = cs; purse = p }

-- the measure at place j; past the list one that finds nobody short, which no call reaches
abbrev pub measure_at : List (View → ℕ) → ℕ → View → ℕ
measure_at ms j = slice_index_or ms j (λ _. 0)

-- the call has no effect
pub record Barred (d d' : Desk) (a : Answer) : Type 0 where
  pub answer : a ≡ NotAllowed
  pub same : d' ≡ d

abbrev pub answer_by : {V : Type 0} → (V → Answer) → Result V Fault → Answer
answer_by says (Ok v) = says v
answer_by says (Err e) = Refused e

-- a call that only answers
pub record Looks {V : Type 0} (does : State → Result V Fault → Type 0) (says : V → Answer) (d d' : Desk) (a : Answer) : Type 0 where
  pub result : Result V Fault
  pub done : does d.state result
  pub answer : a ≡ answer_by says result
  pub same : d' ≡ d

-- a call that changes the book and its tables alone
pub record Enters {V : Type 0} (does : State → State → Result V Fault → Type 0) (says : V → Answer) (d d' : Desk) (a : Answer) : Type 0 where
  pub result : Result V Fault
  pub done : does d.state d'.state result
  pub answer : a ≡ answer_by says result
  pub covers : d'.covers ≡ d.covers
  pub purse : d'.purse ≡ d.purse

-- a call that writes a cover
pub record Covering (q side : ℤ) (d d' : Desk) (a : Answer) : Type 0 where
  pub result : Result ℕ Fault
  pub done : Covers q side d.state d.covers d'.covers result
  pub answer : a ≡ answer_by Uncovered result
  pub state : d'.state ≡ d.state
  pub purse : d'.purse ≡ d.purse

-- the shortfalls are written and the book is struck with their sum
abbrev pub struck_state : (View → ℕ) → State → State
struck_state m s = with_qses (with_book s (with_strike s.book true (sum_short m s))) (struck_rows m s)

abbrev pub Strikes : (View → ℕ) → State → State → Result ℕ Fault → Type 0
Strikes m s s' (Ok t) = Clear (broken s ∷ too_high m s ∷ []) × (t ≡ sum_short m s) × (s' ≡ struck_state m s)
Strikes m s s' (Err e) = Judged (broken s ∷ too_high m s ∷ []) e × (s' ≡ s)

abbrev pub Reopens : State → State → Result (Unit {0}) Fault → Type 0
Reopens s s' (Ok _) = Clear (broken s ∷ outstanding s ∷ []) × (s' ≡ with_book s (with_strike s.book false 0))
Reopens s s' (Err e) = Judged (broken s ∷ outstanding s ∷ []) e × (s' ≡ s)

abbrev pub StrikesBook : (View → ℕ) → Desk → Desk → Answer → Type 0
StrikesBook m d d' a = Enters (Strikes m) Total d d' a

-- the place k of the purse is free; the next claim goes to the place that is the number of claims made before it
abbrev pub Free : List (Option Slip) → ℕ → Type 0
Free p k = (k < length p) × (slice_index_or p k None ≡ None)

abbrev pub purse_with : ℕ → List (Option Slip) → Result Slip Fault → List (Option Slip)
purse_with k p (Ok c) = slice_set p k (Some c)
purse_with k p (Err e) = p

-- a claim made and put into the purse
pub record Claiming (cents rate : ℤ) (d d' : Desk) (a : Answer) : Type 0 where
  pub free : Free d.purse d.state.book.made
  pub result : Result Slip Fault
  pub done : Claims cents rate d.state d'.state result
  pub answer : a ≡ answer_by (λ _. Claimed d.state.book.made) result
  pub covers : d'.covers ≡ d.covers
  pub purse : d'.purse ≡ purse_with d.state.book.made d.purse result

abbrev pub spent_answer : {V : Type 0} → (V → Answer) → Result V (Slip × Fault) → Answer
spent_answer says (Ok v) = says v
spent_answer says (Err e) = Refused e.1

-- a claim that is spent leaves the purse; one that is refused stays
abbrev pub purse_less : {V : Type 0} → ℕ → List (Option Slip) → Result V (Slip × Fault) → List (Option Slip)
purse_less k p (Ok v) = slice_set p k None
purse_less k p (Err e) = p

-- the claim at the place k of the purse spent
pub record Spends {V : Type 0} (does : Slip → State → State → Result V (Slip × Fault) → Type 0) (says : V → Answer) (k : ℕ) (d d' : Desk) (a : Answer) : Type 0 where
  pub claim : Slip
  pub held : get_or d.purse k None ≡ Some claim
  pub result : Result V (Slip × Fault)
  pub done : does claim d.state d'.state result
  pub answer : a ≡ spent_answer says result
  pub covers : d'.covers ≡ d.covers
  pub purse : d'.purse ≡ purse_less k d.purse result

-- what a call makes of the desk of an open book
abbrev pub OnOpen : List (View → ℕ) → Call → Desk → Desk → Answer → Type 0
OnOpen ms (Figures xs) d d' a = Enters (Figured xs.now) (λ _. Granted) d d' a
OnOpen ms (Load xs) d d' a = Enters (Loads xs.now) (λ _. Granted) d d' a
OnOpen ms (Resource xs) d d' a = Enters (Supplies xs.now) (λ _. Granted) d d' a
OnOpen ms (Trade xs) d d' a = Enters (Trades xs.now) Placed d d' a
OnOpen ms (Enrol q) d d' a = Enters (Enrols q) (λ _. Granted) d d' a
OnOpen ms (Void k) d d' a = Enters (Voids k) (λ _. Granted) d d' a
OnOpen ms (Short j q) d d' a = ((j < length ms) × Looks (Shorts (measure_at ms j) q) Shortfall d d' a) ⊎ ((length ms ≤ j) × Barred d d' a)
OnOpen ms (Cover q side) d d' a = Covering q side d d' a
OnOpen ms (Strike j) d d' a = ((j < length ms) × StrikesBook (measure_at ms j) d d' a) ⊎ ((length ms ≤ j) × Barred d d' a)
OnOpen ms (Share q) d d' a = Barred d d' a
OnOpen ms (Claim cents rate) d d' a = Barred d d' a
OnOpen ms (Charge k) d d' a = Barred d d' a
OnOpen ms (HandBack k) d d' a = Barred d d' a
OnOpen ms Reopen d d' a = Barred d d' a

-- and of a struck one
abbrev pub OnStruck : Call → Desk → Desk → Answer → Type 0
OnStruck (Figures xs) d d' a = Barred d d' a
OnStruck (Load xs) d d' a = Barred d d' a
OnStruck (Resource xs) d d' a = Barred d d' a
OnStruck (Trade xs) d d' a = Barred d d' a
OnStruck (Enrol q) d d' a = Barred d d' a
OnStruck (Void k) d d' a = Barred d d' a
OnStruck (Short j q) d d' a = Barred d d' a
OnStruck (Cover q side) d d' a = Barred d d' a
OnStruck (Strike j) d d' a = Barred d d' a
OnStruck (Share q) d d' a = Looks (Shares q) Shared d d' a
OnStruck (Claim cents rate) d d' a = Claiming cents rate d d' a ⊎ ((Free d.purse d.state.book.made → ⊥) × Barred d d' a)
OnStruck (Charge k) d d' a = Spends Charges (λ p. Charged p.0 p.1) k d d' a ⊎ ((slice_index_or d.purse k None ≡ None) × Barred d d' a)
OnStruck (HandBack k) d d' a = Spends HandsBack (λ _. Granted) k d d' a ⊎ ((slice_index_or d.purse k None ≡ None) × Barred d d' a)
OnStruck Reopen d d' a = Enters Reopens (λ _. Granted) d d' a

-- the call c on the desk d is answered a and leaves the desk d'; ms are the measures that a call may name
abbrev pub Step : List (View → ℕ) → Call → Desk → Desk → Answer → Type 0
Step ms c d d' a = ((d.state.book.struck ≡ false) × OnOpen ms c d d' a) ⊎ ((d.state.book.struck ≡ true) × OnStruck c d d' a)

-- calls made one after the other, each with its answer
abbrev pub Run : List (View → ℕ) → Desk → List Entry → Desk → Type 0
Run ms d [] d' = d' ≡ d
Run ms d (e ∷ es) d' = (next : Desk) × Step ms e.call d next e.answer × Run ms next es d'
