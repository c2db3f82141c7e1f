-- What the tests of a call say of its causes.
use Rattle.std.proofs.Common.{◌≡◌, ℕ, zero, suc, Ok, Err, slice_set, ◌+◌, ◌-◌, ◌<◌, ◌≤◌, Bool, true, false, List, [], ◌∷◌, map, length, take, ℤ, Decides, sym, refl, ap, ◌∙◌, subst, inl, inr, arith}
use Rattle.std.proofs.lemmas.List.{length-map, map-set}
use Rattle.rows.specs.declared.fault.Fault.{Fault}
use Rattle.book.specs.Entries.{Appends}
use Rattle.std.proofs.lemmas.Bool.{false≢true, cases_lt}
use Rattle.rows.specs.Rows.{plain_qse, plain_load, plain_resource, plain_trade}
use Rattle.rows.specs.declared.fault.Fault.TheVariants.{BrokenTable, WrongLength, OutOfLimits, NotEnrolled, AlreadyEnrolled, BuyerIsSeller, NoPlace, NoSuchTrade, CoverTooShort, TotalTooHigh, ClaimsUsedUp, ForeignClaim, NoLoad, ClaimOutstanding}
use Rattle.rows.specs.declared.load.LoadRow.{LoadRow}
use Rattle.rows.specs.declared.qse.QseRow.{QseRow}
use Rattle.rows.specs.declared.resource.ResourceRow.{ResourceRow}
use Rattle.rows.specs.declared.trade.TradeRow.{TradeRow}
use Rattle.entry.specs.Keeps.{AllKept, Within}
use Rattle.entry.specs.declared.form.Form.{Form}
use Rattle.shortfall.specs.Pool.{Among, numbers}
use Rattle.book.specs.State.{Book, State, state_of, qse_rows}
use Rattle.book.specs.Causes.{BrokenBy, Broken, broken, listed, outside, unenrolled, unpartied, already, same_party, full, Absent, Earliest}
use Rattle.book.proofs.Enrolling.{among_place}

module _ (b : Book) (qs : List QseRow) (ls : List LoadRow) (rs : List ResourceRow) (ts : List TradeRow) where
  abbrev s : State
  s = state_of b qs ls rs ts

  lengths : BrokenBy b.qses b.loads b.resources b.trades (length qs) (length ls) (length rs) (length ts) ≡ Broken s
  lengths =
      ap (λ n. BrokenBy b.qses b.loads b.resources b.trades n (length ls) (length rs) (length ts)) (sym (length-map qs plain_qse))
      ∙ ap (λ n. BrokenBy b.qses b.loads b.resources b.trades (length s.qses) n (length rs) (length ts)) (sym (length-map ls plain_load))
      ∙ ap (λ n. BrokenBy b.qses b.loads b.resources b.trades (length s.qses) (length s.loads) n (length ts)) (sym (length-map rs plain_resource))
      ∙ ap (λ n. BrokenBy b.qses b.loads b.resources b.trades (length s.qses) (length s.loads) (length s.resources) n) (sym (length-map ts plain_trade))

  module _ (r : Bool) (test : Decides r (BrokenBy b.qses b.loads b.resources b.trades (length qs) (length ls) (length rs) (length ts))) where
    pub table_sound : r ≡ false → Absent (broken s)
    table_sound e f c = false≢true (sym e ∙ test.1 (subst (λ T. T) (sym lengths) c.1))

    pub trades_long : r ≡ false → b.trades ≤ length ts
    trades_long e = elim (cases_lt (length ts) b.trades) as (λ _. b.trades ≤ length ts) [ inl h ↦ absurd (false≢true (sym e ∙ test.1 (inr (inr (inr h))))) | inr h ↦ h ]

  -- the rows of the book by number
  plain_numbers : (n : ℕ) (xs : List QseRow) → map (λ q. q.number) (take n (map plain_qse xs)) ≡ map (λ q. q.number) (take n xs)
  plain_numbers zero xs = refl
  plain_numbers (suc n) [] = refl
  plain_numbers (suc n) (x ∷ xs) = ap (λ l. x.number ∷ l) (plain_numbers n xs)

  book_numbers : numbers (qse_rows s) ≡ map (λ q. q.number) (take (b.qses - 0) qs)
  book_numbers = plain_numbers b.qses qs ∙ ap (λ n. map (λ q. q.number) (take n qs)) (omega arith)

  pub no_row : (q : ℕ) → (Among (map (λ x. x.number) (take (b.qses - 0) qs)) q → ⊥) → unenrolled s q NotEnrolled
  no_row q none = (refl, λ h. none (subst (λ l. Among l q) book_numbers h))

  pub some_row : (q k : ℕ) → Earliest (map (λ x. x.number) (take (b.qses - 0) qs)) q k → Absent (unenrolled s q)
  some_row q k e f c = c.1 (subst (λ l. Among l q) (sym book_numbers) (among_place _ q k e.inside e.there))

  module _ (q : ℕ) (r : Bool) (test : Decides r (Among (map (λ x. x.number) (take (b.qses - 0) qs)) q)) where
    pub not_enrolled : r ≡ false → unenrolled s q NotEnrolled
    not_enrolled e = (refl, λ h. false≢true (sym e ∙ test.1 (subst (λ l. Among l q) book_numbers h)))

    pub is_already : r ≡ true → already s q AlreadyEnrolled
    is_already e = (refl, subst (λ l. Among l q) (sym book_numbers) (test.0 e))

    pub not_yet : r ≡ false → Absent (already s q)
    not_yet e f c = false≢true (sym e ∙ test.1 (subst (λ l. Among l q) book_numbers c.1))

    pub is_among : r ≡ true → Absent (unenrolled s q)
    is_among e f c = c.1 (subst (λ l. Among l q) (sym book_numbers) (test.0 e))

  module _ (q p : ℕ) (r : Bool) (test : Decides r (Among (map (λ x. x.number) (take (b.qses - 0) qs)) q × Among (map (λ x. x.number) (take (b.qses - 0) qs)) p)) where
    pub not_both : r ≡ false → unpartied s q p NotEnrolled
    not_both e = (refl, λ h. false≢true (sym e ∙ test.1 (subst (λ l. Among l q × Among l p) book_numbers h)))

    pub both_among : r ≡ true → Absent (unpartied s q p)
    both_among e f c = c.1 (subst (λ l. Among l q × Among l p) (sym book_numbers) (test.0 e))

-- a list that is kept is refused by nothing
pub nothing_refused : (f : Form) (xs : List ℤ) → AllKept f xs → Absent (listed f xs)
nothing_refused f xs kept WrongLength c = c kept.long
nothing_refused f xs kept (OutOfLimits p) c = c.bad (kept.each (p - 1) (omega (arith, c.counted)))
nothing_refused f xs kept BrokenTable c = c
nothing_refused f xs kept NotEnrolled c = c
nothing_refused f xs kept AlreadyEnrolled c = c
nothing_refused f xs kept BuyerIsSeller c = c
nothing_refused f xs kept NoPlace c = c
nothing_refused f xs kept NoSuchTrade c = c
nothing_refused f xs kept CoverTooShort c = c
nothing_refused f xs kept TotalTooHigh c = c
nothing_refused f xs kept ClaimsUsedUp c = c
nothing_refused f xs kept ForeignClaim c = c
nothing_refused f xs kept NoLoad c = c
nothing_refused f xs kept ClaimOutstanding c = c

pub has_place : (n most long : ℕ) → n < most → n < long → Absent (full n most long)
has_place n most long few room e c = elim c.1 [ inl h ↦ omega arith | inr h ↦ omega arith ]

pub two_parties : (seller buyer : ℕ) → (buyer ≡ seller → ⊥) → Absent (same_party seller buyer)
two_parties seller buyer ne e c = ne c.1

module _ (p : ℕ) (x low high : ℤ) (r : Bool) (test : Decides r (Within x low high)) where
  pub not_outside : r ≡ true → Absent (outside p x low high)
  not_outside e f c = c.1 (test.0 e)

-- a row added, seen as a plain row of the plain table
module _ {X Y : Type 0} (f : X → Y) (n most : ℕ) (x : X) (old new : List X) where
  pub append_refused : (e : Fault) → Appends n most x old new (Err e) → full n most (length (map f old)) e × (map f new ≡ map f old)
  append_refused e h = (subst (λ l. full n most l e) (sym (length-map old f)) h.0, ap (map f) h.1)

  pub append_granted : (k : ℕ) → Appends n most x old new (Ok k) → Absent (full n most (length (map f old))) × (k ≡ n + 1) × (map f new ≡ slice_set (map f old) n (f x))
  append_granted k h = (has_place n most _ h.0 (omega (arith, h.1, length-map old f)), h.2, ap (map f) h.3 ∙ map-set f old n x)
