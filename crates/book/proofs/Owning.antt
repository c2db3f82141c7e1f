-- The rows of a QSE found at the place of its earliest row.
use Rattle.std.proofs.Common.{◌≡◌, ℕ, zero, suc, ◌-◌, cond, eqb, List, [], ◌∷◌, map, get_or, take, sym, refl, ap, ◌∙◌, arith, eq-eqb}
use native.Mathlib.Nat.{sub-zero}
use borrow.Author.Tests.{apart_eqb}
use Rattle.std.proofs.lemmas.List.{get_or-take, length-map, take-map}
use Rattle.rows.specs.Rows.{PlainQse, plain_qse, plain_figures, plain_load, plain_resource, plain_trade}
use Rattle.rows.specs.declared.codes.Side.{Side}
use Rattle.rows.specs.declared.load.LoadRow.{LoadRow}
use Rattle.rows.specs.declared.qse.QseRow.{QseRow}
use Rattle.rows.specs.declared.resource.ResourceRow.{ResourceRow}
use Rattle.rows.specs.declared.trade.TradeRow.{TradeRow}
use Rattle.account.specs.Account.{plain_rows}
use Rattle.account.specs.Own.{PlainTables, qse_own, own_of, view_on}
use Rattle.account.specs.View.{View}
use Rattle.shortfall.specs.Shortfall.{shortfall_of}
use Rattle.book.specs.State.{Book, State, state_of, qse_rows, tables_of}
use Rattle.book.specs.Causes.{Earliest}
use Rattle.book.specs.Owned.{figures_in, shortfall_in, own_rows}
use Rattle.book.specs.Reading.{counted_tables}
use Rattle.book.specs.declared.books.Counts.{Counts}
use Rattle.book.proofs.Enrolling.{number_at, place_taken}

-- a slice that begins at 0 ends where it says
pub from_start : {X Y : Type 0} (f : X → Y) (n : ℕ) (xs : List X) → map f (take (n - 0) xs) ≡ take n (map f xs)
from_start f n xs = ap (λ k. map f (take k xs)) (sub-zero n) ∙ sym (take-map f n xs)

pub tables_from_start : (n : Counts) (ls : List LoadRow) (rs : List ResourceRow) (ts : List TradeRow) → plain_rows (take (n.loads - 0) ls) (take (n.resources - 0) rs) (take (n.trades - 0) ts) ≡ counted_tables n ls rs ts
tables_from_start n ls rs ts = rw (from_start plain_load n.loads ls, from_start plain_resource n.resources rs, from_start plain_trade n.trades ts)

-- what a search for q by number reads is in the row at the earliest place
module _ {V : Type 0} (field : PlainQse → V) (search : List PlainQse → V) (q : ℕ) (step : (x : PlainQse) (xs : List PlainQse) → search (x ∷ xs) ≡ cond (eqb x.number q) (field x) (search xs)) where
  found_at : (qs : List QseRow) (n k : ℕ) (d : QseRow) → Earliest (map (λ x. x.number) (take n qs)) q k → search (take n (map plain_qse qs)) ≡ field (plain_qse (get_or qs k d))
  found_at qs zero k d e = absurd (omega (arith, e.inside))
  found_at [] (suc n) k d e = absurd (omega (arith, e.inside))
  found_at (x ∷ qs) (suc n) zero d e =
      step (plain_qse x) (take n (map plain_qse qs)) ∙ ap (λ b. cond b (field (plain_qse x)) (search (take n (map plain_qse qs)))) (eq-eqb x.number q e.there)
  found_at (x ∷ qs) (suc n) (suc k) d e =
      let rest : Earliest (map (λ y. y.number) (take n qs)) q k = record { inside = omega (arith, e.inside); there = e.there; first = λ j lt. e.first (suc j) (omega arith) } in
      step (plain_qse x) (take n (map plain_qse qs)) ∙ ap (λ b. cond b (field (plain_qse x)) (search (take n (map plain_qse qs)))) (apart_eqb x.number q (e.first 0 (omega arith)))
      ∙ found_at qs n k d rest

number_found : (qs : List QseRow) (n q k : ℕ) (d : QseRow) → Earliest (map (λ x. x.number) (take n qs)) q k → (get_or qs k d).number ≡ q
number_found qs n q k d e =
    let inside = place_taken (λ x. x.number) qs n k e.inside in
    sym (ap (λ x. x.number) (get_or-take n qs k d inside.0)) ∙ sym (number_at (λ x. x.number) (take n qs) k d (omega (arith, e.inside, length-map (take n qs) (λ x. x.number)))) ∙ e.there

module _ (b : Book) (qs : List QseRow) (ls : List LoadRow) (rs : List ResourceRow) (ts : List TradeRow) (q k n : ℕ)
    (e : Earliest (map (λ x. x.number) (take (b.qses - 0) qs)) q k) (same : q ≡ n) where
  abbrev s : State
  s = state_of b qs ls rs ts

  counted_rows : take (b.qses - 0) (map plain_qse qs) ≡ qse_rows s
  counted_rows = ap (λ l. take l (map plain_qse qs)) (sub-zero b.qses)

  pub shortfall_at_place : (d : QseRow) → (get_or qs k d).shortfall ≡ shortfall_in n (qse_rows s)
  shortfall_at_place d =
      sym (found_at (λ x. x.shortfall) (shortfall_in q) q (λ x xs. refl) qs (b.qses - 0) k d e) ∙ ap (shortfall_in q) counted_rows ∙ ap (λ l. shortfall_in l (qse_rows s)) same

  module _ (row : QseRow) (is : row ≡ get_or qs k row) (t : PlainTables) (counts : t ≡ tables_of s) where
    own_figures : plain_figures row.figures ≡ figures_in q (qse_rows s)
    own_figures =
        ap (λ x. plain_figures x.figures) is ∙ sym (found_at (λ x. x.figures) (figures_in q) q (λ x xs. refl) qs (b.qses - 0) k row e)
        ∙ ap (figures_in q) counted_rows

    own_at_place : qse_own (plain_qse row) t ≡ own_rows n s
    own_at_place =
        ap (λ l. own_of l (plain_figures row.figures) t) (ap (λ x. x.number) is ∙ number_found qs (b.qses - 0) q k row e)
        ∙ ap (λ f. own_of q f t) own_figures
        ∙ ap (λ u. own_of q (figures_in q (qse_rows s)) u) counts
        ∙ ap (λ l. own_rows l s) same

    pub short_at_place : (m : View → ℕ) (v : ℕ) → v ≡ shortfall_of m (qse_own (plain_qse row) t) → v ≡ shortfall_of m (own_rows n s)
    short_at_place m v short = short ∙ ap (shortfall_of m) own_at_place

    pub view_at_place : (a b : Side) (v : View) → a ≡ b → v ≡ view_on a (qse_own (plain_qse row) t) → v ≡ view_on b (own_rows n s)
    view_at_place a b v on view = view ∙ ap (λ z. view_on z (qse_own (plain_qse row) t)) on ∙ ap (view_on b) own_at_place
