-- What a strike answers, from what was written into the counted rows.
use Rattle.std.proofs.Common.{◌≡◌, ℕ, ◌-◌, List, [], ◌∷◌, ◌++◌, map, take, drop, Ok, Err, Result, sym, ap, ◌∙◌, subst, inl, inr, arith}
use native.Mathlib.Nat.{sub-zero}
use Rattle.std.proofs.lemmas.List.{drop-map, map-append, take-append-drop}
use Rattle.rows.specs.Rows.{PlainQse, plain_qse}
use Rattle.rows.specs.declared.fault.Fault.{Fault}
use Rattle.rows.specs.declared.load.LoadRow.{LoadRow}
use Rattle.rows.specs.declared.qse.QseRow.{QseRow}
use Rattle.rows.specs.declared.resource.ResourceRow.{ResourceRow}
use Rattle.rows.specs.declared.trade.TradeRow.{TradeRow}
use Rattle.account.specs.Own.{PlainTables}
use Rattle.account.specs.View.{View}
use Rattle.shortfall.specs.Pool.{CoversPool}
use Rattle.shortfall.specs.Strike.{Struck}
use Rattle.book.specs.State.{Book, State, state_of, qse_rows, tables_of}
use Rattle.book.specs.Causes.{Absent, Clear, Judged, broken}
use Rattle.book.specs.Measuring.{sum_short, struck_rows, too_high}
use Rattle.book.proofs.Owning.{from_start}

-- the first n rows replaced by others, which are `front` when plain
rows_after : (n : ℕ) (qs rows : List QseRow) (front : List PlainQse) → map plain_qse rows ≡ front → map plain_qse (rows ++ drop (n - 0) qs) ≡ front ++ drop n (map plain_qse qs)
rows_after n qs rows front e =
    map-append plain_qse rows (drop (n - 0) qs) ∙ ap (λ l. l ++ map plain_qse (drop (n - 0) qs)) e
    ∙ ap (λ k. front ++ map plain_qse (drop k qs)) (sub-zero n)
    ∙ ap (λ l. front ++ l) (sym (drop-map plain_qse n qs))

module _ (m : View → ℕ) (b : Book) (qs : List QseRow) (ls : List LoadRow) (rs : List ResourceRow) (ts : List TradeRow)
    (sound : Absent (broken (state_of b qs ls rs ts))) (t : PlainTables) (counts : t ≡ tables_of (state_of b qs ls rs ts)) (rows : List QseRow) where
  abbrev s : State
  s = state_of b qs ls rs ts

  struck_rows_are : (r : Result ℕ Fault) → Struck m t (map plain_qse (take (b.qses - 0) qs)) (map plain_qse rows) r → Struck m (tables_of s) (qse_rows s) (map plain_qse rows) r
  struck_rows_are r h =
      subst (λ l. Struck m (tables_of s) l (map plain_qse rows) r) (from_start plain_qse b.qses qs)
      (subst (λ u. Struck m u (map plain_qse (take (b.qses - 0) qs)) (map plain_qse rows) r) counts h)

  pub strike_granted : (v : ℕ) → Struck m t (map plain_qse (take (b.qses - 0) qs)) (map plain_qse rows) (Ok v)
      → Clear (broken s ∷ too_high m s ∷ []) × (v ≡ sum_short m s) × (map plain_qse (rows ++ drop (b.qses - 0) qs) ≡ struck_rows m s) × CoversPool m (tables_of s) (qse_rows s) v
  strike_granted v struck =
      let h = struck_rows_are (Ok v) struck in
      ((sound, ((λ e f. omega (arith, h.0, h.1, f.1)), tt)), h.0, rows_after b.qses qs rows _ h.2, h.3)

  pub strike_refused : (e : Fault) → Struck m t (map plain_qse (take (b.qses - 0) qs)) (map plain_qse rows) (Err e)
      → Judged (broken s ∷ too_high m s ∷ []) e × (map plain_qse (rows ++ drop (b.qses - 0) qs) ≡ s.qses)
  strike_refused e struck =
      let h = struck_rows_are (Err e) struck in
      (inr (sound, inl (h.0, h.1)), rows_after b.qses qs rows _ h.2 ∙ take-append-drop b.qses s.qses)
