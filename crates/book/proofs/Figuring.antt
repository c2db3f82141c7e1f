-- The figures of a QSE replaced.
use Rattle.std.proofs.Common.{◌≡◌, ℕ, zero, suc, List, [], ◌∷◌, ◌++◌, map, get_or, take, drop, set, sym, refl, ap, ◌∙◌, arith, eq-eqb}
use borrow.Author.Tests.{apart_eqb}
use Rattle.rows.specs.Rows.{PlainQse, PlainFigures, plain_qse}
use Rattle.rows.specs.declared.qse.QseRow.{QseRow}
use Rattle.book.specs.Causes.{Earliest}
use Rattle.book.specs.Entries.{refigure, refigured}

take_and_drop : (n : ℕ) (xs : List PlainQse) → take n xs ++ drop n xs ≡ xs
take_and_drop zero xs = refl
take_and_drop (suc n) [] = refl
take_and_drop (suc n) (x ∷ xs) = ap (λ l. x ∷ l) (take_and_drop n xs)

module _ (q : ℕ) (f : PlainFigures) (d new : QseRow) where
  pub figured_rows : (qs : List QseRow) (n k : ℕ) → Earliest (map (λ x. x.number) (take n qs)) q k → plain_qse new ≡ refigure f (plain_qse (get_or qs k d)) → map plain_qse (set qs k new) ≡ refigured q f (take n (map plain_qse qs)) ++ drop n (map plain_qse qs)
  figured_rows qs zero k e same = absurd (omega (arith, e.inside))
  figured_rows [] (suc n) k e same = absurd (omega (arith, e.inside))
  figured_rows (x ∷ qs) (suc n) zero e same =
      rw (eq-eqb x.number q e.there) (ap (λ p. p ∷ map plain_qse qs) same ∙ ap (λ l. refigure f (plain_qse x) ∷ l) (sym (take_and_drop n (map plain_qse qs))))
  figured_rows (x ∷ qs) (suc n) (suc k) e same =
      let rest : Earliest (map (λ y. y.number) (take n qs)) q k = record { inside = omega (arith, e.inside); there = e.there; first = λ j lt. e.first (suc j) (omega arith) } in
      rw (apart_eqb x.number q (e.first 0 (omega arith))) (ap (λ l. plain_qse x ∷ l) (figured_rows qs n k rest same))
