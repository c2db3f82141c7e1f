-- Numbers among others, and the figures of the row of a number.
use Rattle.std.proofs.Common.{◌≡◌, ℕ, zero, suc, ◌<◌, eqb, ◌⊎◌, List, [], ◌∷◌, ◌++◌, length, get_or, sym, refl, ◌∙◌, inl, inr, ⊎_elim, arith}
use Rattle.std.proofs.lemmas.Bool.{cases_eq, eq-eqb, ne_eqb, cond-true, cond-false}
use Rattle.rows.specs.Rows.{PlainQse}
use Rattle.shortfall.specs.Pool.{Among, Distinct, numbers}
use Rattle.book.specs.Owned.{figures_in}
use Rattle.book.proofs.Enrolling.{among_at}

pub among_pushed : (ns : List ℕ) (x q : ℕ) → Among ns q → Among (ns ++ x ∷ []) q
among_pushed (n ∷ ns) x q (inl e) = inl e
among_pushed (n ∷ ns) x q (inr h) = inr (among_pushed ns x q h)
among_pushed [] x q h = absurd h

pub among_push_cases : (ns : List ℕ) (x q : ℕ) → Among (ns ++ x ∷ []) q → Among ns q ⊎ (x ≡ q)
among_push_cases [] x q (inl e) = inr e
among_push_cases [] x q (inr h) = absurd h
among_push_cases (n ∷ ns) x q (inl e) = inl (inl e)
among_push_cases (n ∷ ns) x q (inr h) = ⊎_elim (λ m. inl (inr m)) (λ e. inr e) (among_push_cases ns x q h)

pub distinct_push : (ns : List ℕ) (x : ℕ) → Distinct ns → (Among ns x → ⊥) → Distinct (ns ++ x ∷ [])
distinct_push [] x d new = ((λ h. h), tt)
distinct_push (n ∷ ns) x d new =
    ((λ h. ⊎_elim d.0 (λ e. new (inl (sym e))) (among_push_cases ns x n h)), distinct_push ns x d.1 (λ h. new (inr h)))

pub among_cases : (ns : List ℕ) (q : ℕ) → Among ns q ⊎ (Among ns q → ⊥)
among_cases [] q = inr (λ h. h)
among_cases (n ∷ ns) q =
    ⊎_elim (λ e. inl (inl e)) (λ ne. ⊎_elim (λ h. inl (inr h)) (λ none. inr (λ h. ⊎_elim ne none h)) (among_cases ns q)) (cases_eq n q)

-- where no number stands twice, a row has the figures of its number
pub figures_at : (xs : List PlainQse) (i : ℕ) (d : PlainQse) → Distinct (numbers xs) → i < length xs → figures_in (get_or xs i d).number xs ≡ (get_or xs i d).figures
figures_at [] i d dis lt = absurd (omega arith)
figures_at (x ∷ xs) zero d dis lt = cond-true (eqb x.number x.number) x.figures (figures_in x.number xs) (eq-eqb x.number x.number refl)
figures_at (x ∷ xs) (suc i) d dis lt =
    let n = (get_or xs i d).number in
    let in' : i < length xs = omega arith in
    let other = ne_eqb x.number n (λ e. dis.0 (among_at (λ y. y.number) x.number xs i d in' (sym e))) in
    cond-false (eqb x.number n) x.figures (figures_in n xs) other ∙ figures_at xs i d dis.1 in'
