-- The rows of one QSE in a book: those of its number, with the figures of its earliest row.
use Rattle.std.specs.Prelude.{ℕ, false, cond, List, [], ◌∷◌, replicate, pos, ◌==◌}
use Rattle.rows.specs.Rows.{PlainQse, PlainFigures, PlainFiguresSide}
use Rattle.account.specs.Own.{Own, own_of}
use Rattle.book.specs.State.{State, qse_rows, tables_of}

abbrev pub no_side : PlainFiguresSide
no_side = record { dcimport = 0; storagenet = pos 0; positions = replicate 9 0 }

abbrev pub no_figures : PlainFigures
no_figures = record { credit = 0; purchase = 0; sale = 0; tie = false; snapshot = no_side; adjusted = no_side }

-- the figures in the earliest row of q
abbrev pub figures_in : ℕ → List PlainQse → PlainFigures
figures_in q [] = no_figures
figures_in q (x ∷ xs) = cond (x.number == q) x.figures (figures_in q xs)

-- the shortfall in the earliest row of q
abbrev pub shortfall_in : ℕ → List PlainQse → ℕ
shortfall_in q [] = 0
shortfall_in q (x ∷ xs) = cond (x.number == q) x.shortfall (shortfall_in q xs)

abbrev pub own_rows : ℕ → State → Own
own_rows q s = own_of q (figures_in q (qse_rows s)) (tables_of s)
