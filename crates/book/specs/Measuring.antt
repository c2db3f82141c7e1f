-- What the calls that measure answer, and what they write.
use Rattle.std.specs.Prelude.{◌≡◌, ℕ, ◌<◌, true, cond, List, [], ◌∷◌, ◌++◌, map, length, drop, ℤ, pos, Some, None, Ok, Err, Option, Result, ◌==◌}
use Rattle.rows.specs.Limits.{max_shortfall, max_number}
use Rattle.rows.specs.Rows.{PlainQse}
use Rattle.rows.specs.declared.codes.Side.{Side}
use Rattle.rows.specs.declared.codes.Side.TheVariants.{Snapshot, Adjusted}
use Rattle.rows.specs.declared.fault.Fault.{Fault}
use Rattle.rows.specs.declared.fault.Fault.TheVariants.{CoverTooShort, TotalTooHigh}
use Rattle.account.specs.Own.{view_on}
use Rattle.account.specs.View.{View, counted}
use Rattle.shortfall.specs.Pool.{total, owns, CoversPool}
use Rattle.shortfall.specs.Shortfall.{shortfall_of}
use Rattle.shortfall.specs.Strike.{written}
use Rattle.cover.specs.Covered.{CoveredBy}
use Rattle.book.specs.State.{State, qse_rows, tables_of, struck_book, with_strike}
use Rattle.book.specs.Causes.{Cause, Judged, Clear, broken, outside, unenrolled}
use Rattle.book.specs.Owned.{own_rows, shortfall_in}
use Rattle.book.specs.declared.books.OpenBook.{OpenBook}
use Rattle.book.specs.declared.books.StruckBook.{StruckBook}

-- the causes of a call that names one QSE
abbrev pub naming : ℤ → State → List Cause
naming q s = broken s ∷ outside 1 q (pos 1) (pos max_number) ∷ unenrolled s (counted q) ∷ []

-- the shortfall of a QSE by its own rows; no table is touched
abbrev pub Shorts : (View → ℕ) → ℤ → State → Result ℕ Fault → Type 0
Shorts m q s (Ok v) = Clear (naming q s) × (v ≡ shortfall_of m (own_rows (counted q) s))
Shorts m q s (Err e) = Judged (naming q s) e

-- the sum of the shortfalls of all rows, each with its own figures
abbrev pub sum_short : (View → ℕ) → State → ℕ
sum_short m s = total m (owns (tables_of s) (qse_rows s))

abbrev pub too_high : (View → ℕ) → State → Cause
too_high m s e = (e ≡ TotalTooHigh) × (max_shortfall < sum_short m s)

-- every shortfall in its row
abbrev pub struck_rows : (View → ℕ) → State → List PlainQse
struck_rows m s = map (written m (tables_of s)) (qse_rows s) ++ drop s.book.qses s.qses

-- a struck book with T, the sum of the shortfalls, which are written into their rows; or the open book as it was and nothing written.
-- qs' is the table of QSEs afterwards; no other is touched
abbrev pub Strikes : (View → ℕ) → OpenBook → State → List PlainQse → Result (StruckBook × ℕ) (OpenBook × Fault) → Type 0
Strikes m b s qs' (Ok d) =
    Clear (broken s ∷ too_high m s ∷ []) × (d.1 ≡ sum_short m s) × (struck_book d.0 ≡ with_strike s.book true d.1) × (qs' ≡ struck_rows m s)
    × CoversPool m (tables_of s) (qse_rows s) d.1
Strikes m b s qs' (Err e) = Judged (broken s ∷ too_high m s ∷ []) e.1 × (e.0 ≡ b) × (qs' ≡ s.qses)

-- the shortfall in the QSE's row and T, or nothing where T is 0; no table is touched
abbrev pub Shares : ℤ → State → Result (Option (ℕ × ℕ)) Fault → Type 0
Shares q s (Ok (Some p)) = Clear (naming q s) × (0 < s.book.total) × (p.0 ≡ shortfall_in (counted q) (qse_rows s)) × (p.1 ≡ s.book.total)
Shares q s (Ok None) = Clear (naming q s) × (s.book.total ≡ 0)
Shares q s (Err e) = Judged (naming q s) e

-- side 1 is the snapshot, 2 the end of the Adjustment Period
abbrev pub side_at : ℤ → Side
side_at z = cond (counted z == 1) Snapshot Adjusted

-- the account of q on a side
abbrev pub view_at : ℤ → ℤ → State → View
view_at q side s = view_on (side_at side) (own_rows (counted q) s)

-- a cover table of n rows is too short for the lines
abbrev pub cover_short : ℕ → View → Cause
cover_short n v e = (e ≡ CoverTooShort) × (n < length v.lines)

abbrev pub covering : ℤ → ℤ → ℕ → State → List Cause
covering q side n s =
    broken s ∷ outside 1 q (pos 1) (pos max_number) ∷ outside 2 side (pos 1) (pos 2) ∷ unenrolled s (counted q) ∷ cover_short n (view_at q side s) ∷ []

-- cs and cs' are the cover table before and after; no other is touched
abbrev pub Covers : ℤ → ℤ → State → List (List ℕ) → List (List ℕ) → Result ℕ Fault → Type 0
Covers q side s cs cs' (Ok u) = Clear (covering q side (length cs) s) × CoveredBy (view_at q side s) cs cs' u
Covers q side s cs cs' (Err e) = Judged (covering q side (length cs) s) e × (cs' ≡ cs)
