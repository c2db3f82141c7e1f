use Rattle.std.proofs.Common.{◌≡◌, ℕ, ◌*◌, ◌<◌, ◌≤◌, length, get_or, take, sum_by}
use Rattle.rows.specs.Rows.{plain_qse}
use Rattle.rows.specs.declared.qse.QseRow.{QseRow}
use Rattle.account.specs.Account.{plain_tables}
use Rattle.shortfall.specs.Strike.{row_short}
use Rattle.shortfall.proofs.measured.Measured.of.Given as goal

abbrev pub invariant-loop-i : goal.invariant-loop-i
invariant-loop-i g l =
    (l.sum ≡ sum_by (λ q. row_short (g.M.Measure.meaning l.m) (plain_tables l.tables) (plain_qse q)) (take l.i l.rows))
    × (l.sum ≤ 1000000000000 * l.i)
    × (length l.first ≡ 64)
    × ((k : ℕ) → k < l.i → k < 64 → (d : QseRow) → get_or l.first k 0 ≡ row_short (g.M.Measure.meaning l.m) (plain_tables l.tables) (plain_qse (get_or l.rows k d)))
