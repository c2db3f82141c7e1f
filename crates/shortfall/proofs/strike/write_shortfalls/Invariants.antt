use Rattle.rows.specs.Rows.{plain_qse}
use Rattle.account.specs.Account.{plain_tables}
use Rattle.shortfall.specs.Strike.{written}
use Rattle.shortfall.proofs.Turns.{WrittenTo}
use Rattle.shortfall.proofs.strike.write_shortfalls.Given as goal

abbrev pub invariant-loop-i : goal.invariant-loop-i
invariant-loop-i g l = WrittenTo plain_qse (written (g.M.Measure.meaning l.m) (plain_tables l.tables)) l.initial.rows l.rows l.i
