use Rattle.std.proofs.Common.{refl, arith}
use Rattle.cover.proofs.ReachSums.{lines_count}
use Rattle.cover.proofs.covering.cover.Goals as goal

pub returns-then-out-own_rows : goal.returns-then-out-own_rows
returns-then-out-own_rows c = (refl, omega (arith, c.own_rows.ensures, lines_count c.args.a.now, c.if-out-own_rows.true), refl)

pub write_cover-requires : goal.write_cover-requires
write_cover-requires c = omega (arith, c.own_rows.ensures, lines_count c.args.a.now, c.if-out-own_rows.false)
