use Rattle.std.proofs.Common.{get_or}
use Rattle.cases.specs.Both.{both}
use Rattle.cases.proofs.trades.trades.Goals as goal

pub returns : goal.returns
returns c =
    let before = c.before-2.ensures in
    let after = c.after.ensures in
    let pool = c.pool.ensures in
    λ i. record { before = before i; buyer = get_or (after i) 0 (both 0); seller = get_or (after i) 1 (both 0); pool = pool i }
