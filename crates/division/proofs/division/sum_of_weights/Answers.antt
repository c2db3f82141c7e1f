use Rattle.std.proofs.Common.{rules, ◌-◌, ◌^◌, ◌<◌, sym, subst, arith}
use borrow.Author.Tests.{tests}
use Rattle.std.proofs.lemmas.Iterator.{YieldsList-from_slice}
use Rattle.std.proofs.lemmas.Iterator.Adapters.{fits_from_length, at_most_from_yields_List}
use Rattle.division.proofs.division.sum_of_weights.Goals as goal

-- a slice has fewer than 2^64 rows, and each weight is below 2^32
pub returns-clause-small : goal.returns-clause-small
returns-clause-small g c =
    let run = c.sum.ensures.runs tt in
    let below : c.sum.result < 2 ^ 96 - 1 = subst (λ n. n < 2 ^ 96 - 1) (sym run.3)
    (fits_from_length _ _ (2 ^ 64 - 1) (2 ^ 96 - 1) (at_most_from_yields_List (YieldsList-from_slice c.args.rows.now cc) (omega (arith, c.iter.ensures.bound))) c.map.ensures.closure (omega arith) (λ x r q k. search (rules, tests)) run.0 run.0.seen run.1) in
    omega (arith, below)
