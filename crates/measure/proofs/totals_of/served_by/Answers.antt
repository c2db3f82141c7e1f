use Rattle.std.proofs.Common.{get_or, ap, arith}
use Rattle.account.specs.View.{over}
use Rattle.measure.proofs.LineTotals.{levels_same, at_most_more}
use Rattle.measure.proofs.totals_of.served_by.Goals as goal

pub returns : goal.returns
returns c =
    let l = c.args.line.now in
    record {
      value = levels_same _ _ (λ ks all. omega (arith, c.from.ensures, ap (λ xs. over ks (λ k. get_or xs k 0)) c.capabilities.ensures.same)) (c.within.ensures.value _ c.of.ensures.value);
      small = at_most_more c.from.result 20000000 (omega (arith, c.from.ensures, l.small.0)) c.within.ensures.small;
    }
