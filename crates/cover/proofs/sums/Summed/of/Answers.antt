use Rattle.std.proofs.Common.{◌≡◌, refl, ap, arith, rules}
use Rattle.cover.specs.Sets.{start_at}
use Rattle.cover.proofs.SetSums.{starts_order, starts_end, sums_more, sum_under, only_first}
use Rattle.cover.proofs.sums.Summed.of.Goals as goal

pub loop-j-init : goal.loop-j-init
loop-j-init c = (refl, only_first c.args.figures)

pub extend-requires : goal.extend-requires
unfolding start_at
extend-requires c =
    let j = c.loop-j.j in
    let o = starts_order j c.loop-j-test.true in
    let lt = c.loop-j-test.true in
    record {
      order = (o.0, (o.1, o.2));
      few = λ k h. omega (arith, c.loop-j.invariant.1 k h, sum_under k 5130000000 c.args.figures c.requires);
      low = c.requires j;
    }

pub loop-j-preserved : goal.loop-j-preserved
unfolding start_at
loop-j-preserved c = (
  omega (arith, c.loop-j.invariant.0),
  sums_more c.loop-j.j c.args.figures _ _ _ _ c.loop-j-test.true refl refl c.loop-j.invariant.1 c.extend.ensures.kept c.extend.ensures.more,
)

pub invariant_of-result : goal.invariant_of-result
invariant_of-result c =
    let end : c.loop-j.j ≡ 9 = omega (arith, c.loop-j-test.false, c.loop-j.auto.j-end) in
    record {
      long = (search rules, c.loop-j.invariant.0);
      low = c.requires;
      each = λ k h. c.loop-j.invariant.1 k (omega (arith, ap start_at end, starts_end));
    }
