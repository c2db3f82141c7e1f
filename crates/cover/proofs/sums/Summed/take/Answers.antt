use Rattle.std.proofs.Common.{◌-◌, ◌<◌, ◌≤◌, length, get_or, ◌∙◌, arith, length-set}
use Rattle.account.proofs.Arrays.{set_every}
use Rattle.cover.proofs.SetSums.{sum_less}
use Rattle.cover.proofs.sums.Summed.take.Goals as goal

pub overflow_sub-sum : goal.overflow_sub-sum
overflow_sub-sum c =
    let self = c.args.self.now in
    let k = c.loop-k.k in
    let j = c.args.j in
    let d = c.args.d in
    omega (arith, c.lost.ensures, sum_less k self.figures j d self.long.0 c.requires.place c.requires.there, self.each k c.loop-k-test.true, c.loop-k.invariant.1.ahead k (omega arith))

pub invariant_of-self : goal.invariant_of-self
invariant_of-self c =
    let self = c.args.self.now in
    let xs = self.figures in
    let j = c.args.j in
    let d = c.args.d in
    let lt : j < length xs = omega (arith, self.long.0, c.requires.place) in
    record {
      long = (length-set xs j (get_or xs j 0 - d) ∙ self.long.0, c.loop-k.invariant.0);
      low = set_every xs j (get_or xs j 0 - d) 0 lt (λ x. x ≤ 5130000000) self.low (omega (arith, self.low j));
      each = λ k h. omega (arith, sum_less k xs j d self.long.0 c.requires.place c.requires.there, self.each k h, c.loop-k.invariant.1.past k (omega (arith, c.loop-k-test.false)));
    }
