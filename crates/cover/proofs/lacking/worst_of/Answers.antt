use Rattle.std.proofs.Common.{◌≡◌, ℕ, ◌<◌, get_or, ap, ◌∙◌, arith}
use Rattle.account.specs.Account.{account_view}
use Rattle.account.specs.View.{counted}
use Rattle.least.specs.SubType.{demand}
use Rattle.cover.proofs.ReachSums.{reserve_is, least_is}
use Rattle.cover.proofs.SetSums.{sum_agrees}
use Rattle.cover.proofs.lacking.worst_of.Goals as goal

pub returns : goal.returns
returns c =
    let v = account_view c.args.a.now in
    let agree : (k : ℕ) → k < 9 → get_or c.asked_of.result.figures k 0 ≡ demand v k = λ k h. c.asked_of.ensures k h ∙ ap counted (c.standing.ensures.positions k h) in
    let table = c.of.ensures.value.reached in
    let worst = c.worst_set.ensures.worst in
    let set = c.worst_set.result.number in
    record {
      number = worst.number;
      lack = omega (arith, worst.lack, sum_agrees set c.asked_of.result.figures (demand v) agree, table set worst.number);
      first = λ k lt. omega (arith, worst.first k lt, sum_agrees k c.asked_of.result.figures (demand v) agree, table k (omega (arith, lt, worst.number)));
      value = reserve_is v _ _ _ table agree worst.most;
      least = least_is v _ _ _ table agree worst.most;
      small = c.worst_set.ensures.small;
    }
