use Rattle.std.proofs.Common.{◌≡◌, ℕ, ◌<◌, get_or, ap, ◌∙◌, arith}
use Rattle.account.specs.Account.{account_view}
use Rattle.account.specs.View.{counted}
use Rattle.measure.specs.Grouped.{overall}
use Rattle.measure.proofs.OverallParts.{overall_counted}
use Rattle.least.specs.SubType.{demand, reserve}
use Rattle.cover.proofs.ReachSums.{reserve_is}
use Rattle.cover.proofs.sub_type.SubTypeMeasure.value.Goals as goal

pub returns : goal.returns
returns c =
    let a = c.args.a.now in
    let v = account_view a in
    let stands = c.standing-standing.ensures in
    let given = c.of-given.ensures.value in
    let agree : (k : ℕ) → k < 9 → get_or c.asked_of.result.figures k 0 ≡ demand v k = λ k h. c.asked_of.ensures k h ∙ ap counted (stands.positions k h) in
    let whole : c.overall_part-overall.result ≡ overall v = c.overall_part-overall.ensures ∙ overall_counted a _ _ _ stands given.supply given.offline in
    let rest : c.worst_set-worst.result.lack ≡ reserve v = reserve_is v _ _ _ given.reached agree c.worst_set-worst.ensures.worst.most in
    omega (arith, c.max.ensures, whole, rest)
