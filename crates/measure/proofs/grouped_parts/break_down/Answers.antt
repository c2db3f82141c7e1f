use Rattle.std.proofs.Common.{◌≡◌, ℕ, ◌+◌, ◌<◌, get_or, ap, ◌∙◌, arith, w64, SFits, to_z, of_z, rules}
use Rattle.std.proofs.lemmas.Int.{to_z-of_z}
use Rattle.account.specs.Account.{account_view}
use Rattle.account.specs.View.{counted}
use Rattle.account.proofs.LineParts.{over_same}
use Rattle.measure.specs.Levels.{asked, level, IsLevels}
use Rattle.measure.specs.Grouped.{overall, reserve, unstored}
use Rattle.measure.proofs.LineTotals.{levels_same}
use Rattle.measure.proofs.OverallParts.{overall_ignored}
use Rattle.measure.proofs.grouped_parts.break_down.Goals as goal

pub overflow_add-reserve : goal.overflow_add-reserve
overflow_add-reserve c =
    let few = c.less-levels.ensures.small 46170000000 c.of-asked.ensures.small in
    record { fits = omega (arith, c.worst_upward.ensures.small 46170000000 few, few.regdown) }

pub returns : goal.returns
returns c =
    let a = c.args.a.now in
    let v = account_view a in
    let stands = c.standing-standing.ensures in
    let figures = c.counted.result in
    let each : (k : ℕ) → k < 9 → get_or figures k 0 ≡ counted (v.position k) = λ k h. c.counted.ensures.each k h ∙ ap counted (stands.positions k h) in
    let asks = levels_same _ (λ ks. asked ks v) (λ ks all. over_same ks (λ k. get_or figures k 0) (λ k. counted (v.position k)) all each) c.of-asked.ensures.value in
    let totals = c.of-totals.ensures.value in
    let levels : IsLevels c.less-levels.result (λ ks. level ks v) = c.less-levels.ensures.value _ _ asks totals.served in
    let fits : SFits w64 c.standing-standing.result.net = search rules in
    let net : to_z w64 (of_z w64 c.standing-standing.result.net) ≡ v.net = to_z-of_z w64 c.standing-standing.result.net fits ∙ stands.net in
    let whole : c.overall_part-overall.result ≡ overall (unstored v) = c.overall_part-overall.ensures ∙ overall_ignored a _ _ _ stands totals.supply totals.offline in
    let worst = c.worst_upward.ensures.value in
    let reserved : c.worst_upward.result + c.less-levels.result.reg_down ≡ reserve v = cc (worst, levels.regup, levels.rrs, levels.fast, levels.ecrs, levels.up, levels.regdown) in
    record {
      load = stands.load;
      net = net;
      overall = whole;
      levels = levels;
      reserve = reserved;
      value = omega (arith, c.max.ensures, whole, reserved);
    }
