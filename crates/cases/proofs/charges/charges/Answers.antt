use Rattle.std.proofs.Common.{length, ap, arith}
use Rattle.std.proofs.lemmas.List.{length-map}
use Rattle.rows.specs.Rows.{plain_qse, plain_load}
use Rattle.cases.proofs.Calls.{claim_after_strike, charge_granted, charge_from, two_cents}
use Rattle.cases.proofs.charges.charges.Goals as goal

pub unwrap-pot-requires : goal.unwrap-pot-requires
unwrap-pot-requires c =
    let claimed = claim_after_strike c.two_qses.result c.two_book.result _ _ _ _ _ _ c.two_qses.ensures c.two_book.ensures c.unwrap.ensures c.strike-struck.ensures c.unwrap-2.ensures c.claim-claimed.ensures in
    charge_granted _ _ _ _ claimed c.charge-charged.ensures

pub returns : goal.returns
returns c =
    let claimed = claim_after_strike c.two_qses.result c.two_book.result _ _ _ _ _ _ c.two_qses.ensures c.two_book.ensures c.unwrap.ensures c.strike-struck.ensures c.unwrap-2.ensures c.claim-claimed.ensures in
    let puts = charge_from _ _ _ _ _ claimed c.unwrap-pot.ensures c.charge-charged.ensures in
    let pot = puts.charge.pot in
    let rest = puts.charge.rest in
    let qses = two_cents plain_qse (λ q. q.cents) c.charge-charged.new.qses _ _ c.index-qses-0.result c.index-qses-1.result puts.qses (omega (arith, ap length c.two_qses.ensures.qses, length-map c.two_qses.result.qses plain_qse)) puts.charge.qses in
    let loads = two_cents plain_load (λ l. l.cents) c.charge-charged.new.loads _ _ c.index-loads-0.result c.index-loads-1.result puts.loads (omega (arith, ap length c.two_qses.ensures.loads, length-map c.two_qses.result.loads plain_load)) puts.charge.loads in
    λ i. record { pot = pot i; rest = rest i; on_qses = qses i; on_loads = loads i }
