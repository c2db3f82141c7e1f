use Rattle.std.proofs.Common.{refl, w64, SFits, rules}
use Rattle.std.proofs.lemmas.Int.{to_z-of_z}
use Rattle.replay.proofs.Applying.{struck_call}
use Rattle.replay.proofs.strucks.on_struck.Goals as goal

pub returns-in-Share : goal.returns-in-Share
returns-in-Share c =
    let fits : SFits w64 c.in-Share.qse = search rules in
    λ cs. struck_call _ _ _ _ _ c.in-Share.is (record { result = c.share.result; done = simp to_z-of_z at c.share.ensures; answer = search rules; same = refl })

pub returns-in-Claim : goal.returns-in-Claim
returns-in-Claim c =
    let one : SFits w64 c.in-Claim.cents = search rules in
    let two : SFits w64 c.in-Claim.rate = search rules in
    λ cs. struck_call _ _ _ _ _ c.in-Claim.is (simp to_z-of_z at (c.claim_next-answer.ensures cs))
