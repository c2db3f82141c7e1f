use Rattle.std.proofs.Common.{refl, w64, SFits, rules}
use Rattle.std.proofs.lemmas.Int.{to_z-of_z}
use Rattle.replay.proofs.Applying.{open_call, short_named}
use Rattle.replay.proofs.opens.on_open.Goals as goal

pub returns-then-j-measures : goal.returns-then-j-measures
returns-then-j-measures g c =
    let fits : SFits w64 c.in-Short.qse = search rules in
    λ p. open_call _ _ _ _ _ _ c.in-Short.is
    (short_named g.M.Measure.meaning c.args.measures.now c.in-Short.j _ _ _ c.index-measures-j.result c.if-j-measures.true c.index-measures-j.is c.in-Short.qse
    (record { result = c.short.result; done = simp to_z-of_z at c.short.ensures; answer = search rules; same = refl }))

pub returns-in-Cover : goal.returns-in-Cover
returns-in-Cover g c =
    let one : SFits w64 c.in-Cover.qse = search rules in
    let two : SFits w64 c.in-Cover.side = search rules in
    λ p. open_call _ _ _ _ _ _ c.in-Cover.is
    (record { result = c.cover.result; done = simp to_z-of_z at c.cover.ensures; answer = search rules; state = refl; purse = refl })
