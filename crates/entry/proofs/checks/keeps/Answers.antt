use Rattle.std.proofs.Common.{refl, ap, ◌∙◌, w64, SFits, rules}
use Rattle.std.proofs.lemmas.Int.{to_z-of_z}
use Rattle.entry.specs.Places.{at}
use Rattle.entry.proofs.Kept.{keeps_when_within}
use Rattle.entry.proofs.checks.keeps.Goals as goal

pub returns-then-is_within : goal.returns-then-is_within
returns-then-is_within c =
    let xs = c.args.list.now in
    let fx : SFits w64 c.figure-x.result = search rules in
    let fp : SFits w64 c.figure-previous.result = search rules in
    let fk : SFits w64 c.figure.result = search rules in
    let fl : SFits w64 c.place-low.result.0 = search rules in
    let fh : SFits w64 c.place-low.result.1 = search rules in
    keeps_when_within c.args.form xs c.args.k c.place-low.ensures c.figure-x.ensures
    (c.figure-previous.ensures ∙ ap (at xs) c.saturating_sub.ensures) c.figure.ensures
    ((simp to_z-of_z at c.if-is_within.ensures).0 refl)
    (simp to_z-of_z at c.keeps.ensures)
