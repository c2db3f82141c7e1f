use Rattle.std.proofs.Common.{◌≡◌, map, get_or, sym, ap, ◌∙◌, arith, below_more}
use Rattle.std.proofs.lemmas.List.{length-map}
use Rattle.book.proofs.Enrolling.{none_before, number_at}
use Rattle.book.proofs.judge.place_of.Goals as goal

pub loop-place-preserved : goal.loop-place-preserved
loop-place-preserved c =
    let qs = c.args.qses.now in
    let here = number_at (λ q. q.number) qs c.loop-place.place c.index-qses-place.result c.loop-place-test.true ∙ ap (λ q. q.number) (sym c.index-qses-place.is) in
    below_more (λ j. get_or (map (λ q. q.number) qs) j 0 ≡ c.args.number → ⊥) c.loop-place.place c.loop-place.invariant (λ e. c.if-q-number.false (sym here ∙ e))

pub returns : goal.returns
returns c = none_before _ _ c.loop-place.place (omega (arith, length-map c.args.qses.now (λ q. q.number), c.loop-place-test.false)) c.loop-place.invariant
