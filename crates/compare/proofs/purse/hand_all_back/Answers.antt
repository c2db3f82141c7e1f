use Rattle.std.proofs.Common.{[], ◌∷◌, ◌++◌, vec_items, refl, ap, ◌∙◌, subst}
use Rattle.book.specs.State.{struck_book}
use Rattle.replay.proofs.Emptied.{back_held}
use Rattle.compare.specs.Kept.{Kept, state_at}
use Rattle.compare.proofs.purse.hand_all_back.Goals as goal

pub loop-place-preserved-in-Some-place : goal.loop-place-preserved-in-Some-place
loop-place-preserved-in-Some-place c =
    let p = vec_items c.pop.new.self in
    let b = struck_book c.loop-place.book in
    let s = state_at b c.args.desk.now in
    let items = c.in-Some.ensures.items ∙ ap (λ o. p ++ o ∷ []) c.in-Some-place.is in
    let held = subst (Kept b c.args.desk.now) items c.loop-place.invariant in
    back_held s p c.in-Some-place.claim held (struck_book c.hand_back.new.book) refl c.hand_back.ensures
