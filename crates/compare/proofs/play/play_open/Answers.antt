use Rattle.std.proofs.Common.{arith}
use Rattle.std.proofs.lemmas.List.{take_at}
use Rattle.book.specs.State.{open_book}
use Rattle.replay.specs.Guarantee.{Holding}
use Rattle.replay.specs.Runs.{any_book, desk_of}
use Rattle.replay.proofs.Emptied.{held_moved}
use Rattle.replay.proofs.Held.{run_held}
use Rattle.compare.proofs.play.play_open.Goals as goal

pub returns : goal.returns
returns c =
    let last = c.replay.new in
    let b = open_book c.args.book in
    let q = c.as_mut_slice.result.now in
    let l = c.as_mut_slice-2.result.now in
    let r = c.as_mut_slice-3.result.now in
    let t = c.as_mut_slice-4.result.now in
    let p = c.as_mut_slice-6.result.now in
    let lent = held_moved b _ q _ l _ r _ t _ _ p c.requires c.as_mut_slice.ensures.value c.as_mut_slice-2.ensures.value c.as_mut_slice-3.ensures.value c.as_mut_slice-4.ensures.value c.as_mut_slice-6.ensures.value in
    let held : Holding (desk_of b q l r t c.as_mut_slice-5.result.now p) = record { claims = lent.claims; ours = lent.ours; none = lent.none; long = lent.long } in
    held_moved (any_book c.replay.result) last.qses _ last.loads _ last.resources _ last.trades _ last.covers last.purse _ (run_held _ _ _ _ held c.replay.ensures.run)
    (take_at last.qses _ _ (omega (arith, c.replay.auto.qses, c.as_mut_slice.ensures.len)))
    (take_at last.loads _ _ (omega (arith, c.replay.auto.loads, c.as_mut_slice-2.ensures.len)))
    (take_at last.resources _ _ (omega (arith, c.replay.auto.resources, c.as_mut_slice-3.ensures.len)))
    (take_at last.trades _ _ (omega (arith, c.replay.auto.trades, c.as_mut_slice-4.ensures.len)))
    (take_at last.purse _ _ (omega (arith, c.replay.auto.purse, c.as_mut_slice-6.ensures.len)))
