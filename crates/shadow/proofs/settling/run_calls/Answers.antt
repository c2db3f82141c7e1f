use Rattle.std.proofs.Common.{ap, ◌∙◌, arith}
use Rattle.std.proofs.lemmas.List.{take_at}
use Rattle.replay.specs.Guarantee.{claims_in}
use Rattle.replay.specs.Runs.{any_book}
use Rattle.replay.proofs.Emptied.{held_moved}
use Rattle.shadow.proofs.settling.run_calls.Goals as goal

pub returns : goal.returns
returns c =
    let last = c.replay.new in
    let after = c.replay.ensures.guarantee _ _ _ (c.args.book.ledger.number, c.requires.opened) c.replay.ensures.run in
    let empty = ap claims_in c.as_mut_slice-6.ensures.value ∙ c.requires.empty in
    held_moved (any_book c.replay.result) last.qses _ last.loads _ last.resources _ last.trades _ last.covers last.purse _ (after.claims_held empty)
    (take_at last.qses _ _ (omega (arith, c.replay.auto.qses, c.as_mut_slice.ensures.len)))
    (take_at last.loads _ _ (omega (arith, c.replay.auto.loads, c.as_mut_slice-2.ensures.len)))
    (take_at last.resources _ _ (omega (arith, c.replay.auto.resources, c.as_mut_slice-3.ensures.len)))
    (take_at last.trades _ _ (omega (arith, c.replay.auto.trades, c.as_mut_slice-4.ensures.len)))
    (take_at last.purse _ _ (omega (arith, c.replay.auto.purse, c.as_mut_slice-6.ensures.len)))
