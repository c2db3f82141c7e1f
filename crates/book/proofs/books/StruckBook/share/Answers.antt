use Rattle.std.proofs.Common.{refl, inl, inr, arith}
use Rattle.account.specs.View.{counted}
use Rattle.book.specs.State.{struck_book}
use Rattle.book.proofs.Judging.{table_sound}
use Rattle.book.proofs.Naming.{number_read, named_nowhere, named_somewhere}
use Rattle.book.proofs.Owning.{shortfall_at_place}
use Rattle.book.proofs.books.StruckBook.share.Goals as goal

pub returns-in_default : goal.returns-in_default
returns-in_default c =
    let b = struck_book c.args.self.now in
    let sound = table_sound b c.args.qses.now c.args.loads.now c.args.resources.now c.args.trades.now _ c.is_broken.ensures c.if-is_broken.false in
    let q = c.args.qse in
    let read = c.in_ok-number.ensures in
    let none = named_nowhere q c.ranges.qse c.in_ok-number.number read b c.args.qses.now c.args.loads.now c.args.resources.now c.args.trades.now c.in_default.ensures in
    inr (sound, inr ((number_read q c.ranges.qse c.in_ok-number.number read).0, inl none))

pub returns-then-self-eq0 : goal.returns-then-self-eq0
returns-then-self-eq0 c =
    let b = struck_book c.args.self.now in
    let sound = table_sound b c.args.qses.now c.args.loads.now c.args.resources.now c.args.trades.now _ c.is_broken.ensures c.if-is_broken.false in
    let q = c.args.qse in
    let n = c.in_ok-number.number in
    let read = c.in_ok-number.ensures in
    let found = named_somewhere q c.ranges.qse n read b c.args.qses.now c.args.loads.now c.args.resources.now c.args.trades.now c.in-Some.place c.in-Some.ensures in
    ((sound, ((number_read q c.ranges.qse n read).0, (found, tt))), c.if-self-eq0.true)

pub returns : goal.returns
returns c =
    let b = struck_book c.args.self.now in
    let sound = table_sound b c.args.qses.now c.args.loads.now c.args.resources.now c.args.trades.now _ c.is_broken.ensures c.if-is_broken.false in
    let q = c.args.qse in
    let n = c.in_ok-number.number in
    let read = c.in_ok-number.ensures in
    let number = number_read q c.ranges.qse n read in
    let first = c.in-Some.ensures in
    let found = named_somewhere q c.ranges.qse n read b c.args.qses.now c.args.loads.now c.args.resources.now c.args.trades.now c.in-Some.place first in
    let value = shortfall_at_place b c.args.qses.now c.args.loads.now c.args.resources.now c.args.trades.now n c.in-Some.place (counted q) first number.1 c.index-qses-place.result in
    ((sound, (number.0, (found, tt))), omega arith, value, refl)
