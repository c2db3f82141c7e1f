use Rattle.std.proofs.Common.{refl, subst, inl, inr}
use Rattle.account.specs.View.{counted}
use Rattle.cover.specs.Covered.{CoverOf}
use Rattle.book.specs.State.{open_book, state_of}
use Rattle.book.specs.Measuring.{side_at}
use Rattle.book.proofs.Judging.{table_sound}
use Rattle.book.proofs.Naming.{number_read, named_nowhere, named_somewhere, side_read}
use Rattle.book.proofs.Owning.{view_at_place}
use Rattle.book.proofs.Covering.{cover_answered}
use Rattle.book.proofs.books.OpenBook.cover.Goals as goal

pub returns-in_default : goal.returns-in_default
returns-in_default c =
    let b = open_book c.args.self.now in
    let sound = table_sound b c.args.qses.now c.args.loads.now c.args.resources.now c.args.trades.now _ c.is_broken.ensures c.if-is_broken.false in
    let q = c.args.qse in
    let read = c.in_ok-number.ensures in
    let on = side_read c.args.side c.ranges.side c.in_ok-on.on c.in_ok-on.ensures in
    let none = named_nowhere q c.ranges.qse c.in_ok-number.number read b c.args.qses.now c.args.loads.now c.args.resources.now c.args.trades.now c.in_default.ensures in
    (inr (sound, inr ((number_read q c.ranges.qse c.in_ok-number.number read).0, inr (on.0, inl none))), refl)

pub returns : goal.returns
returns c =
    let b = open_book c.args.self.now in
    let sound = table_sound b c.args.qses.now c.args.loads.now c.args.resources.now c.args.trades.now _ c.is_broken.ensures c.if-is_broken.false in
    let q = c.args.qse in
    let n = c.in_ok-number.number in
    let read = c.in_ok-number.ensures in
    let number = number_read q c.ranges.qse n read in
    let on = side_read c.args.side c.ranges.side c.in_ok-on.on c.in_ok-on.ensures in
    let first = c.in-Some.ensures in
    let found = named_somewhere q c.ranges.qse n read b c.args.qses.now c.args.loads.now c.args.resources.now c.args.trades.now c.in-Some.place first in
    let view = view_at_place b c.args.qses.now c.args.loads.now c.args.resources.now c.args.trades.now n c.in-Some.place (counted q) first number.1 c.index-qses-place.result c.index-qses-place.is _ c.tables_of-tables.ensures c.in_ok-on.on (side_at c.args.side) _ on.1 c.new-account.ensures.view in
    cover_answered q c.args.side (state_of b c.args.qses.now c.args.loads.now c.args.resources.now c.args.trades.now) c.args.covers.now c.cover.new.out sound number.0 on.0 found c.cover.result
    (subst (λ v. CoverOf v c.args.covers.now c.cover.new.out c.cover.result) view c.cover.ensures)
