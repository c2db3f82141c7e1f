use Rattle.std.proofs.Common.{map, ◌+◌, set, refl, ap, ◌∙◌, subst, inl, inr}
use Rattle.std.proofs.lemmas.Result.{err_from_is_err_and}
use Rattle.rows.specs.Rows.{plain_qse}
use Rattle.rows.specs.declared.fault.Fault.TheVariants.{AlreadyEnrolled}
use Rattle.book.specs.Causes.{Absent, already}
use Rattle.book.specs.Entries.{new_qse}
use Rattle.book.specs.State.{open_book, state_of, with_book, with_counts, with_qses}
use Rattle.book.proofs.Judging.{table_sound, is_already, not_yet, append_refused, append_granted}
use Rattle.book.proofs.Naming.{number_read}
use Rattle.book.proofs.books.OpenBook.enrol.Goals as goal

pub returns-then-is_enrolled : goal.returns-then-is_enrolled
returns-then-is_enrolled c =
    let b = open_book c.args.self.now in
    let s = state_of b c.args.qses.now c.args.loads.now c.args.resources.now c.args.trades.now in
    let sound = table_sound b c.args.qses.now c.args.loads.now c.args.resources.now c.args.trades.now _ c.is_broken.ensures c.if-is_broken.false in
    let read = number_read c.args.number c.ranges.number c.in_ok-number.number c.in_ok-number.ensures in
    let lawful = read.0 in
    let same = read.1 in
    (inr (sound, inr (lawful, inl (subst (λ n. already s n AlreadyEnrolled) same (is_already b c.args.qses.now c.args.loads.now c.args.resources.now c.args.trades.now _ _ c.is_enrolled.ensures c.if-is_enrolled.true)))), refl)

pub returns-in_err-self : goal.returns-in_err-self
returns-in_err-self c =
    let p = err_from_is_err_and c.from_residual-in_err-self.result c.from_residual-in_err-self.ensures.1 in
    let b = open_book c.args.self.now in
    let s = state_of b c.args.qses.now c.args.loads.now c.args.resources.now c.args.trades.now in
    let sound = table_sound b c.args.qses.now c.args.loads.now c.args.resources.now c.args.trades.now _ c.is_broken.ensures c.if-is_broken.false in
    let read = number_read c.args.number c.ranges.number c.in_ok-number.number c.in_ok-number.ensures in
    let lawful = read.0 in
    let same = read.1 in
    let new = subst (λ n. Absent (already s n)) same (not_yet b c.args.qses.now c.args.loads.now c.args.resources.now c.args.trades.now _ _ c.is_enrolled.ensures c.if-is_enrolled.false) in
    let no = append_refused plain_qse b.qses 64 c.new_row.result c.args.qses.now c.append.new.table c.in_err-self.field-0.0 c.in_err-self.ensures in
    rw (p.1, p.2) (inr (sound, inr (lawful, inr (new, inl no.0))), ap (λ l. with_qses s l) no.1)

pub returns : goal.returns
returns c =
    let b = open_book c.args.self.now in
    let s = state_of b c.args.qses.now c.args.loads.now c.args.resources.now c.args.trades.now in
    let sound = table_sound b c.args.qses.now c.args.loads.now c.args.resources.now c.args.trades.now _ c.is_broken.ensures c.if-is_broken.false in
    let read = number_read c.args.number c.ranges.number c.in_ok-number.number c.in_ok-number.ensures in
    let lawful = read.0 in
    let same = read.1 in
    let new = subst (λ n. Absent (already s n)) same (not_yet b c.args.qses.now c.args.loads.now c.args.resources.now c.args.trades.now _ _ c.is_enrolled.ensures c.if-is_enrolled.false) in
    let yes = append_granted plain_qse b.qses 64 c.new_row.result c.args.qses.now c.append.new.table c.in_ok-self.field-0 c.in_ok-self.ensures in
    let row = c.new_row.ensures ∙ ap new_qse same in
    ((sound, (lawful, (new, (yes.0, tt)))), ap (λ m. with_qses (with_book s (with_counts b m b.loads b.resources b.trades)) (map plain_qse c.append.new.table)) yes.1 ∙ ap (λ l. with_qses (with_book s (with_counts b (b.qses + 1) b.loads b.resources b.trades)) l) yes.2 ∙ ap (λ x. with_qses (with_book s (with_counts b (b.qses + 1) b.loads b.resources b.trades)) (set s.qses b.qses x)) row)
