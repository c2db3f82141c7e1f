use Rattle.std.proofs.Common.{map, ◌+◌, refl, ap, subst, inl, inr, ◌∙◌}
use Rattle.std.proofs.lemmas.Result.{err_from_is_err_and}
use Rattle.rows.specs.declared.fault.Fault.TheVariants.{NotEnrolled}
use Rattle.rows.specs.Limits.{max_rows}
use Rattle.rows.specs.Rows.{plain_resource}
use Rattle.entry.specs.Places.{at}
use Rattle.entry.specs.declared.form.Form.TheVariants.{Resource}
use Rattle.account.specs.View.{counted}
use Rattle.book.specs.Causes.{Absent, unenrolled}
use Rattle.book.specs.State.{open_book, state_of, with_book, with_counts, with_resources}
use Rattle.book.proofs.Judging.{table_sound, not_enrolled, is_among, nothing_refused, append_refused, append_granted}
use Rattle.book.proofs.books.OpenBook.resource.Goals as goal

pub returns-then-not-is_enrolled : goal.returns-then-not-is_enrolled
returns-then-not-is_enrolled c =
    let b = open_book c.args.self.now in
    let s = state_of b c.args.qses.now c.args.loads.now c.args.resources.now c.args.trades.now in
    let entered = c.in_ok-row.ensures in
    let q = ap (λ l. counted (at l 0)) entered.1 in
    let sound = table_sound b c.args.qses.now c.args.loads.now c.args.resources.now c.args.trades.now _ c.is_broken.ensures c.if-is_broken.false in
    let out = not_enrolled b c.args.qses.now c.args.loads.now c.args.resources.now c.args.trades.now _ _ c.is_enrolled.ensures c.if-not-is_enrolled.true in
    (inr (sound, inr (nothing_refused Resource _ entered.0, inl (subst (λ n. unenrolled s n NotEnrolled) q out))), refl)

pub returns-in_err-self : goal.returns-in_err-self
returns-in_err-self c =
    let p = err_from_is_err_and c.from_residual-in_err-self.result c.from_residual-in_err-self.ensures.1 in
    let b = open_book c.args.self.now in
    let s = state_of b c.args.qses.now c.args.loads.now c.args.resources.now c.args.trades.now in
    let entered = c.in_ok-row.ensures in
    let q = ap (λ l. counted (at l 0)) entered.1 in
    let sound = table_sound b c.args.qses.now c.args.loads.now c.args.resources.now c.args.trades.now _ c.is_broken.ensures c.if-is_broken.false in
    let known = is_among b c.args.qses.now c.args.loads.now c.args.resources.now c.args.trades.now _ _ c.is_enrolled.ensures c.if-not-is_enrolled.false in
    let no = append_refused plain_resource b.resources max_rows c.in_ok-row.row c.args.resources.now c.append.new.table c.in_err-self.field-0.0 c.in_err-self.ensures in
    rw (p.1, p.2) (inr (sound, inr (nothing_refused Resource _ entered.0, inr (subst (λ n. Absent (unenrolled s n)) q known, inl no.0))), ap (λ l. with_resources s l) no.1)

pub returns : goal.returns
returns c =
    let b = open_book c.args.self.now in
    let s = state_of b c.args.qses.now c.args.loads.now c.args.resources.now c.args.trades.now in
    let entered = c.in_ok-row.ensures in
    let q = ap (λ l. counted (at l 0)) entered.1 in
    let sound = table_sound b c.args.qses.now c.args.loads.now c.args.resources.now c.args.trades.now _ c.is_broken.ensures c.if-is_broken.false in
    let known = is_among b c.args.qses.now c.args.loads.now c.args.resources.now c.args.trades.now _ _ c.is_enrolled.ensures c.if-not-is_enrolled.false in
    let yes = append_granted plain_resource b.resources max_rows c.in_ok-row.row c.args.resources.now c.append.new.table c.in_ok-self.field-0 c.in_ok-self.ensures in
    let row = c.in_ok-row.row in (
      (sound, (nothing_refused Resource _ entered.0, (subst (λ n. Absent (unenrolled s n)) q known, (yes.0, tt)))),
      (plain_resource row, entered.1, ap (λ m. with_resources (with_book s (with_counts b b.qses b.loads m b.trades)) (map plain_resource c.append.new.table)) yes.1 ∙ ap (λ l. with_resources (with_book s (with_counts b b.qses b.loads (b.resources + 1) b.trades)) l) yes.2),
    )
