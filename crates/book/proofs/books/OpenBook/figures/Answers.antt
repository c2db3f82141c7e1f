use Rattle.std.proofs.Common.{◌≡◌, ◌++◌, map, take, drop, refl, ap, ◌∙◌, subst, inl, inr, arith}
use Rattle.rows.specs.Rows.{plain_figures}
use Rattle.rows.specs.declared.fault.Fault.TheVariants.{NotEnrolled}
use Rattle.entry.specs.Numbers.{figures_numbers}
use Rattle.entry.specs.Places.{at}
use Rattle.entry.specs.declared.form.Form.TheVariants.{Figures}
use Rattle.account.specs.View.{counted}
use Rattle.book.specs.State.{open_book, state_of, qse_rows, with_qses}
use Rattle.book.specs.Causes.{Absent, Earliest, unenrolled}
use Rattle.book.specs.Entries.{refigured}
use Rattle.book.proofs.Judging.{table_sound, no_row, some_row, nothing_refused}
use Rattle.book.proofs.Figuring.{figured_rows}
use Rattle.book.proofs.books.OpenBook.figures.Goals as goal

pub returns-in_default : goal.returns-in_default
returns-in_default c =
    let b = open_book c.args.self.now in
    let s = state_of b c.args.qses.now c.args.loads.now c.args.resources.now c.args.trades.now in
    let sound = table_sound b c.args.qses.now c.args.loads.now c.args.resources.now c.args.trades.now _ c.is_broken.ensures c.if-is_broken.false in
    let entered = c.in_ok-number.ensures in
    let q = ap (λ l. counted (at l 0)) entered.1 in
    let none = no_row b c.args.qses.now c.args.loads.now c.args.resources.now c.args.trades.now _ c.in_default.ensures in
    (inr (sound, inr (nothing_refused Figures _ entered.0, inl (subst (λ n. unenrolled s n NotEnrolled) q none))), refl)

pub returns : goal.returns
returns c =
    let b = open_book c.args.self.now in
    let s = state_of b c.args.qses.now c.args.loads.now c.args.resources.now c.args.trades.now in
    let sound = table_sound b c.args.qses.now c.args.loads.now c.args.resources.now c.args.trades.now _ c.is_broken.ensures c.if-is_broken.false in
    let entered = c.in_ok-number.ensures in
    let q = ap (λ l. counted (at l 0)) entered.1 in
    let found = some_row b c.args.qses.now c.args.loads.now c.args.resources.now c.args.trades.now _ c.in-Some.place c.in-Some.ensures in
    let first = subst (λ n. Earliest (map (λ x. x.number) (take n c.args.qses.now)) c.in_ok-number.number c.in-Some.place) (omega arith) c.in-Some.ensures in (
      (sound, (nothing_refused Figures _ entered.0, (subst (λ n. Absent (unenrolled s n)) q found, tt))),
      (plain_figures c.in_ok-number.figures, subst (λ n. figures_numbers n (plain_figures c.in_ok-number.figures) ≡ c.args.list.now) q entered.1, ap (λ l. with_qses s l) (figured_rows c.in_ok-number.number (plain_figures c.in_ok-number.figures) c.index-qses-place.result _ c.args.qses.now b.qses c.in-Some.place first refl ∙ ap (λ n. refigured n (plain_figures c.in_ok-number.figures) (qse_rows s) ++ drop b.qses s.qses) q)),
    )
