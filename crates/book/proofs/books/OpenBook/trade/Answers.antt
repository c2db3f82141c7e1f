use Rattle.std.proofs.Common.{map, ◌+◌, sym, refl, ap, ◌∙◌, subst, inl, inr}
use Rattle.std.proofs.lemmas.Result.{err_from_is_err_and}
use Rattle.rows.specs.Limits.{max_rows}
use Rattle.rows.specs.Rows.{plain_trade}
use Rattle.rows.specs.declared.fault.Fault.TheVariants.{NotEnrolled}
use Rattle.entry.specs.Places.{at}
use Rattle.entry.specs.declared.form.Form.TheVariants.{Trade}
use Rattle.account.specs.View.{counted}
use Rattle.book.specs.Causes.{Absent, unpartied}
use Rattle.book.specs.State.{open_book, state_of, with_book, with_counts, with_trades}
use Rattle.book.proofs.Judging.{table_sound, not_both, both_among, nothing_refused, two_parties, append_refused, append_granted}
use Rattle.book.proofs.books.OpenBook.trade.Goals as goal

pub returns-then-not-are_enrolled : goal.returns-then-not-are_enrolled
returns-then-not-are_enrolled c =
    let b = open_book c.args.self.now in
    let s = state_of b c.args.qses.now c.args.loads.now c.args.resources.now c.args.trades.now in
    let entered = c.in_ok-row.ensures.entered in
    let seller = ap (λ l. counted (at l 3)) entered.1 in
    let buyer = ap (λ l. counted (at l 4)) entered.1 in
    let sound = table_sound b c.args.qses.now c.args.loads.now c.args.resources.now c.args.trades.now _ c.is_broken.ensures c.if-is_broken.false in
    let out = not_both b c.args.qses.now c.args.loads.now c.args.resources.now c.args.trades.now _ _ _ c.are_enrolled.ensures c.if-not-are_enrolled.true in
    (inr (sound, inr (nothing_refused Trade _ entered.0, inl (subst (λ n. unpartied s n (counted (at c.args.list.now 4)) NotEnrolled) seller (subst (λ n. unpartied s c.in_ok-row.row.seller n NotEnrolled) buyer out)))), refl)

pub returns-then-row : goal.returns-then-row
returns-then-row c =
    let b = open_book c.args.self.now in
    let s = state_of b c.args.qses.now c.args.loads.now c.args.resources.now c.args.trades.now in
    let entered = c.in_ok-row.ensures.entered in
    let seller = ap (λ l. counted (at l 3)) entered.1 in
    let buyer = ap (λ l. counted (at l 4)) entered.1 in
    let sound = table_sound b c.args.qses.now c.args.loads.now c.args.resources.now c.args.trades.now _ c.is_broken.ensures c.if-is_broken.false in
    let known = both_among b c.args.qses.now c.args.loads.now c.args.resources.now c.args.trades.now _ _ _ c.are_enrolled.ensures c.if-not-are_enrolled.false in
    let parties = subst (λ n. Absent (unpartied s n (counted (at c.args.list.now 4)))) seller (subst (λ n. Absent (unpartied s c.in_ok-row.row.seller n)) buyer known) in
    (inr (sound, inr (nothing_refused Trade _ entered.0, inr (parties, inl (refl, sym buyer ∙ c.if-row.true ∙ seller)))), refl)

pub returns-in_err-self : goal.returns-in_err-self
returns-in_err-self c =
    let p = err_from_is_err_and c.from_residual-in_err-self.result c.from_residual-in_err-self.ensures.1 in
    let b = open_book c.args.self.now in
    let s = state_of b c.args.qses.now c.args.loads.now c.args.resources.now c.args.trades.now in
    let entered = c.in_ok-row.ensures.entered in
    let seller = ap (λ l. counted (at l 3)) entered.1 in
    let buyer = ap (λ l. counted (at l 4)) entered.1 in
    let sound = table_sound b c.args.qses.now c.args.loads.now c.args.resources.now c.args.trades.now _ c.is_broken.ensures c.if-is_broken.false in
    let known = both_among b c.args.qses.now c.args.loads.now c.args.resources.now c.args.trades.now _ _ _ c.are_enrolled.ensures c.if-not-are_enrolled.false in
    let parties = subst (λ n. Absent (unpartied s n (counted (at c.args.list.now 4)))) seller (subst (λ n. Absent (unpartied s c.in_ok-row.row.seller n)) buyer known) in
    let two = two_parties (counted (at c.args.list.now 3)) (counted (at c.args.list.now 4)) (λ e. c.if-row.false (buyer ∙ e ∙ sym seller)) in
    let no = append_refused plain_trade b.trades max_rows c.in_ok-row.row c.args.trades.now c.append.new.table c.in_err-self.field-0.0 c.in_err-self.ensures in
    rw (p.1, p.2) (inr (sound, inr (nothing_refused Trade _ entered.0, inr (parties, inr (two, inl no.0)))), ap (λ l. with_trades s l) no.1)

pub returns : goal.returns
returns c =
    let b = open_book c.args.self.now in
    let s = state_of b c.args.qses.now c.args.loads.now c.args.resources.now c.args.trades.now in
    let entered = c.in_ok-row.ensures.entered in
    let seller = ap (λ l. counted (at l 3)) entered.1 in
    let buyer = ap (λ l. counted (at l 4)) entered.1 in
    let sound = table_sound b c.args.qses.now c.args.loads.now c.args.resources.now c.args.trades.now _ c.is_broken.ensures c.if-is_broken.false in
    let known = both_among b c.args.qses.now c.args.loads.now c.args.resources.now c.args.trades.now _ _ _ c.are_enrolled.ensures c.if-not-are_enrolled.false in
    let parties = subst (λ n. Absent (unpartied s n (counted (at c.args.list.now 4)))) seller (subst (λ n. Absent (unpartied s c.in_ok-row.row.seller n)) buyer known) in
    let two = two_parties (counted (at c.args.list.now 3)) (counted (at c.args.list.now 4)) (λ e. c.if-row.false (buyer ∙ e ∙ sym seller)) in
    let yes = append_granted plain_trade b.trades max_rows c.in_ok-row.row c.args.trades.now c.append.new.table c.in_ok-self.field-0 c.in_ok-self.ensures in
    let row = c.in_ok-row.row in (
      (sound, (nothing_refused Trade _ entered.0, (parties, (two, (yes.0, tt))))),
      (refl, (plain_trade row, entered.1, c.in_ok-row.ensures.counting, ap (λ m. with_trades (with_book s (with_counts b b.qses b.loads b.resources m)) (map plain_trade c.append.new.table)) yes.1 ∙ ap (λ l. with_trades (with_book s (with_counts b b.qses b.loads b.resources (b.trades + 1))) l) yes.2)),
    )
