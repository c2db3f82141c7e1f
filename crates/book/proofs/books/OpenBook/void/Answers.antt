use Rattle.std.proofs.Common.{sym, refl, ap, ◌∙◌, inl, inr, arith}
use Rattle.std.proofs.lemmas.Bool.{false≢true}
use Rattle.rows.specs.Rows.{plain_trade}
use Rattle.book.specs.State.{open_book, state_of, with_trades}
use Rattle.book.specs.Causes.{Standing}
use Rattle.book.proofs.Judging.{table_sound, trades_long}
use Rattle.book.proofs.Voiding.{plain_at, void_set}
use Rattle.book.proofs.books.OpenBook.void.Goals.{then-place-self-via-then-place-self, then-place-self-via-else-place-self+then-not-trades-place}
use Rattle.book.proofs.books.OpenBook.void.Goals as goal

pub returns-then-place-self : goal.returns-then-place-self
returns-then-place-self c =
    let b = open_book c.args.self.now in
    let s = state_of b c.args.qses.now c.args.loads.now c.args.resources.now c.args.trades.now in
    let sound = table_sound b c.args.qses.now c.args.loads.now c.args.resources.now c.args.trades.now _ c.is_broken.ensures c.if-is_broken.false in
    let long = trades_long b c.args.qses.now c.args.loads.now c.args.resources.now c.args.trades.now _ c.is_broken.ensures c.if-is_broken.false in
    let none = elim c.then-place-self.branch as (λ _. Standing s c.args.place → ⊥) [
      | then-place-self-via-then-place-self w ↦ λ h. omega (arith, h.0, w.if-place-self.true)
      | then-place-self-via-else-place-self+then-not-trades-place w ↦ λ h. false≢true (sym w.if-not-trades-place.true ∙ sym (ap (λ t. t.counts) (plain_at c.args.trades.now c.args.place (plain_trade w.index-trades-place.result) w.index-trades-place.result (omega (arith, long, w.if-place-self.false)))) ∙ h.1 (plain_trade w.index-trades-place.result))
    ] in
    (inr (sound, inl (refl, none)), refl)

pub returns : goal.returns
returns c =
    let b = open_book c.args.self.now in
    let s = state_of b c.args.qses.now c.args.loads.now c.args.resources.now c.args.trades.now in
    let sound = table_sound b c.args.qses.now c.args.loads.now c.args.resources.now c.args.trades.now _ c.is_broken.ensures c.if-is_broken.false in
    let long = trades_long b c.args.qses.now c.args.loads.now c.args.resources.now c.args.trades.now _ c.is_broken.ensures c.if-is_broken.false in
    ((sound, ((λ e f. f.1 (omega arith, λ d. ap (λ t. t.counts) (plain_at c.args.trades.now c.args.place d c.index-trades-place.result (omega (arith, long))) ∙ c.if-not-trades-place.false)), tt)), ap (λ l. with_trades s l) (void_set c.args.trades.now c.args.place c.index-trades-place-2.result _ (omega (arith, long)) refl))
