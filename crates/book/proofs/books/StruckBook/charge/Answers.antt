use Rattle.std.proofs.Common.{◌-◌, ◌≤◌, sym, refl, ◌∙◌, inl, inr, arith}
use Rattle.std.proofs.lemmas.Bool.{false≢true}
use Rattle.rows.specs.Rows.{plain_qse, plain_load}
use Rattle.book.specs.State.{state_of, struck_book, with_claims}
use Rattle.book.proofs.Judging.{table_sound}
use Rattle.book.proofs.Charging.{qses_long, loads_long, is_unfit, not_unfit, qses_short, qses_room, loads_room, no_load_asked, not_no_load, no_rest, no_pot, plain_qses_divided, plain_loads_divided, plain_later}
use Rattle.book.proofs.books.StruckBook.charge.Goals as goal

pub returns-then-not-is_fit : goal.returns-then-not-is_fit
returns-then-not-is_fit c =
    let b = struck_book c.args.self.now in
    let sound = table_sound b c.args.qses.now c.args.loads.now c.args.resources.now c.args.trades.now _ c.is_broken.ensures c.if-is_broken.false in
    (inr (sound, inl (is_unfit b c.args.qses.now c.args.loads.now c.args.resources.now c.args.trades.now _ c.is_fit.ensures c.if-not-is_fit.true)), refl {a = c.args.claim}, refl {a = state_of b c.args.qses.now c.args.loads.now c.args.resources.now c.args.trades.now})

pub returns-then-is_foreign : goal.returns-then-is_foreign
returns-then-is_foreign c =
    let b = struck_book c.args.self.now in
    let sound = table_sound b c.args.qses.now c.args.loads.now c.args.resources.now c.args.trades.now _ c.is_broken.ensures c.if-is_broken.false in
    let fit = not_unfit b c.args.qses.now c.args.loads.now c.args.resources.now c.args.trades.now _ c.is_fit.ensures c.if-not-is_fit.false in
    (inr (sound, inr (fit, inl (refl, c.is_foreign.ensures.0 c.if-is_foreign.true))), refl {a = c.args.claim}, refl {a = state_of b c.args.qses.now c.args.loads.now c.args.resources.now c.args.trades.now})

pub returns-then-lacks_load : goal.returns-then-lacks_load
returns-then-lacks_load c =
    let b = struck_book c.args.self.now in
    let sound = table_sound b c.args.qses.now c.args.loads.now c.args.resources.now c.args.trades.now _ c.is_broken.ensures c.if-is_broken.false in
    let fit = not_unfit b c.args.qses.now c.args.loads.now c.args.resources.now c.args.trades.now _ c.is_fit.ensures c.if-not-is_fit.false in
    let none = no_load_asked b c.args.qses.now c.args.loads.now c.args.resources.now c.args.trades.now c.args.claim _ c.pot_of-pot.ensures.value _ c.lacks_load.ensures c.if-lacks_load.true in
    (inr (sound, inr (fit, inr ((λ e f. false≢true (sym c.if-is_foreign.false ∙ c.is_foreign.ensures.1 f.1)), inl none))), refl {a = c.args.claim}, refl)

pub pay-requires : goal.pay-requires
pay-requires c =
    let b = struck_book c.args.self.now in
    let few : c.pot_of-pot.result ≤ 1000000000 = omega (arith, c.pot_of-pot.ensures.most, c.args.claim.limits.1) in
    let short = qses_short b c.args.qses.now c.args.loads.now c.args.resources.now c.args.trades.now _ c.is_fit.ensures c.if-not-is_fit.false in
    record {
      within = qses_long b c.args.qses.now c.args.loads.now c.args.resources.now c.args.trades.now _ c.is_broken.ensures c.if-is_broken.false;
      room = qses_room b c.args.qses.now c.args.loads.now c.args.resources.now c.args.trades.now _ c.is_fit.ensures c.if-not-is_fit.false _ few;
      some = λ none. c.pot_of-pot.ensures.value ∙ no_pot c.args.claim _ (sym short ∙ none);
    }

pub pay-requires-2 : goal.pay-requires-2
pay-requires-2 c =
    let b = struck_book c.args.self.now in
    let few : c.args.claim.cents - c.pot_of-pot.result ≤ 1000000000 = omega (arith, c.args.claim.limits.1) in
    record {
      within = loads_long b c.args.qses.now c.args.loads.now c.args.resources.now c.args.trades.now _ c.is_broken.ensures c.if-is_broken.false;
      room = loads_room b c.args.qses.now c.args.loads.now c.args.resources.now c.args.trades.now _ c.is_fit.ensures c.if-not-is_fit.false _ few;
      some = no_rest b c.args.qses.now c.args.loads.now c.args.resources.now c.args.trades.now c.args.claim _ c.pot_of-pot.ensures.value _ c.lacks_load.ensures c.if-lacks_load.false;
    }

pub returns : goal.returns
returns c =
    let b = struck_book c.args.self.now in
    let sound = table_sound b c.args.qses.now c.args.loads.now c.args.resources.now c.args.trades.now _ c.is_broken.ensures c.if-is_broken.false in
    let fit = not_unfit b c.args.qses.now c.args.loads.now c.args.resources.now c.args.trades.now _ c.is_fit.ensures c.if-not-is_fit.false in
    let taken = not_no_load b c.args.qses.now c.args.loads.now c.args.resources.now c.args.trades.now c.args.claim _ c.pot_of-pot.ensures.value _ c.lacks_load.ensures c.if-lacks_load.false in (
      (sound, (fit, ((λ e f. false≢true (sym c.if-is_foreign.false ∙ c.is_foreign.ensures.1 f.1)), (taken, tt)))),
      record {
        pot = c.pot_of-pot.ensures.value;
        rest = refl;
        book = refl {a = with_claims b b.made (b.outstanding - 1)};
        qses = plain_qses_divided c.pot_of-pot.result b.qses c.args.qses.now c.pay.new.rows c.pay.ensures.divided;
        loads = plain_loads_divided (c.args.claim.cents - c.pot_of-pot.result) b.loads c.args.loads.now c.pay-2.new.rows c.pay-2.ensures.divided;
        later_qses = plain_later plain_qse b.qses c.args.qses.now c.pay.new.rows c.pay.ensures.later;
        later_loads = plain_later plain_load b.loads c.args.loads.now c.pay-2.new.rows c.pay-2.ensures.later;
        resources = refl;
        trades = refl;
      },
    )
