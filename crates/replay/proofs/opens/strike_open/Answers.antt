use Rattle.std.proofs.Common.{map, Ok, Err, refl, ap}
use Rattle.rows.specs.Rows.{plain_qse}
use Rattle.book.specs.State.{state_of, open_book, struck_book}
use Rattle.replay.proofs.Applying.{struck_after, as_before}
use Rattle.replay.proofs.opens.strike_open.Goals as goal

pub returns-in-Ok : goal.returns-in-Ok
returns-in-Ok g c =
    let e = c.in-Ok.ensures in
    let m = g.M.Measure.meaning c.args.m.now in
    let s = state_of (open_book c.args.book) c.args.qses.now c.args.loads.now c.args.resources.now c.args.trades.now in
    λ cs p. record { result = Ok c.in-Ok.total; done = (e.0, e.1, struck_after m s (struck_book c.in-Ok.struck) (map plain_qse c.strike.new.qses) c.in-Ok.total e.1 e.2 e.3); answer = refl; covers = refl; purse = refl }

pub returns-in-Err : goal.returns-in-Err
returns-in-Err g c =
    let e = c.in-Err.ensures in
    let s = state_of (open_book c.args.book) c.args.qses.now c.args.loads.now c.args.resources.now c.args.trades.now in
    λ cs p. record { result = Err c.in-Err.fault; done = (e.0, as_before s (open_book c.in-Err.«open») (map plain_qse c.strike.new.qses) (ap open_book e.1) e.2); answer = refl; covers = refl; purse = refl }
