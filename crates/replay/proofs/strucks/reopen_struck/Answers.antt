use Rattle.std.proofs.Common.{Ok, Err, refl, ap}
use Rattle.book.specs.State.{state_of, struck_book, with_book}
use Rattle.replay.proofs.strucks.reopen_struck.Goals as goal

pub returns-in-Ok : goal.returns-in-Ok
returns-in-Ok c =
    let e = c.in-Ok.ensures in
    λ cs p. record { result = Ok tt; done = (e.0, ap (with_book (state_of (struck_book c.args.book) c.args.qses.now c.args.loads.now c.args.resources.now c.args.trades.now)) e.1); answer = refl; covers = refl; purse = refl }

pub returns-in-Err : goal.returns-in-Err
returns-in-Err c =
    let e = c.in-Err.ensures in
    λ cs p. record { result = Err c.in-Err.fault; done = (e.0, ap (λ b. state_of (struck_book b) c.args.qses.now c.args.loads.now c.args.resources.now c.args.trades.now) e.1); answer = refl; covers = refl; purse = refl }
