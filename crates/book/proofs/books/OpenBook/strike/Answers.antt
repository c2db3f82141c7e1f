use Rattle.std.proofs.Common.{refl}
use Rattle.book.specs.State.{open_book}
use Rattle.book.proofs.Judging.{table_sound}
use Rattle.book.proofs.Striking.{strike_granted, strike_refused}
use Rattle.book.proofs.books.OpenBook.strike.Goals as goal

pub returns-in-Err : goal.returns-in-Err
returns-in-Err g c =
    let b = open_book c.args.self in
    let sound = table_sound b c.args.qses.now c.args.loads.now c.args.resources.now c.args.trades.now _ c.is_broken.ensures c.if-is_broken.false in
    let d = strike_refused (g.M.Measure.meaning c.args.m.now) b c.args.qses.now c.args.loads.now c.args.resources.now c.args.trades.now sound _ c.tables_of-tables.ensures c.write_shortfalls.new.rows c.in-Err.fault c.in-Err.ensures in
    (d.0, refl, d.1)

pub returns-in-Ok : goal.returns-in-Ok
returns-in-Ok g c =
    let b = open_book c.args.self in
    let sound = table_sound b c.args.qses.now c.args.loads.now c.args.resources.now c.args.trades.now _ c.is_broken.ensures c.if-is_broken.false in
    let d = strike_granted (g.M.Measure.meaning c.args.m.now) b c.args.qses.now c.args.loads.now c.args.resources.now c.args.trades.now sound _ c.tables_of-tables.ensures c.write_shortfalls.new.rows c.in-Ok.t c.in-Ok.ensures in
    (d.0, d.1, refl, d.2, d.3)
