use Rattle.book.proofs.Owning.{tables_from_start}
use Rattle.book.proofs.reads.tables_of.Goals as goal

pub returns : goal.returns
returns c = tables_from_start c.args.counts c.args.loads.now c.args.resources.now c.args.trades.now
