use Rattle.replay.proofs.Held.{held_opened}
use Rattle.compare.proofs.play.play_list.Goals as goal

pub play_all-requires : goal.play_all-requires
play_all-requires c = held_opened _ c.args.book.ledger.number c.requires.opened c.requires.empty
