use Rattle.cases.proofs.Parted.{paid_out}
use Rattle.cases.proofs.parts.pay.Goals as goal

pub unwrap-requires : goal.unwrap-requires
unwrap-requires g c = (paid_out g.T.Weighed.weighs g.T.Weighed.holds g.T.Weighed.paid g.met.T.Weighed.adds c.args.pot c.args.rows.now c.divide.new.rows _ c.ranges.pot.fits c.requires.none c.requires.some c.divide.ensures).0

pub returns : goal.returns
returns g c = (paid_out g.T.Weighed.weighs g.T.Weighed.holds g.T.Weighed.paid g.met.T.Weighed.adds c.args.pot c.args.rows.now c.divide.new.rows _ c.ranges.pot.fits c.requires.none c.requires.some c.divide.ensures).1
