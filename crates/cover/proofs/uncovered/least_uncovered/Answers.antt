use Rattle.least.proofs.Nine.{duality as duality_of_nine}
use Rattle.least.proofs.SubTypeLawful.{reserve_least}
use Rattle.cover.proofs.uncovered.least_uncovered.Goals as goal

pub returns-clause-always : goal.returns-clause-always
returns-clause-always c = reserve_least

pub returns-clause-duality : goal.returns-clause-duality
returns-clause-duality c = duality_of_nine
