-- Every edition keeps the laws and the bound of a measure.
use Rattle.std.specs.Prelude.{ℕ, max}
use Rattle.std.proofs.Common.{arith}
use Rattle.account.specs.View.{View}
use Rattle.measure.specs.Laws.{Bound}
use Rattle.measure.specs.Lawful.{Lawful, lawful_max}
use Rattle.measure.specs.GroupedLawful.{lawful_grouped, grouped_bound}
use Rattle.least.proofs.SubTypeLawful.{lawful_subtype, subtype_bound}
use Rattle.edition.specs.Edition.{edition_of}
use Rattle.edition.specs.declared.edition.Edition.{Edition}
use Rattle.edition.specs.declared.edition.Edition.TheVariants.{Grouped, SubType, Greater}

pub lawful_edition : (e : Edition) → Lawful (edition_of e)
lawful_edition Grouped = lawful_grouped
lawful_edition SubType = lawful_subtype
lawful_edition Greater = lawful_max lawful_grouped lawful_subtype

max_bound : {a b : View → ℕ} → Bound a → Bound b → Bound (λ v. max (a v) (b v))
max_bound ba bb v h = omega (arith, ba v h, bb v h)

pub edition_bound : (e : Edition) → Bound (edition_of e)
edition_bound Grouped = grouped_bound
edition_bound SubType = subtype_bound
edition_bound Greater = max_bound grouped_bound subtype_bound
