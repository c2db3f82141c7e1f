use Rattle.std.proofs.Common.{[], ◌∷◌, sym, subst}
use Rattle.cases.specs.Worked.{Worked}
use Rattle.cases.proofs.Computed.{worked}
use Rattle.cases.proofs.worked.worked_cases.Goals as goal

pub returns-clause-figures : goal.returns-clause-figures
returns-clause-figures c =
    let a = c.nothing.ensures in
    let b = c.bare_load.ensures in
    let d = c.served_load.ensures in
    let e = c.one_kw_less.ensures in
    let f = c.regulated.ensures in
    let g = c.ufr_for_pfr.ensures in
    let h = c.pfr_for_ufr.ensures in
    let j = c.two_units.ensures in
    let traded = c.trades.ensures in
    let even = c.even.ensures in
    let one = c.one_weight.ensures in
    let charged = c.charges.ensures in
    λ i. record { values = a i ∷ b i ∷ d i ∷ e i ∷ f i ∷ g i ∷ h i ∷ j i ∷ []; traded = traded i; even = even i; one_weight = one i; charged = charged i }

pub returns-clause-worked : goal.returns-clause-worked
returns-clause-worked c = subst Worked (sym (returns-clause-figures c)) worked
