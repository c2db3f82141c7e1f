use Rattle.std.proofs.Common.{◌≡◌, ◌<◌, ◌≤◌, ⊎_elim, get_or, pos, arith, rules}
use Rattle.std.proofs.lemmas.Bool.{cases_lt}
use Rattle.std.proofs.lemmas.Int.{ints, to_z-of_z}
use Rattle.std.proofs.lemmas.List.{get_or_past}
use Rattle.rows.proofs.FromFn.{elements_given}
use Rattle.account.specs.View.{counted}
use Rattle.account.proofs.Bounds.{counted_is}
use Rattle.account.proofs.standing.Standing.counted.Goals as goal

pub returns-clause-each : goal.returns-clause-each
returns-clause-each c k h =
    elements_given _ (λ j x. x ≡ counted (get_or c.args.self.now.positions j (pos 0))) _ (λ i y q call. search (rules, to_z-of_z)) _ _ c.from_fn.ensures.items k 0 h

pub returns-clause-small : goal.returns-clause-small
returns-clause-small c k =
    let z = get_or c.args.self.now.positions k (pos 0) in
    ⊎_elim
    (λ (h : k < 9). omega (arith, ints, returns-clause-each c k h, c.args.self.now.low k, counted_is z))
    (λ (h : 9 ≤ k). omega (arith, get_or_past c.from_fn.result k 0 (omega (arith, c.from_fn.ensures.items.long))))
    (cases_lt k 9)
