use Rattle.std.proofs.Common.{◌≡◌, ◌≤◌, arith, rules}
use Rattle.rows.specs.Limits.{max_power}
use Rattle.rows.specs.Rows.{plain_side}
use Rattle.rows.proofs.FromFn.{elements_given, elements_all}
use Rattle.account.specs.Lines.{capability_of}
use Rattle.account.proofs.plan.Plan.capabilities.Goals as goal

pub invariant_of-result : goal.invariant_of-result
invariant_of-result c = record { limits = elements_all _ (λ x. x ≤ max_power) _ (λ i y q call. search rules) _ _ c.from_fn.ensures.items 0 (omega arith) }

pub returns : goal.returns
returns c k h = elements_given _ (λ j x. x ≡ capability_of (plain_side c.args.self.now.side.now) j) _ (λ i y q call. search rules) _ _ c.from_fn.ensures.items k 0 h
