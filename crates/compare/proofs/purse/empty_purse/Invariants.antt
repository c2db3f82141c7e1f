use Rattle.std.proofs.Common.{◌≡◌, ◌≤◌, vec_items, vec_len, vec_capacity}
use Rattle.replay.specs.Guarantee.{claims_in}
use Rattle.compare.proofs.purse.empty_purse.Given as goal

abbrev pub invariant-loop-place : goal.invariant-loop-place
invariant-loop-place l = (l.places ≤ vec_capacity l.purse) × (vec_len l.purse ≤ l._place) × (claims_in (vec_items l.purse) ≡ 0)
