use Rattle.std.proofs.Common.{◌≡◌, ℕ, ◌+◌, ◌<◌, min, get_or, sym, ap, ◌∙◌, arith}
use Rattle.measure.specs.Grouped.{supply}
use Rattle.measure.proofs.LineTotals.{own_part_is}
use Rattle.cover.specs.Sets.{sum_to}
use Rattle.cover.specs.Given.{reach_of}
use Rattle.cover.proofs.ReachSums.{reach_is}
use Rattle.cover.proofs.given.Given.add_row.Goals as goal

pub returns : goal.returns
returns c =
    let a = c.args.a.now in
    let r = c.args.row.now in
    let own = sym c.owns.ensures ∙ c.if-not-owns.false in
    let is = c.of-line.ensures in
    let small = c.of-line.result.small in
    let reached = c.add_reach.ensures in
    let offer = c.of.ensures in
    let added : (k : ℕ) → k < 144 → get_or c.add_reach.new.reached k 0 ≡ get_or c.args.self.now.reached k 0 + min c.of-line.result.room (sum_to 9 k c.of-line.result.capability) =
    λ k h. rw (← offer.room, ← offer.capability) (reached.more k h) in
    record {
      value = record {
        reached = λ k h. added k h ∙ ap (λ n. get_or c.args.self.now.reached k 0 + n) (reach_is _ _ is k ∙ sym (own_part_is (reach_of k) a r own));
        supply = omega (arith, c.from.ensures, c.from-2.ensures, own_part_is supply a r own, is.available, is.loadpart);
        offline = omega (arith, c.from-3.ensures, own_part_is (λ l. l.offline) a r own, is.offline);
      };
      small = λ m under. record {
        reached = λ k. omega (arith, reached.small m under.reached k, offer.room, small.0);
        supply = omega (arith, under.supply, c.from.ensures, c.from-2.ensures, small);
        offline = omega (arith, under.offline, c.from-3.ensures, small);
      };
    }
