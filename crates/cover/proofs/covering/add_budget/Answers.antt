use Rattle.std.proofs.Common.{◌≡◌, ℕ, ◌+◌, ◌-◌, ◌<◌, ◌≤◌, List, length, get_or, take, drop, ap, ◌∙◌, arith, get_or-take}
use borrow.Rule.Slice.PartMut.{put_mid}
use Rattle.std.proofs.lemmas.Grind.{get_or_after_one}
use Rattle.std.proofs.lemmas.List.{places}
use Rattle.cover.proofs.covering.add_budget.Goals as goal

-- the part from 1 on in the whole
part_at : (xs : List ℕ) (i j : ℕ) → i < 143 → j ≡ 1 + i → get_or (take 143 (drop 1 xs)) i 0 ≡ get_or xs j 0
part_at xs i j lt e = get_or-take 143 (drop 1 xs) i 0 lt ∙ get_or_after_one xs i 0 ∙ ap (λ n. get_or xs n 0) (omega arith)

part_put : (xs ys : List ℕ) (k : ℕ) → length xs ≡ 144 → length ys ≡ 143 → k < 144 → 0 < k → get_or (put_mid 1 143 xs ys) k 0 ≡ get_or ys (k - 1) 0
part_put xs ys k lx ly lk pos = grind (arith, places)

pub overflow_add-sum : goal.overflow_add-sum
overflow_add-sum c =
    let i = c.loop-sum.sum-index in
    let lt : i < 143 = omega (arith, c.loop-sum.auto.sum-items) in
    omega (arith, c.loop-sum.invariant.1.ahead i (omega arith), part_at c.args.rest.now i (1 + i) lt (omega arith), c.requires.few (1 + i))

pub returns-clause-more : goal.returns-clause-more
returns-clause-more c k lk pos =
    let end : 143 ≤ c.loop-sum.sum-index = omega (arith, c.loop-sum.auto.sum-items) in
    part_put c.args.rest.now c.loop-sum.sum-items k c.told-rest c.loop-sum.invariant.0 lk pos ∙ c.loop-sum.invariant.1.past (k - 1) (omega arith)
    ∙ ap (λ n. n + c.args.budget) (part_at c.args.rest.now (k - 1) k (omega arith) (omega arith))
