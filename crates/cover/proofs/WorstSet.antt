-- The set with the greatest lack, found by going through all of them.
use Rattle.std.proofs.Common.{◌≡◌, ℕ, ◌+◌, ◌-◌, ◌<◌, ◌≤◌, max, List, get_or, sym, ap, subst, ◌∙◌, arith, lit<}
use Rattle.least.proofs.Nine.{greatest_at}
use Rattle.cover.specs.Sets.{sum_to, lack_to}
use Rattle.cover.specs.Binding.{Worst}
use Rattle.cover.proofs.SetSums.{lack_none, lack_more, sum_empty}

-- no set below n lacks more than the greatest
lack_at : (n k : ℕ) (reached p : List ℕ) (m : ℕ) → m ≡ lack_to n reached p → k < n → sum_to 9 k p - get_or reached k 0 ≤ m
unfolding lack_to
lack_at n k reached p m e lt = subst (λ (x : ℕ). sum_to 9 k p - get_or reached k 0 ≤ x) (sym e) (greatest_at n (λ i. sum_to 9 i p - get_or reached i 0) k lt)

pub worst_none : (reached p : List ℕ) → Worst 0 reached p 0 0
worst_none reached p = record { most = lack_none reached p; number = lit< tt; lack = omega (arith, sum_empty p); first = λ k lt. omega (arith, lt) }

module _ (n : ℕ) (reached p : List ℕ) (w m s r : ℕ) (before : Worst n reached p w m) (number : n < 144) (sum : s ≡ sum_to 9 n p) (lack : r ≡ s - get_or reached n 0) where
  greater : (k : ℕ) → k ≡ max m r → k ≡ lack_to (n + 1) reached p
  greater k e = lack_more n reached p m k s r before.most sum lack e

  pub worst_here : m < r → Worst (n + 1) reached p n r
  worst_here more = record { most = greater r (omega arith); number = number; lack = lack ∙ ap (λ x. x - get_or reached n 0) sum; first = λ k lt. omega (arith, more, lack_at n k reached p m before.most lt) }

  pub worst_there : r ≤ m → Worst (n + 1) reached p w m
  worst_there less = record { most = greater m (omega arith); number = before.number; lack = before.lack; first = before.first }

pub worst_as : {n : ℕ} {reached p : List ℕ} {w w' m m' : ℕ} → w' ≡ w → m' ≡ m → Worst n reached p w m → Worst n reached p w' m'
worst_as {n} {reached} {p} {w} {w'} {m} {m'} ew em x =
    record { most = em ∙ x.most; number = omega (arith, ew, x.number); lack = em ∙ x.lack ∙ ap (λ k. sum_to 9 k p - get_or reached k 0) (sym ew); first = λ k lt. omega (arith, em, x.first k (omega (arith, ew, lt))) }
