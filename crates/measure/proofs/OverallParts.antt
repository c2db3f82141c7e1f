-- The overall part of an account's figures is that of its view.
use Rattle.std.proofs.Common.{◌≡◌, ℕ, ◌<◌, get_or, ℤ, pos, sum_by, refl, ap, arith}
use Rattle.account.specs.Account.{account_view, Stands}
use Rattle.account.specs.View.{counted, over, slow}
use Rattle.account.specs.declared.account.Account.{Account}
use Rattle.account.specs.declared.standing.Standing.{Standing}
use Rattle.account.proofs.LineParts.{over_same}
use Rattle.measure.specs.Levels.{fast}
use Rattle.measure.specs.Grouped.{supply, wanted, wanted_by, overall, overall_by, unstored}
use Rattle.measure.specs.Overall.{overall_part}
use Rattle.measure.specs.declared.storage_net.StorageNet.TheVariants.{Ignored, Counted}

overall_same : {l l' w w' s s' : ℕ} {n n' z z' : ℤ} → l ≡ l' → w ≡ w' → s ≡ s' → n ≡ n' → z ≡ z' → overall_by l w s n z ≡ overall_by l' w' s' n' z'
overall_same el ew es en ez = cc

module _ (a : Account) (s : Standing) (sup off : ℕ) (stands : Stands a s) (supplied : sup ≡ sum_by supply (account_view a).lines) (served : off ≡ sum_by (λ l. l.offline) (account_view a).lines) where
  wanted_is : wanted_by (λ k. counted (get_or s.positions k (pos 0))) off ≡ wanted (account_view a)
  wanted_is =
      let c : ℕ → ℕ = λ k. counted (get_or s.positions k (pos 0)) in
      let d : ℕ → ℕ = λ k. counted ((account_view a).position k) in
      let each : (k : ℕ) → k < 9 → c k ≡ d k = λ k h. ap counted (stands.positions k h) in
      let fasts : over fast c ≡ over fast d = over_same fast c d (omega arith, (omega arith, (omega arith, (omega arith, tt)))) each in
      let slows : over slow c ≡ over slow d = over_same slow c d (omega arith, (omega arith, (omega arith, (omega arith, tt)))) each in
      omega (arith, fasts, slows, served)

  pub overall_counted : overall_part s sup off Counted ≡ overall (account_view a)
  overall_counted = overall_same stands.load wanted_is supplied stands.net stands.storage

  pub overall_ignored : overall_part s sup off Ignored ≡ overall (unstored (account_view a))
  overall_ignored = overall_same {z = pos 0} stands.load wanted_is supplied stands.net refl
