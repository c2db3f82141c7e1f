-- The grouped edition keeps the laws and the bound.
use Rattle.std.specs.Prelude.{ℕ, ◌+◌, ◌*◌, ◌≤◌, List, pos, ◌-ℤ◌, sum_by}
use Rattle.std.proofs.Common.{arith}
use Rattle.std.proofs.lemmas.Int.{ints}
use Rattle.rows.specs.Limits.{max_qses}
use Rattle.account.specs.View.{View, nine, reg_up, reg_down, rrs, slow, up}
use Rattle.account.specs.Within.{Within}
use Rattle.account.proofs.Bounds.{counted_is}
use Rattle.measure.specs.Laws.{Bound, Helped}
use Rattle.measure.specs.Levels.{fast, with_ecrs, asked, level}
use Rattle.measure.specs.Grouped.{supply, wanted, overall, reserve, unstored, grouped}
use Rattle.measure.specs.Lawful.{Lawful, lawful_max, lawful_plus, lawful_less, lawful_balance, lawful_load, lawful_asked, lawful_level}

lawful_reserve : Lawful reserve
lawful_reserve =
    lawful_plus
    (lawful_max (lawful_level reg_up) (lawful_max (lawful_level rrs) (lawful_max (lawful_level fast) (lawful_max (lawful_level with_ecrs) (lawful_level up)))))
    (lawful_level reg_down)

lawful_wanted : Lawful wanted
lawful_wanted = lawful_plus (lawful_asked fast) (lawful_less (lawful_asked slow) (λ l. l.offline) (λ x y h. h.offline))

pub lawful_overall : Lawful overall
lawful_overall = lawful_balance (lawful_plus lawful_load lawful_wanted) supply (λ x y h. omega (arith, h.available, h.loadpart))

unstored_helped : (v w : View) → Helped v w → Helped (unstored v) (unstored w)
unstored_helped v w h = record { load = h.load; net = h.net; storage = record { le = tt }; position = h.position; lines = h.lines }

lawful_unstored : {m : View → ℕ} → Lawful m → Lawful (λ v. m (unstored v))
lawful_unstored l = record {
  order = λ v ls s. l.order (unstored v) ls s;
  pool = λ v w. l.pool (unstored v) (unstored w);
  help = λ v w h. l.help (unstored v) (unstored w) (unstored_helped v w h);
  nothing = l.nothing;
}

pub lawful_grouped : Lawful grouped
lawful_grouped = lawful_max (lawful_unstored lawful_overall) lawful_reserve

module _ (v : View) (h : Within max_qses v) where
  -- what is asked of some sub-types is at most what is asked of all nine
  pub all_small : asked nine v ≤ 333440000000
  all_small = omega (arith, h.positions)

  pub overall_small : overall v ≤ 1000000000000
  overall_small =
      let e = counted_is (pos (4 * v.load + wanted v) -ℤ pos (sum_by supply v.lines) -ℤ v.net -ℤ v.storage) in
      let n = h.net in
      let s = h.storage in
      let l = h.load in
      let both : asked fast v + asked slow v ≤ 333440000000 = omega (arith, all_small) in
      omega (arith, ints)

  level_small : (ks : List ℕ) → asked ks v ≤ 333440000000 → level ks v ≤ 333440000000
  level_small ks a = omega (arith, a)

  reserve_small : reserve v ≤ 1000000000000
  reserve_small =
      let a = all_small in
      let b1 = level_small reg_up (omega (arith, a)) in
      let b2 = level_small rrs (omega (arith, a)) in
      let b3 = level_small fast (omega (arith, a)) in
      let b4 = level_small with_ecrs (omega (arith, a)) in
      let b5 = level_small up (omega (arith, a)) in
      let b6 = level_small reg_down (omega (arith, a)) in
      omega (arith, b1, b2, b3, b4, b5, b6)

unstored_within : (v : View) → Within max_qses v → Within max_qses (unstored v)
unstored_within v h = record { load = h.load; net = h.net; storage = record { le = tt }; positions = h.positions }

pub grouped_bound : Bound grouped
grouped_bound v h = omega (arith, overall_small (unstored v) (unstored_within v h), reserve_small v h)
