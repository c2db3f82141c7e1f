-- The reserve part is the least uncovered total, and the sub-type edition keeps the laws and the bound of a measure.
use Rattle.std.proofs.Common.{◌≡◌, ℕ, zero, suc, ◌+◌, ◌^◌, ◌≤◌, Bool, List, [], ◌∷◌, map, get_or, set, sym, refl, ap, ◌∙◌, subst, arith}
use Rattle.std.specs.List.Sorted.{IsPermutation, apply_swaps, SwapsInRange as Places}
use Rattle.std.specs.List.{swap}
use Rattle.std.proofs.lemmas.List.{map-append, length-map, map-set}
use Rattle.account.specs.View.{View, Line, add}
use Rattle.measure.specs.Laws.{Bound, Helped, More}
use Rattle.measure.specs.Lawful.{Lawful, lawful_max, lawful_asked}
use Rattle.measure.specs.GroupedLawful.{lawful_overall, overall_small, all_small}
use Rattle.least.specs.Sources.{Source}
use Rattle.least.specs.Cover.{sum_below, bit, lack, greatest, greatest_lack, Pair}
use Rattle.least.specs.Laws.{Better, short}
use Rattle.least.specs.SubType.{source, sources, demand, LeastUncovered, reserve, sub_type}
use Rattle.least.proofs.Duality.{sum_in_sum_below_le}
use Rattle.least.proofs.Nine.{greatest_le, duality}
use Rattle.least.proofs.Laws.{laws}
use Rattle.least.proofs.Family.{lack_of, greatest_lack_is}

-- a cover leaves exactly the reserve part uncovered, and none leaves less
pub reserve_least : (v : View) → LeastUncovered v (reserve v)
unfolding reserve
reserve_least v = duality (sources v.lines) (demand v)

-- the 144 closed sets are enough for it
pub reserve_family : (v : View) → reserve v ≡ greatest 144 (lack_of (sources v.lines) (demand v))
unfolding reserve
reserve_family v = sym (greatest_lack_is (sources v.lines) (demand v))

-- a list in another order, mapped
module _ {X Y : Type 0} (f : X → Y) where
  get_or_mapped : (xs : List X) (i : ℕ) (d : X) → get_or (map f xs) i (f d) ≡ f (get_or xs i d)
  get_or_mapped [] i d = refl
  get_or_mapped (x ∷ xs) zero d = refl
  get_or_mapped (x ∷ xs) (suc i) d = get_or_mapped xs i d

  exchanged_map : (xs : List X) (i j : ℕ) → map f (swap xs i j) ≡ swap (map f xs) i j
  exchanged_map [] i j = refl
  exchanged_map (d ∷ ys) i j = cc (
    map-set f (d ∷ ys) i (get_or (d ∷ ys) j d),
    map-set f (set (d ∷ ys) i (get_or (d ∷ ys) j d)) j (get_or (d ∷ ys) i d),
    get_or_mapped (d ∷ ys) i d,
    get_or_mapped (d ∷ ys) j d,
  )

  moved_map : (xs : List X) (ms : List (ℕ × ℕ)) → map f (apply_swaps xs ms) ≡ apply_swaps (map f xs) ms
  moved_map xs [] = refl
  moved_map xs (m ∷ ms) = exchanged_map (apply_swaps xs ms) m.0 m.1 ∙ ap (λ (ys : List Y). swap ys m.0 m.1) (moved_map xs ms)

  shuffled_map : (xs ys : List X) → IsPermutation xs ys → IsPermutation (map f xs) (map f ys)
  shuffled_map xs ys s = record {
    moves = s.moves;
    below = subst (λ (n : ℕ). Places n s.moves) (sym (length-map xs f)) s.below;
    is = ap (map f) s.is ∙ moved_map xs s.moves;
  }

-- higher lines give higher sources
better_sources : (ls ms : List Line) → More ls ms → Better (sources ls) (sources ms)
better_sources [] ms h = tt
better_sources (l ∷ ls) [] h = h
better_sources (l ∷ ls) (m ∷ ms) h = (record { room = h.0.room; capability = h.0.capability }, better_sources ls ms h.1)

demand_pool : (v w : View) (k : ℕ) → demand (add v w) k ≤ demand v k + demand w k
demand_pool v w k = omega (arith, (lawful_asked (k ∷ [])).pool v w)

demand_help : (v w : View) → Helped v w → (k : ℕ) → demand w k ≤ demand v k
demand_help v w h k = omega (arith, (lawful_asked (k ∷ [])).help v w h)

pub lawful_reserve : Lawful reserve
unfolding reserve
lawful_reserve = record {
  order = λ v ls s. laws.order (sources v.lines) (sources ls) (demand v) (shuffled_map source v.lines ls s);
  pool = λ v w. subst (λ (xs : List Source). short xs (demand (add v w)) ≤ short (sources v.lines) (demand v) + short (sources w.lines) (demand w))
      (sym (map-append source v.lines w.lines))
      (laws.pool (sources v.lines) (sources w.lines) (demand v) (demand w) (demand (add v w)) (demand_pool v w));
  help = λ v w h. laws.help (sources v.lines) (sources w.lines) (demand v) (demand w) (better_sources v.lines w.lines h.lines) (demand_help v w h);
  nothing = laws.nothing;
}

pub lawful_subtype : Lawful sub_type
lawful_subtype = lawful_max lawful_overall lawful_reserve

-- no set lacks more than all positions ask for
lack_under : (n : ℕ) (E : ℕ → ℕ → Bool) (ls : List Source) (p : ℕ → ℕ) → greatest_lack n E ls p ≤ sum_below n p
lack_under n E ls p = greatest_le (2 ^ n) (λ k. lack n E ls p (bit k)) (sum_below n p) (λ k. omega (arith, sum_in_sum_below_le n (bit k) p))

reserve_under : (v : View) → reserve v ≤ sum_below 9 (demand v)
unfolding reserve
reserve_under v = lack_under 9 Pair (sources v.lines) (demand v)

pub subtype_bound : Bound sub_type
subtype_bound v h = omega (arith, overall_small v h, all_small v h, reserve_under v)
