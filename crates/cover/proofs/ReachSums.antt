-- What the lines of an account reach of each closed set, and the greatest lack by a table of that.
use Rattle.std.proofs.Common.{◌≡◌, ℕ, zero, suc, ◌+◌, ◌-◌, ◌<◌, ◌≤◌, min, Bool, cond, List, [], ◌∷◌, map, filter, length, get_or, replicate, sum_by, count_by, sym, refl, ap, ◌∙◌, subst, ⊎_elim, arith}
use lib.ListN.{get_or-eq_default, length-map}
use Rattle.std.proofs.lemmas.List.Sums.{sum_by-cons, length-filter}
use Rattle.std.proofs.lemmas.Bool.{cases_lt}
use Rattle.rows.specs.Rows.{plain_resource}
use Rattle.account.specs.View.{View, Line}
use Rattle.account.specs.Lines.{line_of}
use Rattle.account.specs.Own.{owns_resource}
use Rattle.account.specs.Account.{account_view, IsLine}
use Rattle.account.specs.declared.account.Account.{Account}
use Rattle.account.specs.declared.line.Line.{Line as LineRow}
use Rattle.least.specs.Sources.{sum_in, Source, reach, reach_all}
use Rattle.least.specs.Cover.{greatest, greatest_lack, Pair}
use Rattle.least.specs.Chains.{mem}
use Rattle.least.proofs.Family.{lack_of, greatest_lack_is}
use Rattle.least.proofs.Nine.{duality}
use Rattle.cover.specs.Sets.{Under, sum_to, lack_to}
use Rattle.cover.specs.Amounts.{at, Table}
use Rattle.least.specs.SubType.{source, sources, demand, reserve, LeastUncovered}
use Rattle.cover.specs.Given.{reach_of}
use Rattle.cover.proofs.SetSums.{sum_same}

-- the code's line reaches what the line does
pub reach_is : (l : LineRow) (m : Line) → IsLine l m → (k : ℕ) → min l.room (sum_to 9 k l.capability) ≡ reach_of k m
unfolding sum_to reach_of
reach_is l m is k = same _ _ _ _ is.room (sum_same (mem k) (at l.capability) m.capability is.capability)
  where
    same : (a b x y : ℕ) → a ≡ b → x ≡ y → min a x ≡ min b y
    same a b x y e f = omega arith

pub reach_all_is : (k : ℕ) (ls : List Line) → sum_by (reach_of k) ls ≡ reach_all 9 (sources ls) (mem k)
unfolding reach_of
reach_all_is k [] = refl
reach_all_is k (l ∷ ls) = sum_by-cons (λ (m : Line). reach 9 (source m) (mem k)) l ls ∙ ap (λ (n : ℕ). reach 9 (source l) (mem k) + n) (reach_all_is k ls)

count_map : {A B : Type 0} (p : B → Bool) (f : A → B) (xs : List A) → count_by (λ x. p (f x)) xs ≡ count_by p (map f xs)
count_map p f [] = refl
count_map p f (x ∷ xs) = omega (arith, sum_by-cons (λ y. cond (p (f y)) 1 0) x xs, sum_by-cons (λ y. cond (p y) 1 0) (f x) (map f xs), count_map p f xs)

-- an account has as many lines as it owns rows
pub lines_count : (a : Account) → count_by (λ r. owns_resource a.qse (plain_resource r)) a.resources.now ≡ length (account_view a).lines
lines_count a =
    let plain = map plain_resource a.resources.now in
    count_map (owns_resource a.qse) plain_resource a.resources.now ∙ sym (length-filter (owns_resource a.qse) plain)
    ∙ sym (length-map (filter (owns_resource a.qse) plain) (line_of a.side))

all_zero : (n k : ℕ) → get_or (replicate n 0) k 0 ≡ zero
all_zero zero k = refl
all_zero (suc n) zero = refl
all_zero (suc n) (suc k) = all_zero n k

pub none_reached : (k : ℕ) → get_or (replicate 144 0) k 0 ≡ zero
none_reached = all_zero 144

-- a bound on the places of a table holds past its end
pub under_all : (xs : List ℕ) (n u : ℕ) → length xs ≡ n → ((k : ℕ) → k < n → get_or xs k 0 ≤ u) → Under u xs
under_all xs n u long h k = ⊎_elim (h k) (λ (le : n ≤ k). past _ (get_or-eq_default xs 0 (subst (λ (x : ℕ). x ≤ k) (sym long) le))) (cases_lt k n)
  where
    past : (a : ℕ) → a ≡ 0 → a ≤ u
    past a e = omega arith

greatest_same : (n : ℕ) (f g : ℕ → ℕ) → ((k : ℕ) → k < n → f k ≡ g k) → greatest n f ≡ greatest n g
greatest_same zero f g h = refl
greatest_same (suc n) f g h = omega (arith, greatest_same n f g (λ k lt. h k (omega arith)), h n (omega arith))

-- the greatest lack by the table is the greatest over all sets
pub lack_is : (ls : List Source) (reached xs : List ℕ) (p : ℕ → ℕ) (r : ℕ) → Table reached ls → ((k : ℕ) → k < 9 → at xs k ≡ p k) → r ≡ lack_to 144 reached xs → r ≡ greatest_lack 9 Pair ls p
unfolding lack_to sum_to
lack_is ls reached xs p r t agree e =
    e ∙ greatest_same 144 (λ k. sum_in 9 (mem k) (at xs) - get_or reached k 0) (lack_of ls p)
    (λ k lk. ap (λ (x : ℕ). sum_in 9 (mem k) (at xs) - x) (t k lk) ∙ ap (λ (x : ℕ). x - reach_all 9 ls (mem k)) (sum_same (mem k) (at xs) p agree))
    ∙ greatest_lack_is ls p

-- the same of a view
module _ (v : View) (reached xs : List ℕ) (r : ℕ) (t : Table reached (sources v.lines)) (agree : (k : ℕ) → k < 9 → at xs k ≡ demand v k) (e : r ≡ lack_to 144 reached xs) where
  pub reserve_is : r ≡ reserve v
  unfolding reserve
  reserve_is = lack_is (sources v.lines) reached xs (demand v) r t agree e

  pub least_is : LeastUncovered v r
  least_is = subst (LeastUncovered v) (sym (lack_is (sources v.lines) reached xs (demand v) r t agree e)) (duality (sources v.lines) (demand v))
