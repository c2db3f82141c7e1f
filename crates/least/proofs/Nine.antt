-- Sets by their number: the greatest lack over all sets is the least uncovered total, and so for the nine sub-types and the fourteen pairs.
use Rattle.std.proofs.Common.{◌≡◌, ℕ, zero, suc, ◌+◌, ◌*◌, ◌/◌, ◌%◌, ◌^◌, ◌<◌, ◌≤◌, min, Bool, true, false, cond, not, ◌&&◌, ◌||◌, T, eqb, ◌⊎◌, List, [], ◌∷◌, sym, ap, ◌∙◌, subst, inl, inr, ⊎_elim, pow-suc, arith, eqb→eq, eq-eqb}
use native.Mathlib.Omega.{min_cases}
use lib.Dec.{eqb_refl}
use borrow.Author.Tests.{apart_eqb}
use Rattle.least.specs.Sources.{Set, sum_in, Source, reach_all, Closed}
use Rattle.least.specs.Cover.{Amounts, Cover, uncovered, Least, bit, any, able, lack, greatest, greatest_lack, pairs, holds, Pair, Duality}
use Rattle.least.proofs.Base.{Below, no_both, apart, at_nine, bcase, sum_in_mono, and_left, and_right, and_both, or_left, or_right, or_split, reach_all_sub}
use Rattle.least.proofs.Step.{Cuts}
use Rattle.least.proofs.Duality.{weak, strong}

pub any_at : (n : ℕ) (f : ℕ → Bool) (k : ℕ) → k < n → T (f k) → T (any n f)
any_at zero f k lt t = absurd (omega arith)
any_at (suc n) f k lt t = bcase (eqb k n)
    (λ e. or_left (f n) (any n f) (subst (λ (i : ℕ). T (f i)) (eqb→eq k n e) t))
    (λ e. or_right (f n) (any n f) (any_at n f k (omega (arith, apart k n e)) t))

pub any_get : (n : ℕ) (f : ℕ → Bool) → T (any n f) → (k : ℕ) × (k < n) × T (f k)
any_get zero f t = absurd t
any_get (suc n) f t = ⊎_elim {C = (k : ℕ) × (k < suc n) × T (f k)} (λ u. (n, omega arith, u))
    (λ u. let r : (k : ℕ) × (k < n) × T (f k) = any_get n f u in (r.0, omega (arith, r.1), r.2)) (or_split (f n) (any n f) t)

-- the number of a set
code : ℕ → Set → ℕ
code zero A = 0
code (suc n) A = cond (A 0) 1 0 + 2 * code n (λ q. A (suc q))

bit_cong : (b : Bool) (k : ℕ) → k ≡ cond b 1 0 → eqb k 1 ≡ b
bit_cong true k e = eq-eqb k 1 e
bit_cong false k e = apart_eqb k 1 (λ h. omega arith)

cond_small : (b : Bool) → cond b 1 0 ≤ 1
cond_small true = omega arith
cond_small false = omega arith

bit_code : (n : ℕ) (A : Set) (q : ℕ) → q < n → bit (code n A) q ≡ A q
unfolding code
bit_code zero A q lt = absurd (omega arith)
bit_code (suc n) A zero lt = bit_cong (A 0) ((cond (A 0) 1 0 + 2 * code n (λ q. A (suc q))) % 2) (omega (arith, cond_small (A 0)))
bit_code (suc n) A (suc q) lt =
    let e : (cond (A 0) 1 0 + 2 * code n (λ q. A (suc q))) / 2 ≡ code n (λ q. A (suc q)) = omega (arith, cond_small (A 0)) in
    ap (λ (k : ℕ). bit k q) e ∙ bit_code n (λ q. A (suc q)) q (omega arith)

code_lt : (n : ℕ) (A : Set) → code n A < 2 ^ n
unfolding code
code_lt zero A = omega arith
code_lt (suc n) A = omega (arith, code_lt n (λ q. A (suc q)), cond_small (A 0), pow-suc 2 n)

pub greatest_at : (n : ℕ) (f : ℕ → ℕ) (k : ℕ) → k < n → f k ≤ greatest n f
greatest_at zero f k lt = omega arith
greatest_at (suc n) f k lt = bcase (eqb k n)
    (λ e. subst (λ (i : ℕ). f i ≤ greatest (suc n) f) (sym (eqb→eq k n e)) (omega arith))
    (λ e. omega (arith, greatest_at n f k (omega (arith, apart k n e))))

pub greatest_le : (n : ℕ) (f : ℕ → ℕ) (u : ℕ) → ((k : ℕ) → f k ≤ u) → greatest n f ≤ u
greatest_le zero f u h = omega arith
greatest_le (suc n) f u h = omega (arith, greatest_le n f u h, h n)

module _ (n : ℕ) (E : ℕ → ℕ → Bool) (tr : (i j k : ℕ) → T (E i j) → T (E j k) → T (E i k)) (rf : (q : ℕ) → q < n → T (E q q)) where
  -- the capabilities that may cover a position of A: closed, with A in them, and least so
  able_closed : (A : Set) → Closed E (able n E A)
  able_closed A j q e t =
      let r : (k : ℕ) × (k < n) × T (E q k && A k) = any_get n (λ k. E q k && A k) t in
      any_at n (λ k. E j k && A k) r.0 r.1
      (and_both (E j r.0) (A r.0) (tr j q r.0 e (and_left (E q r.0) (A r.0) r.2)) (and_right (E q r.0) (A r.0) r.2))

  able_holds : (A : Set) → Below n A (able n E A)
  able_holds A q lt t = any_at n (λ k. E q k && A k) q lt (and_both (E q q) (A q) (rf q lt) t)

  able_least : (A B : Set) → Closed E A → Below n B A → Below n (able n E B) A
  able_least A B cl h j lj t =
      let r : (k : ℕ) × (k < n) × T (E j k && B k) = any_get n (λ k. E j k && B k) t in
      cl j r.0 (and_left (E j r.0) (B r.0) r.2) (h r.0 r.1 (and_right (E j r.0) (B r.0) r.2))

  -- the set by its number
  coded : Set → Set
  coded A = bit (code n A)

  coded_in : (A : Set) → Below n A (coded A)
  unfolding coded
  coded_in A k lt t = subst T (sym (bit_code n A k lt)) t

  coded_out : (A : Set) → Below n (coded A) A
  unfolding coded
  coded_out A k lt t = subst T (bit_code n A k lt) t

  -- the least of the spares of the sets up to number K
  record CutTo (s : Set → ℕ) (q b K : ℕ) : Type 0 where
    most' : ℕ
    under : most' ≤ b
    each : (k : ℕ) → k < K → T (not (able n E (bit k) q)) → most' ≤ s (able n E (bit k))
    why : (b ≤ most') ⊎ ((A : Set) × Closed E A × T (not (A q)) × (s A ≤ most'))

  cut_to : (s : Set → ℕ) (q b K : ℕ) → CutTo s q b K
  cut_to s q b zero = record { most' = b; under = omega arith; each = λ k lt t. omega arith; why = inl (omega arith) }
  cut_to s q b (suc K) =
      let c : CutTo s q b K = cut_to s q b K in
      let B : Set = able n E (bit K) in
      bcase (B q)
      (λ t. record {
        most' = c.most';
        under = c.under;
        why = c.why;
        each = λ k lt u. bcase (eqb k K)
            (λ e. absurd (no_both (able n E (bit k) q) u (subst (λ (i : ℕ). T (able n E (bit i) q)) (sym (eqb→eq k K e)) t)))
            (λ e. c.each k (before k K lt e) u);
      })
      (λ t. record {
        most' = min c.most' (s B);
        under = omega (arith, c.under);
        each = λ k lt u. bcase (eqb k K)
            (λ e. subst (λ (i : ℕ). min c.most' (s B) ≤ s (able n E (bit i))) (sym (eqb→eq k K e)) (omega arith))
            (λ e. omega (arith, c.each k (before k K lt e) u));
        why = min_cases c.most' (s B) ((b ≤ min c.most' (s B)) ⊎ ((A : Set) × Closed E A × T (not (A q)) × (s A ≤ min c.most' (s B))))
            (λ le e. ⊎_elim (λ h. inl (omega arith)) (λ w. inr (w.0, w.1, w.2, omega (arith, w.3))) c.why)
            (λ le e. inr (B, able_closed (bit K), t, omega arith));
      })
    where
      before : (k K : ℕ) → k < suc K → T (not (eqb k K)) → k < K
      before k K lt e = omega (arith, apart k K e)

  not_more : (a b : Bool) → (T b → T a) → T (not a) → T (not b)
  not_more true b h t = absurd t
  not_more false true h t = absurd (h tt)
  not_more false false h t = tt

  -- the least over the numbers is the least over the closed sets
  pub cuts : Cuts n E
  unfolding coded
  cuts s q b lq alike =
      let c : CutTo s q b (2 ^ n) = cut_to s q b (2 ^ n) in
      record {
        greatest = c.most';
        under = c.under;
        why = c.why;
        each = λ A cl off.
            let B : Set = able n E (coded A) in
            let ab : Below n A B = λ k lt t. able_holds (coded A) k lt (coded_in A k lt t) in
            let ba : Below n B A = able_least A (coded A) cl (coded_out A) in
            omega (arith, alike A B ab ba, c.each (code n A) (code_lt n A) (not_more (A q) (B q) (ba q lq) off));
      }

  -- the greatest lack bounds the lack of every closed set, and is the least to do so
  pub lack_le : (ls : List Source) (p : ℕ → ℕ) (u : ℕ) → ((A : Set) → Closed E A → sum_in n A p ≤ reach_all n ls A + u) → greatest_lack n E ls p ≤ u
  lack_le ls p u h = greatest_le (2 ^ n) (λ k. lack n E ls p (bit k)) u (λ k.
      omega (arith, h (able n E (bit k)) (able_closed (bit k)), sum_in_mono n (bit k) (able n E (bit k)) p (able_holds (bit k))))

  pub lack_all : (ls : List Source) (p : ℕ → ℕ) (A : Set) → Closed E A → sum_in n A p ≤ reach_all n ls A + greatest_lack n E ls p
  unfolding coded
  lack_all ls p A cl =
      omega (
        arith,
        greatest_at (2 ^ n) (λ k. lack n E ls p (bit k)) (code n A) (code_lt n A),
        sum_in_mono n A (coded A) p (coded_in A),
        (reach_all_sub n ls).mono (able n E (coded A)) A (able_least A (coded A) cl (coded_out A)),
      )

  -- the greatest lack is the least uncovered total
  pub dual : (ls : List Source) (p : ℕ → ℕ) → Least n E ls p (greatest_lack n E ls p)
  dual ls p =
      let r : (xs : List Amounts) × Cover n E ls p xs × (uncovered n E p xs ≤ greatest_lack n E ls p) = strong n E tr rf cuts ls p (greatest_lack n E ls p) (lack_all ls p) in
      let low : (xs : List Amounts) → Cover n E ls p xs → greatest_lack n E ls p ≤ uncovered n E p xs = λ xs c. lack_le ls p (uncovered n E p xs) (weak n E ls p xs c) in
      record { reached = (r.0, r.1, omega (arith, r.2, low r.0 r.1)); least = low }

-- what holds at each pair of a table
abbrev pub AllAt : (ℕ → ℕ → Type 0) → List (ℕ × ℕ) → Type 0
AllAt P [] = Unit {0}
AllAt P (t ∷ ts) = P t.0 t.1 × AllAt P ts

pub from_all : (P : ℕ → ℕ → Type 0) (ts : List (ℕ × ℕ)) → AllAt P ts → (j q : ℕ) → T (holds j q ts) → P j q
from_all P [] a j q h = absurd h
from_all P (t ∷ ts) a j q h = ⊎_elim
    (λ u. let ej : t.0 ≡ j = sym (eqb→eq j t.0 (and_left (eqb j t.0) (eqb q t.1) u)) in
    let eq : t.1 ≡ q = sym (eqb→eq q t.1 (and_right (eqb j t.0) (eqb q t.1) u)) in
    subst (λ (i : ℕ). P i q) ej (subst (λ (i : ℕ). P t.0 i) eq a.0))
    (λ u. from_all P ts a.1 j q u)
    (or_split (eqb j t.0 && eqb q t.1) (holds j q ts) h)

-- a test at each pair of a table
unfoldable pub every : (ℕ → ℕ → Bool) → List (ℕ × ℕ) → Bool
every f [] = true
every f (t ∷ ts) = f t.0 t.1 && every f ts

pub from_every : (f : ℕ → ℕ → Bool) (ts : List (ℕ × ℕ)) → T (every f ts) → (j q : ℕ) → T (holds j q ts) → T (f j q)
unfolding every
from_every f ts a = from_all (λ j q. T (f j q)) ts (each ts a)
  where
    each : (us : List (ℕ × ℕ)) → T (every f us) → AllAt (λ j q. T (f j q)) us
    each [] b = tt
    each (u ∷ us) b = (and_left (f u.0 u.1) (every f us) b, each us (and_right (f u.0 u.1) (every f us) b))

joins : ℕ → ℕ → ℕ → ℕ → Bool
joins i j j' k = not (eqb j j') || Pair i k

drop_not : (a b : Bool) → T a → T (not a || b) → T b
drop_not true b s t = t
drop_not false b s t = absurd s

pub pair_trans : (i j k : ℕ) → T (Pair i j) → T (Pair j k) → T (Pair i k)
unfolding every joins
pair_trans i j k a b =
    drop_not (eqb j j) (Pair i k) (eqb_refl j)
    (from_every (joins i j) pairs (from_every (λ i j. every (joins i j) pairs) pairs tt i j a) j k b)

pub pair_refl : (q : ℕ) → q < 9 → T (Pair q q)
pair_refl = at_nine (λ q. T (Pair q q)) tt tt tt tt tt tt tt tt tt

pub duality : Duality
duality = dual 9 Pair pair_trans pair_refl

met_by : (n : ℕ) (E : ℕ → ℕ → Bool) (tr : (i j k : ℕ) → T (E i j) → T (E j k) → T (E i k)) (rf : (q : ℕ) → q < n → T (E q q)) (A : Set) → Closed E A
    → (k : ℕ) × (k < 2 ^ n) × Below n A (able n E (bit k)) × Below n (able n E (bit k)) A
unfolding coded
met_by n E tr rf A cl = (
  code n A,
  code_lt n A,
  (λ k lt t. able_holds n E tr rf (coded n E tr rf A) k lt (coded_in n E tr rf A k lt t)),
  able_least n E tr rf A (coded n E tr rf A) cl (coded_out n E tr rf A),
)

-- every closed set of the nine is met at a number below 512
pub met : (A : Set) → Closed Pair A → (k : ℕ) × (k < 2 ^ 9) × Below 9 A (able 9 Pair (bit k)) × Below 9 (able 9 Pair (bit k)) A
met A cl = met_by 9 Pair pair_trans pair_refl A cl

pub able9_closed : (A : Set) → Closed Pair (able 9 Pair A)
able9_closed A = able_closed 9 Pair pair_trans pair_refl A
