-- Sums over the closed sets: by the set with one member less, and with less at one place.
use Rattle.std.proofs.Common.{◌≡◌, ℕ, zero, suc, ◌+◌, ◌-◌, ◌*◌, ◌<◌, ◌≤◌, max, Bool, true, false, cond, not, ◌&&◌, ◌||◌, eqb, ltb, leb, ◌≢◌, List, length, get_or, set, replicate, sym, refl, ap, ◌∙◌, subst, ⊎_elim, add-one, arith, get_or-set_other, get_or-set_same, ltb-true, eq-eqb}
use mathlib.Core.Path.{fun_ext}
use borrow.Author.Tests.{apart_eqb}
use Rattle.std.proofs.lemmas.Bool.{cases_eq, cases_lt, and_parts, not-true, true≢false, le-ltb, lt-leb, leb-true}
use Rattle.least.specs.Sources.{Set, sum_in, hit, low}
use Rattle.least.specs.Cover.{sum_below, greatest}
use Rattle.least.specs.Chains.{mem}
use Rattle.least.proofs.Base.{bcase, cond_no, cond_yes, hit_at, hit_off, sum_in_low}
use Rattle.cover.specs.Sets.{Grows, start_at, Under, sum_to, lack_to}
use Rattle.cover.specs.Amounts.{at}

-- the rule of the starts, as one test of all sets
unfoldable pub same : Bool → Bool → Bool
same true b = b
same false b = not b

same_is : (a b : Bool) → same a b ≡ true → a ≡ b
unfolding same
same_is true true e = refl
same_is true false e = sym e
same_is false true e = e
same_is false false e = refl

unfoldable pub alike : ℕ → (ℕ → Bool) → (ℕ → Bool) → Bool
alike zero f g = true
alike (suc n) f g = same (f n) (g n) && alike n f g

pub alike_at : (n : ℕ) (f g : ℕ → Bool) → alike n f g ≡ true → (j : ℕ) → j < n → f j ≡ g j
unfolding alike
alike_at zero f g e j lt = absurd (omega arith)
alike_at (suc n) f g e j lt =
    let p = and_parts (same (f n) (g n)) (alike n f g) e in
    ⊎_elim
    (λ (i : j ≡ n). subst (λ (m : ℕ). f m ≡ g m) (sym i) (same_is (f n) (g n) p.0))
    (λ (ne : j ≢ n). alike_at n f g p.1 j (omega arith))
    (cases_eq j n)

grows : ℕ → ℕ × ℕ → Bool
grows k s = ltb s.0 k && (ltb s.1 9 && (not (mem s.0 s.1) && alike 9 (mem k) (λ j. mem s.0 j || eqb j s.1)))

grows_is : (k : ℕ) (s : ℕ × ℕ) → grows k s ≡ true → Grows k s.0 s.1
unfolding grows
grows_is k s e =
    let a = and_parts (ltb s.0 k) _ e in
    let b = and_parts (ltb s.1 9) _ a.1 in
    let c = and_parts (not (mem s.0 s.1)) _ b.1 in
    record { before = ltb-true s.0 k a.0; nine = ltb-true s.1 9 b.0; new = not-true (mem s.0 s.1) c.0; same = alike_at 9 (mem k) (λ j. mem s.0 j || eqb j s.1) c.1 }

abbrev width : ℕ → ℕ
width j = start_at (j + 1) - start_at j

-- each set from the start at j to the next is an earlier one with the member j
rule : ℕ → ℕ → Bool
rule j k = ltb k (start_at j) || (leb (start_at (j + 1)) k || grows k (k - width j, j))

unfoldable pub all_below : ℕ → (ℕ → Bool) → Bool
all_below zero f = true
all_below (suc n) f = f n && all_below n f

pub below_at : (n : ℕ) (f : ℕ → Bool) → all_below n f ≡ true → (j : ℕ) → j < n → f j ≡ true
unfolding all_below
below_at zero f e j lt = absurd (omega arith)
below_at (suc n) f e j lt =
    let p = and_parts (f n) (all_below n f) e in
    ⊎_elim (λ (i : j ≡ n). ap f i ∙ p.0) (λ (ne : j ≢ n). below_at n f p.1 j (omega arith)) (cases_eq j n)

rule_holds : all_below 9 (λ j. all_below 144 (rule j)) ≡ true
unfolding mem same alike grows rule all_below start_at
rule_holds = refl

or_last : (a b c : Bool) → a ≡ false → b ≡ false → a || (b || c) ≡ true → c ≡ true
or_last true b c ea eb e = absurd (true≢false ea)
or_last false true c ea eb e = absurd (true≢false eb)
or_last false false c ea eb e = e

pub start_grows : (j k : ℕ) → j < 9 → k < 144 → start_at j ≤ k → k < start_at (j + 1) → Grows k (k - width j) j
unfolding rule
start_grows j k lj lk from to =
    grows_is k (k - width j, j)
    (or_last (ltb k (start_at j)) (leb (start_at (j + 1)) k) (grows k (k - width j, j)) (le-ltb k (start_at j) from) (lt-leb (start_at (j + 1)) k to)
    (below_at 144 (rule j) (below_at 9 (λ j. all_below 144 (rule j)) rule_holds j lj) k lk))

-- what the starts keep
order : ℕ → Bool
order j = leb (start_at j) (start_at (j + 1)) && (leb (start_at (j + 1)) (start_at j + start_at j) && leb (start_at (j + 1)) 144)

order_holds : all_below 9 order ≡ true
unfolding all_below order start_at
order_holds = refl

pub starts_order : (j : ℕ) → j < 9 → (start_at j ≤ start_at (j + 1)) × (start_at (j + 1) ≤ start_at j + start_at j) × (start_at (j + 1) ≤ 144)
unfolding order
starts_order j lt =
    let a = and_parts (leb (start_at j) (start_at (j + 1))) _ (below_at 9 order order_holds j lt) in
    let b = and_parts (leb (start_at (j + 1)) (start_at j + start_at j)) (leb (start_at (j + 1)) 144) a.1 in
    (leb-true _ _ a.0, leb-true _ _ b.0, leb-true _ _ b.1)

pub starts_first : start_at 0 ≡ 1
unfolding start_at
starts_first = refl

pub starts_end : start_at 9 ≡ 144
unfolding start_at
starts_end = refl

pub sum_hit : (m j d : ℕ) → j < m → sum_below m (hit j d) ≡ d
sum_hit zero j d lt = omega arith
sum_hit (suc m) j d lt =
    ⊎_elim
    (λ (e : m ≡ j). omega (arith, none m j d (omega arith), hit_at m j d e))
    (λ (ne : m ≢ j). omega (arith, sum_hit m j d (omega arith), hit_off m j d ne))
    (cases_eq m j)
  where
    none : (m j d : ℕ) → m ≤ j → sum_below m (hit j d) ≡ 0
    none zero j d le = refl
    none (suc m) j d le = omega (arith, none m j d (omega arith), hit_off m j d (λ e. omega arith))

-- a sum over one member more
sum_grown : (n : ℕ) (A B : Set) (a : ℕ) (f : ℕ → ℕ) → ((j : ℕ) → j < n → A j ≡ (B j || eqb j a)) → B a ≡ false → sum_in n A f ≡ sum_in n B f + sum_below n (hit a (f a))
sum_grown zero A B a f h new = refl
sum_grown (suc n) A B a f h new = omega (arith, sum_grown n A B a f (λ j lt. h j (omega arith)) new, one)
  where
    neither : (b : Bool) → b || false ≡ b
    neither true = refl
    neither false = refl

    one : cond (A n) (f n) 0 ≡ cond (B n) (f n) 0 + hit a (f a) n
    one =
        ⊎_elim
        (λ (e : n ≡ a).
        let all : A n ≡ true = h n (omega arith) ∙ ap (λ (b : Bool). b || eqb n a) (ap B e ∙ new) ∙ eq-eqb n a e in
        let in-a : cond (A n) (f n) 0 ≡ f n = ap (λ (b : Bool). cond b (f n) 0) all in
        let in_b : cond (B n) (f n) 0 ≡ 0 = ap (λ (b : Bool). cond b (f n) 0) (ap B e ∙ new) in
        omega (arith, in-a, in_b, hit_at n a (f a) e, ap f e))
        (λ (ne : n ≢ a).
        let all : A n ≡ B n = h n (omega arith) ∙ ap (λ (b : Bool). B n || b) (apart_eqb n a ne) ∙ neither (B n) in
        omega (arith, ap (λ (b : Bool). cond b (f n) 0) all, hit_off n a (f a) ne))
        (cases_eq n a)

pub sum_step : (k p a : ℕ) (xs : List ℕ) → Grows k p a → sum_to 9 p xs + get_or xs a 0 ≡ sum_to 9 k xs
unfolding sum_to
sum_step k p a xs g = sym (sum_grown 9 (mem k) (mem p) a (at xs) g.same g.new ∙ ap (λ (n : ℕ). sum_in 9 (mem p) (at xs) + n) (sum_hit 9 a (at xs a) g.nine))

pub sum_empty : (xs : List ℕ) → 0 ≡ sum_to 9 0 xs
unfolding sum_to mem
sum_empty xs = refl

-- before the first start stands the empty set alone
pub only_first : (xs : List ℕ) (i : ℕ) → i < start_at 0 → get_or (replicate 144 0) i 0 ≡ sum_to 9 i xs
only_first xs i lt = let e : 0 ≡ i = omega (arith, starts_first) in subst (λ (n : ℕ). get_or (replicate 144 0) n 0 ≡ sum_to 9 n xs) e (sum_empty xs)

-- the sums up to one start give those up to the next
pub sums_more : (j : ℕ) (xs old new : List ℕ) (from to : ℕ) → j < 9 → from ≡ start_at j → to ≡ start_at (j + 1)
    → ((i : ℕ) → i < start_at j → get_or old i 0 ≡ sum_to 9 i xs)
    → ((k : ℕ) → k < from → get_or new k 0 ≡ get_or old k 0)
    → ((k : ℕ) → from ≤ k → k < to → get_or new k 0 ≡ get_or old (k - (to - from)) 0 + get_or xs j 0)
    → (i : ℕ) → i < start_at (j + 1) → get_or new i 0 ≡ sum_to 9 i xs
sums_more j xs old new from to lj ef et done kept more i lt =
    ⊎_elim
    (λ (h : i < from). kept i h ∙ done i (omega arith))
    (λ (h : from ≤ i).
    let o = starts_order j lj in
    let back : i - (to - from) ≡ i - (start_at (j + 1) - start_at j) = omega arith in
    let g = start_grows j i lj (omega (arith, o.2)) (omega arith) lt in
    more i h (omega arith) ∙ ap (λ (n : ℕ). get_or old n 0 + get_or xs j 0) back
    ∙ ap (λ (n : ℕ). n + get_or xs j 0) (done (i - (start_at (j + 1) - start_at j)) (omega (arith, o.0, o.1))) ∙ sum_step _ _ j xs g)
    (cases_lt i from)

sum_small : (n u : ℕ) (A : Set) (f : ℕ → ℕ) → ((k : ℕ) → f k ≤ u) → sum_in n A f ≤ u * n
sum_small zero u A f h = omega arith
sum_small (suc n) u A f h =
    bcase (A n)
    (λ t. omega (arith, sum_small n u A f h, h n, cond_yes (A n) (f n) 0 t))
    (λ t. omega (arith, sum_small n u A f h, cond_no (A n) (f n) 0 t))

pub sum_under : (k u : ℕ) (xs : List ℕ) → Under u xs → sum_to 9 k xs ≤ u * 9
unfolding sum_to
sum_under k u xs h = sum_small 9 u (mem k) (at xs) h

-- nine figures that agree have the same sums
sum_in_same : (n : ℕ) (A : Set) (f g : ℕ → ℕ) → ((k : ℕ) → k < n → f k ≡ g k) → sum_in n A f ≡ sum_in n A g
sum_in_same zero A f g h = refl
sum_in_same (suc n) A f g h = omega (arith, sum_in_same n A f g (λ k lt. h k (omega arith)), ap (λ (x : ℕ). cond (A n) x 0) (h n (omega arith)))

pub sum_same : (A : Set) (f g : ℕ → ℕ) → ((k : ℕ) → k < 9 → f k ≡ g k) → sum_in 9 A f ≡ sum_in 9 A g
sum_same = sum_in_same 9

-- d taken at place j
pub at_set : (xs : List ℕ) (j d : ℕ) → j < length xs → at (set xs j (get_or xs j 0 - d)) ≡ low (at xs) j d
at_set xs j d lj = fun_ext (λ k. ⊎_elim (here k) (other k) (cases_eq k j))
  where
    here : (k : ℕ) → k ≡ j → get_or (set xs j (get_or xs j 0 - d)) k 0 ≡ low (at xs) j d k
    here k e = subst (λ (x : ℕ). get_or (set xs j (get_or xs j 0 - d)) x 0 ≡ low (at xs) j d x) (sym e)
        (get_or-set_same xs j (get_or xs j 0 - d) 0 lj ∙ ap (λ (x : ℕ). get_or xs j 0 - x) (sym (hit_at j j d refl)))

    other : (k : ℕ) → k ≢ j → get_or (set xs j (get_or xs j 0 - d)) k 0 ≡ low (at xs) j d k
    other k ne = omega (arith, get_or-set_other xs j k (get_or xs j 0 - d) 0 ne, hit_off k j d ne)

pub sum_less : (k : ℕ) (xs : List ℕ) (j d : ℕ) → length xs ≡ 9 → j < 9 → d ≤ get_or xs j 0 → sum_to 9 k (set xs j (get_or xs j 0 - d)) + cond (mem k j) d 0 ≡ sum_to 9 k xs
unfolding sum_to
sum_less k xs j d long lj le =
    ap (λ (f : ℕ → ℕ). sum_in 9 (mem k) f + cond (mem k j) d 0) (at_set xs j d (omega (arith, long))) ∙ sum_in_low 9 (mem k) (at xs) j d lj le

-- the greatest lack of one set more
pub sum_agrees : (k : ℕ) (xs : List ℕ) (p : ℕ → ℕ) → ((j : ℕ) → j < 9 → get_or xs j 0 ≡ p j) → sum_to 9 k xs ≡ sum_in 9 (mem k) p
unfolding sum_to
sum_agrees k xs p agree = sum_in_same 9 (mem k) (λ j. get_or xs j 0) p agree

pub lack_none : (reached p : List ℕ) → 0 ≡ lack_to 0 reached p
unfolding lack_to
lack_none reached p = refl

pub lack_more : (n : ℕ) (reached p : List ℕ) (w w' s r : ℕ) → w ≡ lack_to n reached p → s ≡ sum_to 9 n p → r ≡ s - get_or reached n 0 → w' ≡ max w r → w' ≡ lack_to (n + 1) reached p
unfolding lack_to
lack_more n reached p w w' s r e es er ew =
    ew ∙ ap (λ (x : ℕ). max x r) e ∙ ap (λ (x : ℕ). max (greatest n (λ k. sum_to 9 k p - get_or reached k 0)) x) (er ∙ ap (λ (x : ℕ). x - get_or reached n 0) es)
    ∙ ap (λ (m : ℕ). greatest m (λ k. sum_to 9 k p - get_or reached k 0)) (sym (add-one n))

-- a table written from the front: f says what each place holds then
pub record Written (f : ℕ → ℕ) (n : ℕ) (before after : List ℕ) : Type 0 where
  pub past : (k : ℕ) → k < n → get_or after k 0 ≡ f k
  pub ahead : (k : ℕ) → n ≤ k → get_or after k 0 ≡ get_or before k 0

module _ (f : ℕ → ℕ) (n : ℕ) (before after : List ℕ) (w : Written f n before after) where
  pub written_set : (v : ℕ) → n < length after → v ≡ f n → Written f (n + 1) before (set after n v)
  written_set v lt e = record {
    past = λ k h. ⊎_elim
        (λ (i : k ≡ n). subst (λ (m : ℕ). get_or (set after n v) m 0 ≡ f m) (sym i) (get_or-set_same after n v 0 lt ∙ e))
        (λ (ne : k ≢ n). get_or-set_other after n k v 0 ne ∙ w.past k (omega arith))
        (cases_eq k n);
    ahead = λ k h. get_or-set_other after n k v 0 (λ e. omega arith) ∙ w.ahead k (omega arith);
  }
