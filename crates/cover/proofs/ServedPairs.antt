-- One line served, pair after pair.
use Rattle.std.proofs.Common.{◌≡◌, ℕ, zero, suc, ◌+◌, ◌-◌, ◌<◌, ◌≤◌, min, Bool, true, false, cond, not, T, ◌≢◌, List, [], ◌∷◌, length, get_or, set, sym, refl, ap, ◌∙◌, subst, inl, inr, ⊎_elim, arith, length-set, get_or-set_other}
use mathlib.Core.Path.{fun_ext}
use Rattle.least.specs.Sources.{Set, sum_in, Source, reach, reach_all, Hall, hit, low, give}
use Rattle.least.specs.Cover.{sum_below, Amounts, taken, got, pairs, Pair}
use Rattle.least.specs.Chains.{mem}
use Rattle.least.proofs.Base.{reach_all_sub, hit_le}
use Rattle.least.proofs.Step.{spare, Cut, Cuts, Alike}
use Rattle.least.proofs.Serve.{spare_alike}
use Rattle.least.proofs.Duality.{sum_below_add, sum_below_cong, more, got_more, taken_more}
use Rattle.least.proofs.Nine.{pair_trans, pair_refl, cuts}
use Rattle.least.proofs.Chains.{num, num_lt, mem_num, mem_closed}
use Rattle.least.proofs.Family.{meets}
use Rattle.least.proofs.Finish.{Stuck, stuck_stays, stuck_now, finish}
use Rattle.cover.specs.Sets.{sum_to, spare_at, LimitTo}
use Rattle.cover.specs.Amounts.{at, source_by, amounts_by, amounts_of, cap_at, pos_at, Table, Served}
use Rattle.cover.proofs.LimitSteps.{at_last}
use Rattle.cover.proofs.PairTable.{pair_good, all_pairs, cond_none, amounts_none, amounts_more}
use Rattle.cover.proofs.SetSums.{at_set, sum_hit}

abbrev cuts9 : Cuts 9 Pair
cuts9 = cuts 9 Pair pair_trans pair_refl

line_set : (room : ℕ) (caps : List ℕ) (j d : ℕ) → j < length caps → source_by (room - d) (set caps j (get_or caps j 0 - d)) ≡ give (source_by room caps) j d
line_set room caps j d lj = λ i. record { room = room - d; capability = at_set caps j d lj i }

-- the limit found over the 144 sets is the cut over all closed sets
no_of : (b : Bool) → b ≡ false → T (not b)
no_of true e = subst (λ (x : Bool). T x) e tt
no_of false e = tt

is_no : (b : Bool) → T (not b) → b ≡ false
is_no true t = absurd t
is_no false t = refl

spare_at_is : (rest : List ℕ) (ls : List Source) (room : ℕ) (caps left : List ℕ) (j k : ℕ) → k < 144 → Table rest ls
    → spare_at rest room caps left j k ≡ spare 9 Pair (source_by room caps) (reach_all 9 ls) (at left) j (mem k)
unfolding spare_at sum_to
spare_at_is rest ls room caps left j k lt tab = ap (λ (x : ℕ). (x + cond (mem k j) (min room (sum_in 9 (mem k) (at caps))) room) - sum_in 9 (mem k) (at left)) (tab k lt)

limit_cut : (rest : List ℕ) (ls : List Source) (room : ℕ) (caps left : List ℕ) (j q b r : ℕ) → j < 9 → q < 9 → Table rest ls
    → LimitTo 144 rest room caps left j q b r → Cut 9 Pair (spare 9 Pair (source_by room caps) (reach_all 9 ls) (at left) j) q b
limit_cut rest ls room caps left j q b r lj lq tab c =
    let alike : Alike 9 Pair (spare 9 Pair (source_by room caps) (reach_all 9 ls) (at left) j) =
    spare_alike 9 Pair pair_trans pair_refl cuts9 (source_by room caps) (reach_all 9 ls) (at left) j lj (reach_all_sub 9 ls) in
    record {
      greatest = r;
      under = c.under;
      each = λ A cl off. subst (λ (x : ℕ). r ≤ x) (spare_at_is rest ls room caps left j (num A) (num_lt A) tab ∙ sym (alike A (mem (num A)) (meets A cl).0 (meets A cl).1))
          (c.each (num A) (num_lt A) (mem_num A cl q lq ∙ is_no (A q) off));
      why = ⊎_elim (λ h. inl h)
          (λ w. inr (mem w.0, mem_closed w.0, no_of (mem w.0 q) w.2, subst (λ (x : ℕ). x ≤ r) (spare_at_is rest ls room caps left j w.0 w.1 tab) w.3))
          c.why;
    }

-- numbers
shift : (a a' h c c0 : ℕ) → a' ≡ a + h → a + c ≡ c0 → h ≤ c → a' + (c - h) ≡ c0
shift a a' h c c0 e f le = omega arith

sum_below_taken : (n : ℕ) (E : ℕ → ℕ → Bool) (x : Amounts) (j q d : ℕ) → j < n → q < n → T (E j q) → sum_below n (taken n E (more n E x j q d)) ≡ sum_below n (taken n E x) + d
sum_below_taken n E x j q d lj lq e = omega (
  arith,
  sum_hit n j d lj,
  sum_below_add n (taken n E x) (hit j d),
  sum_below_cong n (taken n E (more n E x j q d)) (λ k. taken n E x k + hit j d k) (λ k lk. taken_more n E x j q d k lq e),
)

-- t pairs served
pub record Serving (t : ℕ) (rest : List ℕ) (room : ℕ) (caps left : List ℕ) (free : ℕ) (caps' left' row : List ℕ) : Type 0 where
  pub caps_is : (j : ℕ) → taken 9 Pair (amounts_of row) j + at caps' j ≡ at caps j
  pub room_is : sum_below 9 (taken 9 Pair (amounts_of row)) + free ≡ room
  pub left_is : (q : ℕ) → got 9 Pair (amounts_of row) q + at left' q ≡ at left q
  pub unset : (s : ℕ) → t ≤ s → get_or row s 0 ≡ 0
  pub long : length row ≡ 14
  pub long_caps : length caps' ≡ 9
  pub long_left : length left' ≡ 9
  pub less_room : free ≤ room
  pub less_caps : (k : ℕ) → at caps' k ≤ at caps k
  pub less_left : (k : ℕ) → at left' k ≤ at left k
  pub serves : (ls : List Source) → Table rest ls → Hall 9 Pair (λ A. reach 9 (source_by room caps) A + reach_all 9 ls A) (at left)
      → Hall 9 Pair (λ A. reach 9 (source_by free caps') A + reach_all 9 ls A) (at left') × ((s : ℕ) → s < t → Stuck 9 Pair ls (source_by free caps') (at left') (cap_at s) (pos_at s))

-- one more pair
serving_give : (t : ℕ) (rest : List ℕ) (room : ℕ) (caps left : List ℕ) (free : ℕ) (caps' left' row : List ℕ) (d : ℕ) → t < 14
    → Serving t rest room caps left free caps' left' row
    → LimitTo 144 rest free caps' left' (cap_at t) (pos_at t) (min free (min (at caps' (cap_at t)) (at left' (pos_at t)))) d
    → Serving (t + 1) rest room caps left (free - d) (set caps' (cap_at t) (at caps' (cap_at t) - d)) (set left' (pos_at t) (at left' (pos_at t) - d)) (set row t d)
unfolding limit_cut
serving_give t rest room caps left free caps' left' row d lt s lim =
    let j : ℕ = cap_at t in
    let q : ℕ = pos_at t in
    let lj : cap_at t < 9 = (pair_good t lt).0 in
    let lq : pos_at t < 9 = (pair_good t lt).1 in
    let e : T (Pair (cap_at t) (pos_at t)) = (pair_good t lt).2 in
    let dr : d ≤ free = (three free (at caps' j) (at left' q) d lim.under).0 in
    let dc : d ≤ at caps' j = (three free (at caps' j) (at left' q) d lim.under).1 in
    let dp : d ≤ at left' q = (three free (at caps' j) (at left' q) d lim.under).2 in
    let am : amounts_of (set row t d) ≡ more 9 Pair (amounts_of row) (cap_at t) (pos_at t) d = amounts_more row t d lt s.long (s.unset t (same t)) in
    let cs : at (set caps' j (at caps' j - d)) ≡ low (at caps') j d = at_set caps' j d (below j (length caps') lj s.long_caps) in
    let ps : at (set left' q (at left' q - d)) ≡ low (at left') q d = at_set left' q d (below q (length left') lq s.long_left) in
    let lns : source_by (free - d) (set caps' j (at caps' j - d)) ≡ give (source_by free caps') j d = line_set free caps' j d (below j (length caps') lj s.long_caps) in
    record {
      caps_is = λ k. subst (λ (x : Amounts). taken 9 Pair x k + at (set caps' j (at caps' j - d)) k ≡ at caps k) (sym am)
          (subst (λ (f : ℕ → ℕ). taken 9 Pair (more 9 Pair (amounts_of row) j q d) k + f k ≡ at caps k) (sym cs)
          (shift (taken 9 Pair (amounts_of row) k) (taken 9 Pair (more 9 Pair (amounts_of row) j q d) k) (hit j d k) (at caps' k) (at caps k)
          (taken_more 9 Pair (amounts_of row) j q d k lq e) (s.caps_is k) (hit_le (at caps') j d dc k)));
      room_is = subst (λ (x : Amounts). sum_below 9 (taken 9 Pair x) + (free - d) ≡ room) (sym am)
          (shift (sum_below 9 (taken 9 Pair (amounts_of row))) (sum_below 9 (taken 9 Pair (more 9 Pair (amounts_of row) j q d))) d free room
          (sum_below_taken 9 Pair (amounts_of row) j q d lj lq e) s.room_is dr);
      left_is = λ k. subst (λ (x : Amounts). got 9 Pair x k + at (set left' q (at left' q - d)) k ≡ at left k) (sym am)
          (subst (λ (f : ℕ → ℕ). got 9 Pair (more 9 Pair (amounts_of row) j q d) k + f k ≡ at left k) (sym ps)
          (shift (got 9 Pair (amounts_of row) k) (got 9 Pair (more 9 Pair (amounts_of row) j q d) k) (hit q d k) (at left' k) (at left k)
          (got_more 9 Pair (amounts_of row) j q d k lj e) (s.left_is k) (hit_le (at left') q d dp k)));
      unset = λ i le. get_or-set_other row t i d 0 (apart i t le) ∙ s.unset i (wider i t le);
      long = length-set row t d ∙ s.long;
      long_caps = length-set caps' j (at caps' j - d) ∙ s.long_caps;
      long_left = length-set left' q (at left' q - d) ∙ s.long_left;
      less_room = lower free d room s.less_room;
      less_caps = λ k. subst (λ (f : ℕ → ℕ). f k ≤ at caps k) (sym cs) (lower (at caps' k) (hit j d k) (at caps k) (s.less_caps k));
      less_left = λ k. subst (λ (f : ℕ → ℕ). f k ≤ at left k) (sym ps) (lower (at left' k) (hit q d k) (at left k) (s.less_left k));
      serves = λ ls tab hall.
          let old : Hall 9 Pair (λ A. reach 9 (source_by free caps') A + reach_all 9 ls A) (at left') × ((i : ℕ) → i < t → Stuck 9 Pair ls (source_by free caps') (at left') (cap_at i) (pos_at i)) = s.serves ls tab hall in
          let new : Hall 9 Pair (λ A. reach 9 (give (source_by free caps') j d) A + reach_all 9 ls A) (low (at left') q d) × Stuck 9 Pair ls (give (source_by free caps') j d) (low (at left') q d) j q =
          stuck_now 9 Pair ls (source_by free caps') (at left') j q lj lq e old.0 (limit_cut rest ls free caps' left' j q (min free (min (at caps' j) (at left' q))) d lj lq tab lim) in
          subst (λ (l : Source). Hall 9 Pair (λ A. reach 9 l A + reach_all 9 ls A) (at (set left' q (at left' q - d))) × ((i : ℕ) → i < t + 1 → Stuck 9 Pair ls l (at (set left' q (at left' q - d))) (cap_at i) (pos_at i))) (sym lns)
          (subst (λ (p : ℕ → ℕ). Hall 9 Pair (λ A. reach 9 (give (source_by free caps') j d) A + reach_all 9 ls A) p × ((i : ℕ) → i < t + 1 → Stuck 9 Pair ls (give (source_by free caps') j d) p (cap_at i) (pos_at i))) (sym ps) (
            new.0,
            λ i li. ⊎_elim
                (λ l. stuck_stays 9 Pair ls (source_by free caps') (at left') (cap_at i) (pos_at i) j q d (pair_good i (within i t l lt)).0 (pair_good i (within i t l lt)).1 lj lq e dr dc dp (old.1 i l))
                (λ l. subst (λ (x : ℕ). Stuck 9 Pair ls (give (source_by free caps') j d) (low (at left') q d) (cap_at x) (pos_at x)) (sym l) new.1)
                (at_last t i li),
          ));
    }
  where
    three : (a b c d : ℕ) → d ≤ min a (min b c) → (d ≤ a) × (d ≤ b) × (d ≤ c)
    three a b c d h = (omega arith, omega arith, omega arith)

    below : (i n : ℕ) → i < 9 → n ≡ 9 → i < n
    below i n h e = omega arith

    same : (t : ℕ) → t ≤ t
    same t = omega arith

    wider : (i t : ℕ) → t + 1 ≤ i → t ≤ i
    wider i t h = omega arith

    apart : (i t : ℕ) → t + 1 ≤ i → i ≢ t
    apart i t h e = omega arith

    lower : (a b c : ℕ) → a ≤ c → a - b ≤ c
    lower a b c h = omega arith

    within : (i t : ℕ) → i < t → t < 14 → i < 14
    within i t h g = omega arith

pub serving_next : (t : ℕ) (rest : List ℕ) (room : ℕ) (caps left : List ℕ) (free : ℕ) (caps' left' row : List ℕ) (d j q : ℕ) (caps'' left'' : List ℕ) → t < 14
    → Serving t rest room caps left free caps' left' row → j ≡ cap_at t → q ≡ pos_at t
    → LimitTo 144 rest free caps' left' j q (min free (min (at caps' j) (at left' q))) d
    → caps'' ≡ set caps' j (at caps' j - d) → left'' ≡ set left' q (at left' q - d)
    → Serving (t + 1) rest room caps left (free - d) caps'' left'' (set row t d)
serving_next t rest room caps left free caps' left' row d j q caps'' left'' lt s ej eq lim ec el =
    subst (λ (x : List ℕ). Serving (t + 1) rest room caps left (free - d) x left'' (set row t d)) (sym (ec ∙ ap (λ (i : ℕ). set caps' i (at caps' i - d)) ej))
    (subst (λ (x : List ℕ). Serving (t + 1) rest room caps left (free - d) (set caps' (cap_at t) (at caps' (cap_at t) - d)) x (set row t d)) (sym (el ∙ ap (λ (i : ℕ). set left' i (at left' i - d)) eq))
    (serving_give t rest room caps left free caps' left' row d lt s
    (subst (λ (i : ℕ). LimitTo 144 rest free caps' left' i (pos_at t) (min free (min (at caps' i) (at left' (pos_at t)))) d) ej
    (subst (λ (i : ℕ). LimitTo 144 rest free caps' left' j i (min free (min (at caps' j) (at left' i))) d) eq lim))))

pub serving_none : (rest : List ℕ) (room free : ℕ) (caps left row : List ℕ) → length caps ≡ 9 → length left ≡ 9 → length row ≡ 14 → ((s : ℕ) → get_or row s 0 ≡ 0) → free ≡ room → Serving 0 rest room caps left free caps left row
unfolding amounts_of
serving_none rest room free caps left row lc ll lr z is =
    let none : amounts_by pairs row ≡ (λ j q. 0) = fun_ext (λ j. fun_ext (λ q. amounts_none pairs row z j q)) in
    subst (λ (n : ℕ). Serving 0 rest room caps left n caps left row) (sym is) (record {
      caps_is = λ k. subst (λ (x : Amounts). taken 9 Pair x k + at caps k ≡ at caps k) (sym none) (plus (taken 9 Pair (λ j q. 0) k) (at caps k) (zeros 9 (λ q. Pair k q)));
      room_is = subst (λ (x : Amounts). sum_below 9 (taken 9 Pair x) + room ≡ room) (sym none) (plus (sum_below 9 (taken 9 Pair (λ j q. 0))) room (all 9 9 Pair));
      left_is = λ k. subst (λ (x : Amounts). got 9 Pair x k + at left k ≡ at left k) (sym none) (plus (got 9 Pair (λ j q. 0) k) (at left k) (zeros 9 (λ j. Pair j k)));
      unset = λ s le. z s;
      long = lr;
      long_caps = lc;
      long_left = ll;
      less_room = same room;
      less_caps = λ k. same (at caps k);
      less_left = λ k. same (at left k);
      serves = λ ls tab hall. (hall, λ s lt. absurd (no s lt));
    })
  where
    same : (t : ℕ) → t ≤ t
    same t = omega arith

    no : (s : ℕ) → s < 0 → ⊥
    no s h = omega arith

    plus : (a b : ℕ) → a ≡ 0 → a + b ≡ b
    plus a b e = omega arith

    zeros : (m : ℕ) (B : Set) → sum_in m B (λ k. 0) ≡ 0
    zeros zero B = refl
    zeros (suc m) B = omega (arith, zeros m B, cond_none (B m))

    all : (m n : ℕ) (E : ℕ → ℕ → Bool) → sum_below m (taken n E (λ j q. 0)) ≡ 0
    all zero n E = refl
    all (suc m) n E = omega (arith, all m n E, zeros n (λ q. E m q))

pub served : (t : ℕ) (rest : List ℕ) (room : ℕ) (caps left : List ℕ) (free : ℕ) (caps' left' row : List ℕ) → t ≤ 14 → 14 ≤ t → Serving t rest room caps left free caps' left' row → Served rest room caps left left' row
served t rest room caps left free caps' left' row h1 h2 s = record {
  fits = record { caps = λ j lj. part (taken 9 Pair (amounts_of row) j) (at caps' j) (at caps j) (s.caps_is j); room = part (sum_below 9 (taken 9 Pair (amounts_of row))) free room s.room_is };
  gets = λ q lq. s.left_is q;
  less = s.less_left;
  long = s.long;
  serves = λ ls tab hall.
      let r : Hall 9 Pair (λ A. reach 9 (source_by free caps') A + reach_all 9 ls A) (at left') × ((i : ℕ) → i < t → Stuck 9 Pair ls (source_by free caps') (at left') (cap_at i) (pos_at i)) = s.serves ls tab hall in
      finish 9 Pair pair_trans pair_refl cuts9 ls (source_by free caps') (at left') r.0
      (λ j q lj lq e. all_pairs (λ j q. Stuck 9 Pair ls (source_by free caps') (at left') j q) (λ i li. r.1 i (within i t li h2)) j q e);
}
  where
    part : (a b c : ℕ) → a + b ≡ c → a ≤ c
    part a b c e = omega arith

    within : (i t : ℕ) → i < 14 → 14 ≤ t → i < t
    within i t h g = omega arith

abbrev many : ℕ → List ℕ
many zero = []
many (suc n) = 0 ∷ many n

many_zero : (n s : ℕ) → get_or (many n) s 0 ≡ 0
many_zero zero s = refl
many_zero (suc n) zero = refl
many_zero (suc n) (suc s) = many_zero n s

pub zeros14 : (s : ℕ) → ◌≡◌ {A = ℕ} (get_or (0 ∷ 0 ∷ 0 ∷ 0 ∷ 0 ∷ 0 ∷ 0 ∷ 0 ∷ 0 ∷ 0 ∷ 0 ∷ 0 ∷ 0 ∷ 0 ∷ []) s 0) 0
zeros14 s = many_zero 14 s
