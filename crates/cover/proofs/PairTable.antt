-- The fourteen pairs by number, and the amounts of a row.
use Rattle.std.proofs.Common.{◌≡◌, ℕ, zero, suc, ◌+◌, ◌<◌, Bool, true, false, cond, T, eqb, List, [], ◌∷◌, length, get_or, set, sym, refl, ap, ◌∙◌, subst, arith, lit<}
use mathlib.Core.Path.{fun_ext}
use Rattle.least.specs.Sources.{hit}
use Rattle.least.specs.Cover.{pairs, Pair}
use Rattle.least.proofs.Duality.{more}
use Rattle.least.proofs.Chains.{AllAt, from_all}
use Rattle.cover.specs.Amounts.{amounts_by, amounts_of, cap_at, pos_at}

-- the pairs by number
at_pair : (P : ℕ → ℕ → Type 0) (ts : List (ℕ × ℕ)) → AllAt P ts → (t : ℕ) → t < length ts → P (get_or ts t (0, 0)).0 (get_or ts t (0, 0)).1
at_pair P [] a t lt = absurd (none t lt)
  where
    none : (t : ℕ) → t < zero → ⊥
    none t h = omega arith
at_pair P (x ∷ ts) a zero lt = a.0
at_pair P (x ∷ ts) a (suc t) lt = at_pair P ts a.1 t (omega arith)

pub pair_good : (t : ℕ) → t < 14 → (cap_at t < 9) × (pos_at t < 9) × T (Pair (cap_at t) (pos_at t))
unfolding cap_at pos_at
pair_good t lt = at_pair (λ j q. (j < 9) × (q < 9) × T (Pair j q)) pairs (
  (lit< tt, lit< tt, tt),
  (
    (lit< tt, lit< tt, tt),
    (
      (lit< tt, lit< tt, tt),
      (
        (lit< tt, lit< tt, tt),
        (
          (lit< tt, lit< tt, tt),
          (
            (lit< tt, lit< tt, tt),
            (
              (lit< tt, lit< tt, tt),
              ((lit< tt, lit< tt, tt), ((lit< tt, lit< tt, tt), ((lit< tt, lit< tt, tt), ((lit< tt, lit< tt, tt), ((lit< tt, lit< tt, tt), ((lit< tt, lit< tt, tt), ((lit< tt, lit< tt, tt), tt))))))),
            ),
          ),
        ),
      ),
    ),
  ),
) t lt

-- what holds at each number holds at each pair
pub all_pairs : (P : ℕ → ℕ → Type 0) → ((t : ℕ) → t < 14 → P (cap_at t) (pos_at t)) → (j q : ℕ) → T (Pair j q) → P j q
unfolding cap_at pos_at
all_pairs P f = from_all P pairs (
  f 0 (lit< tt),
  (
    f 1 (lit< tt),
    (
      f 2 (lit< tt),
      (
        f 3 (lit< tt),
        (
          f 4 (lit< tt),
          (
            f 5 (lit< tt),
            (
              f 6 (lit< tt),
              (
                f 7 (lit< tt),
                (
                  f 8 (lit< tt),
                  (
                    f 9 (lit< tt),
                    (f 10 (lit< tt), (f 11 (lit< tt), (f 12 (lit< tt), (f 13 (lit< tt), tt)))),
                  ),
                ),
              ),
            ),
          ),
        ),
      ),
    ),
  ),
)

-- the amounts of a row
pub cond_none : (b : Bool) → ◌≡◌ {A = ℕ} (cond b 0 0) 0
cond_none true = refl
cond_none false = refl

hit_none : (j q j' q' : ℕ) → hit j (hit q 0 q') j' ≡ 0
hit_none j q j' q' = ap (λ (x : ℕ). cond (eqb j' j) x 0) (cond_none (eqb q' q)) ∙ cond_none (eqb j' j)

pub amounts_none : (ts : List (ℕ × ℕ)) (vs : List ℕ) → ((s : ℕ) → get_or vs s 0 ≡ 0) → (j q : ℕ) → amounts_by ts vs j q ≡ 0
amounts_none [] vs z j q = refl
amounts_none (t ∷ ts) [] z j q = refl
amounts_none (t ∷ ts) (v ∷ vs) z j q =
    let e : hit t.0 (hit t.1 v q) j ≡ 0 = subst (λ (x : ℕ). hit t.0 (hit t.1 x q) j ≡ 0) (sym (z 0)) (hit_none t.0 t.1 j q) in
    omega (arith, e, amounts_none ts vs (λ s. z (suc s)) j q)

amounts_set : (ts : List (ℕ × ℕ)) (vs : List ℕ) (i d : ℕ) → i < length vs → i < length ts → get_or vs i 0 ≡ 0
    → (j q : ℕ) → amounts_by ts (set vs i d) j q ≡ amounts_by ts vs j q + hit (get_or ts i (0, 0)).0 (hit (get_or ts i (0, 0)).1 d q) j
amounts_set [] vs i d lv lt z j q = let no : ⊥ = omega arith in absurd no
amounts_set (t ∷ ts) [] i d lv lt z j q = let no : ⊥ = omega arith in absurd no
amounts_set (t ∷ ts) (v ∷ vs) zero d lv lt z j q =
    let e : hit t.0 (hit t.1 v q) j ≡ 0 = subst (λ (x : ℕ). hit t.0 (hit t.1 x q) j ≡ 0) (sym z) (hit_none t.0 t.1 j q) in
    omega (arith, e)
amounts_set (t ∷ ts) (v ∷ vs) (suc i) d lv lt z j q = omega (arith, amounts_set ts vs i d (omega arith) (omega arith) z j q)

pub amounts_more : (row : List ℕ) (t d : ℕ) → t < 14 → length row ≡ 14 → get_or row t 0 ≡ 0 → amounts_of (set row t d) ≡ more 9 Pair (amounts_of row) (cap_at t) (pos_at t) d
unfolding amounts_of cap_at pos_at
amounts_more row t d lt len z = fun_ext (λ j. fun_ext (λ q. amounts_set pairs row t d (omega (arith, len)) lt z j q))
