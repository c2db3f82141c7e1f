-- The limit of a giving, one set after another.
use Rattle.std.proofs.Common.{◌≡◌, ℕ, ◌+◌, ◌-◌, ◌<◌, ◌≤◌, min, Bool, true, false, cond, not, T, eqb, ◌⊎◌, List, get_or, sym, ap, ◌∙◌, subst, inl, inr, ⊎_elim, true≢false, arith, eqb→eq, eq-eqb}
use Rattle.std.proofs.lemmas.Bool.{cases_lt}
use Rattle.least.specs.Chains.{mem}
use Rattle.least.proofs.Base.{bcase}
use Rattle.cover.specs.Sets.{sum_to, spare_at, LimitTo}

pub spare_is : (rest : List ℕ) (room : ℕ) (caps left : List ℕ) (j k : ℕ) (b : Bool) (g s : ℕ) → b ≡ mem k j → g ≡ cond b (min room (sum_to 9 k caps)) room → s ≡ sum_to 9 k left
    → (get_or rest k 0 + g) - s ≡ spare_at rest room caps left j k
unfolding spare_at
spare_is rest room caps left j k b g s e eg es =
    let u : g ≡ cond (mem k j) (min room (sum_to 9 k caps)) room = eg ∙ ap (λ (x : Bool). cond x (min room (sum_to 9 k caps)) room) e in omega (arith, u, es)

pub at_last : (K k : ℕ) → k < K + 1 → (k < K) ⊎ (k ≡ K)
at_last K k lt = bcase (eqb k K) (λ t. inr (eqb→eq k K t)) (λ t. inl (omega (arith, ne t)))
  where
    ne : T (not (eqb k K)) → k ≡ K → ⊥
    ne t e = subst (λ (b : Bool). T (not b)) (eq-eqb k K e) t

-- one more set: r stays, where the set holds q or leaves as much, or comes down to what the set leaves
module _ (rest : List ℕ) (room : ℕ) (caps left : List ℕ) (j q b : ℕ) where
  pub limit_skip : (K r d : ℕ) → LimitTo K rest room caps left j q b r → mem K q ≡ true → d ≡ r → LimitTo (K + 1) rest room caps left j q b d
  limit_skip K r d c t is = subst (λ (x : ℕ). LimitTo (K + 1) rest room caps left j q b x) (sym is) (record {
    under = c.under;
    each = λ k lt e. ⊎_elim (λ l. c.each k l e) (λ s. absurd (true≢false (sym t ∙ ap (λ (i : ℕ). mem i q) (sym s) ∙ e))) (at_last K k lt);
    why = ⊎_elim (λ h. inl h) (λ w. inr (w.0, omega (arith, w.1), w.2, w.3)) c.why;
  })

  limit_keep : (K r e d : ℕ) → LimitTo K rest room caps left j q b r → e ≡ spare_at rest room caps left j K → r ≤ e → d ≡ r → LimitTo (K + 1) rest room caps left j q b d
  limit_keep K r e d c i h is = subst (λ (x : ℕ). LimitTo (K + 1) rest room caps left j q b x) (sym is) (record {
    under = c.under;
    each = λ k lt f. ⊎_elim (λ l. c.each k l f) (λ s. subst (λ (i : ℕ). r ≤ spare_at rest room caps left j i) (sym s) (omega (arith, i))) (at_last K k lt);
    why = ⊎_elim (λ h. inl h) (λ w. inr (w.0, omega (arith, w.1), w.2, w.3)) c.why;
  })

  limit_take : (K r e d : ℕ) → LimitTo K rest room caps left j q b r → mem K q ≡ false → e ≡ spare_at rest room caps left j K → e < r → d ≡ e → LimitTo (K + 1) rest room caps left j q b d
  limit_take K r e d c f i h is = subst (λ (x : ℕ). LimitTo (K + 1) rest room caps left j q b x) (sym is) (record {
    under = omega (arith, c.under);
    each = λ k lt g. ⊎_elim (λ l. omega (arith, c.each k l g)) (λ s. subst (λ (i : ℕ). e ≤ spare_at rest room caps left j i) (sym s) (omega (arith, i))) (at_last K k lt);
    why = inr (K, omega arith, f, omega (arith, i));
  })

  pub limit_less : (K r e d : ℕ) → LimitTo K rest room caps left j q b r → mem K q ≡ false → e ≡ spare_at rest room caps left j K → d ≡ min r e → LimitTo (K + 1) rest room caps left j q b d
  limit_less K r e d c f i is = ⊎_elim (λ h. limit_take K r e d c f i h (omega arith)) (λ h. limit_keep K r e d c i h (omega arith)) (cases_lt e r)

pub gain_yes : (b : Bool) (room x s g : ℕ) → b ≡ true → s ≡ x → g ≡ min room s → g ≡ cond b (min room x) room
gain_yes b room x s g t e h = h ∙ ap (λ (y : ℕ). min room y) e ∙ ap (λ (y : Bool). cond y (min room x) room) (sym t)

pub gain_no : (b : Bool) (room x g : ℕ) → b ≡ false → g ≡ room → g ≡ cond b (min room x) room
gain_no b room x g t h = h ∙ ap (λ (y : Bool). cond y (min room x) room) (sym t)
