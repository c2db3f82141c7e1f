-- One giving: how much a line may give a position before a closed set falls short, and the set that stops it.
use Rattle.std.proofs.Common.{◌≡◌, ℕ, ◌+◌, ◌-◌, ◌<◌, ◌≤◌, Bool, cond, not, T, ◌⊎◌, inl, inr, ⊎_elim, arith}
use Rattle.least.specs.Sources.{Set, sum_in, Source, reach, Closed, Hall, low, give}
use Rattle.least.proofs.Base.{◌∪◌, ◌∩◌, Below, bcase, cond_yes, cond_no, sum_in_mod, sum_in_low, getsum, Sub, and_left, and_right, and_both, or_left, or_right, or_split}

module _ (n : ℕ) (E : ℕ → ℕ → Bool) where
  pub closed-∪ : (A B : Set) → Closed E A → Closed E B → Closed E (A ∪ B)
  closed-∪ A B ca cb j q e t = ⊎_elim (λ s. or_left (A j) (B j) (ca j q e s)) (λ s. or_right (A j) (B j) (cb j q e s)) (or_split (A q) (B q) t)

  pub closed-∩ : (A B : Set) → Closed E A → Closed E B → Closed E (A ∩ B)
  closed-∩ A B ca cb j q e t = and_both (A j) (B j) (ca j q e (and_left (A q) (B q) t)) (cb j q e (and_right (A q) (B q) t))

  -- sets that ask for all that they are reached by: so does their union
  pub tight_join : (F : Set → ℕ) (p : ℕ → ℕ) → Sub n F → Hall n E F p → (A B : Set) → Closed E A → Closed E B
      → F A ≤ sum_in n A p → F B ≤ sum_in n B p → F (A ∪ B) ≤ sum_in n (A ∪ B) p
  tight_join F p s hall A B ca cb ta tb = omega (arith, s.subm A B, hall (A ∩ B) (closed-∩ A B ca cb), sum_in_mod n A B p)

  -- what position q may still get from capability j of line l before the set A runs short
  abbrev pub spare : Source → (Set → ℕ) → (ℕ → ℕ) → ℕ → Set → ℕ
  spare l R p j A = (R A + cond (A j) (reach n l A) l.room) - sum_in n A p

  -- a giving within the spare of every closed set leaves none short
  pub step_good : (l : Source) (R : Set → ℕ) (p : ℕ → ℕ) (j q d : ℕ) → j < n → q < n → T (E j q) → d ≤ l.room → d ≤ l.capability j → d ≤ p q
      → Hall n E (λ A. reach n l A + R A) p
      → ((A : Set) → Closed E A → T (not (A q)) → d ≤ spare l R p j A)
      → Hall n E (λ A. reach n (give l j d) A + R A) (low p q d)
  step_good l R p j q d lj lq e dr dc dp hall ok A cl = bcase (A q)
      (λ t. let tj : T (A j) = cl j q e t in
      omega (arith, hall A cl, sum_in_low n A p q d lq dp, cond_yes (A q) d 0 t, sum_in_low n A l.capability j d lj dc, cond_yes (A j) d 0 tj))
      (λ t. bcase (A j)
      (λ tj. omega (arith, hall A cl, ok A cl t, sum_in_low n A p q d lq dp, cond_no (A q) d 0 t, sum_in_low n A l.capability j d lj dc, cond_yes (A j) d 0 tj, cond_yes (A j) (reach n l A) l.room tj))
      (λ tj. omega (arith, hall A cl, ok A cl t, sum_in_low n A p q d lq dp, cond_no (A q) d 0 t, sum_in_low n A l.capability j d lj dc, cond_no (A j) d 0 tj, cond_no (A j) (reach n l A) l.room tj)))

  -- a set that stops the giving is tight afterwards, and the line is used up on it
  pub step_tight : (l : Source) (R : Set → ℕ) (p : ℕ → ℕ) (j q d : ℕ) → j < n → q < n → d ≤ l.room → d ≤ l.capability j → d ≤ p q
      → Hall n E (λ A. reach n (give l j d) A + R A) (low p q d)
      → (A : Set) → Closed E A → T (not (A q)) → spare l R p j A ≤ d
      → (reach n (give l j d) A + R A ≤ sum_in n A (low p q d)) × ((l.room - d ≤ sum_in n A (low l.capability j d)) ⊎ T (A j))
  step_tight l R p j q d lj lq dr dc dp hall A cl t full = bcase (A j)
      (λ tj. (omega (arith, hall A cl, full, sum_in_low n A p q d lq dp, cond_no (A q) d 0 t, sum_in_low n A l.capability j d lj dc, cond_yes (A j) d 0 tj, cond_yes (A j) (reach n l A) l.room tj, getsum n A l.capability j lj tj), inr tj))
      (λ tj. (
        omega (arith, hall A cl, full, sum_in_low n A p q d lq dp, cond_no (A q) d 0 t, sum_in_low n A l.capability j d lj dc, cond_no (A j) d 0 tj, cond_no (A j) (reach n l A) l.room tj),
        inl (omega (arith, hall A cl, full, sum_in_low n A p q d lq dp, cond_no (A q) d 0 t, sum_in_low n A l.capability j d lj dc, cond_no (A j) d 0 tj, cond_no (A j) (reach n l A) l.room tj)),
      ))

  -- a tight set without q stays tight
  pub step_keeps : (l : Source) (R : Set → ℕ) (p : ℕ → ℕ) (j q d : ℕ) → j < n → q < n → d ≤ l.room → d ≤ l.capability j → d ≤ p q
      → (B : Set) → T (not (B q)) → reach n l B + R B ≤ sum_in n B p → reach n (give l j d) B + R B ≤ sum_in n B (low p q d)
  step_keeps l R p j q d lj lq dr dc dp B t tight =
      omega (arith, sum_in_low n B p q d lq dp, cond_no (B q) d 0 t, sum_in_low n B l.capability j d lj dc)

  -- the least of the spares of the closed sets without q, or b
  pub record Cut (s : Set → ℕ) (q b : ℕ) : Type 0 where
    pub greatest : ℕ
    pub under : greatest ≤ b
    pub each : (A : Set) → Closed E A → T (not (A q)) → greatest ≤ s A
    pub why : (b ≤ greatest) ⊎ ((A : Set) × Closed E A × T (not (A q)) × (s A ≤ greatest))

  -- s is the same at sets with the same members
  abbrev pub Alike : (Set → ℕ) → Type 0
  Alike s = (A B : Set) → Below n A B → Below n B A → s A ≡ s B

  -- every such least is found
  abbrev pub Cuts : Type 0
  Cuts = (s : Set → ℕ) (q b : ℕ) → q < n → Alike s → Cut s q b

  -- the line l is used up on B, or for position q: of its first m capabilities each that may cover q is in B or at 0
  abbrev pub Used : (q m : ℕ) → Source → Set → Type 0
  Used q m l B = (l.room ≤ sum_in n B l.capability) ⊎ ((j : ℕ) → j < m → T (E j q) → T (B j) ⊎ (l.capability j ≡ 0))

  -- position q after m capabilities of the line l: no closed set falls short, and B is tight, without q, and l used up
  pub record St (R : Set → ℕ) (q m : ℕ) (l : Source) (p : ℕ → ℕ) (B : Set) : Type 0 where
    pub hall : Hall n E (λ A. reach n l A + R A) p
    pub closed : Closed E B
    pub tight : reach n l B + R B ≤ sum_in n B p
    pub off : T (not (B q))
    pub used : Used q m l B
