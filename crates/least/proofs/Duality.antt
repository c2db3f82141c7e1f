-- No cover leaves less than the lack of a closed set; and where no closed set lacks more than u, some cover leaves at most u.
use Rattle.std.proofs.Common.{◌≡◌, ℕ, zero, suc, ◌+◌, ◌-◌, ◌<◌, ◌≤◌, Bool, cond, T, eqb, ◌⊎◌, List, [], ◌∷◌, sym, refl, ◌∙◌, subst, inl, inr, ⊎_elim, arith, eqb→eq}
use Rattle.least.specs.Sources.{Set, sum_in, Source, reach, reach_all, Closed, hit, low, give, Coverable, done, move, ◌⋉◌}
use Rattle.least.specs.Cover.{sum_below, Amounts, taken, got, Fits, FitsAll, got_all, Cover, uncovered}
use Rattle.least.proofs.Base.{bcase, cond_le, cond_zero, cond_yes, cond_no, sum_in_hit, hit_off, hit_le}
use Rattle.least.proofs.Step.{Cuts}
use Rattle.least.proofs.Serve.{covers}

pub sum_below_le : (n : ℕ) (f g : ℕ → ℕ) → ((k : ℕ) → k < n → f k ≤ g k) → sum_below n f ≤ sum_below n g
sum_below_le zero f g h = omega arith
sum_below_le (suc n) f g h = omega (arith, sum_below_le n f g (λ k lt. h k (omega arith)), h n (omega arith))

pub sum_below_add : (n : ℕ) (f g : ℕ → ℕ) → sum_below n (λ k. f k + g k) ≡ sum_below n f + sum_below n g
sum_below_add zero f g = refl
sum_below_add (suc n) f g = omega (arith, sum_below_add n f g)

pub sum_below_zero : (n : ℕ) → sum_below n (λ k. 0) ≡ 0
sum_below_zero zero = refl
sum_below_zero (suc n) = omega (arith, sum_below_zero n)

-- a double sum either way round
sum_swap : (n m : ℕ) (w : ℕ → ℕ → ℕ) → sum_below n (λ q. sum_below m (λ j. w j q)) ≡ sum_below m (λ j. sum_below n (λ q. w j q))
sum_swap n zero w = sum_below_zero n
sum_swap n (suc m) w = omega (arith, sum_swap n m w, sum_below_add n (λ q. sum_below m (λ j. w j q)) (λ q. w m q))

sum_in_sum_below : (n : ℕ) (A : Set) (f : ℕ → ℕ) → sum_in n A f ≡ sum_below n (λ k. cond (A k) (f k) 0)
sum_in_sum_below zero A f = refl
sum_in_sum_below (suc n) A f = omega (arith, sum_in_sum_below n A f)

pub sum_in_le : (n : ℕ) (A : Set) (f g : ℕ → ℕ) → ((k : ℕ) → k < n → T (A k) → f k ≤ g k) → sum_in n A f ≤ sum_in n A g
sum_in_le zero A f g h = omega arith
sum_in_le (suc n) A f g h = omega (
  arith,
  sum_in_le n A f g (λ k lt t. h k (omega arith) t),
  bcase {G = cond (A n) (f n) 0 ≤ cond (A n) (g n) 0} (A n)
      (λ t. omega (arith, h n (omega arith) t, cond_yes (A n) (f n) 0 t, cond_yes (A n) (g n) 0 t))
      (λ t. omega (arith, cond_no (A n) (f n) 0 t)),
)

pub sum_in_add : (n : ℕ) (A : Set) (f g : ℕ → ℕ) → sum_in n A (λ k. f k + g k) ≡ sum_in n A f + sum_in n A g
sum_in_add zero A f g = refl
sum_in_add (suc n) A f g = omega (
  arith,
  sum_in_add n A f g,
  bcase {G = cond (A n) (f n + g n) 0 ≡ cond (A n) (f n) 0 + cond (A n) (g n) 0} (A n)
      (λ t. omega (arith, cond_yes (A n) (f n + g n) 0 t, cond_yes (A n) (f n) 0 t, cond_yes (A n) (g n) 0 t))
      (λ t. omega (arith, cond_no (A n) (f n + g n) 0 t, cond_no (A n) (f n) 0 t, cond_no (A n) (g n) 0 t)),
)

pub sum_in_sum_below_le : (n : ℕ) (A : Set) (f : ℕ → ℕ) → sum_in n A f ≤ sum_below n f
sum_in_sum_below_le zero A f = omega arith
sum_in_sum_below_le (suc n) A f = omega (arith, sum_in_sum_below_le n A f, cond_le (A n) (f n))

pub sum_in_zero : (n : ℕ) (A : Set) → sum_in n A (λ k. 0) ≡ 0
sum_in_zero n A = omega (arith, sum_in_sum_below_le n A (λ k. 0), sum_below_zero n)

pub sum_below_cong : (n : ℕ) (f g : ℕ → ℕ) → ((k : ℕ) → k < n → f k ≡ g k) → sum_below n f ≡ sum_below n g
sum_below_cong n f g h = omega (arith, sum_below_le n f g (λ k lt. omega (arith, h k lt)), sum_below_le n g f (λ k lt. omega (arith, h k lt)))

module _ (n : ℕ) (E : ℕ → ℕ → Bool) where
  -- the amounts counted by capability and by position
  pub crossed : (x : Amounts) → sum_below n (got n E x) ≡ sum_below n (taken n E x)
  crossed x =
      let w : ℕ → ℕ → ℕ = λ j q. cond (E j q) (x j q) 0 in
      omega (
        arith,
        sum_swap n n w,
        sum_below_cong n (got n E x) (λ q. sum_below n (λ j. w j q)) (λ q lt. sum_in_sum_below n (λ j. E j q) (λ j. x j q)),
        sum_below_cong n (taken n E x) (λ j. sum_below n (λ q. w j q)) (λ j lt. sum_in_sum_below n (λ q. E j q) (λ q. x j q)),
      )

  -- what a closed set gets comes from its own capabilities
  got_from_own : (x : Amounts) (A : Set) → Closed E A → sum_in n A (got n E x) ≤ sum_in n A (taken n E x)
  got_from_own x A cl =
      let w : ℕ → ℕ → ℕ = λ j q. cond (A q) (cond (E j q) (x j q) 0) 0 in
      let v : ℕ → ℕ → ℕ = λ j q. cond (A j) (cond (E j q) (x j q) 0) 0 in
      let left : sum_in n A (got n E x) ≤ sum_below n (λ q. sum_below n (λ j. w j q)) =
      omega (
        arith,
        sum_in_sum_below n A (got n E x),
        sum_below_le n (λ q. cond (A q) (got n E x q) 0) (λ q. sum_below n (λ j. w j q))
            (λ q lt. bcase (A q)
            (λ t. omega (
              arith,
              cond_yes (A q) (got n E x q) 0 t,
              sum_in_sum_below n (λ j. E j q) (λ j. x j q),
              sum_below_le n (λ j. cond (E j q) (x j q) 0) (λ j. w j q) (λ j lj. omega (arith, cond_yes (A q) (cond (E j q) (x j q) 0) 0 t)),
            ))
            (λ t. omega (arith, cond_no (A q) (got n E x q) 0 t))),
      ) in
      let mid : sum_below n (λ j. sum_below n (λ q. w j q)) ≤ sum_below n (λ j. sum_below n (λ q. v j q)) =
      sum_below_le n (λ j. sum_below n (λ q. w j q)) (λ j. sum_below n (λ q. v j q)) (λ j lj. sum_below_le n (λ q. w j q) (λ q. v j q) (λ q lq. bcase (A q)
      (λ t. bcase (E j q)
      (λ e. omega (arith, cond_le (A q) (cond (E j q) (x j q) 0), cond_yes (A j) (cond (E j q) (x j q) 0) 0 (cl j q e t)))
      (λ e. omega (arith, cond_le (A q) (cond (E j q) (x j q) 0), cond_no (E j q) (x j q) 0 e)))
      (λ t. omega (arith, cond_no (A q) (cond (E j q) (x j q) 0) 0 t)))) in
      let right : sum_below n (λ j. sum_below n (λ q. v j q)) ≤ sum_in n A (taken n E x) =
      omega (
        arith,
        sum_in_sum_below n A (taken n E x),
        sum_below_le n (λ j. sum_below n (λ q. v j q)) (λ j. cond (A j) (taken n E x j) 0)
            (λ j lj. bcase (A j)
            (λ t. omega (
              arith,
              cond_yes (A j) (taken n E x j) 0 t,
              sum_in_sum_below n (λ q. E j q) (λ q. x j q),
              sum_below_le n (λ q. v j q) (λ q. cond (E j q) (x j q) 0) (λ q lq. omega (arith, cond_le (A j) (cond (E j q) (x j q) 0))),
            ))
            (λ t. omega (arith, sum_below_zero n, sum_below_le n (λ q. v j q) (λ q. 0) (λ q lq. omega (arith, cond_no (A j) (cond (E j q) (x j q) 0) 0 t))))),
      ) in
      omega (arith, left, mid, right, sum_swap n n w)

  -- what a closed set gets is at most what the line reaches by it, and so for all lines
  reach_bound : (l : Source) (x : Amounts) → Fits n E l x → (A : Set) → Closed E A → sum_in n A (got n E x) ≤ reach n l A
  reach_bound l x f A cl =
      omega (arith, got_from_own x A cl, sum_in_le n A (taken n E x) l.capability (λ k lt t. f.caps k lt), crossed x, sum_in_sum_below_le n A (got n E x), f.room)

  pub bound : (ls : List Source) (xs : List Amounts) → FitsAll n E ls xs → (A : Set) → Closed E A → sum_in n A (got_all n E xs) ≤ reach_all n ls A
  bound [] [] f A cl = omega (arith, sum_in_zero n A)
  bound [] (x ∷ xs) f A cl = absurd f
  bound (l ∷ ls) [] f A cl = absurd f
  bound (l ∷ ls) (x ∷ xs) f A cl =
      omega (arith, reach_bound l x f.0 A cl, bound ls xs f.1 A cl, sum_in_add n A (got n E x) (got_all n E xs))

  -- no cover leaves less than the lack of a closed set
  pub weak : (ls : List Source) (p : ℕ → ℕ) (xs : List Amounts) → Cover n E ls p xs → (A : Set) → Closed E A
      → sum_in n A p ≤ reach_all n ls A + uncovered n E p xs
  weak ls p xs c A cl =
      let h : ℕ → ℕ = λ q. p q - got_all n E xs q in
      let split : sum_below n h + sum_below n (got_all n E xs) ≡ sum_below n p =
      omega (arith, sum_below_add n h (got_all n E xs), sum_below_cong n (λ q. h q + got_all n E xs q) p (λ q lt. omega (arith, c.under q lt))) in
      omega (
        arith,
        split,
        bound ls xs c.fits A cl,
        sum_in_sum_below_le n A h,
        sum_in_add n A h (got_all n E xs),
        sum_in_le n A p (λ q. h q + got_all n E xs q) (λ q lt t. omega (arith, c.under q lt)),
      )

  -- d more of capability j for position q
  abbrev pub more : Amounts → ℕ → ℕ → ℕ → Amounts
  more x j q d j' q' = x j' q' + hit j (hit q d q') j'

  pub got_more : (x : Amounts) (j q d q' : ℕ) → j < n → T (E j q) → got n E (more x j q d) q' ≡ got n E x q' + hit q d q'
  got_more x j q d q' lj e =
      let z : cond (E j q') (hit q d q') 0 ≡ hit q d q' = bcase (eqb q' q)
      (λ t. cond_yes (E j q') (hit q d q') 0 (subst (λ (i : ℕ). T (E j i)) (sym (eqb→eq q' q t)) e))
      (λ t. let o : hit q d q' ≡ 0 = cond_no (eqb q' q) d 0 t in cond_zero (E j q') (hit q d q') o ∙ sym o) in
      omega (arith, z, sum_in_add n (λ i. E i q') (λ i. x i q') (λ i. hit j (hit q d q') i), sum_in_hit n (λ i. E i q') j (hit q d q') lj)

  pub taken_more : (x : Amounts) (j q d j' : ℕ) → q < n → T (E j q) → taken n E (more x j q d) j' ≡ taken n E x j' + hit j d j'
  taken_more x j q d j' lq e =
      let u : ℕ → ℕ = λ i. hit j (hit q d i) j' in
      let z : sum_in n (λ i. E j' i) u ≡ hit j d j' = bcase (eqb j' j)
      (λ t. let same : (i : ℕ) → u i ≡ hit q d i = λ i. cond_yes (eqb j' j) (hit q d i) 0 t in
      let ej : T (E j' q) = subst (λ (i : ℕ). T (E i q)) (sym (eqb→eq j' j t)) e in
      omega (
        arith,
        sum_in_le n (λ i. E j' i) u (hit q d) (λ i li ti. omega (arith, same i)),
        sum_in_le n (λ i. E j' i) (hit q d) u (λ i li ti. omega (arith, same i)),
        sum_in_hit n (λ i. E j' i) q d lq,
        cond_yes (E j' q) d 0 ej,
        cond_yes (eqb j' j) d 0 t,
      ))
      (λ t. let none : (i : ℕ) → u i ≡ 0 = λ i. cond_no (eqb j' j) (hit q d i) 0 t in
      omega (arith, sum_in_sum_below_le n (λ i. E j' i) u, sum_below_zero n, sum_below_le n u (λ i. 0) (λ i li. omega (arith, none i)), cond_no (eqb j' j) d 0 t)) in
      omega (arith, z, sum_in_add n (λ i. E j' i) (λ i. x j' i) u)

  pub sum_below_hit : (m j d : ℕ) → sum_below m (hit j d) ≤ d
  sum_below_hit zero j d = omega arith
  sum_below_hit (suc m) j d = bcase (eqb m j)
      (λ t. omega (arith, sum_below_none m j d (omega (arith, eqb→eq m j t)), cond_le (eqb m j) d))
      (λ t. omega (arith, sum_below_hit m j d, cond_no (eqb m j) d 0 t))
    where
      sum_below_none : (m j d : ℕ) → m ≤ j → sum_below m (hit j d) ≡ 0
      sum_below_none zero j d le = refl
      sum_below_none (suc m) j d le = omega (arith, sum_below_none m j d (omega arith), hit_off m j d (λ e. omega arith))

  pub fits_more : (l : Source) (x : Amounts) (j q d : ℕ) → q < n → T (E j q) → d ≤ l.room → d ≤ l.capability j → Fits n E (give l j d) x → Fits n E l (more x j q d)
  fits_more l x j q d lq e dr dc f = record {
    caps = λ k lk. bcase (eqb k j)
        (λ t. let dk : d ≤ l.capability k = subst (λ (i : ℕ). d ≤ l.capability i) (sym (eqb→eq k j t)) dc in
        omega (arith, dk, taken_more x j q d k lq e, f.caps k lk, cond_yes (eqb k j) d 0 t))
        (λ t. omega (arith, taken_more x j q d k lq e, f.caps k lk, cond_no (eqb k j) d 0 t));
    room = omega (
      arith,
      f.room,
      sum_below_hit n j d,
      sum_below_add n (taken n E x) (hit j d),
      sum_below_cong n (taken n E (more x j q d)) (λ k. taken n E x k + hit j d k) (λ k lk. taken_more x j q d k lq e),
    );
  }

  -- amounts for the lines P made into amounts for the lines Q, with d more for position q
  abbrev Lifts : (q d : ℕ) → List Source → List Source → Type 0
  Lifts q d P Q = (xs : List Amounts) → FitsAll n E P xs → (ys : List Amounts) × FitsAll n E Q ys × ((k : ℕ) → got_all n E ys k ≡ got_all n E xs k + hit q d k)

  lift_cons : (q d : ℕ) (l : Source) (P Q : List Source) → Lifts q d P Q → Lifts q d (l ∷ P) (l ∷ Q)
  lift_cons q d l P Q h [] f = absurd f
  lift_cons q d l P Q h (x ∷ xs) f = let r : (ys : List Amounts) × FitsAll n E Q ys × ((k : ℕ) → got_all n E ys k ≡ got_all n E xs k + hit q d k) = h xs f.1 in
      (x ∷ r.0, (f.0, r.1), λ k. omega (arith, r.2 k))

  lift : (q d : ℕ) (pre P Q : List Source) → Lifts q d P Q → Lifts q d (pre ⋉ P) (pre ⋉ Q)
  lift q d [] P Q h = h
  lift q d (l ∷ pre) P Q h = lift q d pre (l ∷ P) (l ∷ Q) (lift_cons q d l P Q h)

  lift_here : (j q d : ℕ) (l : Source) (post : List Source) → j < n → q < n → T (E j q) → d ≤ l.room → d ≤ l.capability j → Lifts q d (give l j d ∷ post) (l ∷ post)
  lift_here j q d l post lj lq e dr dc [] f = absurd f
  lift_here j q d l post lj lq e dr dc (x ∷ xs) f =
      (more x j q d ∷ xs, (fits_more l x j q d lq e dr dc f.0, f.1), λ k. omega (arith, got_more x j q d k lj e))

  -- amounts that give every position all that it asks for
  abbrev pub Full : List Source → (ℕ → ℕ) → Type 0
  Full ls p = (xs : List Amounts) × FitsAll n E ls xs × ((q : ℕ) → q < n → got_all n E xs q ≡ p q)

  -- a cover that gives nothing
  nothing_given : (ls : List Source) → (xs : List Amounts) × FitsAll n E ls xs × ((q : ℕ) → got_all n E xs q ≡ 0)
  nothing_given [] = ([], tt, λ q. refl)
  nothing_given (l ∷ ls) = let r : (xs : List Amounts) × FitsAll n E ls xs × ((q : ℕ) → got_all n E xs q ≡ 0) = nothing_given ls in
      let ot : sum_below n (taken n E (λ j q. 0)) ≡ 0 = omega (arith, sum_below_zero n, sum_below_cong n (taken n E (λ j q. 0)) (λ k. 0) (λ k lk. sum_in_zero n (λ q. E k q))) in
      ((λ j q. 0) ∷ r.0, (record { caps = λ j lj. omega (arith, sum_in_zero n (λ q. E j q)); room = omega (arith, ot) }, r.1), λ q. omega (arith, r.2 q, sum_in_zero n (λ j. E j q)))

  -- one giving after another, put together as amounts
  pub amounts : {ls : List Source} {p : ℕ → ℕ} → Coverable n E ls p → Full ls p
  amounts (done ls p z) = let r : (xs : List Amounts) × FitsAll n E ls xs × ((q : ℕ) → got_all n E xs q ≡ 0) = nothing_given ls in
      (r.0, r.1, λ q lq. omega (arith, r.2 q, z q lq))
  amounts (move pre post l p j q d lj lq e dr dc dp c) =
      let r : Full (pre ⋉ (give l j d ∷ post)) (low p q d) = amounts c in
      let s : (ys : List Amounts) × FitsAll n E (pre ⋉ (l ∷ post)) ys × ((k : ℕ) → got_all n E ys k ≡ got_all n E r.0 k + hit q d k) =
      lift q d pre (give l j d ∷ post) (l ∷ post) (lift_here j q d l post lj lq e dr dc) r.0 r.1 in
      (s.0, s.1, λ k lk. omega (arith, s.2 k, r.2 k lk, hit_le p q d dp k))

  -- the budget u as one more line
  abbrev pub budget : ℕ → Source
  budget u = record { room = u; capability = λ j. u }

  pub some_or_none : (m u : ℕ) (A : Set) (p : ℕ → ℕ) → (u ≤ sum_in m A (λ k. u)) ⊎ (sum_in m A p ≡ 0)
  some_or_none zero u A p = inr refl
  some_or_none (suc m) u A p = bcase (A m)
      (λ t. inl (omega (arith, cond_yes (A m) u 0 t)))
      (λ t. ⊎_elim (λ h. inl (omega (arith, h))) (λ h. inr (omega (arith, h, cond_no (A m) (p m) 0 t))) (some_or_none m u A p))

  module _ (tr : (i j k : ℕ) → T (E i j) → T (E j k) → T (E i k)) (rf : (q : ℕ) → q < n → T (E q q)) (cuts : Cuts n E) where
    -- where no closed set lacks more than u, some cover leaves at most u
    pub strong : (ls : List Source) (p : ℕ → ℕ) (u : ℕ) → ((A : Set) → Closed E A → sum_in n A p ≤ reach_all n ls A + u)
        → (xs : List Amounts) × Cover n E ls p xs × (uncovered n E p xs ≤ u)
    strong ls p u h = cut_first (amounts (covers n E tr rf cuts (budget u ∷ ls) p (λ A cl. ⊎_elim
        (λ s. omega (arith, s, h A cl)) (λ s. omega (arith, s)) (some_or_none n u A p))))
      where
        cut_first : Full (budget u ∷ ls) p → (xs : List Amounts) × Cover n E ls p xs × (uncovered n E p xs ≤ u)
        cut_first ([], f, g) = absurd f
        cut_first (x ∷ xs, f, g) = (
          xs,
          record { fits = f.1; under = λ q lq. omega (arith, g q lq) },
          omega (arith, f.0.room, crossed x, sum_below_add n (got n E x) (got_all n E xs), sum_below_cong n (λ q. got n E x q + got_all n E xs q) p g),
        )
