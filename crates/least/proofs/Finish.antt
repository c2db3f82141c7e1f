-- A line served to the end: when no pair can be given one more, the other lines cover what is left.
use Rattle.std.proofs.Common.{◌≡◌, ℕ, zero, suc, ◌+◌, ◌-◌, ◌<◌, ◌≤◌, min, Bool, true, false, cond, T, eqb, ◌⊎◌, List, [], ◌∷◌, sym, refl, subst, inl, inr, ⊎_elim, arith, eqb→eq}
use mathlib.Core.Path.{fun_ext}
use Rattle.least.specs.Sources.{Set, sum_in, Source, reach, reach_all, Hall, hit, low, give}
use Rattle.least.specs.Cover.{sum_below, Amounts, taken, got, Fits, got_all}
use Rattle.least.proofs.Base.{apart, bcase, cond_yes, cond_no, sum_in_low, hit_at}
use Rattle.least.proofs.Step.{spare, step_good, step_tight, Cut, Cuts}
use Rattle.least.proofs.Serve.{covers}
use Rattle.least.proofs.Duality.{sum_below_add, sum_below_cong, sum_in_le, sum_in_zero, more, got_more, taken_more, Full, amounts, bound}

sum_in_zero_on : (m : ℕ) (B : Set) (h : ℕ → ℕ) → ((k : ℕ) → k < m → T (B k) → h k ≡ 0) → sum_in m B h ≡ 0
sum_in_zero_on m B h z = omega (arith, sum_in_zero m B, sum_in_le m B h (λ k. 0) (λ k lk t. omega (arith, z k lk t)))

sum_below_at : (m : ℕ) (h : ℕ → ℕ) (j : ℕ) → j < m → h j ≤ sum_below m h
sum_below_at zero h j lt = omega arith
sum_below_at (suc m) h j lt = bcase (eqb j m)
    (λ t. subst (λ (i : ℕ). h i ≤ sum_below (suc m) h) (sym (eqb→eq j m t)) (omega arith))
    (λ t. omega (arith, sum_below_at m h j (omega (arith, apart j m t))))

zero_if_not_one : (a : ℕ) → (1 ≤ a → ⊥) → a ≡ 0
zero_if_not_one zero h = refl
zero_if_not_one (suc a) h = absurd (h (omega arith))

module _ (n : ℕ) (E : ℕ → ℕ → Bool) where
  -- nothing more can be given by capability j of the line l to position q
  abbrev pub Stuck : List Source → Source → (ℕ → ℕ) → ℕ → ℕ → Type 0
  Stuck ls l p j q = 1 ≤ l.room → 1 ≤ l.capability j → 1 ≤ p q → Hall n E (λ A. reach n (give l j 1) A + reach_all n ls A) (low p q 1) → ⊥

  -- the arithmetic of a giving undone
  undo : (bk bi : Bool) (d room c c2 c1 p p2 p1 r x y : ℕ) → (T bk → T bi) → d + 1 ≤ room
      → p2 + y ≡ p1 → p1 + cond bk d 0 ≡ p → c2 + x ≡ c1 → c1 + cond bi d 0 ≡ c → p2 ≤ min (room - d - 1) c2 + r
      → (p' c' : ℕ) → p' + y ≡ p → c' + x ≡ c → p' ≤ min (room - 1) c' + r
  undo true true d room c c2 c1 p p2 p1 r x y h dr e1 e2 e3 e4 le p' c' e5 e6 = omega arith
  undo true false d room c c2 c1 p p2 p1 r x y h dr e1 e2 e3 e4 le p' c' e5 e6 = absurd (h tt)
  undo false true d room c c2 c1 p p2 p1 r x y h dr e1 e2 e3 e4 le p' c' e5 e6 = omega arith
  undo false false d room c c2 c1 p p2 p1 r x y h dr e1 e2 e3 e4 le p' c' e5 e6 = omega arith

  -- what is stuck stays stuck when another pair is given something
  pub stuck_stays : (ls : List Source) (l : Source) (p : ℕ → ℕ) (j q i k d : ℕ) → j < n → q < n → i < n → k < n → T (E i k)
      → d ≤ l.room → d ≤ l.capability i → d ≤ p k → Stuck ls l p j q → Stuck ls (give l i d) (low p k d) j q
  stuck_stays ls l p j q i k d lj lq li lk e dr dc dp st r1 c1 p1 hall =
      let c0 : 1 ≤ l.capability j = omega (arith, c1) in
      let p0 : 1 ≤ p q = omega (arith, p1) in
      st (omega (arith, r1)) c0 p0 (λ A cl.
      undo (A k) (A i) d l.room _ _ _ _ _ _ (reach_all n ls A) _ _ (λ t. cl i k e t) (omega (arith, r1))
      (sum_in_low n A (low p k d) q 1 lq p1) (sum_in_low n A p k d lk dp)
      (sum_in_low n A (low l.capability i d) j 1 lj c1) (sum_in_low n A l.capability i d li dc) (hall A cl)
      _ _ (sum_in_low n A p q 1 lq p0) (sum_in_low n A l.capability j 1 lj c0))

  no_room : (room c c2 r p : ℕ) (b : Bool) → 1 ≤ room → c2 + cond b 1 0 ≡ c → min room c + r ≤ p → p ≤ min (room - 1) c2 + r → (room ≤ c) ⊎ T b → ⊥
  no_room room c c2 r p true h e t le w = omega arith
  no_room room c c2 r p false h e t le (inl w) = omega arith
  no_room room c c2 r p false h e t le (inr w) = w

  -- after as much as the cut allows, the pair is stuck
  pub stuck_now : (ls : List Source) (l : Source) (p : ℕ → ℕ) (j q : ℕ) → j < n → q < n → T (E j q)
      → Hall n E (λ A. reach n l A + reach_all n ls A) p
      → (cut : Cut n E (spare n E l (reach_all n ls) p j) q (min l.room (min (l.capability j) (p q))))
      → Hall n E (λ A. reach n (give l j cut.greatest) A + reach_all n ls A) (low p q cut.greatest) × Stuck ls (give l j cut.greatest) (low p q cut.greatest) j q
  stuck_now ls l p j q lj lq e h cut =
      let d : ℕ = cut.greatest in
      let dr : d ≤ l.room = omega (arith, cut.under) in
      let dc : d ≤ l.capability j = omega (arith, cut.under) in
      let dp : d ≤ p q = omega (arith, cut.under) in
      let hall : Hall n E (λ A. reach n (give l j d) A + reach_all n ls A) (low p q d) = step_good n E l (reach_all n ls) p j q d lj lq e dr dc dp h cut.each in (
        hall,
        λ r1 c1 p1 h2. ⊎_elim
            (λ full. omega (arith, full, r1, c1, p1, hit_at j j d refl, hit_at q q d refl))
            (λ w. let A : Set = w.0 in
            let t2 : (reach n (give l j d) A + reach_all n ls A ≤ sum_in n A (low p q d)) × ((l.room - d ≤ sum_in n A (low l.capability j d)) ⊎ T (A j)) =
            step_tight n E l (reach_all n ls) p j q d lj lq dr dc dp hall A w.1 w.2 w.3 in
            no_room (l.room - d) (sum_in n A (low l.capability j d)) (sum_in n A (low (low l.capability j d) j 1)) (reach_all n ls A) (sum_in n A (low p q d)) (A j) r1 (sum_in_low n A (low l.capability j d) j 1 lj c1) t2.0
            (omega (arith, h2 A w.1, sum_in_low n A (low p q d) q 1 lq p1, cond_no (A q) 1 0 w.2)) t2.1)
            cut.why,
      )

  -- one less of capability j for position q
  less : Amounts → ℕ → ℕ → Amounts
  less x j q j' q' = x j' q' - hit j (hit q 1 q') j'

  less_more : (x : Amounts) (j q : ℕ) → 1 ≤ x j q → (j' q' : ℕ) → more n E (less x j q) j q 1 j' q' ≡ x j' q'
  unfolding less
  less_more x j q h j' q' = bcase (eqb j' j)
      (λ t. bcase (eqb q' q)
      (λ s. let g : 1 ≤ x j' q' = subst (λ (i : ℕ). 1 ≤ x i q') (sym (eqb→eq j' j t)) (subst (λ (i : ℕ). 1 ≤ x j i) (sym (eqb→eq q' q s)) h) in
      omega (arith, g, cond_yes (eqb j' j) (hit q 1 q') 0 t, cond_yes (eqb q' q) 1 0 s))
      (λ s. omega (arith, cond_yes (eqb j' j) (hit q 1 q') 0 t, cond_no (eqb q' q) 1 0 s)))
      (λ t. omega (arith, cond_no (eqb j' j) (hit q 1 q') 0 t))

  less_is : (x : Amounts) (j q : ℕ) → 1 ≤ x j q → more n E (less x j q) j q 1 ≡ x
  less_is x j q h = fun_ext (λ a. fun_ext (λ b. less_more x j q h a b))

  less_taken : (x : Amounts) (j q k : ℕ) → q < n → T (E j q) → 1 ≤ x j q → taken n E x k ≡ taken n E (less x j q) k + hit j 1 k
  less_taken x j q k lq e h =
      subst (λ (z : Amounts). taken n E z k ≡ taken n E (less x j q) k + hit j 1 k) (less_is x j q h) (taken_more n E (less x j q) j q 1 k lq e)

  less_got : (x : Amounts) (j q k : ℕ) → j < n → T (E j q) → 1 ≤ x j q → got n E x k ≡ got n E (less x j q) k + hit q 1 k
  less_got x j q k lj e h =
      subst (λ (z : Amounts). got n E z k ≡ got n E (less x j q) k + hit q 1 k) (less_is x j q h) (got_more n E (less x j q) j q 1 k lj e)

  less_fits : (l : Source) (x : Amounts) (j q : ℕ) → j < n → q < n → T (E j q) → 1 ≤ x j q → Fits n E l x → Fits n E (give l j 1) (less x j q)
  less_fits l x j q lj lq e h f =
      let y : Amounts = less x j q in
      let tk : (k : ℕ) → taken n E x k ≡ taken n E y k + hit j 1 k = λ k. less_taken x j q k lq e h in
      record {
        caps = λ k lk. omega (arith, f.caps k lk, tk k);
        room = omega (arith, f.room, sum_below_at n (hit j 1) j lj, hit_at j j 1 refl, sum_below_add n (taken n E y) (hit j 1), sum_below_cong n (taken n E x) (λ k. taken n E y k + hit j 1 k) (λ k lk. tk k));
      }

  one_taken : (x : Amounts) (j q : ℕ) → q < n → T (E j q) → 1 ≤ x j q → 1 ≤ taken n E x j
  one_taken x j q lq e h = omega (arith, less_taken x j q j lq e h, hit_at j j 1 refl)

  one_room : (l : Source) (x : Amounts) (j q : ℕ) → j < n → q < n → T (E j q) → 1 ≤ x j q → Fits n E l x → 1 ≤ l.room
  one_room l x j q lj lq e h f = omega (arith, f.room, sum_below_at n (taken n E x) j lj, one_taken x j q lq e h)

  module _ (tr : (i j k : ℕ) → T (E i j) → T (E j k) → T (E i k)) (rf : (q : ℕ) → q < n → T (E q q)) (cuts : Cuts n E) where
    -- where every pair of the line l is stuck, the lines ls cover what is left
    pub finish : (ls : List Source) (l : Source) (p : ℕ → ℕ) → Hall n E (λ A. reach n l A + reach_all n ls A) p
        → ((j q : ℕ) → j < n → q < n → T (E j q) → Stuck ls l p j q) → Hall n E (reach_all n ls) p
    finish ls l p hall st = from (amounts n E (covers n E tr rf cuts (l ∷ ls) p hall))
      where
        from : Full n E (l ∷ ls) p → Hall n E (reach_all n ls) p
        from ([], f, g) A cl = absurd f
        from (x ∷ xs, f, g) A cl =
            let none : (j q : ℕ) → j < n → q < n → T (E j q) → x j q ≡ 0 = λ j q lj lq e. zero_if_not_one (x j q) (λ h.
            let gx : (k : ℕ) → got n E x k ≡ got n E (less x j q) k + hit q 1 k = λ k. less_got x j q k lj e h in
            let fx : Fits n E (give l j 1) (less x j q) = less_fits l x j q lj lq e h f.0 in
            let rm : 1 ≤ l.room = one_room l x j q lj lq e h f.0 in
            let cp : 1 ≤ l.capability j = omega (arith, f.0.caps j lj, one_taken x j q lq e h) in
            let ps : 1 ≤ p q = omega (arith, g q lq, gx q, hit_at q q 1 refl) in
            st j q lj lq e rm cp ps (λ B clB.
            omega (
              arith,
              bound n E (give l j 1 ∷ ls) (less x j q ∷ xs) (fx, f.1) B clB,
              sum_in_le n B (low p q 1) (got_all n E (less x j q ∷ xs)) (λ k lk t. omega (arith, g k lk, gx k)),
            ))) in
            let zero-got : (q : ℕ) → q < n → got n E x q ≡ 0 = λ q lq. omega (arith, sum_in_zero_on n (λ j. E j q) (λ j. x j q) (λ j lj e. none j q lj lq e)) in
            omega (arith, bound n E ls xs f.1 A cl, sum_in_le n A p (got_all n E xs) (λ k lk t. omega (arith, g k lk, zero-got k lk)))
