-- Where no closed set falls short, the lines cover the positions: position by position, line by line, each capability by as much as
-- no set forbids.
use Rattle.std.proofs.Common.{◌≡◌, ℕ, zero, suc, ◌+◌, ◌-◌, ◌<◌, ◌≤◌, min, Bool, false, not, ◌||◌, T, eqb, ◌⊎◌, List, [], ◌∷◌, sym, refl, subst, inl, inr, ⊎_elim, arith, eqb→eq}
use native.Mathlib.Omega.{min_cases}
use Rattle.least.specs.Sources.{Set, sum_in, Source, reach, reach_all, Closed, Hall, low, give, Coverable, done, move, ◌⋉◌}
use Rattle.least.proofs.Base.{◌∪◌, ◌∩◌, Below, no_both, apart, bcase, cond_le, cond_zero, cond_yes, cond_no, sum_in_mono, sum_in_low, Sub, and_both, or_left, or_right, or_split, or_neither, reach_sub, add_sub, reach_all_sub, hit_at}
pub use Rattle.least.proofs.Base.{sum_in_pt}
use Rattle.least.proofs.Step.{closed-∪, tight_join, spare, step_good, step_tight, step_keeps, Cut, Alike, Cuts, Used, St}

min_split : (a b d : ℕ) → min a b ≤ d → (a ≤ d) ⊎ (b ≤ d)
min_split a b d h = min_cases a b ((a ≤ d) ⊎ (b ≤ d)) (λ le e. inl (omega arith)) (λ le e. inr (omega arith))

pub reach_all-⋉ : (n : ℕ) (pre post : List Source) (A : Set) → reach_all n (pre ⋉ post) A ≡ reach_all n pre A + reach_all n post A
reach_all-⋉ n [] post A = omega arith
reach_all-⋉ n (l ∷ pre) post A = omega (arith, reach_all-⋉ n pre (l ∷ post) A)

pub sum_in_empty : (m : ℕ) (f : ℕ → ℕ) → sum_in m (λ k. false) f ≡ 0
sum_in_empty zero f = refl
sum_in_empty (suc m) f = omega (arith, sum_in_empty m f)

pub reach_all_empty : (n : ℕ) (ls : List Source) → reach_all n ls (λ k. false) ≡ 0
reach_all_empty n [] = refl
reach_all_empty n (l ∷ ls) = omega (arith, reach_all_empty n ls, sum_in_empty n l.capability)

module _ (n : ℕ) (E : ℕ → ℕ → Bool) (tr : (i j k : ℕ) → T (E i j) → T (E j k) → T (E i k)) (rf : (q : ℕ) → q < n → T (E q q)) (cuts : Cuts n E) where
  -- the capabilities that may cover position q
  abbrev down : ℕ → Set
  down q j = E j q

  down_closed : (q : ℕ) → Closed E (down q)
  down_closed q j k e t = tr j k q e t

  -- where D adds nothing to what B reaches, it adds nothing to what a larger set reaches
  pub stuck_grows : (R : Set → ℕ) → Sub n R → (D B B' : Set) → Below n B B' → R (B ∪ D) ≤ R B → R (B' ∪ D) ≤ R B'
  stuck_grows R s D B B' sub st =
      omega (
        arith,
        s.subm (B ∪ D) B',
        s.mono B ((B ∪ D) ∩ B') (λ k lt t. and_both (B k || D k) (B' k) (or_left (B k) (D k) t) (sub k lt t)),
        s.mono (B' ∪ D) ((B ∪ D) ∪ B') (λ k lt t. ⊎_elim
            (λ u. or_right (B k || D k) (B' k) u)
            (λ u. or_left (B k || D k) (B' k) (or_right (B k) (D k) u))
            (or_split (B' k) (D k) t)),
      )

  -- a line whose capabilities are all done gives nothing more for q
  pub line_stuck : (R : Set → ℕ) (q : ℕ) (l : Source) (p : ℕ → ℕ) (B : Set) → St n E R q n l p B → reach n l (B ∪ down q) ≤ reach n l B
  line_stuck R q l p B st = ⊎_elim
      (λ u. omega (arith, u))
      (λ h. omega (
        arith,
        sum_in_pt n (B ∪ down q) B l.capability (λ k lt. bcase (B k)
            (λ t. omega (arith, cond_le (B k || E k q) (l.capability k), cond_yes (B k) (l.capability k) 0 t))
            (λ t. bcase (E k q)
            (λ e. ⊎_elim
            (λ u. absurd (no_both (B k) t u))
            (λ z. omega (arith, cond_zero (B k || E k q) (l.capability k) z))
            (h k lt e))
            (λ e. omega (arith, cond_no (B k || E k q) (l.capability k) 0 (or_neither (B k) (E k q) t e))))),
      ))
      st.used

  used_keep : (q m d : ℕ) (l : Source) (B B' : Set) → m < n → d ≤ l.room → d ≤ l.capability m → Below n B B'
      → Used n E q m l B
      → Used n E q m (give l m d) B'
  used_keep q m d l B B' lt dr dc sub u = ⊎_elim
      (λ le. inl (omega (arith, le, sum_in_low n B l.capability m d lt dc, cond_le (B m) d, sum_in_mono n B B' (low l.capability m d) sub)))
      (λ h. inr (λ j lj e. ⊎_elim (λ t. inl (sub j (omega arith) t)) (λ z. inr (omega (arith, z))) (h j lj e)))
      u

  used_more : (q m : ℕ) (l : Source) (B : Set)
      → Used n E q m l B
      → (T (E m q) → T (B m) ⊎ (l.capability m ≡ 0))
      → Used n E q (suc m) l B
  used_more q m l B u v = ⊎_elim
      (λ le. inl le)
      (λ h. inr (λ j lj e. bcase (eqb j m)
      (λ t. let eq : m ≡ j = sym (eqb→eq j m t) in subst (λ (i : ℕ). T (E i q) → T (B i) ⊎ (l.capability i ≡ 0)) eq v e)
      (λ t. h j (omega (arith, apart j m t)) e)))
      u

  pub spare_alike : (l : Source) (R : Set → ℕ) (p : ℕ → ℕ) (j : ℕ) → j < n → Sub n R → Alike n E (spare n E l R p j)
  spare_alike l R p j lj s A B ab ba = bcase (A j)
      (λ t. omega (
        arith,
        s.mono A B ab,
        s.mono B A ba,
        sum_in_mono n A B p ab,
        sum_in_mono n B A p ba,
        sum_in_mono n A B l.capability ab,
        sum_in_mono n B A l.capability ba,
        cond_yes (A j) (reach n l A) l.room t,
        cond_yes (B j) (reach n l B) l.room (ab j lj t),
      ))
      (λ t. let tb : T (not (B j)) = bcase (B j) (λ u. absurd (no_both (A j) t (ba j lj u))) (λ u. u) in
      omega (
        arith,
        s.mono A B ab,
        s.mono B A ba,
        sum_in_mono n A B p ab,
        sum_in_mono n B A p ba,
        cond_no (A j) (reach n l A) l.room t,
        cond_no (B j) (reach n l B) l.room tb,
      ))

  -- what is given lowers a position and no more
  abbrev Lower : (ℕ → ℕ) → (ℕ → ℕ) → Type 0
  Lower p' p = (k : ℕ) → p' k ≤ p k

  -- what the lines done and the lines to come reach
  rest : List Source → List Source → Set → ℕ
  rest pre post A = reach_all n pre A + reach_all n post A

  rest_sub : (pre post : List Source) → Sub n (rest pre post)
  unfolding rest
  rest_sub pre post = add_sub n (reach_all n pre) (reach_all n post) (reach_all_sub n pre) (reach_all_sub n post)

  hall_join : (pre post : List Source) (l : Source) (p : ℕ → ℕ) → Hall n E (λ A. reach n l A + rest pre post A) p → Hall n E (reach_all n (pre ⋉ (l ∷ post))) p
  unfolding rest
  hall_join pre post l p h A cl = omega (arith, h A cl, reach_all-⋉ n pre (l ∷ post) A)

  -- position q gets all that it asks for, or a set that holds B stops it
  abbrev pub Outcome : (R : Set → ℕ) (q m : ℕ) (l : Source) (p : ℕ → ℕ) (B : Set) → Type 0
  Outcome R q m l p B = (p q ≡ 0) ⊎ ((B' : Set) × Below n B B' × St n E R q m l p B')

  -- what a giving leads to: no closed set falls short, and the outcome
  abbrev pub Next : (R : Set → ℕ) (q m : ℕ) (l : Source) (p : ℕ → ℕ) (B : Set) → Type 0
  Next R q m l p B = Hall n E (λ A. reach n l A + R A) p × Outcome R q m l p B

  -- the move of the capability m of the line l for position q, by as much as the cut allows
  pub advance_to : (R : Set → ℕ) → Sub n R → (q m : ℕ) → q < n → m < n → T (E m q) → (l : Source) (p : ℕ → ℕ) (B : Set)
      → St n E R q m l p B → (cut : Cut n E (spare n E l R p m) q (min l.room (min (l.capability m) (p q))))
      → Next R q (suc m) (give l m cut.greatest) (low p q cut.greatest) B
  advance_to R sub q m lq lm e l p B st cut =
      let d : ℕ = cut.greatest in
      let dr : d ≤ l.room = omega (arith, cut.under) in
      let dc : d ≤ l.capability m = omega (arith, cut.under) in
      let dp : d ≤ p q = omega (arith, cut.under) in
      let hall : Hall n E (λ A. reach n (give l m d) A + R A) (low p q d) = step_good n E l R p m q d lm lq e dr dc dp st.hall cut.each in
      let keep : reach n (give l m d) B + R B ≤ sum_in n B (low p q d) = step_keeps n E l R p m q d lm lq dr dc dp B st.off st.tight in
      let same : Used n E q m (give l m d) B = used_keep q m d l B B lm dr dc (λ k lt t. t) st.used in (
        hall,
        ⊎_elim {C = Outcome R q (suc m) (give l m d) (low p q d) B}
            (λ full. ⊎_elim {C = Outcome R q (suc m) (give l m d) (low p q d) B}
            (λ nr. inr (B, (λ k lt t. t), record { hall = hall; closed = st.closed; tight = keep; off = st.off; used = inl (omega (arith, nr)) }))
            (λ full2. ⊎_elim {C = Outcome R q (suc m) (give l m d) (low p q d) B}
            (λ nc. inr (
              B,
              (λ k lt t. t),
              record {
                hall = hall;
                closed = st.closed;
                tight = keep;
                off = st.off;
                used = used_more q m (give l m d) B same (λ u. inr (omega (arith, nc, hit_at m m d refl)));
              },
            ))
            (λ np. inl (omega (arith, np, hit_at q q d refl)))
            (min_split (l.capability m) (p q) d full2))
            (min_split l.room (min (l.capability m) (p q)) d full))
            (λ w. let A : Set = w.0 in
            let t2 : (reach n (give l m d) A + R A ≤ sum_in n A (low p q d)) × ((l.room - d ≤ sum_in n A (low l.capability m d)) ⊎ T (A m)) =
            step_tight n E l R p m q d lm lq dr dc dp hall A w.1 w.2 w.3 in
            let grow : Below n B (B ∪ A) = λ k lt t. or_left (B k) (A k) t in
            inr (
              B ∪ A,
              grow,
              record {
                hall = hall;
                closed = closed-∪ n E B A st.closed w.1;
                tight = tight_join n E (λ X. reach n (give l m d) X + R X) (low p q d) (add_sub n (reach n (give l m d)) R (reach_sub n (give l m d)) sub) hall B A st.closed w.1 keep t2.0;
                off = or_neither (B q) (A q) st.off w.2;
                used = ⊎_elim {A = l.room - d ≤ sum_in n A (low l.capability m d)} {B = T (A m)} {C = Used n E q (suc m) (give l m d) (B ∪ A)}
                    (λ nr. inl (omega (arith, nr, sum_in_mono n A (B ∪ A) (low l.capability m d) (λ k lt t. or_right (B k) (A k) t))))
                    (λ ta. used_more q m (give l m d) (B ∪ A) (used_keep q m d l B (B ∪ A) lm dr dc grow st.used) (λ u. inl (or_right (B m) (A m) ta)))
                    t2.1;
              },
            ))
            cut.why,
      )

  advance : (q m : ℕ) → q < n → m < n → T (E m q) → (pre post : List Source) (l : Source) (p : ℕ → ℕ) (B : Set)
      → St n E (rest pre post) q m l p B
      → ((d : ℕ) (B' : Set) → Below n B B' → St n E (rest pre post) q (suc m) (give l m d) (low p q d) B' → Coverable n E (pre ⋉ (give l m d ∷ post)) (low p q d))
      → ((ls : List Source) (p' : ℕ → ℕ) → Lower p' p → Hall n E (reach_all n ls) p' → p' q ≡ 0 → Coverable n E ls p')
      → Coverable n E (pre ⋉ (l ∷ post)) p
  advance q m lq lm e pre post l p B st kl kz =
      let cut : Cut n E (spare n E l (rest pre post) p m) q (min l.room (min (l.capability m) (p q))) =
      cuts (spare n E l (rest pre post) p m) q (min l.room (min (l.capability m) (p q))) lq (spare_alike l (rest pre post) p m lm (rest_sub pre post)) in
      let d : ℕ = cut.greatest in
      let nx : Next (rest pre post) q (suc m) (give l m d) (low p q d) B = advance_to (rest pre post) (rest_sub pre post) q m lq lm e l p B st cut in
      move pre post l p m q d lm lq e (omega (arith, cut.under)) (omega (arith, cut.under)) (omega (arith, cut.under))
      (⊎_elim (λ z. kz (pre ⋉ (give l m d ∷ post)) (low p q d) (λ k. omega arith) (hall_join pre post (give l m d) (low p q d) nx.0) z)
      (λ w. kl d w.0 w.1 w.2) nx.1)

  -- how to go on once q is served in full
  abbrev Zero : ℕ → (ℕ → ℕ) → Type 0
  Zero q p = (ls : List Source) (p' : ℕ → ℕ) → Lower p' p → Hall n E (reach_all n ls) p' → p' q ≡ 0 → Coverable n E ls p'

  low_le : (p : ℕ → ℕ) (q d : ℕ) → Lower (low p q d) p
  low_le p q d k = omega arith

  -- all capabilities of one line, m of them done, for position q
  serve_capabilities : (r m q : ℕ) → m + r ≡ n → q < n → (pre post : List Source) (l : Source) (p : ℕ → ℕ) (B : Set)
      → St n E (rest pre post) q m l p B
      → ((l' : Source) (p' : ℕ → ℕ) (B' : Set) → Lower p' p → Below n B B' → St n E (rest pre post) q n l' p' B' → Coverable n E (pre ⋉ (l' ∷ post)) p')
      → Zero q p
      → Coverable n E (pre ⋉ (l ∷ post)) p
  serve_capabilities zero m q e lq pre post l p B st kl kz =
      let eq : m ≡ n = omega (arith, e) in
      kl l p B (λ k. omega arith) (λ k lt t. t) (subst (λ (i : ℕ). St n E (rest pre post) q i l p B) eq st)
  serve_capabilities (suc r) m q e lq pre post l p B st kl kz =
      let lm : m < n = omega (arith, e) in
      bcase (E m q)
      (λ t. advance q m lq lm t pre post l p B st
      (λ d B' sub st'. serve_capabilities r (suc m) q (omega (arith, e)) lq pre post (give l m d) (low p q d) B' st'
      (λ l₂ p₂ B₂ le sub₂ st₂. kl l₂ p₂ B₂ (λ k. omega (arith, le k)) (λ k lt u. sub₂ k lt (sub k lt u)) st₂)
      (λ ls p' le. kz ls p' (λ k. omega (arith, le k))))
      kz)
      (λ t. serve_capabilities r (suc m) q (omega (arith, e)) lq pre post l p B
      (record {
        hall = st.hall;
        closed = st.closed;
        tight = st.tight;
        off = st.off;
        used = used_more q m l B st.used (λ u. absurd (no_both (E m q) t u));
      })
      kl kz)

  -- all lines, pre of them done, for position q: B is tight, without q, and q adds nothing to B on the lines done
  serve_lines : (q : ℕ) → q < n → (post pre : List Source) (p : ℕ → ℕ) (B : Set)
      → Hall n E (λ A. rest pre post A) p → Closed E B → T (not (B q)) → rest pre post B ≤ sum_in n B p
      → reach_all n pre (B ∪ down q) ≤ reach_all n pre B
      → Zero q p → Coverable n E (pre ⋉ post) p
  unfolding rest
  serve_lines q lq [] pre p B hall cl off tight stuck kz =
      kz (pre ⋉ []) p (λ k. omega arith) (λ A c. omega (arith, hall A c, reach_all-⋉ n pre [] A))
      (let z : (p q ≤ 0) =
      omega (
        arith,
        hall (B ∪ down q) (closed-∪ n E B (down q) cl (down_closed q)),
        tight,
        stuck,
        sum_in_low n (B ∪ down q) p q (p q) lq (omega arith),
        cond_yes (B q || E q q) (p q) 0 (or_right (B q) (E q q) (rf q lq)),
        sum_in_mono n B (B ∪ down q) (low p q (p q)) (λ k lt t. or_left (B k) (E k q) t),
        sum_in_low n B p q (p q) lq (omega arith),
        cond_no (B q) (p q) 0 off,
      ) in
      omega (arith, z))
  serve_lines q lq (l ∷ post) pre p B hall cl off tight stuck kz =
      serve_capabilities n zero q (omega arith) lq pre post l p B
      (record { hall = λ A c. omega (arith, hall A c); closed = cl; tight = omega (arith, tight); off = off; used = inr (λ j lj e. absurd (omega arith)) })
      (λ l' p' B' le sub st. serve_lines q lq post (l' ∷ pre) p' B'
      (λ A c. omega (arith, st.hall A c)) st.closed st.off (omega (arith, st.tight))
      (omega (arith, line_stuck (rest pre post) q l' p' B' st, stuck_grows (reach_all n pre) (reach_all_sub n pre) (down q) B B' sub stuck))
      (λ ls p₂ le₂. kz ls p₂ (λ k. omega (arith, le k, le₂ k))))
      kz

  -- all positions, those below q done
  serve_positions : (r q : ℕ) → q + r ≡ n → (ls : List Source) (p : ℕ → ℕ) → Hall n E (reach_all n ls) p
      → ((k : ℕ) → k < q → p k ≡ 0) → Coverable n E ls p
  unfolding rest
  serve_positions zero q e ls p hall z = done ls p (λ k lt. z k (omega arith))
  serve_positions (suc r) q e ls p hall z =
      serve_lines q (omega arith) ls [] p (λ k. false) (λ A c. omega (arith, hall A c)) (λ j k f t. t) tt
      (omega (arith, sum_in_empty n p, reach_all_empty n ls)) (omega arith)
      (λ ls' p' le hall' zq. serve_positions r (suc q) (omega arith) ls' p' hall'
      (λ k lt. bcase (eqb k q)
      (λ t. subst (λ (i : ℕ). p' i ≡ 0) (sym (eqb→eq k q t)) zq)
      (λ t. omega (arith, z k (omega (arith, apart k q t)), le k))))

  -- where no closed set falls short, all positions are covered
  pub covers : (ls : List Source) (p : ℕ → ℕ) → Hall n E (reach_all n ls) p → Coverable n E ls p
  covers ls p hall = serve_positions n zero (omega arith) ls p hall (λ k lt. absurd (omega arith))
