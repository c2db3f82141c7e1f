-- The guarantee over every run from an opening.
use Rattle.std.proofs.Common.{◌≡◌, ℕ, ◌+◌, ◌<◌, ◌≤◌, true, ◌⊎◌, List, [], ◌∷◌, ◌++◌, map, length, get_or, take, ℤ, Some, None, Ok, Err, sum_by, filter, Result, sym, refl, ap, ◌∙◌, subst, inl, inr, arith}
use Rattle.std.proofs.lemmas.List.Elements.{filter-append}
use Rattle.std.proofs.ByRecursion.{All-get_or}
use Rattle.std.proofs.lemmas.List.{get_or-map, take_more_set, append-nil}
use Rattle.std.proofs.lemmas.List.Sums.{get_or-le-sum_by}
use Rattle.std.proofs.lemmas.Bool.{cases_lt, cases_Bool, cond-true, cond-false}
use Rattle.rows.specs.Rows.{PlainQse, PlainResource}
use Rattle.rows.specs.declared.fault.Fault.{Fault}
use Rattle.account.specs.Own.{Own, own_of, owns_resource, qse_own}
use Rattle.account.specs.View.{View, counted}
use Rattle.account.proofs.Rows.{sum_map}
use Rattle.measure.specs.Laws.{Help}
use Rattle.shortfall.specs.Shortfall.{shortfall_of, with_resource}
use Rattle.shortfall.specs.Strike.{row_short, written}
use Rattle.shortfall.proofs.Helps.{never_raised}
use Rattle.shortfall.proofs.PoolCovered.{sum_covers_pool}
use Rattle.book.specs.Charging.{Charges, pot_of, PaysQse, Charged as ChargedTo}
use Rattle.book.specs.Entries.{Supplies}
use Rattle.book.specs.Measuring.{Shorts}
use Rattle.book.specs.Owned.{own_rows}
use Rattle.book.specs.State.{State, qse_rows, tables_of, add_resource}
use Rattle.book.specs.declared.books.Claim.{Claim as Slip}
use Rattle.replay.specs.declared.calls.Answer.{Answer}
use Rattle.replay.specs.declared.calls.Answer.TheVariants.{Granted, Shortfall, Total, Charged}
use Rattle.replay.specs.declared.calls.Call.TheVariants.{Resource, Short, Strike, Charge}
use Rattle.replay.specs.declared.calls.Entry.{Entry}
use Rattle.replay.specs.Runs.{Desk, Looks, Enters, Spends, Strikes, Step, Run, measure_at, answer_by, spent_answer}
use Rattle.replay.specs.Guarantee.{Struck, Lawful, no_strike, last_strike, short_of, sum_of, pool_of, row_at, ProRata, claims_in, Holding, After, Guarantee}
use Rattle.replay.proofs.Kept.{Kept, kept_opened, struck_rows_are, charged_rows, place_left}
use Rattle.replay.proofs.Held.{held_opened, run_held}
use Rattle.replay.proofs.Numbered.{figures_at}
use Rattle.replay.proofs.Steps.{refused_same, run_kept}
use Rattle.replay.proofs.Tables.{sum_agree}

not_one : ◌≡◌ {A = ℕ} 0 1 → ⊥
not_one e = omega arith

-- what a granted call says of its result
abbrev granted_by : {V : Type 0} (says : V → Answer) (v : V) → Type 0
granted_by says v = (w : _) → says v ≡ says w → v ≡ w

short_done : (m : View → ℕ) (q : ℤ) (d d' : Desk) (v : ℕ) → Looks (Shorts m q) Shortfall d d' (Shortfall v) → v ≡ shortfall_of m (own_rows (counted q) d.state)
short_done m q d d' v lk = by lk.result lk.done lk.answer
  where
    by : (r : Result ℕ Fault) → Shorts m q d.state r → Shortfall v ≡ answer_by Shortfall r → v ≡ shortfall_of m (own_rows (counted q) d.state)
    by (Ok w) done is = let e : v ≡ w = cc in e ∙ done.1
    by (Err e) done is = let z : ◌≡◌ {A = ℕ} 0 1 = cc in absurd (not_one z)

strike_done : (m : View → ℕ) (d d' : Desk) (t : ℕ) → Enters (Strikes m) Total d d' (Total t) → Strikes m d.state d'.state (Ok t)
strike_done m d d' t en = by en.result en.done en.answer
  where
    by : (r : Result ℕ Fault) → Strikes m d.state d'.state r → Total t ≡ answer_by Total r → Strikes m d.state d'.state (Ok t)
    by (Ok u) done is = let e : u ≡ t = cc in subst (λ x. Strikes m d.state d'.state (Ok x)) e done
    by (Err e) done is = let z : ◌≡◌ {A = ℕ} 0 1 = cc in absurd (not_one z)

pub record Supplied (xs : List ℤ) (s s' : State) : Type 0 where
  pub row : PlainResource
  pub room : s.book.resources < length s.resources
  pub after : s' ≡ add_resource s row

supply_done : (xs : List ℤ) (d d' : Desk) → Enters (Supplies xs) (λ _. Granted) d d' Granted → Supplied xs d.state d'.state
supply_done xs d d' en = by en.result en.done en.answer
  where
    by : (r : Result (Unit {0}) Fault) → Supplies xs d.state d'.state r → Granted ≡ answer_by (λ _. Granted) r → Supplied xs d.state d'.state
    by (Ok u) done is = record { row = done.1.0; room = place_left _ _ _ done.0.1.1.1.0; after = done.1.2 }
    by (Err e) done is = let z : ◌≡◌ {A = ℕ} 0 1 = cc in absurd (not_one z)

charge_done : (d d' : Desk) (k pot rest : ℕ) (sp : Spends Charges (λ p. Charged p.0 p.1) k d d' (Charged pot rest)) → ChargedTo sp.claim d.state d'.state pot rest
charge_done d d' k pot rest sp = by sp.result sp.done sp.answer
  where
    by : (r : Result (ℕ × ℕ) (Slip × Fault)) → Charges sp.claim d.state d'.state r → Charged pot rest ≡ spent_answer (λ p. Charged p.0 p.1) r → ChargedTo sp.claim d.state d'.state pot rest
    by (Ok p) done is =
        let a : p.0 ≡ pot = cc in
        let b : p.1 ≡ rest = cc in
        subst (λ x. ChargedTo sp.claim d.state d'.state x rest) a (subst (λ x. ChargedTo sp.claim d.state d'.state p.0 x) b done.1)
    by (Err e) done is = let z : ◌≡◌ {A = ℕ} 0 1 = cc in absurd (not_one z)

-- one resource more in the book: the rows of a QSE are as they were, or have it too
supplied_own : (s : State) (r : PlainResource) → s.book.resources < length s.resources → (q : ℕ) → (own_rows q (add_resource s r) ≡ with_resource (own_rows q s) r) ⊎ (own_rows q (add_resource s r) ≡ own_rows q s)
supplied_own s r room q =
    let rows = take_more_set s.resources s.book.resources r room in
    let kept = ap (filter (owns_resource q)) rows ∙ filter-append (owns_resource q) (tables_of s).resources (r ∷ []) in
    let with' : List PlainResource → Own = λ l. let o = own_rows q s in record { number = o.number; figures = o.figures; loads = o.loads; resources = l; trades = o.trades } in
    elim (cases_Bool (owns_resource q r)) [
      | inl yes' ↦ inl (ap with' (kept ∙ ap (λ l. filter (owns_resource q) (tables_of s).resources ++ l) (cond-true (owns_resource q r) (r ∷ []) [] yes')))
      | inr not' ↦ inr (ap with' (kept ∙ ap (λ l. filter (owns_resource q) (tables_of s).resources ++ l) (cond-false (owns_resource q r) (r ∷ []) [] not') ∙ append-nil (filter (owns_resource q) (tables_of s).resources)))
    ]

supply_helps : (m : View → ℕ) → Help m → (s s' : State) (xs : List ℤ) → Supplied xs s s' → (q : ℕ) → shortfall_of m (own_rows q s') ≤ shortfall_of m (own_rows q s)
supply_helps m help s s' xs sup q =
    let o = own_rows q s in
    let goal : State → Type 0 = λ x. shortfall_of m (own_rows q x) ≤ shortfall_of m o in
    subst goal (sym sup.after) (elim (supplied_own s sup.row sup.room q) [
      | inl e ↦ subst (λ x. shortfall_of m x ≤ shortfall_of m o) (sym e) (never_raised help o (shortfall_of m o) refl sup.row)
      | inr e ↦ omega (arith, ap (shortfall_of m) e)
    ])

-- with distinct numbers the rows of a row's QSE are those of its number
own_at : (ms : List (View → ℕ)) (k : Struck) (n : ℕ) (s : State) → Kept ms k n s → (i : ℕ) (x : PlainQse) → i < length (qse_rows s) → qse_own (get_or (qse_rows s) i x) (tables_of s) ≡ own_rows (get_or (qse_rows s) i x).number s
own_at ms k n s kept i x lt = ap (λ f. own_of (get_or (qse_rows s) i x).number f (tables_of s)) (sym (figures_at (qse_rows s) i x kept.distinct lt))

module _ (ms : List (View → ℕ)) (lawful : (j : ℕ) → Lawful (measure_at ms j)) where
  module _ (d : Desk) (k : Struck) (n : ℕ) (kept : Kept ms k n d.state) where
    answers_short : (j : ℕ) (q : ℤ) (d' : Desk) (v : ℕ) → Step ms (Short j q) d d' (Shortfall v) → v ≡ short_of ms j (counted q) d
    answers_short j q d' v (inl (o, inl h)) = short_done (measure_at ms j) q d d' v h.1
    answers_short j q d' v (inl (o, inr h)) = let is = h.1.answer in let z : ◌≡◌ {A = ℕ} 0 1 = cc in absurd (not_one z)
    answers_short j q d' v (inr (o, h)) = let is = h.answer in let z : ◌≡◌ {A = ℕ} 0 1 = cc in absurd (not_one z)

    strikes : (j : ℕ) (d' : Desk) (t : ℕ) → Step ms (Strike j) d d' (Total t) → Strikes (measure_at ms j) d.state d'.state (Ok t)
    strikes j d' t (inl (o, inl h)) = strike_done (measure_at ms j) d d' t h.1
    strikes j d' t (inl (o, inr h)) = let is = h.1.answer in let z : ◌≡◌ {A = ℕ} 0 1 = cc in absurd (not_one z)
    strikes j d' t (inr (o, h)) = let is = h.answer in let z : ◌≡◌ {A = ℕ} 0 1 = cc in absurd (not_one z)

    -- the QSE rows after a strike
    rows_after : (j : ℕ) (d' : Desk) (t : ℕ) → Step ms (Strike j) d d' (Total t) → qse_rows d'.state ≡ map (written (measure_at ms j) (tables_of d.state)) (qse_rows d.state)
    rows_after j d' t step = let g = strikes j d' t step in ap qse_rows g.2 ∙ struck_rows_are (measure_at ms j) d.state g.0.0

    writes_strike : (j : ℕ) (d' : Desk) (t i : ℕ) (x : PlainQse) → Step ms (Strike j) d d' (Total t) → i < length (qse_rows d.state)
        → ((row_at ms d' i x).number ≡ (row_at ms d i x).number) × ((row_at ms d' i x).shortfall ≡ short_of ms j (row_at ms d i x).number d)
    writes_strike j d' t i x step lt =
        let m = measure_at ms j in
        let w = written m (tables_of d.state) in
        let row : row_at ms d' i x ≡ w (row_at ms d i x) = ap (λ l. get_or l i x) (rows_after j d' t step) ∙ get_or-map w (qse_rows d.state) i x x lt in
        (ap (λ (y : PlainQse). y.number) row, ap (λ (y : PlainQse). y.shortfall) row ∙ ap (shortfall_of m) (own_at ms k n d.state kept i x lt))

    covers_strike : (j : ℕ) (d' : Desk) (t : ℕ) → Step ms (Strike j) d d' (Total t) → (t ≡ sum_of ms j d) × (t ≡ sum_by (λ x. x.shortfall) (qse_rows d'.state)) × (pool_of ms j d ≤ t)
    covers_strike j d' t step =
        let m = measure_at ms j in
        let s = d.state in
        let tb = tables_of s in
        let g = strikes j d' t step in
        let law = lawful j in
        let inrows : sum_by (λ x. x.shortfall) (qse_rows d'.state) ≡ sum_of ms j d =
        ap (sum_by (λ x. x.shortfall)) (rows_after j d' t step) ∙ sum_map (λ x. x.shortfall) (written m tb) (qse_rows s) ∙ sym (sum_map (shortfall_of m) (λ q. qse_own q tb) (qse_rows s)) in
        (g.1, g.1 ∙ sym inrows, sum_covers_pool law.order law.pool law.nothing tb (qse_rows s) t g.1 kept.distinct kept.parties)

    pub record Charging (i : ℕ) (d' : Desk) (pot rest : ℕ) : Type 0 where
      pub spends : Spends Charges (λ p. Charged p.0 p.1) i d d' (Charged pot rest)
      pub struck : d.state.book.struck ≡ true

    charging : (i : ℕ) (d' : Desk) (pot rest : ℕ) → Step ms (Charge i) d d' (Charged pot rest) → Charging i d' pot rest
    charging i d' pot rest (inl (o, h)) = let is = h.answer in let z : ◌≡◌ {A = ℕ} 0 1 = cc in absurd (not_one z)
    charging i d' pot rest (inr (o, inl h)) = record { spends = h; struck = o }
    charging i d' pot rest (inr (o, inr h)) = let is = h.1.answer in let z : ◌≡◌ {A = ℕ} 0 1 = cc in absurd (not_one z)

    charged_spends : (i : ℕ) (d' : Desk) (pot rest : ℕ) → Step ms (Charge i) d d' (Charged pot rest)
        → (k.total ≡ sum_of ms k.measure d) × ((c : Slip) × (get_or d.purse i None ≡ Some c) × (pot ≡ pot_of c k.total) × (pot + rest ≡ c.cents))
    charged_spends i d' pot rest step =
        let ch = charging i d' pot rest step in
        let w = kept.struck ch.struck in
        let c = ch.spends.claim in
        let g = charge_done d d' i pot rest ch.spends in
        let half : pot ≤ c.cents = omega (arith, g.pot) in
        (w.sum, (c, ch.spends.held, g.pot ∙ ap (pot_of c) w.total, omega (arith, g.rest, half)))

    charged_shares : (i : ℕ) (d' : Desk) (pot rest r : ℕ) (x : PlainQse) → Step ms (Charge i) d d' (Charged pot rest) → r < length (qse_rows d.state)
        → (n : ℕ) × PaysQse (row_at ms d r x) n (row_at ms d' r x) × ProRata pot k.total (short_of ms k.measure (row_at ms d r x).number d) n
    charged_shares i d' pot rest r x step lt =
        let s = d.state in
        let m = measure_at ms k.measure in
        let ch = charging i d' pot rest step in
        let w = kept.struck ch.struck in
        let g = charge_done d d' i pot rest ch.spends in
        let old = row_at ms d r x in
        let after : row_at ms d' r x ≡ get_or (take s.book.qses d'.state.qses) r x = ap (λ l. get_or l r x) (charged_rows ch.spends.claim s d'.state pot rest g) in
        let short : old.shortfall ≡ short_of ms k.measure old.number d = All-get_or (λ y. y.shortfall ≡ row_short m (tables_of s) y) (qse_rows s) r x lt w.rows ∙ ap (shortfall_of m) (own_at ms k n s kept r x lt) in
        let sum : sum_by (λ y. y.shortfall) (qse_rows s) ≡ k.total = sum_agree (λ y. y.shortfall) (row_short m (tables_of s)) (qse_rows s) w.rows ∙ sym (sum_map (shortfall_of m) (λ q. qse_own q (tables_of s)) (qse_rows s)) ∙ sym w.sum in
        let T = sum_by (λ y. y.shortfall) (qse_rows s) in
        let moved : (c : ℕ) × PaysQse old c (get_or (take s.book.qses d'.state.qses) r x) × ProRata pot T old.shortfall c =
        elim (cases_lt 0 T) [
          | inl some ↦ (let f = (g.qses.spread some).fair r lt x in (f.0, f.1, record { short = λ _. (f.2.under, f.2.over); other = f.2.none }))
          | inr none ↦ (let idle = g.qses.idle (omega arith) in
              let zero-short : old.shortfall ≡ 0 = omega (arith, get_or-le-sum_by (λ y. y.shortfall) (qse_rows s) r x lt, none) in
              let same : get_or (take s.book.qses d'.state.qses) r x ≡ old = ap (λ l. get_or l r x) idle.same in
              let more : old.cents ≡ old.cents + 0 = omega arith in
              (0, same ∙ ap (λ (c : ℕ). record { number = old.number; figures = old.figures; shortfall = old.shortfall; cents = c }) more, record { short = λ lt. absurd (omega (arith, lt, zero-short)); other = λ _. refl }))
        ] in
        (moved.0, after ∙ moved.1, subst (λ h. ProRata pot k.total h moved.0) short (subst (λ t. ProRata pot t old.shortfall moved.0) sum moved.2))

    helps : (xs : _) (d' : Desk) (j q : ℕ) → Step ms (Resource xs) d d' Granted → short_of ms j q d' ≤ short_of ms j q d
    helps xs d' j q (inl (o, h)) = supply_helps (measure_at ms j) (lawful j).help d.state d'.state xs.now (supply_done xs.now d d' h) q
    helps xs d' j q (inr (o, h)) = let is = h.answer in let z : ◌≡◌ {A = ℕ} 0 1 = cc in absurd (not_one z)

  after_run : (d₀ : Desk) (es : List Entry) (d : Desk) → ((fs : List Entry) (b : Desk) → Run ms d₀ fs b → Kept ms (last_strike fs no_strike) (0 + Rattle.replay.specs.Guarantee.charged_in fs) b.state) → (claims_in d₀.purse ≡ 0 → Holding d) → Run ms d₀ es d → After ms d₀ es d
  after_run d₀ es d reach held ran =
      let kept = reach es d ran in
      record {
        refusal_keeps = λ c d' a refused step. refused_same d d' a refused ms c step;
        short_answers = answers_short d _ _ kept;
        strike_writes = writes_strike d _ _ kept;
        same_short = λ fs b back j q d' b' v w same one other.
            answers_short d _ _ kept j q d' v one ∙ ap (shortfall_of (measure_at ms j)) same ∙ sym (answers_short b _ _ (reach fs b back) j q b' w other);
        same_strike = λ fs b back j q d' b' t u i k x same one other lt is lt' is'.
            (writes_strike d _ _ kept j d' t i x one lt).1 ∙ ap (λ n. short_of ms j n d) is ∙ ap (shortfall_of (measure_at ms j)) same
            ∙ sym (ap (λ n. short_of ms j n b) is') ∙ sym (writes_strike b _ _ (reach fs b back) j b' u k x other lt').1;
        resource_helps = helps d _ _ kept;
        strike_covers = covers_strike d _ _ kept;
        charge_spends = charged_spends d _ _ kept;
        charge_shares = charged_shares d _ _ kept;
        claims_held = λ empty. held empty;
        cents_balance = omega (arith, kept.cents);
      }

  pub guaranteed : Guarantee ms
  guaranteed d₀ es d opened ran =
      after_run d₀ es d (λ fs b back. run_kept ms fs no_strike 0 d₀ b (kept_opened ms no_strike 0 d₀.state opened.0 opened.1) back)
      (λ empty. run_held ms es d₀ d (held_opened d₀ opened.0 opened.1 empty) ran) ran
