-- What a call keeps, whatever it is, and what a run keeps.
use Rattle.std.proofs.Common.{◌≡◌, ℕ, ◌+◌, true, false, List, [], ◌∷◌, ℤ, Ok, Err, Option, Result, sym, refl, ap, ◌∙◌, subst, inl, inr, arith}
use Rattle.std.proofs.lemmas.List.Sums.{sum_by-cons}
use Rattle.std.proofs.lemmas.Bool.{false≢true}
use Rattle.rows.specs.declared.fault.Fault.{Fault}
use Rattle.account.specs.View.{View, counted}
use Rattle.entry.specs.Places.{at}
use Rattle.book.specs.Charging.{Charges}
use Rattle.book.specs.Claims.{Claims, HandsBack}
use Rattle.book.specs.Entries.{Enrols, Figured, Loads, Supplies, Trades, Voids}
use Rattle.book.specs.Measuring.{sum_short}
use Rattle.book.specs.State.{State}
use Rattle.book.specs.declared.books.Claim.{Claim as Slip}
use Rattle.replay.specs.declared.calls.Answer.{Answer}
use Rattle.replay.specs.declared.calls.Answer.TheVariants.{Granted, Placed, Shortfall, Uncovered, Total, Shared, Claimed, Charged}
use Rattle.replay.specs.declared.calls.Call.{Call}
use Rattle.replay.specs.declared.calls.Call.TheVariants.{Figures, Load, Resource, Trade, Enrol, Void, Short, Cover, Strike, Share, Claim, Charge, HandBack, Reopen}
use Rattle.replay.specs.declared.calls.Entry.{Entry}
use Rattle.replay.specs.Runs.{Desk, Barred, Looks, Enters, Covering, Claiming, Spends, Strikes, Reopens, OnOpen, OnStruck, Step, Run, measure_at, struck_state, answer_by, spent_answer, purse_with, purse_less}
use Rattle.replay.specs.Guarantee.{Struck, struck_by, measure_named, last_strike, charged_by, charged_in, is_granted}
use Rattle.replay.proofs.Kept.{Kept, enrol_kept, load_kept, resource_kept, trades_kept, figures_kept, claims_kept, reopen_kept, strike_kept, charge_kept, place_left, is_enrolled}

pub desk_same : (d d' : Desk) → d'.state ≡ d.state → d'.covers ≡ d.covers → d'.purse ≡ d.purse → d' ≡ d
desk_same d d' s c p =
    ap (λ (x : State). record { state = x; covers = d'.covers; purse = d'.purse }) s
    ∙ ap (λ (x : List (List ℕ)). record { state = d.state; covers = x; purse = d'.purse }) c
    ∙ ap (λ (x : List (Option Slip)). record { state = d.state; covers = d.covers; purse = x }) p

granted_not_refused : (a b : Answer) → is_granted a ≡ false → a ≡ b → is_granted b ≡ true → ⊥
granted_not_refused a b refused is granted = false≢true (sym refused ∙ ap is_granted is ∙ granted)

-- a call that is refused keeps the desk
module _ (d d' : Desk) (a : Answer) (refused : is_granted a ≡ false) where
  enters_same : {V : Type 0} (does : State → State → Result V Fault → Type 0) (says : V → Answer) → ((v : V) → is_granted (says v) ≡ true)
      → ((e : Fault) → does d.state d'.state (Err e) → d'.state ≡ d.state) → Enters does says d d' a → d' ≡ d
  enters_same does says grants keeps en = by en.result en.done en.answer
    where
      by : (r : Result _ Fault) → does d.state d'.state r → a ≡ answer_by says r → d' ≡ d
      by (Ok v) done is = absurd (granted_not_refused a (says v) refused is (grants v))
      by (Err e) done is = desk_same d d' (keeps e done) en.covers en.purse

  spends_same : {V : Type 0} (does : Slip → State → State → Result V (Slip × Fault) → Type 0) (says : V → Answer) (k : ℕ) → ((v : V) → is_granted (says v) ≡ true)
      → ((c : Slip) (e : Slip × Fault) → does c d.state d'.state (Err e) → d'.state ≡ d.state) → Spends does says k d d' a → d' ≡ d
  spends_same does says k grants keeps sp = by sp.result sp.done sp.answer sp.purse
    where
      by : (r : Result _ (Slip × Fault)) → does sp.claim d.state d'.state r → a ≡ spent_answer says r → d'.purse ≡ purse_less k d.purse r → d' ≡ d
      by (Ok v) done is p = absurd (granted_not_refused a (says v) refused is (grants v))
      by (Err e) done is p = desk_same d d' (keeps sp.claim e done) sp.covers p

  covering_same : (q side : ℤ) → Covering q side d d' a → d' ≡ d
  covering_same q side cv = by cv.result cv.done cv.answer
    where
      by : (r : Result ℕ Fault) → Rattle.book.specs.Measuring.Covers q side d.state d.covers d'.covers r → a ≡ answer_by Uncovered r → d' ≡ d
      by (Ok u) done is = absurd (granted_not_refused a (Uncovered u) refused is refl)
      by (Err e) done is = desk_same d d' cv.state done.1 cv.purse

  claiming_same : (cents rate : ℤ) → Claiming cents rate d d' a → d' ≡ d
  claiming_same cents rate cl = by cl.result cl.done cl.answer cl.purse
    where
      by : (r : Result Slip Fault) → Claims cents rate d.state d'.state r → a ≡ answer_by (λ _. Claimed d.state.book.made) r → d'.purse ≡ purse_with d.state.book.made d.purse r → d' ≡ d
      by (Ok c) done is p = absurd (granted_not_refused a (Claimed d.state.book.made) refused is refl)
      by (Err e) done is p = desk_same d d' done.1 cl.covers p

  open_same : (ms : List (View → ℕ)) (c : Call) → OnOpen ms c d d' a → d' ≡ d
  open_same ms (Figures xs) h = enters_same (Figured xs.now) (λ _. Granted) (λ _. refl) (λ e x. x.1) h
  open_same ms (Load xs) h = enters_same (Loads xs.now) (λ _. Granted) (λ _. refl) (λ e x. x.1) h
  open_same ms (Resource xs) h = enters_same (Supplies xs.now) (λ _. Granted) (λ _. refl) (λ e x. x.1) h
  open_same ms (Trade xs) h = enters_same (Trades xs.now) Placed (λ _. refl) (λ e x. x.1) h
  open_same ms (Enrol q) h = enters_same (Enrols q) (λ _. Granted) (λ _. refl) (λ e x. x.1) h
  open_same ms (Void k) h = enters_same (Voids k) (λ _. Granted) (λ _. refl) (λ e x. x.1) h
  open_same ms (Short j q) (inl h) = h.1.same
  open_same ms (Short j q) (inr h) = h.1.same
  open_same ms (Cover q side) h = covering_same q side h
  open_same ms (Strike j) (inl h) = enters_same (Strikes (measure_at ms j)) Total (λ _. refl) (λ e x. x.1) h.1
  open_same ms (Strike j) (inr h) = h.1.same
  open_same ms (Share q) h = h.same
  open_same ms (Claim cents rate) h = h.same
  open_same ms (Charge k) h = h.same
  open_same ms (HandBack k) h = h.same
  open_same ms Reopen h = h.same

  struck_same : (c : Call) → OnStruck c d d' a → d' ≡ d
  struck_same (Figures xs) h = h.same
  struck_same (Load xs) h = h.same
  struck_same (Resource xs) h = h.same
  struck_same (Trade xs) h = h.same
  struck_same (Enrol q) h = h.same
  struck_same (Void k) h = h.same
  struck_same (Short j q) h = h.same
  struck_same (Cover q side) h = h.same
  struck_same (Strike j) h = h.same
  struck_same (Share q) h = h.same
  struck_same (Claim cents rate) (inl h) = claiming_same cents rate h
  struck_same (Claim cents rate) (inr h) = h.1.same
  struck_same (Charge k) (inl h) = spends_same Charges (λ p. Charged p.0 p.1) k (λ _. refl) (λ c e x. x.2) h
  struck_same (Charge k) (inr h) = h.1.same
  struck_same (HandBack k) (inl h) = spends_same HandsBack (λ _. Granted) k (λ _. refl) (λ c e x. x.2) h
  struck_same (HandBack k) (inr h) = h.1.same
  struck_same Reopen h = enters_same Reopens (λ _. Granted) (λ _. refl) (λ e x. x.1) h

  pub refused_same : (ms : List (View → ℕ)) (c : Call) → Step ms c d d' a → d' ≡ d
  refused_same ms c (inl h) = open_same ms c h.1
  refused_same ms c (inr h) = struck_same c h.1

-- a call keeps what holds of an opened book; j is the measure that it names
module _ (ms : List (View → ℕ)) (k : Struck) (n : ℕ) where
  abbrev Still : ℕ → Answer → State → Type 0
  Still j a s = Kept ms (struck_by j a k) (n + charged_by a) s

  -- an answer that is neither a total nor a charge
  plain_kept : (s : State) → Kept ms k n s → Kept ms k (n + 0) s
  plain_kept s kept = record { distinct = kept.distinct; parties = kept.parties; struck = kept.struck; cents = omega (arith, kept.cents) }

  same_kept : (d d' : Desk) → Kept ms k n d.state → d'.state ≡ d.state → Kept ms k (n + 0) d'.state
  same_kept d d' kept e = subst (Kept ms k (n + 0)) (sym e) (plain_kept d.state kept)

  module _ (d d' : Desk) (a : Answer) (j : ℕ) (kept : Kept ms k n d.state) where
    barred_kept : Barred d d' a → Still j a d'.state
    barred_kept h = subst (λ x. Still j x d'.state) (sym h.answer) (same_kept d d' kept (ap (λ (x : Desk). x.state) h.same))

    enters_kept : {V : Type 0} (does : State → State → Result V Fault → Type 0) (says : V → Answer) → ((v : V) → does d.state d'.state (Ok v) → Still j (says v) d'.state)
        → ((e : Fault) → does d.state d'.state (Err e) → d'.state ≡ d.state) → Enters does says d d' a → Still j a d'.state
    enters_kept does says grants keeps en = by en.result en.done en.answer
      where
        by : (r : Result _ Fault) → does d.state d'.state r → a ≡ answer_by says r → Still j a d'.state
        by (Ok v) done is = subst (λ x. Still j x d'.state) (sym is) (grants v done)
        by (Err e) done is = subst (λ x. Still j x d'.state) (sym is) (same_kept d d' kept (keeps e done))

    spends_kept : {V : Type 0} (does : Slip → State → State → Result V (Slip × Fault) → Type 0) (says : V → Answer) (i : ℕ) → ((c : Slip) (v : V) → does c d.state d'.state (Ok v) → Still j (says v) d'.state)
        → ((c : Slip) (e : Slip × Fault) → does c d.state d'.state (Err e) → d'.state ≡ d.state) → Spends does says i d d' a → Still j a d'.state
    spends_kept does says i grants keeps sp = by sp.result sp.done sp.answer
      where
        by : (r : Result _ (Slip × Fault)) → does sp.claim d.state d'.state r → a ≡ spent_answer says r → Still j a d'.state
        by (Ok v) done is = subst (λ x. Still j x d'.state) (sym is) (grants sp.claim v done)
        by (Err e) done is = subst (λ x. Still j x d'.state) (sym is) (same_kept d d' kept (keeps sp.claim e done))

    looks_kept : {V : Type 0} (does : State → Result V Fault → Type 0) (says : V → Answer) → ((v : V) (s : State) → Kept ms k (n + 0) s → Still j (says v) s) → Looks does says d d' a → Still j a d'.state
    looks_kept does says plain lk = by lk.result lk.answer
      where
        now' : Kept ms k (n + 0) d'.state
        now' = same_kept d d' kept (ap (λ (x : Desk). x.state) lk.same)

        by : (r : Result _ Fault) → a ≡ answer_by says r → Still j a d'.state
        by (Ok v) is = subst (λ x. Still j x d'.state) (sym is) (plain v d'.state now')
        by (Err e) is = subst (λ x. Still j x d'.state) (sym is) now'

    covering_kept : (q side : ℤ) → Covering q side d d' a → Still j a d'.state
    covering_kept q side cv = by cv.result cv.answer
      where
        by : (r : Result ℕ Fault) → a ≡ answer_by Uncovered r → Still j a d'.state
        by (Ok u) is = subst (λ x. Still j x d'.state) (sym is) (same_kept d d' kept cv.state)
        by (Err e) is = subst (λ x. Still j x d'.state) (sym is) (same_kept d d' kept cv.state)

    claiming_kept : (cents rate : ℤ) → Claiming cents rate d d' a → Still j a d'.state
    claiming_kept cents rate cl = by cl.result cl.done cl.answer
      where
        by : (r : Result Slip Fault) → Claims cents rate d.state d'.state r → a ≡ answer_by (λ _. Claimed d.state.book.made) r → Still j a d'.state
        by (Ok c) done is = subst (λ x. Still j x d'.state) (sym is) (subst (Kept ms k (n + 0)) (sym done.2) (plain_kept _ (claims_kept ms k n d.state _ _ kept)))
        by (Err e) done is = subst (λ x. Still j x d'.state) (sym is) (same_kept d d' kept done.1)

  open_kept : (c : Call) (d d' : Desk) (a : Answer) → d.state.book.struck ≡ false → Kept ms k n d.state → OnOpen ms c d d' a → Still (measure_named c) a d'.state
  open_kept (Figures xs) d d' a o kept h =
      enters_kept d d' a 0 kept (Figured xs.now) (λ _. Granted)
      (λ v g. subst (Kept ms k (n + 0)) (sym g.1.2) (plain_kept _ (figures_kept ms k n d.state o kept _ g.1.0 g.0.0))) (λ e x. x.1) h
  open_kept (Load xs) d d' a o kept h =
      enters_kept d d' a 0 kept (Loads xs.now) (λ _. Granted)
      (λ v g. subst (Kept ms k (n + 0)) (sym g.1.3) (plain_kept _ (load_kept ms k n d.state o kept g.1.0 g.1.2 (place_left _ _ _ g.0.1.1.1.0)))) (λ e x. x.1) h
  open_kept (Resource xs) d d' a o kept h =
      enters_kept d d' a 0 kept (Supplies xs.now) (λ _. Granted)
      (λ v g.
      let s = d.state in
      let named = ap (λ l. counted (at l 0)) g.1.1 in
      let known = subst (λ q. Rattle.book.specs.Causes.Enrolled s q) (sym named) (is_enrolled s _ g.0.1.1.0) in
      subst (Kept ms k (n + 0)) (sym g.1.2) (plain_kept _ (resource_kept ms k n s o kept g.1.0 known (place_left _ _ _ g.0.1.1.1.0)))) (λ e x. x.1) h
  open_kept (Trade xs) d d' a o kept h =
      enters_kept d d' a 0 kept (Trades xs.now) Placed
      (λ v g. subst (Kept ms k (n + 0)) (sym g.1.1.3) (plain_kept _ (trades_kept ms k n d.state o kept _ o refl refl refl))) (λ e x. x.1) h
  open_kept (Enrol q) d d' a o kept h =
      enters_kept d d' a 0 kept (Enrols q) (λ _. Granted)
      (λ v g. subst (Kept ms k (n + 0)) (sym g.1) (plain_kept _ (enrol_kept ms k n d.state o kept (counted q) g.0.1.1.0 g.0.1.1.1.0))) (λ e x. x.1) h
  open_kept (Void i) d d' a o kept h =
      enters_kept d d' a 0 kept (Voids i) (λ _. Granted)
      (λ v g. subst (Kept ms k (n + 0)) (sym g.1) (plain_kept _ (trades_kept ms k n d.state o kept _ o refl refl refl))) (λ e x. x.1) h
  open_kept (Short j q) d d' a o kept (inl h) = looks_kept d d' a j kept _ Shortfall (λ v s x. x) h.1
  open_kept (Short j q) d d' a o kept (inr h) = barred_kept d d' a j kept h.1
  open_kept (Cover q side) d d' a o kept h = covering_kept d d' a 0 kept q side h
  open_kept (Strike j) d d' a o kept (inl h) =
      enters_kept d d' a j kept (Strikes (measure_at ms j)) Total
      (λ t g.
      let s = d.state in
      let after = strike_kept ms k n j s g.0.0 kept in
      let at' : Struck = record { measure = j; total = t } in
      let is : Kept ms at' n d'.state = subst (Kept ms at' n) (sym g.2) (subst (λ (x : ℕ). Kept ms (record { measure = j; total = x }) n (struck_state (measure_at ms j) s)) (sym g.1) after) in
      record { distinct = is.distinct; parties = is.parties; struck = is.struck; cents = omega (arith, is.cents) }) (λ e x. x.1) h.1
  open_kept (Strike j) d d' a o kept (inr h) = barred_kept d d' a j kept h.1
  open_kept (Share q) d d' a o kept h = barred_kept d d' a 0 kept h
  open_kept (Claim cents rate) d d' a o kept h = barred_kept d d' a 0 kept h
  open_kept (Charge i) d d' a o kept h = barred_kept d d' a 0 kept h
  open_kept (HandBack i) d d' a o kept h = barred_kept d d' a 0 kept h
  open_kept Reopen d d' a o kept h = barred_kept d d' a 0 kept h

  struck_kept : (c : Call) (d d' : Desk) (a : Answer) → Kept ms k n d.state → OnStruck c d d' a → Still (measure_named c) a d'.state
  struck_kept (Figures xs) d d' a kept h = barred_kept d d' a 0 kept h
  struck_kept (Load xs) d d' a kept h = barred_kept d d' a 0 kept h
  struck_kept (Resource xs) d d' a kept h = barred_kept d d' a 0 kept h
  struck_kept (Trade xs) d d' a kept h = barred_kept d d' a 0 kept h
  struck_kept (Enrol q) d d' a kept h = barred_kept d d' a 0 kept h
  struck_kept (Void i) d d' a kept h = barred_kept d d' a 0 kept h
  struck_kept (Short j q) d d' a kept h = barred_kept d d' a j kept h
  struck_kept (Cover q side) d d' a kept h = barred_kept d d' a 0 kept h
  struck_kept (Strike j) d d' a kept h = barred_kept d d' a j kept h
  struck_kept (Share q) d d' a kept h = looks_kept d d' a 0 kept _ Shared (λ v s x. x) h
  struck_kept (Claim cents rate) d d' a kept (inl h) = claiming_kept d d' a 0 kept cents rate h
  struck_kept (Claim cents rate) d d' a kept (inr h) = barred_kept d d' a 0 kept h.1
  struck_kept (Charge i) d d' a kept (inl h) =
      spends_kept d d' a 0 kept Charges (λ p. Charged p.0 p.1) i (λ c v g. charge_kept c d.state d'.state v.0 v.1 g.1 ms k n kept) (λ c e x. x.2) h
  struck_kept (Charge i) d d' a kept (inr h) = barred_kept d d' a 0 kept h.1
  struck_kept (HandBack i) d d' a kept (inl h) =
      spends_kept d d' a 0 kept HandsBack (λ _. Granted) i (λ c v g. subst (Kept ms k (n + 0)) (sym g.1) (plain_kept _ (claims_kept ms k n d.state _ _ kept))) (λ c e x. x.2) h
  struck_kept (HandBack i) d d' a kept (inr h) = barred_kept d d' a 0 kept h.1
  struck_kept Reopen d d' a kept h =
      enters_kept d d' a 0 kept Reopens (λ _. Granted) (λ v g. subst (Kept ms k (n + 0)) (sym g.1) (plain_kept _ (reopen_kept ms k n d.state kept))) (λ e x. x.1) h

  pub step_kept : (c : Call) (d d' : Desk) (a : Answer) → Kept ms k n d.state → Step ms c d d' a → Still (measure_named c) a d'.state
  step_kept c d d' a kept (inl h) = open_kept c d d' a h.0 kept h.1
  step_kept c d d' a kept (inr h) = struck_kept c d d' a kept h.1

pub run_kept : (ms : List (View → ℕ)) (es : List Entry) (k : Struck) (n : ℕ) (d d' : Desk) → Kept ms k n d.state → Run ms d es d' → Kept ms (last_strike es k) (n + charged_in es) d'.state
run_kept ms [] k n d d' kept ran =
    subst (λ (x : Desk). Kept ms k (n + 0) x.state) (sym ran) (record { distinct = kept.distinct; parties = kept.parties; struck = kept.struck; cents = omega (arith, kept.cents) })
run_kept ms (e ∷ es) k n d d' kept ran =
    let after = run_kept ms es (struck_by (measure_named e.call) e.answer k) (n + charged_by e.answer) ran.0 d' (step_kept ms k n e.call d ran.0 e.answer kept ran.1) ran.2 in
    let sum = sum_by-cons (λ x. charged_by x.answer) e es in
    record { distinct = after.distinct; parties = after.parties; struck = after.struck; cents = omega (arith, after.cents, sum) }
