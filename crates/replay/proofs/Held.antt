-- The claims in a purse that was empty at the opening are those outstanding.
use Rattle.std.proofs.Common.{◌≡◌, ℕ, zero, suc, ◌+◌, ◌-◌, ◌<◌, ◌≤◌, true, false, List, [], ◌∷◌, ◌++◌, map, length, get_or, take, drop, set, ℤ, Some, None, Ok, Err, sum_by, Option, Result, sym, refl, ap, ◌∙◌, subst, inl, inr, arith}
use Rattle.std.specs.List.{AllByRecursion}
use Rattle.std.proofs.ByRecursion.{All-set}
use Rattle.std.proofs.lemmas.List.{length-set, length-append, length-take, length-take-le, length-map}
use Rattle.std.proofs.lemmas.List.Sums.{sum_by-cons, sum_by-set}
use Rattle.std.proofs.lemmas.Bool.{cases_lt, false≢true}
use Rattle.rows.specs.Rows.{PlainTrade}
use Rattle.rows.specs.declared.fault.Fault.{Fault}
use Rattle.rows.specs.declared.fault.Fault.TheVariants.{BrokenTable, ClaimOutstanding}
use Rattle.account.specs.View.{View, counted}
use Rattle.division.specs.Division.{Divided}
use Rattle.shortfall.specs.Strike.{written}
use Rattle.book.specs.Causes.{Absent, broken}
use Rattle.book.specs.Charging.{Charges, PaysQse, PaysLoad}
use Rattle.book.specs.Claims.{Claims, HandsBack}
use Rattle.book.specs.Entries.{Enrols, Figured, Loads, Supplies, Trades, Voids, new_book, new_qse, refigured, void_at}
use Rattle.book.specs.State.{Book, State, qse_rows, tables_of, with_claims}
use Rattle.book.specs.declared.books.Claim.{Claim as Slip}
use Rattle.replay.specs.declared.calls.Answer.{Answer}
use Rattle.replay.specs.declared.calls.Answer.TheVariants.{Granted, Placed, Total, Charged}
use Rattle.replay.specs.declared.calls.Call.{Call}
use Rattle.replay.specs.declared.calls.Call.TheVariants.{Figures, Load, Resource, Trade, Enrol, Void, Short, Cover, Strike, Share, Claim, Charge, HandBack, Reopen}
use Rattle.replay.specs.declared.calls.Entry.{Entry}
use Rattle.replay.specs.Runs.{Desk, Enters, Claiming, Spends, Strikes, Reopens, OnOpen, OnStruck, Step, Run, measure_at, struck_state, purse_with, purse_less}
use Rattle.replay.specs.Guarantee.{claims_at, claims_in, OfBook, Long, Holding}
use Rattle.replay.proofs.Kept.{qses_long, place_left, refigured_long}
use Rattle.replay.proofs.Purses.{held_within}

pub long_from : (s : State) → Absent (broken s) → Long s
long_from s sound = record {
  qses = qses_long s sound;
  loads = elim (cases_lt (length s.loads) s.book.loads) [ inl h ↦ absurd (sound BrokenTable (refl, inr (inl h))) | inr h ↦ h ];
  resources = elim (cases_lt (length s.resources) s.book.resources) [ inl h ↦ absurd (sound BrokenTable (refl, inr (inr (inl h)))) | inr h ↦ h ];
  trades = elim (cases_lt (length s.trades) s.book.trades) [ inl h ↦ absurd (sound BrokenTable (refl, inr (inr (inr h)))) | inr h ↦ h ];
}

one_more : {X : Type 0} (n : ℕ) (xs : List X) (x : X) → n < length xs → n + 1 ≤ length (set xs n x)
one_more n xs x lt = omega (arith, length-set xs n x)

-- a table whose first n rows are replaced is long enough
front_long : {X : Type 0} (n : ℕ) (xs ys : List X) → n ≤ length xs → length ys ≡ length (take n xs) → n ≤ length (ys ++ drop n xs)
front_long n xs ys le long = omega (arith, length-append ys (drop n xs), long, length-take-le n xs le)

void_long : (k : ℕ) (ts : List PlainTrade) → length (void_at k ts) ≡ length ts
void_long zero [] = refl
void_long (suc k) [] = refl
void_long zero (t ∷ ts) = refl
void_long (suc k) (t ∷ ts) = ap suc (void_long k ts)

divided_long : {X : Type 0} (weighs holds : X → ℕ) (paid : X → ℕ → X → Type 0) (pot n : ℕ) (xs ys : List X) → n ≤ length xs → Divided weighs holds paid pot (take n xs) (take n ys) pot → n ≤ length ys
divided_long weighs holds paid pot n xs ys le d =
    let same : length (take n ys) ≡ length (take n xs) = elim (cases_lt 0 (sum_by weighs (take n xs))) [ inl some ↦ (d.spread some).long | inr none ↦ ap length (d.idle (omega arith)).same ] in
    omega (arith, same, length-take n ys, length-take-le n xs le)

pub held_opened : (d : Desk) (n : ℕ) → d.state.book ≡ new_book n → claims_in d.purse ≡ 0 → Holding d
held_opened d n new empty =
    let b = d.state.book in
    let out : b.outstanding ≡ 0 = ap (λ (x : Book). x.outstanding) new in
    record {
      claims = empty ∙ sym out;
      ours = none_ours b.number d.purse empty;
      none = λ _. out;
      long = record {
        qses = omega (arith, ap (λ (x : Book). x.qses) new);
        loads = omega (arith, ap (λ (x : Book). x.loads) new);
        resources = omega (arith, ap (λ (x : Book). x.resources) new);
        trades = omega (arith, ap (λ (x : Book). x.trades) new);
      };
    }
  where
    none_ours : (n : ℕ) (p : List (Option Slip)) → claims_in p ≡ 0 → AllByRecursion (OfBook n) p
    none_ours n [] e = tt
    none_ours n (Some c ∷ p) e = absurd (omega (arith, e, sum_by-cons claims_at (Some c) p))
    none_ours n (None ∷ p) e = (tt, none_ours n p (omega (arith, e, sum_by-cons claims_at None p)))

module _ (d d' : Desk) (held : Holding d) where
  held_same : d' ≡ d → Holding d'
  held_same e = subst Holding (sym e) held

  -- a call that leaves the claims alone
  held_next : (s : State) → d'.state ≡ s → d'.purse ≡ d.purse → s.book.outstanding ≡ d.state.book.outstanding → s.book.number ≡ d.state.book.number
      → (s.book.struck ≡ false → d.state.book.struck ≡ false) → Long s → Holding d'
  held_next s e p out number unstruck long =
      subst (λ (x : State). Holding (record { state = x; covers = d'.covers; purse = d'.purse })) (sym e) (record {
        claims = ap claims_in p ∙ held.claims ∙ sym out;
        ours = subst (λ n. AllByRecursion (OfBook n) d'.purse) (sym number) (subst (AllByRecursion (OfBook d.state.book.number)) (sym p) held.ours);
        none = λ o. out ∙ held.none (unstruck o);
        long = long;
      })

  enters_held : {V : Type 0} (does : State → State → Result V Fault → Type 0) (says : V → Answer) (a : Answer) → ((v : V) → does d.state d'.state (Ok v) → d'.purse ≡ d.purse → Holding d')
      → ((e : Fault) → does d.state d'.state (Err e) → d'.state ≡ d.state) → Enters does says d d' a → Holding d'
  enters_held does says a grants keeps en = by en.result en.done
    where
      by : (r : Result _ Fault) → does d.state d'.state r → Holding d'
      by (Ok v) done = grants v done en.purse
      by (Err e) done = held_next d.state (keeps e done) en.purse refl refl (λ o. o) held.long

  -- a claim spent leaves its place and is no longer outstanding
  spent_held : (k : ℕ) (c : Slip) → get_or d.purse k None ≡ Some c → d'.purse ≡ set d.purse k None → d'.state.book ≡ with_claims d.state.book d.state.book.made (d.state.book.outstanding - 1) → Long d'.state → Holding d'
  spent_held k c at p b long =
      let lt = held_within d.purse k c (sym at) in
      let sum = sum_by-set claims_at d.purse k None None lt in
      let one : claims_at (get_or d.purse k None) ≡ 1 = ap claims_at at in
      let out : d'.state.book.outstanding ≡ d.state.book.outstanding - 1 = ap (λ (x : Book). x.outstanding) b in
      record {
        claims = omega (arith, ap claims_in p, sum, one, held.claims, out);
        ours = subst (λ n. AllByRecursion (OfBook n) d'.purse) (sym (ap (λ (x : Book). x.number) b)) (subst (AllByRecursion (OfBook d.state.book.number)) (sym p) (All-set (OfBook d.state.book.number) d.purse k None tt held.ours));
        none = λ o. omega (arith, out, held.none (sym (ap (λ (x : Book). x.struck) b) ∙ o));
        long = long;
      }

  spends_held : {V : Type 0} (does : Slip → State → State → Result V (Slip × Fault) → Type 0) (says : V → Answer) (k : ℕ) (a : Answer)
      → ((c : Slip) (v : V) → does c d.state d'.state (Ok v) → (d'.state.book ≡ with_claims d.state.book d.state.book.made (d.state.book.outstanding - 1)) × Long d'.state)
      → ((c : Slip) (e : Slip × Fault) → does c d.state d'.state (Err e) → d'.state ≡ d.state) → Spends does says k d d' a → Holding d'
  spends_held does says k a grants keeps sp = by sp.result sp.done sp.purse
    where
      by : (r : Result _ (Slip × Fault)) → does sp.claim d.state d'.state r → d'.purse ≡ purse_less k d.purse r → Holding d'
      by (Ok v) done p = let g = grants sp.claim v done in spent_held k sp.claim sp.held p g.0 g.1
      by (Err e) done p = held_next d.state (keeps sp.claim e done) p refl refl (λ o. o) held.long

  claiming_held : (cents rate : ℤ) (a : Answer) → d.state.book.struck ≡ true → Claiming cents rate d d' a → Holding d'
  claiming_held cents rate a struck cl = by cl.result cl.done cl.purse
    where
      s : State
      s = d.state

      by : (r : Result Slip Fault) → Claims cents rate d.state d'.state r → d'.purse ≡ purse_with d.state.book.made d.purse r → Holding d'
      by (Ok c) done p =
          let k = s.book.made in
          let sum = sum_by-set claims_at d.purse k (Some c) None cl.free.0 in
          let none = ap claims_at cl.free.1 in
          let b : d'.state.book ≡ with_claims s.book (s.book.made + 1) (s.book.outstanding + 1) = ap (λ (x : State). x.book) done.2 in
          record {
            claims = omega (arith, ap claims_in p, sum, none, held.claims, ap (λ (x : Book). x.outstanding) b);
            ours = subst (λ n. AllByRecursion (OfBook n) d'.purse) (sym (ap (λ (x : Book). x.number) b)) (subst (AllByRecursion (OfBook s.book.number)) (sym p) (All-set (OfBook s.book.number) d.purse k (Some c) done.1.book held.ours));
            none = λ o. absurd (false≢true (sym o ∙ ap (λ (x : Book). x.struck) b ∙ struck));
            long = subst Long (sym done.2) (record { qses = held.long.qses; loads = held.long.loads; resources = held.long.resources; trades = held.long.trades });
          }
      by (Err e) done p = held_next s done.1 p refl refl (λ o. o) held.long

  open_held : (ms : List (View → ℕ)) (c : Call) (a : Answer) → d.state.book.struck ≡ false → OnOpen ms c d d' a → Holding d'
  open_held ms (Figures xs) a o h =
      enters_held (Figured xs.now) (λ _. Granted) a
      (λ v g p.
      let s = d.state in
      let long = long_from s g.0.0 in
      held_next _ g.1.2 p refl refl (λ x. x) (record { qses = front_long s.book.qses s.qses (refigured _ g.1.0 (qse_rows s)) long.qses (refigured_long _ g.1.0 (qse_rows s)); loads = long.loads; resources = long.resources; trades = long.trades }))
      (λ e x. x.1) h
  open_held ms (Load xs) a o h =
      enters_held (Loads xs.now) (λ _. Granted) a
      (λ v g p.
      let s = d.state in
      let long = long_from s g.0.0 in
      held_next _ g.1.3 p refl refl (λ x. x) (record { qses = long.qses; loads = one_more s.book.loads s.loads g.1.0 (place_left _ _ _ g.0.1.1.1.0); resources = long.resources; trades = long.trades }))
      (λ e x. x.1) h
  open_held ms (Resource xs) a o h =
      enters_held (Supplies xs.now) (λ _. Granted) a
      (λ v g p.
      let s = d.state in
      let long = long_from s g.0.0 in
      held_next _ g.1.2 p refl refl (λ x. x) (record { qses = long.qses; loads = long.loads; resources = one_more s.book.resources s.resources g.1.0 (place_left _ _ _ g.0.1.1.1.0); trades = long.trades }))
      (λ e x. x.1) h
  open_held ms (Trade xs) a o h =
      enters_held (Trades xs.now) Placed a
      (λ v g p.
      let s = d.state in
      let long = long_from s g.0.0 in
      held_next _ g.1.1.3 p refl refl (λ x. x) (record { qses = long.qses; loads = long.loads; resources = long.resources; trades = one_more s.book.trades s.trades g.1.1.0 (place_left _ _ _ g.0.1.1.1.1.0) }))
      (λ e x. x.1) h
  open_held ms (Enrol q) a o h =
      enters_held (Enrols q) (λ _. Granted) a
      (λ v g p.
      let s = d.state in
      let long = long_from s g.0.0 in
      held_next _ g.1 p refl refl (λ x. x) (record { qses = one_more s.book.qses s.qses (new_qse (counted q)) (place_left _ _ _ g.0.1.1.1.0); loads = long.loads; resources = long.resources; trades = long.trades }))
      (λ e x. x.1) h
  open_held ms (Void k) a o h =
      enters_held (Voids k) (λ _. Granted) a
      (λ v g p.
      let s = d.state in
      let long = long_from s g.0.0 in
      held_next _ g.1 p refl refl (λ x. x) (record { qses = long.qses; loads = long.loads; resources = long.resources; trades = omega (arith, long.trades, void_long k s.trades) }))
      (λ e x. x.1) h
  open_held ms (Short j q) a o (inl h) = held_same h.1.same
  open_held ms (Short j q) a o (inr h) = held_same h.1.same
  open_held ms (Cover q side) a o h = held_next d.state h.state h.purse refl refl (λ x. x) held.long
  open_held ms (Strike j) a o (inl h) =
      enters_held (Strikes (measure_at ms j)) Total a
      (λ t g p.
      let s = d.state in
      let long = long_from s g.0.0 in
      let rows = map (written (measure_at ms j) (tables_of s)) (qse_rows s) in
      held_next (struck_state (measure_at ms j) s) g.2 p refl refl (λ x. absurd (false≢true (sym x))) (record { qses = front_long s.book.qses s.qses rows long.qses (length-map (qse_rows s) (written (measure_at ms j) (tables_of s))); loads = long.loads; resources = long.resources; trades = long.trades }))
      (λ e x. x.1) h.1
  open_held ms (Strike j) a o (inr h) = held_same h.1.same
  open_held ms (Share q) a o h = held_same h.same
  open_held ms (Claim cents rate) a o h = held_same h.same
  open_held ms (Charge k) a o h = held_same h.same
  open_held ms (HandBack k) a o h = held_same h.same
  open_held ms Reopen a o h = held_same h.same

  struck_held : (c : Call) (a : Answer) → d.state.book.struck ≡ true → OnStruck c d d' a → Holding d'
  struck_held (Figures xs) a o h = held_same h.same
  struck_held (Load xs) a o h = held_same h.same
  struck_held (Resource xs) a o h = held_same h.same
  struck_held (Trade xs) a o h = held_same h.same
  struck_held (Enrol q) a o h = held_same h.same
  struck_held (Void k) a o h = held_same h.same
  struck_held (Short j q) a o h = held_same h.same
  struck_held (Cover q side) a o h = held_same h.same
  struck_held (Strike j) a o h = held_same h.same
  struck_held (Share q) a o h = held_same h.same
  struck_held (Claim cents rate) a o (inl h) = claiming_held cents rate a o h
  struck_held (Claim cents rate) a o (inr h) = held_same h.1.same
  struck_held (Charge k) a o (inl h) =
      spends_held Charges (λ p. Charged p.0 p.1) k a
      (λ c v g.
      let s = d.state in
      let s' = d'.state in
      let done = g.1 in
      let at : (f : Book → ℕ) → f s'.book ≡ f (with_claims s.book s.book.made (s.book.outstanding - 1)) = λ f. ap f done.book in (
        done.book,
        record {
          qses = omega (arith, at (λ b. b.qses), divided_long (λ x. x.shortfall) (λ x. x.cents) PaysQse v.0 s.book.qses s.qses s'.qses held.long.qses done.qses);
          loads = omega (arith, at (λ b. b.loads), divided_long (λ x. x.kwh) (λ x. x.cents) PaysLoad v.1 s.book.loads s.loads s'.loads held.long.loads done.loads);
          resources = omega (arith, at (λ b. b.resources), ap length done.resources, held.long.resources);
          trades = omega (arith, at (λ b. b.trades), ap length done.trades, held.long.trades);
        },
      )) (λ c e x. x.2) h
  struck_held (Charge k) a o (inr h) = held_same h.1.same
  struck_held (HandBack k) a o (inl h) =
      spends_held HandsBack (λ _. Granted) k a
      (λ c v g. (ap (λ (x : State). x.book) g.1, subst Long (sym g.1) (record { qses = held.long.qses; loads = held.long.loads; resources = held.long.resources; trades = held.long.trades }))) (λ c e x. x.2) h
  struck_held (HandBack k) a o (inr h) = held_same h.1.same
  struck_held Reopen a o h =
      enters_held Reopens (λ _. Granted) a
      (λ v g p.
      let s = d.state in
      let none : s.book.outstanding ≡ 0 = elim (cases_lt 0 s.book.outstanding) [ inl some ↦ absurd (g.0.1.0 ClaimOutstanding (refl, some)) | inr le ↦ omega (arith, le) ] in
      subst (λ (x : State). Holding (record { state = x; covers = d'.covers; purse = d'.purse })) (sym g.1) (record {
        claims = ap claims_in p ∙ held.claims;
        ours = subst (AllByRecursion (OfBook s.book.number)) (sym p) held.ours;
        none = λ _. none;
        long = record { qses = held.long.qses; loads = held.long.loads; resources = held.long.resources; trades = held.long.trades };
      })) (λ e x. x.1) h

  step_held : (ms : List (View → ℕ)) (c : Call) (a : Answer) → Step ms c d d' a → Holding d'
  step_held ms c a (inl h) = open_held ms c a h.0 h.1
  step_held ms c a (inr h) = struck_held c a h.0 h.1

pub run_held : (ms : List (View → ℕ)) (es : List Entry) (d d' : Desk) → Holding d → Run ms d es d' → Holding d'
run_held ms [] d d' held ran = subst Holding (sym ran) held
run_held ms (e ∷ es) d d' held ran = run_held ms es ran.0 d' (step_held d ran.0 held ms e.call e.answer ran.1) ran.2
