-- What the tests of a charge say of its causes, and what it puts on the plain rows.
use Rattle.std.proofs.Common.{◌≡◌, ℕ, ◌+◌, ◌-◌, ◌*◌, ◌/◌, ◌<◌, ◌≤◌, min, Bool, true, false, List, [], ◌∷◌, map, length, take, drop, Ok, Err, Decides, sum_by, Result, sym, refl, ap, ◌∙◌, subst, inl, inr, mul-zero, arith}
use Rattle.std.specs.List.{AllByRecursion}
use Rattle.std.proofs.ByRecursion.{All-get_or, All-map, All-weaker}
use Rattle.std.proofs.lemmas.List.{take-map, drop-map}
use Rattle.std.proofs.lemmas.Bool.{false≢true, cases_lt}
use Rattle.rows.specs.Limits.{max_cents}
use Rattle.rows.specs.Rows.{plain_qse, plain_load}
use Rattle.rows.specs.declared.fault.Fault.{Fault}
use Rattle.rows.specs.declared.fault.Fault.TheVariants.{BrokenTable, NoLoad}
use Rattle.rows.specs.declared.load.LoadRow.{LoadRow}
use Rattle.rows.specs.declared.qse.QseRow.{QseRow}
use Rattle.rows.specs.declared.resource.ResourceRow.{ResourceRow}
use Rattle.rows.specs.declared.trade.TradeRow.{TradeRow}
use Rattle.division.specs.Division.{HasRoom, Divided, Divides}
use Rattle.division.specs.Weighed.{PaidQse, PaidLoad}
use Rattle.division.proofs.Plain.{sum_by_map, divided_map}
use Rattle.division.proofs.Shares.{an_element}
use Rattle.book.specs.State.{Book, State, state_of, qse_rows, load_rows}
use Rattle.book.specs.Causes.{Absent, BrokenBy}
use Rattle.book.specs.Charging.{pot_of, Fit, unfit, no_load, PaysQse, PaysLoad}
use Rattle.book.specs.declared.books.Claim.{Claim}

-- a part from the start, as the checker has it
pub take_front : {X : Type 0} (n : ℕ) (xs : List X) → take (n - 0) xs ≡ take n xs
take_front n xs = let e : n - 0 ≡ n = omega arith in ap (λ k. take k xs) e

all_unmap : {X Y : Type 0} (P : Y → Type 0) (f : X → Y) (xs : List X) → AllByRecursion P (map f xs) → AllByRecursion (λ x. P (f x)) xs
all_unmap P f [] h = tt
all_unmap P f (x ∷ xs) h = (h.0, all_unmap P f xs h.1)

pub room_from_low : {X : Type 0} (holds : X → ℕ) (pot : ℕ) (xs : List X) → pot ≤ 1000000000 → AllByRecursion (λ x. holds x ≤ 999000000000) xs → HasRoom holds pot xs
room_from_low holds pot xs few low = All-weaker (λ x. holds x ≤ 999000000000) (λ x. holds x + pot ≤ max_cents) (λ x le. omega arith) xs low

module _ {X : Type 0} (weighs holds : X → ℕ) (paid : X → ℕ → X → Type 0) (pot : ℕ) (old new : List X) (room : HasRoom holds pot old) (some : sum_by weighs old ≡ 0 → pot ≡ 0) where
  -- where each row has room and some row a weight, the whole pot is given
  pub whole_pot : (r : Result ℕ Fault) → Divides weighs holds paid pot old new r → Divided weighs holds paid pot old new pot
  whole_pot (Ok given) d =
      let all = elim (cases_lt 0 (sum_by weighs old)) as (λ _. given ≡ pot) [ inl h ↦ d.all h | inr h ↦ let none : sum_by weighs old ≡ 0 = omega arith in (d.idle none).none ∙ sym (some none) ] in
      subst (Divided weighs holds paid pot old new) all d
  whole_pot (Err fault) d =
      let x = an_element old d.full.place d.full.within in
      absurd (omega (arith, d.full.above x, All-get_or (λ y. holds y + pot ≤ max_cents) old d.full.place x d.full.within room))

-- no shortfall, no pot
pub no_pot : (c : Claim) (T : ℕ) → T ≡ 0 → pot_of c T ≡ 0
no_pot c T none =
    let zero : c.rate * T / 1000 ≡ 0 = ap (λ n. c.rate * n / 1000) none ∙ ap (λ n. n / 1000) (mul-zero c.rate) in
    let least : min c.cents 0 ≡ 0 = omega arith in
    ap (min c.cents) zero ∙ least

pub plain_short : (qs : List QseRow) → sum_by (λ x. x.shortfall) (map plain_qse qs) ≡ sum_by (λ x. x.shortfall) qs
plain_short = sum_by_map plain_qse (λ x. x.shortfall) (λ x. x.shortfall) (λ x. refl)

pub plain_kwh : (ls : List LoadRow) → sum_by (λ x. x.kwh) (map plain_load ls) ≡ sum_by (λ x. x.kwh) ls
plain_kwh = sum_by_map plain_load (λ x. x.kwh) (λ x. x.kwh) (λ x. refl)

module _ (T : ℕ) (qs : List QseRow) (ls : List LoadRow) where
  pub fit_from_rows : sum_by (λ x. x.shortfall) qs ≡ T → AllByRecursion (λ x. x.cents ≤ 999000000000) qs → AllByRecursion (λ x. x.cents ≤ 999000000000) ls → Fit T (map plain_qse qs) (map plain_load ls)
  fit_from_rows sum low low' = record {
    sums = plain_short qs ∙ sum;
    qses = All-map (λ x. x.cents ≤ 999000000000) plain_qse qs low;
    loads = All-map (λ x. x.cents ≤ 999000000000) plain_load ls low';
  }

  module _ (fit : Fit T (map plain_qse qs) (map plain_load ls)) where
    pub short_from_fit : sum_by (λ x. x.shortfall) qs ≡ T
    short_from_fit = sym (plain_short qs) ∙ fit.sums

    pub low_qses_from_fit : AllByRecursion (λ x. x.cents ≤ 999000000000) qs
    low_qses_from_fit = all_unmap (λ x. x.cents ≤ 999000000000) plain_qse qs fit.qses

    pub low_loads_from_fit : AllByRecursion (λ x. x.cents ≤ 999000000000) ls
    low_loads_from_fit = all_unmap (λ x. x.cents ≤ 999000000000) plain_load ls fit.loads

module _ (pot n : ℕ) where
  pays_qse : (x : QseRow) (k : ℕ) (y : QseRow) → PaidQse x k y → PaysQse (plain_qse x) k (plain_qse y)
  pays_qse x k y p = cc

  pays_load : (x : LoadRow) (k : ℕ) (y : LoadRow) → PaidLoad x k y → PaysLoad (plain_load x) k (plain_load y)
  pays_load x k y p = cc

  pub plain_qses_divided : (old new : List QseRow) → Divided (λ x. x.shortfall) (λ x. x.cents) PaidQse pot (take n old) (take n new) pot
      → Divided (λ x. x.shortfall) (λ x. x.cents) PaysQse pot (take n (map plain_qse old)) (take n (map plain_qse new)) pot
  plain_qses_divided old new d =
      let plain = divided_map plain_qse (λ x. x.shortfall) (λ x. x.cents) (λ x. x.shortfall) (λ x. x.cents) PaidQse PaysQse (λ x. refl) (λ x. refl) pays_qse pot (take n old) (take n new) pot d in
      rw (take-map plain_qse n old, take-map plain_qse n new) plain

  pub plain_loads_divided : (old new : List LoadRow) → Divided (λ x. x.kwh) (λ x. x.cents) PaidLoad pot (take n old) (take n new) pot
      → Divided (λ x. x.kwh) (λ x. x.cents) PaysLoad pot (take n (map plain_load old)) (take n (map plain_load new)) pot
  plain_loads_divided old new d =
      let plain = divided_map plain_load (λ x. x.kwh) (λ x. x.cents) (λ x. x.kwh) (λ x. x.cents) PaidLoad PaysLoad (λ x. refl) (λ x. refl) pays_load pot (take n old) (take n new) pot d in
      rw (take-map plain_load n old, take-map plain_load n new) plain

pub plain_later : {X Y : Type 0} (f : X → Y) (n : ℕ) (old new : List X) → drop n new ≡ drop n old → drop n (map f new) ≡ drop n (map f old)
plain_later f n old new same = drop-map f n new ∙ ap (map f) same ∙ sym (drop-map f n old)

module _ (b : Book) (qs : List QseRow) (ls : List LoadRow) (rs : List ResourceRow) (ts : List TradeRow) where
  abbrev s : State
  s = state_of b qs ls rs ts

  module _ (r : Bool) (test : Decides r (BrokenBy b.qses b.loads b.resources b.trades (length qs) (length ls) (length rs) (length ts))) (e : r ≡ false) where
    pub qses_long : b.qses ≤ length qs
    qses_long = elim (cases_lt (length qs) b.qses) as (λ _. b.qses ≤ length qs) [ inl h ↦ absurd (false≢true (sym e ∙ test.1 (inl h))) | inr h ↦ h ]

    pub loads_long : b.loads ≤ length ls
    loads_long = elim (cases_lt (length ls) b.loads) as (λ _. b.loads ≤ length ls) [ inl h ↦ absurd (false≢true (sym e ∙ test.1 (inr (inl h)))) | inr h ↦ h ]

  qse_front : map plain_qse (take (b.qses - 0) qs) ≡ qse_rows s
  qse_front = ap (map plain_qse) (take_front b.qses qs) ∙ sym (take-map plain_qse b.qses qs)

  load_front : map plain_load (take (b.loads - 0) ls) ≡ load_rows s
  load_front = ap (map plain_load) (take_front b.loads ls) ∙ sym (take-map plain_load b.loads ls)

  module _ (r : Bool) (test : Decides r (Fit b.total (map plain_qse (take (b.qses - 0) qs)) (map plain_load (take (b.loads - 0) ls)))) where
    fit_rows : Fit b.total (map plain_qse (take (b.qses - 0) qs)) (map plain_load (take (b.loads - 0) ls)) ≡ Fit b.total (qse_rows s) (load_rows s)
    fit_rows = ap (λ l. Fit b.total l (map plain_load (take (b.loads - 0) ls))) qse_front ∙ ap (Fit b.total (qse_rows s)) load_front

    pub is_unfit : r ≡ false → unfit s BrokenTable
    is_unfit e = (refl, λ fit. false≢true (sym e ∙ test.1 (subst (λ A. A) (sym fit_rows) fit)))

    module _ (e : r ≡ true) where
      pub not_unfit : Absent (unfit s)
      not_unfit f c = c.1 (subst (λ A. A) fit_rows (test.0 e))

      pub qses_short : sum_by (λ x. x.shortfall) (take b.qses qs) ≡ b.total
      qses_short = ap (sum_by (λ x. x.shortfall)) (sym (take_front b.qses qs)) ∙ short_from_fit b.total _ _ (test.0 e)

      module _ (pot : ℕ) (few : pot ≤ 1000000000) where
        pub qses_room : HasRoom (λ x. x.cents) pot (take b.qses qs)
        qses_room = room_from_low (λ x. x.cents) pot _ few (subst (AllByRecursion (λ x. x.cents ≤ 999000000000)) (take_front b.qses qs) (low_qses_from_fit b.total _ _ (test.0 e)))

        pub loads_room : HasRoom (λ x. x.cents) pot (take b.loads ls)
        loads_room = room_from_low (λ x. x.cents) pot _ few (subst (AllByRecursion (λ x. x.cents ≤ 999000000000)) (take_front b.loads ls) (low_loads_from_fit b.total _ _ (test.0 e)))

  module _ (c : Claim) (p : ℕ) (pot : p ≡ pot_of c b.total) (r : Bool)
      (test : Decides r ((0 < c.cents - p) × (sum_by (λ x. x.kwh) (map plain_load (take (b.loads - 0) ls)) ≡ 0))) where
    pub no_load_asked : r ≡ true → no_load c s NoLoad
    no_load_asked e =
        let t = test.0 e in
        let below : p < c.cents = omega (arith, t.0) in
        (refl, subst (λ n. n < c.cents) pot below, subst (λ l. sum_by (λ x. x.kwh) l ≡ 0) load_front t.1)

    module _ (e : r ≡ false) where
      pub not_no_load : Absent (no_load c s)
      not_no_load f n =
          let below : p < c.cents = subst (λ m. m < c.cents) (sym pot) n.1 in
          false≢true (sym e ∙ test.1 (omega arith, subst (λ l. sum_by (λ x. x.kwh) l ≡ 0) (sym load_front) n.2))

      -- loads without weight leave no rest
      pub no_rest : sum_by (λ x. x.kwh) (take b.loads ls) ≡ 0 → c.cents - p ≡ 0
      no_rest none =
          let light = plain_kwh (take (b.loads - 0) ls) ∙ ap (sum_by (λ x. x.kwh)) (take_front b.loads ls) ∙ none in
          elim (cases_lt 0 (c.cents - p)) as (λ _. c.cents - p ≡ 0) [ inl h ↦ absurd (false≢true (sym e ∙ test.1 (h, light))) | inr h ↦ omega arith ]
