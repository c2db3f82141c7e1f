-- What a charge of case 12 puts on the rows.
use Rattle.std.proofs.Common.{◌≡◌, ℕ, ◌+◌, ◌-◌, ◌*◌, ◌/◌, ◌<◌, min, List, map, take, sum, sum_by, sym, refl, ap, ◌∙◌, arith}
use Rattle.std.specs.List.{AllByRecursion}
use Rattle.std.proofs.lemmas.List.Sums.{sum-map}
use Rattle.rows.specs.Rows.{PlainLoad, PlainQse}
use Rattle.division.specs.Division.{Divided}
use Rattle.book.specs.Charging.{PaysQse, PaysLoad}
use Rattle.book.specs.State.{qse_rows, load_rows}
use Rattle.cases.specs.Parts.{parts}
use Rattle.cases.specs.Charge.{Charges}
use Rattle.cases.specs.Worked.{charge}
use Rattle.cases.proofs.Parted.{parted}

pays_qse : (x : PlainQse) (n : ℕ) (y : PlainQse) → PaysQse x n y → y.cents ≡ x.cents + n
pays_qse x n y e = ap (λ q. q.cents) e

pays_load : (x : PlainLoad) (n : ℕ) (y : PlainLoad) → PaysLoad x n y → y.cents ≡ x.cents + n
pays_load x n y e = ap (λ l. l.cents) e

-- rows of these weights, which sum to more than 0
divided_parts : {X : Type 0} (weighs holds : X → ℕ) (paid : X → ℕ → X → Type 0) → ((x : X) (n : ℕ) (y : X) → paid x n y → holds y ≡ holds x + n)
    → (pot given n : ℕ) (ws : List ℕ) (old new : List X) → AllByRecursion (λ x. holds x ≡ 0) old → map weighs old ≡ ws → pot ≡ n → 0 < sum ws
    → Divided weighs holds paid pot old new given → map holds new ≡ parts n ws
divided_parts weighs holds paid adds pot given n ws old new none e en some d =
    let all : sum ws ≡ sum_by weighs old = ap sum (sym e) ∙ sum-map weighs old in
    parted weighs holds paid adds pot old new none (d.spread (omega (arith, all))) ∙ (λ i. parts (en i) (e i))

pub loads_divided : (pot : ℕ) (ws : List ℕ) (old new : List PlainLoad) (given : ℕ) → AllByRecursion (λ l. l.cents ≡ 0) old → map (λ l. l.kwh) old ≡ ws → 0 < sum ws
    → Divided (λ l. l.kwh) (λ l. l.cents) PaysLoad pot old new given → map (λ l. l.cents) new ≡ parts pot ws
loads_divided pot ws old new given none e some d = divided_parts (λ l. l.kwh) (λ l. l.cents) PaysLoad pays_load pot given pot ws old new none e refl some d

pub charge_charges : Charges charge
charge_charges claim s s' pot rest cents rate h c =
    let pays : pot ≡ 600 = c.pot ∙ (λ i. min (cents i) (rate i * h.total i / 1000)) in
    let leaves : rest ≡ 400 = c.rest ∙ (λ i. cents i - pays i) in
    let qses : s'.book.qses ≡ s.book.qses = ap (λ b. b.qses) c.book in
    let loads : s'.book.loads ≡ s.book.loads = ap (λ b. b.loads) c.book in
    record {
      pot = pays;
      rest = leaves;
      qses = ap (λ n. map (λ q. q.cents) (take n s'.qses)) qses ∙ divided_parts (λ q. q.shortfall) (λ q. q.cents) PaysQse pays_qse pot pot 600 _ (qse_rows s) _ h.unpaid h.shortfalls pays (omega arith) c.qses;
      loads = ap (λ n. map (λ l. l.cents) (take n s'.loads)) loads ∙ divided_parts (λ l. l.kwh) (λ l. l.cents) PaysLoad pays_load rest rest 400 _ (load_rows s) _ h.uncharged h.loads leaves (omega arith) c.loads;
    }
