-- A list that a row of a case is written by gives that row, and the case's rows give its figures.
use Rattle.std.proofs.Common.{◌≡◌, ℕ, ◌<◌, List, [], ◌∷◌, map, length, get_or, ℤ, sym, refl, ap, ◌∙◌, subst, arith}
use Rattle.std.proofs.lemmas.List.{get_or-map, length-map}
use Rattle.rows.specs.Rows.{PlainLoad, PlainQse, PlainResource, PlainTrade}
use Rattle.rows.specs.declared.codes.Kind.{Kind}
use Rattle.account.specs.View.{View}
use Rattle.account.specs.Own.{Own, PlainTables, qse_own}
use Rattle.shortfall.specs.Shortfall.{shortfall_of}
use Rattle.shortfall.specs.Pool.{owns, total}
use Rattle.entry.specs.Numbers.{figures_numbers, plain_load_numbers, resource_numbers, trade_numbers}
use Rattle.cases.specs.Entered.{asking, load_of, unit_side, unit_of, sale_of}
use Rattle.cases.specs.Cases.{Case, Holds, case_own}
use Rattle.cases.specs.Both.{IsBoth}
use Rattle.cases.specs.Trade.{two_qses, untraded}
use Rattle.cases.specs.Written.{NineEach, WrittenLoad, WrittenQse, WrittenTrade, WrittenUnit}
use Rattle.cases.specs.declared.figures.Both.{Both}
use Rattle.cases.proofs.Read.{qse_same, load_same, unit_same, trade_same}

pub is_asking : (q : ℕ) (kw : List ℕ) (r : PlainQse) (xs : List ℤ) → WrittenQse r xs → length kw ≡ 9 → figures_numbers q (asking q kw).figures ≡ xs → r ≡ asking q kw
is_asking q kw r xs w long e = qse_same r (asking q kw) xs w (record { snapshot = long; adjusted = long; shortfall = refl; cents = refl; numbers = e })

pub is_load : (q kwh : ℕ) (r : PlainLoad) (xs : List ℤ) → WrittenLoad r xs → plain_load_numbers (load_of q kwh) ≡ xs → r ≡ load_of q kwh
is_load q kwh r xs w e = load_same r (load_of q kwh) xs w (record { cents = refl; numbers = e })

pub is_unit : (q : ℕ) (k : Kind) (hsl : ℕ) (kw : List ℕ) (r : PlainResource) (xs : List ℤ) → WrittenUnit r xs → length kw ≡ 9 → resource_numbers (unit_of q k hsl kw) ≡ xs → r ≡ unit_of q k hsl kw
is_unit q k hsl kw r xs w long e =
    let nine : NineEach (unit_side hsl kw) = record { offered = long; cop = long; qualified = long } in
    unit_same r (unit_of q k hsl kw) xs w (record { snapshot = nine; adjusted = nine; numbers = e })

pub is_sale : (s b kw : ℕ) (r : PlainTrade) (xs : List ℤ) → WrittenTrade r xs → trade_numbers (sale_of s b kw) ≡ xs → r ≡ sale_of s b kw
is_sale s b kw r xs w e = trade_same r (sale_of s b kw) xs w (record { counts = refl; numbers = e })

pub one_row : {X : Type 0} {x y : X} → x ≡ y → x ∷ [] ≡ y ∷ []
one_row e = λ i. e i ∷ []

pub two_rows : {X : Type 0} {x y v w : X} → x ≡ y → v ≡ w → x ∷ v ∷ [] ≡ y ∷ w ∷ []
two_rows e f = λ i. e i ∷ f i ∷ []

pub shown : (c : Case) → Holds c → (q : PlainQse) (ls : List PlainLoad) (us : List PlainResource) (b : Both)
    → q ≡ c.qse → ls ≡ c.loads → us ≡ c.units → IsBoth b (λ m. shortfall_of m (qse_own q (record { loads = ls; resources = us; trades = [] }))) → b ≡ c.figures
shown c h q ls us b eq el eu s =
    let P : Own → Type 0 = λ o. IsBoth b (λ m. shortfall_of m o) in
    let same : qse_own q (record { loads = ls; resources = us; trades = [] }) ≡ case_own c = λ i. qse_own (eq i) (record { loads = el i; resources = eu i; trades = [] }) in
    let t = subst P same s in
    let g = t.grouped ∙ sym h.shorts.grouped in
    let u = t.subtype ∙ sym h.shorts.subtype in
    λ i. record { grouped = g i; sub_type = u i }

pub both_from : (o p : Own) (b x : Both) → IsBoth b (λ m. shortfall_of m o) → o ≡ p → IsBoth x (λ m. shortfall_of m p) → b ≡ x
both_from o p b x s e h =
    let P : Own → Type 0 = λ w. IsBoth b (λ m. shortfall_of m w) in
    let t = subst P e s in
    let g = t.grouped ∙ sym h.grouped in
    let u = t.subtype ∙ sym h.subtype in
    λ i. record { grouped = g i; sub_type = u i }

-- the sum of the two QSEs' shortfalls before the trade
pub sum_from : (m : View → ℕ) (r s : ℕ) (t : PlainTables) (qs : List PlainQse) → r ≡ total m (owns t qs) → t ≡ untraded → qs ≡ two_qses → s ≡ total m (owns untraded two_qses) → r ≡ s
sum_from m r s t qs e et eq h =
    let same : total m (owns t qs) ≡ total m (owns untraded two_qses) = λ i. total m (owns (et i) (eq i)) in
    e ∙ same ∙ sym h

-- an element of a mapped list
pub mapped_at : {X Y : Type 0} (f : X → Y) (xs : List X) (ys : List Y) (i : ℕ) (d : X) (e : Y) → map f xs ≡ ys → i < length ys → f (get_or xs i d) ≡ get_or ys i e
mapped_at f xs ys i d e s lt =
    let in' : i < length xs = omega (arith, length-map xs f, ap length s) in
    sym (get_or-map f xs i d e in') ∙ ap (λ l. get_or l i e) s
