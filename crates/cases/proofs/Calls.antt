-- The calls of case 12: none is refused, and how the book stands after each.
use Rattle.std.proofs.Common.{◌≡◌, ℕ, ◌+◌, true, List, [], ◌∷◌, map, length, get_or, take, pos, Ok, Err, Result, sym, refl, ap, ◌∙◌, subst, inl, inr, arith}
use Rattle.std.specs.Result.{IsOk}
use Rattle.rows.specs.Rows.{PlainQse, plain_load, plain_resource, plain_trade}
use Rattle.rows.specs.declared.fault.Fault.{Fault}
use Rattle.measure.specs.Grouped.{grouped}
use Rattle.book.specs.Causes.{Judged, broken, foreign}
use Rattle.book.specs.Charging.{Charges as ChargesBy, charging, unfit, no_load}
use Rattle.book.specs.Claims.{Claims}
use Rattle.book.specs.Measuring.{Strikes, sum_short, struck_rows}
use Rattle.book.specs.State.{State, open_book, struck_book, state_of, with_book, with_claims, with_strike}
use Rattle.book.specs.declared.books.Claim.{Claim}
use Rattle.book.specs.declared.books.OpenBook.{OpenBook}
use Rattle.book.specs.declared.books.StruckBook.{StruckBook}
use Rattle.cases.specs.Charge.{two_book, two_state, Short, IsCharge}
use Rattle.cases.specs.Trade.{Enters}
use Rattle.cases.specs.Worked.{charge}
use Rattle.cases.specs.declared.two.Rows.{Rows}
use Rattle.cases.proofs.Charge.{charge_charges}
use Rattle.cases.proofs.Read.{pos_same}

-- the book of the two QSEs after the strike, and after the claim
abbrev pub struck_state : State
struck_state = record {
  book = with_strike two_state.book true 3000;
  qses = struck_rows grouped two_state;
  loads = two_state.loads;
  resources = two_state.resources;
  trades = two_state.trades;
}

abbrev pub claimed_state : State
claimed_state = with_book struck_state (with_claims struck_state.book 1 1)

pub record Strike (b : StruckBook) (qs : List PlainQse) : Type 0 where
  pub book : struck_book b ≡ struck_state.book
  pub qses : qs ≡ struck_state.qses

pub strike_from : (b : OpenBook) (s : State) (qs : List PlainQse) (r : Result (StruckBook × ℕ) (OpenBook × Fault)) (d : StruckBook × ℕ) → s ≡ two_state → r ≡ Ok d → Strikes grouped b s qs r → Strike d.0 qs
strike_from b s qs r d es er h =
    let k = subst (Strikes grouped b s qs) er h in
    let t : d.1 ≡ 3000 = k.1 ∙ (λ i. sum_short grouped (es i)) in
    record {
      book = k.2 ∙ (λ i. with_strike (es i).book true (t i));
      qses = k.3 ∙ (λ i. struck_rows grouped (es i));
    }

pub record Claimed (c : Claim) (s : State) : Type 0 where
  pub state : s ≡ claimed_state
  pub book : c.book ≡ 1
  pub cents : c.cents ≡ 1000
  pub rate : c.rate ≡ 200

pub claim_from : (s s' : State) (r : Result Claim Fault) (c : Claim) → s ≡ struck_state → r ≡ Ok c → Claims (pos 1000) (pos 200) s s' r → Claimed c s'
claim_from s s' r c es er h =
    let k = subst (Claims (pos 1000) (pos 200) s s') er h in
    record {
      state = k.2 ∙ (λ i. with_book (es i) (with_claims (es i).book ((es i).book.made + 1) ((es i).book.outstanding + 1)));
      book = k.1.book ∙ (λ i. (es i).book.number);
      cents = pos_same k.1.cents;
      rate = pos_same k.1.rate;
    }

-- the strike and the claim, one after the other
pub claim_after_strike : (rows : Rows) (b : OpenBook) (qs : List PlainQse) (r : Result (StruckBook × ℕ) (OpenBook × Fault)) (d : StruckBook × ℕ) (s : State) (t : Result Claim Fault) (c : Claim)
    → Enters rows → open_book b ≡ two_book
    → r ≡ Ok d → Strikes grouped b (state_of (open_book b) rows.qses rows.loads rows.units rows.trades) qs r
    → t ≡ Ok c → Claims (pos 1000) (pos 200) (record { book = struck_book d.0; qses = qs; loads = map plain_load rows.loads; resources = map plain_resource rows.units; trades = map plain_trade rows.trades }) s t
    → Claimed c s
claim_after_strike rows b qs r d s t c e book er strikes et claims =
    let qses = e.qses in
    let loads = e.loads in
    let units = e.units in
    let trades = e.trades in
    let entered : _ ≡ two_state = λ i. record { book = book i; qses = qses i; loads = loads i; resources = units i; trades = trades i } in
    let strike = strike_from b _ qs r d entered er strikes in
    let kept = strike.book in
    let written = strike.qses in
    let struck : _ ≡ struck_state = λ i. record { book = kept i; qses = written i; loads = loads i; resources = units i; trades = trades i } in
    claim_from _ s t c struck et claims

short_state : Short claimed_state
short_state = record { total = refl; shortfalls = refl; loads = refl; unpaid = (refl, (refl, tt)); uncharged = (refl, (refl, tt)) }

not_broken : (e : Fault) → broken claimed_state e → ⊥
not_broken e h = elim h.1 [ inl a ↦ omega arith | inr t ↦ elim t [ inl a ↦ omega arith | inr u ↦ elim u [ inl a ↦ omega arith | inr v ↦ omega arith ] ] ]

not_unfit : (e : Fault) → unfit claimed_state e → ⊥
not_unfit e h = h.1 (record { sums = refl; qses = (omega arith, (omega arith, tt)); loads = (omega arith, (omega arith, tt)) })

not_foreign : (b : ℕ) (e : Fault) → b ≡ 1 → foreign claimed_state b e → ⊥
not_foreign b e is h = elim h.1 [ inl a ↦ a is | inr z ↦ omega arith ]

not_unloaded : (c : Claim) (e : Fault) → no_load c claimed_state e → ⊥
not_unloaded c e h = let none : 1500 ≡ 0 = h.2 in absurd (omega (arith, none))

not_judged : (c : Claim) (e : Fault) → c.book ≡ 1 → Judged (charging c claimed_state) e → ⊥
not_judged c e is (inl h) = not_broken e h
not_judged c e is (inr (a, inl h)) = not_unfit e h
not_judged c e is (inr (a, inr (b, inl h))) = not_foreign c.book e is h
not_judged c e is (inr (a, inr (b, inr (d, inl h)))) = not_unloaded c e h
not_judged c e is (inr (a, inr (b, inr (d, inr (f, h))))) = h

pub charge_granted : (c : Claim) (s s' : State) (r : Result (ℕ × ℕ) (Claim × Fault)) → Claimed c s → ChargesBy c s s' r → IsOk r
charge_granted c s s' (Ok p) h k = refl
charge_granted c s s' (Err e) h k = let P : State → Type 0 = λ t. Judged (charging c t) e.1 in absurd (not_judged c e.1 h.book (subst P h.state k.0))

-- what it puts on two rows of QSEs and two of loads
pub record Puts (s : State) (p r : ℕ) : Type 0 where
  pub qses : s.book.qses ≡ 2
  pub loads : s.book.loads ≡ 2
  pub charge : IsCharge charge s p r

pub charge_from : (c : Claim) (s s' : State) (r : Result (ℕ × ℕ) (Claim × Fault)) (p : ℕ × ℕ) → Claimed c s → r ≡ Ok p → ChargesBy c s s' r → Puts s' p.0 p.1
charge_from c s s' r p h er k =
    let g = subst (ChargesBy c s s') er k in
    let is = h.state in
    record {
      qses = ap (λ b. b.qses) g.1.book ∙ (λ i. (is i).book.qses);
      loads = ap (λ b. b.loads) g.1.book ∙ (λ i. (is i).book.loads);
      charge = charge_charges c s s' p.0 p.1 h.cents h.rate (subst Short (sym is) short_state) g.1;
    }

pub two_cents : {X Y : Type 0} (f : X → Y) (g : Y → ℕ) (xs : List X) (n : ℕ) (ys : List ℕ) (d e : X) → n ≡ 2 → length xs ≡ 2 → map g (take n (map f xs)) ≡ ys
    → g (f (get_or xs 0 d)) ∷ g (f (get_or xs 1 e)) ∷ [] ≡ ys
two_cents f g [] n ys d e en l h = absurd (omega arith)
two_cents f g (x ∷ []) n ys d e en l h = absurd (omega arith)
two_cents f g (x ∷ y ∷ []) n ys d e en l h = ap (λ k. map g (take k (map f (x ∷ y ∷ [])))) (sym en) ∙ h
two_cents f g (x ∷ y ∷ z ∷ zs) n ys d e en l h = absurd (omega arith)
