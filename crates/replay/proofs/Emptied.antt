-- A purse emptied from its end.
use Rattle.std.proofs.Common.{◌≡◌, ℕ, ◌-◌, ◌<◌, true, List, [], ◌∷◌, ◌++◌, Some, None, Option, sym, ◌∙◌, subst, arith}
use Rattle.std.specs.List.{AllByRecursion}
use Rattle.std.proofs.lemmas.List.Sums.{sum_by_push}
use Rattle.std.proofs.lemmas.Bool.{false≢true}
use Rattle.rows.specs.declared.load.LoadRow.{LoadRow}
use Rattle.rows.specs.declared.qse.QseRow.{QseRow}
use Rattle.rows.specs.declared.resource.ResourceRow.{ResourceRow}
use Rattle.rows.specs.declared.trade.TradeRow.{TradeRow}
use Rattle.book.specs.State.{Book, State, with_book, with_claims}
use Rattle.book.specs.declared.books.Claim.{Claim as Slip}
use Rattle.replay.specs.Runs.{Desk, desk_of}
use Rattle.replay.specs.Guarantee.{claims_at, claims_in, OfBook, Holding}

-- an empty place more holds no claim
pub empty_push : (p : List (Option Slip)) → claims_in p ≡ 0 → claims_in (p ++ None ∷ []) ≡ 0
empty_push p e = omega (arith, sum_by_push claims_at p None, e)

pub empty_front : (p : List (Option Slip)) (o : Option Slip) → claims_in (p ++ o ∷ []) ≡ 0 → claims_in p ≡ 0
empty_front p o e = omega (arith, sum_by_push claims_at p o, e)

pub empty_last : (p : List (Option Slip)) (c : Slip) → claims_in (p ++ Some c ∷ []) ≡ 0 → ⊥
empty_last p c e = omega (arith, sum_by_push claims_at p (Some c), e)

front : {X : Type 0} (P : X → Type 0) (xs : List X) (x : X) → AllByRecursion P (xs ++ x ∷ []) → AllByRecursion P xs × P x
front P [] x h = (tt, h.0)
front P (y ∷ xs) x h = let r = front P xs x h.1 in ((h.0, r.0), r.1)

abbrev with' : State → List (Option Slip) → Desk
with' s p = record { state = s; covers = []; purse = p }

module _ (s : State) (p : List (Option Slip)) where
  pub front_held : Holding (with' s (p ++ None ∷ [])) → Holding (with' s p)
  front_held h = record { claims = omega (arith, h.claims, sum_by_push claims_at p None); ours = (front (OfBook s.book.number) p None h.ours).0; none = h.none; long = h.long }

  module _ (c : Slip) (h : Holding (with' s (p ++ Some c ∷ []))) where
    pub last_ours : c.book ≡ s.book.number
    last_ours = (front (OfBook s.book.number) p (Some c) h.ours).1

    pub some_out : 0 < s.book.outstanding
    some_out = omega (arith, h.claims, sum_by_push claims_at p (Some c))

    pub back_held : (b : Book) → s.book.struck ≡ true → b ≡ with_claims s.book s.book.made (s.book.outstanding - 1) → Holding (with' (with_book s b) p)
    back_held b struck is =
        subst (λ (x : Book). Holding (with' (with_book s x) p)) (sym is) (record {
          claims = omega (arith, h.claims, sum_by_push claims_at p (Some c));
          ours = (front (OfBook s.book.number) p (Some c) h.ours).0;
          none = λ o. absurd (false≢true (sym o ∙ struck));
          long = record { qses = h.long.qses; loads = h.long.loads; resources = h.long.resources; trades = h.long.trades };
        })

-- the same book, tables and purse; the cover table does not matter
pub held_moved : (b : Book) (qs qs' : List QseRow) (ls ls' : List LoadRow) (rs rs' : List ResourceRow) (ts ts' : List TradeRow) (cs : List (List ℕ)) (p p' : List (Option Slip))
    → Holding (desk_of b qs ls rs ts cs p) → qs' ≡ qs → ls' ≡ ls → rs' ≡ rs → ts' ≡ ts → p' ≡ p → Holding (desk_of b qs' ls' rs' ts' [] p')
held_moved b qs qs' ls ls' rs rs' ts ts' cs p p' h q l r t e =
    let bare : Holding (desk_of b qs ls rs ts [] p) = record { claims = h.claims; ours = h.ours; none = h.none; long = h.long } in
    subst (λ x. Holding (desk_of b x ls' rs' ts' [] p')) (sym q) (subst (λ x. Holding (desk_of b qs x rs' ts' [] p')) (sym l) (subst (λ x. Holding (desk_of b qs ls x ts' [] p')) (sym r)
    (subst (λ x. Holding (desk_of b qs ls rs x [] p')) (sym t) (subst (λ x. Holding (desk_of b qs ls rs ts [] x)) (sym e) bare))))
