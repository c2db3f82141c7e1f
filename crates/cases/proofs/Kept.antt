-- A list that passes the test keeps its form.
use Rattle.std.proofs.Common.{◌≡◌, ℕ, zero, suc, ◌-◌, ◌<◌, Bool, true, false, ◌&&◌, not, T, List, ℤ, Ok, Err, Result, IsTrue, sym, refl, ap, ◌∙◌, inl, ⊎_elim, subst, arith}
use Rattle.std.specs.Int.Signed.{le_z, ◌≤ℤ◌}
use Rattle.std.specs.Ordering.{int_eq}
use Rattle.std.specs.Result.{IsOk}
use Rattle.std.proofs.lemmas.Bool.{cases_eq, false≢true}
use Rattle.std.proofs.lemmas.Bool.Decides.{Decides-int_eq, Decides-eqb}
use Rattle.entry.specs.Places.{size}
use Rattle.entry.specs.Rules.{RuleKept}
use Rattle.rows.specs.declared.fault.Fault.{Fault}
use Rattle.rows.specs.declared.fault.Fault.TheVariants.{BrokenTable, WrongLength, OutOfLimits, NotEnrolled, AlreadyEnrolled, BuyerIsSeller, NoPlace, NoSuchTrade, CoverTooShort, TotalTooHigh, ClaimsUsedUp, ForeignClaim, NoLoad, ClaimOutstanding}
use Rattle.entry.specs.Keeps.{Keeps, AllKept, Refused, Entered}
use Rattle.entry.specs.declared.form.Form.{Form}
use Rattle.entry.specs.declared.form.Rule.{Rule}
use Rattle.entry.specs.declared.form.Rule.TheVariants.{Free, Mark, Before, Lsl, Potential, SubTyped}
use Rattle.cases.specs.Kept.{rule_kept, place_kept, places_kept, form_kept}

both_true : (a b : Bool) → (a && b) ≡ true → (a ≡ true) × (b ≡ true)
both_true true b e = (refl, e)
both_true false b e = absurd (false≢true e)

le_from : (a b : ℤ) → le_z a b ≡ true → a ≤ℤ b
le_from a b e = record { le = subst T (sym e) tt }

eq_from : (a b : ℤ) → int_eq a b ≡ true → a ≡ b
eq_from a b e = (Decides-int_eq a b).0 e

other_from : (a b : ℤ) → not (int_eq a b) ≡ true → a ≡ b → ⊥
other_from a b e s = let t = (Decides-int_eq a b).1 s in absurd (false≢true (ap not (sym t) ∙ e))

rule_from : (r : Rule) (x previous kind : ℤ) → rule_kept r x previous ≡ true → RuleKept r x previous kind
rule_from Free x previous kind e = tt
rule_from Mark x previous kind e = inl (eq_from _ _ e)
rule_from Before x previous kind e = inl (eq_from _ _ e)
rule_from Lsl x previous kind e = let h = both_true _ _ e in (le_from _ _ h.1, inl (le_from _ _ h.0))
rule_from Potential x previous kind e = inl (eq_from _ _ e)
rule_from SubTyped x previous kind e = let h = both_true _ _ e in (λ z p. other_from _ _ h.1 p, λ n. eq_from _ _ h.0)

place_from : (f : Form) (xs : List ℤ) (k : ℕ) → place_kept f xs k ≡ true → Keeps f xs k
place_from f xs k e =
    let h = both_true _ _ e in
    let w = both_true _ _ h.0 in
    record { limited = (le_from _ _ w.0, le_from _ _ w.1); ruled = rule_from _ _ _ _ h.1 }

places_from : (f : Form) (xs : List ℤ) (n : ℕ) → places_kept f xs n ≡ true → (k : ℕ) → k < n → Keeps f xs k
places_from f xs zero e k lt = absurd (omega arith)
places_from f xs (suc n) e k lt =
    let h = both_true _ _ e in
    ⊎_elim (λ s. subst (Keeps f xs) (sym s) (place_from f xs n h.1)) (λ ne. places_from f xs n h.0 k (omega arith)) (cases_eq k n)

pub kept_from_test : (f : Form) (xs : List ℤ) → form_kept f xs ≡ true → AllKept f xs
kept_from_test f xs e =
    let h = both_true _ _ e in
    record { long = (Decides-eqb _ _).0 h.0; each = places_from f xs (size f) h.1 }

kept_is_read : (f : Form) (xs : List ℤ) (e : Fault) → AllKept f xs → Refused f xs e → ⊥
kept_is_read f xs BrokenTable k r = r
kept_is_read f xs WrongLength k r = r k.long
kept_is_read f xs (OutOfLimits p) k r = r.bad (k.each (p - 1) (omega (arith, r.counted)))
kept_is_read f xs NotEnrolled k r = r
kept_is_read f xs AlreadyEnrolled k r = r
kept_is_read f xs BuyerIsSeller k r = r
kept_is_read f xs NoPlace k r = r
kept_is_read f xs NoSuchTrade k r = r
kept_is_read f xs CoverTooShort k r = r
kept_is_read f xs TotalTooHigh k r = r
kept_is_read f xs ClaimsUsedUp k r = r
kept_is_read f xs ForeignClaim k r = r
kept_is_read f xs NoLoad k r = r
kept_is_read f xs ClaimOutstanding k r = r

-- such a list is read
pub read_when_kept : {R : Type 0} (f : Form) (numbers : R → List ℤ) (xs : List ℤ) (r : Result R Fault) → IsTrue (form_kept f xs) → Entered f numbers xs r → IsOk r
read_when_kept f numbers xs (Ok x) e h = refl
read_when_kept f numbers xs (Err fault) e h = absurd (kept_is_read f xs fault (kept_from_test f xs e) h)
