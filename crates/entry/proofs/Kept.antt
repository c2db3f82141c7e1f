-- Tests of places, and what they tell of the whole list.
use Rattle.std.proofs.Common.{◌≡◌, ℕ, ◌+◌, ◌-◌, ◌<◌, Bool, false, List, length, ℤ, Decides, sym, ◌∙◌, subst, arith}
use Rattle.std.proofs.lemmas.Bool.{false≢true}
use Rattle.std.proofs.lemmas.Bool.Decides.{Decides-like}
use Rattle.entry.specs.Places.{Place, least, greatest, rule_of, at, place_at, places, size}
use Rattle.entry.specs.Rules.{RuleKept}
use Rattle.entry.specs.Keeps.{Within, Keeps, FirstBad}
use Rattle.entry.specs.declared.form.Form.{Form}

-- within its limits, a number is kept where its rule is
pub keeps_when_within : (f : Form) (xs : List ℤ) (k : ℕ) {p : Place} {x previous kind : ℤ} {r : Bool}
    → p ≡ place_at (places f) k → x ≡ at xs k → previous ≡ at xs (k - 1) → kind ≡ at xs 1
    → Within x (least p) (greatest p) → Decides r (RuleKept (rule_of p) x previous kind) → Decides r (Keeps f xs k)
keeps_when_within f xs k {r = r} ep ex ev ek w d =
    let w' = simp (ep, ex) at w in
    let d' = simp (ep, ex, ev, ek) at d in
    Decides-like r (λ q. record { limited = w'; ruled = q }) (λ q. q.ruled) d'
