-- Parts of a list that is kept.
use Rattle.std.proofs.Common.{◌≡◌, ℕ, ◌+◌, ◌-◌, ◌<◌, ◌≤◌, List, length, get_or, take, drop, replicate, ℤ, pos, sym, ap, ◌∙◌, subst, ⊎_elim, arith}
use Rattle.std.proofs.lemmas.List.{get_or-drop, get_or-take, get_or_past, get_or-replicate, length-drop, length-take-le, length-replicate, take_rest}
use Rattle.std.proofs.lemmas.Int.{ints}
use Rattle.std.proofs.lemmas.Bool.{cases_lt}
use Rattle.rows.specs.Limits.{Powers, max_power}
use Rattle.entry.specs.Places.{Place, least, greatest, rule_of, at, place_at, places, size, power}
use Rattle.entry.specs.Rules.{RuleKept}
use Rattle.entry.specs.Keeps.{AllKept, Within}
use Rattle.entry.specs.Parts.{PartKept}
use Rattle.entry.specs.declared.form.Form.{Form}

-- the whole list is a part
pub whole_kept : (f : Form) (xs : List ℤ) → AllKept f xs → PartKept (places f) (at xs 1) xs
whole_kept f xs g = record {
  long = g.long;
  limited = λ k h. (g.each k h).limited;
  ruled = λ k h. let e : (k + 1) - 1 ≡ k = omega arith in subst (λ n. RuleKept (rule_of (place_at (places f) (k + 1))) (at xs (k + 1)) (at xs n) (at xs 1)) e (g.each (k + 1) h).ruled;
}

module _ (n : ℕ) (ps : List Place) (kind : ℤ) (xs : List ℤ) (kept : PartKept ps kind xs) where
  pub front_kept : n ≤ length ps → PartKept (take n ps) kind (take n xs)
  front_kept l =
      let lp = length-take-le n ps l in
      let lx : length (take n xs) ≡ n = length-take-le n xs (omega (arith, kept.long)) in
      record {
        long = omega arith;
        limited = λ k h. let m : k < n = omega arith in simp get_or-take (kept.limited k (omega arith));
        ruled = λ k h. let m : k < n = omega arith in let o : k + 1 < n = omega arith in simp get_or-take (kept.ruled k (omega arith));
      }

  pub back_kept : PartKept (drop n ps) kind (drop n xs)
  back_kept =
      let lp = length-drop n ps in
      record {
        long = simp length-drop (omega (arith, kept.long));
        limited = λ k h. simp get_or-drop (kept.limited (n + k) (omega arith));
        ruled = λ k h. let e : n + (k + 1) ≡ n + k + 1 = omega arith in simp (get_or-drop, e) (kept.ruled (n + k) (omega arith));
      }

-- n numbers from place b on
pub inner_kept : (b n : ℕ) (ps : List Place) (kind : ℤ) (xs : List ℤ) → PartKept ps kind xs → b + n ≤ length ps → PartKept (take n (drop b ps)) kind (take n (drop b xs))
inner_kept b n ps kind xs kept l = front_kept n (drop b ps) kind (drop b xs) (back_kept b ps kind xs kept) (simp length-drop (omega arith))

-- what follows b numbers, in two: the sides of a list
pub sides_kept : (f : Form) (b n : ℕ) (xs : List ℤ) {s t : List ℤ} → AllKept f xs → b + n ≤ size f
    → s ≡ take n (take (length xs - b) (drop b xs)) → t ≡ drop n (take (length xs - b) (drop b xs))
    → PartKept (take n (drop b (places f))) (at xs 1) s × PartKept (drop n (drop b (places f))) (at xs 1) t
sides_kept f b n xs g l es et =
    let ps = drop b (places f) in
    let kept = back_kept b (places f) (at xs 1) xs (whole_kept f xs g) in (
      subst (PartKept (take n ps) (at xs 1)) (sym (es ∙ ap (take n) (take_rest xs b))) (front_kept n ps (at xs 1) (drop b xs) kept (simp length-drop (omega arith))),
      subst (PartKept (drop n ps) (at xs 1)) (sym (et ∙ ap (drop n) (take_rest xs b))) (back_kept n ps (at xs 1) (drop b xs) kept),
    )

pub power_within : (n : ℕ) (kind : ℤ) (xs : List ℤ) → PartKept (replicate n power) kind xs → (k : ℕ) → k < n → Within (at xs k) (pos 0) (pos max_power)
power_within n kind xs kept k h =
    let l = length-replicate n power in
    let P : Place → Type 0 = λ p. Within (at xs k) (least p) (greatest p) in
    subst P (get_or-replicate n k power _ h) (kept.limited k (omega arith))

-- naturals that are powers where a part has nothing else
pub powers_kept : (n : ℕ) (kind : ℤ) (xs : List ℤ) (r : List ℕ) → PartKept (replicate n power) kind xs → length r ≡ n → ((k : ℕ) → k < n → pos (get_or r k 0) ≡ at xs k) → Powers r
powers_kept n kind xs r kept long same k =
    ⊎_elim
    (λ (h : k < n). let e = same k h in let w = power_within n kind xs kept k h in omega (arith, ints))
    (λ (h : n ≤ k). let z : get_or r k 0 ≡ 0 = get_or_past r k 0 (omega arith) in omega arith)
    (cases_lt k n)
