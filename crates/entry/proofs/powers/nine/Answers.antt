use Rattle.std.proofs.Common.{◌≡◌, ◌<◌, pos, nat_abs, ap, ◌∙◌, length, arith, rules, w64, to_z, of_z}
use Rattle.std.proofs.lemmas.List.{ext_get_or, get_or-map, length-map}
use Rattle.rows.proofs.FromFn.{elements_given}
use Rattle.entry.specs.Places.{at, sub_types}
use Rattle.entry.proofs.Casts.{cast_back}
use Rattle.entry.proofs.Parts.{power_within, powers_kept}
use Rattle.entry.proofs.powers.nine.Goals as goal

pub invariant_of-result : goal.invariant_of-result
invariant_of-result c =
    let items = c.from_fn.ensures.items in
    let xs = c.args.list.now in
    record {
      limits = powers_kept sub_types _ _ _ c.requires.1 items.long
          (λ k h. ap pos (elements_given _ (λ i y. y ≡ nat_abs (to_z w64 (of_z w64 (at xs i)))) _ (λ i y q call. search rules) _ _ items k 0 h)
          ∙ cast_back (at xs k) (omega arith) (power_within sub_types _ xs c.requires.1 k h));
    }

pub returns : goal.returns
returns c =
    let items = c.from_fn.ensures.items in
    let xs = c.args.list.now in
    ext_get_or (pos 0) _ _ (simp length-map (omega (arith, items.long, c.requires.1.long)))
    (λ k h. let m = length-map c.from_fn.result pos in
    let lt : k < length c.from_fn.result = omega (arith, m) in
    let lk : k < sub_types = omega (arith, items.long) in
    get_or-map pos _ k 0 (pos 0) lt
    ∙ ap pos (elements_given _ (λ i y. y ≡ nat_abs (to_z w64 (of_z w64 (at xs i)))) _ (λ i y q call. search rules) _ _ items k 0 lk)
    ∙ cast_back (at xs k) (omega arith) (power_within sub_types _ xs c.requires.1 k lk))
