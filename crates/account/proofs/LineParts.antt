-- The parts of a line, from the capabilities as the code holds them.
use Rattle.std.proofs.Common.{◌≡◌, ℕ, ◌<◌, min, cond, List, [], ◌∷◌, get_or, refl, ap, ◌∙◌, arith}
use Rattle.std.specs.List.{AllByRecursion}
use Rattle.rows.specs.Rows.{PlainSide}
use Rattle.rows.specs.declared.codes.Kind.{Kind}
use Rattle.account.specs.View.{over, slow, up}
use Rattle.account.specs.Lines.{room_of, capability_of, off_line, is_load, offline_by, load_part_by}

-- a sum over sub-types sees no more than their places
pub over_same : (ks : List ℕ) (f g : ℕ → ℕ) → AllByRecursion (λ k. k < 9) ks → ((k : ℕ) → k < 9 → f k ≡ g k) → over ks f ≡ over ks g
over_same [] f g all same = refl
over_same (k ∷ ks) f g all same = omega (arith, same k all.0, over_same ks f g all.1 same)

module _ (p s : PlainSide) (room : ℕ) (caps : List ℕ) (plan : p ≡ s) (is : room ≡ room_of p) (each : (k : ℕ) → k < 9 → get_or caps k 0 ≡ capability_of p k) where
  pub room_is : room ≡ room_of s
  room_is = is ∙ ap room_of plan

  pub capability_is : (k : ℕ) → k < 9 → get_or caps k 0 ≡ capability_of s k
  capability_is k h = each k h ∙ ap (λ q. capability_of q k) plan

  pub offline_is : offline_by p.status room (λ k. get_or caps k 0) ≡ offline_by s.status (room_of s) (capability_of s)
  offline_is =
      let sum = over_same slow (λ k. get_or caps k 0) (capability_of s) (omega arith, (omega arith, (omega arith, (omega arith, tt)))) capability_is in
      let parts : min room (over slow (λ k. get_or caps k 0)) ≡ min (room_of s) (over slow (capability_of s)) = omega (arith, sum, room_is) in
      ap (λ q. cond (off_line q.status) (min room (over slow (λ k. get_or caps k 0))) 0) plan ∙ ap (λ n. cond (off_line s.status) n 0) parts

  pub loadpart_is : (kind : Kind) → load_part_by kind room (λ k. get_or caps k 0) ≡ load_part_by kind (room_of s) (capability_of s)
  loadpart_is kind =
      let sum = over_same up (λ k. get_or caps k 0) (capability_of s) (omega arith, (omega arith, (omega arith, (omega arith, (omega arith, (omega arith, (omega arith, (omega arith, tt)))))))) capability_is in
      let parts : min room (over up (λ k. get_or caps k 0)) ≡ min (room_of s) (over up (capability_of s)) = omega (arith, sum, room_is) in
      ap (λ n. cond (is_load kind) n 0) parts
