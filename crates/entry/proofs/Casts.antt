-- A number within its limits, read or cast, is still that number.
use Rattle.std.proofs.Common.{◌≡◌, ℕ, ◌^◌, ◌<◌, ◌≤◌, T, eqb, ◌⊎◌, ℤ, pos, nat_abs, refl, inl, inr, arith, w16, w32, w64, Fits, to_z, of_z}
use lib.Signed.{non_neg}
use Rattle.std.proofs.lemmas.Int.{ints}
use Rattle.rows.specs.Limits.{lowest_power, highest_power}
use Rattle.entry.specs.Keeps.{Within}
use Rattle.entry.specs.Numbers.{mark}

pub read_back : (z : ℤ) {a b : ℕ} → b < 2 ^ 63 → Within z (pos a) (pos b) → to_z w64 (of_z w64 z) ≡ z
read_back z l w = omega (arith, ints)

pub cast_back : (z : ℤ) {a b : ℕ} → b < 2 ^ 63 → Within z (pos a) (pos b) → pos (nat_abs (to_z w64 (of_z w64 z))) ≡ z
cast_back z l w = omega (arith, ints)

pub signed_back : (z : ℤ) → Within z lowest_power highest_power → to_z w32 (of_z w32 (to_z w64 (of_z w64 z))) ≡ z
signed_back z w = omega (arith, ints)

pub either_mark : (z : ℤ) → Within z (pos 0) (pos 1) → (z ≡ pos 0) ⊎ (z ≡ pos 1)
either_mark z w = grind (arith, ints)

pub mark_back : (z : ℤ) → Within z (pos 0) (pos 1) → mark (eqb (of_z w64 z) 1) ≡ z
mark_back z w = elim (either_mark z w) [ inl e ↦ rw e refl | inr e ↦ rw e refl ]

pub cast_16 : (z : ℤ) {a : ℕ} → Within z (pos a) (pos 65535) → T (non_neg (to_z w64 (of_z w64 z))) × Fits w16 (nat_abs (to_z w64 (of_z w64 z)))
cast_16 z w = (omega (arith, ints), record { fits = omega (arith, ints) })

pub cast_least : (z : ℤ) {a b : ℕ} → b < 2 ^ 63 → Within z (pos a) (pos b) → a ≤ nat_abs (to_z w64 (of_z w64 z))
cast_least z l w = omega (arith, ints)

pub cast_most : (z : ℤ) {a b : ℕ} → b < 2 ^ 63 → Within z (pos a) (pos b) → nat_abs (to_z w64 (of_z w64 z)) ≤ b
cast_most z l w = omega (arith, ints)
