-- Codes that were read.
use Rattle.std.proofs.Common.{◌≡◌, ℕ, ℤ, pos, Ok, Result, subst}
use Rattle.rows.specs.Codes.{Reads}

pub code_of_number : {C E : Type 0} (number : C → ℕ) (low high : ℕ) {x : ℤ} {r : Result C E} {c : C} → Reads number low high x r → r ≡ Ok c → pos (number c) ≡ x
code_of_number number low high {x = x} read ok = subst (Reads number low high x) ok read
