-- The overall part by the figures that the code holds.
use Rattle.std.specs.Prelude.{ℕ, ℤ, pos, negsuc, ◌≤ℤ◌, slice_index_or}
use Rattle.account.specs.View.{counted}
use Rattle.account.specs.declared.standing.Standing.{Standing}
use Rattle.measure.specs.Grouped.{wanted_by, overall_by}
use Rattle.measure.specs.declared.storage_net.StorageNet.{StorageNet}
use Rattle.measure.specs.declared.storage_net.StorageNet.TheVariants.{Ignored, Counted}

-- the storage net that counts
abbrev pub storage_of : StorageNet → ℤ → ℤ
storage_of Ignored z = pos 0
storage_of Counted z = z

abbrev pub overall_part : Standing → (supply offline : ℕ) → StorageNet → ℕ
overall_part s supply offline c = overall_by s.load (wanted_by (λ k. counted (slice_index_or s.positions k (pos 0))) offline) supply s.net (storage_of c s.storage_net)

-- far from the ends of 64 bits
abbrev pub Near : ℤ → Type 0
Near z = (negsuc 1000000000000 ≤ℤ z) × (z ≤ℤ pos 1000000000000)
