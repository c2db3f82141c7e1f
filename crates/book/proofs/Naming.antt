-- A QSE and a side that a call names, as they were read.
use Rattle.std.proofs.Common.{ℕ, ◌-◌, List, map, take, ℤ, Ok, subst, w64, SFits, to_z, of_z}
use Rattle.std.proofs.lemmas.Int.{to_z-of_z}
use Rattle.rows.specs.declared.codes.Side.{Side}
use Rattle.rows.specs.declared.fault.Fault.TheVariants.{NotEnrolled}
use Rattle.rows.specs.declared.load.LoadRow.{LoadRow}
use Rattle.rows.specs.declared.qse.QseRow.{QseRow}
use Rattle.rows.specs.declared.resource.ResourceRow.{ResourceRow}
use Rattle.rows.specs.declared.trade.TradeRow.{TradeRow}
use Rattle.account.specs.View.{counted}
use Rattle.shortfall.specs.Pool.{Among}
use Rattle.book.specs.State.{Book, State, state_of}
use Rattle.book.specs.Causes.{Absent, Earliest, unenrolled}
use Rattle.book.specs.Reading.{NumberOf, SideOf}
use Rattle.book.proofs.Judging.{no_row, some_row}

module _ (q : ℤ) (fits : SFits w64 q) where
  module _ (n : ℕ) (read : NumberOf (to_z w64 (of_z w64 q)) (Ok n)) where
    pub number_read : NumberOf q (Ok n)
    number_read = subst (λ z. NumberOf z (Ok n)) (to_z-of_z w64 q fits) read

    module _ (b : Book) (qs : List QseRow) (ls : List LoadRow) (rs : List ResourceRow) (ts : List TradeRow) where
      abbrev s : State
      s = state_of b qs ls rs ts

      pub named_nowhere : (Among (map (λ x. x.number) (take (b.qses - 0) qs)) n → ⊥) → unenrolled s (counted q) NotEnrolled
      named_nowhere none = subst (λ k. unenrolled s k NotEnrolled) number_read.1 (no_row b qs ls rs ts n none)

      pub named_somewhere : (k : ℕ) → Earliest (map (λ x. x.number) (take (b.qses - 0) qs)) n k → Absent (unenrolled s (counted q))
      named_somewhere k e = subst (λ m. Absent (unenrolled s m)) number_read.1 (some_row b qs ls rs ts n k e)

module _ (z : ℤ) (fits : SFits w64 z) where
  pub side_read : (side : Side) → SideOf (to_z w64 (of_z w64 z)) (Ok side) → SideOf z (Ok side)
  side_read side = subst (λ x. SideOf x (Ok side)) (to_z-of_z w64 z fits)
