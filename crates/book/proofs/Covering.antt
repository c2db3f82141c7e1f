-- What a call for a cover answers, once nothing before the cover refuses it.
use Rattle.std.proofs.Common.{ℕ, List, ℤ, pos, Ok, Err, Result, inl, inr, arith}
use Rattle.rows.specs.declared.fault.Fault.{Fault}
use Rattle.account.specs.View.{counted}
use Rattle.cover.specs.Covered.{CoverOf}
use Rattle.book.specs.State.{State}
use Rattle.book.specs.Causes.{Absent, broken, outside, unenrolled}
use Rattle.book.specs.Measuring.{Covers, view_at}

module _ (q side : ℤ) (s : State) (cs cs' : List (List ℕ)) (sound : Absent (broken s)) (lawful : Absent (outside 1 q (pos 1) (pos 65535)))
    (sided : Absent (outside 2 side (pos 1) (pos 2))) (found : Absent (unenrolled s (counted q))) where
  pub cover_answered : (r : Result ℕ Fault) → CoverOf (view_at q side s) cs cs' r → Covers q side s cs cs' r
  cover_answered (Ok u) c = ((sound, (lawful, (sided, (found, ((λ e f. omega (arith, c.space, f.1)), tt))))), c)
  cover_answered (Err e) c = (inr (sound, inr (lawful, inr (sided, inr (found, inl (c.0, c.1))))), c.2)
