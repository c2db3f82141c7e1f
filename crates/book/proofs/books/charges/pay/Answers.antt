use Rattle.std.proofs.Common.{◌≡◌, ◌-◌, length, take, drop, sum_by, sym, ap, ◌∙◌, subst, arith}
use Rattle.std.proofs.lemmas.List.{length-take, take_at, drop_at}
use Rattle.division.specs.Division.{HasRoom, Divided}
use Rattle.book.proofs.Charging.{take_front, whole_pot}
use Rattle.book.proofs.books.charges.pay.Goals as goal

pub returns : goal.returns
returns g c =
    let weighs = g.T.Weighed.weighs in
    let holds = g.T.Weighed.holds in
    let paid = g.T.Weighed.paid in
    let n = c.args.count in
    let pot = c.args.pot in
    let old = c.args.rows.now in
    let new = c.divide-given.new.rows in
    let front = take_front n old in
    let long : length new ≡ n = omega (arith, c.divide-given.auto.rows, length-take (n - 0) old, c.requires.within) in
    let done = whole_pot weighs holds paid pot (take (n - 0) old) new (subst (HasRoom holds pot) (sym front) c.requires.room) (λ none. c.requires.some (ap (sum_by weighs) (sym front) ∙ none)) c.divide-given.result c.divide-given.ensures in
    let tail : drop (n - 0) old ≡ drop n old = let e : n - 0 ≡ n = omega arith in ap (λ k. drop k old) e in
    record {
      divided = subst (λ l. Divided weighs holds paid pot (take n old) l pot) (sym (take_at new (drop (n - 0) old) n long)) (subst (λ l. Divided weighs holds paid pot l new pot) front done);
      later = drop_at new (drop (n - 0) old) n long ∙ tail;
    }
