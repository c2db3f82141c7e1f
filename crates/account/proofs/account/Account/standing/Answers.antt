use Rattle.std.proofs.Common.{◌≡◌, ℕ, ◌+◌, get_or, pos, ◌+ℤ◌, ◌-ℤ◌, ap, ◌∙◌, arith, w64, SFits, to_z, of_z, rules}
use Rattle.std.proofs.lemmas.Int.{ints, to_z-of_z}
use Rattle.rows.specs.Rows.{plain_figures}
use Rattle.account.specs.Own.{figures_on}
use Rattle.account.proofs.account.Account.standing.Goals as goal

net_same : (p s : ℕ) {b b' o o' i i' : ℕ} → b ≡ b' → o ≡ o' → i ≡ i' → pos p -ℤ pos s +ℤ pos b -ℤ pos o +ℤ pos i ≡ pos p -ℤ pos s +ℤ pos b' -ℤ pos o' +ℤ pos i'
net_same p s eb eo ei = cc

position_same : {e e' b b' o o' : ℕ} → e ≡ e' → o ≡ o' → b ≡ b' → pos e +ℤ pos o -ℤ pos b ≡ pos e' +ℤ pos o' -ℤ pos b'
position_same ee eo eb = cc

pub returns : goal.returns
returns c =
    let a = c.args.self.now in
    let f = plain_figures a.figures.now in
    let own = c.figures_on-own.result.now in
    let fits : SFits w64 c.balance.result = search rules in
    let there = c.figures_on-import.ensures ∙ ap (λ side. figures_on side f) c.import_side.ensures in
    let stored = own.stored in
    let back : to_z w64 (of_z w64 c.from.result) ≡ own.storage_net = omega (arith, ints, c.from.ensures) in
    record {
      load = c.load.ensures.value;
      net = to_z-of_z w64 c.balance.result fits ∙ c.balance.ensures.value
          ∙ net_same f.purchase f.sale (c.traded-bought.ensures 0 (omega arith)) (c.traded-sold.ensures 0 (omega arith)) (ap (λ s. s.dcimport) there);
      storage = back ∙ ap (λ s. s.storagenet) c.figures_on-own.ensures;
      positions = λ k h. c.positions.ensures.each k h
          ∙ position_same (ap (λ s. get_or s.positions k 0) c.figures_on-own.ensures) (c.traded-sold.ensures (k + 1) (omega arith)) (c.traded-bought.ensures (k + 1) (omega arith));
    }
