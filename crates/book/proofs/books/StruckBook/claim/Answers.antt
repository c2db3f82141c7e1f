use Rattle.std.proofs.Common.{pos, refl, inl, inr, arith, w64, SFits, rules}
use Rattle.std.proofs.lemmas.Int.{to_z-of_z}
use Rattle.entry.proofs.Casts.{cast_back}
use Rattle.book.specs.State.{struck_book}
use Rattle.book.proofs.Judging.{table_sound, not_outside}
use Rattle.book.proofs.books.StruckBook.claim.Goals as goal

pub returns-then-self-ge-MAX_CLAIMS : goal.returns-then-self-ge-MAX_CLAIMS
returns-then-self-ge-MAX_CLAIMS c =
    let sound = table_sound (struck_book c.args.self.now) c.args.qses.now c.args.loads.now c.args.resources.now c.args.trades.now _ c.is_broken.ensures c.if-is_broken.false in
    let fc : SFits w64 c.args.cents = search rules in
    let fr : SFits w64 c.args.rate = search rules in
    let first = not_outside 1 c.args.cents (pos 1) (pos 1000000000) _ (simp to_z-of_z at c.is_within.ensures) c.if-not-is_within.false in
    let second = not_outside 2 c.args.rate (pos 0) (pos 1000000) _ (simp to_z-of_z at c.is_within-2.ensures) c.if-not-is_within-2.false in
    (inr (sound, inr (first, inr (second, inl (refl, c.if-self-ge-MAX_CLAIMS.true)))), refl)

pub returns : goal.returns
returns c =
    let sound = table_sound (struck_book c.args.self.now) c.args.qses.now c.args.loads.now c.args.resources.now c.args.trades.now _ c.is_broken.ensures c.if-is_broken.false in
    let fc : SFits w64 c.args.cents = search rules in
    let fr : SFits w64 c.args.rate = search rules in
    let first = not_outside 1 c.args.cents (pos 1) (pos 1000000000) _ (simp to_z-of_z at c.is_within.ensures) c.if-not-is_within.false in
    let second = not_outside 2 c.args.rate (pos 0) (pos 1000000) _ (simp to_z-of_z at c.is_within-2.ensures) c.if-not-is_within-2.false in
    let wc = (simp to_z-of_z at c.is_within.ensures).0 c.if-not-is_within.false in
    let wr = (simp to_z-of_z at c.is_within-2.ensures).0 c.if-not-is_within-2.false in
    ((sound, (first, (second, ((λ e f. omega (arith, f.1)), tt)))), record { book = refl; cents = cast_back c.args.cents (omega arith) wc; rate = cast_back c.args.rate (omega arith) wr; fresh = refl }, refl)
