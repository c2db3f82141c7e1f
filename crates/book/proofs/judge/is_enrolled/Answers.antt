use Rattle.std.proofs.Common.{ℕ, List, map, Some, None, Option, Decides, subst, sym, refl}
use Rattle.std.proofs.lemmas.Bool.{false≢true}
use Rattle.std.specs.Prelude.{is_some}
use Rattle.shortfall.specs.Pool.{Among}
use Rattle.book.specs.Causes.{PlaceOf}
use Rattle.book.proofs.Enrolling.{among_place}
use Rattle.book.proofs.judge.is_enrolled.Goals as goal

among_where_found : (ns : List ℕ) (n : ℕ) (r : Option ℕ) → PlaceOf ns n r → Decides (is_some r) (Among ns n)
among_where_found ns n None none = (λ e. absurd (false≢true e), λ h. absurd (none h))
among_where_found ns n (Some k) first = (λ e. among_place ns n k first.inside first.there, λ h. refl)

pub returns : goal.returns
returns c = subst (λ b. Decides b (Among (map (λ q. q.number) c.args.qses.now) c.args.number)) (sym c.is_some.ensures) (among_where_found _ _ c.place_of.result c.place_of.ensures)
