-- A book over the tables of a desk.
use Rattle.std.specs.Prelude.{List, [], Option, vec_items}
use Rattle.book.specs.State.{Book, State, state_of}
use Rattle.book.specs.declared.books.Claim.{Claim}
use Rattle.replay.specs.Guarantee.{Holding}
use Rattle.replay.specs.Runs.{desk_of}
use Rattle.compare.specs.declared.desk.Desk.{Desk}

abbrev pub state_at : Book → Desk → State
state_at b d = state_of b (vec_items d.qses) (vec_items d.loads) (vec_items d.resources) (vec_items d.trades)

-- the claims in the purse are those of the book that are outstanding
abbrev pub Kept : Book → Desk → List (Option Claim) → Type 0
Kept b d p = Holding (desk_of b (vec_items d.qses) (vec_items d.loads) (vec_items d.resources) (vec_items d.trades) [] p)
