use Rattle.std.proofs.Common.{◌≡◌, map, take}
use Rattle.replay.specs.Runs.{Run, any_book, desk_of}
use Rattle.replay.proofs.run.replay.Given as goal

abbrev pub invariant-loop-entry : goal.invariant-loop-entry
invariant-loop-entry g l =
    Run (map g.M.Measure.meaning l.measures) (desk_of (any_book l.initial.current) l.initial.qses l.initial.loads l.initial.resources l.initial.trades l.initial.covers l.initial.purse) (take l.entry-index l.journal)
    (desk_of (any_book l.current) l.qses l.loads l.resources l.trades l.covers l.purse)
    × (map (λ e. e.call) l.journal ≡ map (λ e. e.call) l.initial.journal)
