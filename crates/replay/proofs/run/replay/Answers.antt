use Rattle.std.proofs.Common.{◌<◌, ◌≤◌, [], map, length, refl, ◌∙◌, arith}
use Rattle.replay.specs.declared.calls.Answer.TheVariants.{NotAllowed}
use Rattle.replay.specs.declared.calls.Call.TheVariants.{Figures}
use Rattle.replay.specs.declared.calls.Entry.{Entry}
use Rattle.replay.proofs.Guaranteed.{guaranteed}
use Rattle.replay.proofs.Replaying.{turn, whole, calls_kept, all_lawful}
use Rattle.replay.proofs.run.replay.Goals as goal

pub loop-entry-preserved : goal.loop-entry-preserved
loop-entry-preserved g c =
    let ms = map g.M.Measure.meaning c.args.measures.now in
    let js = c.loop-entry.journal in
    let i = c.loop-entry.entry-index in
    let z : Entry = record { call = Figures (record { ref_ptr = (0, 0); now = [] }); answer = NotAllowed } in
    let lt : i < length js = omega arith in
    (turn ms js i z _ _ _ _ lt refl c.apply-next.ensures c.loop-entry.invariant.0, calls_kept js i z _ lt refl ∙ c.loop-entry.invariant.1)

pub returns : goal.returns
returns g c =
    let laws = g.met.M.Measure in
    let done : length c.loop-entry.journal ≤ c.loop-entry.entry-index = omega arith in
    record {
      calls = c.loop-entry.invariant.1;
      run = whole _ c.loop-entry.journal c.loop-entry.entry-index _ _ done c.loop-entry.invariant.0;
      guarantee = guaranteed (map g.M.Measure.meaning c.args.measures.now)
          (all_lawful g.M.Measure.meaning (λ x. record { order = laws.order x; pool = laws.pool x; help = laws.help x; nothing = laws.nothing x }) c.args.measures.now);
    }
