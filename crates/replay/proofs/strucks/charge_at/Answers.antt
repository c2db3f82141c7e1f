use Rattle.std.proofs.Common.{Ok, Err, sym, refl, inl}
use Rattle.replay.proofs.Purses.{put_back}
use Rattle.replay.proofs.strucks.charge_at.Goals as goal

pub returns-in-Ok : goal.returns-in-Ok
returns-in-Ok c =
    let t = c.in-Some.ensures in
    λ cs. inl (record { claim = c.in-Some.claim; held = sym t.value; result = Ok (c.in-Ok.pot, c.in-Ok.rest); done = c.in-Ok.ensures; answer = refl; covers = refl; purse = t.after })

pub returns-in-Err : goal.returns-in-Err
returns-in-Err c =
    let t = c.in-Some.ensures in
    let e = c.in-Err.ensures in
    λ cs. inl (record {
      claim = c.in-Some.claim;
      held = sym t.value;
      result = Err (c.in-Err.back, c.in-Err.fault);
      done = e;
      answer = refl;
      covers = refl;
      purse = put_back c.args.purse.now c.take_claim.new.purse c.put_claim.new.purse c.args.place c.in-Some.claim c.in-Err.back t.value t.after c.put_claim.ensures e.1;
    })
