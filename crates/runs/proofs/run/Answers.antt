use Rattle.runs.proofs.StepLaws.{pair_room}
use Rattle.runs.proofs.LoopRunLaws.{ran_steppable, ran_next, ran_falls, ran_end}
use Rattle.runs.proofs.run.Goals as goal

pub write_pair-requires : goal.write_pair-requires
write_pair-requires c =
    let w = c.requires in
    pair_room (ran_steppable w.room w.count c.loop-next.invariant) c.in-Some.ensures

pub loop-next-smaller : goal.loop-next-smaller
loop-next-smaller c =
    let w = c.requires in
    ran_falls w.room w.count c.loop-next.invariant c.in-Some.ensures c.turn.ensures

pub loop-next-preserved : goal.loop-next-preserved
loop-next-preserved c =
    let w = c.requires in
    ran_next w.room w.count c.loop-next.invariant c.in-Some.ensures c.turn.ensures c.write_pair.ensures

pub returns : goal.returns
returns c =
    let w = c.requires in
    ran_end w.room w.count c.loop-next.invariant c.in_default.ensures
