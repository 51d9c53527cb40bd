use Rattle.std.proofs.Common.{arith, List, length, ap}
use Rattle.pair_budget.specs.BoardCore.Machine.{State, Worker}
use Rattle.pair_budget.proofs.BoardCore.WorkerLogs.{active_claim, active_mark, active_end}
use Rattle.pair_budget.proofs.board_core.engine.Core.step.Goals as goal

pub claim-requires : goal.claim-requires
claim-requires c = active_claim c.args.self.now c.args.event c.in-Claim.worker c.in-Claim.is c.requires.can

pub mark-requires : goal.mark-requires
mark-requires c = active_mark c.args.self.now c.args.event c.in-Mark.worker c.in-Mark.a c.in-Mark.b c.in-Mark.is c.requires.can

pub end_in-requires : goal.end_in-requires
end_in-requires c =
    let l = active_end c.args.self.now c.args.event c.in-End.worker c.in-End.is c.requires.can in
    let e = ap (λ (hs : List Worker). length hs) c.as_mut_slice.ensures.value in
    let v = ap (λ (s : State). length s.workers) c.self-in-End.view_is in
    let f = c.from.ensures in omega arith
