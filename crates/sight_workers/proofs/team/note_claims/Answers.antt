use Rattle.std.proofs.Common.{refl, ◌∙◌, arith}
use Rattle.sight_workers.proofs.Claimants.{notes_none, notes_next, notes_all}
use Rattle.sight_workers.proofs.team.note_claims.Goals as goal

pub loop-result-init : goal.loop-result-init
loop-result-init c = record {
  len = refl;
  below = λ n lt all. all;
  notes = notes_none c.args.results.now c.args.worker c.args.claimed_by.now;
}

pub loop-result-preserved : goal.loop-result-preserved
loop-result-preserved c =
    let i = c.loop-result.invariant in
    let e = c.note_claim.ensures in record {
      len = e.len ∙ i.len;
      below = λ n lt all. e.below n lt (i.below n lt all);
      notes = notes_next c.args.results.now c.args.worker c.args.claimed_by.now c.loop-result.result-index c.result-item.result c.loop-result.claimed_by c.note_claim.new.claimed_by c.loop-result-test.true c.result-item.is i.notes e.noted e.kept;
    }

pub returns-clause-noted : goal.returns-clause-noted
returns-clause-noted c = notes_all c.args.results.now c.args.worker c.args.claimed_by.now c.loop-result.result-index c.loop-result.claimed_by (omega (arith, c.loop-result-test.false)) c.loop-result.invariant.notes

pub returns-clause-kept : goal.returns-clause-kept
returns-clause-kept c = c.loop-result.invariant.notes.kept
