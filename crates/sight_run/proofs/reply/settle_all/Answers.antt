use Rattle.std.proofs.Common.{rules, inr, refl}
use Rattle.std.proofs.lemmas.Result.{err_from_is_err_and}
use Rattle.std.proofs.lemmas.List.{drop_all}
use Rattle.shelf_io.proofs.BegunLemmas.{among_same, among_then}
use Rattle.sight_run.proofs.Settles.{all_settled, left_on}
use Rattle.sight_run.proofs.Stores.{cut, fault_of_all, roles_at}
use Rattle.sight_run.proofs.reply.settle_all.Goals as goal

pub returns-in_err-settle_one-clause-fault : goal.returns-in_err-settle_one-clause-fault
returns-in_err-settle_one-clause-fault g c =
    let xs = c.args.outputs.now in
    let first = c.output-item.result in
    let p = err_from_is_err_and c.from_residual.result c.from_residual.ensures.1 in
    rw (p.1, p.2) (fault_of_all _ _ first.role _ (roles_at _ _ _ (cut xs c.loop-output.output-index first c.loop-output-test.true c.output-item.is) c.loop-output.invariant.roles) c.in_err-settle_one.ensures.fault)

pub loop-output-preserved : goal.loop-output-preserved
loop-output-preserved g c =
    let xs = c.args.outputs.now in
    let first = c.output-item.result in
    let e = cut xs c.loop-output.output-index first c.loop-output-test.true c.output-item.is in
    record {
      files = search rules;
      roles = λ k h. roles_at _ _ _ e c.loop-output.invariant.roles k (inr h);
      begun = among_then _ _ _ _ c.loop-output.invariant.begun c.in_ok-settle_one.ensures.begun;
      settled = left_on _ _ xs _ _ first e c.in_ok-settle_one.ensures.begun c.in_ok-settle_one.ensures.settled c.loop-output.invariant.settled;
      counts = search rules;
      quiet = search rules;
    }

pub loop-output-init : goal.loop-output-init
loop-output-init g c = record {
  files = refl;
  roles = λ k h. h;
  begun = among_same _ _ _ refl;
  settled = λ n h m. m;
  counts = search rules;
  quiet = search rules;
}

pub returns-in_err-settle_one-clause-begun : goal.returns-in_err-settle_one-clause-begun
returns-in_err-settle_one-clause-begun g c = among_then _ _ _ _ c.loop-output.invariant.begun c.in_err-settle_one.ensures.begun

pub returns-clause-settled : goal.returns-clause-settled
returns-clause-settled g c = all_settled _ c.args.outputs.now _ (drop_all c.loop-output.output-index c.args.outputs.now c.loop-output-test.false) c.loop-output.invariant.settled
