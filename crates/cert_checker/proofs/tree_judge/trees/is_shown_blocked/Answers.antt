use Rattle.std.proofs.Common.{◌≡◌, ◌∙◌, length, take, refl, sym, ap, ℕ, arith}
use Rattle.std.proofs.lemmas.List.{length-set}
use Rattle.cert_checker.specs.TreeJudge.Path.{path_ends}
use Rattle.cert_checker.proofs.TreeJudge.Ends.{found_more, blocks_if}
use Rattle.cert_checker.proofs.tree_judge.trees.is_shown_blocked.Goals as goal

pub loop-i-init : goal.loop-i-init
loop-i-init c = record { long = refl; found = refl }

pub loop-i-preserved : goal.loop-i-preserved
loop-i-preserved c = record {
  long = simp length-set c.loop-i.invariant.long;
  found = found_more (path_ends c.args.path.now) c.args.evidence.ends c.loop-i.ends c.loop-i.i c.in-Some.end (omega arith) (omega (arith, c.loop-i.invariant.long)) c.loop-i.invariant.found (sym c.in-Some.ensures);
}

pub returns : goal.returns
returns c =
    let e : c.loop-i.i ≡ c.min-count.result = omega arith in
    let l : length c.args.evidence.ends ≡ 4 = omega arith in
    blocks_if (path_ends c.args.path.now) c.args.evidence c.loop-i.ends (take c.min-count.result c.loop-i.ends) c.loop-i.i c.stuck.result c.loop-i.invariant.found l (e ∙ c.min-count.ensures) (ap (λ (k : ℕ). take k c.loop-i.ends) (sym e)) c.stuck.ensures
