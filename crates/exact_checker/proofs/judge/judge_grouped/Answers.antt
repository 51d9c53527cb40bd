use Rattle.std.proofs.lemmas.Result.{IfOk-weaker}
use Rattle.sight_names.specs.Map.{map_of}
use Rattle.certificates.specs.CertExact.Grammar.{as_two}
use Rattle.cert_checker.specs.Judged.{IsPairVerdict, JudgesRays}
use Rattle.cert_checker.proofs.Judging.{rays_at_pairs, rays_at_tree}
use Rattle.exact_checker.proofs.judge.judge_grouped.Goals as goal

pub returns-clause-rays : goal.returns-clause-rays
returns-clause-rays g c = IfOk-weaker c.judge_sectors.result IsPairVerdict (JudgesRays (map_of c.args.over.now.plan) (as_two c.args.exact.now).cert)
    (λ v kind. rays_at_pairs (map_of c.args.over.now.plan) (as_two c.args.exact.now).cert c.as_slice-rays.result.now v c.as_slice-rays.ensures c.in_default.ensures.fault kind) c.judge_sectors.ensures.kind

pub returns-in-Some-wrong-clause-rays : goal.returns-in-Some-wrong-clause-rays
returns-in-Some-wrong-clause-rays g c = rays_at_tree (map_of c.args.over.now.plan) (as_two c.args.exact.now).cert c.as_slice-rays.result.now c.in-Some-wrong.wrong.source c.in-Some-wrong.wrong.node c.as_slice-rays.ensures c.in_default.ensures.fault
