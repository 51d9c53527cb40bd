use Rattle.std.proofs.Common.{sym, ◌∙◌}
use Rattle.certificates.proofs.CertParts.Stretches.{takes_weaker}
use Rattle.cert_judge.proofs.AllHeard.{same_triangles, same_rays, same_listed}
use Rattle.cert_judge.proofs.kept.Kept.hear_nodes.Goals as goal

pub returns : goal.returns
returns c = takes_weaker c.args.bytes.now c.args.count _ _ _ _ (λ ns heard p groups h k. record {
  groups_are = k.groups_are;
  triangles = k.triangles ∙ sym (same_triangles h ns);
  rays = k.rays ∙ sym (same_rays h ns);
  listed = k.listed ∙ sym (same_listed h ns);
  stage = heard p groups h k.stage;
}) c.hear_nodes.ensures
