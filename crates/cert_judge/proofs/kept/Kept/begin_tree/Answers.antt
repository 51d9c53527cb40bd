use Rattle.cert_judge.proofs.kept.Kept.begin_tree.Goals as goal

pub returns : goal.returns
returns c = λ p groups h closed k. record { groups_are = k.groups_are; triangles = k.triangles; rays = k.rays; listed = k.listed; stage = c.begin_tree.ensures p groups h closed k.stage }
