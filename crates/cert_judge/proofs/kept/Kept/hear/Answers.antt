use Rattle.std.proofs.Common.{refl, sym, subst}
use Rattle.std.specs.Prelude.{IfOk}
use Rattle.certificates.specs.declared.cert_parts.part.Part.{Part}
use Rattle.cert_judge.specs.Heard.{closed_at, with_part}
use Rattle.cert_judge.specs.Judging.{KeepsListingHeard}
use Rattle.cert_judge.proofs.kept.Kept.hear.Goals as goal

pub returns-in_ok-close-in-Ray : goal.returns-in_ok-close-in-Ray
returns-in_ok-close-in-Ray c = λ groups h k. subst (λ (part : Part). IfOk c.hear_ray.result (λ _. KeepsListingHeard c.args.plan.now groups (with_part h part) c.hear_ray.new.self)) (sym c.in-Ray.is) (c.hear_ray.ensures groups (closed_at h) refl (c.in_ok-close-in-Ray.ensures groups h k))

pub returns-in_ok-close-in-Listed : goal.returns-in_ok-close-in-Listed
returns-in_ok-close-in-Listed c = λ groups h k. subst (λ (part : Part). IfOk c.hear_listed.result (λ _. KeepsListingHeard c.args.plan.now groups (with_part h part) c.hear_listed.new.self)) (sym c.in-Listed.is) (c.hear_listed.ensures c.args.plan.now groups (closed_at h) refl (c.in_ok-close-in-Listed.ensures groups h k))

pub returns-in_ok-close-in-Tree : goal.returns-in_ok-close-in-Tree
returns-in_ok-close-in-Tree c = λ groups h k. subst (λ (part : Part). KeepsListingHeard c.args.plan.now groups (with_part h part) c.begin_tree.new.self) (sym c.in-Tree.is) (c.begin_tree.ensures c.args.plan.now groups (closed_at h) refl (c.in_ok-close-in-Tree.ensures groups h k))

pub returns-in_ok-close-in-Node : goal.returns-in_ok-close-in-Node
returns-in_ok-close-in-Node c = λ groups h k. subst (λ (part : Part). IfOk c.hear_node.result (λ _. KeepsListingHeard c.args.plan.now groups (with_part h part) c.hear_node.new.self)) (sym c.in-Node.is) (c.hear_node.ensures c.args.plan.now groups (closed_at h) refl (c.in_ok-close-in-Node.ensures groups h k))
