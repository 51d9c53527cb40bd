use Rattle.std.proofs.Common.{◌<◌, ◌^◌, sym, subst}
use Rattle.cert_format.specs.declared.cert.Sizes.{Sizes}
use Rattle.cert_format.proofs.CountLaws.{few_rays, few_pairs, few_trees}
use Rattle.cert_format.proofs.LimitLaws.{small_of}
use Rattle.cert_format.proofs.cert_groups.front.header_of.Goals as goal

pub overflow_cast-rays : goal.overflow_cast-rays
overflow_cast-rays c =
    let is = c.requires in
    let cert = c.args.cert.now.cert in
    let many : cert.sizes.sectors < 2 ^ 16 = subst (λ (z : Sizes). z.sectors < 2 ^ 16) (sym is.grouped) (small_of c.args.sizes.points _ is.few) in
    record { fits = rw c.rays.ensures.list (few_rays cert.sizes cert.rays many is.in_order.rays is.in_order.rays_ascend) }

pub overflow_cast-as_slice-2 : goal.overflow_cast-as_slice-2
overflow_cast-as_slice-2 c =
    let is = c.requires in
    record { fits = rw c.as_slice-2.ensures (few_pairs c.args.sizes c.args.cert.now.listed c.front_of-front.ensures.small.sectors is.listed is.listed_ascend) }

pub overflow_cast-trees : goal.overflow_cast-trees
overflow_cast-trees c =
    let is = c.requires in
    let cert = c.args.cert.now.cert in
    let many : cert.sizes.sectors < 2 ^ 16 = subst (λ (z : Sizes). z.sectors < 2 ^ 16) (sym is.grouped) (small_of c.args.sizes.points _ is.few) in
    record { fits = rw c.trees.ensures.list (few_trees cert.sizes cert.trees many is.in_order.trees is.in_order.trees_ascend) }
