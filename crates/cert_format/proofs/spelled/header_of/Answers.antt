use Rattle.std.proofs.Common.{ap, sym, ◌∙◌}
use Rattle.cert_format.specs.Parts.{CertParts}
use Rattle.cert_format.proofs.CountLaws.{few_rays, few_pairs, few_trees}
use Rattle.cert_format.proofs.spelled.header_of.Goals as goal

pub overflow_cast-rays : goal.overflow_cast-rays
overflow_cast-rays c =
    let list = c.rays.ensures.list ∙ ap (λ (p : CertParts). p.rays) (sym c.cert.view_is) in
    record { fits = rw list (few_rays c.cert.inside.sizes c.cert.inside.rays c.front_of-front.ensures.small.sectors c.cert.invariant.rays c.cert.invariant.rays_ascend) }

pub overflow_cast-listed : goal.overflow_cast-listed
overflow_cast-listed c =
    let list = c.listed.ensures.list ∙ ap (λ (p : CertParts). p.listed) (sym c.cert.view_is) in
    record { fits = rw list (few_pairs c.cert.inside.sizes c.cert.inside.listed c.front_of-front.ensures.small.sectors c.cert.invariant.listed c.cert.invariant.listed_ascend) }

pub overflow_cast-trees : goal.overflow_cast-trees
overflow_cast-trees c =
    let list = c.trees.ensures.list ∙ ap (λ (p : CertParts). p.trees) (sym c.cert.view_is) in
    record { fits = rw list (few_trees c.cert.inside.sizes c.cert.inside.trees c.front_of-front.ensures.small.sectors c.cert.invariant.trees c.cert.invariant.trees_ascend) }
