use Rattle.std.proofs.Common.{◌<◌, ◌^◌, List, ℕ, length, refl, sym, ◌∙◌, subst}
use Rattle.std.specs.List.{AllByRecursion}
use Rattle.sight_names.specs.declared.names.PairRay.{PairRay}
use Rattle.block_evidence.specs.declared.sight_tree.Node.{Node}
use Rattle.block_evidence.specs.SightTree.Spelling.{FitsNode}
use Rattle.cert_format.specs.Grammar.{HasShortSides, FitsPairRay}
use Rattle.cert_format.proofs.CountLaws.{few_rays}
use Rattle.cert_format.proofs.LimitLaws.{small_of}
use Rattle.cert_format.specs.CertGroups.Grammar.{grouped_sizes}
use Rattle.cert_format.proofs.CertGroups.GroupLaws.{short_groups}
use Rattle.cert_format.proofs.CertGroups.PieceLaws.{short_sides}
use Rattle.certificates.specs.CertExact.Grammar.{nodes_bytes}
use Rattle.certificates.proofs.CertExact.GroupTrees.{trees_fit}
use Rattle.certificates.proofs.CertExact.PieceLaws.{whole}
use Rattle.certificates.proofs.cert_exact.printer.ExactPrinter.new.Goals as goal

pub header_of-requires-clause-rays : goal.header_of-requires-clause-rays
header_of-requires-clause-rays c =
    let is = c.requires.two in
    let cert = c.args.cert.now in
    few_rays (grouped_sizes cert.sizes cert.groups) cert.rays (small_of cert.sizes.points _ is.few) is.in_order.rays is.in_order.rays_ascend

pub invariant_of-front : goal.invariant_of-front
invariant_of-front c =
    let cert = c.args.cert.now in (
      subst (λ (gs : List (List ℕ)). AllByRecursion (λ (g : List ℕ). length g < 2 ^ 16) gs) (sym c.as_slice.ensures) (short_groups cert.sizes.sectors cert.groups c.header_of.ensures.small.sectors c.requires.two.groups),
      subst (λ (rs : List PairRay). AllByRecursion (λ (r : PairRay). HasShortSides r.ray) rs) (sym c.as_slice-rays.ensures) (short_sides (grouped_sizes cert.sizes cert.groups) cert.rays c.requires.two.in_order.rays),
    )

pub returns : goal.returns
returns c =
    let is = c.requires.two in
    let cert = c.args.cert.now in
    let small = c.header_of.ensures.small in
    let short = subst (λ (ts : List (List Node)). AllByRecursion (λ (ns : List Node). length (nodes_bytes ns) < 2 ^ 64) ts) c.as_slice-trees.ensures c.see_trees.ensures.lengths in
    let fit = subst (λ (ts : List (List Node)). AllByRecursion (λ (ns : List Node). AllByRecursion FitsNode ns) ts) c.as_slice-trees.ensures c.see_trees.ensures.fit in
    record {
      sized = refl;
      in_order = is;
      one_each = c.requires.one_each;
      fits = record {
        sectors = small_of cert.sizes.points _ is.few;
        points = small.points;
        lines = small.lines;
        rays = subst (λ (rs : List PairRay). AllByRecursion FitsPairRay rs) c.as_slice-rays.ensures c.see_rays.ensures;
        trees = trees_fit 0 cert.trees short fit;
      };
      sectors = small.sectors;
      lengths = short;
      spelled = whole cert c.of.result _ _ _ _ _ _ (c.of.ensures ∙ c.header_of.ensures.spelled) refl refl c.as_slice.ensures c.as_slice-2.ensures c.as_slice-rays.ensures c.as_slice-trees.ensures;
    }
