use Rattle.std.proofs.Common.{◌<◌, ◌^◌, refl, sym, ◌∙◌, subst, length, List, ℕ}
use Rattle.std.specs.List.{AllByRecursion}
use Rattle.sight_names.specs.declared.names.PairRay.{PairRay}
use Rattle.block_evidence.specs.declared.sight_tree.Tree.{Tree}
use Rattle.cert_format.specs.declared.cert.Sizes.{Sizes}
use Rattle.cert_format.specs.Grammar.{HasShortSides, FitsPairRay, FitsTree}
use Rattle.cert_format.proofs.LimitLaws.{small_of}
use Rattle.cert_format.proofs.CertGroups.GroupLaws.{short_groups}
use Rattle.cert_format.proofs.CertGroups.PieceLaws.{short_sides, whole}
use Rattle.cert_format.proofs.cert_groups.printer.AnyPrinter.of_two.Goals as goal

pub invariant_of-left : goal.invariant_of-left
invariant_of-left c =
    let own = c.args.cert.now.cert in
    subst (λ (rs : List PairRay). AllByRecursion (λ (r : PairRay). HasShortSides r.ray) rs) (sym c.rays-rays.ensures.list) (short_sides own.sizes own.rays c.requires.in_order.rays)

pub invariant_of-front : goal.invariant_of-front
invariant_of-front c =
    subst (λ (gs : List (List ℕ)). AllByRecursion (λ (g : List ℕ). length g < 2 ^ 16) gs) (sym c.as_slice-2.ensures) (short_groups c.args.sizes.sectors c.args.cert.now.groups c.header_of.ensures.small.sectors c.requires.groups)

pub returns : goal.returns
returns c =
    let is = c.requires in
    let small = c.header_of.ensures.small in
    record {
      in_order = is;
      fits = record {
        sectors = subst (λ (z : Sizes). z.sectors < 2 ^ 16) (sym is.grouped) (small_of c.args.sizes.points _ is.few);
        points = subst (λ (z : Sizes). z.points < 2 ^ 16) (sym is.grouped) small.points;
        lines = subst (λ (z : Sizes). z.lines < 2 ^ 16) (sym is.grouped) small.lines;
        rays = subst (λ (rs : List PairRay). AllByRecursion FitsPairRay rs) c.rays-rays.ensures.list c.see_rays.ensures;
        trees = subst (λ (ts : List Tree). AllByRecursion FitsTree ts) c.trees-trees.ensures.list c.see_trees.ensures;
      };
      sectors = small.sectors;
      spelled = whole c.args.sizes c.args.cert.now c.of-2.result _ _ c.of.result _ _ _ _ _ (c.of-2.ensures ∙ c.header_of.ensures.spelled) refl c.as_slice-2.ensures c.of.ensures refl c.triangles.ensures.list c.rays-rays.ensures.list c.as_slice.ensures c.trees-trees.ensures.list;
    }
