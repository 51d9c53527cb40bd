use Rattle.std.proofs.Common.{refl, ◌∙◌, subst, List}
use Rattle.std.specs.List.{AllByRecursion}
use Rattle.sight_names.specs.declared.names.PairRay.{PairRay}
use Rattle.block_evidence.specs.declared.sight_tree.Tree.{Tree}
use Rattle.cert_format.specs.Grammar.{FitsPairRay, FitsTree}
use Rattle.cert_format.proofs.PieceLaws.{whole}
use Rattle.cert_format.proofs.pieces.Printer.new.Goals as goal

pub returns : goal.returns
returns c =
    let small = c.header_of.ensures.small in
    record {
      sized = refl;
      in_order = c.triangles.ensures.in_order;
      fits = record {
        sectors = small.sectors;
        points = small.points;
        lines = small.lines;
        rays = subst (λ (rs : List PairRay). AllByRecursion FitsPairRay rs) c.rays-rays.ensures.list c.see_rays.ensures;
        trees = subst (λ (ts : List Tree). AllByRecursion FitsTree ts) c.trees-trees.ensures.list c.see_trees.ensures;
      };
      spelled = whole c.args.cert.now c.of.result _ _ _ _ _ (c.of.ensures ∙ c.header_of.ensures.spelled) refl c.triangles.ensures.list c.rays-rays.ensures.list c.listed.ensures.list c.trees-trees.ensures.list;
    }
