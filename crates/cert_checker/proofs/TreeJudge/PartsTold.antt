-- Trees judged apart from the others: what is told of them, and what that tells of a certificate where they are all its trees.
use Rattle.std.proofs.Common.{◌≡◌, List, [], Bool, length, refl, sym, ◌∙◌, ap, subst}
use Rattle.sight_names.specs.declared.names.Triangle.{Triangle}
use Rattle.sight_names.specs.Map.{Map, map_of}
use Rattle.sight_names.specs.Mesh.{IsGoodMesh}
use Rattle.sight_names.specs.Plan.{PlanParts, IsPlan}
use Rattle.block_evidence.specs.declared.sight_tree.Tree.{Tree}
use Rattle.cert_format.specs.Accepted.{triangles_of, labels_of}
use Rattle.cert_format.specs.Grammar.{IsOneInOrder}
use Rattle.cert_format.specs.Parts.{CertParts}
use Rattle.reject_bits.specs.Parts.{TableParts}
use Rattle.mesh_shape.specs.declared.half_edges.table.HalfEdge.{HalfEdge}
use Rattle.mesh_shape.specs.HalfEdges.HalfEdges.{AreHalfEdges}
use Rattle.cert_checker.specs.declared.tree_judge.judge.TreeVerdict.{TreeVerdict}
use Rattle.cert_checker.specs.declared.tree_judge.judge.TreeVerdict.TheVariants.{Whole, Wrong}
use Rattle.cert_checker.specs.TreeJudge.Heard.{AreTreesNoted}
use Rattle.cert_checker.specs.TreeJudge.Marks.{HasNoMark}
use Rattle.cert_checker.specs.TreeJudge.Part.{TellsPart}
use Rattle.cert_checker.specs.TreeJudge.Trees.{TellsTrees}
use Rattle.cert_checker.specs.TreeJudge.Whole.{AreWholeOver, HasNoBit}
use Rattle.cert_checker.proofs.TreeJudge.AllTrees.{AreTreesJudged, trees_whole, keeps_away, wrong_told}

-- flags and bits of whole trees, from none at all
pub part_noted : (m : Map) (ts : List Triangle) (xs : List HalfEdge) (trees : List Tree) (none now new back : List Bool) (clear reached : TableParts) → HasNoMark m.sectors none → now ≡ none → HasNoBit clear → clear.n ≡ m.sectors
    → back ≡ new → length new ≡ length now → reached.n ≡ clear.n → AreWholeOver m ts xs trees now new clear reached → AreTreesNoted m ts xs trees back reached
part_noted m ts xs trees none now new back clear reached unmarked same unset size stored len sectors over = record {
  unmarked = now;
  clear = clear;
  none = subst (HasNoMark m.sectors) (sym same) unmarked;
  unset = unset;
  size = size;
  marks = ap length stored ∙ len ∙ ap length same ∙ unmarked.len;
  sectors = sectors ∙ size;
  over = subst (λ (ws : List Bool). AreWholeOver m ts xs trees now ws clear reached) (sym stored) over;
}

-- all trees of a certificate as one part
pub part_tells : (p : PlanParts) (c : CertParts) (ts : List Triangle) (xs : List HalfEdge) (trees : List Tree) (v : TreeVerdict) → IsPlan p → IsOneInOrder c → c.sizes.sectors ≡ p.sectors → ts ≡ triangles_of c
    → IsGoodMesh (map_of p) ts (labels_of c) → AreHalfEdges p ts (labels_of c) xs → trees ≡ c.trees → TellsPart (map_of p) ts xs trees v → TellsTrees (map_of p) c v
part_tells p c ts xs trees (Wrong s n) plan order sectors triangles good edges list told = wrong_told p c ts xs trees [] [] (record { n = 0; bytes = [] }) (record { n = 0; bytes = [] })
    (record { plan = plan; triangles = triangles; good = good; edges = edges; list = list }) s n told
part_tells p c ts xs trees (Whole r) plan order sectors triangles good edges list noted = (
  trees_whole p c ts xs trees noted.unmarked r.walked.items noted.clear r.reached judged noted.over,
  noted.sectors,
  keeps_away p c ts xs trees noted.unmarked r.walked.items noted.clear r.reached noted.unmarked r.walked.items judged noted.over order noted.none noted.unset refl refl noted.size,
)
  where
    judged : AreTreesJudged p c ts xs trees noted.unmarked r.walked.items noted.clear r.reached
    judged = record { plan = plan; triangles = triangles; good = good; edges = edges; list = list }
