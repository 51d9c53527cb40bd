-- The trees that a judge has heard are those of a certificate: what it tells of them.
use Rattle.std.proofs.Common.{◌≡◌, ℕ, inl, inr, List, [], ◌++◌, Option, Some, None, Contains, Bool, refl, sym, ◌∙◌, subst}
use Rattle.std.proofs.lemmas.List.{append-nil}
use Rattle.sight_names.specs.declared.names.Triangle.{Triangle}
use Rattle.sight_names.specs.Map.{map_of}
use Rattle.sight_names.specs.Plan.{PlanParts}
use Rattle.block_evidence.specs.declared.sight_tree.Tree.{Tree}
use Rattle.cert_format.specs.Parts.{CertParts}
use Rattle.reject_bits.specs.Parts.{TableParts}
use Rattle.mesh_shape.specs.declared.half_edges.table.HalfEdge.{HalfEdge}
use Rattle.cert_checker.specs.declared.tree_judge.hearing.TreeJudge.{TreeJudge}
use Rattle.cert_checker.specs.declared.tree_judge.judge.Reach.{Reach}
use Rattle.cert_checker.specs.declared.tree_judge.judge.TreeVerdict.TheVariants.{Whole, Wrong}
use Rattle.cert_checker.specs.TreeJudge.Heard.{AreTreesCounted, AreTreesNoted, IsTreeJudged, HasHeardTrees, IsJudgeable}
use Rattle.cert_checker.specs.TreeJudge.Trees.{TellsTrees}
use Rattle.cert_checker.specs.TreeJudge.Whole.{IsFirstWrongTree, AreWholeOver}
use Rattle.cert_checker.proofs.TreeJudge.AllTrees.{AreTreesJudged, trees_whole, keeps_away, wrong_told, sources_below}

module _ (p : PlanParts) (c : CertParts) (ts : List Triangle) (xs : List HalfEdge) (trees : List Tree) (over : IsJudgeable p c ts xs) (all : c.trees ≡ trees) where
  counted : AreTreesCounted p.sectors (trees ++ [])
  counted t there = record {
    source = sources_below c p.sectors trees over.in_order over.sectors (sym all) t (subst (λ (us : List Tree). Contains us t) (append-nil trees) there);
    nodes = over.counted t (subst (λ (us : List Tree). Contains us t) (append-nil trees ∙ sym all) there);
  }

  are_judged : (old new : List Bool) (reached reached_new : TableParts) → AreTreesJudged p c ts xs trees old new reached reached_new
  are_judged old new reached reached_new = record { plan = over.plan; triangles = over.triangles; good = over.good; edges = over.edges; list = sym all }

  pub tells_wrong : (j : TreeJudge) (w : ℕ × ℕ) → HasHeardTrees (map_of p) ts xs trees None j → j.wrong ≡ Some w → TellsTrees (map_of p) c (Wrong w.0 w.1)
  tells_wrong j w heard e = wrong_told p c ts xs trees [] [] (record { n = 0; bytes = [] }) (record { n = 0; bytes = [] }) (are_judged [] [] (record { n = 0; bytes = [] }) (record { n = 0; bytes = [] })) w.0 w.1
      (first (subst (IsTreeJudged (map_of p) ts xs trees None j) e (heard.judged counted)))
    where
      first : IsTreeJudged (map_of p) ts xs trees None j (Some w) → IsFirstWrongTree (map_of p) ts xs trees w.0 w.1
      first (ended, inl h) = h
      first (ended, inr h) = absurd (let f : ◌≡◌ {A = Option Tree} None (Some h.tree) = h.is in cc)

  pub tells_whole : (j : TreeJudge) (r : Reach) → HasHeardTrees (map_of p) ts xs trees None j → j.wrong ≡ None → r.walked.items ≡ j.walked.items → r.reached ≡ j.reached → TellsTrees (map_of p) c (Whole r)
  tells_whole j r heard e marks bits = (
    trees_whole p c ts xs trees noted.unmarked j.walked.items noted.clear r.reached judged over_all,
    same noted.sectors,
    keeps_away p c ts xs trees noted.unmarked j.walked.items noted.clear r.reached noted.unmarked r.walked.items judged over_all over.in_order noted.none noted.unset refl marks noted.size,
  )
    where
      noted : AreTreesNoted (map_of p) ts xs trees j.walked.items j.reached
      noted = (subst (IsTreeJudged (map_of p) ts xs trees None j) e (heard.judged counted)).1

      judged : AreTreesJudged p c ts xs trees noted.unmarked j.walked.items noted.clear r.reached
      judged = are_judged noted.unmarked j.walked.items noted.clear r.reached

      same : j.reached.n ≡ p.sectors → r.reached.n ≡ p.sectors
      same h = subst (λ (t : TableParts). t.n ≡ p.sectors) (sym bits) h

      over_all : AreWholeOver (map_of p) ts xs trees noted.unmarked j.walked.items noted.clear r.reached
      over_all = subst (λ (t : TableParts). AreWholeOver (map_of p) ts xs trees noted.unmarked j.walked.items noted.clear t) (sym bits) noted.over
