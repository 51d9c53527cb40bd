-- What is told of all trees, once they have ended.
use Rattle.std.proofs.Common.{◌≡◌, ℕ, ◌<◌, ◌^◌, List, Option, Some, None, Result, Ok, Err, length, refl, sym, ◌∙◌, ap, subst, arith}
use Rattle.std.specs.List.{AllByRecursion, slice_get}
use Rattle.std.specs.Prelude.{IfOk}
use Rattle.std.proofs.lemmas.List.{append-nil}
use Rattle.std.proofs.lemmas.Option.{slice_get_within}
use Rattle.sight_names.specs.declared.faults.CheckFault.TheVariants.{Tree as OfTree}
use Rattle.sight_names.specs.declared.names.Memory.{Memory}
use Rattle.sight_names.specs.Map.{map_of}
use Rattle.sight_names.specs.Plan.{PlanParts}
use Rattle.block_evidence.specs.declared.sight_tree.Node.{Node}
use Rattle.reject_bits.specs.Parts.{TableParts}
use Rattle.cert_checker.specs.declared.verdict.Verdict.{Verdict}
use Rattle.cert_checker.specs.declared.verdict.Verdict.TheVariants.{No}
use Rattle.cert_checker.specs.Judged.{IsPairVerdict}
use Rattle.certificates.specs.declared.cert_exact.cert.ExactParts.{ExactParts}
use Rattle.certificates.specs.CertExact.Grammar.{as_two}
use Rattle.gate_floods.specs.declared.gate_masks.masks.Row.{Row}
use Rattle.group_checker.specs.Judged.{any_of}
use Rattle.exact_checker.specs.Rows.{AreJoinedRows}
use Rattle.gate_floods.specs.Exact.{IsClaimedBlind, IsOwned}
use Rattle.gate_floods.specs.RowJudge.Judged.{tree_with}
use Rattle.gate_floods.proofs.RowJudge.Telling.{tells_by_rows}
use Rattle.exact_checker.specs.declared.trees.WrongNode.{WrongNode}
use Rattle.exact_checker.specs.Judged.{AnswersFor, AnswersForEach, JudgesThree, TellsPairsOfThree, TellsTrees}
use Rattle.exact_checker.proofs.Judging.{trees_told}
use Rattle.any_judge.specs.declared.exact_judge.ground.Ground.{Ground}
use Rattle.any_judge.specs.declared.exact_judge.trees.RowTrees.{RowTrees}
use Rattle.any_judge.specs.ExactJudge.Ground.{IsExactGroundOf, masks_in, owning_in}
use Rattle.any_judge.specs.ExactJudge.Judging.{IsCertOf}
use Rattle.any_judge.specs.ExactJudge.Stage.{HasThree, IsRightOver}
use Rattle.any_judge.specs.ExactJudge.Trees.{Begun, all_begun, begun_all, AreTreesCountable, HasHeardRowTrees, IsTreeTold, IsExactTreeJudged}

module _ (g : Ground) where
  answers : (f : ℕ) (ns : List Node) (o : Option ℕ) → IsTreeTold g f ns o → AnswersFor g.edges (masks_in g) g.roots.roots.items g.roots.first.items (owning_in g) f ns o
  answers f ns o t = record {
    row = t.row;
    bits = t.own;
    tells = λ p ts ls rank cert ground low. tells_by_rows p ts ls g.edges g.roots.roots.items g.roots.first.items (masks_in g) (IsClaimedBlind (map_of p) cert) (IsOwned rank (IsClaimedBlind (map_of p) cert) f) t.row ground (tree_with f ns) low o t.tells;
  }

all_answer : (trees : List (List Node)) (r : Option WrongNode) (j : RowTrees) → IsExactTreeJudged (trees, None) r j → AnswersForEach j.ground.edges (masks_in j.ground) j.ground.roots.roots.items j.ground.roots.first.items (owning_in j.ground) trees r
all_answer trees None j h = λ f ns there. answers j.ground f ns None (h.told f ns (slice_get_within trees f ns there) there)
all_answer trees (Some w) j h =
    let wrong = h.1 in
    let same = append-nil trees in (
      (wrong.nodes, ap (λ (ts : List (List Node)). slice_get ts w.source) (sym same) ∙ wrong.there, answers j.ground w.source wrong.nodes (Some w.node) wrong.told),
      λ f ns lt there. answers j.ground f ns None (wrong.before f ns lt (ap (λ (ts : List (List Node)). slice_get ts f) same ∙ there)),
    )

-- all trees of the certificate keep, or the first that doesn't is told
pub trees_judged : (p : PlanParts) (c : ExactParts) (r : Option WrongNode) (j : RowTrees) → IsExactGroundOf p c j.ground → length c.trees ≡ length c.groups → IsExactTreeJudged (c.trees, None) r j → TellsTrees (map_of p) c r
trees_judged p c r j w each h =
    let g = j.ground in
    trees_told p w.over.plan c w.over.sectors g.edges w.over.good w.over.edges g.roots.roots.items g.roots.first.items w.roots (masks_in g) w.masks (owning_in g) w.count w.components w.knows c.trees refl (each ∙ sym w.over.sectors) r (all_answer c.trees r j h)

-- ---- the certificate whose trees all have come

module _ (p over : PlanParts) (t : TableParts) (c : ExactParts) (is : IsCertOf p t c) (g : Ground) (right : IsRightOver p over c.groups c.triangles c.rays g) where
  pub has : HasThree p t c c.groups c.triangles c.rays
  has = record { cert = is.cert; table = is.table; groups_are = refl; triangles = refl; rays_are = refl }

  ground : IsExactGroundOf over c g
  ground = right.ground t c has

  as_many : g.count ≡ length c.trees
  as_many = ground.count ∙ ground.over.sectors ∙ sym is.cert.one_each

  joined_rows : AreJoinedRows (length c.groups) c.rays g.joined.items
  joined_rows = subst (λ (n : ℕ). AreJoinedRows n c.rays g.joined.items) (ground.count ∙ ground.over.sectors) ground.knows.joined

  pub all_told : (b : Begun) (j : RowTrees) → all_begun (begun_all (length c.trees) b) ≡ c.trees → j.ground ≡ g → HasHeardRowTrees (all_begun (begun_all g.count b), None) j → TellsTrees (map_of over) c j.wrong
  all_told b j all same w =
      let moved : HasHeardRowTrees (c.trees, None) j = subst (λ (ts : List (List Node)). HasHeardRowTrees (ts, None) j) (ap (λ (n : ℕ). all_begun (begun_all n b)) as_many ∙ all) w in
      let counted : AreTreesCountable g (c.trees, None) = record {
        few = omega (arith, as_many, ap length (append-nil c.trees));
        nodes = subst (AllByRecursion (λ (ns : List Node). length ns < 2 ^ 64)) (sym (append-nil c.trees)) is.counted;
      } in
      trees_judged over c j.wrong j (subst (IsExactGroundOf over c) (sym same) ground) is.cert.one_each (moved.judged (subst (λ (h : Ground). AreTreesCountable h (c.trees, None)) (sym same) counted))

  pub wrong_told : (r : Option WrongNode) (w : WrongNode) → r ≡ Some w → TellsTrees (map_of over) c r → JudgesThree p t c (any_of (No (OfTree w.source w.node)))
  wrong_told r w e told = right.tree t c w has (subst (TellsTrees (map_of over) c) e told)

  pub pairs_told : (o : Option WrongNode) (r : Result Verdict Memory) (joined : List Row) → o ≡ None → TellsTrees (map_of over) c o → joined ≡ g.joined.items → IfOk r IsPairVerdict → (AreJoinedRows (length c.groups) c.rays joined → IfOk r (TellsPairsOfThree t (as_two c))) → IfOk r (λ v. JudgesThree p t c (any_of v))
  pairs_told o r joined e told same kind pairs = by r kind (pairs (subst (AreJoinedRows (length c.groups) c.rays) (sym same) joined_rows))
    where
      by : (x : Result Verdict Memory) → IfOk x IsPairVerdict → IfOk x (TellsPairsOfThree t (as_two c)) → IfOk x (λ v. JudgesThree p t c (any_of v))
      by (Ok v) k h = right.pairs t c v has (subst (TellsTrees (map_of over) c) e told) k h
      by (Err m) k h = tt
