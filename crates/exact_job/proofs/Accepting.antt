-- The certificate of a build is accepted.
use Rattle.std.proofs.Common.{◌≡◌, ℕ, ◌<◌, ◌∙◌, List, Some, length, refl, sym, ap, subst, arith}
use Rattle.std.specs.List.{slice_get}
use Rattle.sight_names.specs.Map.{map_of}
use Rattle.sight_names.specs.Plan.{PlanParts, IsPlan}
use Rattle.sight_names.specs.Sound.{LinesMeetAtEnds}
use Rattle.sight_names.specs.Table.{Rejected}
use Rattle.sight_names.proofs.Lists.{get_of_contains}
use Rattle.reject_bits.specs.Parts.{TableParts}
use Rattle.block_evidence.specs.declared.sight_tree.Node.{Node}
use Rattle.block_evidence.specs.declared.sight_tree.Tree.{Tree}
use Rattle.cert_checker.specs.Apart.{triangles_in, labels_in}
use Rattle.cert_checker.specs.Rays.{AreSightRaysBelow}
use Rattle.certificates.specs.declared.cert_exact.cert.ExactParts.{ExactParts}
use Rattle.certificates.specs.CertExact.Grammar.{as_two}
use Rattle.cert_format.specs.Accepted.{triangles_of, labels_of}
use Rattle.gate_floods.specs.Exact.{IsAcceptedThree, IsClaimedBlind, TellsAll}
use Rattle.gate_floods.specs.Rows.{KeepsByRows}
use Rattle.gate_floods.proofs.Tells.{version_three_tells}
use Rattle.gate_floods.specs.RowJudge.Judged.{tree_with}
use Rattle.exact_checker.specs.Judged.{AreTreesKept, Owns}
use Rattle.exact_checker.proofs.Accepting.{as_many, there_tree}
use Rattle.exact_job.specs.Built.{IsPlanOfGroups}
use Rattle.exact_job.specs.Table.{IsTableOfGroups}

module _ (p : PlanParts) (is : IsPlan p) (c : ExactParts) (g : PlanParts) (over : IsPlanOfGroups p c.groups (triangles_in c.triangles) (labels_in c.triangles) g) (each : length c.trees ≡ length c.groups)
    (rays : AreSightRaysBelow (map_of g) c.rays (length c.rays)) (trees : AreTreesKept (map_of g) c) (t : TableParts) (size : t.n ≡ p.sectors) (table : IsTableOfGroups (as_two c) t) where
  -- the tree is that of the group, and keeps from all that it owns
  abbrev IsRightTree : ℕ → Tree → Type 0
  IsRightTree f u = (u.source ≡ f) × KeepsByRows (map_of g) (triangles_of (as_two c).cert) (labels_of (as_two c).cert) (IsClaimedBlind (map_of g) (as_two c).cert) (Owns (map_of g) c f) u

  tree_right : (f : ℕ) (u : Tree) → (ns : List Node) × (slice_get c.trees f ≡ Some ns) × (tree_with f ns ≡ u) → IsRightTree f u
  tree_right f u (ns, at, same) = subst (IsRightTree f) same (refl, trees f ns at)

  below : (a : ℕ) → a < p.sectors → a < t.n
  below a l = omega (arith, l, size)

  pub accepted : IsAcceptedThree (map_of p) t.bytes c
  accepted = (
    map_of g,
    over.names,
    record {
      table_for = over.table;
      rays = λ r there. rays there.0 r there.1 (get_of_contains c.rays r there.0 there.1 there.2);
      one_each = as_many 0 c.trees ∙ each ∙ sym over.sectors;
      trees = λ f u at. let w = there_tree 0 f c.trees u at in tree_right f u (w.0, w.1, ap (λ (k : ℕ). tree_with k w.0) (omega arith) ∙ w.2);
      listed = refl;
      set = λ a b low low_too bit f k in_f in_k joined. table.set a b (below a low) (below b low_too) (subst (λ (n : ℕ). Rejected n t.bytes a b) (sym size) bit) (f, k, in_f, in_k, joined);
      clear = λ a b low low_too none. table.clear a b (below a low) (below b low_too) (λ bit. none (subst (λ (n : ℕ). Rejected n t.bytes a b) size bit));
    },
  )

  pub tells : LinesMeetAtEnds (map_of p) → TellsAll (map_of p) t
  tells ends = version_three_tells p t c is ends size accepted
