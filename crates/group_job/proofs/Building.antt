-- What is built of the results of a job is what is promised.
use Rattle.std.proofs.Common.{◌≡◌, ℕ, ◌<◌, inl, inr, List, [], length, Contains, Option, sym, subst}
use Rattle.sight_names.specs.declared.names.Budget.{Budget}
use Rattle.sight_names.specs.declared.names.Triangle.{Triangle}
use Rattle.sight_names.specs.Map.{map_of}
use Rattle.sight_names.specs.Mesh.{IsGoodMesh}
use Rattle.sight_names.specs.Plan.{PlanParts, IsPlan}
use Rattle.block_evidence.specs.declared.sight_tree.Tree.{Tree}
use Rattle.face_groups.specs.TriSectors.Components.{AreComponents}
use Rattle.cert_format.specs.Grammar.{IsOneInOrder}
use Rattle.cert_format.specs.Parts.{CertParts}
use Rattle.cert_format.specs.Sizes.{sizes_of_plan}
use Rattle.pair_budget.specs.declared.results.SourceResult.{SourceResult}
use Rattle.pair_budget.specs.declared.results.Verdicts.{Verdicts}
use Rattle.pair_budget.specs.Decide.{DecidesTable, DecidesList, DecidesRays, trees_of}
use Rattle.pair_budget.specs.Decided.{AreExact, DecidesOver, TellsConnected}
use Rattle.sight_workers.specs.declared.job.Job.{Job}
use Rattle.sight_workers.specs.declared.view.Task.{Task}
use Rattle.sight_workers.specs.Board.{task_for}
use Rattle.group_job.specs.Results.{AreResultsOf, AreSetApart, AreWalksShown, AreTreesOfUnspent, AreWalkVerdicts, AreWholeTrees, IsBuiltOver}
use Rattle.group_job.specs.Faces.{AreFacesOf, faces_of_job}
use Rattle.group_job.specs.Labelled.{labelled_of}
use Rattle.group_job.specs.Sight.{AreRaysAlong}
use Rattle.group_job.proofs.BuildLaws.{walks_are, walks_exact, walks_shown, whole_trees}
use Rattle.group_job.proofs.KeptTrees.{trees_of_set, whole_trees_of}
use Rattle.group_job.proofs.Seeing.{has_sight_rays, ray_along, tells_who_sees, walks_through}
use Rattle.group_job.proofs.VerdictLaws.{both_bits_of, cert_rays, nothing_listed, own_bit, set_apart, tells_connected, trees_of_unspent}

module _ (j : Job) (plan : IsPlan j.plan.now) (faces : AreFacesOf j.plan.now (faces_of_job j)) (connected : AreComponents (map_of j.plan.now) j.components.now) (each_sector : length j.components.now ≡ j.plan.now.sectors) (rs : List SourceResult) (of : AreResultsOf j rs) (v : Verdicts)
    (table : DecidesTable j.plan.now rs j.components.now v.table) (listed : DecidesList rs j.components.now v.listed) (rays : DecidesRays j.plan.now rs v.rays) (trees : v.trees ≡ trees_of rs) where
  abbrev p : PlanParts
  p = j.plan.now

  abbrev ts : List Triangle
  ts = j.mesh.now.triangles

  abbrev ls : List (Option ℕ)
  ls = j.labels.now

  abbrev t : Task
  t = task_for j of.workers

  abbrev pub are : AreWalkVerdicts p j.budget v
  are = record { results = rs; components = j.components.now; walks = walks_are t rs of.results of.walked; each_sector = each_sector; connected = connected; settled = of.settled; table = table; listed = listed; rays = rays; trees = trees }

  shown : AreWalksShown p ts ls rs
  shown = walks_shown t rs of.walked

  apart : AreSetApart p ts ls v
  apart = set_apart p j.budget v are ts ls shown

  unspent : AreTreesOfUnspent p ts ls j.budget v
  unspent = trees_of_unspent p j.budget v are ts ls (walks_exact t rs of.walked)

  whole : AreWholeTrees p ts ls v.trees
  whole = subst (AreWholeTrees p ts ls) (sym trees) (whole_trees p ts ls rs shown)

  along : AreRaysAlong p ts ls v.rays
  along r c = ray_along p ts ls rs of.results (walks_through t rs of.walked) r (rays.each r c).2

  module _ (over : (us : List Triangle) (ms : List (Option ℕ)) (bound : Budget) → IsGoodMesh (map_of p) us ms → AreExact (map_of p) us ms bound rs → TellsConnected (map_of p) j.components.now → DecidesOver (map_of p) us ms bound p.sectors v.table v.listed) where
    decides : DecidesOver (map_of p) ts ls j.budget p.sectors v.table v.listed
    decides = over ts ls j.budget faces.good (walks_exact t rs of.walked) (tells_connected (map_of p) j.components.now connected)

    pub built_over : (cert : CertParts) → cert.sizes ≡ sizes_of_plan p → IsOneInOrder cert → cert.listed ≡ [] → cert.triangles ≡ labelled_of ts ls → cert.rays ≡ v.rays → cert.trees ≡ v.trees → IsBuiltOver p (faces_of_job j) j.budget (record { table = v.table; listed = v.listed; cert = cert })
    built_over cert sizes in_order no_pairs kept same_rays same_trees = record {
      sectors = table.sectors;
      sizes = sizes;
      in_order = in_order;
      no_pairs = no_pairs;
      kept = kept;
      below = λ q c. let h = (listed.exactly q).0 c in (h.order, subst (λ (n : ℕ). q.b < n) each_sector h.within);
      rays = cert_rays p j.budget v are cert same_rays;
      symmetric = both_bits_of p j.budget v are;
      diagonal = own_bit p j.budget v are;
      set = trees_of_set p plan ts ls faces.good v cert kept same_trees apart;
      trees = whole_trees_of p plan ts ls faces.good v cert kept same_trees whole;
      unspent = λ x lx none. elim (unspent x lx none) [
        | inl h ↦ inl (h.0, subst (λ (us : List Tree). Contains us h.0) (sym same_trees) h.1, h.2)
        | inr h ↦ inr h
      ];
      decides = decides;
      sight_rays = has_sight_rays p plan faces.sound.ends ts ls faces.good j.budget v are decides along cert same_rays;
      sight = tells_who_sees p plan faces.sound.ends ts ls faces.good j.budget v are decides along cert same_rays;
      full = nothing_listed p j.budget v are;
    }
