-- What the walks of all sources of a map come to.
use Rattle.std.specs.Prelude.{◌≡◌, ◌≢◌, ℕ, ◌<◌, ◌⊎◌, ◌↔◌, List, [], Option, Some, length, slice_get, Contains, true}
use Rattle.std.specs.List.{AllByRecursion}
use Rattle.sight_names.specs.declared.names.Budget.{Budget}
use Rattle.sight_names.specs.declared.names.Budget.TheVariants.{Full}
use Rattle.sight_names.specs.declared.names.Pair.{Pair}
use Rattle.sight_names.specs.declared.names.Triangle.{Triangle}
use Rattle.sight_names.specs.Map.{Map, map_of}
use Rattle.sight_names.specs.Plan.{PlanParts}
use Rattle.sight_names.specs.Found.{AreConnected, Spent}
use Rattle.face_groups.specs.TriSectors.Components.{AreComponents}
use Rattle.block_evidence.specs.declared.sight_tree.Tree.{Tree}
use Rattle.block_evidence.specs.SightTree.WholeTree.{IsWholeTree, KeepsFrom}
use Rattle.reject_bits.specs.Parts.{Rejects}
use Rattle.cert_format.specs.Parts.{CertParts}
use Rattle.cert_format.specs.Accepted.{HasRay, HasTreeWithout, IsNamed, triangles_of, labels_of}
use Rattle.cert_format.specs.Grammar.{IsOneInOrder}
use Rattle.cert_format.specs.Sizes.{sizes_of_plan}
use Rattle.pair_budget.specs.declared.results.SourceResult.{SourceResult}
use Rattle.pair_budget.specs.declared.results.Verdicts.{Verdicts}
use Rattle.pair_budget.specs.Decide.{AreResults, AreResultsSettled, DecidesTable, DecidesList, DecidesRays, trees_of}
use Rattle.pair_budget.specs.Decided.{DecidesOver}
use Rattle.pair_budget.specs.Walked.{IsOutcome}
use Rattle.pair_budget.specs.Whole.{ShowsIfComplete}
use Rattle.sight_workers.specs.declared.job.Job.{Job}
use Rattle.sight_workers.specs.Board.{task_for}
use Rattle.sight_workers.specs.Teams.{AreWalked}
use Rattle.group_job.specs.declared.walked.Built.{Built}
use Rattle.group_job.specs.declared.faces.Faces.{Faces}
use Rattle.group_job.specs.Labelled.{labelled_of}
use Rattle.group_job.specs.Sight.{HasSightRays, TellsWhoSees}

-- the walks of all sectors: each went to its end or, where there is one, to the end of its budget, or nothing was left
-- that it could find
pub record AreWalksWithin (p : PlanParts) (budget : Budget) (rs : List SourceResult) : Type 0 where
  pub results : AreResults p rs
  pub outcomes : (k : ℕ) (r : SourceResult) → slice_get rs k ≡ Some r → IsOutcome k budget true r.outcome

-- the tree of each walk that went to its end shows what that walk found
abbrev pub AreWalksShown : PlanParts → List Triangle → List (Option ℕ) → List SourceResult → Type 0
AreWalksShown p ts ls rs = AllByRecursion (λ (r : SourceResult). ShowsIfComplete p ts ls r.found r.outcome) rs

-- each of the trees is whole over the mesh
abbrev pub AreWholeTrees : PlanParts → List Triangle → List (Option ℕ) → List Tree → Type 0
AreWholeTrees p ts ls trees = AllByRecursion (λ (t : Tree). (opened : List ℕ) × IsWholeTree (map_of p) ts ls t opened) trees

-- each tree of the certificate is whole over its triangles
abbrev pub HasWholeTrees : Map → CertParts → Type 0
HasWholeTrees m c = (t : Tree) → Contains c.trees t → (opened : List ℕ) × IsWholeTree m (triangles_of c) (labels_of c) t opened

-- one of these trees is of a, and keeps from b
abbrev pub HasTreeKeepingFrom : Map → List Triangle → List (Option ℕ) → List Tree → ℕ → ℕ → Type 0
HasTreeKeepingFrom m ts ls trees a b = (t : Tree) × Contains trees t × (t.source ≡ a) × KeepsFrom m ts ls t b

-- where a bit of two sectors is set, no passable lines connect them, or the tree of one of them keeps from the other
abbrev pub AreSetApart : PlanParts → List Triangle → List (Option ℕ) → Verdicts → Type 0
AreSetApart p ts ls v = (a b : ℕ) → a < p.sectors → b < p.sectors → a ≢ b → Rejects v.table a b
    → ¬ AreConnected (map_of p) a b ⊎ (HasTreeKeepingFrom (map_of p) ts ls v.trees a b ⊎ HasTreeKeepingFrom (map_of p) ts ls v.trees b a)

-- each sector whose budget isn't spent has its tree, but for those that see all that are connected with them
abbrev pub AreTreesOfUnspent : PlanParts → List Triangle → List (Option ℕ) → Budget → Verdicts → Type 0
AreTreesOfUnspent p ts ls budget v = (a : ℕ) → a < p.sectors → ¬ Spent (map_of p) ts ls a budget
    → ((t : Tree) × Contains v.trees t × (t.source ≡ a)) ⊎ ((b : ℕ) → b < p.sectors → a ≢ b → AreConnected (map_of p) a b → ¬ Rejects v.table a b)

-- these are the results of the walks of all sources of a job, shared by some workers
pub record AreResultsOf (j : Job) (rs : List SourceResult) : Type 0 where
  pub results : AreResults j.plan.now rs
  pub workers : ℕ
  pub walked : AreWalked (task_for j workers) rs
  pub settled : AreResultsSettled rs j.components.now

-- what the walks of all sectors decide
pub record AreWalkVerdicts (p : PlanParts) (budget : Budget) (v : Verdicts) : Type 0 where
  pub results : List SourceResult
  pub components : List ℕ
  pub walks : AreWalksWithin p budget results
  pub each_sector : length components ≡ p.sectors
  pub connected : AreComponents (map_of p) components
  pub settled : AreResultsSettled results components
  pub table : DecidesTable p results components v.table
  pub listed : DecidesList results components v.listed
  pub rays : DecidesRays p results v.rays
  pub trees : v.trees ≡ trees_of results

-- ---- what a build promises of its table, its list and its certificate

-- the certificate has a ray for a pair, the smaller sector first, exactly where its bit is clear and it isn't listed
abbrev pub HasRaysOfClear : Built → Type 0
HasRaysOfClear b = (x y : ℕ) → x < y → y < b.table.n → HasRay b.cert x y ↔ (¬ Rejects b.table x y × ¬ Contains b.listed (record { a = x; b = y }))

-- the two bits of a pair are one
abbrev pub IsSymmetric : Built → Type 0
IsSymmetric b = (x y : ℕ) → x < b.table.n → y < b.table.n → Rejects b.table x y → Rejects b.table y x

-- a sector doesn't see itself exactly where no side names it
abbrev pub HasDiagonal : PlanParts → Built → Type 0
HasDiagonal p b = (x : ℕ) → x < p.sectors → Rejects b.table x x ↔ ¬ IsNamed (map_of p) x

-- where a bit of two sectors is set, no passable lines connect them, or the certificate has a tree of one of them that keeps
-- from the other
abbrev pub HasTreesOfSet : PlanParts → Built → Type 0
HasTreesOfSet p b = (x y : ℕ) → x < p.sectors → y < p.sectors → x ≢ y → Rejects b.table x y
    → ¬ AreConnected (map_of p) x y ⊎ (HasTreeWithout (map_of p) b.cert x y ⊎ HasTreeWithout (map_of p) b.cert y x)

-- the certificate has the tree of the sector
abbrev pub HasTree : Built → ℕ → Type 0
HasTree b x = (t : Tree) × Contains b.cert.trees t × (t.source ≡ x)

-- no bit is set of the sector with another one that passable lines connect with it
abbrev pub SeesConnected : PlanParts → Built → ℕ → Type 0
SeesConnected p b x = (y : ℕ) → y < p.sectors → x ≢ y → AreConnected (map_of p) x y → ¬ Rejects b.table x y

-- What is known of what the walks of all sectors within a budget come to, over the faces of a map.
pub record IsBuiltOver (p : PlanParts) (f : Faces) (budget : Budget) (b : Built) : Type 0 where
  pub sectors : b.table.n ≡ p.sectors
  pub sizes : b.cert.sizes ≡ sizes_of_plan p
  pub in_order : IsOneInOrder b.cert
  pub no_pairs : b.cert.listed ≡ []
  pub kept : b.cert.triangles ≡ labelled_of f.mesh.triangles f.labels
  pub below : (q : Pair) → Contains b.listed q → (q.a < q.b) × (q.b < p.sectors)
  pub rays : HasRaysOfClear b
  pub symmetric : IsSymmetric b
  pub diagonal : HasDiagonal p b
  pub set : HasTreesOfSet p b
  pub trees : HasWholeTrees (map_of p) b.cert
  -- each sector has its tree, but for those whose budget is spent and those that see all that are connected with them
  pub unspent : (x : ℕ) → x < p.sectors → ¬ Spent (map_of p) f.mesh.triangles f.labels x budget → HasTree b x ⊎ SeesConnected p b x
  -- the bits and the listed pairs are those that the sequences of the sources decide
  pub decides : DecidesOver (map_of p) f.mesh.triangles f.labels budget p.sectors b.table b.listed
  pub sight_rays : HasSightRays (map_of p) b.cert
  pub sight : TellsWhoSees (map_of p) b.table b.listed
  pub full : budget ≡ Full → b.listed ≡ []
