-- What an answer for two sectors tells of them, and of their place in the list of a build.
use Rattle.std.proofs.Common.{◌≡◌, ◌⊎◌, ◌↔◌, inl, inr, ℕ, List, refl, sym, subst}
use Rattle.sight_names.specs.declared.names.Ask.{Ask}
use Rattle.sight_names.specs.declared.names.Ask.TheVariants.{Of as AskOf, Full as AskFull, Enough}
use Rattle.sight_names.specs.declared.names.Budget.{Budget}
use Rattle.sight_names.specs.declared.names.Pair.{Pair}
use Rattle.sight_names.specs.declared.names.Ray.{Ray}
use Rattle.sight_names.specs.Enough.{IsBudgetOf}
use Rattle.sight_names.specs.Groups.{AreGroups, HasClosedFaces, IsListedByGroups}
use Rattle.sight_names.specs.Map.{Map, map_of}
use Rattle.sight_names.specs.Mesh.{IsMeshOf}
use Rattle.sight_names.specs.Plan.{IsPlan, PlanParts}
use Rattle.sight_lift.proofs.EnoughBase.SameLines.{groups_list_none}
use Rattle.face_groups.proofs.GroupsBase.Listing.{IsListedOfGroups}
use Rattle.face_groups.proofs.GroupsBase.OneGrouped.{listed_is as listed_by_groups}
use Rattle.face_groups.proofs.GroupsBase.SamePoints.{mesh_alike}
use Rattle.triangulate.proofs.GroupLaws.WholeLaws.{each_has_list}
use Rattle.group_job.specs.Built.{WalkedMap}
use Rattle.group_job.proofs.OneWalk.{budget_of_map}
use Rattle.pair_answer.specs.declared.answer.PairAnswer.{PairAnswer}
use Rattle.pair_answer.specs.declared.answer.PairAnswer.TheVariants as answer
use Rattle.pair_answer.specs.Answer.{AnswersPair, AreTouching, IsAnswerFor, IsAnswerOver, IsMissing, IsRayOfGroups}
use Rattle.pair_answer.proofs.Sectors.{sound, tells}
use Rattle.run_laws.specs.Pairs.{DecidesPair, TellsPairOfSectors}

-- the first number of the pair that is of no sector, or what is told of the pair
abbrev pub DecidesSectors : Map → Ask → Pair → PairAnswer → Type 0
DecidesSectors m ask pair (answer.NoSector k) = IsMissing m pair k
DecidesSectors m ask pair given = DecidesPair m ask pair given

module _ (p : PlanParts) (plan : IsPlan p) (faces : HasClosedFaces (map_of p)) (ask : Ask) (groups : List (List ℕ)) (are : AreGroups (map_of p) groups) (w : WalkedMap (map_of p) ask groups) (a b : ℕ) where
  mesh : IsMeshOf (map_of p) w.triangles
  mesh = mesh_alike w.g (map_of p) (sym w.grouped.lines) w.triangles w.mesh

  listed_is : IsListedByGroups (map_of p) w.budget a b ↔ IsListedOfGroups groups w.g w.triangles w.labels w.budget a b
  listed_is = listed_by_groups (map_of p) groups are (each_has_list p plan faces w.triangles mesh) w.g w.grouped (sound p plan faces ask groups are w).agree w.triangles w.labels w.mesh w.labelled w.budget a b

  -- what is found isn't listed
  unlisted_found : (ray : Ray) → IsRayOfGroups (map_of p) ask groups w a b ray → ¬ IsListedByGroups (map_of p) w.budget a b
  unlisted_found ray r l = let n = (listed_is.0 l).none r.f r.k r.from r.to in elim r.found as (λ _. ⊥) [ inl h ↦ n.1 h | inr h ↦ n.2 h ]

  unlisted_touching : AreTouching groups a b → ¬ IsListedByGroups (map_of p) w.budget a b
  unlisted_touching (f, ha, hb) l = ((listed_is.0 l).none f f ha hb).0 refl

  decides : (given : PairAnswer) → IsAnswerOver (map_of p) ask groups w a b given → TellsPairOfSectors (map_of p) w.budget (record { a = a; b = b }) given
  decides (answer.Sight ray) h = (tells p plan faces ask groups are w a b (answer.Sight ray) h, unlisted_found ray h.1)
  decides answer.Blind h = h
  decides answer.Touch h = (tells p plan faces ask groups are w a b answer.Touch h, unlisted_touching h)
  decides answer.Listed h = h
  decides (answer.NoSector k) h = absurd h

-- a budget that is enough, and none, leave nothing open
none_left : (m : Map) (ask : Ask) (budget : Budget) → (ask ≡ Enough) ⊎ (ask ≡ AskFull) → IsBudgetOf m ask budget → (a b : ℕ) → ¬ IsListedByGroups m budget a b
none_left m (AskOf n) budget (inl e) h a b l = absurd cc
none_left m (AskOf n) budget (inr e) h a b l = absurd cc
none_left m AskFull budget all h a b l = (subst (λ (x : Budget). IsListedByGroups m x a b) h l).some.4.spent
none_left m Enough budget all h a b l = groups_list_none m h.0 h.1 a b (subst (λ (x : Budget). IsListedByGroups m x a b) h.2 l)

pub answers_decide : (p : PlanParts) (ask : Ask) (pair : Pair) (given : PairAnswer) → IsPlan p → HasClosedFaces (map_of p) → IsAnswerFor (map_of p) ask pair given → DecidesSectors (map_of p) ask pair given
answers_decide p ask pair given plan faces h = go given h
  where
    by : (x : PairAnswer) → AnswersPair (map_of p) ask pair x → DecidesPair (map_of p) ask pair x
    by x k =
        let of_map : IsBudgetOf (map_of p) ask k.walked.budget = budget_of_map (map_of p) k.groups k.walked.g k.walked.grouped ask k.walked.budget k.walked.is_budget in
        let told : TellsPairOfSectors (map_of p) k.walked.budget pair x = decides p plan faces ask k.groups k.are_groups k.walked pair.a pair.b x k.is in
        record {
          first = k.first;
          second = k.second;
          budget = k.walked.budget;
          is_budget = of_map;
          tells = told;
          told = λ all e. none_left (map_of p) ask k.walked.budget all of_map pair.a pair.b (subst (λ (y : PairAnswer). TellsPairOfSectors (map_of p) k.walked.budget pair y) e told);
        }

    go : (x : PairAnswer) → IsAnswerFor (map_of p) ask pair x → DecidesSectors (map_of p) ask pair x
    go (answer.Sight ray) k = by (answer.Sight ray) k
    go answer.Blind k = by answer.Blind k
    go answer.Touch k = by answer.Touch k
    go answer.Listed k = by answer.Listed k
    go (answer.NoSector n) k = k
