-- The answer for two sectors from what is known of their groups.
use Rattle.std.proofs.Common.{ℕ, ◌<◌, List, sym, subst, refl}
use Rattle.std.proofs.lemmas.Option.{slice_get_within}
use Rattle.sight_names.specs.declared.names.Ask.{Ask}
use Rattle.sight_names.specs.declared.names.Ask.TheVariants.{Of as AskOf, Full as AskFull, Enough}
use Rattle.sight_names.specs.declared.names.Budget.{Budget}
use Rattle.sight_names.specs.declared.names.Budget.TheVariants.{Of, Full}
use Rattle.sight_names.specs.declared.names.Pair.{Pair}
use Rattle.sight_names.specs.declared.names.Triangle.{Triangle}
use Rattle.sight_names.specs.Enough.{IsBudgetOf, enough_of}
use Rattle.sight_names.specs.Map.{Map, map_of}
use Rattle.sight_names.specs.Mesh.{IsGoodMesh, IsMeshOf}
use Rattle.sight_names.specs.Plan.{PlanParts, IsPlan}
use Rattle.sight_names.specs.Sound.{LinesMeetAtEnds}
use Rattle.mesh_shape.specs.Shape.{MeshParts}
use Rattle.face_groups.specs.declared.grouping.Grouped.{Grouped}
use Rattle.face_groups.proofs.GroupsBase.SamePoints.{mesh_alike}
use Rattle.group_job.specs.Built.{WalkedMap}
use Rattle.pair_answer.specs.declared.answer.PairAnswer.{PairAnswer}
use Rattle.pair_answer.specs.declared.answer.PairAnswer.TheVariants as answer
use Rattle.pair_answer.specs.Answer.{AnswersPair, AreGroupsOverShape, IsAnswerFor}
use Rattle.pair_answer.specs.Between.{AreApart, IsAnswerBetween}
use Rattle.pair_answer.specs.Numbers.{AreBelow}
use Rattle.pair_answer.specs.Places.{ArePlacesOf, ShareOne}
use Rattle.pair_answer.proofs.Sectors.{answers, good, sound}

-- a map with a mesh has a budget that is asked for
some_budget : (m : Map) (ts : List Triangle) → IsMeshOf m ts → (ask : Ask) → (b : Budget) × IsBudgetOf m ask b
some_budget m ts mesh (AskOf n) = (Of n, refl)
some_budget m ts mesh AskFull = (Full, refl)
some_budget m ts mesh Enough = (Of (enough_of m ts), (ts, mesh, refl))

module _ (p : PlanParts) (plan : IsPlan p) (shape : MeshParts) (g : Grouped) (over : AreGroupsOverShape p shape g) (ask : Ask) where
  pub own_mesh : IsMeshOf (map_of g.plan) shape.triangles
  own_mesh = mesh_alike (map_of p) (map_of g.plan) over.grouped.lines shape.triangles over.mesh

  abbrev walked : (budget : Budget) → IsBudgetOf (map_of g.plan) ask budget → WalkedMap (map_of p) ask g.groups
  walked budget is = record { g = map_of g.plan; grouped = over.grouped; triangles = shape.triangles; labels = g.labels; mesh = own_mesh; labelled = over.labelled; budget = budget; is_budget = is }

  abbrev any : WalkedMap (map_of p) ask g.groups
  any = let b = some_budget (map_of g.plan) shape.triangles own_mesh ask in walked b.0 b.1

  pub good_groups : IsGoodMesh (map_of g.plan) shape.triangles g.labels
  good_groups = good p plan over.faces ask g.groups over.groups any

  pub ends_of_groups : LinesMeetAtEnds (map_of g.plan)
  ends_of_groups = (sound p plan over.faces ask g.groups over.groups any).ends

  pub places_below : (a : ℕ) (fs : List ℕ) → ArePlacesOf g.groups a fs → AreBelow g.plan.sectors fs
  places_below a fs are f c = let h = (are f).0 c in subst (λ (n : ℕ). f < n) (sym over.grouped.sectors) (slice_get_within g.groups f h.0 h.1)

  module _ (pair : Pair) (first : pair.a < p.sectors) (second : pair.b < p.sectors) (from to : List ℕ) (of_a : ArePlacesOf g.groups pair.a from) (of_b : ArePlacesOf g.groups pair.b to) where
    pub touches : ShareOne from to → IsAnswerFor (map_of p) ask pair answer.Touch
    touches (f, ha, hb) = record { first = first; second = second; groups = g.groups; are_groups = over.groups; walked = any; is = (f, (of_a f).0 ha, (of_b f).0 hb) }

    pub apart : ¬ ShareOne from to → AreApart from to
    apart none f ha hb = none (f, ha, hb)

    pub answered : ¬ ShareOne from to → (budget : Budget) → IsBudgetOf (map_of g.plan) ask budget → (given : PairAnswer) → IsAnswerBetween (map_of g.plan) shape.triangles g.labels budget from to given → IsAnswerFor (map_of p) ask pair given
    answered none budget is given h = go given h
      where
        by : (x : PairAnswer) → IsAnswerBetween (map_of g.plan) shape.triangles g.labels budget from to x → AnswersPair (map_of p) ask pair x
        by x k = record {
          first = first;
          second = second;
          groups = g.groups;
          are_groups = over.groups;
          walked = walked budget is;
          is = answers p plan over.faces ask g.groups over.groups (walked budget is) pair.a pair.b from to of_a of_b (apart none) x k;
        }

        go : (x : PairAnswer) → IsAnswerBetween (map_of g.plan) shape.triangles g.labels budget from to x → IsAnswerFor (map_of p) ask pair x
        go (answer.Sight ray) k = by (answer.Sight ray) k
        go answer.Blind k = by answer.Blind k
        go answer.Touch k = by answer.Touch k
        go answer.Listed k = by answer.Listed k
        go (answer.NoSector n) k = absurd k
