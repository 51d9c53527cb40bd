-- There is one map of groups, with one mesh, one list of labels and one budget that is asked for. So what holds over one holds over each.
use Rattle.std.proofs.Common.{◌≡◌, ℕ, sym, ap, ◌∙◌, subst, List, Option}
use Rattle.sight_names.specs.declared.names.Ask.{Ask}
use Rattle.sight_names.specs.declared.names.Ask.TheVariants.{Of as AskOf, Full as AskFull, Enough}
use Rattle.sight_names.specs.declared.names.Budget.{Budget}
use Rattle.sight_names.specs.declared.names.Budget.TheVariants.{Of}
use Rattle.sight_names.specs.declared.names.Triangle.{Triangle}
use Rattle.sight_names.specs.Map.{Map}
use Rattle.sight_names.specs.Sound.{NamesAgree}
use Rattle.sight_names.specs.Mesh.{IsMeshOf, AreLabelsOf}
use Rattle.sight_names.specs.Enough.{IsBudgetOf, enough_of}
use Rattle.sight_names.specs.Groups.{AreGroups, IsGroupedMap}
use Rattle.sight_names.proofs.OneMesh.{one_mesh, one_labels}
use Rattle.sight_lift.proofs.EnoughBase.SameLines.{enough_same}
use Rattle.face_groups.proofs.GroupsBase.GroupLaws.{HasLists}
use Rattle.face_groups.proofs.GroupsBase.OneGrouped.{one_grouped}
use Rattle.face_groups.proofs.GroupsBase.SamePoints.{mesh_alike}
use Rattle.group_job.specs.Built.{WalkedMap}

pub same_budget : (g : Map) (ask : Ask) (b c : Budget) → IsBudgetOf g ask b → IsBudgetOf g ask c → b ≡ c
same_budget g (AskOf n) b c h k = h ∙ sym k
same_budget g AskFull b c h k = h ∙ sym k
same_budget g Enough b c h k = h.2 ∙ (ap (λ (ts : List Triangle). Of (enough_of g ts)) (one_mesh g h.0 k.0 h.1 k.1) ∙ sym k.2)

-- the budget that is asked for over the map of groups is the one over the map
pub budget_of_map : (m : Map) (groups : List (List ℕ)) (g : Map) → IsGroupedMap m groups g → (ask : Ask) (b : Budget) → IsBudgetOf g ask b → IsBudgetOf m ask b
budget_of_map m groups g is (AskOf n) b h = h
budget_of_map m groups g is AskFull b h = h
budget_of_map m groups g is Enough b h = (h.0, mesh_alike g m (sym is.lines) h.0 h.1, h.2 ∙ ap (λ (n : ℕ). Of n) (enough_same g m is.lines h.0))

pub moved : (m : Map) (ask : Ask) (groups : List (List ℕ)) → AreGroups m groups → HasLists m → ((g : Map) → IsGroupedMap m groups g → NamesAgree g)
    → (P : Map → List Triangle → List (Option ℕ) → Budget → Type 0) (v w : WalkedMap m ask groups) → P v.g v.triangles v.labels v.budget → P w.g w.triangles w.labels w.budget
moved m ask groups are lists agree P v w x =
    let eg : v.g ≡ w.g = one_grouped m groups are lists v.g w.g v.grouped w.grouped in
    let et : v.triangles ≡ w.triangles = one_mesh w.g v.triangles w.triangles (subst (λ (g : Map). IsMeshOf g v.triangles) eg v.mesh) w.mesh in
    let theirs : AreLabelsOf w.g w.triangles v.labels = subst (λ (ts : List Triangle). AreLabelsOf w.g ts v.labels) et (subst (λ (g : Map). AreLabelsOf g v.triangles v.labels) eg v.labelled) in
    let el : v.labels ≡ w.labels = one_labels w.g w.triangles v.labels w.labels (agree w.g w.grouped) w.mesh theirs w.labelled in
    let eb : v.budget ≡ w.budget = same_budget w.g ask v.budget w.budget (subst (λ (g : Map). IsBudgetOf g ask v.budget) eg v.is_budget) w.is_budget in
    subst (λ (b : Budget). P w.g w.triangles w.labels b) eb
    (subst (λ (ls : List (Option ℕ)). P w.g w.triangles ls v.budget) el
    (subst (λ (ts : List Triangle). P w.g ts v.labels v.budget) et
    (subst (λ (g : Map). P g v.triangles v.labels v.budget) eg x)))
