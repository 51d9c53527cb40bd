-- What the order `trace` says of a map that was found. It writes nothing.
use Rattle.std.specs.Prelude.{◌≡◌, ℕ, List, [], ◌∷◌, ◌++◌, Bool, false, ◌==◌, filter_map, Option, Some, None, Result, Ok, Err, codes, slice_index_or, if◌then◌else◌, ⊤}
use Rattle.std.specs.Fmt.{decimal}
use Rattle.std.specs.List.{flat_map}
use Rattle.sight_names.specs.declared.names.Ray.{Ray}
use Rattle.sight_names.specs.declared.names.Triangle.{Triangle}
use Rattle.sight_names.specs.declared.faults.TraceFault.TheVariants as trace
use Rattle.sight_names.specs.Map.{Map}
use Rattle.sight_names.specs.Mesh.{label_of}
use Rattle.sight_ray.specs.RayTrace.Trace.{IsTrace, IsTraceFault}
use Rattle.map_answers.specs.declared.sight_status.status.Why.TheVariants as why
use Rattle.map_answers.specs.declared.sight_status.status.Status.{Status}
use Rattle.map_answers.specs.declared.sight_status.status.Status.TheVariants as status
use Rattle.map_answers.specs.SightStatus.Answer.{Answer, only_line}
use Rattle.map_answers.specs.Groups.{MapGroups, OnAudited}

abbrev pub is_last : Option ℕ → ℕ → Bool
is_last None a = false
is_last (Some last) a = last == a

-- the list without each entry that is the one before it, the first one's being `last`
abbrev pub changes : Option ℕ → List ℕ → List ℕ
changes last [] = []
changes last (a ∷ rest) = if is_last last a then changes last rest else a ∷ changes (Some a) rest

abbrev pub plus_word : ℕ → List ℕ
plus_word a = codes "+" ++ decimal a

-- the sectors of a group, joined by plus signs
abbrev pub group_text : List ℕ → List ℕ
group_text [] = []
group_text (a ∷ rest) = decimal a ++ flat_map plus_word rest

-- the group at this place
abbrev pub group_word_at : List (List ℕ) → ℕ → List ℕ
group_word_at groups k = codes " " ++ group_text (slice_index_or groups k [])

-- the groups at these places one after the other, equal neighbours once
abbrev pub trace_line : List (List ℕ) → List ℕ → List ℕ
trace_line groups places = codes "trace" ++ flat_map (group_word_at groups) (changes None places) ++ codes "\n"

-- the places of the groups of these triangles
abbrev pub places_of_groups : List (Option ℕ) → List ℕ → List ℕ
places_of_groups labels passed = filter_map (label_of labels) passed

-- on the map of groups the ray passes these triangles, and the line names their groups
pub record ShowsTrace (ray : Ray) (g : MapGroups) (answer : Answer) : Type 0 where
  pub passed : List ℕ
  pub trace : IsTrace g.grouped g.triangles ray passed
  pub is : answer ≡ only_line (trace_line g.groups (places_of_groups g.labels passed))

-- the answers that the groups of a map call for: the trace, or what the ray comes to first
abbrev pub RayCallsFor : Ray → MapGroups → Result Answer Status → Type 0
RayCallsFor ray g (Ok answer) = ShowsTrace ray g answer
RayCallsFor ray g (Err (status.No (why.Trace (trace.Memory _)))) = ⊥
RayCallsFor ray g (Err (status.No (why.Trace fault))) = IsTraceFault g.grouped g.triangles ray fault
RayCallsFor ray g (Err other) = ⊥

-- what the walk along the ray can end with
abbrev pub IsTraceRefusal : Map → List Triangle → Ray → Status → Type 0
IsTraceRefusal m ts ray (status.No (why.Trace (trace.Memory _))) = ⊥
IsTraceRefusal m ts ray (status.No (why.Trace fault)) = IsTraceFault m ts ray fault
IsTraceRefusal m ts ray (status.Memory _) = ⊤
IsTraceRefusal m ts ray other = ⊥

-- the answers that `trace` calls for
abbrev pub TraceCalls : Ray → Map → Result Answer Status → Type 0
TraceCalls ray m answer = OnAudited m (RayCallsFor ray) answer
