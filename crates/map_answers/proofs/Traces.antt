-- The answer of `trace`, the only one: over a mesh a ray has one trace.
use Rattle.std.proofs.Common.{◌≡◌, ◌⊎◌, inl, inr, ℕ, List, Result, Ok, Err, refl, sym, ap, ◌∙◌, subst}
use Rattle.std.specs.Prelude.{⊤}
use Rattle.sight_names.specs.declared.names.Ray.{Ray}
use Rattle.sight_names.specs.declared.faults.TraceFault.{TraceFault}
use Rattle.sight_names.specs.declared.faults.TraceFault.TheVariants as trace
use Rattle.sight_names.specs.Map.{map_of}
use Rattle.sight_names.specs.Plan.{IsPlan, PlanParts}
use Rattle.sight_ray.specs.RayTrace.Trace.{IsTrace}
use Rattle.sight_ray.proofs.RayTrace.OneTrace.{IsTraced, one_answer}
use Rattle.map_answers.specs.declared.sight_status.status.Why.TheVariants as why
use Rattle.map_answers.specs.declared.sight_status.status.Status.{Status}
use Rattle.map_answers.specs.declared.sight_status.status.Status.TheVariants as status
use Rattle.map_answers.specs.SightStatus.Answer.{Answer, GivesCalled, only_line}
use Rattle.map_answers.specs.Groups.{IsMapWithGroups, MapGroups}
use Rattle.map_answers.specs.Sound.{HasSoundLines}
use Rattle.map_answers.specs.Trace.{IsTraceRefusal, RayCallsFor, TraceCalls, places_of_groups, trace_line}
use Rattle.map_answers.proofs.Closed.{gives_called}
use Rattle.map_answers.proofs.Sounds.{IsPastAudit}

-- what is said of the answer of a trace
abbrev said : MapGroups → Result (List ℕ) TraceFault → Result Answer Status
said g (Ok passed) = Ok (only_line (trace_line g.groups (places_of_groups g.labels passed)))
said g (Err fault) = Err (status.No (why.Trace fault))

record Traced (ray : Ray) (g : MapGroups) (r : Result Answer Status) : Type 0 where
  answer : Result (List ℕ) TraceFault
  traced : IsTraced g.grouped g.triangles ray answer
  is : r ≡ said g answer

traced_of : (ray : Ray) (g : MapGroups) (r : Result Answer Status) → RayCallsFor ray g r → Traced ray g r
traced_of ray g (Ok answer) h = record { answer = Ok h.passed; traced = h.trace; is = ap (λ (x : Answer). Ok x) h.is }
traced_of ray g (Err (status.No (why.Trace (trace.Memory _)))) h = absurd h
traced_of ray g (Err (status.No (why.Trace (trace.BadRay f)))) h = record { answer = Err (trace.BadRay f); traced = h; is = refl }
traced_of ray g (Err (status.No (why.Trace (trace.HitsSolid n)))) h = record { answer = Err (trace.HitsSolid n); traced = h; is = refl }
traced_of ray g (Err (status.No (why.Trace (trace.HitsPoint n)))) h = record { answer = Err (trace.HitsPoint n); traced = h; is = refl }
traced_of ray g (Err s) h = absurd h

-- the groups of a map call for one answer
one_called : (ray : Ray) (g : MapGroups) (r : Result Answer Status) → RayCallsFor ray g r → (s : Result Answer Status) → RayCallsFor ray g s → s ≡ r
one_called ray g r h s k =
    let x = traced_of ray g r h in
    let y = traced_of ray g s k in
    y.is ∙ ap (said g) (one_answer g.grouped g.triangles ray y.answer x.answer y.traced x.traced) ∙ sym x.is

called_refusal : (ray : Ray) (g : MapGroups) (s : Status) → IsTraceRefusal g.grouped g.triangles ray s → (s ≡ status.Memory tt) ⊎ (RayCallsFor ray g (Err s) × IsPastAudit (Err s))
called_refusal ray g (status.Memory _) h = inl refl
called_refusal ray g (status.No (why.Trace (trace.Memory _))) h = absurd h
called_refusal ray g (status.No (why.Trace (trace.BadRay f))) h = inr (h, tt)
called_refusal ray g (status.No (why.Trace (trace.HitsSolid n))) h = inr (h, tt)
called_refusal ray g (status.No (why.Trace (trace.HitsPoint n))) h = inr (h, tt)
called_refusal ray g s h = absurd h

-- what the walk along the ray ends with is the one answer
pub gives_stopped : (p : PlanParts) (ray : Ray) (g : MapGroups) (s : Status) → IsPlan p → HasSoundLines (map_of p) → IsMapWithGroups (map_of p) g → IsTraceRefusal g.grouped g.triangles ray s → GivesCalled ⊤ (TraceCalls ray (map_of p)) (Err s)
gives_stopped p ray g s plan lines over h = elim (called_refusal ray g s h) as (λ _. GivesCalled ⊤ (TraceCalls ray (map_of p)) (Err s)) [
  | inl none ↦ subst (λ (x : Status). GivesCalled ⊤ (TraceCalls ray (map_of p)) (Err x)) (sym none) tt
  | inr called ↦ gives_called p plan (RayCallsFor ray) g (Err s) lines over called.0 (one_called ray g (Err s) called.0) called.1
]

-- and so is the line of a trace
pub gives_line : (p : PlanParts) (ray : Ray) (g : MapGroups) (passed places line : List ℕ) → IsPlan p → HasSoundLines (map_of p) → IsMapWithGroups (map_of p) g → IsTrace g.grouped g.triangles ray passed → places ≡ places_of_groups g.labels passed
    → line ≡ trace_line g.groups places → GivesCalled ⊤ (TraceCalls ray (map_of p)) (Ok (only_line line))
gives_line p ray g passed places line plan lines over walked named written =
    let called : RayCallsFor ray g (Ok (only_line line)) = record { passed = passed; trace = walked; is = ap only_line (written ∙ ap (trace_line g.groups) named) } in
    gives_called p plan (RayCallsFor ray) g (Ok (only_line line)) lines over called (one_called ray g (Ok (only_line line)) called) tt
