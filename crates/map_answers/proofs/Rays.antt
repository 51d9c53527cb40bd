-- The answer of `ray`, the only one.
use Rattle.std.proofs.Common.{◌≡◌, ℕ, Result, Ok, Err, sym, ◌∙◌, ap, subst}
use Rattle.std.specs.Prelude.{⊤}
use Rattle.sight_names.specs.declared.names.Ray.{Ray}
use Rattle.sight_names.specs.declared.faults.RayFault.{RayFault}
use Rattle.sight_names.specs.Map.{Map}
use Rattle.sight_names.specs.Ray.{IsSightRay}
use Rattle.sight_ray.specs.RayFault.{IsRayFault}
use Rattle.map_answers.specs.declared.sight_status.status.Why.TheVariants as why
use Rattle.map_answers.specs.declared.sight_status.status.Status.{Status}
use Rattle.map_answers.specs.declared.sight_status.status.Status.TheVariants as status
use Rattle.map_answers.specs.SightStatus.Answer.{Answer, IsTheAnswer}
use Rattle.map_answers.specs.Ray.{RayCalls}

-- an Ok is no Err
abbrev IsAnOk : {A B : Type 0} → Result A B → Type 0
IsAnOk (Ok x) = Unit {0}
IsAnOk (Err e) = ⊥

clash : {A B : Type 0} (r : Result A B) (x : A) (e : B) → r ≡ Ok x → r ≡ Err e → ⊥
clash r x e ok err = subst IsAnOk (sym ok ∙ err) tt

-- ---- rays

abbrev Judged : Type 0
Judged = Result (ℕ × ℕ) RayFault

abbrev as_no : Judged → Result Answer Status
as_no (Ok p) = Err (status.Memory tt)
as_no (Err fault) = Err (status.No (why.Ray fault))

-- what the exact test of a ray promises
pub record IsExact (m : Map) (ray : Ray) (r : Judged) : Type 0 where
  pub sight : (a b : ℕ) → IsSightRay m ray a b → r ≡ Ok (a, b)
  pub fault : (f : RayFault) → IsRayFault m ray f → r ≡ Err f

other_fault : (m : Map) (ray : Ray) (r : Judged) (f : RayFault) → IsExact m ray r → r ≡ Err f → (other : Result Answer Status) → RayCalls ray m other → other ≡ Err (status.No (why.Ray f))
other_fault m ray r f exact is (Ok answer) q = absurd (clash r (q.from, q.to) f (exact.sight q.from q.to q.sight) is)
other_fault m ray r f exact is (Err (status.No (why.Ray g))) q = ap as_no (sym (exact.fault g q) ∙ is)
other_fault m ray r f exact is (Err s) q = absurd q

pub fault_is_the_answer : (m : Map) (ray : Ray) (r : Judged) (f : RayFault) → IsExact m ray r → IsRayFault m ray f → IsTheAnswer ⊤ (RayCalls ray m) (Err (status.No (why.Ray f)))
fault_is_the_answer m ray r f exact fault = record { called = fault; only = λ sole. other_fault m ray r f exact (exact.fault f fault) }
