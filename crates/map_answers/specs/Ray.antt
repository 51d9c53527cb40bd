-- What the order `ray` says of a map that was found. It writes nothing.
use Rattle.std.specs.Prelude.{◌≡◌, ℕ, List, ◌++◌, Result, Ok, Err, codes}
use Rattle.sight_names.specs.declared.names.Ray.{Ray}
use Rattle.sight_names.specs.Map.{Map}
use Rattle.sight_names.specs.Ray.{IsSightRay}
use Rattle.sight_ray.specs.RayFault.{IsRayFault}
use Rattle.map_answers.specs.declared.sight_status.status.Why.TheVariants as why
use Rattle.map_answers.specs.declared.sight_status.status.Status.{Status}
use Rattle.map_answers.specs.declared.sight_status.status.Status.TheVariants as status
use Rattle.map_answers.specs.SightStatus.Answer.{Answer, only_line}
use Rattle.map_answers.specs.SightStatus.Texts.{two}

abbrev pub sight_line : ℕ → ℕ → List ℕ
sight_line a b = codes "sight " ++ two a b ++ codes "\n"

-- the ray is a sight ray from one sector to another, and the line names the two
pub record ShowsSightOfRay (m : Map) (ray : Ray) (answer : Answer) : Type 0 where
  pub from : ℕ
  pub to : ℕ
  pub sight : IsSightRay m ray from to
  pub is : answer ≡ only_line (sight_line from to)

-- the answer that `ray` calls for: the sight, or the first condition that fails
abbrev pub RayCalls : Ray → Map → Result Answer Status → Type 0
RayCalls ray m (Ok answer) = ShowsSightOfRay m ray answer
RayCalls ray m (Err (status.No (why.Ray fault))) = IsRayFault m ray fault
RayCalls ray m (Err other) = ⊥
