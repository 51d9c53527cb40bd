-- What was drawn is the one answer of a sound map, where its groups call for one.
use Rattle.std.proofs.Common.{◌≡◌, ℕ, List, Result, Ok, Err, sym, subst}
use Rattle.std.specs.Prelude.{IfOk, ⊤}
use Rattle.sight_names.specs.declared.names.Memory.{Memory}
use Rattle.sight_names.specs.Map.{map_of}
use Rattle.sight_names.specs.Plan.{IsPlan, PlanParts}
use Rattle.map_answers.specs.declared.sight_status.status.Status.{Status}
use Rattle.map_answers.specs.SightStatus.Answer.{Answer, GivesCalled}
use Rattle.map_answers.specs.Groups.{IsMapWithGroups, MapGroups, OnAudited}
use Rattle.map_answers.specs.Sound.{HasSoundLines}
use Rattle.map_answers.proofs.Closed.{gives_called}
use Rattle.draw_answers.specs.declared.drawn.Drawn.{Drawn}
use Rattle.draw_answers.specs.Drawn.{Drawing, IsMadeOf, drawing, drawn_answer, one_picture}

module _ (p : PlanParts) (plan : IsPlan p) (Called : MapGroups → Result Answer Status → Type 0) (out : List ℕ) (g : MapGroups) (lines : HasSoundLines (map_of p)) (over : IsMapWithGroups (map_of p) g) (d : Drawing)
    (called : Called g (Ok (one_picture out d))) (one : (x : Result Answer Status) → Called g x → x ≡ Ok (one_picture out d)) where
  abbrev Given : Result Drawn Status → Type 0
  Given s = GivesCalled ⊤ (OnAudited (map_of p) Called) (drawn_answer out s)

  drawn : (e : Drawn) → drawing e ≡ d → Given (Ok e)
  drawn e is = subst (λ (x : Drawing). GivesCalled ⊤ (OnAudited (map_of p) Called) (Ok (one_picture out x))) (sym is) (gives_called p plan Called g (Ok (one_picture out d)) lines over called one tt)

  pub gives_made : (r : Result Drawn Memory) (s : Result Drawn Status) → IfOk r (λ e. drawing e ≡ d) → IsMadeOf r s → Given s
  gives_made (Ok e) s is made = subst Given (sym made) (drawn e is)
  gives_made (Err m) s is made = subst Given (sym made) tt
