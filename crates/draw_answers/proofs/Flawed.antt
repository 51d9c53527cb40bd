-- The first fault of a map is the only one, and so is what is drawn of it.
use Rattle.std.proofs.Common.{◌≡◌, ℕ, List, Option, Some, None, Result, Ok, Err, refl, sym, ap, ◌∙◌, subst}
use Rattle.std.specs.Prelude.{IfOk, ⊤}
use Rattle.sight_names.specs.declared.names.Memory.{Memory}
use Rattle.sight_names.specs.Groups.{HasClosedFaces}
use Rattle.sight_names.specs.Map.{Map, map_of}
use Rattle.sight_names.specs.Plan.{IsPlan, PlanParts}
use Rattle.map_answers.specs.declared.sight_status.status.Flaw.{Flaw}
use Rattle.map_answers.specs.declared.sight_status.status.Flaw.TheVariants as flaw
use Rattle.map_answers.specs.declared.sight_status.status.Status.{Status}
use Rattle.map_answers.specs.declared.sight_status.status.Status.TheVariants as status
use Rattle.map_answers.specs.SightStatus.Answer.{Answer, GivesCalled}
use Rattle.map_answers.specs.Groups.{IsMapWithGroups, MapGroups}
use Rattle.map_answers.specs.Sound.{HasSoundLines, IsAuditRefusal, IsFlaw}
use Rattle.map_answers.proofs.Flaws.{gives_refused}
use Rattle.map_answers.proofs.OneGroups.{one_groups}
use Rattle.map_picture.specs.Picture.{NamedParts}
use Rattle.draw_answers.specs.declared.drawn.Drawn.{Drawn}
use Rattle.draw_answers.specs.Drawn.{Drawing, IsMadeOf, drawing, drawn_answer, one_picture}
use Rattle.draw_answers.specs.Faults.{AreMarksOf, DrawFaultsCalls, DrawsFault, IsAuditFaultOf, ShowsFlaw, flaw_drawing, plain_drawing}
use Rattle.fault_marks.specs.declared.marks.FaultMarks.{FaultMarks}
use Rattle.fault_marks.proofs.OneMarks.{one_of_clashes, one_of_open_faces}

abbrev flaw_or : Flaw → Result Answer Status → Flaw
flaw_or f (Err (status.BadMap g)) = g
flaw_or f r = f

module _ (m : Map) where
  is_refused : (which : Flaw) → IsAuditRefusal m (status.BadMap which) → IsFlaw m (Err (status.BadMap which))
  is_refused which h = (gives_refused m ⊤ (status.BadMap which) h).called

  only_flaw : (which other : Flaw) → IsAuditRefusal m (status.BadMap which) → IsFlaw m (Err (status.BadMap other)) → other ≡ which
  only_flaw which other h q = ap (flaw_or which) ((gives_refused m ⊤ (status.BadMap which) h).only tt (Err (status.BadMap other)) q)

  not_closed : (which : Flaw) → IsAuditRefusal m (status.BadMap which) → HasClosedFaces m → ⊥
  not_closed (flaw.Line f) h q = h.clash q.ends
  not_closed (flaw.Open side) h q = h.1.against (q.closed side)

  not_flawed : (which : Flaw) → HasSoundLines m → HasClosedFaces m → IsFlaw m (Err (status.BadMap which)) → ⊥
  not_flawed (flaw.Line f) lines h q = lines.none f q
  not_flawed (flaw.Open side) lines h q = q.1.against (h.closed side)

  one_marks : (which : Flaw) (x y : FaultMarks) → IsAuditRefusal m (status.BadMap which) → AreMarksOf m which x → AreMarksOf m which y → x ≡ y
  one_marks (flaw.Line fault) x y refused h k = one_of_clashes m x y h k
  one_marks (flaw.Open side) x y refused h k = one_of_open_faces m x y refused.0.meet h k

  module _ (name : NamedParts) (out : List ℕ) where
    abbrev Given : Result Drawn Status → Type 0
    Given s = GivesCalled ⊤ (DrawFaultsCalls name out m) (drawn_answer out s)

    -- one drawing is called for, and this is it
    module _ (d : Drawing) (fault : Option Flaw) (first : IsAuditFaultOf m fault) (draws : DrawsFault name m fault d) (one : (o : Option Flaw) (e : Drawing) → IsAuditFaultOf m o → DrawsFault name m o e → e ≡ d) where
      only_drawn : (x : Result Answer Status) → DrawFaultsCalls name out m x → x ≡ Ok (one_picture out d)
      only_drawn (Ok answer) q = ap (λ (y : Answer). Ok y) (q.is ∙ ap (λ (e : Drawing). one_picture out e) (one q.fault q.shown q.first q.draws))
      only_drawn (Err s) q = absurd q

      drawn : (e : Drawn) → drawing e ≡ d → Given (Ok e)
      drawn e is = subst (λ (x : Drawing). GivesCalled ⊤ (DrawFaultsCalls name out m) (Ok (one_picture out x))) (sym is)
          (record { called = record { fault = fault; first = first; shown = d; draws = draws; is = refl }; only = λ sole. only_drawn })

      gives_drawn : (r : Result Drawn Memory) (s : Result Drawn Status) → IfOk r (λ e. drawing e ≡ d) → IsMadeOf r s → Given s
      gives_drawn (Ok e) s is made = subst Given (sym made) (drawn e is)
      gives_drawn (Err x) s is made = subst Given (sym made) tt

    one_flaw : (which : Flaw) → IsAuditRefusal m (status.BadMap which) → (d : Drawing) → ShowsFlaw name m which d → (o : Option Flaw) (e : Drawing) → IsAuditFaultOf m o → DrawsFault name m o e → e ≡ d
    one_flaw which h d shown (Some other) e first draws =
        let x : ShowsFlaw name m which e = subst (λ (f : Flaw). ShowsFlaw name m f e) (only_flaw which other h first) draws in
        x.is ∙ ap (λ (y : FaultMarks). flaw_drawing name m which y) (one_marks which x.marks shown.marks h x.are shown.are) ∙ sym shown.is
    one_flaw which h d shown None e first draws = absurd (not_closed which h first)

    pub gives_flaw : (which : Flaw) → IsAuditRefusal m (status.BadMap which) → (r : Result Drawn Memory) (s : Result Drawn Status) → IfOk r (λ e. ShowsFlaw name m which (drawing e)) → IsMadeOf r s → Given s
    gives_flaw which h (Ok e) s shown made = gives_drawn (drawing e) (Some which) (is_refused which h) shown (one_flaw which h (drawing e) shown) (Ok e) s refl made
    gives_flaw which h (Err x) s shown made = subst Given (sym made) tt

module _ (p : PlanParts) (plan : IsPlan p) (name : NamedParts) (out : List ℕ) (g : MapGroups) (lines : HasSoundLines (map_of p)) (over : IsMapWithGroups (map_of p) g) where
  one_plain : (o : Option Flaw) (e : Drawing) → IsAuditFaultOf (map_of p) o → DrawsFault name (map_of p) o e → e ≡ plain_drawing name (map_of p) g
  one_plain (Some which) e first draws = absurd (not_flawed (map_of p) which lines over.faces first)
  one_plain None e first draws = draws.is ∙ ap (λ (x : MapGroups). plain_drawing name (map_of p) x) (one_groups p plan g draws.groups over draws.over)

  pub gives_plain : (r : Result Drawn Memory) (s : Result Drawn Status) → IfOk r (λ e. drawing e ≡ plain_drawing name (map_of p) g) → IsMadeOf r s → Given (map_of p) name out s
  gives_plain r s is made = gives_drawn (map_of p) name out (plain_drawing name (map_of p) g) None over.faces (record { groups = g; over = over; is = refl }) one_plain r s is made
