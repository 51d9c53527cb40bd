-- The answers of the whole audit of a map whose faces may have several names: a flaw is the only one, and over the map's groups there is only one.
use Rattle.std.proofs.Common.{◌≡◌, Result, Ok, Err, ap, subst}
use Rattle.std.specs.Prelude.{⊤}
use Rattle.sight_names.specs.declared.names.Side.{Side}
use Rattle.sight_names.specs.Map.{Map, map_of}
use Rattle.sight_names.specs.Plan.{IsPlan, PlanParts}
use Rattle.map_answers.specs.declared.sight_status.status.Flaw.TheVariants as flaw
use Rattle.map_answers.specs.declared.sight_status.status.Status.{Status}
use Rattle.map_answers.specs.declared.sight_status.status.Status.TheVariants as status
use Rattle.map_answers.specs.SightStatus.Answer.{Answer, GivesCalled}
use Rattle.map_answers.specs.Groups.{HasGroupsCalled, IsMapWithGroups, MapGroups, OnAudited, OnClosed}
use Rattle.map_answers.specs.Sound.{HasOpenSide, HasSoundLines, IsAuditRefusal}
use Rattle.map_answers.proofs.Flaws.{one_side}
use Rattle.map_answers.proofs.OneGroups.{one_groups}
use Rattle.map_answers.proofs.Sounds.{IsPastAudit, gives_line_fault}

only_open : (m : Map) (Called : MapGroups → Result Answer Status → Type 0) (side : Side) → HasSoundLines m → HasOpenSide m side → (other : Result Answer Status) → OnAudited m Called other → other ≡ Err (status.BadMap (flaw.Open side))
only_open m Called side lines h (Ok answer) q = absurd (h.against (q.1.over.faces.closed side))
only_open m Called side lines h (Err (status.BadMap (flaw.Line f))) q = absurd (lines.none f q)
only_open m Called side lines h (Err (status.BadMap (flaw.Open t))) q = ap (λ x. Err (status.BadMap (flaw.Open x))) (one_side _ side t h q.1)
only_open m Called side lines h (Err s) q = absurd (h.against (q.1.over.faces.closed side))

-- the refusal of an audit is the one answer
pub gives_flaw : (m : Map) (Sole : Type 0) (Called : MapGroups → Result Answer Status → Type 0) (s : Status) → IsAuditRefusal m s → GivesCalled Sole (OnAudited m Called) (Err s)
gives_flaw m Sole Called (status.BadMap (flaw.Line f)) h = gives_line_fault m Sole (OnClosed m Called) f h
gives_flaw m Sole Called (status.BadMap (flaw.Open side)) h = record { called = (h.0.meet, h.1); only = λ sole. only_open m Called side h.0 h.1 }
gives_flaw m Sole Called (status.Memory _) h = tt
gives_flaw m Sole Called s h = absurd h

on_audited : (m : Map) (Called : MapGroups → Result Answer Status → Type 0) (r : Result Answer Status) → HasSoundLines m → HasGroupsCalled m Called r → IsPastAudit r → OnAudited m Called r
on_audited m Called (Ok answer) lines h past = (lines.meet, h)
on_audited m Called (Err (status.BadMap f)) lines h past = absurd past
on_audited m Called (Err s) lines h past = (lines.meet, h)

module _ (p : PlanParts) (plan : IsPlan p) (Called : MapGroups → Result Answer Status → Type 0) (g : MapGroups) (r : Result Answer Status) (lines : HasSoundLines (map_of p)) (over : IsMapWithGroups (map_of p) g)
    (one : (s : Result Answer Status) → Called g s → s ≡ r) where
  called_here : (s : Result Answer Status) → HasGroupsCalled (map_of p) Called s → s ≡ r
  called_here s h = one s (subst (λ (x : MapGroups). Called x s) (one_groups p plan g h.groups over h.over) h.called)

  only_called : (other : Result Answer Status) → OnAudited (map_of p) Called other → other ≡ r
  only_called (Ok answer) q = called_here (Ok answer) q.1
  only_called (Err (status.BadMap (flaw.Line f))) q = absurd (lines.none f q)
  only_called (Err (status.BadMap (flaw.Open side))) q = absurd (q.1.against (over.faces.closed side))
  only_called (Err s) q = called_here (Err s) q.1

-- where the groups of a map call for one answer, it is the only one
pub gives_called : (p : PlanParts) → IsPlan p → (Called : MapGroups → Result Answer Status → Type 0) (g : MapGroups) (r : Result Answer Status) → HasSoundLines (map_of p) → IsMapWithGroups (map_of p) g → Called g r
    → ((s : Result Answer Status) → Called g s → s ≡ r) → IsPastAudit r → GivesCalled ⊤ (OnAudited (map_of p) Called) r
gives_called p plan Called g (Err (status.Memory _)) lines over h one past = tt
gives_called p plan Called g (Err (status.ReadFault k)) lines over h one past = tt
gives_called p plan Called g r lines over h one past = record {
  called = on_audited (map_of p) Called r lines (record { groups = g; over = over; called = h }) past;
  only = λ sole. only_called p plan Called g r lines over one;
}
