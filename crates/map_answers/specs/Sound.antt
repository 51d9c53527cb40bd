-- What the audit of a map says: of its lines, and then of the faces between them.
use Rattle.std.specs.Prelude.{◌≡◌, Result, Err, ⊤}
use Rattle.sight_names.specs.declared.faults.LineFault.{LineFault}
use Rattle.sight_names.specs.declared.names.Side.{Side}
use Rattle.sight_names.specs.Map.{Map}
use Rattle.sight_names.specs.Sound.{LinesMeetAtEnds}
use Rattle.map_audit.specs.Audit.{IsLineFault}
use Rattle.mesh_shape.specs.Faults.{IsFirstSideAgainst}
use Rattle.face_groups.specs.TriSectors.Verdict.{IsClosedSide}
use Rattle.map_answers.specs.declared.sight_status.status.Flaw.TheVariants as flaw
use Rattle.map_answers.specs.declared.sight_status.status.Status.{Status}
use Rattle.map_answers.specs.declared.sight_status.status.Status.TheVariants as status
use Rattle.map_answers.specs.SightStatus.Answer.{Answer}

-- the first pair of lines that share more than an end of both refuses the map; where there is none, the answer is another
abbrev pub OnSoundLines : Map → (Result Answer Status → Type 0) → Result Answer Status → Type 0
OnSoundLines m Called (Err (status.BadMap (flaw.Line fault))) = IsLineFault m fault
OnSoundLines m Called answer = LinesMeetAtEnds m × Called answer

-- this is the least side that names a sector and from which a path leads outside the hull
abbrev pub HasOpenSide : Map → Side → Type 0
HasOpenSide m side = IsFirstSideAgainst (IsClosedSide m) side

-- what refuses a map: a fault of its lines, or else its least open side
abbrev pub IsFlaw : Map → Result Answer Status → Type 0
IsFlaw m (Err (status.BadMap (flaw.Line fault))) = IsLineFault m fault
IsFlaw m (Err (status.BadMap (flaw.Open side))) = LinesMeetAtEnds m × HasOpenSide m side
IsFlaw m answer = ⊥

-- ---- parts of the audit

-- the map has no fault of lines
pub record HasSoundLines (m : Map) : Type 0 where
  pub meet : LinesMeetAtEnds m
  pub none : (fault : LineFault) → ¬ IsLineFault m fault

-- this is its fault of lines
pub record HasLineFault (m : Map) (fault : LineFault) : Type 0 where
  pub is : IsLineFault m fault
  pub only : (other : LineFault) → IsLineFault m other → other ≡ fault
  pub clash : ¬ LinesMeetAtEnds m

-- what the test of the lines can end with
abbrev pub IsLineRefusal : Map → Status → Type 0
IsLineRefusal m (status.BadMap (flaw.Line fault)) = HasLineFault m fault
IsLineRefusal m other = ⊥

-- what the whole audit can end with
abbrev pub IsAuditRefusal : Map → Status → Type 0
IsAuditRefusal m (status.BadMap (flaw.Line fault)) = HasLineFault m fault
IsAuditRefusal m (status.BadMap (flaw.Open side)) = HasSoundLines m × HasOpenSide m side
IsAuditRefusal m (status.Memory _) = ⊤
IsAuditRefusal m other = ⊥
