-- The faults of a map as C reads them.
use Rattle.std.specs.Prelude.{◌≡◌, ℕ, List, [], ◌∷◌, Option, Some, None, slice_get, slice_index_or, option_and_then, min, length, take, drop, ⊤}
use Rattle.sight_names.specs.declared.faults.LineFault.{LineFault}
use Rattle.sight_names.specs.declared.faults.LineFault.TheVariants as clash
use Rattle.sight_names.specs.declared.names.Pt.{Pt}
use Rattle.sight_names.specs.declared.names.Side.{Side}
use Rattle.sight_names.specs.declared.plan.Line.{Line}
use Rattle.sight_names.specs.Plan.{PlanParts}
use Rattle.sight_names.specs.Map.{map_of, origin}
use Rattle.map_audit.specs.Audit.{IsLineFaultOf}
use Rattle.map_faults.specs.declared.clashes.LinePair.{LinePair}
use Rattle.map_faults.specs.declared.gaps.Gap.{Gap}
use Rattle.map_faults.specs.declared.loose_ends.LooseEnd.{LooseEnd}
use Rattle.map_faults.specs.declared.tears.Tear.{Tear}
use Rattle.map_faults.specs.Corners.{AreCornersOf}
use Rattle.doomsight_c.specs.declared.flaw.DoomsightFlaw.{DoomsightFlaw}
use Rattle.doomsight_c.specs.Faults.{bit_of_bool}

-- a kind with two records, a side of the first, and a segment
abbrev pub flaw_of : ℕ → ℕ → ℕ → ℕ → Pt → Pt → DoomsightFlaw
flaw_of kind i j left from to = record { kind = kind; i = i; j = j; left = left; x = from.x; y = from.y; to_x = to.x; to_y = to.y }

-- the point with this number; the origin where there is none
abbrev pub point_of_plan : PlanParts → ℕ → Pt
point_of_plan p k = slice_index_or p.points k origin

-- an end of the record's line; the origin where it has no line
abbrev pub end_in : PlanParts → (Line → ℕ) → Option Line → Pt
end_in p end None = origin
end_in p end (Some line) = point_of_plan p (end line)

abbrev pub line_in : PlanParts → ℕ → Option Line
line_in p i = option_and_then (λ l. l) (slice_get p.lines i)

abbrev pub start_of : PlanParts → ℕ → Pt
start_of p i = end_in p (λ l. l.a) (line_in p i)

abbrev pub stop_of : PlanParts → ℕ → Pt
stop_of p i = end_in p (λ l. l.b) (line_in p i)

-- ---- one flaw of each kind

abbrev pub kind_of_clash : LineFault → ℕ
kind_of_clash (clash.Cross i j) = 8
kind_of_clash (clash.Touch i j) = 9
kind_of_clash (clash.Overlap i j) = 10

-- two lines that clash, at their common point; where they are parallel, along the first
abbrev pub clash_at : PlanParts → LinePair → ℕ → Option Pt → DoomsightFlaw
clash_at p pair kind (Some corner) = flaw_of kind pair.i pair.j 0 corner corner
clash_at p pair kind None = flaw_of kind pair.i pair.j 0 (start_of p pair.i) (stop_of p pair.i)

pub record TellsClash (p : PlanParts) (pair : LinePair) (f : DoomsightFlaw) : Type 0 where
  pub fault : LineFault
  pub is_fault : IsLineFaultOf (map_of p) pair.i pair.j fault
  pub corner : Option Pt
  pub is_corner : AreCornersOf (map_of p) pair.i pair.j corner
  pub is : f ≡ clash_at p pair (kind_of_clash fault) corner

-- the point at which just this line ends
abbrev pub loose_view : PlanParts → LooseEnd → DoomsightFlaw
loose_view p e = flaw_of 60 e.line 0 0 (point_of_plan p e.point) (point_of_plan p e.point)

-- an open side, along its line
abbrev pub side_view : PlanParts → Side → DoomsightFlaw
side_view p s = flaw_of 11 s.line 0 (bit_of_bool s.left) (start_of p s.line) (stop_of p s.line)

-- a torn corner: its side and its point, and where the edge goes to which one turns there
abbrev pub tear_view : PlanParts → Tear → DoomsightFlaw
tear_view p t = flaw_of 61 t.side.line 0 (bit_of_bool t.side.left) (point_of_plan p t.point) (point_of_plan p t.to)

-- a gap, from one end to the other
abbrev pub gap_view : PlanParts → Gap → DoomsightFlaw
gap_view p g = flaw_of 62 0 0 0 (point_of_plan p g.from) (point_of_plan p g.to)

-- ---- lists of them

-- each of these is told by the flaw at its place, and there are no others
abbrev pub TellEach : (LinePair → DoomsightFlaw → Type 0) → List LinePair → List DoomsightFlaw → Type 0
TellEach Tells [] [] = ⊤
TellEach Tells (x ∷ xs) (f ∷ fs) = Tells x f × TellEach Tells xs fs
TellEach Tells other others = ⊥

-- the front of them stands at the front of the buffer, as far as both go; what is behind it there stays
pub record PutsFront (all before after : List DoomsightFlaw) : Type 0 where
  pub front : take (min (length before) (length all)) after ≡ take (min (length before) (length all)) all
  pub rest : drop (min (length before) (length all)) after ≡ drop (min (length before) (length all)) before
