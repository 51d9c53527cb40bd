-- The first two lines of a map that share more than an end of both.
use Rattle.std.specs.Prelude.{◌≡◌, ℕ, ◌<◌, ◌≤◌, List, Option, Some, None, length, slice_index_or}
use Rattle.sight_names.specs.declared.faults.LineFault.{LineFault}
use Rattle.sight_names.specs.declared.faults.LineFault.TheVariants.{Cross, Touch, Overlap}
use Rattle.sight_names.specs.Map.{Map, MapLine, line_at}
use Rattle.sight_names.specs.Sound.{MeetAtEnds}
use Rattle.geom_exact.specs.declared.line_spans.Span.{Span}
use Rattle.geom_exact.specs.declared.Relation.{Relation}
use Rattle.geom_exact.specs.declared.Relation.TheVariants.{Apart, Ends, Cross as Crossing, Touch as Touching, Overlap as Overlapping}
use Rattle.geom_exact.specs.Common.{IsRelation}

-- two lines share at most an end of both
abbrev pub AreFine : MapLine → MapLine → Type 0
AreFine k l = MeetAtEnds k.first k.second l.first l.second

-- so do the lines with these two record numbers, where there are two such lines
abbrev pub FineAt : Map → ℕ → ℕ → Type 0
FineAt m i j = (k l : MapLine) → line_at m i ≡ Some k → line_at m j ≡ Some l → AreFine k l

-- so do record i and each later one before record n
abbrev pub FineBelow : Map → ℕ → ℕ → Type 0
FineBelow m i n = (j : ℕ) → j < n → i < j → FineAt m i j

-- so do each record before i and all later ones
abbrev pub FineBefore : Map → ℕ → Type 0
FineBefore m i = (h : ℕ) → h < i → (j : ℕ) → h < j → FineAt m h j

-- so do record i and each record whose span stands at place n or later
abbrev pub FineFrom : Map → ℕ → List Span → ℕ → Type 0
FineFrom m i ss n = (k : ℕ) (d : Span) → n ≤ k → k < length ss → FineAt m i (slice_index_or ss k d).line

-- two lines have this in common
abbrev pub AreRelated : MapLine → MapLine → Relation → Type 0
AreRelated k l relation = IsRelation k.first k.second l.first l.second relation

-- the lines with these two record numbers have this in common
pub record AreLinesWith (m : Map) (i j : ℕ) (relation : Relation) : Type 0 where
  pub one : MapLine
  pub is_one : line_at m i ≡ Some one
  pub other : MapLine
  pub is_other : line_at m j ≡ Some other
  pub related : AreRelated one other relation

-- and all pairs before this one, by the first number and then the second, are fine
pub record IsFirstPair (m : Map) (i j : ℕ) (relation : Relation) : Type 0 where
  pub ordered : i < j
  pub pair : AreLinesWith m i j relation
  pub earlier : FineBefore m i
  pub between : FineBelow m i j

-- the fault names the first pair of lines that share more than an end of both, and says what they share
abbrev pub IsLineFault : Map → LineFault → Type 0
IsLineFault m (Cross i j) = IsFirstPair m i j Crossing
IsLineFault m (Touch i j) = IsFirstPair m i j Touching
IsLineFault m (Overlap i j) = IsFirstPair m i j Overlapping

-- the fault of a pair of records by what their lines have in common: none where they are apart or share just an end of both
abbrev pub fault_by : ℕ → ℕ → Relation → Option LineFault
fault_by i j Apart = None
fault_by i j Ends = None
fault_by i j Touching = Some (Touch i j)
fault_by i j Crossing = Some (Cross i j)
fault_by i j Overlapping = Some (Overlap i j)

-- the fault of this pair of records
pub record IsLineFaultOf (m : Map) (i j : ℕ) (fault : LineFault) : Type 0 where
  pub relation : Relation
  pub pair : AreLinesWith m i j relation
  pub named : fault_by i j relation ≡ Some fault
