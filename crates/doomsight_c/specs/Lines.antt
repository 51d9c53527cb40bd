-- A fault as C holds it, back as a status, and the line that tells it.
use Rattle.std.specs.Prelude.{◌≡◌, ◌<◌, ◌≤◌, ◌+◌, ◌⊎◌, ℕ, List, Option, Some, None, ◌==◌, if◌then◌else◌, length, take, drop, slice_index_or, ⊤}
use Rattle.sight_names.specs.declared.names.Side.{Side}
use Rattle.sight_names.specs.declared.faults.Lump.{Lump}
use Rattle.sight_names.specs.declared.faults.Lump.TheVariants as lump
use Rattle.sight_names.specs.declared.faults.LumpFault.TheVariants as lumps
use Rattle.sight_names.specs.declared.faults.LineFault.TheVariants as clash
use Rattle.sight_names.specs.declared.faults.TableFault.TheVariants as table
use Rattle.sight_names.specs.declared.faults.CertFault.TheVariants as cert
use Rattle.sight_names.specs.declared.faults.MeshFault.TheVariants as mesh
use Rattle.sight_names.specs.declared.faults.RayFault.{RayFault}
use Rattle.sight_names.specs.declared.faults.RayFault.TheVariants as ray
use Rattle.sight_names.specs.declared.faults.CheckFault.TheVariants as check
use Rattle.udmf_map.specs.declared.faults.TextFault.TheVariants as text
use Rattle.map_answers.specs.declared.sight_status.status.Bound.TheVariants as bound
use Rattle.map_answers.specs.declared.sight_status.status.Flaw.TheVariants as flaw
use Rattle.map_answers.specs.declared.sight_status.status.Why.{Why}
use Rattle.map_answers.specs.declared.sight_status.status.Why.TheVariants as why
use Rattle.map_answers.specs.declared.sight_status.status.Status.{Status}
use Rattle.map_answers.specs.declared.sight_status.status.Status.TheVariants as status
use Rattle.doomsight_c.specs.declared.fault.DoomsightFault.{DoomsightFault}

abbrev pub side_in : DoomsightFault → Side
side_in f = record { line = f.line; left = f.left == 1 }

abbrev pub lump_in : ℕ → Lump
lump_in n = if n == 0 then lump.Linedefs else if n == 1 then lump.Sidedefs else if n == 2 then lump.Vertexes else lump.Sectors

abbrev pub text_in : DoomsightFault → Status
text_in f =
    if f.kind == 70 then status.BadText (text.Text f.at)
    else if f.kind == 71 then status.BadText (text.Namespace f.at)
    else if f.kind == 72 then status.BadText (text.Value f.at)
    else if f.kind == 73 then status.BadText (text.Portal f.at)
    else if f.kind == 74 then status.BadText (text.OffGrid f.at)
    else status.Usage

abbrev pub lumps_in : DoomsightFault → Status
lumps_in f =
    if f.kind == 1 then status.BadLump (lumps.BadSize (lump_in f.a))
    else if f.kind == 2 then status.BadLump (lumps.BadVertex f.a)
    else if f.kind == 3 then status.BadLump (lumps.BadSide f.a)
    else if f.kind == 4 then status.BadLump (lumps.BadSector f.a)
    else text_in f

abbrev pub bound_in : DoomsightFault → Status
bound_in f =
    if f.kind == 5 then status.Limit bound.Sectors
    else if f.kind == 6 then status.Limit bound.Lines
    else if f.kind == 7 then status.Limit bound.Points
    else if f.kind == 75 then status.Limit bound.Vertices
    else if f.kind == 76 then status.Limit bound.Sides
    else status.Usage

abbrev pub flaw_in : DoomsightFault → Status
flaw_in f =
    if f.kind == 8 then status.BadMap (flaw.Line (clash.Cross f.a f.b))
    else if f.kind == 9 then status.BadMap (flaw.Line (clash.Touch f.a f.b))
    else if f.kind == 10 then status.BadMap (flaw.Line (clash.Overlap f.a f.b))
    else if f.kind == 11 then status.BadMap (flaw.Open (side_in f))
    else status.Usage

abbrev pub cert_in : DoomsightFault → Status
cert_in f =
    if f.kind == 21 then status.No (why.Cert cert.BadMagic)
    else if f.kind == 22 then status.No (why.Cert cert.BadVersion)
    else if f.kind == 23 then status.No (why.Cert (cert.Short f.at))
    else if f.kind == 24 then status.No (why.Cert (cert.OutOfRange f.at))
    else if f.kind == 25 then status.No (why.Cert (cert.NotSorted f.at))
    else if f.kind == 26 then status.No (why.Cert (cert.Trailing f.at))
    else status.Usage

abbrev pub mesh_in : DoomsightFault → Status
mesh_in f =
    if f.kind == 30 then status.No (why.Check (check.Mesh (mesh.Flat f.a)))
    else if f.kind == 31 then status.No (why.Check (check.Mesh (mesh.Twice f.a)))
    else if f.kind == 32 then status.No (why.Check (check.Mesh (mesh.NoMate f.a)))
    else if f.kind == 33 then status.No (why.Check (check.Mesh (mesh.NoTriangle (side_in f))))
    else if f.kind == 34 then status.No (why.Check (check.Mesh (mesh.Meets f.a f.b)))
    else if f.kind == 35 then status.No (why.Check (check.Mesh (mesh.Inside f.a f.b)))
    else cert_in f

abbrev pub ray_of : DoomsightFault → Option RayFault → Status
ray_of f w = status.No (why.Check (check.Ray f.a f.b w))

abbrev pub ray_in : DoomsightFault → Status
ray_in f =
    if f.kind == 40 then ray_of f None
    else if f.kind == 41 then ray_of f (Some ray.Range)
    else if f.kind == 42 then ray_of f (Some (ray.BadSide (side_in f)))
    else if f.kind == 43 then ray_of f (Some (ray.NotSplit f.line))
    else if f.kind == 44 then ray_of f (Some (ray.WrongWay f.line))
    else if f.kind == 45 then ray_of f (Some ray.Backwards)
    else if f.kind == 46 then ray_of f (Some (ray.Blocked f.line))
    else mesh_in f

abbrev pub pair_in : DoomsightFault → Status
pair_in f =
    if f.kind == 51 then status.No (why.Check (check.ListedSet f.a f.b))
    else if f.kind == 52 then status.No (why.Check (check.Unproved f.a f.b))
    else if f.kind == 53 then status.No (why.Check (check.Uncovered f.a f.b))
    else ray_in f

abbrev pub no_in : DoomsightFault → Status
no_in f =
    if f.kind == 20 then status.No (why.Table (table.WrongLength f.at f.more))
    else if f.kind == 50 then status.No (why.Check (check.Tree f.a f.at))
    else if f.kind == 54 then status.No (why.Group f.a)
    else if f.kind == 55 then status.No (why.Unused f.a)
    else if f.kind == 56 then status.No (why.NoSector f.a)
    else pair_in f

-- the status of the numbers of a fault; usage where they are none of the library's
abbrev pub status_in : DoomsightFault → Status
status_in f =
    if f.code == 8 then lumps_in f
    else if f.code == 9 then bound_in f
    else if f.code == 10 then flaw_in f
    else if f.code == 12 then status.Memory tt
    else if f.code == 1 then no_in f
    else status.Usage

-- a refusal that a call of the library can end with
abbrev pub IsReasonOf : Why → Type 0
IsReasonOf (why.Table (table.WrongLength a b)) = ⊤
IsReasonOf (why.Cert (cert.Memory _)) = ⊥
IsReasonOf (why.Cert f) = ⊤
IsReasonOf (why.Check f) = ⊤
IsReasonOf (why.Group t) = ⊤
IsReasonOf (why.Unused g) = ⊤
IsReasonOf (why.NoSector k) = ⊤
IsReasonOf other = ⊥

abbrev pub IsOfLibrary : Status → Type 0
IsOfLibrary (status.No w) = IsReasonOf w
IsOfLibrary (status.BadLump (lumps.BadSize l)) = ⊤
IsOfLibrary (status.BadLump (lumps.BadVertex k)) = ⊤
IsOfLibrary (status.BadLump (lumps.BadSide k)) = ⊤
IsOfLibrary (status.BadLump (lumps.BadSector k)) = ⊤
IsOfLibrary (status.Limit bound.Sectors) = ⊤
IsOfLibrary (status.Limit bound.Lines) = ⊤
IsOfLibrary (status.BadText (text.Text at)) = ⊤
IsOfLibrary (status.BadText (text.Namespace at)) = ⊤
IsOfLibrary (status.BadText (text.Value at)) = ⊤
IsOfLibrary (status.BadText (text.Portal line)) = ⊤
IsOfLibrary (status.BadText (text.OffGrid vertex)) = ⊤
IsOfLibrary (status.Limit bound.Points) = ⊤
IsOfLibrary (status.Limit bound.Vertices) = ⊤
IsOfLibrary (status.Limit bound.Sides) = ⊤
IsOfLibrary (status.BadMap f) = ⊤
IsOfLibrary (status.Memory _) = ⊤
IsOfLibrary status.Usage = ⊤
IsOfLibrary other = ⊥

-- The text stands at the front of the buffer with a zero behind it, where there is room for both, and what is behind that stays;
-- else nothing was written. The number is the length of the text.
pub record PutsText (text before after : List ℕ) (len : ℕ) : Type 0 where
  pub size : len ≡ length text
  pub put : length text < length before → (take len after ≡ text) × (slice_index_or after len 1 ≡ 0) × (drop (len + 1) after ≡ drop (len + 1) before)
  pub kept : length before ≤ length text → after ≡ before

-- the text was put, or there was no memory to make it
abbrev pub TellsText : List ℕ → List ℕ → List ℕ → ℕ → Type 0
TellsText text before after len = ((len ≡ 18446744073709551615) × (after ≡ before)) ⊎ PutsText text before after len
