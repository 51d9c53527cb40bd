-- A status as the numbers that C reads.
use Rattle.std.specs.Prelude.{ℕ, Bool, true, false, Option, Some, None}
use Rattle.sight_names.specs.declared.names.Side.{Side}
use Rattle.sight_names.specs.declared.faults.Lump.{Lump}
use Rattle.sight_names.specs.declared.faults.Lump.TheVariants as lump
use Rattle.sight_names.specs.declared.faults.LumpFault.{LumpFault}
use Rattle.sight_names.specs.declared.faults.LumpFault.TheVariants as lumps
use Rattle.sight_names.specs.declared.faults.LineFault.TheVariants as clash
use Rattle.sight_names.specs.declared.faults.TableFault.{TableFault}
use Rattle.sight_names.specs.declared.faults.TableFault.TheVariants as table
use Rattle.sight_names.specs.declared.faults.CertFault.{CertFault}
use Rattle.sight_names.specs.declared.faults.CertFault.TheVariants as cert
use Rattle.sight_names.specs.declared.faults.MeshFault.{MeshFault}
use Rattle.sight_names.specs.declared.faults.MeshFault.TheVariants as mesh
use Rattle.sight_names.specs.declared.faults.RayFault.{RayFault}
use Rattle.sight_names.specs.declared.faults.RayFault.TheVariants as ray
use Rattle.sight_names.specs.declared.faults.CheckFault.{CheckFault}
use Rattle.sight_names.specs.declared.faults.CheckFault.TheVariants as check
use Rattle.udmf_map.specs.declared.faults.TextFault.{TextFault}
use Rattle.udmf_map.specs.declared.faults.TextFault.TheVariants as text
use Rattle.map_answers.specs.declared.sight_status.status.Bound.{Bound}
use Rattle.map_answers.specs.declared.sight_status.status.Bound.TheVariants as bound
use Rattle.map_answers.specs.declared.sight_status.status.Flaw.{Flaw}
use Rattle.map_answers.specs.declared.sight_status.status.Flaw.TheVariants as flaw
use Rattle.map_answers.specs.declared.sight_status.status.Why.{Why}
use Rattle.map_answers.specs.declared.sight_status.status.Why.TheVariants as why
use Rattle.map_answers.specs.declared.sight_status.status.Status.{Status}
use Rattle.map_answers.specs.declared.sight_status.status.Status.TheVariants as status
use Rattle.map_answers.specs.SightStatus.Status.{exit_status_of}
use Rattle.doomsight_c.specs.declared.fault.DoomsightFault.{DoomsightFault}

-- a kind with two numbers of 16 bits
abbrev pub two_numbers : ℕ → ℕ → ℕ → ℕ → DoomsightFault
two_numbers code kind a b = record { code = code; kind = kind; a = a; b = b; line = 0; left = 0; at = 0; more = 0 }

-- the numbers of a call that has done what it was asked
abbrev pub no_fault : DoomsightFault
no_fault = two_numbers 0 0 0 0

abbrev pub bit_of_bool : Bool → ℕ
bit_of_bool true = 1
bit_of_bool false = 0

-- a kind with a side
abbrev pub of_side : ℕ → ℕ → Side → DoomsightFault
of_side code kind s = record { code = code; kind = kind; a = 0; b = 0; line = s.line; left = bit_of_bool s.left; at = 0; more = 0 }

-- a kind with two sectors, and a side of a line
abbrev pub of_ray : ℕ → ℕ → ℕ → ℕ → ℕ → DoomsightFault
of_ray kind a b line left = record { code = 1; kind = kind; a = a; b = b; line = line; left = left; at = 0; more = 0 }

-- a kind with two numbers of 64 bits
abbrev pub wide : ℕ → ℕ → ℕ → ℕ → DoomsightFault
wide code kind at more = record { code = code; kind = kind; a = 0; b = 0; line = 0; left = 0; at = at; more = more }

abbrev pub lump_number : Lump → ℕ
lump_number lump.Linedefs = 0
lump_number lump.Sidedefs = 1
lump_number lump.Vertexes = 2
lump_number lump.Sectors = 3

abbrev pub lumps_view : LumpFault → DoomsightFault
lumps_view (lumps.BadSize l) = two_numbers 8 1 (lump_number l) 0
lumps_view (lumps.BadVertex k) = two_numbers 8 2 k 0
lumps_view (lumps.BadSide k) = two_numbers 8 3 k 0
lumps_view (lumps.BadSector k) = two_numbers 8 4 k 0
lumps_view other = two_numbers 8 0 0 0

abbrev pub text_view : TextFault → DoomsightFault
text_view (text.Text at) = wide 8 70 at 0
text_view (text.Namespace at) = wide 8 71 at 0
text_view (text.Value at) = wide 8 72 at 0
text_view (text.Portal line) = wide 8 73 line 0
text_view (text.OffGrid vertex) = wide 8 74 vertex 0
text_view other = two_numbers 8 0 0 0

abbrev pub bound_view : Bound → DoomsightFault
bound_view bound.Sectors = two_numbers 9 5 0 0
bound_view bound.Lines = two_numbers 9 6 0 0
bound_view bound.Points = two_numbers 9 7 0 0
bound_view bound.Vertices = two_numbers 9 75 0 0
bound_view bound.Sides = two_numbers 9 76 0 0
bound_view other = two_numbers 9 0 0 0

abbrev pub flaw_view : Flaw → DoomsightFault
flaw_view (flaw.Line (clash.Cross i j)) = two_numbers 10 8 i j
flaw_view (flaw.Line (clash.Touch i j)) = two_numbers 10 9 i j
flaw_view (flaw.Line (clash.Overlap i j)) = two_numbers 10 10 i j
flaw_view (flaw.Open side) = of_side 10 11 side

abbrev pub table_view : TableFault → DoomsightFault
table_view (table.WrongLength found expected) = wide 1 20 found expected
table_view (table.Memory _) = two_numbers 1 0 0 0

abbrev pub cert_view : CertFault → DoomsightFault
cert_view cert.BadMagic = two_numbers 1 21 0 0
cert_view cert.BadVersion = two_numbers 1 22 0 0
cert_view (cert.Short at) = wide 1 23 at 0
cert_view (cert.OutOfRange at) = wide 1 24 at 0
cert_view (cert.NotSorted at) = wide 1 25 at 0
cert_view (cert.Trailing at) = wide 1 26 at 0
cert_view (cert.Memory _) = two_numbers 1 0 0 0

abbrev pub mesh_view : MeshFault → DoomsightFault
mesh_view (mesh.Flat t) = two_numbers 1 30 t 0
mesh_view (mesh.Twice t) = two_numbers 1 31 t 0
mesh_view (mesh.NoMate t) = two_numbers 1 32 t 0
mesh_view (mesh.NoTriangle side) = of_side 1 33 side
mesh_view (mesh.Meets t k) = two_numbers 1 34 t k
mesh_view (mesh.Inside t p) = two_numbers 1 35 t p

abbrev pub ray_view : ℕ → ℕ → Option RayFault → DoomsightFault
ray_view a b None = of_ray 40 a b 0 0
ray_view a b (Some ray.Range) = of_ray 41 a b 0 0
ray_view a b (Some (ray.BadSide s)) = of_ray 42 a b s.line (bit_of_bool s.left)
ray_view a b (Some (ray.NotSplit k)) = of_ray 43 a b k 0
ray_view a b (Some (ray.WrongWay k)) = of_ray 44 a b k 0
ray_view a b (Some ray.Backwards) = of_ray 45 a b 0 0
ray_view a b (Some (ray.Blocked k)) = of_ray 46 a b k 0

abbrev pub check_view : CheckFault → DoomsightFault
check_view (check.Mesh f) = mesh_view f
check_view (check.Ray a b f) = ray_view a b f
check_view (check.Tree source node) = record { code = 1; kind = 50; a = source; b = 0; line = 0; left = 0; at = node; more = 0 }
check_view (check.ListedSet a b) = two_numbers 1 51 a b
check_view (check.Unproved a b) = two_numbers 1 52 a b
check_view (check.Uncovered a b) = two_numbers 1 53 a b

abbrev pub no_view : Why → DoomsightFault
no_view (why.Table f) = table_view f
no_view (why.Cert f) = cert_view f
no_view (why.Check f) = check_view f
no_view (why.Group t) = two_numbers 1 54 t 0
no_view (why.Unused g) = two_numbers 1 55 g 0
no_view (why.NoSector k) = two_numbers 1 56 k 0
no_view other = two_numbers 1 0 0 0

-- the numbers of a refusal of the library
abbrev pub fault_view : Status → DoomsightFault
fault_view (status.No w) = no_view w
fault_view (status.BadLump f) = lumps_view f
fault_view (status.BadText f) = text_view f
fault_view (status.Limit b) = bound_view b
fault_view (status.BadMap f) = flaw_view f
fault_view other = two_numbers (exit_status_of other) 0 0 0
