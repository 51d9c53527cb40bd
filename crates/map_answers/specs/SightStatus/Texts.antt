-- The line that each refusal puts.
use Rattle.std.specs.Prelude.{ℕ, List, [], ◌++◌, Option, Some, None, codes}
use Rattle.std.specs.Fmt.{decimal}
use Rattle.sight_names.specs.declared.faults.Lump.{Lump}
use Rattle.sight_names.specs.declared.faults.WadFault.{WadFault}
use Rattle.sight_names.specs.declared.faults.WadFault.TheVariants as wad
use Rattle.sight_names.specs.declared.faults.MapFault.{MapFault}
use Rattle.sight_names.specs.declared.faults.MapFault.TheVariants as map
use Rattle.sight_names.specs.declared.faults.LumpFault.{LumpFault}
use Rattle.sight_names.specs.declared.faults.LumpFault.TheVariants as lump
use Rattle.sight_names.specs.declared.faults.LineFault.{LineFault}
use Rattle.sight_names.specs.declared.faults.LineFault.TheVariants as line
use Rattle.sight_names.specs.declared.faults.RayFault.{RayFault}
use Rattle.sight_names.specs.declared.faults.RayFault.TheVariants as ray
use Rattle.sight_names.specs.declared.faults.TraceFault.{TraceFault}
use Rattle.sight_names.specs.declared.faults.TraceFault.TheVariants as trace
use Rattle.sight_names.specs.declared.faults.TableFault.{TableFault}
use Rattle.sight_names.specs.declared.faults.TableFault.TheVariants as table
use Rattle.sight_names.specs.declared.faults.CertFault.{CertFault}
use Rattle.sight_names.specs.declared.faults.CertFault.TheVariants as cert
use Rattle.sight_names.specs.declared.faults.MeshFault.{MeshFault}
use Rattle.sight_names.specs.declared.faults.MeshFault.TheVariants as mesh
use Rattle.sight_names.specs.declared.faults.CheckFault.{CheckFault}
use Rattle.sight_names.specs.declared.faults.CheckFault.TheVariants as check
use Rattle.sight_names.specs.Texts.{lump_text, side_text}
use Rattle.map_answers.specs.declared.sight_status.status.Role.{Role}
use Rattle.map_answers.specs.declared.sight_status.status.Role.TheVariants as role
use Rattle.udmf_map.specs.declared.faults.TextFault.{TextFault}
use Rattle.udmf_map.specs.declared.faults.TextFault.TheVariants as text
use Rattle.map_answers.specs.declared.sight_status.status.Bound.{Bound}
use Rattle.map_answers.specs.declared.sight_status.status.Bound.TheVariants as bound
use Rattle.map_answers.specs.declared.sight_status.status.Flaw.{Flaw}
use Rattle.map_answers.specs.declared.sight_status.status.Flaw.TheVariants as flaw
use Rattle.map_answers.specs.declared.sight_status.status.Why.{Why}
use Rattle.map_answers.specs.declared.sight_status.status.Why.TheVariants as why
use Rattle.map_answers.specs.declared.sight_status.status.Status.{Status}
use Rattle.map_answers.specs.declared.sight_status.status.Status.TheVariants as status

-- two numbers with a blank between them
abbrev pub two : ℕ → ℕ → List ℕ
two i j = decimal i ++ codes " " ++ decimal j

abbrev pub role_words : Role → List ℕ
role_words role.Wad = codes "wad\n"
role_words role.Cert = codes "cert\n"
role_words role.Report = codes "report\n"
role_words role.Picture = codes "picture\n"
role_words role.Text = codes "text\n"

abbrev pub lump_words : Lump → List ℕ
lump_words lump = lump_text lump ++ codes "\n"

abbrev pub bound_words : Bound → List ℕ
bound_words bound.WadBytes = codes "wad bytes\n"
bound_words bound.CertBytes = codes "cert bytes\n"
bound_words bound.Lumps = codes "lumps\n"
bound_words bound.Lines = codes "lines\n"
bound_words bound.Points = codes "points\n"
bound_words bound.Sectors = codes "sectors\n"
bound_words bound.Vertices = codes "vertices\n"
bound_words bound.Sides = codes "sides\n"
bound_words bound.OutputBytes = codes "output bytes\n"

abbrev pub wad_words : WadFault → List ℕ
wad_words wad.ShortHeader = codes "short header\n"
wad_words wad.BadMagic = codes "bad magic\n"
wad_words wad.BadCount = codes "bad count\n"
wad_words wad.TooManyLumps = codes "lumps\n"
wad_words wad.DirectoryOutside = codes "directory outside\n"
wad_words (wad.LumpOutside entry) = codes "lump outside " ++ decimal entry ++ codes "\n"
wad_words (wad.Memory _) = codes "memory\n"

abbrev pub map_words : MapFault → List ℕ
map_words map.NoMarker = codes "no marker\n"
map_words (map.Missing lump) = codes "missing " ++ lump_words lump
map_words map.NoEnd = codes "missing ENDMAP\n"

abbrev pub lumps_words : LumpFault → List ℕ
lumps_words (lump.BadSize lump) = codes "size " ++ lump_words lump
lumps_words (lump.TooManySectors count) = codes "sectors\n"
lumps_words (lump.TooManyLines count) = codes "lines\n"
lumps_words (lump.BadVertex line) = codes "vertex of line " ++ decimal line ++ codes "\n"
lumps_words (lump.BadSide line) = codes "side of line " ++ decimal line ++ codes "\n"
lumps_words (lump.BadSector side) = codes "sector of side " ++ decimal side ++ codes "\n"
lumps_words (lump.TooManyPoints count) = codes "points\n"
lumps_words (lump.Memory _) = codes "memory\n"

abbrev pub texts_words : TextFault → List ℕ
texts_words (text.Text at) = codes "text " ++ decimal at ++ codes "\n"
texts_words (text.Namespace at) = codes "namespace " ++ decimal at ++ codes "\n"
texts_words (text.Value at) = codes "value " ++ decimal at ++ codes "\n"
texts_words (text.TooManyVertices count) = codes "vertices\n"
texts_words (text.TooManySides count) = codes "sides\n"
texts_words (text.Portal line) = codes "portal of line " ++ decimal line ++ codes "\n"
texts_words (text.OffGrid vertex) = codes "coordinate of vertex " ++ decimal vertex ++ codes "\n"
texts_words (text.Memory _) = codes "memory\n"

abbrev pub clash_words : LineFault → List ℕ
clash_words (line.Cross i j) = codes "cross " ++ two i j ++ codes "\n"
clash_words (line.Touch i j) = codes "touch " ++ two i j ++ codes "\n"
clash_words (line.Overlap i j) = codes "overlap " ++ two i j ++ codes "\n"

abbrev pub flaw_words : Flaw → List ℕ
flaw_words (flaw.Line fault) = clash_words fault
flaw_words (flaw.Open side) = codes "open " ++ side_text side ++ codes "\n"

abbrev pub ray_fault_words : RayFault → List ℕ
ray_fault_words ray.Range = codes "range\n"
ray_fault_words (ray.BadSide side) = codes "side " ++ side_text side ++ codes "\n"
ray_fault_words (ray.NotSplit line) = codes "not split " ++ decimal line ++ codes "\n"
ray_fault_words (ray.WrongWay line) = codes "wrong way " ++ decimal line ++ codes "\n"
ray_fault_words ray.Backwards = codes "backwards\n"
ray_fault_words (ray.Blocked line) = codes "blocked " ++ decimal line ++ codes "\n"

abbrev pub trace_words : TraceFault → List ℕ
trace_words (trace.BadRay fault) = codes "no ray: " ++ ray_fault_words fault
trace_words (trace.HitsSolid line) = codes "no trace: solid " ++ decimal line ++ codes "\n"
trace_words (trace.HitsPoint point) = codes "no trace: point " ++ decimal point ++ codes "\n"
trace_words (trace.Memory _) = codes "no trace: memory\n"

abbrev pub table_words : TableFault → List ℕ
table_words (table.WrongLength found expected) = codes "no table: " ++ decimal found ++ codes " bytes, " ++ decimal expected ++ codes " expected\n"
table_words (table.Memory _) = codes "no table: memory\n"

abbrev pub cert_words : CertFault → List ℕ
cert_words cert.BadMagic = codes "magic\n"
cert_words cert.BadVersion = codes "version\n"
cert_words (cert.Short at) = codes "short " ++ decimal at ++ codes "\n"
cert_words (cert.OutOfRange at) = codes "range " ++ decimal at ++ codes "\n"
cert_words (cert.NotSorted at) = codes "order " ++ decimal at ++ codes "\n"
cert_words (cert.Trailing at) = codes "trailing " ++ decimal at ++ codes "\n"
cert_words (cert.Memory _) = codes "memory\n"

abbrev pub mesh_words : MeshFault → List ℕ
mesh_words (mesh.Flat triangle) = codes "flat " ++ decimal triangle ++ codes "\n"
mesh_words (mesh.Twice triangle) = codes "twice " ++ decimal triangle ++ codes "\n"
mesh_words (mesh.NoMate triangle) = codes "mate " ++ decimal triangle ++ codes "\n"
mesh_words (mesh.NoTriangle side) = codes "side " ++ side_text side ++ codes "\n"
mesh_words (mesh.Meets triangle line) = codes "meets " ++ two triangle line ++ codes "\n"
mesh_words (mesh.Inside triangle point) = codes "inside " ++ two triangle point ++ codes "\n"

-- a ray of a certificate that is none, or joins other sectors than its pair
abbrev pub why_words : Option RayFault → List ℕ
why_words (Some fault) = ray_fault_words fault
why_words None = codes "other sectors\n"

abbrev pub check_words : CheckFault → List ℕ
check_words (check.Mesh fault) = codes "no mesh: " ++ mesh_words fault
check_words (check.Ray a b why) = codes "no ray " ++ two a b ++ codes ": " ++ why_words why
check_words (check.Tree source node) = codes "no tree " ++ decimal source ++ codes " node " ++ decimal node ++ codes "\n"
check_words (check.ListedSet a b) = codes "no listed " ++ two a b ++ codes "\n"
check_words (check.Unproved a b) = codes "no unproved " ++ two a b ++ codes "\n"
check_words (check.Uncovered a b) = codes "no uncovered " ++ two a b ++ codes "\n"

-- the line of a no
abbrev pub no_words : Why → List ℕ
no_words (why.Ray fault) = codes "no ray: " ++ ray_fault_words fault
no_words (why.Trace fault) = trace_words fault
no_words (why.Table fault) = table_words fault
no_words (why.Cert fault) = codes "no cert: " ++ cert_words fault
no_words (why.Check fault) = check_words fault
no_words (why.Group triangle) = codes "no face " ++ decimal triangle ++ codes "\n"
no_words (why.Unused group) = codes "no group " ++ decimal group ++ codes "\n"
no_words (why.NoSector a) = codes "no sector " ++ decimal a ++ codes "\n"

-- what the line of a map's refusal says behind `refused: `: why it gets no table, whatever WAD it stands in
abbrev pub reason_words : Status → List ℕ
reason_words (status.BadLump fault) = codes "bad lump: " ++ lumps_words fault
reason_words (status.BadText fault) = codes "bad lump: " ++ texts_words fault
reason_words (status.Limit bound) = codes "limit: " ++ bound_words bound
reason_words (status.BadMap flaw) = codes "bad map: " ++ flaw_words flaw
reason_words other = codes "\n"

-- the line of a refusal; want of memory has none, and what was done has its own
abbrev pub text_of : Status → List ℕ
text_of status.Done = []
text_of status.NotRight = []
text_of (status.No why) = no_words why
text_of status.Usage = codes "refused: usage\n"
text_of (status.NoFile role) = codes "refused: no file " ++ role_words role
text_of (status.ReadFault role) = codes "refused: read fault " ++ role_words role
text_of (status.WriteFault role) = codes "refused: write fault " ++ role_words role
text_of (status.NotWad fault) = codes "refused: not a wad: " ++ wad_words fault
text_of (status.NoMap fault) = codes "refused: no map: " ++ map_words fault
text_of (status.BadLump fault) = codes "refused: bad lump: " ++ lumps_words fault
text_of (status.BadText fault) = codes "refused: bad lump: " ++ texts_words fault
text_of (status.Limit bound) = codes "refused: limit: " ++ bound_words bound
text_of (status.BadMap flaw) = codes "refused: bad map: " ++ flaw_words flaw
text_of status.SameName = codes "refused: same name\n"
text_of (status.Memory _) = []
