-- The numbers of the statuses, and what never stands in one.
use Rattle.std.specs.Prelude.{ℕ, Bool, true, false, ⊤}
use Rattle.sight_names.specs.declared.faults.WadFault.{WadFault}
use Rattle.sight_names.specs.declared.faults.WadFault.TheVariants as wad
use Rattle.sight_names.specs.declared.faults.LumpFault.{LumpFault}
use Rattle.sight_names.specs.declared.faults.LumpFault.TheVariants as lump
use Rattle.udmf_map.specs.declared.faults.TextFault.{TextFault}
use Rattle.udmf_map.specs.declared.faults.TextFault.TheVariants as text
use Rattle.sight_names.specs.declared.faults.TraceFault.TheVariants as trace
use Rattle.sight_names.specs.declared.faults.TableFault.TheVariants as table
use Rattle.sight_names.specs.declared.faults.CertFault.TheVariants as cert
use Rattle.map_answers.specs.declared.sight_status.status.Bound.TheVariants as bound
use Rattle.map_answers.specs.declared.sight_status.status.Role.TheVariants as role
use Rattle.map_answers.specs.declared.sight_status.status.Why.{Why}
use Rattle.map_answers.specs.declared.sight_status.status.Why.TheVariants as why
use Rattle.map_answers.specs.declared.sight_status.status.Status.{Status}
use Rattle.map_answers.specs.declared.sight_status.status.Status.TheVariants as status

-- how a run ends that does what is asked, by whether all that it judged is right
abbrev pub done_as : Bool → Status
done_as true = status.Done
done_as false = status.NotRight

-- the exit status of the program
abbrev pub exit_status_of : Status → ℕ
exit_status_of status.Done = 0
exit_status_of status.NotRight = 1
exit_status_of (status.No why) = 1
exit_status_of status.Usage = 2
exit_status_of (status.NoFile role) = 3
exit_status_of (status.ReadFault role) = 4
exit_status_of (status.WriteFault role) = 5
exit_status_of (status.NotWad fault) = 6
exit_status_of (status.NoMap fault) = 7
exit_status_of (status.BadLump fault) = 8
exit_status_of (status.BadText fault) = 8
exit_status_of (status.Limit bound) = 9
exit_status_of (status.BadMap flaw) = 10
exit_status_of status.SameName = 11
exit_status_of (status.Memory _) = 12

-- too many lumps are a limit, and want of memory is a status of its own
abbrev pub IsWadFault : WadFault → Type 0
IsWadFault wad.TooManyLumps = ⊥
IsWadFault (wad.Memory _) = ⊥
IsWadFault fault = ⊤

-- too many lines, points or sectors are limits
abbrev pub IsLumpFault : LumpFault → Type 0
IsLumpFault (lump.TooManySectors count) = ⊥
IsLumpFault (lump.TooManyLines count) = ⊥
IsLumpFault (lump.TooManyPoints count) = ⊥
IsLumpFault (lump.Memory _) = ⊥
IsLumpFault fault = ⊤

-- too many vertices or sides are limits
abbrev pub IsTextFault : TextFault → Type 0
IsTextFault (text.TooManyVertices count) = ⊥
IsTextFault (text.TooManySides count) = ⊥
IsTextFault (text.Memory _) = ⊥
IsTextFault fault = ⊤

-- want of memory is no reason for a no
abbrev pub IsReason : Why → Type 0
IsReason (why.Trace (trace.Memory _)) = ⊥
IsReason (why.Table (table.Memory _)) = ⊥
IsReason (why.Cert (cert.Memory _)) = ⊥
IsReason reason = ⊤

-- no fault stands in a status where there is another status for it
abbrev pub IsProper : Status → Type 0
IsProper (status.NotWad fault) = IsWadFault fault
IsProper (status.BadLump fault) = IsLumpFault fault
IsProper (status.BadText fault) = IsTextFault fault
IsProper (status.No reason) = IsReason reason
IsProper other = ⊤

-- a refusal that the bytes of a WAD and its map can call for
abbrev pub IsOfBytes : Status → Type 0
IsOfBytes (status.NotWad fault) = IsWadFault fault
IsOfBytes (status.NoMap fault) = ⊤
IsOfBytes (status.BadLump fault) = IsLumpFault fault
IsOfBytes (status.BadText fault) = IsTextFault fault
IsOfBytes (status.Limit bound.WadBytes) = ⊥
IsOfBytes (status.Limit bound.CertBytes) = ⊥
IsOfBytes (status.Limit bound.OutputBytes) = ⊥
IsOfBytes (status.Limit bound) = ⊤
IsOfBytes (status.Memory _) = ⊤
IsOfBytes other = ⊥

-- a refusal that making an output can call for
abbrev pub IsOfMaking : Status → Type 0
IsOfMaking (status.Limit bound.Lumps) = ⊤
IsOfMaking (status.Limit bound.OutputBytes) = ⊤
IsOfMaking (status.Memory _) = ⊤
IsOfMaking other = ⊥

-- what the test of a ray can end with
abbrev pub IsOfRayTest : Status → Type 0
IsOfRayTest (status.No (why.Ray fault)) = ⊤
IsOfRayTest (status.Memory _) = ⊤
IsOfRayTest other = ⊥

-- what a question on a noise can end with
abbrev pub IsOfSoundTest : Status → Type 0
IsOfSoundTest (status.No (why.NoSector a)) = ⊤
IsOfSoundTest (status.Memory _) = ⊤
IsOfSoundTest other = ⊥

-- what taking bytes as a table can end with
abbrev pub IsOfTableTest : Status → Type 0
IsOfTableTest (status.No (why.Table (table.Memory _))) = ⊥
IsOfTableTest (status.No (why.Table fault)) = ⊤
IsOfTableTest (status.Memory _) = ⊤
IsOfTableTest other = ⊥

-- what the fetch of a certificate can end with
abbrev pub IsOfCertFetch : Status → Type 0
IsOfCertFetch (status.NoFile role.Cert) = ⊤
IsOfCertFetch (status.ReadFault role.Cert) = ⊤
IsOfCertFetch (status.Limit bound.CertBytes) = ⊤
IsOfCertFetch (status.Memory _) = ⊤
IsOfCertFetch other = ⊥

-- what the reading of a certificate can end with
abbrev pub IsOfCertTest : Status → Type 0
IsOfCertTest (status.No (why.Cert (cert.Memory _))) = ⊥
IsOfCertTest (status.No (why.Cert fault)) = ⊤
IsOfCertTest (status.Memory _) = ⊤
IsOfCertTest other = ⊥

-- what reading a table and a certificate can end with
abbrev pub IsOfCheckInput : Status → Type 0
IsOfCheckInput (status.No (why.Table (table.Memory _))) = ⊥
IsOfCheckInput (status.No (why.Table fault)) = ⊤
IsOfCheckInput (status.No (why.Cert (cert.Memory _))) = ⊥
IsOfCheckInput (status.No (why.Cert fault)) = ⊤
IsOfCheckInput other = IsOfCertFetch other

-- what a verdict can end with
abbrev pub IsOfVerdict : Status → Type 0
IsOfVerdict (status.No (why.Check fault)) = ⊤
IsOfVerdict (status.No (why.Group triangle)) = ⊤
IsOfVerdict (status.No (why.Unused group)) = ⊤
IsOfVerdict (status.Memory _) = ⊤
IsOfVerdict other = ⊥

-- what the audit of a map can end with
abbrev pub IsOfMapTest : Status → Type 0
IsOfMapTest (status.BadMap flaw) = ⊤
IsOfMapTest (status.Memory _) = ⊤
IsOfMapTest other = ⊥

-- what the audit and the walk along a ray can end with
abbrev pub IsOfTraceTest : Status → Type 0
IsOfTraceTest (status.No (why.Trace (trace.Memory _))) = ⊥
IsOfTraceTest (status.No (why.Trace fault)) = ⊤
IsOfTraceTest other = IsOfMapTest other

-- a refusal that words alone call for
abbrev pub IsOfWords : Status → Type 0
IsOfWords status.Usage = ⊤
IsOfWords status.SameName = ⊤
IsOfWords (status.Memory _) = ⊤
IsOfWords other = ⊥
