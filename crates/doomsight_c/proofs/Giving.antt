-- Which refusals the lumps call for, and that what was built and put is what is given.
use Rattle.std.proofs.Common.{◌≡◌, ◌≢◌, ◌∙◌, ℕ, List, Option, Some, None, Result, Ok, Err, refl, sym, ap, subst, inl, inr}
use Rattle.std.specs.Prelude.{⊤}
use Rattle.sight_names.specs.declared.faults.LumpFault.{LumpFault}
use Rattle.sight_names.specs.declared.faults.LumpFault.TheVariants as lump
use Rattle.sight_names.specs.declared.names.Method.{Method}
use Rattle.sight_names.specs.declared.names.Reading.{Reading}
use Rattle.sight_names.specs.Lumps.{lump_fault, map_of_lumps}
use Rattle.sight_names.specs.Map.{Map, map_of}
use Rattle.map_answers.specs.Input.{of_four_lumps, of_lumps}
use Rattle.map_answers.specs.Sound.{IsAuditRefusal}
use Rattle.map_answers.specs.declared.sight_status.status.Flaw.TheVariants as flaw
use Rattle.map_answers.specs.declared.sight_status.status.Status.{Status}
use Rattle.map_answers.specs.declared.sight_status.status.Status.TheVariants as status
use Rattle.map_answers.specs.SightStatus.Answer.{MakesAnswer}
use Rattle.map_answers.specs.SightStatus.Status.{IsOfBytes}
use Rattle.whole_wad.specs.declared.building.Built.{Built}
use Rattle.whole_wad.specs.Built.{IsBuiltOf}
use Rattle.doomsight_c.specs.declared.counts.DoomsightCounts.{DoomsightCounts}
use Rattle.doomsight_c.specs.declared.fault.DoomsightFault.{DoomsightFault}
use Rattle.doomsight_c.specs.Built.{IsBuiltFor, IsGiven, IsNoTable, IsPutInBuffers, Refuses, table_size}
use Rattle.doomsight_c.specs.Faults.{fault_view, wide}
use Rattle.doomsight_c.specs.Lines.{IsOfLibrary, status_in}
use Rattle.doomsight_c.specs.Lumps.{far_vertex, of_lumps_given, unless_far}

-- ---- what four lumps are refused with

abbrev pub IsLibrarys : Result Map Status → Type 0
IsLibrarys (Ok m) = ⊤
IsLibrarys (Err s) = IsOfLibrary s

of_lumps_is_librarys : (fault : Option LumpFault) (m : Map) → IsLibrarys (of_lumps fault m)
of_lumps_is_librarys None m = tt
of_lumps_is_librarys (Some (lump.BadSize l)) m = tt
of_lumps_is_librarys (Some (lump.TooManySectors count)) m = tt
of_lumps_is_librarys (Some (lump.TooManyLines count)) m = tt
of_lumps_is_librarys (Some (lump.BadVertex line)) m = tt
of_lumps_is_librarys (Some (lump.BadSide line)) m = tt
of_lumps_is_librarys (Some (lump.BadSector side)) m = tt
of_lumps_is_librarys (Some (lump.TooManyPoints count)) m = tt
of_lumps_is_librarys (Some (lump.Memory _)) m = tt

unless_far_is_librarys : (far : Option ℕ) (read : Result Map Status) → IsLibrarys read → IsLibrarys (unless_far far read)
unless_far_is_librarys None (Ok m) h = tt
unless_far_is_librarys (Some k) (Ok m) h = tt
unless_far_is_librarys None (Err s) h = h
unless_far_is_librarys (Some k) (Err s) h = h

pub given_is_librarys : (reading : Reading) (linedefs sidedefs vertexes sectors : List ℕ) → IsLibrarys (of_lumps_given reading linedefs sidedefs vertexes sectors)
given_is_librarys reading linedefs sidedefs vertexes sectors =
    unless_far_is_librarys (far_vertex reading.format vertexes) (of_four_lumps reading linedefs sidedefs vertexes sectors)
    (of_lumps_is_librarys (lump_fault reading linedefs sidedefs vertexes sectors) (map_of_lumps reading.format linedefs sidedefs vertexes sectors))

-- .. is of the library
pub of_reading : (read : Result Map Status) → IsLibrarys read → (s : Status) → IsOfBytes s → MakesAnswer map_of (Err s) read → IsOfLibrary s
of_reading read lib (status.BadLump f) h made = subst IsLibrarys made lib
of_reading read lib (status.BadText f) h made = subst IsLibrarys made lib
of_reading read lib (status.Limit b) h made = subst IsLibrarys made lib
of_reading read lib (status.NotWad f) h made = subst IsLibrarys made lib
of_reading read lib (status.NoMap f) h made = subst IsLibrarys made lib
of_reading read lib (status.Memory _) h made = tt
of_reading read lib other h made = absurd h

-- .. and is what they call for
pub called_by_reading : (read : Result Map Status) (s : Status) → IsOfBytes s → MakesAnswer map_of (Err s) read → Refuses read s
called_by_reading read (status.BadLump f) h made = subst (λ r. Refuses r (status.BadLump f)) (sym made) refl
called_by_reading read (status.BadText f) h made = subst (λ r. Refuses r (status.BadText f)) (sym made) refl
called_by_reading read (status.Limit b) h made = subst (λ r. Refuses r (status.Limit b)) (sym made) refl
called_by_reading read (status.NotWad f) h made = subst (λ r. Refuses r (status.NotWad f)) (sym made) refl
called_by_reading read (status.NoMap f) h made = subst (λ r. Refuses r (status.NoMap f)) (sym made) refl
called_by_reading (Ok m) (status.Memory _) h made = tt
called_by_reading (Err r) (status.Memory _) h made = tt
called_by_reading read other h made = absurd h

-- no map was read, unless memory ran out
isnt_read : (read : Result Map Status) (s : Status) → IsOfBytes s → MakesAnswer map_of (Err s) read → (m : Map) → read ≡ Ok m → s ≡ status.Memory tt
isnt_read read (status.BadLump f) h made m e = cc (sym made ∙ e)
isnt_read read (status.BadText f) h made m e = cc (sym made ∙ e)
isnt_read read (status.Limit b) h made m e = cc (sym made ∙ e)
isnt_read read (status.NotWad f) h made m e = cc (sym made ∙ e)
isnt_read read (status.NoMap f) h made m e = cc (sym made ∙ e)
isnt_read read (status.Memory _) h made m e = refl
isnt_read read other h made m e = absurd h

-- what the audit of a map can end with is of the library
pub of_audit : (m : Map) (s : Status) → IsAuditRefusal m s → IsOfLibrary s
of_audit m (status.BadMap (flaw.Line fault)) h = tt
of_audit m (status.BadMap (flaw.Open side)) h = tt
of_audit m (status.Memory _) h = tt
of_audit m other h = absurd h

-- ---- why there is no table

abbrev size_in : Result Map Status → ℕ
size_in (Ok m) = table_size m.sectors
size_in (Err s) = 0

module _ (tells : (s : Status) → IsOfLibrary s → status_in (fault_view s) ≡ s) (size : ℕ) where
  pub refused_read : (read : Result Map Status) → IsLibrarys read → (s : Status) → IsOfBytes s → MakesAnswer map_of (Err s) read → (f : DoomsightFault) → f ≡ fault_view s → IsNoTable read size f
  refused_read read lib s h made f is = inr (record {
    refusal = s;
    is = is;
    told = ap status_in is ∙ tells s (of_reading read lib s h made);
    called = called_by_reading read s h made;
    fits = λ m e. inl (isnt_read read s h made m e);
  })

  pub refused_map : (m : Map) → size ≡ table_size m.sectors → (s : Status) → IsAuditRefusal m s → (f : DoomsightFault) → f ≡ fault_view s → IsNoTable (Ok m) size f
  refused_map m fits s h f is = inr (record {
    refusal = s;
    is = is;
    told = ap status_in is ∙ tells s (of_audit m s h);
    called = h;
    fits = λ n e. inr (fits ∙ ap size_in e);
  })

pub unfit : (m : Map) (size : ℕ) → size ≢ table_size m.sectors → (f : DoomsightFault) → f ≡ wide 2 15 (table_size m.sectors) 0 → IsNoTable (Ok m) size f
unfit m size other f is = inl (record { map = m; is_read = refl; other = other; is = is })

-- ---- what is given

pub built_for : (m : Map) (by : Method) (size : ℕ) → size ≡ table_size m.sectors → (b : Built) → IsBuiltOf m by b → IsBuiltFor (Ok m) by size b
built_for m by size fits b is = record { map = m; is_read = refl; is_built = is; fits = fits ∙ ap table_size (sym is.sectors) }

pub given : (read : Result Map Status) (by : Method) (size : ℕ) (b : Built) → IsBuiltFor read by size b → (reject before after : List ℕ) (counts : DoomsightCounts) → IsPutInBuffers b reject before after counts
    → IsGiven read by reject before after counts
given read by size b is reject before after counts put = record { map = is.map; is_read = is.is_read; built = b; is_built = is.is_built; put = put }
