-- Where four lumps spell a map, LINEDEFS has whole records, as many as the map has lines.
use Rattle.std.proofs.Common.{◌≡◌, ℕ, zero, suc, ◌+◌, ◌/◌, ◌%◌, ◌==◌, List, length, Option, Some, None, Result, Ok, Err, Bool, true, false, not, refl, sym, ap, ◌∙◌, option_map}
use Rattle.std.proofs.lemmas.Bool.{eqb-true}
use Rattle.std.proofs.lemmas.List.{length-map}
use Rattle.sight_names.specs.declared.faults.LumpFault.{LumpFault}
use Rattle.sight_names.specs.declared.faults.LumpFault.TheVariants as lump
use Rattle.sight_names.specs.declared.faults.Lump.TheVariants.{Linedefs}
use Rattle.sight_names.specs.Map.{Map, looked_up, map_of}
use Rattle.sight_names.specs.Plan.{PlanParts}
use Rattle.sight_names.specs.declared.names.MapFormat.{MapFormat}
use Rattle.sight_names.specs.declared.names.Reading.{Reading}
use Rattle.sight_names.specs.Lumps.{count_linedefs, lump_fault_if, linedef, linedef_len, lump_fault, map_of_lumps, numbers_below, numbers_from}
use Rattle.map_answers.specs.declared.sight_status.status.Status.{Status}
use Rattle.map_answers.specs.Input.{of_four_lumps, of_lumps}

clash : (e : Status) (m : Map) → ◌≡◌ {A = Result Map Status} (Err e) (Ok m) → ⊥
clash e m h = cc

-- a map is made where there is no fault, and it is the one that is spelled
pub no_fault : (f : Option LumpFault) (m n : Map) → of_lumps f m ≡ Ok n → (f ≡ None) × (m ≡ n)
no_fault None m n e = (refl, cc)
no_fault (Some (lump.TooManySectors count)) m n e = absurd (clash _ n e)
no_fault (Some (lump.TooManyLines count)) m n e = absurd (clash _ n e)
no_fault (Some (lump.TooManyPoints count)) m n e = absurd (clash _ n e)
no_fault (Some (lump.Memory _)) m n e = absurd (clash _ n e)
no_fault (Some (lump.BadSize which)) m n e = absurd (clash _ n e)
no_fault (Some (lump.BadVertex line)) m n e = absurd (clash _ n e)
no_fault (Some (lump.BadSide line)) m n e = absurd (clash _ n e)
no_fault (Some (lump.BadSector side)) m n e = absurd (clash _ n e)

first_passes : (b : Bool) (f : LumpFault) (rest : Option LumpFault) → lump_fault_if (not b) f rest ≡ None → b ≡ true
first_passes true f rest e = refl
first_passes false f rest e = absurd (no f e)
  where
    no : (f : LumpFault) → ◌≡◌ {A = Option LumpFault} (Some f) None → ⊥
    no f e = cc

whole_records : (reading : Reading) (linedefs sidedefs vertexes sectors : List ℕ) → lump_fault reading linedefs sidedefs vertexes sectors ≡ None → length linedefs % linedef_len reading.format ≡ 0
unfolding lump_fault
whole_records reading linedefs sidedefs vertexes sectors e =
    eqb-true (length linedefs % linedef_len reading.format) 0 (first_passes (length linedefs % linedef_len reading.format == 0) (lump.BadSize Linedefs) _ e)

pub length_numbers : (k n : ℕ) → length (numbers_from k n) ≡ n
length_numbers k zero = refl
length_numbers k (suc n) = ap suc (length_numbers (k + 1) n)

as_many_lines : (format : MapFormat) (linedefs sidedefs vertexes sectors : List ℕ) → length (map_of_lumps format linedefs sidedefs vertexes sectors).lines ≡ length linedefs / linedef_len format
unfolding map_of_lumps
as_many_lines format linedefs sidedefs vertexes sectors = length-map (numbers_below (count_linedefs format linedefs)) (linedef format linedefs sidedefs vertexes) ∙ length_numbers 0 (count_linedefs format linedefs)

-- LINEDEFS has whole records, as many as the plan has lines
pub linedefs_fit : (reading : Reading) (linedefs sidedefs vertexes sectors : List ℕ) (p : PlanParts) → of_four_lumps reading linedefs sidedefs vertexes sectors ≡ Ok (map_of p)
    → (length linedefs % linedef_len reading.format ≡ 0) × (length p.lines ≡ length linedefs / linedef_len reading.format)
linedefs_fit reading linedefs sidedefs vertexes sectors p e =
    let w = no_fault (lump_fault reading linedefs sidedefs vertexes sectors) (map_of_lumps reading.format linedefs sidedefs vertexes sectors) (map_of p) e in (
      whole_records reading linedefs sidedefs vertexes sectors w.0,
      sym (length-map p.lines (option_map (looked_up p.points))) ∙ sym (ap (λ (m : Map). length m.lines) w.1) ∙ as_many_lines reading.format linedefs sidedefs vertexes sectors,
    )
