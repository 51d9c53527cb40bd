-- What a map gets where a check of it fails.
use Rattle.std.proofs.Common.{◌≡◌, Result, Ok, Err, sym, subst}
use Rattle.std.specs.Prelude.{IfErr, IfOk}
use Rattle.sight_names.specs.declared.names.Method.{Method}
use Rattle.sight_names.specs.Map.{Map}
use Rattle.map_answers.specs.declared.sight_status.status.Flaw.TheVariants as flaw
use Rattle.map_answers.specs.declared.sight_status.status.Status.{Status}
use Rattle.map_answers.specs.declared.sight_status.status.Status.TheVariants as status
use Rattle.map_answers.specs.Sound.{IsAuditRefusal}
use Rattle.whole_wad.specs.declared.building.Built.{Built}
use Rattle.whole_wad.specs.declared.tables.MapTable.{MapTable}
use Rattle.whole_wad.specs.Built.{IsBuiltOf}
use Rattle.whole_wad.specs.Tables.{GetsOrMemory, IsTableOfMap, built_with}

-- its lines are at fault, or a face isn't closed
pub refused_build : (m : Map) (by : Method) (s : Status) → IsAuditRefusal m s → GetsOrMemory (Ok m) by (Err s)
refused_build m by (status.BadMap (flaw.Line fault)) h = h.is
refused_build m by (status.BadMap (flaw.Open side)) h = (h.0.meet, h.1)
refused_build m by (status.Memory _) h = tt
refused_build m by s h = absurd h

-- it is built, and its table is judged
table_kept : (m : Map) (by : Method) (built : Built) (made : MapTable) → IsBuiltOf m by built → made.table ≡ built.table → made.listed ≡ built.listed → IsTableOfMap m by made
table_kept m by built made h p q = let e : built ≡ built_with made built.cert = λ i. record { table = sym p i; listed = sym q i; cert = built.cert } in record { cert = built.cert; is_built = subst (IsBuiltOf m by) e h }

pub judged_gets : (m : Map) (by : Method) (built : Built) (r : Result MapTable Status) → IsBuiltOf m by built → IfOk r (λ made. made.table ≡ built.table) → IfOk r (λ made. made.listed ≡ built.listed)
    → IfErr r (λ s. s ≡ status.Memory tt) → GetsOrMemory (Ok m) by r
judged_gets m by built (Ok made) h p q e = table_kept m by built made h p q
judged_gets m by built (Err s) h p q e = subst (λ (t : Status). GetsOrMemory (Ok m) by (Err t)) (sym e) tt
