-- The line of a no begins with `no `.
use Rattle.std.proofs.Common.{◌≡◌, ◌++◌, drop, refl, codes}
use Rattle.sight_names.specs.declared.faults.CheckFault.TheVariants as check
use Rattle.sight_names.specs.declared.faults.TableFault.TheVariants as table
use Rattle.sight_names.specs.declared.faults.TraceFault.TheVariants as trace
use Rattle.map_answers.specs.declared.sight_status.status.Why.{Why}
use Rattle.map_answers.specs.declared.sight_status.status.Why.TheVariants as why
use Rattle.map_answers.specs.SightStatus.Texts.{no_words}

pub begins_with_no : (which : Why) → no_words which ≡ codes "no " ++ drop 3 (no_words which)
begins_with_no (why.Ray f) = refl
begins_with_no (why.Trace (trace.BadRay f)) = refl
begins_with_no (why.Trace (trace.HitsSolid k)) = refl
begins_with_no (why.Trace (trace.HitsPoint k)) = refl
begins_with_no (why.Trace (trace.Memory _)) = refl
begins_with_no (why.Table (table.WrongLength a b)) = refl
begins_with_no (why.Table (table.Memory _)) = refl
begins_with_no (why.Cert f) = refl
begins_with_no (why.Check (check.Mesh f)) = refl
begins_with_no (why.Check (check.Ray a b f)) = refl
begins_with_no (why.Check (check.Tree k n)) = refl
begins_with_no (why.Check (check.ListedSet a b)) = refl
begins_with_no (why.Check (check.Unproved a b)) = refl
begins_with_no (why.Check (check.Uncovered a b)) = refl
begins_with_no (why.Group k) = refl
begins_with_no (why.Unused k) = refl
begins_with_no (why.NoSector k) = refl
