use Rattle.std.proofs.Common.{string_bytes, refl, arith}
use Rattle.std.proofs.Math.Nat.{le_refl}
use Rattle.shelf_io.proofs.BegunLemmas.{names_back}
use Rattle.shelf_io.proofs.CountLemmas.{rises}
use Rattle.shelf_io.proofs.disk.DiskShelfShelf.read.Goals as goal

pub returns-then-eq-clause-told : goal.returns-then-eq-clause-told
returns-then-eq-clause-told g c = λ files e. absurd cc

pub returns-then-eq-clause-files : goal.returns-then-eq-clause-files
returns-then-eq-clause-files g c = refl

pub returns-then-eq-clause-begun : goal.returns-then-eq-clause-begun
returns-then-eq-clause-begun g c =
    names_back (λ b. string_bytes b.name) c.args.self.now.begun.items c.deref_mut.result.now c.read_any.new.begun c.args.self.now.begun.len c.deref_mut.ensures.value c.deref_mut.ensures.len c.read_any.auto.begun c.in-Err.ensures.begun

pub returns-then-eq-clause-counts : goal.returns-then-eq-clause-counts
returns-then-eq-clause-counts g c = record { read_faults = le_refl _; write_faults = le_refl _; absents = omega arith }

pub returns-then-eq-clause-cause : goal.returns-then-eq-clause-cause
returns-then-eq-clause-cause g c = (record { read_faults = refl; write_faults = refl }, rises _ _ _ c.saturating_add-self.ensures)

pub returns-in-Ok-clause-within : goal.returns-in-Ok-clause-within
returns-in-Ok-clause-within g c = c.in-Ok.ensures.within

pub returns-in-Ok-clause-told : goal.returns-in-Ok-clause-told
returns-in-Ok-clause-told g c = λ files e. absurd cc

pub returns-in-Ok-clause-files : goal.returns-in-Ok-clause-files
returns-in-Ok-clause-files g c = refl

pub returns-in-Ok-clause-begun : goal.returns-in-Ok-clause-begun
returns-in-Ok-clause-begun g c =
    names_back (λ b. string_bytes b.name) c.args.self.now.begun.items c.deref_mut.result.now c.read_any.new.begun c.args.self.now.begun.len c.deref_mut.ensures.value c.deref_mut.ensures.len c.read_any.auto.begun c.in-Ok.ensures.begun

pub returns-in-Ok-clause-counts : goal.returns-in-Ok-clause-counts
returns-in-Ok-clause-counts g c = record { read_faults = le_refl _; write_faults = le_refl _; absents = le_refl _ }

pub returns-in-Ok-clause-cause : goal.returns-in-Ok-clause-cause
returns-in-Ok-clause-cause g c = record { read_faults = refl; write_faults = refl; absents = refl }

pub returns-else-eq-clause-told : goal.returns-else-eq-clause-told
returns-else-eq-clause-told g c = λ files e. absurd cc

pub returns-else-eq-clause-files : goal.returns-else-eq-clause-files
returns-else-eq-clause-files g c = refl

pub returns-else-eq-clause-begun : goal.returns-else-eq-clause-begun
returns-else-eq-clause-begun g c =
    names_back (λ b. string_bytes b.name) c.args.self.now.begun.items c.deref_mut.result.now c.read_any.new.begun c.args.self.now.begun.len c.deref_mut.ensures.value c.deref_mut.ensures.len c.read_any.auto.begun c.in-Err.ensures.begun

pub returns-else-eq-clause-counts : goal.returns-else-eq-clause-counts
returns-else-eq-clause-counts g c = record { read_faults = omega arith; write_faults = le_refl _; absents = le_refl _ }

pub returns-else-eq-clause-cause : goal.returns-else-eq-clause-cause
returns-else-eq-clause-cause g c = rises _ _ _ c.saturating_add-self-in-Err.ensures
