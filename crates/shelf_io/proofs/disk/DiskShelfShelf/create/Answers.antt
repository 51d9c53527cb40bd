use Rattle.std.proofs.Common.{refl, inl}
use Rattle.std.proofs.Math.Nat.{le_refl}
use Rattle.std.proofs.lemmas.Result.{on_ok_weaker}
use Rattle.shelf_io.proofs.BegunLemmas.{among_same}
use Rattle.shelf_io.proofs.CountLemmas.{whatever_ok, whatever_err}
use Rattle.shelf_io.proofs.disk.DiskShelfShelf.create.Goals as goal

pub returns-then-is_standard_output-clause-made : goal.returns-then-is_standard_output-clause-made
returns-then-is_standard_output-clause-made g c = refl

pub returns-then-is_standard_output-clause-begun : goal.returns-then-is_standard_output-clause-begun
returns-then-is_standard_output-clause-begun g c = among_same _ _ _ refl

pub returns-then-is_standard_output-clause-counts : goal.returns-then-is_standard_output-clause-counts
returns-then-is_standard_output-clause-counts g c = record { read_faults = le_refl _; write_faults = le_refl _; absents = le_refl _ }

pub returns-then-is_standard_output-clause-quiet : goal.returns-then-is_standard_output-clause-quiet
returns-then-is_standard_output-clause-quiet g c = record { read_faults = refl; write_faults = refl; absents = refl }

pub returns-clause-made : goal.returns-clause-made
returns-clause-made g c = whatever_ok c.counted.result refl

pub returns-clause-failed : goal.returns-clause-failed
returns-clause-failed g c = whatever_err c.counted.result (inl refl)

pub returns-clause-begun : goal.returns-clause-begun
returns-clause-begun g c = c.begin-begun.ensures

pub returns-clause-counts : goal.returns-clause-counts
returns-clause-counts g c = record { read_faults = le_refl _; write_faults = c.counted.ensures.counts; absents = le_refl _ }

pub returns-clause-quiet : goal.returns-clause-quiet
returns-clause-quiet g c = on_ok_weaker c.counted.result (λ e. record { read_faults = refl; write_faults = e; absents = refl }) c.counted.ensures.quiet

pub returns-clause-cause : goal.returns-clause-cause
returns-clause-cause g c = c.counted.ensures.cause
