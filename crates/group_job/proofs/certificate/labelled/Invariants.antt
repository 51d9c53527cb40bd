use Rattle.std.proofs.Common.{◌≡◌, take}
use Rattle.group_job.specs.Labelled.{labelled_of}
use Rattle.group_job.proofs.certificate.labelled.Given as goal

abbrev pub invariant-loop-number : goal.invariant-loop-number
invariant-loop-number l = l.found.items ≡ labelled_of (take l.number l.triangles) (take l.number l.labels)
