use Rattle.std.proofs.Common.{ℕ, ◌<◌, get_or}
use Rattle.cert_format.specs.declared.cert.Labelled.{Labelled}
use Rattle.cert_judge.proofs.in_order.are_labelled_below.Given as goal

abbrev pub invariant-loop-one : goal.invariant-loop-one
invariant-loop-one l = (k : ℕ) (d : Labelled) → k < l.one-index → (get_or l.labelled k d).sector < l.groups
