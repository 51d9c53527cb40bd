use Rattle.std.proofs.Common.{◌↔◌}
use Rattle.sight_names.specs.Map.{map_of}
use Rattle.cert_format.specs.Sizes.{sizes_of_plan}
use Rattle.certificates.specs.Reading.{certificate_at}
use Rattle.group_checker.specs.Judged.{IsYesAny}
use Rattle.any_judge.specs.Accepted.{IsAccepted, TellsSight}
use Rattle.any_judge.specs.Judged.{IsVerdictOf, Judges}
use Rattle.any_judge.proofs.Promises.{accepted_by, judges_by, tells_by, weaker}
use Rattle.any_judge.proofs.judge.Judge.end.Goals as goal

pub end-requires : goal.end-requires
end-requires c = record { plan = c.requires.plan; table = c.requires.table; bytes = c.requires.bytes; course = c.requires.fed.course c.in_default.is; fits = c.requires.fits }

pub returns-clause-exact : goal.returns-clause-exact
returns-clause-exact c = λ p t bytes w. weaker (IsVerdictOf p t) (Judges p t) (judges_by p t) (certificate_at (sizes_of_plan p) bytes) c.end.result (c.end.ensures p t bytes (w.course c.in_default.is))

pub returns-clause-accepted : goal.returns-clause-accepted
returns-clause-accepted c = λ p t bytes w. weaker (IsVerdictOf p t) (λ d v. IsYesAny v ↔ IsAccepted (map_of p) t.bytes d) (accepted_by p t w.plan) (certificate_at (sizes_of_plan p) bytes) c.end.result (c.end.ensures p t bytes (w.course c.in_default.is))

pub returns-clause-sight : goal.returns-clause-sight
returns-clause-sight c = λ p t bytes w ends. weaker (IsVerdictOf p t) (λ d v. IsYesAny v → TellsSight (map_of p) t d) (tells_by p t w.plan ends) (certificate_at (sizes_of_plan p) bytes) c.end.result (c.end.ensures p t bytes (w.course c.in_default.is))
