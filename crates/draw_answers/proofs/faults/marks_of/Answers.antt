use Rattle.std.proofs.Common.{subst}
use Rattle.sight_names.specs.Map.{map_of}
use Rattle.map_answers.specs.declared.sight_status.status.Flaw.{Flaw}
use Rattle.map_answers.specs.declared.sight_status.status.Status.TheVariants as status
use Rattle.map_answers.specs.Sound.{IsAuditRefusal}
use Rattle.draw_answers.proofs.faults.marks_of.Goals as goal

pub marks_of_open_faces-requires : goal.marks_of_open_faces-requires
marks_of_open_faces-requires c = (subst (λ (f : Flaw). IsAuditRefusal (map_of c.args.plan.now) (status.BadMap f)) c.in-Open.is c.requires).0.meet
