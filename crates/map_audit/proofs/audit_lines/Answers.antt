use Rattle.std.proofs.Common.{refl, sym, true≢false}
use Rattle.sight_names.specs.Map.{map_of}
use Rattle.map_audit.proofs.AuditLemmas.{sound_of, not_sound, refused_fault, accepted_fault}
use Rattle.map_audit.proofs.audit_lines.Goals as goal

pub returns-in-Some-clause-sound : goal.returns-in-Some-clause-sound
returns-in-Some-clause-sound c = ((λ e. absurd (true≢false (sym e))), (λ s. absurd (not_sound (map_of c.args.plan.now) c.in-Some.fault c.in-Some.ensures s)))

pub returns-in-Some-clause-fault : goal.returns-in-Some-clause-fault
returns-in-Some-clause-fault c f = refused_fault (map_of c.args.plan.now) c.in-Some.fault f c.in-Some.ensures

pub returns-in-None-clause-sound : goal.returns-in-None-clause-sound
returns-in-None-clause-sound c = ((λ e. sound_of c.args.plan.now c.in-None.ensures), (λ s. refl))

pub returns-in-None-clause-fault : goal.returns-in-None-clause-fault
returns-in-None-clause-fault c f = accepted_fault (map_of c.args.plan.now) f (sound_of c.args.plan.now c.in-None.ensures)

pub returns-then-is_swept_clean-clause-fault : goal.returns-then-is_swept_clean-clause-fault
returns-then-is_swept_clean-clause-fault c f = accepted_fault (map_of c.args.plan.now) f (c.is_swept_clean.ensures c.if-is_swept_clean.true)
