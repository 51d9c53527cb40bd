use Rattle.std.proofs.Common.{Ok, Err, refl}
use Rattle.sight_names.specs.Map.{map_of}
use Rattle.map_answers.proofs.Sounds.{line_fault, sound_lines}
use Rattle.map_answers.proofs.sound.audit_lines_of.Goals as goal

pub returns-in-Ok-clause-sound : goal.returns-in-Ok-clause-sound
returns-in-Ok-clause-sound c = sound_lines (map_of c.args.plan.now) (Ok c.in-Ok.field-0) (record { sound = c.in-Ok.ensures.sound; fault = c.in-Ok.ensures.fault }) refl

pub returns-in-Err-clause-clash : goal.returns-in-Err-clause-clash
returns-in-Err-clause-clash c = line_fault (map_of c.args.plan.now) (Err c.in-Err.fault) c.in-Err.fault (record { sound = c.in-Err.ensures.sound; fault = c.in-Err.ensures.fault }) refl
