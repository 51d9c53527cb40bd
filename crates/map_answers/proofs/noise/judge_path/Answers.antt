use Rattle.std.proofs.Common.{string_bytes, Vec, Global}
use Rattle.sight_names.specs.declared.names.Side.{Side}
use Rattle.sight_names.specs.Map.{map_of}
use Rattle.map_answers.proofs.Noises.{path_or_silence}
use Rattle.map_answers.proofs.noise.judge_path.Goals as goal

pub returns-in-Ok-line_of_path-clause-judged : goal.returns-in-Ok-line_of_path-clause-judged
returns-in-Ok-line_of_path-clause-judged c = path_or_silence (map_of c.args.plan.now) c.args.dampers.now c.args.pair (λ (v : Vec Side Global). v.items) c.in-Ok.path (string_bytes c.in-Ok-line_of_path.line) c.requires.first c.requires.second c.in-Ok.ensures c.in-Ok-line_of_path.ensures
