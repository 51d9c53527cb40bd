use Rattle.std.proofs.Common.{◌++◌, refl}
use Rattle.std.specs.Option.{option_to_list}
use Rattle.sight_names.specs.Map.{map_of}
use Rattle.cert_checker.proofs.TreeJudge.TreesTold.{tells_wrong, tells_whole}
use Rattle.cert_checker.proofs.tree_judge.hearing.TreeJudge.verdict.Goals as goal

pub returns-in-Some : goal.returns-in-Some
returns-in-Some c = λ p cert ts xs front tree over all h. tells_wrong p cert ts xs (front ++ option_to_list tree) over all c.end.new.self (c.in-Some.source, c.in-Some.node) (c.end.ensures (map_of p) ts xs front tree h) c.in-Some.is

pub returns-in-None : goal.returns-in-None
returns-in-None c = λ p cert ts xs front tree over all h. tells_whole p cert ts xs (front ++ option_to_list tree) over all c.end.new.self (record { walked = c.end.new.self.walked; reached = c.end.new.self.reached }) (c.end.ensures (map_of p) ts xs front tree h) c.in-None.is refl refl
