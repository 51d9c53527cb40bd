use Rattle.std.proofs.Common.{◌≡◌, Some, length, map, take}
use Rattle.sight_names.specs.Splitting.{end_of}
use Rattle.cert_checker.specs.TreeJudge.Path.{path_ends}
use Rattle.cert_checker.proofs.tree_judge.trees.is_shown_blocked.Given as goal

abbrev pub invariant-loop-i : goal.invariant-loop-i
invariant-loop-i l = record {
  long : length l.ends ≡ 4;
  found : map Some (take l.i l.ends) ≡ map (end_of (path_ends l.path)) (take l.i l.evidence.ends);
}
