use Rattle.std.proofs.Common.{sym}
use Rattle.map_answers.proofs.SightStatus.Lines.{pushed}
use Rattle.map_answers.proofs.sight_status.texts.push_status.Goals as goal

pub returns-in_ok-push_text-in-NoFile : goal.returns-in_ok-push_text-in-NoFile
returns-in_ok-push_text-in-NoFile c = let e = sym c.role_name.ensures in rw c.in-NoFile.is (rw e (pushed c.push_text-in-NoFile.result _ _ _ _ _ c.in_ok-push_text-in-NoFile.ensures c.push_text-in-NoFile.ensures))

pub returns-in_ok-push_text-in-NotWad : goal.returns-in_ok-push_text-in-NotWad
returns-in_ok-push_text-in-NotWad c = rw c.in-NotWad.is (pushed c.push_wad.result _ _ _ _ _ c.in_ok-push_text-in-NotWad.ensures c.push_wad.ensures)

pub returns-in_ok-push_text-in-NoMap : goal.returns-in_ok-push_text-in-NoMap
returns-in_ok-push_text-in-NoMap c = rw c.in-NoMap.is (pushed c.push_map.result _ _ _ _ _ c.in_ok-push_text-in-NoMap.ensures c.push_map.ensures)
