use Rattle.std.proofs.Common.{sym}
use Rattle.map_answers.proofs.SightStatus.Lines.{pushed}
use Rattle.map_answers.proofs.sight_status.texts.push_reason.Goals as goal

pub returns-in_ok-push_text-in-BadLump : goal.returns-in_ok-push_text-in-BadLump
returns-in_ok-push_text-in-BadLump c = rw c.in-BadLump.is (pushed c.push_lumps.result _ _ _ _ _ c.in_ok-push_text-in-BadLump.ensures c.push_lumps.ensures)

pub returns-in_ok-push_text-in-BadText : goal.returns-in_ok-push_text-in-BadText
returns-in_ok-push_text-in-BadText c = rw c.in-BadText.is (pushed c.push_texts.result _ _ _ _ _ c.in_ok-push_text-in-BadText.ensures c.push_texts.ensures)

pub returns-in_ok-push_text-in-Limit : goal.returns-in_ok-push_text-in-Limit
returns-in_ok-push_text-in-Limit c = let e = sym c.bound_name.ensures in rw c.in-Limit.is (rw e (pushed c.push_text-in-Limit-2.result _ _ _ _ _ c.in_ok-push_text-in-Limit.ensures c.push_text-in-Limit-2.ensures))

pub returns-in_ok-push_text-in-BadMap : goal.returns-in_ok-push_text-in-BadMap
returns-in_ok-push_text-in-BadMap c = rw c.in-BadMap.is (pushed c.push_flaw.result _ _ _ _ _ c.in_ok-push_text-in-BadMap.ensures c.push_flaw.ensures)
