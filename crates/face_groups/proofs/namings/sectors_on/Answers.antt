use Rattle.std.proofs.Common.{ℕ, sym, subst}
use Rattle.std.proofs.lemmas.Result.{IfOk-weaker}
use Rattle.smallvec.specs.SmallVec.{SmallVec}
use Rattle.face_groups.specs.Namings.{AreSectorsOn}
use Rattle.face_groups.proofs.Runs.{run_sectors}
use Rattle.face_groups.proofs.namings.sectors_on.Goals as goal

pub returns : goal.returns
returns c = IfOk-weaker c.sectors_of.result _ _ (λ (v : SmallVec ℕ) e. subst (AreSectorsOn c.args.namings.now c.args.face) (sym e) (run_sectors c.args.namings.now c.args.face c.run_of.result.now c.run_of.ensures)) c.sectors_of.ensures
