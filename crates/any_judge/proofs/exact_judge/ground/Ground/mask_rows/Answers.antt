use Rattle.std.proofs.Common.{refl}
use Rattle.any_judge.proofs.exact_judge.ground.Ground.mask_rows.Goals as goal

pub returns : goal.returns
returns c = rw (c.as_slice.ensures.value, c.as_slice-2.ensures.value) refl
