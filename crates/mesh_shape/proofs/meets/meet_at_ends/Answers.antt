use Rattle.std.proofs.Common.{refl}
use Rattle.mesh_shape.proofs.meets.meet_at_ends.Goals as goal
use Rattle.geom_exact.proofs.Meeting.{ends_meet, apart_meet}

pub returns-in-Apart : goal.returns-in-Apart
returns-in-Apart c = (λ h. apart_meet _ _ _ _ c.in-Apart.ensures, λ h. refl)

pub returns-in-Ends : goal.returns-in-Ends
returns-in-Ends c = (λ h. ends_meet _ _ _ _ c.in-Ends.ensures, λ h. refl)
