-- What a path says of its ends once a portal was tried.
use Rattle.std.proofs.Common.{◌≡◌, List, ap₂}
use Rattle.sight_names.specs.Splitting.{EndPoints}
use Rattle.portal_walk.specs.declared.path.Frame.{Frame}
use Rattle.portal_walk.specs.Frames.{PathParts}

pub same_parts : (frames gs : List Frame) (ends es : List EndPoints) → frames ≡ gs → ends ≡ es → ◌≡◌ {A = PathParts} (record { frames = frames; ends = ends }) (record { frames = gs; ends = es })
same_parts frames gs ends es g h = ap₂ (λ (fs : List Frame) (ds : List EndPoints). let w : PathParts = record { frames = fs; ends = ds } in w) g h
