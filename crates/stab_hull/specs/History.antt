-- What the stacks have of each start of a list of portals.
use Rattle.std.specs.Prelude.{◌≡◌, ℕ, ◌+◌, ◌≤◌, List, Some, length, take, slice_get}
use Rattle.sight_names.specs.declared.names.EndAt.{EndAt}
use Rattle.sight_names.specs.Splitting.{EndPoints}
use Rattle.geom_exact.specs.declared.extreme_lines.cone.Cone.{Cone}
use Rattle.stab_hull.specs.declared.frame.Frame.{Frame}
use Rattle.stab_hull.specs.Portals.{portals_of}
use Rattle.stab_hull.specs.Stacks.{IsHullOf}

-- as far as the frame says, the stacks have the ends and the cone of these portals
pub record IsFrameOf (es : List EndPoints) (lefts rights : List EndAt) (cones : List Cone) (f : Frame) : Type 0 where
  pub lefts_in : f.lefts ≤ length lefts
  pub rights_in : f.rights ≤ length rights
  pub cones_in : f.cones ≤ length cones
  pub hull : IsHullOf es (take f.lefts lefts) (take f.rights rights) (take f.cones cones)

-- so much of the stacks is of the portals up to the frame
pub record CountsStacks (ls rs : List EndAt) (cs : List Cone) (f : Frame) : Type 0 where
  pub lefts : f.lefts ≡ length ls
  pub rights : f.rights ≡ length rs
  pub cones : f.cones ≡ length cs

-- the first frame says no more of the stacks than the second
pub record IsFrameWithin (f g : Frame) : Type 0 where
  pub lefts : f.lefts ≤ g.lefts
  pub rights : f.rights ≤ g.rights
  pub cones : f.cones ≤ g.cones

-- each frame has on the stacks what is of the portals up to its own
pub record IsHistory (fs : List Frame) (lefts rights : List EndAt) (cones : List Cone) : Type 0 where
  pub frames : (k : ℕ) (f : Frame) → slice_get fs k ≡ Some f → IsFrameOf (take (k + 1) (portals_of fs)) lefts rights cones f
  pub order : (k m : ℕ) (f g : Frame) → k ≤ m → slice_get fs k ≡ Some f → slice_get fs m ≡ Some g → IsFrameWithin f g
