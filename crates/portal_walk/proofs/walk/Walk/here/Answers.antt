use Rattle.std.proofs.Common.{◌-◌, IsSome, length, slice_get, refl, sym, ap, ◌∙◌, subst}
use Rattle.portal_walk.specs.declared.path.Frame.{Frame}
use Rattle.portal_walk.specs.Scene.{IsNumber}
use Rattle.portal_walk.specs.Walk.{WalkParts, IsTop}
use Rattle.portal_walk.proofs.SideLines.{all_at}
use Rattle.portal_walk.proofs.walk.Walk.here.Goals as goal

pub unwrap-requires : goal.unwrap-requires
unwrap-requires c = subst IsSome (sym (c.top.ensures ∙ ap (λ (w : WalkParts). slice_get w.frames (length w.frames - 1)) c.self.view_is ∙ c.requires.1.1)) refl

pub get-requires : goal.get-requires
get-requires c =
    let s = c.self.inside in
    all_at (λ (f : Frame). IsNumber s.scene.mesh.triangles f.edge) s.path.frames (length s.path.frames - 1) c.unwrap.result c.self.invariant.walk.numbered (sym c.top.ensures ∙ c.unwrap.ensures)

pub returns : goal.returns
returns c = subst (λ (w : WalkParts). IsTop w c.get.result.now) c.self.view_is (c.unwrap.result, sym c.top.ensures ∙ c.unwrap.ensures, c.get.ensures)
