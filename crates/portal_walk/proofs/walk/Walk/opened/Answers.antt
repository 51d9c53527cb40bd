use Rattle.std.proofs.Common.{ℤ, w32, w64, rules}
use mir.Val.{SFits, to_z, of_z}
use Rattle.std.proofs.lemmas.Int.{to_z-of_z}
use Rattle.portal_walk.specs.Walk.{Opens}
use Rattle.portal_walk.proofs.Steps.{opens_by, top_there}
use Rattle.portal_walk.proofs.walk.Walk.opened.Goals as goal

kept : (P : ℤ → ℤ → ℤ → Type 0) (x y z : ℤ) → SFits w32 x → SFits w32 y → SFits w64 z → P x y z → P (to_z w32 (of_z w32 x)) (to_z w32 (of_z w32 y)) (to_z w64 (of_z w64 z))
kept P x y z a b c h = rw (to_z-of_z w32 x a, to_z-of_z w32 y b, to_z-of_z w64 z c) h

pub line-a-requires-clause-there : goal.line-a-requires-clause-there
line-a-requires-clause-there c = top_there c.args.self.now c.here-here.result.now c.here-here.ensures

pub returns : goal.returns
returns c = λ old o.
    let x = c.here-here.result.now in
    let l = c.line-a.result in
    kept (Opens old c.args.self.now x.triangle x.entered) l.0 l.1 l.2 (search rules) (search rules) (search rules) (opens_by old c.args.self.now x l.0 l.1 l.2 o c.here-here.ensures c.line-a.ensures.splits c.line-a.ensures.range)
