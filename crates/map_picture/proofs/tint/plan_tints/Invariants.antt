use Rattle.std.proofs.Common.{◌≡◌, take, map}
use Rattle.map_picture.specs.declared.tint.Tint.TheVariants as tint
use Rattle.map_picture.proofs.tint.plan_tints.Given as goal

abbrev pub invariant-loop-group : goal.invariant-loop-group
invariant-loop-group l = l.tints.items ≡ map (λ names. tint.Other) (take l._group-index l.groups)
