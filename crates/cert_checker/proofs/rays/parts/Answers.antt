use Rattle.std.proofs.Common.{◌≡◌, Option, Some, None, Bool, true, false, refl, sym, ◌∙◌}
use Rattle.std.specs.Option.{option_eq}
use mathlib.Core.Bool.{beq}
use Rattle.cert_checker.proofs.rays.parts.Goals as goal

told : (o : Option Bool) (b : Bool) → option_eq beq o (Some b) ≡ true → o ≡ Some b
told None b e = absurd (cc)
told (Some true) true e = refl
told (Some true) false e = absurd (cc)
told (Some false) true e = absurd (cc)
told (Some false) false e = refl

pub returns-then-eq : goal.returns-then-eq
returns-then-eq c = λ h. (c.is_left.ensures.left (told c.is_left.result true (sym c.eq.ensures ∙ c.if-eq.true)), c.is_left-then-eq.ensures.right (told c.is_left-then-eq.result false (sym c.eq-then-eq.ensures ∙ h)))
