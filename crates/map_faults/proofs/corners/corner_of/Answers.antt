use Rattle.std.proofs.Common.{ℕ, ℤ, ◌≡◌, ◌+◌, ◌<◌, ◌∙◌, to_z, of_z, to_z-of_z, w32, w64, sym, ap, subst, subst₂, rules, arith}
use Rattle.std.specs.Prelude.{nat_abs}
use mir.Val.{SFits}
use Rattle.geom_exact.specs.Formulas.{turn_of}
use Rattle.map_faults.specs.Corners.{IsMeanDown}
use Rattle.map_faults.proofs.Cornering.{some_weight, corner_is}
use Rattle.map_faults.proofs.corners.corner_of.Goals as goal

pub mean_down-requires-clause-some : goal.mean_down-requires-clause-some
mean_down-requires-clause-some c =
    let first : c.unsigned_abs-first.result ≡ nat_abs (turn_of c.args.r c.args.s c.args.q) = (let a = c.unsigned_abs-first.ensures.value in let b = c.turn-3.ensures.value in grind (arith, to_z-of_z)) in
    let second : c.unsigned_abs-second.result ≡ nat_abs (turn_of c.args.r c.args.s c.args.p) = (let a = c.unsigned_abs-second.ensures.value in let b = c.turn-4.ensures.value in grind (arith, to_z-of_z)) in
    subst₂ (λ (m n : ℕ). 0 < m + n) (sym first) (sym second) (some_weight c.args.p c.args.q c.args.r c.args.s (λ e. c.if-turn.false (ap (λ (z : ℤ). of_z w64 z) (c.turn.ensures.value ∙ e ∙ sym c.turn-2.ensures.value))))

pub mean_down-requires-2-clause-some : goal.mean_down-requires-2-clause-some
mean_down-requires-2-clause-some c =
    let first : c.unsigned_abs-first.result ≡ nat_abs (turn_of c.args.r c.args.s c.args.q) = (let a = c.unsigned_abs-first.ensures.value in let b = c.turn-3.ensures.value in grind (arith, to_z-of_z)) in
    let second : c.unsigned_abs-second.result ≡ nat_abs (turn_of c.args.r c.args.s c.args.p) = (let a = c.unsigned_abs-second.ensures.value in let b = c.turn-4.ensures.value in grind (arith, to_z-of_z)) in
    subst₂ (λ (m n : ℕ). 0 < m + n) (sym first) (sym second) (some_weight c.args.p c.args.q c.args.r c.args.s (λ e. c.if-turn.false (ap (λ (z : ℤ). of_z w64 z) (c.turn.ensures.value ∙ e ∙ sym c.turn-2.ensures.value))))

pub returns : goal.returns
returns c =
    let first : c.unsigned_abs-first.result ≡ nat_abs (turn_of c.args.r c.args.s c.args.q) = (let a = c.unsigned_abs-first.ensures.value in let b = c.turn-3.ensures.value in grind (arith, to_z-of_z)) in
    let second : c.unsigned_abs-second.result ≡ nat_abs (turn_of c.args.r c.args.s c.args.p) = (let a = c.unsigned_abs-second.ensures.value in let b = c.turn-4.ensures.value in grind (arith, to_z-of_z)) in
    let across : to_z w32 (of_z w32 c.mean_down.result) ≡ c.mean_down.result = to_z-of_z (let fits : SFits w32 c.mean_down.result = search rules in fits) in
    let up : to_z w32 (of_z w32 c.mean_down-2.result) ≡ c.mean_down-2.result = to_z-of_z (let fits : SFits w32 c.mean_down-2.result = search rules in fits) in
    let px : to_z w32 (of_z w32 c.args.p.x) ≡ c.args.p.x = to_z-of_z (let fits : SFits w32 c.args.p.x = search rules in fits) in
    let qx : to_z w32 (of_z w32 c.args.q.x) ≡ c.args.q.x = to_z-of_z (let fits : SFits w32 c.args.q.x = search rules in fits) in
    let py : to_z w32 (of_z w32 c.args.p.y) ≡ c.args.p.y = to_z-of_z (let fits : SFits w32 c.args.p.y = search rules in fits) in
    let qy : to_z w32 (of_z w32 c.args.q.y) ≡ c.args.q.y = to_z-of_z (let fits : SFits w32 c.args.q.y = search rules in fits) in
    let m = nat_abs (turn_of c.args.r c.args.s c.args.q) in
    let n = nat_abs (turn_of c.args.r c.args.s c.args.p) in
    corner_is c.args.p c.args.q c.args.r c.args.s _ (λ e. c.if-turn.false (ap (λ (z : ℤ). of_z w64 z) (c.turn.ensures.value ∙ e ∙ sym c.turn-2.ensures.value)))
    (subst (λ (z : ℤ). IsMeanDown m n c.args.p.x c.args.q.x z) (sym across) (subst₂ (λ (k l : ℕ). IsMeanDown k l c.args.p.x c.args.q.x c.mean_down.result) first second
    (subst₂ (λ (a b : ℤ). IsMeanDown c.unsigned_abs-first.result c.unsigned_abs-second.result a b c.mean_down.result) px qx c.mean_down.ensures.mean)))
    (subst (λ (z : ℤ). IsMeanDown m n c.args.p.y c.args.q.y z) (sym up) (subst₂ (λ (k l : ℕ). IsMeanDown k l c.args.p.y c.args.q.y c.mean_down-2.result) first second
    (subst₂ (λ (a b : ℤ). IsMeanDown c.unsigned_abs-first.result c.unsigned_abs-second.result a b c.mean_down-2.result) py qy c.mean_down-2.ensures.mean)))
