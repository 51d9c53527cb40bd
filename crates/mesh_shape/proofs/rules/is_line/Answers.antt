use Rattle.std.proofs.Common.{ℕ, length, refl, sym, ap, ◌∙◌, arith, below_more}
use Rattle.std.proofs.lemmas.Bool.{false≢true}
use Rattle.sight_names.specs.Map.{map_of}
use Rattle.mesh_shape.proofs.RuleLemmas.{everywhere, no_line_behind, no_edge_of}
use Rattle.mesh_shape.specs.Search.{IsEdgeOf}
use Rattle.mesh_shape.proofs.rules.is_line.Goals as goal

pub returns-then-is_line_at : goal.returns-then-is_line_at
returns-then-is_line_at c = (λ h. let e = c.is_line_at.ensures.0 c.if-is_line_at.true in (c.loop-i.i, e.0, e.1, e.2, e.3), λ h. refl)

pub loop-i-preserved : goal.loop-i-preserved
loop-i-preserved c = below_more _ _ c.loop-i.invariant (λ h. false≢true (sym c.if-is_line_at.false ∙ c.is_line_at.ensures.1 h))

pub returns : goal.returns
returns c = (
  λ h. absurd (false≢true h),
  λ h. absurd (everywhere (λ (j : ℕ). IsEdgeOf (map_of c.args.plan.now) (record { from = c.args.u; to = c.args.v }) j → ⊥) c.loop-i.i c.loop-i.invariant
      (λ j le. no_edge_of c.args.plan.now j (record { from = c.args.u; to = c.args.v }) (no_line_behind c.args.plan.now j (let e = ap length c.lines-i-end.ensures.list in omega arith))) h.0 (h.1, h.2, h.3, h.4)),
)
