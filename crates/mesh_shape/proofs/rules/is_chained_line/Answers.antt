use Rattle.mesh_shape.proofs.rules.is_chained_line.Goals as goal

pub returns-then-is_line_at : goal.returns-then-is_line_at
returns-then-is_line_at c = λ _. let e = c.is_line_at.ensures.0 c.if-is_line_at.true in (_, e.0, e.1, e.2, e.3)
