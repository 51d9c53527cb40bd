use Rattle.std.proofs.Common.{ℕ, ◌<◌, ◌∙◌, sym, subst, None, arith, below_more}
use Rattle.sight_names.specs.Lumps.{count_linedefs, line_fault}
use Rattle.map_lumps.proofs.Reading.{first_some, is_none_of, none_found}
use Rattle.map_lumps.proofs.checks.first_line_fault.Goals as goal

pub returns-then-is_some-clause-first : goal.returns-then-is_some-clause-first
returns-then-is_some-clause-first c = first_some (line_fault c.args.format c.args.linedefs.now c.args.sidedefs.now c.args.vertexes.now c.args.sectors.now) (count_linedefs c.args.format c.args.linedefs.now) c.loop-k.k c.line_fault-fault.result (subst (λ (n : ℕ). c.loop-k.k < n) c.count_linedefs-k-end.ensures c.loop-k-test.true) c.loop-k.invariant c.line_fault-fault.ensures c.if-is_some.ensures

pub loop-k-preserved : goal.loop-k-preserved
loop-k-preserved c = below_more _ _ c.loop-k.invariant (sym c.line_fault-fault.ensures ∙ is_none_of c.line_fault-fault.result c.if-is_some.ensures)

pub returns-clause-first : goal.returns-clause-first
returns-clause-first c = sym (none_found (line_fault c.args.format c.args.linedefs.now c.args.sidedefs.now c.args.vertexes.now c.args.sectors.now) (count_linedefs c.args.format c.args.linedefs.now) None (λ j l. c.loop-k.invariant j (omega arith)))
