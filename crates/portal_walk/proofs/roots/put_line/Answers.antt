use Rattle.std.proofs.Common.{sym, ap, ◌∙◌, List, Option, Some}
use Rattle.sight_names.specs.declared.plan.Line.{Line}
use Rattle.portal_walk.specs.declared.roots.Root.{Root}
use Rattle.portal_walk.specs.Roots.{with_root}
use Rattle.portal_walk.proofs.RootOrder.{items_of, line_puts, no_roots, one_sector_puts, solid_puts, by_left}
use Rattle.portal_walk.proofs.roots.put_line.Goals.{then-line-via-then-line, then-line-via-else-line+then-eq}
use Rattle.portal_walk.proofs.roots.put_line.Goals as goal

pub returns-in_default : goal.returns-in_default
returns-in_default c = no_roots c.args.plan.now c.args.number (c.requires.entry ∙ ap (λ (o : Option Line). Some o) c.in_default.is) (items_of c.args.of_sectors.now)

pub returns-then-line : goal.returns-then-line
returns-then-line c =
    let there = c.requires.entry ∙ ap (λ (o : Option Line). Some o) c.in-Some.is in
    elim c.then-line.branch [
      | then-line-via-then-line w ↦ solid_puts c.args.plan.now c.args.number c.in-Some.line there w.if-line.true (items_of c.args.of_sectors.now)
      | then-line-via-else-line+then-eq w ↦ one_sector_puts c.args.plan.now c.args.number c.in-Some.line there (sym w.eq.ensures ∙ w.if-eq.true) (items_of c.args.of_sectors.now)
    ]

pub returns : goal.returns
returns c =
    let there = c.requires.entry ∙ ap (λ (o : Option Line). Some o) c.in-Some.is in
    line_puts c.args.plan.now c.args.number c.in-Some.line there c.requires.rules c.if-line.false (sym c.eq.ensures ∙ c.if-eq.false) (items_of c.args.of_sectors.now) (items_of c.put-2.new.of_sectors)
    (c.in_ok-put-2.ensures ∙ ap (λ (xs : List (List Root)). with_root c.in-Some.line.left (by_left c.args.plan.now c.args.number c.in-Some.line there) xs) c.in_ok-put.ensures)
