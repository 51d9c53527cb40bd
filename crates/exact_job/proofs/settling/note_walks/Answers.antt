use Rattle.std.proofs.Common.{◌++◌, List, map, sym, ◌∙◌, ap, subst, arith}
use Rattle.std.specs.Prelude.{All}
use Rattle.std.proofs.lemmas.Option.{slice_get_read}
use Rattle.sight_names.specs.Ray.{IsInRange}
use Rattle.pair_budget.specs.declared.results.Reached.{Reached}
use Rattle.pair_budget.specs.PairRays.{toward}
use Rattle.row_trees.specs.declared.made.Made.{Made}
use Rattle.exact_job.proofs.Rounds.{all_noted, walk_noted}
use Rattle.exact_job.proofs.settling.note_walks.Goals as goal

pub note_found-requires : goal.note_found-requires
note_found-requires c =
    let at = slice_get_read c.args.walks.now c.args.count c.loop-source.source c.index-walks-source.result (sym c.requires.count) c.loop-source-test.true c.index-walks-source.is in
    let e = c.as_slice.ensures.value ∙ ap (λ (x : Made). x.found.items) (sym c.index-walks-source.is) in
    subst (λ (rs : List Reached). All (λ (r : Reached). IsInRange r.ray) rs) (sym e) (c.requires.range c.loop-source.source c.index-walks-source.result at)

pub loop-source-preserved : goal.loop-source-preserved
loop-source-preserved c =
    let at = slice_get_read c.args.walks.now c.args.count c.loop-source.source c.index-walks-source.result (sym c.requires.count) c.loop-source-test.true c.index-walks-source.is in
    let e = c.as_slice.ensures.value ∙ ap (λ (x : Made). x.found.items) (sym c.index-walks-source.is) in
    walk_noted c.args.walks.now c.loop-source.source c.index-walks-source.result c.args.rays.now.items c.loop-source.rays.items c.note_found.new.rays.items at c.loop-source.invariant
    (c.in_ok-note_found.ensures ∙ ap (λ (rs : List Reached). c.loop-source.rays.items ++ map (toward c.loop-source.source) rs) e)

pub returns : goal.returns
returns c = all_noted c.args.walks.now c.loop-source.source c.args.rays.now.items c.loop-source.rays.items (let e = c.requires.count in let t = c.loop-source-test.false in omega (arith, e, t)) c.loop-source.invariant
