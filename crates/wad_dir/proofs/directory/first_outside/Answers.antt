use Rattle.std.proofs.Common.{rules, arith, ◌+◌, ◌≤◌, subst, List, []}
use Rattle.std.specs.Prelude.{All}
use Rattle.std.proofs.lemmas.List.{take_all}
use Rattle.std.proofs.lemmas.List.Elements.{All-more}
use Rattle.std.proofs.lemmas.Grind.{common_steps}
use Rattle.wad_dir.specs.declared.parts.Entry.{Entry}
use Rattle.wad_dir.proofs.directory.first_outside.Goals as goal

pub loop-k-preserved : goal.loop-k-preserved
loop-k-preserved c = record {
  place = grind (arith, common_steps);
  inside = All-more (λ (e : Entry). e.at + e.size ≤ c.args.len) c.args.entries.now c.loop-k.k (record { name = []; at = 0; size = 0 }) c.loop-k-test.true c.loop-k.invariant.inside (c.if-not-lies_within_file.ensures.inside (search rules));
}

pub returns-clause-inside : goal.returns-clause-inside
returns-clause-inside c =
    subst (λ (es : List Entry). All (λ entry. entry.at + entry.size ≤ c.args.len) es) (take_all c.loop-k.k c.args.entries.now c.loop-k-test.false) c.loop-k.invariant.inside
