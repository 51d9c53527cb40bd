use Rattle.std.proofs.Common.{List, ℕ, ap, ◌∙◌}
use Rattle.wad_dir.specs.Map.{entry_names}
use Rattle.wad_dir.specs.AllMaps.Asked.{fault_of_name}
use Rattle.sight_run.proofs.AskedNames.{fault_here, fault_more}
use Rattle.sight_run.proofs.asked.first_fault.Goals as goal

pub returns-in-Some : goal.returns-in-Some
returns-in-Some g c =
    fault_here (entry_names c.args.wad.now.entries) c.args.only.now c.loop-name.name-index c.name-item.result c.in-Some.fault c.loop-name-test.true c.name-item.is
    (c.in-Some.ensures ∙ ap (λ (x : List ℕ). fault_of_name (entry_names c.args.wad.now.entries) x) c.as_str.ensures) c.loop-name.invariant

pub loop-name-preserved : goal.loop-name-preserved
loop-name-preserved g c =
    fault_more (entry_names c.args.wad.now.entries) c.args.only.now c.loop-name.name-index c.name-item.result c.loop-name-test.true c.name-item.is
    (c.in_default.ensures ∙ ap (λ (x : List ℕ). fault_of_name (entry_names c.args.wad.now.entries) x) c.as_str.ensures) c.loop-name.invariant
