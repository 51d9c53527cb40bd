use Rattle.std.proofs.lemmas.Iterator.Adapters.{position_from-zero}
use Rattle.wad_dir.specs.Map.{same_name, entry_names}
use Rattle.wad_dir.proofs.map.place_of.Goals as goal

pub loop-k-init : goal.loop-k-init
loop-k-init c = position_from-zero (λ n. same_name n c.args.name.now) (entry_names c.args.run.now)
