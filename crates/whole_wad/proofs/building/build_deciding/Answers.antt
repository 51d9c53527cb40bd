use Rattle.std.proofs.Common.{◌≡◌, ◌∙◌, List, [], subst, sym}
use Rattle.sight_names.specs.declared.names.Ask.TheVariants.{Full}
use Rattle.sight_names.specs.declared.names.Pair.{Pair}
use Rattle.sight_names.specs.Map.{map_of}
use Rattle.cert_format.specs.Sizes.{sizes_of_plan}
use Rattle.whole_wad.specs.Built.{Decides, TellsSightButListed}
use Rattle.whole_wad.proofs.Deciding.{decides, sight, symmetric, three_in_order}
use Rattle.whole_wad.proofs.building.build_deciding.Goals as goal

pub returns-in-Ok-clause-built : goal.returns-in-Ok-clause-built
returns-in-Ok-clause-built g c =
    let e = c.in-Ok.ensures in
    let built = c.in-Ok.built in
    let m = map_of c.args.plan.now in
    let none : c.of.result ≡ [] = c.of.ensures ∙ c.new.ensures.items in
    record {
      fit = e.closed;
      sectors = e.sectors;
      table_is_whole = c.is_whole.ensures.whole;
      are_bytes = c.is_whole.ensures.bytes;
      sizes = e.sizes ∙ c.has_sizes_of_map.ensures;
      in_order = three_in_order built.cert (sizes_of_plan c.args.plan.now) e.sizes e.in_order e.one_each;
      accepted = e.accepted;
      symmetric = symmetric m built.table e.sectors e.sight;
      decided = subst (λ (ps : List Pair). Decides m Full built.table ps) (sym none) (decides m built.table e.sectors e.sight);
      none_listed = λ h. none;
      none_listed_in_full = λ h. none;
      sight = subst (λ (ps : List Pair). TellsSightButListed m built.table ps) (sym none) (sight m built.table e.sectors e.sight);
      by_method = record { cert = e.groups; none_listed = none; tells = e.sight };
    }
