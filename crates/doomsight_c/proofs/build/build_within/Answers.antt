use Rattle.std.proofs.Common.{◌∙◌}
use Rattle.sight_names.specs.Map.{map_of}
use Rattle.cert_format.specs.Sizes.{sizes_of_plan}
use Rattle.group_job.proofs.TwoSizes.{sizes_are}
use Rattle.whole_wad.proofs.Deciding.{lists_within}
use Rattle.doomsight_c.proofs.build.build_within.Goals as goal

pub returns-in-Ok : goal.returns-in-Ok
returns-in-Ok c =
    let e = c.in-Ok.ensures in
    let cert = c.in-Ok.built.cert in
    let m = map_of c.args.plan.now in
    record {
      built = record {
        fit = e.closed;
        sectors = e.sectors;
        table_is_whole = c.is_whole.ensures.whole;
        are_bytes = c.is_whole.ensures.bytes;
        sizes = sizes_are (sizes_of_plan c.args.plan.now) cert e.sizes ∙ c.has_sizes_of_map.ensures;
        in_order = e.in_order;
        accepted = e.accepted;
        symmetric = e.symmetric;
        decided = record { budget = e.by_groups.budget; is_budget = e.by_groups.is_budget; bits = e.by_groups.bits; listed_are = e.by_groups.listed };
        none_listed = e.enough;
        none_listed_in_full = e.whole;
        sight = record { blind = e.sight.blind; seen = e.sight.seen };
        by_method = lists_within m c.args.budget c.in-Ok.built.listed cert e.groups e.listed e.rays e.trees;
      };
    }
