use Rattle.std.proofs.Common.{◌≤◌, List, [], ℕ, length, get_or, take, nat_cmp, sym, subst, arith}
use Rattle.std.specs.BTreeMap.{get}
use Rattle.std.specs.Cmp.Lexicographic.{slice_cmp}
use Rattle.wad_dir.specs.declared.parts.Entry.{Entry}
use Rattle.wad_dir.specs.Map.{entry_names}
use Rattle.wad_dir.proofs.Names.{names_take_length}
use Rattle.wad_dir.specs.AllMaps.Places.{AreLast}
use Rattle.wad_dir.proofs.AllMaps.LastPlaces.{last_more, names_more}
use Rattle.wad_dir.proofs.all_maps.places.last_places.Goals as goal

pub loop-k-preserved : goal.loop-k-preserved
loop-k-preserved c =
    let es : List Entry = c.args.entries.now in
    let none : Entry = record { name = []; at = 0; size = 0 } in
    let within : c.loop-k.k ≤ length es = omega (arith, c.loop-k-test.true) in
    subst (λ (ns : List (List ℕ)). AreLast ns (get (slice_cmp nat_cmp) c.insert.new.self)) (sym (names_more es c.loop-k.k none c.loop-k-test.true))
    (last_more (entry_names (take c.loop-k.k es)) (get_or es c.loop-k.k none).name c.told.result (get (slice_cmp nat_cmp) c.loop-k.places) (get (slice_cmp nat_cmp) c.insert.new.self) c.loop-k.k
    c.loop-k.invariant (names_take_length c.loop-k.k es within) c.told.ensures c.in_ok-insert.ensures.updates.0)
