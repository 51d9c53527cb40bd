use Rattle.std.proofs.Common.{◌≡◌, Ok, sym, ap, ◌∙◌}
use Rattle.sight_names.specs.Map.{map_of}
use Rattle.map_answers.specs.Input.{map_named}
use Rattle.wad_dir.specs.AllMaps.Names.{name_before_nul}
use Rattle.wad_dir.specs.Wad.{file_of}
use Rattle.whole_wad.specs.Rejects.{reject_named}
use Rattle.table_verdicts.specs.declared.map_list.entry.Said.TheVariants as said
use Rattle.table_verdicts.specs.MapList.Entry.{format_named, said_of_map}
use Rattle.table_verdicts.proofs.map_list.named.entry_of.Goals as goal

pub returns-in_ok-sizes-in-Ok-clause-is : goal.returns-in_ok-sizes-in-Ok-clause-is
returns-in_ok-sizes-in-Ok-clause-is c =
    let name = c.args.name.now in
    let w = file_of c.args.bytes.now c.args.wad.now in
    let word : c.text_of-text.result.now ≡ name_before_nul name = c.text_of-text.ensures in
    let read : Ok (map_of c.in-Ok.plan) ≡ map_named c.args.large w (name_before_nul name) = sym c.in-Ok.ensures.map ∙ ap (map_named c.args.large w) word in
    let format : c.in_ok-format-in-Ok.format ≡ format_named w (name_before_nul name) = c.in_ok-format-in-Ok.ensures ∙ ap (format_named w) word in
    let reject : c.reject_named-reject.result.now ≡ reject_named w (name_before_nul name) = c.reject_named-reject.ensures ∙ ap (reject_named w) word in
    let sizes = c.in_ok-sizes-in-Ok.ensures in
    λ i. record { name = name; said = (ap (λ s. said.Read s) sizes ∙ (λ j. said_of_map (read j) (format j) (reject j))) i }
