use Rattle.std.proofs.Common.{◌≡◌, ◌∙◌, List, length, arith, ap, refl, subst, sym}
use Rattle.wad_dir.specs.Map.{entry_names}
use Rattle.wad_dir.specs.Wad.{file_of}
use Rattle.wad_dir.specs.WadRewrite.Rewrite.{printed}
use Rattle.wad_dir.specs.declared.all_maps.parts.Change.{Change}
use Rattle.wad_dir.specs.AllMaps.All.{HasInOrder, names_changed, with_all}
use Rattle.wad_dir.specs.AllMaps.Maps.{maps_in_names}
use Rattle.wad_dir.proofs.AllMaps.InOrder.{in_order_through}
use Rattle.whole_wad.specs.declared.outcomes.MapOutcome.{MapOutcome}
use Rattle.whole_wad.specs.Outcomes.{changes_of, tables_of}
use Rattle.whole_wad.proofs.Changing.{changed, changed_in_order, counted}
use Rattle.whole_wad.proofs.whole.written.Goals as goal

pub with_rejects-requires-clause-among : goal.with_rejects-requires-clause-among
with_rejects-requires-clause-among c =
    let os = c.args.maps.outcomes.items in
    let are : c.deref-2.result.now ≡ changes_of os = c.deref-2.ensures.value ∙ c.in_ok-changes.ensures ∙ ap changes_of c.deref.ensures.value in
    subst (λ (cs : List Change). HasInOrder (maps_in_names (entry_names c.args.wad.now.entries)) (names_changed cs)) (sym are)
    (in_order_through (maps_in_names (entry_names c.args.wad.now.entries)) _ (names_changed (changes_of os)) c.requires.among (changed_in_order os))

pub overflow_sub-result : goal.overflow_sub-result
overflow_sub-result c =
    let os = c.args.maps.outcomes.items in
    let built : c.count_built-built.result ≡ length (tables_of os) = c.count_built-built.ensures ∙ ap (λ (xs : List MapOutcome). length (tables_of xs)) c.deref-3.ensures.value in
    omega (arith, built, counted os, c.len-2.ensures, c.args.maps.outcomes.ok)

pub overflow_sub-result-2 : goal.overflow_sub-result-2
overflow_sub-result-2 c =
    let os = c.args.maps.outcomes.items in
    let built : c.count_built-built.result ≡ length (tables_of os) = c.count_built-built.ensures ∙ ap (λ (xs : List MapOutcome). length (tables_of xs)) c.deref-3.ensures.value in
    let are : length c.in_ok-changes.changes.items ≡ length (changes_of os) = ap length (c.in_ok-changes.ensures ∙ ap changes_of c.deref.ensures.value) in
    omega (arith, built, are, changed os, c.len-3.ensures, c.in_ok-changes.changes.ok)

pub returns : goal.returns
returns c =
    let os = c.args.maps.outcomes.items in
    let built : c.count_built-built.result ≡ length (tables_of os) = c.count_built-built.ensures ∙ ap (λ (xs : List MapOutcome). length (tables_of xs)) c.deref-3.ensures.value in
    let same : c.in_ok-changes.changes.items ≡ changes_of os = c.in_ok-changes.ensures ∙ ap changes_of c.deref.ensures.value in
    let are : length c.in_ok-changes.changes.items ≡ length (changes_of os) = ap length same in
    record {
      bytes = ap (λ (cs : List Change). printed (with_all (file_of c.args.bytes.now c.args.wad.now) cs)) (sym (c.deref-2.ensures.value ∙ same)) ∙ c.in_ok-new.ensures;
      report_is = refl;
      maps = omega (arith, c.len.ensures, c.args.maps.outcomes.ok);
      built = built;
      refused = omega (arith, built, counted os, c.len-2.ensures, c.args.maps.outcomes.ok);
      cleared = omega (arith, built, are, changed os, c.len-3.ensures, c.in_ok-changes.changes.ok);
    }
