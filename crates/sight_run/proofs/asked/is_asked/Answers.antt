use Rattle.std.proofs.Common.{◌≡◌, List, ℕ, sym, ap, ◌∙◌}
use Rattle.wad_dir.specs.Map.{same_name}
use Rattle.sight_run.proofs.AskedNames.{named_here, named_more}
use Rattle.sight_run.proofs.asked.is_asked.Goals as goal

pub returns-then-is_same_name : goal.returns-then-is_same_name
returns-then-is_same_name c =
    let told_so : c.is_same_name.result ≡ same_name c.name-item.result c.args.map.now = c.is_same_name.ensures ∙ ap (λ (x : List ℕ). same_name x c.args.map.now) (c.as_bytes.ensures.value ∙ c.as_str.ensures) in
    named_here c.args.map.now c.args.only.now c.loop-name.name-index c.name-item.result c.loop-name-test.true c.name-item.is (sym told_so ∙ c.if-is_same_name.true) c.loop-name.invariant

pub loop-name-preserved : goal.loop-name-preserved
loop-name-preserved c =
    let told_so : c.is_same_name.result ≡ same_name c.name-item.result c.args.map.now = c.is_same_name.ensures ∙ ap (λ (x : List ℕ). same_name x c.args.map.now) (c.as_bytes.ensures.value ∙ c.as_str.ensures) in
    named_more c.args.map.now c.args.only.now c.loop-name.name-index c.name-item.result c.loop-name-test.true c.name-item.is (sym told_so ∙ c.if-is_same_name.false) c.loop-name.invariant
