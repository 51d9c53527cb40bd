use Rattle.std.proofs.Common.{◌≡◌, ◌++◌, ℕ, List, None, sym, ap, ◌∙◌, string_bytes}
use Rattle.wad_dir.specs.Wad.{file_of}
use Rattle.whole_wad.specs.declared.outcomes.MapOutcome.{MapOutcome}
use Rattle.whole_wad.specs.Outcomes.{ComesOf, stop_of_all}
use Rattle.whole_wad.proofs.Telling.{comes_more, name_more, report_more, stops_here, stops_later}
use Rattle.whole_wad.proofs.whole.tell_maps.Goals as goal

pub returns-in-Some : goal.returns-in-Some
returns-in-Some g c =
    stops_here (file_of c.args.bytes.now c.args.wad.now) c.args.large c.args.method c.args.refused c.args.names.now c.loop-name.name-index _ c.in_ok-outcome.outcome c.loop-name-test.true c.in_ok-outcome.ensures.name c.in_ok-outcome.ensures.comes
    c.loop-name.invariant.ahead c.in-Some.refusal c.in-Some.ensures

pub loop-name-preserved : goal.loop-name-preserved
loop-name-preserved g c =
    let w = file_of c.args.bytes.now c.args.wad.now in
    let o = c.in_ok-outcome.outcome in
    let pushed = c.in_ok-push.ensures.items in
    let written = c.in_ok-push_str.ensures.bytes ∙ ap (λ (xs : List ℕ). string_bytes c.loop-name.report ++ xs) c.deref-in-loop-name.ensures in
    record {
      each = name_more c.args.names.now c.loop-name.name-index _ c.loop-name.outcomes.items c.push.new.self.items o c.loop-name-test.true c.loop-name.invariant.each c.in_ok-outcome.ensures.name pushed;
      comes = comes_more (ComesOf w c.args.large c.args.method c.args.refused) c.loop-name.outcomes.items c.push.new.self.items o c.loop-name.invariant.comes c.in_ok-outcome.ensures.comes pushed;
      goes_on = comes_more (λ (x : MapOutcome). stop_of_all c.args.refused x.made ≡ None) c.loop-name.outcomes.items c.push.new.self.items o c.loop-name.invariant.goes_on (sym c.in_default.ensures) pushed;
      ahead = stops_later w c.args.large c.args.method c.args.refused c.args.names.now c.loop-name.name-index _ o c.loop-name-test.true c.in_ok-outcome.ensures.name c.in_ok-outcome.ensures.comes c.loop-name.invariant.ahead c.in_default.ensures;
      report = report_more c.args.spelling c.loop-name.outcomes.items c.push.new.self.items o (string_bytes c.loop-name.report) (string_bytes c.in_ok-row.row) (string_bytes c.push_str.new.self) c.loop-name.invariant.report c.in_ok-row.ensures written pushed;
    }
