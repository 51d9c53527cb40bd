use Rattle.std.proofs.Common.{◌≡◌, ℕ, ◌+◌, ◌≤◌, List, length, slice_get, slice_index_or, Some, sym, ap, ◌∙◌, subst, arith}
use Rattle.std.specs.List.{slice_range}
use Rattle.std.proofs.lemmas.Option.{slice_get-get_or}
use Rattle.gate_floods.specs.declared.gate_masks.gate.Gate.{Gate}
use Rattle.gate_floods.specs.GateMasks.Gates.{AreGatesFrom}
use Rattle.gate_floods.proofs.GateMasks.Gathering.{gates_between, start_order}
use Rattle.gate_floods.proofs.gate_masks.gates.Gates.out_of.Goals as goal

start_there : (starts : List ℕ) (k r n : ℕ) → length starts ≡ n + 1 → k ≤ n → r ≡ slice_index_or starts k r → slice_get starts k ≡ Some r
start_there starts k r n len le e = slice_get-get_or starts k r (omega (arith, len, le)) ∙ ap Some (sym e)

pub between-requires-clause-order : goal.between-requires-clause-order
between-requires-clause-order c =
    let i = c.requires.indexed in
    let w = c.requires.within in
    start_order c.args.self.now.gates.items c.args.sector c.index-start.result.now c.index-end.result.now
    (i.starts c.args.sector c.index-start.result.now (start_there c.args.self.now.starts.items c.args.sector c.index-start.result.now c.args.self.now.sectors i.each (omega (arith, w)) c.index-start.ensures))
    (i.starts (c.args.sector + 1) c.index-end.result.now (start_there c.args.self.now.starts.items (c.args.sector + 1) c.index-end.result.now c.args.self.now.sectors i.each (omega (arith, w)) c.index-end.ensures))

pub between-requires-clause-within : goal.between-requires-clause-within
between-requires-clause-within c =
    let i = c.requires.indexed in
    let w = c.requires.within in
    let s = i.starts (c.args.sector + 1) c.index-end.result.now (start_there c.args.self.now.starts.items (c.args.sector + 1) c.index-end.result.now c.args.self.now.sectors i.each (omega (arith, w)) c.index-end.ensures) in
    subst (λ (es : List Gate). c.index-end.result.now ≤ length es) (sym c.deref.ensures.value) s.within

pub returns : goal.returns
returns c =
    let i = c.requires.indexed in
    let w = c.requires.within in
    subst (AreGatesFrom c.args.self.now.gates.items c.args.sector) (sym (c.between.ensures ∙ ap (λ (es : List Gate). slice_range es c.index-start.result.now c.index-end.result.now) c.deref.ensures.value))
    (gates_between c.args.self.now.gates.items c.args.sector c.index-start.result.now c.index-end.result.now
    (i.starts c.args.sector c.index-start.result.now (start_there c.args.self.now.starts.items c.args.sector c.index-start.result.now c.args.self.now.sectors i.each (omega (arith, w)) c.index-start.ensures))
    (i.starts (c.args.sector + 1) c.index-end.result.now (start_there c.args.self.now.starts.items (c.args.sector + 1) c.index-end.result.now c.args.self.now.sectors i.each (omega (arith, w)) c.index-end.ensures)))
