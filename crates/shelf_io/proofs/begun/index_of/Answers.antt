use Rattle.std.proofs.Common.{◌≡◌, ◌<◌, ◌≤◌, ◌∙◌, ℕ, List, length, string_bytes, ap, sym, refl, true, false, arith}
use Rattle.std.specs.Str.{bytes_eq}
use Rattle.shelf_io.proofs.BegunLemmas.{named_from, named_past}
use Rattle.shelf_io.proofs.begun.index_of.Goals as goal

pub loop-i-init : goal.loop-i-init
loop-i-init g c = refl

pub returns-then-eq-clause-none : goal.returns-then-eq-clause-none
returns-then-eq-clause-none g c =
    let within : c.loop-i.i < length c.args.begun.now = omega arith in
    let same : bytes_eq (string_bytes c.index-begun-i.result.name) c.args.name.now ≡ true = ap (λ (n : List ℕ). bytes_eq n c.args.name.now) (sym c.as_str.ensures.value) ∙ sym c.eq.ensures ∙ c.if-eq.true in
    sym (c.loop-i.invariant ∙ named_from (λ b. string_bytes b.name) c.args.begun.now c.args.name.now c.loop-i.i c.index-begun-i.result true within c.index-begun-i.is same)

pub loop-i-preserved : goal.loop-i-preserved
loop-i-preserved g c =
    let within : c.loop-i.i < length c.args.begun.now = omega arith in
    let other : bytes_eq (string_bytes c.index-begun-i.result.name) c.args.name.now ≡ false = ap (λ (n : List ℕ). bytes_eq n c.args.name.now) (sym c.as_str.ensures.value) ∙ sym c.eq.ensures ∙ c.if-eq.false in
    c.loop-i.invariant ∙ named_from (λ b. string_bytes b.name) c.args.begun.now c.args.name.now c.loop-i.i c.index-begun-i.result false within c.index-begun-i.is other

pub returns-clause-none : goal.returns-clause-none
returns-clause-none g c =
    let past : length c.args.begun.now ≤ c.loop-i.i = omega arith in
    sym (c.loop-i.invariant ∙ named_past (λ b. string_bytes b.name) c.args.begun.now c.args.name.now c.loop-i.i past)
