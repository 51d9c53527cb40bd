use Rattle.std.proofs.Common.{rules, [], string_bytes, refl}
use Rattle.shelf_io.proofs.BegunLemmas.{among_removed, among_same, among_then, none_named}
use Rattle.shelf_io.proofs.begun.take_out.Goals as goal

pub loop-i-init : goal.loop-i-init
loop-i-init g c = among_same _ _ [] refl

pub loop-i-preserved-in-Some-replace : goal.loop-i-preserved-in-Some-replace
loop-i-preserved-in-Some-replace g c = among_then _ _ _ [] c.loop-i.invariant (among_removed (λ b. string_bytes b.name) c.loop-i.begun.items c.remove.new.self.items c.in-Some.i c.remove.ensures.items)

pub loop-i-preserved-in-Some-replace-2 : goal.loop-i-preserved-in-Some-replace-2
loop-i-preserved-in-Some-replace-2 g c = among_then _ _ _ [] c.loop-i.invariant (among_removed (λ b. string_bytes b.name) c.loop-i.begun.items c.remove.new.self.items c.in-Some.i c.remove.ensures.items)

pub loop-i-preserved : goal.loop-i-preserved
loop-i-preserved g c = among_then _ _ _ [] c.loop-i.invariant (among_removed (λ b. string_bytes b.name) c.loop-i.begun.items c.remove.new.self.items c.in-Some.i c.remove.ensures.items)

pub returns-clause-none : goal.returns-clause-none
returns-clause-none g c = none_named (λ b. string_bytes b.name) c.loop-i.begun.items c.args.name.now (search rules)
