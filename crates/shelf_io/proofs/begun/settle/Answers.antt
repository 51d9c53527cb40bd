use Rattle.std.proofs.Common.{[], string_bytes}
use Rattle.shelf_io.proofs.BegunLemmas.{among_same, among_then, names_back}
use Rattle.shelf_io.proofs.begun.settle.Goals as goal

pub returns-in_default-clause-begun : goal.returns-in_default-clause-begun
returns-in_default-clause-begun g c =
    let same = names_back (λ b. string_bytes b.name) c.args.begun.now.items c.as_mut_slice.result.now c.flush_all-flushed.new.begun c.args.begun.now.len c.as_mut_slice.ensures.value c.as_mut_slice.ensures.len c.flush_all-flushed.auto.begun c.flush_all-flushed.ensures in
    among_then _ _ _ [] (among_same _ _ [] same) c.take_out.ensures.begun

pub returns-in_default-clause-none : goal.returns-in_default-clause-none
returns-in_default-clause-none g c = c.take_out.ensures.none

pub returns-then-is_err-clause-begun : goal.returns-then-is_err-clause-begun
returns-then-is_err-clause-begun g c =
    let same = names_back (λ b. string_bytes b.name) c.args.begun.now.items c.as_mut_slice.result.now c.flush_all-flushed.new.begun c.args.begun.now.len c.as_mut_slice.ensures.value c.as_mut_slice.ensures.len c.flush_all-flushed.auto.begun c.flush_all-flushed.ensures in
    among_then _ _ _ [] (among_same _ _ [] same) c.take_out.ensures.begun

pub returns-then-is_err-clause-none : goal.returns-then-is_err-clause-none
returns-then-is_err-clause-none g c = c.take_out.ensures.none

pub returns-clause-begun : goal.returns-clause-begun
returns-clause-begun g c =
    let same = names_back (λ b. string_bytes b.name) c.args.begun.now.items c.as_mut_slice.result.now c.flush_all-flushed.new.begun c.args.begun.now.len c.as_mut_slice.ensures.value c.as_mut_slice.ensures.len c.flush_all-flushed.auto.begun c.flush_all-flushed.ensures in
    among_then _ _ _ [] (among_same _ _ [] same) c.take_out.ensures.begun

pub returns-clause-none : goal.returns-clause-none
returns-clause-none g c = c.take_out.ensures.none
