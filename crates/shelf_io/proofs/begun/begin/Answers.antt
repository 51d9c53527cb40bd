use Rattle.std.proofs.Common.{[], ◌∷◌, string_bytes}
use Rattle.shelf_io.proofs.BegunLemmas.{among_any, among_pushed, among_then}
use Rattle.shelf_io.proofs.begun.begin.Goals as goal

pub returns-in_err-made : goal.returns-in_err-made
returns-in_err-made g c = among_any _ _ (c.args.name.now ∷ []) (among_then _ _ _ [] c.take_out.ensures.begun c.close_straight.ensures)

pub returns-in-Err : goal.returns-in-Err
returns-in-Err g c = among_any _ _ (c.args.name.now ∷ []) (rw c.in-Err.ensures.items (among_then _ _ _ [] c.take_out.ensures.begun c.close_straight.ensures))

pub returns : goal.returns
returns g c =
    among_then _ _ _ (c.args.name.now ∷ []) (among_any _ _ (c.args.name.now ∷ []) (among_then _ _ _ [] c.take_out.ensures.begun c.close_straight.ensures))
    (among_pushed (λ b. string_bytes b.name) c.close_straight.new.begun.items c.push.new.self.items c.in_ok-made.made c.args.name.now c.in_default-push.ensures.items c.in_ok-made.ensures)
