use Rattle.std.proofs.Common.{ℕ, ◌+◌, ◌*◌, ◌==◌, List, [], ◌∷◌, ◌++◌, Bool, map, sym, ap, ◌∙◌, arith}
use Rattle.std.specs.Int.{bit_at}
use Rattle.std.specs.List.{range_with_len}
use Rattle.std.proofs.lemmas.List.FromFn.{map-range_with_len_more}
use Rattle.sight_names.specs.Lumps.{u16_at}
use Rattle.sound_reach.specs.Dampers.{is_damper}
use Rattle.sound_reach.proofs.flags.dampers.Goals as goal

pub loop-k-preserved : goal.loop-k-preserved
loop-k-preserved c =
    let e = c.blocks_sound.ensures ∙ ap (λ (n : ℕ). bit_at n 6 == 1) (c.number.ensures ∙ ap (λ (n : ℕ). u16_at c.args.linedefs.now (n * c.loop-k.k + 4)) c.linedef_len-len.ensures) in
    c.in_ok-push.ensures.items ∙ ap (λ (xs : List Bool). xs ++ c.blocks_sound.result ∷ []) c.loop-k.invariant
    ∙ ap (λ (x : Bool). map (is_damper c.args.format c.args.linedefs.now) (range_with_len 0 c.loop-k.k) ++ x ∷ []) e
    ∙ sym (map-range_with_len_more (is_damper c.args.format c.args.linedefs.now) 0 c.loop-k.k c.loop-k.k (omega arith))
