use Rattle.std.proofs.Common.{◌+◌, ◌-◌, ◌≡◌, length, arith, ap}
use Rattle.std.proofs.lemmas.List.{length-take}
use Rattle.std.proofs.lemmas.Slice.{drop-put_mid}
use Rattle.cert_format.proofs.pieces.copy_front.Goals as goal

pub returns-clause-others : goal.returns-clause-others
returns-clause-others c =
    let n = c.min-count.result in
    let long : length c.copy_from_slice.new.self ≡ c.args.at + n - c.args.at =
    omega (arith, ap length c.copy_from_slice.ensures.after, length-take n c.args.text.now, c.min-count.ensures) in
    drop-put_mid c.args.at (c.args.at + n - c.args.at) c.args.buf.now c.copy_from_slice.new.self (c.args.at + n) (omega arith) c.requires long
