use Rattle.std.proofs.Common.{inl, inr}
use Rattle.map_maker.proofs.Printing.{printed_is}
use Rattle.map_maker.proofs.Short.{refused}
use Rattle.map_maker.proofs.maker.grid.Goals as goal

pub returns-in-Ok : goal.returns-in-Ok
returns-in-Ok c = printed_is _ c.in-Ok.bytes.items c.in-Ok.ensures

pub unreachable-requires : goal.unreachable-requires
unreachable-requires c = refused _ c.args.n c.args.format c.written.result c.in-Err-TooManyLumps.field-0 c.requires.side c.written.ensures c.in-Err-TooManyLumps.is (inl c.in-Err-TooManyLumps.field-0-is)

pub unreachable-requires-in-Err-TooLong : goal.unreachable-requires-in-Err-TooLong
unreachable-requires-in-Err-TooLong c = refused _ c.args.n c.args.format c.written.result c.in-Err-TooLong.field-0 c.requires.side c.written.ensures c.in-Err-TooLong.is (inr c.in-Err-TooLong.field-0-is)
