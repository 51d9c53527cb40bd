use Rattle.std.proofs.Common.{Some, None}
use Rattle.std.proofs.lemmas.Result.{err_from_is_err_and}
use Rattle.cert_format.proofs.Loop.{goes_on, breaks, is_done}
use Rattle.cert_format.specs.CertGroups.Reading.{sector_at, sectors_at}
use Rattle.cert_format.proofs.cert_groups.groups.sectors_of.Goals as goal

pub returns-in_err-one : goal.returns-in_err-one
returns-in_err-one c =
    let p = err_from_is_err_and c.from_residual.result c.from_residual.ensures.1 in
    rw (p.1, p.2) (breaks (sector_at c.args.sectors c.args.total) (λ t. Some t) c.in_err-one.field-0.0 c.loop.group.items c.loop.last c.args.count c.loop.counter c.loop.rest.now (sectors_at c.args.sectors c.args.total None c.args.count c.args.bytes.now) c.loop-test.true c.in_err-one.ensures c.loop.invariant)

pub loop-preserved : goal.loop-preserved
loop-preserved c = rw c.in_ok-push.ensures.items (goes_on (sector_at c.args.sectors c.args.total) (λ t. Some t) c.loop.group.items c.loop.last c.args.count c.loop.counter c.loop.rest.now c.in_ok-one.one c.in_ok-one.after.now (sectors_at c.args.sectors c.args.total None c.args.count c.args.bytes.now) c.loop-test.true c.in_ok-one.ensures c.loop.invariant)

pub returns : goal.returns
returns c = is_done (sector_at c.args.sectors c.args.total) (λ t. Some t) c.loop.group.items c.loop.last c.args.count c.loop.counter c.loop.rest.now (sectors_at c.args.sectors c.args.total None c.args.count c.args.bytes.now) c.loop-test.false c.loop.invariant
