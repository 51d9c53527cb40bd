use Rattle.std.proofs.Common.{length, subst}
use Rattle.sight_names.specs.declared.names.Method.{Method}
use Rattle.sight_names.specs.declared.names.Reading.{Reading}
use Rattle.doomsight_c.specs.Lumps.{of_lumps_given}
use Rattle.doomsight_c.specs.Asked.{method_of, reading_of}
use Rattle.doomsight_c.specs.Built.{IsBuiltFor}
use Rattle.doomsight_c.proofs.Giving.{given}
use Rattle.doomsight_c.proofs.exports.try_build.Goals as goal

pub put-requires-clause-in_order : goal.put-requires-clause-in_order
put-requires-clause-in_order c = c.in_ok-built.ensures.built.is_built.in_order

pub put-requires-clause-fits : goal.put-requires-clause-fits
put-requires-clause-fits c = c.in_ok-built.ensures.built.fits

pub returns-clause-given : goal.returns-clause-given
returns-clause-given c =
    let a = c.args in
    let read = λ (r : Reading). of_lumps_given r a.linedefs.now a.sidedefs.now a.vertexes.now a.sectors.now in
    let meant = reading_of a.format a.flags in
    let size = length a.reject.now in
    let b = c.in_ok-built.built in
    let as_read = subst (λ (r : Reading). IsBuiltFor (read r) c.method_of.result size b) c.reading_of.ensures c.in_ok-built.ensures.built in
    let as_asked = subst (λ (k : Method). IsBuiltFor (read meant) k size b) c.method_of.ensures as_read in
    given (read meant) (method_of a.budget) size b as_asked c.put.new.reject a.cert.now c.put.new.cert c.put.new.counts c.put.ensures.put
