use Rattle.std.proofs.Common.{Option, ◌↔◌, IsTrue, subst}
use Rattle.sight_names.specs.declared.names.Side.{Side}
use Rattle.sight_names.specs.Map.{map_of}
use Rattle.map_faults.specs.Tears.{DoesName}
use Rattle.map_faults.proofs.Turning.{same_bool, other_bool, not_torn_alike, is_torn}
use Rattle.map_faults.proofs.tears.add_tear.Goals as goal

pub returns-then-names_sector-does_name : goal.returns-then-names_sector-does_name
returns-then-names_sector-does_name c = not_torn_alike (map_of c.args.plan.now) c.args.mesh.now.triangles c.args.sides.now c.args.side c.args.from c.args.point c.args.tears.now.items c.in-Some.to c.names_sector.result c.does_name.result c.in-Some.ensures c.names_sector.ensures
    (subst (λ (o : Option Side). IsTrue c.does_name.result ↔ DoesName (map_of c.args.plan.now) o) c.side_on.ensures c.does_name.ensures) (same_bool c.names_sector.result c.does_name.result c.if-names_sector-does_name.true)

pub returns : goal.returns
returns c = is_torn (map_of c.args.plan.now) c.args.mesh.now.triangles c.args.sides.now c.args.side c.args.from c.args.point c.args.tears.now.items c.push.new.self.items c.in-Some.to c.names_sector.result c.does_name.result c.in-Some.ensures c.names_sector.ensures
    (subst (λ (o : Option Side). IsTrue c.does_name.result ↔ DoesName (map_of c.args.plan.now) o) c.side_on.ensures c.does_name.ensures) (other_bool c.names_sector.result c.does_name.result c.if-names_sector-does_name.false) c.in_ok-push.ensures.items
