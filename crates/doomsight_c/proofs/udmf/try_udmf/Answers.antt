use Rattle.udmf_map.specs.Lumps.{lump_bytes}
use Rattle.doomsight_c.proofs.udmf.try_udmf.Goals as goal

pub returns-clause-spelled : goal.returns-clause-spelled
returns-clause-spelled c = record {
  lumps = lump_bytes c.in_ok-lumps.lumps;
  is_read = c.in_ok-lumps.ensures.lumps;
  linedefs = c.put_lumps.ensures.linedefs;
  sidedefs = c.put_lumps.ensures.sidedefs;
  vertexes = c.put_lumps.ensures.vertexes;
  sectors = c.put_lumps.ensures.sectors;
  sized = c.put_lumps.ensures.sizes;
}
