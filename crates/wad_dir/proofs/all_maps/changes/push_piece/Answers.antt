use Rattle.wad_dir.proofs.AllMaps.Splicing.{piece_seen}
use Rattle.wad_dir.proofs.all_maps.changes.push_piece.Goals as goal

pub returns : goal.returns
returns c =
    piece_seen c.args.out.now.items c.args.lumps.now c.extend_from_slice.new.self.items c.push.new.self.items c.args.done c.reject_place-place.result c.args.spot.now c.reject_of-reject.result c.args.table.now
    c.in_ok-extend_from_slice.ensures.items c.in_ok-push.ensures.items c.reject_place-place.ensures c.reject_of-reject.ensures
