use Rattle.std.proofs.Common.{refl, get_or}
use Rattle.std.proofs.lemmas.Option.{slice_get-get_or}
use Rattle.exact_checker.proofs.joining.add_at.Goals as goal

pub returns : goal.returns
returns c = record {
  row = get_or c.args.rows.now c.args.place c.index-rows-place.result;
  put = c.add.new.row;
  there = slice_get-get_or c.args.rows.now c.args.place c.index-rows-place.result c.requires.place;
  adds = c.add.ensures;
  rows = refl;
}
