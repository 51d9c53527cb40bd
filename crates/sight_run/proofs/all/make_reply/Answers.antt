use Rattle.std.proofs.Common.{List, ℕ, Err, subst, sym}
use Rattle.wad_dir.specs.Wad.{file_of}
use Rattle.wad_dir.specs.AllMaps.All.{HasInOrder}
use Rattle.wad_dir.specs.AllMaps.Maps.{maps_in_names}
use Rattle.row_spelling.specs.declared.Spelling.{Spelling}
use Rattle.whole_wad.specs.Whole.{MakesWhole}
use Rattle.sight_run.specs.Reply.{replied}
use Rattle.sight_run.proofs.OneAll.{the_unmade, the_whole, unmade_so}
use Rattle.sight_run.proofs.all.make_reply.Goals as goal

pub returns-in-Err-clause-called : goal.returns-in-Err-clause-called
returns-in-Err-clause-called g c =
    rw c.status_of.ensures (the_unmade c.args.out.now c.args.report.now c.args.large c.args.maps.now c.args.method c.args.refused (file_of c.args.bytes.now c.args.wad.now) c.in-Err.unmade (subst (λ (x : Spelling). MakesWhole (file_of c.args.bytes.now c.args.wad.now) c.args.large c.args.maps.now c.args.method c.args.refused x (Err c.in-Err.unmade)) c.spelling_in-spelling.ensures c.in-Err.ensures))

pub returns-in-Err-clause-refusals : goal.returns-in-Err-clause-refusals
returns-in-Err-clause-refusals g c =
    rw c.status_of.ensures (unmade_so c.args.out.now c.args.report.now c.args.large c.args.maps.now c.args.method c.args.refused (file_of c.args.bytes.now c.args.wad.now) c.in-Err.unmade
    (subst (λ (ns : List (List ℕ)). HasInOrder (maps_in_names ns) c.args.maps.now) (sym c.requires.names) c.requires.among) (subst (λ (x : Spelling). MakesWhole (file_of c.args.bytes.now c.args.wad.now) c.args.large c.args.maps.now c.args.method c.args.refused x (Err c.in-Err.unmade)) c.spelling_in-spelling.ensures c.in-Err.ensures))

pub returns-in-Ok-reply_of-clause-called : goal.returns-in-Ok-reply_of-clause-called
returns-in-Ok-reply_of-clause-called g c =
    the_whole c.args.out.now c.args.report.now c.args.large c.args.maps.now c.args.method c.args.refused (file_of c.args.bytes.now c.args.wad.now) c.in-Ok.whole (replied c.in-Ok-reply_of.reply) (rw c.spelling_in-spelling.ensures at c.in-Ok.ensures) c.in-Ok-reply_of.ensures.reply
