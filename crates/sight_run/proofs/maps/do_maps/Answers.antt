use Rattle.std.proofs.lemmas.Result.{err_from_is_err_and}
use Rattle.sight_run.proofs.Listing.{list_read}
use Rattle.sight_run.proofs.Whole.{gives_unread}
use Rattle.sight_run.specs.declared.asked.ReadMaps.{ReadMaps}
use Rattle.sight_run.specs.Asked.{AskedMaps, asked_in}
use Rattle.sight_run.specs.Maps.{MapsListed}
use Rattle.sight_run.specs.Reply.{asked_seen, replied}
use Rattle.sight_run.proofs.maps.do_maps.Goals as goal

pub returns-in_err-asked-clause-told : goal.returns-in_err-asked-clause-told
returns-in_err-asked-clause-told g c =
    let p = err_from_is_err_and c.from_residual.result c.from_residual.ensures.1 in
    let source = c.args.source.now in
    λ files e. rw (p.1, p.2) (gives_unread {V = ReadMaps} {D = AskedMaps} asked_seen (asked_in source.file c.args.only.now files) (MapsListed c.args.report.now source.large) c.in_err-asked.field-0.0 ((rw c.as_str.ensures at c.in_err-asked.ensures.told) files e))

pub returns-in-Ok-clause-told : goal.returns-in-Ok-clause-told
returns-in-Ok-clause-told g c =
    let source = c.args.source.now in
    λ files e. list_read (asked_in source.file c.args.only.now files) (asked_seen c.in_ok-asked.asked) c.args.report.now source.large (replied c.in-Ok.reply) ((rw c.as_str.ensures at c.in_ok-asked.ensures.told) files e) c.in-Ok.ensures.shows
