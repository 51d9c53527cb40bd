use Rattle.std.proofs.Common.{◌≡◌, ◌∙◌, ℕ, List, Ok, Err, Vec, ap, subst, sym}
use Rattle.std.specs.declared.alloc.Global.{Global}
use Rattle.std.proofs.lemmas.Result.{err_from_is_err_and}
use Rattle.wad_dir.specs.declared.parts.Wad.{Wad}
use Rattle.wad_dir.specs.Map.{entry_names}
use Rattle.wad_dir.specs.Wad.{WadFile, file_of, names_of_lumps}
use Rattle.map_answers.specs.SightStatus.Answer.{MakesAnswer}
use Rattle.sight_run.proofs.Whole.{asked_are_maps, directory_refused, gives_read, gives_unread, names_cause, of_names, of_stop, of_whole, stop_cause, wad_read, wad_refused, wad_unfetched}
use Rattle.sight_run.specs.All.{AllCalls, MapsCall, maps_in, wad_in}
use Rattle.sight_run.specs.Reply.{reply_seen}
use Rattle.sight_run.proofs.all.do_all.Goals as goal

pub returns-in_err-bytes-clause-told : goal.returns-in_err-bytes-clause-told
returns-in_err-bytes-clause-told g c =
    let p = err_from_is_err_and c.from_residual.result c.from_residual.ensures.1 in
    λ files e. rw (p.1, p.2) (gives_unread {V = WadFile} {D = WadFile} (λ w. w) (wad_in c.args.source.now.file files) (AllCalls c.args.out.now c.args.source.now.large c.args.only.now c.args.report.now c.args.method c.args.refused) c.in_err-bytes.field-0.0 (wad_unfetched {V = Vec ℕ Global} (λ bytes. bytes.items) c.args.source.now.file files c.in_err-bytes.field-0.0 ((rw c.as_str.ensures at c.in_err-bytes.ensures.told) files e)))

pub returns-in_err-bytes-clause-refusals : goal.returns-in_err-bytes-clause-refusals
returns-in_err-bytes-clause-refusals g c =
    let p = err_from_is_err_and c.from_residual.result c.from_residual.ensures.1 in
    rw (p.1, p.2) (of_whole c.args.only.now c.args.refused c.in_err-bytes.field-0.0 c.in_err-bytes.ensures.first)

pub returns-in_err-wad-clause-told : goal.returns-in_err-wad-clause-told
returns-in_err-wad-clause-told g c =
    let p = err_from_is_err_and c.from_residual-in_err-wad.result c.from_residual-in_err-wad.ensures.1 in
    let read = rw c.deref.ensures.value at c.in_err-wad.ensures.read in
    λ files e. rw (p.1, p.2) (gives_unread {V = Wad} {D = WadFile} (file_of c.in_ok-bytes.bytes.items) (wad_in c.args.source.now.file files) (AllCalls c.args.out.now c.args.source.now.large c.args.only.now c.args.report.now c.args.method c.args.refused) c.in_err-wad.field-0.0
    (wad_refused {V = Wad} (file_of c.in_ok-bytes.bytes.items) c.args.source.now.file files c.in_ok-bytes.bytes.items c.in_err-wad.field-0.0 ((rw c.as_str.ensures at c.in_ok-bytes.ensures.told) files e) read))

pub returns-in_err-wad-clause-refusals : goal.returns-in_err-wad-clause-refusals
returns-in_err-wad-clause-refusals g c =
    let p = err_from_is_err_and c.from_residual-in_err-wad.result c.from_residual-in_err-wad.ensures.1 in
    rw (p.1, p.2) (of_whole c.args.only.now c.args.refused c.in_err-wad.field-0.0 (directory_refused {V = Wad} (file_of c.deref.result.now) _ c.in_err-wad.field-0.0 c.in_err-wad.ensures.refusals c.in_err-wad.ensures.read))

pub returns-in_err-maps-clause-told : goal.returns-in_err-maps-clause-told
returns-in_err-maps-clause-told g c =
    let p = err_from_is_err_and c.from_residual-in_err-maps.result c.from_residual-in_err-maps.ensures.1 in
    let w : WadFile = file_of c.in_ok-bytes.bytes.items c.in_ok-wad.wad in
    let read = rw c.deref.ensures.value at c.in_ok-wad.ensures.read in
    let names = rw c.deref.ensures.value at c.in_ok-wad.ensures.names in
    let made : MakesAnswer {V = Vec (List ℕ) Global} (λ maps. maps.items) (Err c.in_err-maps.field-0.0) (maps_in (names_of_lumps w) c.args.only.now) =
    subst (λ (ns : List (List ℕ)). MakesAnswer {V = Vec (List ℕ) Global} (λ maps. maps.items) (Err c.in_err-maps.field-0.0) (maps_in ns c.args.only.now)) (sym names) c.in_err-maps.ensures.maps in
    λ files e. rw (p.1, p.2) (gives_read (wad_in c.args.source.now.file files) w (AllCalls c.args.out.now c.args.source.now.large c.args.only.now c.args.report.now c.args.method c.args.refused) (Err c.in_err-maps.field-0.0)
    (wad_read c.args.source.now.file files c.in_ok-bytes.bytes.items w ((rw c.as_str.ensures at c.in_ok-bytes.ensures.told) files e) read)
    (gives_unread {V = Vec (List ℕ) Global} {D = List (List ℕ)} (λ maps. maps.items) (maps_in (names_of_lumps w) c.args.only.now) (λ maps. MapsCall c.args.out.now c.args.report.now c.args.source.now.large maps c.args.method c.args.refused w) c.in_err-maps.field-0.0 made))

pub returns-in_err-maps-clause-cause : goal.returns-in_err-maps-clause-cause
returns-in_err-maps-clause-cause g c =
    let p = err_from_is_err_and c.from_residual-in_err-maps.result c.from_residual-in_err-maps.ensures.1 in
    rw (p.1, p.2) (names_cause c.args.only.now _ _ c.in_err-maps.field-0.0 c.in_err-maps.ensures.refusals c.in_ok-bytes.ensures.cause)

pub returns-in_err-maps-clause-refusals : goal.returns-in_err-maps-clause-refusals
returns-in_err-maps-clause-refusals g c =
    let p = err_from_is_err_and c.from_residual-in_err-maps.result c.from_residual-in_err-maps.ensures.1 in
    rw (p.1, p.2) (of_names c.args.only.now c.args.refused c.in_err-maps.field-0.0 c.in_err-maps.ensures.refusals)

pub make_reply-requires-clause-among : goal.make_reply-requires-clause-among
make_reply-requires-clause-among g c κs within =
    rw c.deref-3.ensures.value (asked_are_maps (entry_names c.in_ok-wad.wad.entries) c.args.only.now c.in_ok-maps.maps.items c.in_ok-maps.ensures.maps)

pub returns-clause-told : goal.returns-clause-told
returns-clause-told g c = λ files e.
    let w : WadFile = file_of c.in_ok-bytes.bytes.items c.in_ok-wad.wad in
    let read = rw c.deref.ensures.value at c.in_ok-wad.ensures.read in
    let names = rw c.deref.ensures.value at c.in_ok-wad.ensures.names in
    let called = rw (c.deref-2.ensures.value, c.deref-3.ensures.value) at c.make_reply.ensures.called in
    let asked : maps_in (names_of_lumps w) c.args.only.now ≡ Ok c.in_ok-maps.maps.items = ap (λ (ns : List (List ℕ)). maps_in ns c.args.only.now) names ∙ c.in_ok-maps.ensures.maps in
    gives_read (wad_in c.args.source.now.file files) w (AllCalls c.args.out.now c.args.source.now.large c.args.only.now c.args.report.now c.args.method c.args.refused) (reply_seen c.make_reply.result)
    (wad_read c.args.source.now.file files c.in_ok-bytes.bytes.items w ((rw c.as_str.ensures at c.in_ok-bytes.ensures.told) files e) read)
    (gives_read (maps_in (names_of_lumps w) c.args.only.now) c.in_ok-maps.maps.items (λ maps. MapsCall c.args.out.now c.args.report.now c.args.source.now.large maps c.args.method c.args.refused w) (reply_seen c.make_reply.result) asked called)

pub returns-clause-cause : goal.returns-clause-cause
returns-clause-cause g c = stop_cause c.args.refused _ _ c.make_reply.result c.make_reply.ensures.refusals c.in_ok-bytes.ensures.cause

pub returns-clause-refusals : goal.returns-clause-refusals
returns-clause-refusals g c = of_stop c.args.only.now c.args.refused c.make_reply.result c.make_reply.ensures.refusals
