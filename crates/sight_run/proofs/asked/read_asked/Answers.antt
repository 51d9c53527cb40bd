use Rattle.std.proofs.Common.{◌∙◌, ℕ, List, Err, Vec, ap, subst, sym}
use Rattle.std.specs.declared.alloc.Global.{Global}
use Rattle.std.proofs.lemmas.Result.{err_from_is_err_and}
use Rattle.wad_dir.specs.declared.parts.Wad.{Wad}
use Rattle.wad_dir.specs.Map.{entry_names}
use Rattle.wad_dir.specs.Wad.{WadFile, file_of, names_of_lumps}
use Rattle.map_answers.specs.SightStatus.Answer.{MakesAnswer}
use Rattle.sight_run.proofs.Verifying.{maps_read, maps_unread, names_asked, unfetched_asked, unread_asked, wad_unread}
use Rattle.sight_run.proofs.Whole.{asked_are_maps, directory_refused, names_cause, wad_read, wad_refused, wad_unfetched}
use Rattle.sight_run.specs.All.{maps_in}
use Rattle.sight_run.proofs.asked.read_asked.Goals as goal

pub returns-in_err-bytes-clause-told : goal.returns-in_err-bytes-clause-told
returns-in_err-bytes-clause-told g c =
    let p = err_from_is_err_and c.from_residual.result c.from_residual.ensures.1 in
    let s = c.in_err-bytes.field-0.0 in
    λ files e. rw (p.1, p.2) (wad_unread {V = WadFile} (λ w. w) c.args.wad.now c.args.only.now files s (wad_unfetched {V = Vec ℕ Global} (λ bytes. bytes.items) c.args.wad.now files s (c.in_err-bytes.ensures.told files e)))

pub returns-in_err-bytes-clause-refusals : goal.returns-in_err-bytes-clause-refusals
returns-in_err-bytes-clause-refusals g c =
    let p = err_from_is_err_and c.from_residual.result c.from_residual.ensures.1 in
    rw (p.1, p.2) (unfetched_asked c.args.only.now c.in_err-bytes.field-0.0 c.in_err-bytes.ensures.refusals c.in_err-bytes.ensures.first)

pub returns-in_err-wad-clause-told : goal.returns-in_err-wad-clause-told
returns-in_err-wad-clause-told g c =
    let p = err_from_is_err_and c.from_residual-in_err-wad.result c.from_residual-in_err-wad.ensures.1 in
    let s = c.in_err-wad.field-0.0 in
    let read = rw c.deref.ensures.value at c.in_err-wad.ensures.read in
    λ files e. rw (p.1, p.2) (wad_unread {V = Wad} (file_of c.in_ok-bytes.bytes.items) c.args.wad.now c.args.only.now files s
    (wad_refused {V = Wad} (file_of c.in_ok-bytes.bytes.items) c.args.wad.now files c.in_ok-bytes.bytes.items s (c.in_ok-bytes.ensures.told files e) read))

pub returns-in_err-wad-clause-refusals : goal.returns-in_err-wad-clause-refusals
returns-in_err-wad-clause-refusals g c =
    let p = err_from_is_err_and c.from_residual-in_err-wad.result c.from_residual-in_err-wad.ensures.1 in
    let s = c.in_err-wad.field-0.0 in
    rw (p.1, p.2) (unread_asked c.args.only.now s c.in_err-wad.ensures.refusals (directory_refused {V = Wad} (file_of c.deref.result.now) _ s c.in_err-wad.ensures.refusals c.in_err-wad.ensures.read))

pub returns-in_err-maps-clause-told : goal.returns-in_err-maps-clause-told
returns-in_err-maps-clause-told g c =
    let p = err_from_is_err_and c.from_residual-in_err-maps.result c.from_residual-in_err-maps.ensures.1 in
    let s = c.in_err-maps.field-0.0 in
    let w : WadFile = file_of c.in_ok-bytes.bytes.items c.in_ok-wad.wad in
    let read = rw c.deref.ensures.value at c.in_ok-wad.ensures.read in
    let names = rw c.deref.ensures.value at c.in_ok-wad.ensures.names in
    let made : MakesAnswer {V = Vec (List ℕ) Global} (λ maps. maps.items) (Err s) (maps_in (names_of_lumps w) c.args.only.now) =
    subst (λ (ns : List (List ℕ)). MakesAnswer {V = Vec (List ℕ) Global} (λ maps. maps.items) (Err s) (maps_in ns c.args.only.now)) (sym names) c.in_err-maps.ensures.maps in
    λ files e. rw (p.1, p.2) (maps_unread {V = Vec (List ℕ) Global} (λ maps. maps.items) c.args.wad.now c.args.only.now files w s
    (wad_read c.args.wad.now files c.in_ok-bytes.bytes.items w (c.in_ok-bytes.ensures.told files e) read) made)

pub returns-in_err-maps-clause-cause : goal.returns-in_err-maps-clause-cause
returns-in_err-maps-clause-cause g c =
    let p = err_from_is_err_and c.from_residual-in_err-maps.result c.from_residual-in_err-maps.ensures.1 in
    rw (p.1, p.2) (names_cause c.args.only.now _ _ c.in_err-maps.field-0.0 c.in_err-maps.ensures.refusals c.in_ok-bytes.ensures.cause)

pub returns-in_err-maps-clause-refusals : goal.returns-in_err-maps-clause-refusals
returns-in_err-maps-clause-refusals g c =
    let p = err_from_is_err_and c.from_residual-in_err-maps.result c.from_residual-in_err-maps.ensures.1 in
    rw (p.1, p.2) (names_asked c.args.only.now c.in_err-maps.field-0.0 c.in_err-maps.ensures.refusals)

pub returns-clause-told : goal.returns-clause-told
returns-clause-told g c = λ files e.
    let w : WadFile = file_of c.in_ok-bytes.bytes.items c.in_ok-wad.wad in
    let read = rw c.deref.ensures.value at c.in_ok-wad.ensures.read in
    let names = rw c.deref.ensures.value at c.in_ok-wad.ensures.names in
    maps_read c.args.wad.now c.args.only.now files w c.in_ok-maps.maps.items (wad_read c.args.wad.now files c.in_ok-bytes.bytes.items w (c.in_ok-bytes.ensures.told files e) read)
    (ap (λ (ns : List (List ℕ)). maps_in ns c.args.only.now) names ∙ c.in_ok-maps.ensures.maps)

pub returns-clause-among : goal.returns-clause-among
returns-clause-among g c = asked_are_maps (entry_names c.in_ok-wad.wad.entries) c.args.only.now c.in_ok-maps.maps.items c.in_ok-maps.ensures.maps
