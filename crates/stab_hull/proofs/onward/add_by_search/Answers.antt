use Rattle.std.proofs.Common.{arith, ◌≡◌, ◌+◌, ◌<◌, ◌++◌, ◌∷◌, [], length, ap, ◌∙◌}
use Rattle.std.proofs.lemmas.Grind.{common_steps}
use Rattle.sight_names.specs.declared.limits.TheConstants.{RIGHT_END}
use Rattle.sight_names.specs.declared.names.EndAt.{EndAt}
use Rattle.sight_names.specs.Splitting.{EndPoints}
use Rattle.stab_hull.specs.Portals.{portals_of}
use Rattle.stab_hull.specs.Sleeves.{frames_of}
use Rattle.stab_hull.proofs.HistoryLemmas.{hull_added, pairs_shown}
use Rattle.stab_hull.proofs.Sleeves.{as_many_frames, cut_back, frames_pushed, goes_noted, goes_open, goes_stuck, grown_history, last_noted, noted, placed, some_frames, stays_err, stays_stuck, whole}
use Rattle.stab_hull.proofs.Lines.{coded_of, shown_barred}
use Rattle.stab_hull.proofs.onward.add_by_search.Goals as goal

pub add-requires : goal.add-requires
add-requires g c =
    let xs = c.args.portals.now.items in
    record { top = (whole (frames_of xs) c.args.hull.now.lefts c.args.hull.now.rights c.args.hull.now.cones.items c.requires.sleeve (some_frames xs c.requires.there)).cone }

pub returns-in-Ok-None : goal.returns-in-Ok-None
returns-in-Ok-None g c =
    let xs = c.args.portals.now.items in
    let fs = frames_of xs in
    let ls = c.args.hull.now.lefts in
    let rs = c.args.hull.now.rights in
    let cs = c.args.hull.now.cones.items in
    let ls' = c.add.new.self.lefts in
    let rs' = c.add.new.self.rights in
    let cs' = c.add.new.self.cones.items in
    let k : c.len.result ≡ length c.reserve.new.self.items = (let e = c.len.ensures in grind (arith, common_steps)) in
    let top = last_noted xs c.reserve.new.self.items c.len.result c.index.result.now c.reserve.ensures.items k c.requires.there c.index.ensures in
    let history = grown_history fs c.index.result.now.frame ls rs ls' rs' cs cs' c.requires.sleeve top c.add.ensures.lefts c.add.ensures.rights c.add.ensures.cones in
    let place : c.len-place.result ≡ length fs = placed xs c.reserve.new.self.items c.len-place.result c.reserve.ensures.items (let e = c.len-place.ensures in grind (arith, common_steps)) in
    let left : EndAt = record { code = c.len-place.result; at = c.args.left } in
    let right : EndAt = record { code = c.len-place.result + RIGHT_END; at = c.args.right } in
    let few : length fs < RIGHT_END = (let l = c.requires.few in let many = as_many_frames xs in omega (arith, many, l)) in
    let hull = hull_added fs left right ls rs ls' rs' cs cs' place few (ap (λ n. n + RIGHT_END) place) (whole fs ls rs cs c.requires.sleeve (some_frames xs c.requires.there)) c.in-Ok-None.field-0 c.in-Ok-None.ensures.free c.in-Ok-None.field-0-is in
    let x = noted c.frame_over-frame.result c.args.note in
    let longer = c.push_reserved.ensures.items ∙ ap (λ ys. ys ++ x ∷ []) c.reserve.ensures.items in
    let p : EndPoints = record { left = c.args.left; right = c.args.right } in
    goes_noted xs c.push_reserved.new.self.items x p ls' rs' cs' longer (goes_open fs (frames_of c.push_reserved.new.self.items) p c.frame_over-frame.result ls' rs' cs' history hull c.frame_over-frame.ensures (ap frames_of longer ∙ frames_pushed xs x))

pub four-requires-clause-coded : goal.four-requires-clause-coded
four-requires-clause-coded g c =
    let xs = c.args.portals.now.items in
    let fs = frames_of xs in
    let ls = c.args.hull.now.lefts in
    let rs = c.args.hull.now.rights in
    let cs = c.args.hull.now.cones.items in
    let place : c.len-place.result ≡ length fs = placed xs c.reserve.new.self.items c.len-place.result c.reserve.ensures.items (let e = c.len-place.ensures in grind (arith, common_steps)) in
    let left : EndAt = record { code = c.len-place.result; at = c.args.left } in
    let right : EndAt = record { code = c.len-place.result + RIGHT_END; at = c.args.right } in
    let few : length fs < RIGHT_END = (let l = c.requires.few in let many = as_many_frames xs in omega (arith, many, l)) in
    let shows = pairs_shown fs left right ls rs c.add.new.self.lefts c.add.new.self.rights cs c.add.new.self.cones.items place few (ap (λ n. n + RIGHT_END) place) (whole fs ls rs cs c.requires.sleeve (some_frames xs c.requires.there)) c.in-Ok-Some.field-0 c.in-Ok-Some.ensures.free c.in-Ok-Some.pairs c.in-Ok-Some.field-0-is in
    coded_of (portals_of fs ++ record { left = c.args.left; right = c.args.right } ∷ []) c.in-Ok-Some.pairs shows.ends

pub returns-in-Ok-Some : goal.returns-in-Ok-Some
returns-in-Ok-Some g c =
    let xs = c.args.portals.now.items in
    let fs = frames_of xs in
    let ls = c.args.hull.now.lefts in
    let rs = c.args.hull.now.rights in
    let cs = c.args.hull.now.cones.items in
    let ls' = c.add.new.self.lefts in
    let rs' = c.add.new.self.rights in
    let cs' = c.add.new.self.cones.items in
    let k : c.len.result ≡ length c.reserve.new.self.items = (let e = c.len.ensures in grind (arith, common_steps)) in
    let top = last_noted xs c.reserve.new.self.items c.len.result c.index.result.now c.reserve.ensures.items k c.requires.there c.index.ensures in
    let f = c.index.result.now.frame in
    let history = grown_history fs f ls rs ls' rs' cs cs' c.requires.sleeve top c.add.ensures.lefts c.add.ensures.rights c.add.ensures.cones in
    let place : c.len-place.result ≡ length fs = placed xs c.reserve.new.self.items c.len-place.result c.reserve.ensures.items (let e = c.len-place.ensures in grind (arith, common_steps)) in
    let left : EndAt = record { code = c.len-place.result; at = c.args.left } in
    let right : EndAt = record { code = c.len-place.result + RIGHT_END; at = c.args.right } in
    let few : length fs < RIGHT_END = (let l = c.requires.few in let many = as_many_frames xs in omega (arith, many, l)) in
    let shows = pairs_shown fs left right ls rs c.add.new.self.lefts c.add.new.self.rights cs c.add.new.self.cones.items place few (ap (λ n. n + RIGHT_END) place) (whole fs ls rs cs c.requires.sleeve (some_frames xs c.requires.there)) c.in-Ok-Some.field-0 c.in-Ok-Some.ensures.free c.in-Ok-Some.pairs c.in-Ok-Some.field-0-is in
    let p : EndPoints = record { left = c.args.left; right = c.args.right } in
    stays_stuck xs c.reserve.new.self.items c.args.note p c.cut.new.self.lefts c.cut.new.self.rights c.cut.new.self.cones.items c.four.result c.reserve.ensures.items
    (goes_stuck fs (frames_of c.reserve.new.self.items) p c.cut.new.self.lefts c.cut.new.self.rights c.cut.new.self.cones.items c.four.result
    (cut_back fs (frames_of c.reserve.new.self.items) f ls' rs' c.cut.new.self.lefts c.cut.new.self.rights cs' c.cut.new.self.cones.items history (ap frames_of c.reserve.ensures.items) top c.cut.ensures.lefts c.cut.ensures.rights c.cut.ensures.cones)
    (ap frames_of c.reserve.ensures.items) (shown_barred (portals_of fs ++ p ∷ []) c.in-Ok-Some.pairs c.four.result shows c.four.ensures.evidence c.four.ensures.blocks))

pub returns-in-Err : goal.returns-in-Err
returns-in-Err g c =
    let xs = c.args.portals.now.items in
    let fs = frames_of xs in
    let ls = c.args.hull.now.lefts in
    let rs = c.args.hull.now.rights in
    let cs = c.args.hull.now.cones.items in
    let ls' = c.add.new.self.lefts in
    let rs' = c.add.new.self.rights in
    let cs' = c.add.new.self.cones.items in
    let k : c.len.result ≡ length c.reserve.new.self.items = (let e = c.len.ensures in grind (arith, common_steps)) in
    let top = last_noted xs c.reserve.new.self.items c.len.result c.index.result.now c.reserve.ensures.items k c.requires.there c.index.ensures in
    let f = c.index.result.now.frame in
    let history = grown_history fs f ls rs ls' rs' cs cs' c.requires.sleeve top c.add.ensures.lefts c.add.ensures.rights c.add.ensures.cones in
    stays_err xs c.reserve.new.self.items c.args.note (record { left = c.args.left; right = c.args.right }) c.cut-in-Err.new.self.lefts c.cut-in-Err.new.self.rights c.cut-in-Err.new.self.cones.items c.in-Err.memory c.reserve.ensures.items
    (cut_back fs (frames_of c.reserve.new.self.items) f ls' rs' c.cut-in-Err.new.self.lefts c.cut-in-Err.new.self.rights cs' c.cut-in-Err.new.self.cones.items history (ap frames_of c.reserve.ensures.items) top c.cut-in-Err.ensures.lefts c.cut-in-Err.ensures.rights c.cut-in-Err.ensures.cones)
