-- The path of a walk as a track of portals, each with its frame for a note.
use Rattle.std.proofs.Common.{◌≡◌, ℕ, ◌-◌, ◌<◌, List, [], ◌∷◌, ◌++◌, Result, Ok, Err, length, take, slice_get, slice_set, get_or, Some, refl, sym, ap, ◌∙◌}
use Rattle.std.specs.Prelude.{map, option_map}
use Rattle.std.proofs.lemmas.List.{length-map, map-set}
use Rattle.std.proofs.Math.Seq.{map-set_same}
use Rattle.std.proofs.lemmas.Option.{slice_get-map, slice_get-get_or, same_Some}
use Rattle.sight_names.specs.declared.names.Memory.{Memory}
use Rattle.sight_names.specs.Splitting.{EndPoints}
use Rattle.stab_hull.specs.declared.onward.Told.{Told}
use Rattle.stab_hull.specs.declared.onward.Told.TheVariants as told
use Rattle.stab_hull.specs.declared.frame.Noted.{Noted}
use Rattle.stab_hull.specs.Portals.{ends_of_frame, portals_of}
use Rattle.stab_hull.specs.Sleeves.{HasLastLeft, HasLastRight, IsNotedOn, IsPortalTold, noted_frame, frames_of, note_of}
use Rattle.stab_hull.proofs.Sleeves.{fewer_ends, fewer_notes, last_ends}
use Rattle.portal_walk.specs.declared.path.Frame.{Frame}
use Rattle.portal_walk.specs.declared.path.Ways.{Ways}
use Rattle.portal_walk.specs.Frames.{PathParts, HasWays, TellsPortal, first_portals, with_ways}

abbrev pub parts_of : List (Noted Frame) → PathParts
parts_of xs = record { frames = map note_of xs; ends = portals_of (frames_of xs) }

joined : (fs gs : List Frame) (es hs : List EndPoints) → fs ≡ gs → es ≡ hs → let p : PathParts = record { frames = fs; ends = es } in let q : PathParts = record { frames = gs; ends = hs } in p ≡ q
joined fs gs es hs e h = cc

-- fewer portals
pub path_cut : (xs ys : List (Noted Frame)) (n : ℕ) → ys ≡ take n xs → parts_of ys ≡ first_portals n (parts_of xs)
path_cut xs ys n e = joined (map note_of ys) (take n (map note_of xs)) (portals_of (frames_of ys)) (take n (portals_of (frames_of xs))) (fewer_notes xs ys n e) (fewer_ends xs ys n e)

-- what is told of one more portal of a track is told of the path
pub told_on : (old new : List (Noted Frame)) (f : Frame) (e : EndPoints) (r : Result Told Memory) → IsPortalTold (portals_of (frames_of old)) e (portals_of (frames_of new)) r → IsNotedOn (map note_of old) f (map note_of new) r → TellsPortal (parts_of old) (parts_of new) f e r
told_on old new f e (Ok told.Open) t n = (joined (map note_of new) (map note_of old ++ f ∷ []) (portals_of (frames_of new)) (portals_of (frames_of old) ++ e ∷ []) n t.0, t.1)
told_on old new f e (Ok (told.Stuck v)) t n = (joined (map note_of new) (map note_of old) (portals_of (frames_of new)) (portals_of (frames_of old)) n t.0, t.1)
told_on old new f e (Ok told.Unseen) t n = joined (map note_of new) (map note_of old) (portals_of (frames_of new)) (portals_of (frames_of old)) n t
told_on old new f e (Err m) t n = joined (map note_of new) (map note_of old) (portals_of (frames_of new)) (portals_of (frames_of old)) n t

-- as many notes as portals
pub as_many_notes : (xs : List (Noted Frame)) → length (map note_of xs) ≡ length xs
as_many_notes xs = length-map xs note_of

-- a portal with other ways left
abbrev pub renoted : Noted Frame → Ways → Noted Frame
renoted x w = record { frame = x.frame; note = with_ways x.note w }

-- the stacks are of the same portals
pub track_set : (xs ys : List (Noted Frame)) (n : ℕ) (x : Noted Frame) (w : Ways) → x ≡ get_or xs n x → ys ≡ slice_set xs n (renoted x w) → frames_of ys ≡ frames_of xs
track_set xs ys n x w g e = ap frames_of e ∙ map-set_same noted_frame xs n (renoted x w) x (ap noted_frame g)

pub path_set : (xs ys : List (Noted Frame)) (n : ℕ) (x : Noted Frame) (w : Ways) → n < length xs → x ≡ get_or xs n x → ys ≡ slice_set xs n (renoted x w) → HasWays (parts_of xs) n w (parts_of ys)
path_set xs ys n x w l g e f at =
    let there : slice_get xs n ≡ Some x = slice_get-get_or xs n x l ∙ ap (λ (y : Noted Frame). Some y) (sym g) in
    let same : x.note ≡ f = same_Some x.note f (sym (slice_get-map note_of xs n ∙ ap (option_map note_of) there) ∙ at) in
    joined (map note_of ys) (slice_set (map note_of xs) n (with_ways f w)) (portals_of (frames_of ys)) (portals_of (frames_of xs))
    (ap (map note_of) e ∙ map-set note_of xs n (renoted x w) ∙ ap (λ (h : Frame). slice_set (map note_of xs) n (with_ways h w)) same)
    (ap portals_of (track_set xs ys n x w g e))

-- ---- the last ends, as they are read
module _ (xs : List (Noted Frame)) (x : Noted Frame) (n : ℕ) (k : n ≡ length xs) (some : 0 < length xs) (g : x ≡ get_or xs (n - 1) x) where
  pub last_left : HasLastLeft (portals_of (frames_of xs)) x.frame.left
  last_left = (ends_of_frame x.frame, last_ends xs x n k some g, refl)

  pub last_right : HasLastRight (portals_of (frames_of xs)) x.frame.right
  last_right = (ends_of_frame x.frame, last_ends xs x n k some g, refl)
