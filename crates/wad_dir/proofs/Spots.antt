-- Where a map is, in its parts: the marker, the run behind it, and the places in the run.
use Rattle.std.proofs.Common.{◌≡◌, ℕ, ◌+◌, List, [], length, drop, Bool, true, false, not, ◌&&◌, if◌then◌else◌, Option, Some, None, Result, Ok, Err, refl, sym, ap, ◌∙◌, arith}
use Rattle.std.specs.Prelude.{codes}
use Rattle.std.specs.List.{position_from}
use Rattle.std.proofs.lemmas.Iterator.Adapters.{position_from-zero}
use Rattle.sight_names.specs.declared.faults.Lump.{Lump}
use Rattle.sight_names.specs.declared.faults.Lump.TheVariants.{Linedefs, Sidedefs, Vertexes, Sectors}
use Rattle.sight_names.specs.declared.faults.MapFault.{MapFault}
use Rattle.sight_names.specs.declared.faults.MapFault.TheVariants as fault
use Rattle.sight_names.specs.declared.names.MapFormat.{MapFormat}
use Rattle.wad_dir.specs.declared.parts.MapSpot.{MapSpot}
use Rattle.wad_dir.specs.Map.{◌>>=◌, begins_with_name, begins_with_textmap, format_behind, format_told, last_from, lump_name, place_in_run, same_name, shifted, spot_behind, spot_in, spot_of}
use Rattle.wad_dir.proofs.Inserted.{more, run_is}

-- the first of the names that is this one
abbrev pub place : List ℕ → List (List ℕ) → Option ℕ
place name run = position_from (λ n. same_name n name) 0 run

pub place_is : (name : List ℕ) (run : List (List ℕ)) → place_in_run name run ≡ place name run
place_is name run = position_from-zero (λ n. same_name n name) run

-- the spot with these places in the run
abbrev pub spot_at : ℕ → Bool → MapFormat → ℕ → ℕ → ℕ → ℕ → Option ℕ → MapSpot
spot_at marker text format l s v c r = record { marker = marker; linedefs = marker + 1 + l; sidedefs = marker + 1 + s; vertexes = marker + 1 + v; sectors = marker + 1 + c; reject = shifted (marker + 1) r; format = format_told text format; text = text }

needed_at : Option ℕ → Lump → Result ℕ MapFault
needed_at o lump = elim o [ Some k ↦ Ok k | None ↦ Err (fault.Missing lump) ]

-- the spot where there are these places, or the first that is missing
spot_by : ℕ → Bool → MapFormat → Option ℕ → Option ℕ → Option ℕ → Option ℕ → Option ℕ → Result MapSpot MapFault
spot_by marker text format a b c d r = do
  linedefs ← needed_at a Linedefs
  sidedefs ← needed_at b Sidedefs
  vertexes ← needed_at c Vertexes
  sectors ← needed_at d Sectors
  Ok (spot_at marker text format linedefs sidedefs vertexes sectors r)

in_by : (marker : ℕ) (text : Bool) (format : MapFormat) (run : List (List ℕ)) → spot_in marker text format run ≡ spot_by marker text format (place_in_run (lump_name text Linedefs) run) (place_in_run (lump_name text Sidedefs) run) (place_in_run (lump_name text Vertexes) run) (place_in_run (lump_name text Sectors) run) (place_in_run (codes "REJECT") run)
unfolding spot_in spot_by needed_at
in_by marker text format run = refl

in_places : (marker : ℕ) (text : Bool) (format : MapFormat) (run : List (List ℕ)) → spot_in marker text format run ≡ spot_by marker text format (place (lump_name text Linedefs) run) (place (lump_name text Sidedefs) run) (place (lump_name text Vertexes) run) (place (lump_name text Sectors) run) (place (codes "REJECT") run)
in_places marker text format run = in_by marker text format run ∙ (λ i. spot_by marker text format (place_is (lump_name text Linedefs) run i) (place_is (lump_name text Sidedefs) run i) (place_is (lump_name text Vertexes) run i) (place_is (lump_name text Sectors) run i) (place_is (codes "REJECT") run i))

-- there are the four places
record HasPlaces (marker : ℕ) (text : Bool) (format : MapFormat) (a b c d r : Option ℕ) (spot : MapSpot) : Type 0 where
  l : ℕ
  s : ℕ
  v : ℕ
  k : ℕ
  linedefs : a ≡ Some l
  sidedefs : b ≡ Some s
  vertexes : c ≡ Some v
  sectors : d ≡ Some k
  is : spot ≡ spot_at marker text format l s v k r

places_of : (marker : ℕ) (text : Bool) (format : MapFormat) (a b c d r : Option ℕ) (spot : MapSpot) → spot_by marker text format a b c d r ≡ Ok spot → HasPlaces marker text format a b c d r spot
unfolding spot_by needed_at
places_of marker text format (Some l) (Some s) (Some v) (Some k) r spot h = grind (arith, spot_at)
places_of marker text format (Some l) (Some s) (Some v) None r spot h = absurd cc
places_of marker text format (Some l) (Some s) None d r spot h = absurd cc
places_of marker text format (Some l) None c d r spot h = absurd cc
places_of marker text format None b c d r spot h = absurd cc

-- ---- the parts of a spot

-- the run of the lumps that stand behind a marker
abbrev pub run_at : List (List ℕ) → List (List ℕ)
run_at after = more (begins_with_textmap after) [] after

-- what stands behind the run
abbrev pub end_at : List (List ℕ) → List (List ℕ)
end_at after = drop (length (run_at after)) after

-- a map of UDMF without its end
abbrev pub is_cut : List (List ℕ) → Bool
is_cut after = begins_with_textmap after && not (begins_with_name (codes "ENDMAP") (end_at after))

-- the place of one of the four lumps in the run
abbrev pub lump_place : Lump → List (List ℕ) → Option ℕ
lump_place lump after = place (lump_name (begins_with_textmap after) lump) (run_at after)

pub record IsSpot (ns : List (List ℕ)) (name : List ℕ) (spot : MapSpot) : Type 0 where
  pub marker : ℕ
  pub is_last : last_from ns name 0 None ≡ Some marker
  pub text : Bool
  pub is_text : begins_with_textmap (drop (marker + 1) ns) ≡ text
  pub whole : is_cut (drop (marker + 1) ns) ≡ false
  pub format : MapFormat
  pub behind_run : format_behind (end_at (drop (marker + 1) ns)) ≡ format
  pub l : ℕ
  pub s : ℕ
  pub v : ℕ
  pub c : ℕ
  pub r : Option ℕ
  pub linedefs : lump_place Linedefs (drop (marker + 1) ns) ≡ Some l
  pub sidedefs : lump_place Sidedefs (drop (marker + 1) ns) ≡ Some s
  pub vertexes : lump_place Vertexes (drop (marker + 1) ns) ≡ Some v
  pub sectors : lump_place Sectors (drop (marker + 1) ns) ≡ Some c
  pub reject : place (codes "REJECT") (run_at (drop (marker + 1) ns)) ≡ r
  pub is : spot ≡ spot_at marker text format l s v c r

-- a spot where the map isn't cut
whole_or : Bool → Result MapSpot MapFault → Result MapSpot MapFault
whole_or cut spot = if cut then Err fault.NoEnd else spot

whole_spot : (cut : Bool) (r : Result MapSpot MapFault) (spot : MapSpot) → whole_or cut r ≡ Ok spot → (cut ≡ false) × (r ≡ Ok spot)
unfolding whole_or
whole_spot true r spot h = absurd cc
whole_spot false r spot h = (refl, h)

behind_by : (marker : ℕ) (after : List (List ℕ)) → spot_behind marker after ≡ whole_or (is_cut after) (spot_in marker (begins_with_textmap after) (format_behind (end_at after)) (run_at after))
unfolding spot_behind whole_or
behind_by marker after =
    ap (λ (run : List (List ℕ)). if begins_with_textmap after && not (begins_with_name (codes "ENDMAP") (drop (length run) after)) then Err fault.NoEnd else spot_in marker (begins_with_textmap after) (format_behind (drop (length run) after)) run)
    (run_is (begins_with_textmap after) [] after)

-- the spot of a map whose marker is the last of its name
pub of_by : Option ℕ → List (List ℕ) → Result MapSpot MapFault
of_by o ns = elim o [ None ↦ Err fault.NoMarker | Some marker ↦ spot_behind marker (drop (marker + 1) ns) ]

pub spot_of_by : (ns : List (List ℕ)) (name : List ℕ) → spot_of ns name ≡ of_by (last_from ns name 0 None) ns
unfolding spot_of of_by
spot_of_by ns name = refl

-- a name that no entry has finds no map
pub none_found : (ns : List (List ℕ)) (name : List ℕ) → last_from ns name 0 None ≡ None → spot_of ns name ≡ Err fault.NoMarker
unfolding of_by
none_found ns name e = spot_of_by ns name ∙ ap (λ (o : Option ℕ). of_by o ns) e

-- the parts of a spot that was found
pub spot_parts : (ns : List (List ℕ)) (name : List ℕ) (spot : MapSpot) → spot_of ns name ≡ Ok spot → IsSpot ns name spot
unfolding of_by
spot_parts ns name spot h = by (last_from ns name 0 None) refl (sym (spot_of_by ns name) ∙ h)
  where
    by : (o : Option ℕ) → last_from ns name 0 None ≡ o → of_by o ns ≡ Ok spot → IsSpot ns name spot
    by None e q = absurd cc
    by (Some marker) e q =
        let after : List (List ℕ) = drop (marker + 1) ns in
        let text : Bool = begins_with_textmap after in
        let format : MapFormat = format_behind (end_at after) in
        let w = whole_spot (is_cut after) (spot_in marker text format (run_at after)) spot (sym (behind_by marker after) ∙ q) in
        let h = places_of marker text format _ _ _ _ _ spot (sym (in_places marker text format (run_at after)) ∙ w.1) in
        record { marker = marker; is_last = e; text = text; is_text = refl; whole = w.0; format = format; behind_run = refl; l = h.l; s = h.s; v = h.v; c = h.k; r = place (codes "REJECT") (run_at after); linedefs = h.linedefs; sidedefs = h.sidedefs; vertexes = h.vertexes; sectors = h.sectors; reject = refl; is = h.is }

-- a spot from its parts
pub spot_from : (ns : List (List ℕ)) (name : List ℕ) (spot : MapSpot) → IsSpot ns name spot → spot_of ns name ≡ Ok spot
unfolding of_by spot_by needed_at whole_or
spot_from ns name spot h =
    let after : List (List ℕ) = drop (h.marker + 1) ns in
    let text : Bool = begins_with_textmap after in
    let format : MapFormat = format_behind (end_at after) in
    spot_of_by ns name ∙ ap (λ (o : Option ℕ). of_by o ns) h.is_last ∙ behind_by h.marker after
    ∙ ap (λ (cut : Bool). whole_or cut (spot_in h.marker text format (run_at after))) h.whole
    ∙ in_places h.marker text format (run_at after)
    ∙ (λ i. spot_by h.marker (h.is_text i) (h.behind_run i) (h.linedefs i) (h.sidedefs i) (h.vertexes i) (h.sectors i) (h.reject i))
    ∙ ap (λ (s : MapSpot). Ok s) (sym h.is)
