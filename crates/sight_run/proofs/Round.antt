-- The check of what a build wrote.
use Rattle.std.proofs.Common.{◌≡◌, ℕ, ◌^◌, ◌<◌, List, [], length, get_or, Bool, false, Option, Some, Result, Ok, Err, refl, sym, ap, ◌∙◌, subst}
use Rattle.std.specs.Prelude.{codes, slice_get, unwrap_or}
use Rattle.std.proofs.lemmas.Option.{unwrap_or-slice_get}
use Rattle.sight_names.specs.declared.faults.MapFault.{MapFault}
use Rattle.sight_names.specs.declared.faults.RewriteFault.{RewriteFault}
use Rattle.sight_names.specs.declared.faults.RewriteFault.TheVariants as rewrite
use Rattle.sight_names.specs.declared.faults.WadFault.{WadFault}
use Rattle.sight_names.specs.declared.faults.WadFault.TheVariants as wad
use Rattle.sight_names.specs.Map.{Map}
use Rattle.wad_dir.specs.declared.parts.MapSpot.{MapSpot}
use Rattle.wad_dir.specs.Kept.{reject_then, spot_then}
use Rattle.wad_dir.specs.Map.{same_name, spot_of}
use Rattle.wad_dir.specs.Print.{with_reject}
use Rattle.wad_dir.specs.Wad.{WadFile, WadLump, names_of_lumps, wad_of}
use Rattle.wad_dir.specs.WadRewrite.Again.{IsReadAgain}
use Rattle.wad_dir.specs.WadRewrite.Rewrite.{printed}
use Rattle.wad_dir.proofs.WadRewrite.Reading.{rewritten_is_read}
use Rattle.map_answers.specs.declared.sight_status.status.Status.{Status}
use Rattle.map_answers.specs.SightStatus.Answer.{◌>>=◌}
use Rattle.map_answers.specs.Input.{LocatedMap, found_in, lump_at, map_at, of_spot, of_wad, reading_at, spelled_map}
use Rattle.sight_run.specs.Zero.{of_rewrite, with_table}

-- ---- steps that pass

pub same_ok : {A E : Type 0} (x y : A) → ◌≡◌ {A = Result A E} (Ok x) (Ok y) → x ≡ y
same_ok x y e = cc

-- what a step was given, where all that follows passes
pub record Passes {A B : Type 0} (r : Result A Status) (f : A → Result B Status) (y : B) : Type 0 where
  pub x : A
  pub step : r ≡ Ok x
  pub rest : f x ≡ Ok y

pub passes : {A B : Type 0} (r : Result A Status) (f : A → Result B Status) (y : B) → (r >>= f) ≡ Ok y → Passes r f y
passes (Ok x) f y h = record { x = x; step = refl; rest = h }
passes (Err s) f y h = absurd cc

pub was_wad : (r : Result WadFile WadFault) (w : WadFile) → of_wad r ≡ Ok w → r ≡ Ok w
was_wad (Ok v) w h = ap (λ (x : WadFile). Ok x) (same_ok v w h)
was_wad (Err wad.TooManyLumps) w h = absurd cc
was_wad (Err (wad.Memory _)) w h = absurd cc
was_wad (Err fault) w h = absurd cc

pub was_spot : (r : Result MapSpot MapFault) (s : MapSpot) → of_spot r ≡ Ok s → r ≡ Ok s
was_spot (Ok t) s h = ap (λ (x : MapSpot). Ok x) (same_ok t s h)
was_spot (Err fault) s h = absurd cc

pub was_printed : (r : Result (List ℕ) RewriteFault) (bytes : List ℕ) → of_rewrite r ≡ Ok bytes → r ≡ Ok bytes
was_printed (Ok b) bytes h = ap (λ (x : List ℕ). Ok x) (same_ok b bytes h)
was_printed (Err rewrite.TooManyLumps) bytes h = absurd cc
was_printed (Err rewrite.TooLong) bytes h = absurd cc
was_printed (Err (rewrite.Memory _)) bytes h = absurd cc

-- ---- a map that was found

abbrev pub found_with : WadFile → MapSpot → Map → LocatedMap
found_with w s m = record { wad = w; spot = s; map = m }

with_map : WadFile → MapSpot → Result Map Status → Result LocatedMap Status
with_map w s r = r >>= (λ m. Ok (found_with w s m))

with_spot : Bool → WadFile → Result MapSpot MapFault → Result LocatedMap Status
with_spot large w r = of_spot r >>= (λ s. with_map w s (map_at large w s))

with_wad : Bool → List ℕ → Result WadFile WadFault → Result LocatedMap Status
with_wad large name r = of_wad r >>= (λ w. with_spot large w (spot_of (names_of_lumps w) name))

found_by : (large : Bool) (name bytes : List ℕ) → found_in large name bytes ≡ with_wad large name (wad_of bytes)
unfolding found_in with_map with_spot with_wad
found_by large name bytes = refl

pub record WasFound (large : Bool) (name bytes : List ℕ) (found : LocatedMap) : Type 0 where
  pub read : wad_of bytes ≡ Ok found.wad
  pub spot : spot_of (names_of_lumps found.wad) name ≡ Ok found.spot
  pub map : map_at large found.wad found.spot ≡ Ok found.map

pub was_found : (large : Bool) (name bytes : List ℕ) (found : LocatedMap) → found_in large name bytes ≡ Ok found → WasFound large name bytes found
unfolding with_map with_spot with_wad
was_found large name bytes found h =
    let a = passes (of_wad (wad_of bytes)) (λ w. with_spot large w (spot_of (names_of_lumps w) name)) found (sym (found_by large name bytes) ∙ h) in
    let b = passes (of_spot (spot_of (names_of_lumps a.x) name)) (λ s. with_map a.x s (map_at large a.x s)) found a.rest in
    let c = passes (map_at large a.x b.x) (λ m. Ok (found_with a.x b.x m)) found b.rest in
    let is : found_with a.x b.x c.x ≡ found = same_ok (found_with a.x b.x c.x) found c.rest in
    subst (λ (x : LocatedMap). WasFound large name bytes x) {x = found_with a.x b.x c.x} is (record { read = was_wad (wad_of bytes) a.x a.step; spot = was_spot (spot_of (names_of_lumps a.x) name) b.x b.step; map = c.step })

pub is_found : (large : Bool) (name bytes : List ℕ) (found : LocatedMap) → WasFound large name bytes found → found_in large name bytes ≡ Ok found
unfolding with_map with_spot with_wad
is_found large name bytes found h =
    found_by large name bytes
    ∙ ap (with_wad large name) h.read
    ∙ ap (with_spot large found.wad) h.spot
    ∙ ap (with_map found.wad found.spot) h.map

-- ---- the map is found again

get_same : (xs ys : List WadLump) (i j : ℕ) (d : WadLump) → slice_get xs i ≡ slice_get ys j → get_or xs i d ≡ get_or ys j d
get_same xs ys i j d e = sym (unwrap_or-slice_get xs i d) ∙ ap (λ (o : Option WadLump). unwrap_or o d) e ∙ unwrap_or-slice_get ys j d

abbrev nothing : WadLump
nothing = record { name = []; bytes = [] }

pub lump_same : (v w : WadFile) (i j : ℕ) → slice_get v.lumps i ≡ slice_get w.lumps j → lump_at v i ≡ lump_at w j
lump_same v w i j e = ap (λ (l : WadLump). l.bytes) (get_same v.lumps w.lumps i j nothing e)

abbrev pub found_then : LocatedMap → List ℕ → LocatedMap
found_then found table = found_with (with_reject found.wad found.spot table) (spot_then found.spot) found.map

-- what was written is read again
pub written_again : (large : Bool) (name old table bytes : List ℕ) (found : LocatedMap) → found_in large name old ≡ Ok found → same_name (codes "REJECT") name ≡ false → with_table found table ≡ Ok bytes → IsReadAgain found.wad name found.spot table bytes
written_again large name old table bytes found h other made =
    let was = was_found large name old found h in
    rewritten_is_read old found.wad name found.spot table bytes was.read was.spot other (was_printed (printed (with_reject found.wad found.spot table)) bytes made)

-- the map is found in the bytes that were printed, and the REJECT is the table
pub record IsFoundAgain (large : Bool) (name : List ℕ) (found : LocatedMap) (table bytes : List ℕ) : Type 0 where
  pub again : found_in large name bytes ≡ Ok (found_then found table)
  pub short : length bytes < 2 ^ 31
  pub reject : lump_at (with_reject found.wad found.spot table) (reject_then found.spot) ≡ table

pub found_again : (large : Bool) (name old table bytes : List ℕ) (found : LocatedMap) → found_in large name old ≡ Ok found → same_name (codes "REJECT") name ≡ false → with_table found table ≡ Ok bytes → IsFoundAgain large name found table bytes
found_again large name old table bytes found h other made =
    let was = was_found large name old found h in
    let new : WadFile = with_reject found.wad found.spot table in
    let again = written_again large name old table bytes found h other made in
    let k = again.kept in
    let here = (λ (e : (l : WadLump) × (slice_get new.lumps (reject_then found.spot) ≡ Some l) × (l.bytes ≡ table)). ap (λ (l : WadLump). l.bytes) (sym (unwrap_or-slice_get new.lumps (reject_then found.spot) nothing) ∙ ap (λ (o : Option WadLump). unwrap_or o nothing) e.1) ∙ e.2) in
    record {
      again = is_found large name bytes (found_then found table) (record {
        read = again.read;
        spot = k.found;
        map = four (lump_same new found.wad (spot_then found.spot).linedefs found.spot.linedefs k.linedefs)
            (lump_same new found.wad (spot_then found.spot).sidedefs found.spot.sidedefs k.sidedefs)
            (lump_same new found.wad (spot_then found.spot).vertexes found.spot.vertexes k.vertexes)
            (lump_same new found.wad (spot_then found.spot).sectors found.spot.sectors k.sectors) ∙ was.map;
      });
      short = again.short;
      reject = here k.reject;
    }
  where
    four : lump_at (with_reject found.wad found.spot table) (spot_then found.spot).linedefs ≡ lump_at found.wad found.spot.linedefs
        → lump_at (with_reject found.wad found.spot table) (spot_then found.spot).sidedefs ≡ lump_at found.wad found.spot.sidedefs
        → lump_at (with_reject found.wad found.spot table) (spot_then found.spot).vertexes ≡ lump_at found.wad found.spot.vertexes
        → lump_at (with_reject found.wad found.spot table) (spot_then found.spot).sectors ≡ lump_at found.wad found.spot.sectors
        → map_at large (with_reject found.wad found.spot table) (spot_then found.spot) ≡ map_at large found.wad found.spot
    four a b c d = λ i. spelled_map found.spot.text (reading_at large found.spot) (a i) (b i) (c i) (d i)
