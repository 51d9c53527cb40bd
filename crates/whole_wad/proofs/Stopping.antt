-- A refusal that stops all is one of a map that its name finds.
use Rattle.std.proofs.Common.{◌≡◌, ℕ, inl, inr, Bool, true, false, ◌==◌, ◌++◌, List, [], ◌∷◌, length, if◌then◌else◌, IsOk, Option, Some, None, Result, Ok, Err, refl, sym, ap, ◌∙◌, subst, arith}
use Rattle.std.specs.List.{AllByRecursion}
use Rattle.std.specs.Char.{to_ascii_uppercase}
use Rattle.std.proofs.lemmas.List.{append-nil, drop_all}
use Rattle.std.proofs.lemmas.List.Elements.{recursion_from_All}
use Rattle.sight_names.specs.declared.faults.LumpFault.{LumpFault}
use Rattle.sight_names.specs.declared.faults.LumpFault.TheVariants as lump
use Rattle.sight_names.specs.declared.faults.MapFault.{MapFault}
use Rattle.sight_names.specs.declared.names.Method.{Method}
use Rattle.sight_names.specs.declared.names.Reading.{Reading}
use Rattle.sight_names.specs.Lumps.{lump_fault}
use Rattle.sight_names.specs.Map.{Map}
use Rattle.udmf_map.specs.declared.faults.TextFault.{TextFault}
use Rattle.udmf_map.specs.declared.faults.TextFault.TheVariants as text
use Rattle.udmf_map.specs.Lumps.{LumpBytes, lumps_of_text}
use Rattle.wad_dir.specs.declared.parts.MapSpot.{MapSpot}
use Rattle.wad_dir.specs.Map.{key_of, spot_of}
use Rattle.wad_dir.specs.Wad.{WadFile, names_of_lumps}
use Rattle.wad_dir.specs.AllMaps.All.{HasInOrder}
use Rattle.wad_dir.specs.AllMaps.Maps.{maps_among, maps_in_names}
use Rattle.wad_dir.specs.AllMaps.Names.{name_before_nul}
use Rattle.wad_dir.proofs.AllMaps.Spacing.{all_found}
use Rattle.wad_dir.proofs.Moved.{spot_alike}
use Rattle.refused_maps.specs.declared.Refused.{Refused}
use Rattle.refused_maps.specs.declared.Refused.TheVariants as refused
use Rattle.refused_maps.specs.Stops.{Stops}
use Rattle.map_answers.specs.declared.sight_status.status.Bound.TheVariants as bound
use Rattle.map_answers.specs.declared.sight_status.status.Status.{Status}
use Rattle.map_answers.specs.declared.sight_status.status.Status.TheVariants as status
use Rattle.map_answers.specs.Input.{map_at, map_named, of_four_lumps, of_lumps, of_spot, of_text, spelled_map}
use Rattle.map_answers.specs.SightStatus.Answer.{◌>>=◌}
use Rattle.map_answers.specs.SightStatus.Status.{IsLumpFault, IsTextFault}
use Rattle.whole_wad.specs.declared.tables.MapTable.{MapTable}
use Rattle.whole_wad.specs.Outcomes.{stop_of_all}
use Rattle.whole_wad.specs.Stop.{IsThisOr, StopsAt}
use Rattle.whole_wad.specs.Tables.{Gets}

-- a refusal of a map that its name finds
abbrev pub IsOfMap : Status → Type 0
IsOfMap (status.BadLump fault) = IsLumpFault fault
IsOfMap (status.BadText fault) = IsTextFault fault
IsOfMap (status.Limit bound.Sectors) = Unit {0}
IsOfMap (status.Limit bound.Lines) = Unit {0}
IsOfMap (status.Limit bound.Points) = Unit {0}
IsOfMap (status.Limit bound.Vertices) = Unit {0}
IsOfMap (status.Limit bound.Sides) = Unit {0}
IsOfMap (status.BadMap flaw) = Unit {0}
IsOfMap (status.Memory _) = Unit {0}
IsOfMap other = ⊥

lumps_refused : (o : Option LumpFault) (m : Map) (s : Status) → of_lumps o m ≡ Err s → IsOfMap s
lumps_refused None m s e = absurd cc
lumps_refused (Some (lump.TooManySectors count)) m s e = let q : status.Limit bound.Sectors ≡ s = cc in subst IsOfMap q tt
lumps_refused (Some (lump.TooManyLines count)) m s e = let q : status.Limit bound.Lines ≡ s = cc in subst IsOfMap q tt
lumps_refused (Some (lump.TooManyPoints count)) m s e = let q : status.Limit bound.Points ≡ s = cc in subst IsOfMap q tt
lumps_refused (Some (lump.Memory _)) m s e = let q : status.Memory tt ≡ s = cc in subst IsOfMap q tt
lumps_refused (Some fault) m s e = let q : status.BadLump fault ≡ s = cc in subst IsOfMap q tt

text_refused : (reading : Reading) (r : Result LumpBytes TextFault) (s : Status) → of_text r >>= (λ (l : LumpBytes). of_four_lumps reading l.linedefs l.sidedefs l.vertexes l.sectors) ≡ Err s → IsOfMap s
text_refused reading (Ok l) s e = lumps_refused (lump_fault _ _ _ _ _) _ s e
text_refused reading (Err (text.TooManyVertices count)) s e = let q : status.Limit bound.Vertices ≡ s = cc in subst IsOfMap q tt
text_refused reading (Err (text.TooManySides count)) s e = let q : status.Limit bound.Sides ≡ s = cc in subst IsOfMap q tt
text_refused reading (Err (text.Memory _)) s e = let q : status.Memory tt ≡ s = cc in subst IsOfMap q tt
text_refused reading (Err (text.Text at)) s e = let q : status.BadText (text.Text at) ≡ s = cc in subst IsOfMap q tt
text_refused reading (Err (text.Namespace at)) s e = let q : status.BadText (text.Namespace at) ≡ s = cc in subst IsOfMap q tt
text_refused reading (Err (text.Value at)) s e = let q : status.BadText (text.Value at) ≡ s = cc in subst IsOfMap q tt
text_refused reading (Err (text.Portal line)) s e = let q : status.BadText (text.Portal line) ≡ s = cc in subst IsOfMap q tt
text_refused reading (Err (text.OffGrid vertex)) s e = let q : status.BadText (text.OffGrid vertex) ≡ s = cc in subst IsOfMap q tt

spelled_refused : (t : Bool) (reading : Reading) (linedefs sidedefs vertexes sectors : List ℕ) (s : Status) → spelled_map t reading linedefs sidedefs vertexes sectors ≡ Err s → IsOfMap s
spelled_refused true reading linedefs sidedefs vertexes sectors s e = text_refused reading (lumps_of_text linedefs) s e
spelled_refused false reading linedefs sidedefs vertexes sectors s e = lumps_refused (lump_fault _ _ _ _ _) _ s e

-- ---- by its name

-- a name up to its first NUL is the same name
pub key_word : (name : List ℕ) → key_of (name_before_nul name) ≡ key_of name
key_word [] = refl
key_word (c ∷ cs) = by (c == 0) refl (key_word cs)
  where
    by : (t : Bool) → (c == 0) ≡ t → key_of (name_before_nul cs) ≡ key_of cs → key_of (if t then [] else c ∷ name_before_nul cs) ≡ (if t then [] else to_ascii_uppercase c ∷ key_of cs)
    by true e rest = refl
    by false e rest = ap (λ (t : Bool). if t then [] else to_ascii_uppercase c ∷ key_of (name_before_nul cs)) e ∙ ap (λ (ks : List ℕ). to_ascii_uppercase c ∷ ks) rest

-- and finds the same
pub word_spot : (ns : List (List ℕ)) (name : List ℕ) → spot_of ns (name_before_nul name) ≡ spot_of ns name
word_spot ns name = spot_alike ns (name_before_nul name) name (key_word name)

read_refused : (large : Bool) (w : WadFile) (r : Result MapSpot MapFault) (s : Status) → IsOk r → of_spot r >>= (λ spot. map_at large w spot) ≡ Err s → IsOfMap s
read_refused large w (Ok spot) s found e = spelled_refused spot.text _ _ _ _ _ s e
read_refused large w (Err fault) s found e = absurd cc

named_refused : (large : Bool) (w : WadFile) (name : List ℕ) (s : Status) → IsOk (spot_of (names_of_lumps w) name) → map_named large w (name_before_nul name) ≡ Err s → IsOfMap s
unfolding map_named
named_refused large w name s found e = read_refused large w (spot_of (names_of_lumps w) (name_before_nul name)) s (subst IsOk (sym (word_spot (names_of_lumps w) name)) found) e

-- ---- by what the map gets

got_refused : (said : Result Map Status) (by : Method) (s : Status) → ((t : Status) → said ≡ Err t → IsOfMap t) → Gets said by (Err s) → IsOfMap s
got_refused (Ok m) by (status.BadMap flaw) read g = tt
got_refused (Ok m) by s read g = absurd g
got_refused (Err t) by s read g = let e : s ≡ t = cc in subst IsOfMap (sym e) (read t refl)

this : (choice : Refused) (said : Result Map Status) (by : Method) (made : Result MapTable Status) (s : Status) (Later : Type 0) → ((t : Status) → said ≡ Err t → IsOfMap t) → (Later → Stops choice × IsOfMap s) → Gets said by made → IsThisOr (stop_of_all choice made) s Later
    → Stops choice × IsOfMap s
this refused.Stop said by (Err t) s Later read later g h = (tt, subst IsOfMap (sym h) (got_refused said by t read g))
this choice said by made s Later read later g h = later h

stopped : (w : WadFile) (large : Bool) (by : Method) (choice : Refused) (s : Status) (names : List (List ℕ)) → AllByRecursion (λ (name : List ℕ). IsOk (spot_of (names_of_lumps w) name)) names → StopsAt w large by choice s names → Stops choice × IsOfMap s
stopped w large by choice s [] found h = absurd h
stopped w large by choice s (n ∷ ns) found h =
    this choice (map_named large w (name_before_nul n)) by h.0 s (StopsAt w large by choice s ns) (λ t e. named_refused large w n t found.0 e) (stopped w large by choice s ns found.1) h.1 h.2

-- each map of a WAD is found
found_maps : (ns : List (List ℕ)) → AllByRecursion (λ (name : List ℕ). IsOk (spot_of ns name)) (maps_in_names ns)
found_maps ns =
    recursion_from_All (λ (name : List ℕ). IsOk (spot_of ns name)) (maps_in_names ns)
    (all_found ns (length ns) (maps_in_names ns) (omega arith) (ap (λ (rest : List (List ℕ)). maps_in_names ns ++ maps_among ns rest) (drop_all (length ns) ns (omega arith)) ∙ append-nil (maps_in_names ns)))

-- what holds of all names holds of some
held_by_some : (P : List ℕ → Type 0) (ms ns : List (List ℕ)) → HasInOrder ms ns → AllByRecursion P ms → AllByRecursion P ns
held_by_some P [] [] h k = tt
held_by_some P [] (n ∷ ns) h k = absurd h
held_by_some P (m ∷ ms) [] h k = tt
held_by_some P (m ∷ ms) (n ∷ ns) (inl h) k = (subst P (sym h.0) k.0, held_by_some P ms ns h.1 k.1)
held_by_some P (m ∷ ms) (n ∷ ns) (inr h) k = held_by_some P ms (n ∷ ns) h k.1

pub stop_of_map : (w : WadFile) (large : Bool) (by : Method) (choice : Refused) (s : Status) (names : List (List ℕ)) → HasInOrder (maps_in_names (names_of_lumps w)) names → StopsAt w large by choice s names → Stops choice × IsOfMap s
stop_of_map w large by choice s names among h = stopped w large by choice s names (held_by_some (λ (name : List ℕ). IsOk (spot_of (names_of_lumps w) name)) (maps_in_names (names_of_lumps w)) names among (found_maps (names_of_lumps w))) h
