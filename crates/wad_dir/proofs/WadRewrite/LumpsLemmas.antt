-- Lumps as they are seen.
use Rattle.std.proofs.Common.{◌≡◌, ℕ, zero, suc, ◌≤◌, ◌<◌, List, [], ◌∷◌, ◌++◌, length, get_or, take, drop, map, refl, sym, ap, ◌∙◌, arith}
use Rattle.std.proofs.Math.ListN.{set}
use Rattle.std.proofs.lemmas.List.{map-set, map-append, get_or-map, drop-map}
use Rattle.std.proofs.lemmas.List.Sums.{sum_by-take-drop}
use Rattle.std.specs.List.{insert}
use Rattle.wad_dir.specs.Wad.{WadLump}
use Rattle.wad_dir.specs.declared.wad_rewrite.lumps.OutputLump.{OutputLump}
use Rattle.wad_dir.specs.WadRewrite.Lumps.{view, views}
use Rattle.wad_dir.specs.Print.{body_len, with_bytes}

take-views : (n : ℕ) (lumps : List OutputLump) → map view (take n lumps) ≡ take n (map view lumps)
take-views zero lumps = refl
take-views (suc n) [] = refl
take-views (suc n) (lump ∷ lumps) = ap (λ (items : List WadLump). view lump ∷ items) (take-views n lumps)

-- some of the lumps have no more bytes than all
pub body_len-take : (i : ℕ) (lumps : List OutputLump) → body_len (views (take i lumps)) ≤ body_len (views lumps)
body_len-take i lumps = rw take-views (omega (arith, sum_by-take-drop (λ (item : WadLump). length item.bytes) (views lumps) i))

-- a lump's bytes are replaced
pub views-set : (lumps : List OutputLump) (k : ℕ) (lump changed : OutputLump) (default : WadLump) (bytes : List ℕ) → k < length lumps → lump ≡ get_or lumps k lump → view changed ≡ with_bytes (view lump) bytes → views (set lumps k changed) ≡ set (views lumps) k (with_bytes (get_or (views lumps) k default) bytes)
views-set lumps k lump changed default bytes lt e v =
    map-set view lumps k changed ∙ ap (λ (item : WadLump). set (views lumps) k item) (v ∙ ap (λ (item : WadLump). with_bytes item bytes) (ap view e ∙ sym (get_or-map view lumps k lump default lt)))

-- a lump is put between others
pub views-insert : (lumps : List OutputLump) (k : ℕ) (lump : OutputLump) → views (insert lumps k lump) ≡ take k (views lumps) ++ view lump ∷ drop k (views lumps)
views-insert lumps k lump = search (drop-map, map-append, take-views)
