-- The pieces of a picture put together.
use Rattle.std.proofs.Common.{◌≡◌, ◌∙◌, ℕ, ◌+◌, ◌<◌, List, [], ◌∷◌, ◌++◌, Option, length, drop, get_or, sym, ap}
use Rattle.std.proofs.lemmas.List.{append-nil, drop_more}
use Rattle.std.proofs.lemmas.List.Concat.{flat_map-append}
use Rattle.sight_names.specs.declared.names.Pt.{Pt}
use Rattle.sight_names.specs.declared.names.Triangle.{Triangle}
use Rattle.sight_names.specs.Map.{Map, map_of}
use Rattle.sight_names.specs.Plan.{IsPlan, PlanParts}
use Rattle.sight_names.proofs.PlanPoints.{plan_points}
use Rattle.map_picture.specs.declared.frame.Frame.{Frame}
use Rattle.map_picture.specs.declared.tint.Tint.{Tint}
use Rattle.map_picture.specs.declared.frame.Sizes.{Sizes}
use Rattle.map_picture.specs.declared.sheet.Subject.TheVariants as subject
use Rattle.map_picture.specs.Frame.{frame_of_points, sizes_of_frame}
use Rattle.map_picture.specs.Bytes.{bytes_of_element, face_id, face_text, face_title, legend_text, path_text, spelled_picture, svg_of, tint_class, triangles_text}
use Rattle.map_picture.specs.declared.sheet.Subject.{Subject}
use Rattle.map_picture.specs.Picture.{NamedParts, Element, Face, Legend, Foot, faces_from, heat_tints, labelled_with, line_elements, most_of, picture_of, sheet_of}
use Rattle.map_picture.proofs.Pushes.{joined}

-- ---- the faces

pub face_made : (f : Frame) (m : Map) (t : Tint) (g : ℕ) (names : List ℕ) (ts : List Triangle) (said out one two three : List ℕ) → said ≡ names
    → one ≡ out ++ path_text (tint_class t) (face_id g) → two ≡ one ++ triangles_text f m ts → three ≡ two ++ face_title t said → three ≡ out ++ face_text f m t g names ts
unfolding face_text
face_made f m t g names ts said out one two three is_said first second third =
    let ended : three ≡ two ++ face_title t names = third ∙ ap (λ (ns : List ℕ). two ++ face_title t ns) is_said in
    joined out two three _ (face_title t names) (joined out one two _ (triangles_text f m ts) first second) ended

pub faces_more : (ts : List Triangle) (ls : List (Option ℕ)) (g : ℕ) (tints : List Tint) (groups : List (List ℕ)) (t : Tint) (names : List ℕ) → g < length tints → g < length groups
    → t ≡ get_or tints g t → names ≡ get_or groups g names
    → faces_from ts ls g (drop g tints) (drop g groups) ≡ Face t g names (labelled_with g ts ls) ∷ faces_from ts ls (g + 1) (drop (g + 1) tints) (drop (g + 1) groups)
faces_more ts ls g tints groups t names in_tints in_groups is_tint is_names =
    let first : drop g tints ≡ t ∷ drop (g + 1) tints = drop_more tints g t in_tints ∙ ap (λ (x : Tint). x ∷ drop (g + 1) tints) (sym is_tint) in
    let second : drop g groups ≡ names ∷ drop (g + 1) groups = drop_more groups g names in_groups ∙ ap (λ (x : List ℕ). x ∷ drop (g + 1) groups) (sym is_names) in
    ap (λ (xs : List Tint). faces_from ts ls g xs (drop g groups)) first ∙ ap (λ (xs : List (List ℕ)). faces_from ts ls g (t ∷ drop (g + 1) tints) xs) second

-- ---- the whole

one_more : (f : Frame) (m : Map) (es fs : List Element) (x y : List ℕ) → x ≡ spelled_picture f m es → y ≡ x ++ spelled_picture f m fs → y ≡ spelled_picture f m (es ++ fs)
one_more f m es fs x y before pushed = pushed ∙ ap (λ (l : List ℕ). l ++ spelled_picture f m fs) before ∙ sym (flat_map-append (bytes_of_element f m) es fs)

pub drawn : (f : Frame) (name : NamedParts) (about : Subject) (m : Map) (under over : List Element) (none a b c d e : List ℕ) → none ≡ [] → a ≡ none ++ spelled_picture f m (sheet_of name about) → b ≡ a ++ spelled_picture f m under
    → c ≡ b ++ spelled_picture f m (line_elements m) → d ≡ c ++ spelled_picture f m over → e ≡ d ++ spelled_picture f m (Foot ∷ []) → e ≡ spelled_picture f m (picture_of name about m under over)
drawn f name about m under over none a b c d e empty sheet first lines second foot =
    let sheet' = one_more f m [] (sheet_of name about) none a empty sheet in
    let first' = one_more f m (sheet_of name about) under a b sheet' first in
    let lines' = one_more f m (sheet_of name about ++ under) (line_elements m) b c first' lines in
    let second' = one_more f m (sheet_of name about ++ under ++ line_elements m) over c d lines' second in
    one_more f m (sheet_of name about ++ under ++ line_elements m ++ over) (Foot ∷ []) d e second' foot

-- .. in two parts: as far as what lies under the lines, and from there
pub begun : (f : Frame) (name : NamedParts) (about : Subject) (m : Map) (under : List Element) (none a b : List ℕ) → none ≡ [] → a ≡ none ++ spelled_picture f m (sheet_of name about) → b ≡ a ++ spelled_picture f m under → b ≡ spelled_picture f m (sheet_of name about ++ under)
begun f name about m under none a b empty sheet first = one_more f m (sheet_of name about) under a b (one_more f m [] (sheet_of name about) none a empty sheet) first

pub drawn_on : (f : Frame) (name : NamedParts) (about : Subject) (m : Map) (under over : List Element) (b c d e : List ℕ) → b ≡ spelled_picture f m (sheet_of name about ++ under)
    → c ≡ b ++ spelled_picture f m (line_elements m) → d ≡ c ++ spelled_picture f m over → e ≡ d ++ spelled_picture f m (Foot ∷ []) → e ≡ spelled_picture f m (picture_of name about m under over)
drawn_on f name about m under over b c d e ground lines second foot =
    let lines' = one_more f m (sheet_of name about ++ under) (line_elements m) b c ground lines in
    let second' = one_more f m (sheet_of name about ++ under ++ line_elements m) over c d lines' second in
    one_more f m (sheet_of name about ++ under ++ line_elements m ++ over) (Foot ∷ []) d e second' foot

-- what is over the lines, in two parts
pub two_over : (f : Frame) (m : Map) (es fs : List Element) (a b c : List ℕ) → b ≡ a ++ spelled_picture f m es → c ≡ b ++ spelled_picture f m fs → c ≡ a ++ spelled_picture f m (es ++ fs)
two_over f m es fs a b c first second = joined a b c (spelled_picture f m es) (spelled_picture f m fs) first second ∙ ap (λ (l : List ℕ). a ++ l) (sym (flat_map-append (bytes_of_element f m) es fs))

-- with the tints that were made
pub tinted : (f : Frame) (m : Map) (name : NamedParts) (about : Subject) (ts : List Triangle) (ls : List (Option ℕ)) (groups : List (List ℕ)) (tints made : List Tint) (b : List ℕ) → made ≡ tints
    → b ≡ spelled_picture f m (sheet_of name about ++ faces_from ts ls 0 made groups) → b ≡ spelled_picture f m (sheet_of name about ++ faces_from ts ls 0 tints groups)
tinted f m name about ts ls groups tints made b same is = is ∙ ap (λ (xs : List Tint). spelled_picture f m (sheet_of name about ++ faces_from ts ls 0 xs groups)) same

-- .. by counts
pub heated : (f : Frame) (m : Map) (name : NamedParts) (ts : List Triangle) (ls : List (Option ℕ)) (groups : List (List ℕ)) (counts : List ℕ) (most : ℕ) (made : List Tint) (b : List ℕ) → most ≡ most_of counts → made ≡ heat_tints counts most
    → b ≡ spelled_picture f m (sheet_of name subject.Heat ++ faces_from ts ls 0 made groups) → b ≡ spelled_picture f m (sheet_of name subject.Heat ++ faces_from ts ls 0 (heat_tints counts (most_of counts)) groups)
heated f m name ts ls groups counts most made b is_most same is = tinted f m name subject.Heat ts ls groups (heat_tints counts (most_of counts)) made b (same ∙ ap (λ (k : ℕ). heat_tints counts k) is_most) is

-- .. with these labels
pub labelled : (f : Frame) (m : Map) (es : List (Option ℕ) → List Element) (ls made : List (Option ℕ)) (a b : List ℕ) → made ≡ ls → b ≡ a ++ spelled_picture f m (es made) → b ≡ a ++ spelled_picture f m (es ls)
labelled f m es ls made a b same is = is ∙ ap (λ (xs : List (Option ℕ)). a ++ spelled_picture f m (es xs)) same

pub legend_on : (f : Frame) (m : Map) (s : Sizes) (counts : List ℕ) (most : ℕ) (a b : List ℕ) → s ≡ sizes_of_frame f → most ≡ most_of counts → b ≡ a ++ legend_text s most → b ≡ a ++ spelled_picture f m (Legend (most_of counts) ∷ [])
legend_on f m s counts most a b is_s is_most is =
    is ∙ ap (λ (z : Sizes). a ++ legend_text z most) is_s ∙ ap (λ (k : ℕ). a ++ legend_text (sizes_of_frame f) k) is_most ∙ ap (λ (l : List ℕ). a ++ l) (sym (append-nil (legend_text (sizes_of_frame f) (most_of counts))))

-- one element alone
pub alone : (f : Frame) (m : Map) (x : Element) (a b : List ℕ) → b ≡ a ++ bytes_of_element f m x → b ≡ a ++ spelled_picture f m (x ∷ [])
alone f m x a b made = made ∙ ap (λ (l : List ℕ). a ++ l) (sym (append-nil (bytes_of_element f m x)))

-- .. behind the faces
pub entered_on : (f : Frame) (name : NamedParts) (about : Subject) (m : Map) (faces : List Element) (x : Element) (a b : List ℕ) → a ≡ spelled_picture f m (sheet_of name about ++ faces) → b ≡ a ++ bytes_of_element f m x → b ≡ spelled_picture f m (sheet_of name about ++ (faces ++ x ∷ []))
entered_on f name about m faces x a b ground made = one_more f m (sheet_of name about ++ faces) (x ∷ []) a b ground (alone f m x a b made)

-- in the frame of the map
pub framed : (p : PlanParts) (f : Frame) (points : List Pt) (es : List Element) (bytes : List ℕ) → IsPlan p → f ≡ frame_of_points points → points ≡ p.points → bytes ≡ spelled_picture f (map_of p) es → bytes ≡ svg_of (map_of p) es
framed p f points es bytes is_plan is_frame are made =
    made ∙ ap (λ (g : Frame). spelled_picture g (map_of p) es) (is_frame ∙ ap (λ (ps : List Pt). frame_of_points ps) (are ∙ sym (plan_points p is_plan)))
