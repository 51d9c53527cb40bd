-- What a printer has given and what it still has to give are the spelling together.
use Rattle.std.proofs.Common.{◌≡◌, ℕ, ◌+◌, ◌<◌, ◌≤◌, List, [], ◌∷◌, ◌++◌, length, take, drop, refl, sym, ap, ◌∙◌, append_assoc, arith}
use Rattle.std.specs.Prelude.{min}
use Rattle.std.specs.List.{flat_map, AllByRecursion}
use Rattle.std.proofs.lemmas.List.{append-nil, take-append-drop, take_at, drop_at, drop-drop, drop-append-le, length-append, length-take, nil_from_length}
use Rattle.sight_names.specs.declared.names.Pair.{Pair}
use Rattle.sight_names.specs.declared.names.PairRay.{PairRay}
use Rattle.block_evidence.specs.declared.sight_tree.Tree.{Tree}
use Rattle.block_evidence.specs.SightTree.Spelling.{u16}
use Rattle.cert_format.specs.declared.cert.Sizes.{Sizes}
use Rattle.cert_format.specs.declared.cert.Labelled.{Labelled}
use Rattle.cert_format.specs.Grammar.{IsRayInRange, HasShortSides, triangle_bytes, ray_bytes, pair_bytes, tree_bytes}
use Rattle.cert_format.specs.declared.cert_groups.cert.CertTwo.{CertTwo}
use Rattle.cert_format.specs.CertGroups.Grammar.{grouped_header_bytes, group_bytes, spelling}

-- what comes first of three parts is given behind what was given before
pub gave : (at n : ℕ) (old new x after a b : List ℕ) → take (at + n) new ≡ take at old ++ take n x → after ≡ drop n x → take at old ++ (x ++ a ++ b) ≡ take (at + n) new ++ (after ++ a ++ b)
gave at n old new x after a b p q =
    ap (λ (t : List ℕ). take at old ++ (t ++ a ++ b)) (sym (take-append-drop n x)) ∙ rw (p, q) (simp append_assoc)

-- ---- a front, and what is behind it

-- the buffer isn't full, so that the front was given whole
pub front_ended : (g room : ℕ) (buf front after : List ℕ) → front ≡ take g buf ++ after → g ≡ min room (length front) → g < room → room ≤ length buf → after ≡ []
front_ended g room buf front after e is lt long =
    let some : g ≡ length front = omega (arith, is, lt) in
    nil_from_length after (omega (arith, ap length e, length-append (take g buf) after, length-take g buf, some, lt, long))

-- then the rest of the buffer has what comes next
pub both_gave : (piece front after behind more left : List ℕ) → front ≡ piece ++ after → after ≡ [] → behind ≡ more ++ left → front ++ behind ≡ (piece ++ more) ++ (after ++ left)
both_gave piece front after behind more left e none f = rw (e, f, none) (simp (append_assoc, append-nil))

-- what the rest of a buffer was given stands behind what the buffer had
pub take_both : (g m : ℕ) (buf sub post : List ℕ) → g ≤ length buf → m ≤ length sub → take (g + m) (take g buf ++ (sub ++ post)) ≡ take g buf ++ take m sub
take_both g m buf sub post fits fits_too =
    ap (λ (t : List ℕ). take (g + m) t) regrouped ∙ take_at (take g buf ++ take m sub) (drop m sub ++ post) (g + m) (omega (arith, length-append (take g buf) (take m sub), length-take g buf, length-take m sub, fits, fits_too))
  where
    regrouped : take g buf ++ (sub ++ post) ≡ (take g buf ++ take m sub) ++ (drop m sub ++ post)
    regrouped = ap (λ (t : List ℕ). take g buf ++ (t ++ post)) (sym (take-append-drop m sub)) ∙ simp append_assoc

pub drop_both : (g m k : ℕ) (first buf sub : List ℕ) → g ≤ length buf → m ≤ length sub → m ≤ length (take k (drop g buf)) → drop m sub ≡ drop m (take k (drop g buf)) → drop g buf ≡ drop g first
    → drop (g + m) (take g buf ++ (sub ++ drop k (drop g buf))) ≡ drop (g + m) first
drop_both g m k first buf sub fits fits_new fits_old p q =
    sym (drop-drop m g (take g buf ++ (sub ++ drop k (drop g buf))))
    ∙ ap (drop m) (drop_at (take g buf) (sub ++ drop k (drop g buf)) g (omega (arith, length-take g buf, fits)))
    ∙ drop-append-le m sub (drop k (drop g buf)) fits_new
    ∙ ap (λ (t : List ℕ). t ++ drop k (drop g buf)) p
    ∙ sym (drop-append-le m (take k (drop g buf)) (drop k (drop g buf)) fits_old)
    ∙ ap (drop m) (take-append-drop k (drop g buf))
    ∙ ap (drop m) q
    ∙ drop-drop m g first

-- lines in range leave room for the side
pub short_sides : (sizes : Sizes) (rs : List PairRay) → AllByRecursion (IsRayInRange sizes) rs → AllByRecursion (λ (r : PairRay). HasShortSides r.ray) rs
short_sides sizes [] h = tt
short_sides sizes (r ∷ rs) h = ((h.0.1.1, h.0.2.1), short_sides sizes rs h.1)

-- ---- the whole

arranged : (h s g b n t r p d : List ℕ) → s ≡ [] → b ≡ [] → n ≡ [] → (h ++ s ++ g) ++ (b ++ n ++ t ++ r ++ p ++ d) ≡ h ++ g ++ t ++ r ++ p ++ d
arranged h s g b n t r p d es eb en = rw (es, eb, en) (simp (append_assoc, append-nil))

pub whole : (sizes : Sizes) (c : CertTwo) (h s : List ℕ) (gs : List (List ℕ)) (b n : List ℕ) (ts : List Labelled) (rs : List PairRay) (ps : List Pair) (ds : List Tree)
    → h ≡ grouped_header_bytes sizes c → s ≡ [] → gs ≡ c.groups → b ≡ [] → n ≡ [] → ts ≡ c.cert.triangles → rs ≡ c.cert.rays → ps ≡ c.listed → ds ≡ c.cert.trees
    → (h ++ flat_map u16 s ++ flat_map group_bytes gs) ++ (b ++ n ++ flat_map triangle_bytes ts ++ flat_map ray_bytes rs ++ flat_map pair_bytes ps ++ flat_map tree_bytes ds) ≡ spelling sizes c
unfolding spelling
whole sizes c h s gs b n ts rs ps ds eh es eg eb en et er ep ed =
    arranged h (flat_map u16 s) (flat_map group_bytes gs) b n (flat_map triangle_bytes ts) (flat_map ray_bytes rs) (flat_map pair_bytes ps) (flat_map tree_bytes ds) (ap (flat_map u16) es) eb en
    ∙ rw (eh, eg, et, er, ep, ed) refl
