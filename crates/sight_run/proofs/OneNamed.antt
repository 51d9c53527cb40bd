-- A map has one map with the same lines whose sides name the labels of their triangles.
use Rattle.std.proofs.Common.{◌≡◌, ℕ, suc, refl, sym, ap, ◌∙◌, List, [], ◌∷◌, map, slice_get, Option, Some, None, Bool, true, false, option_and_then}
use Rattle.std.proofs.lemmas.Option.{same_Some, none-some}
use Rattle.sight_names.specs.declared.names.Side.{Side}
use Rattle.sight_names.specs.declared.names.Triangle.{Triangle}
use Rattle.sight_names.specs.Map.{Map, MapLine, line_at, named, sector_on}
use Rattle.sight_names.specs.Groups.{unnamed}
use Rattle.face_groups.specs.GroupsBase.Table.{NamesTheLabels}
use Rattle.face_groups.proofs.GroupsBase.SameLines.{bare, same_lines_sym, lines_alike, line_of}

abbrev tail_of : List (Option MapLine) → List (Option MapLine)
tail_of [] = []
tail_of (x ∷ xs) = xs

SameNames : List (Option MapLine) → List (Option MapLine) → Type 0
SameNames ls ks = (i : ℕ) (l k : MapLine) → slice_get ls i ≡ Some (Some l) → slice_get ks i ≡ Some (Some k) → (l.right ≡ k.right) × (l.left ≡ k.left)

line_same : (l k : MapLine) → bare l ≡ bare k → l.right ≡ k.right → l.left ≡ k.left → l ≡ k
line_same l k e r q = λ i. record { first = (e i).first; second = (e i).second; solid = (e i).solid; right = r i; left = q i }

head_same : (x y : Option MapLine) → unnamed x ≡ unnamed y → ((l k : MapLine) → x ≡ Some l → y ≡ Some k → (l.right ≡ k.right) × (l.left ≡ k.left)) → x ≡ y
head_same None None e h = refl
head_same None (Some k) e h = absurd (none-some (bare k) e)
head_same (Some l) None e h = absurd (none-some (bare l) (sym e))
head_same (Some l) (Some k) e h = let n = h l k refl refl in ap (λ (z : MapLine). Some z) (line_same l k (same_Some (bare l) (bare k) e) n.0 n.1)

lists_same : (ls ks : List (Option MapLine)) → map unnamed ls ≡ map unnamed ks → SameNames ls ks → ls ≡ ks
unfolding SameNames
lists_same [] [] e h = refl
lists_same [] (k ∷ ks) e h = absurd (none-some (unnamed k) (ap (λ (zs : List (Option MapLine)). slice_get zs 0) e))
lists_same (l ∷ ls) [] e h = absurd (none-some (unnamed l) (sym (ap (λ (zs : List (Option MapLine)). slice_get zs 0) e)))
lists_same (l ∷ ls) (k ∷ ks) e h =
    let x : l ≡ k = head_same l k (same_Some (unnamed l) (unnamed k) (ap (λ (zs : List (Option MapLine)). slice_get zs 0) e)) (λ a b ea eb. h 0 a b (ap (λ (z : Option MapLine). Some z) ea) (ap (λ (z : Option MapLine). Some z) eb)) in
    let t : ls ≡ ks = lists_same ls ks (ap tail_of e) (λ i a b ea eb. h (suc i) a b ea eb) in
    ap (λ (z : Option MapLine). z ∷ ls) x ∙ ap (λ (zs : List (Option MapLine)). k ∷ zs) t

there : (g : Map) (i : ℕ) (l : MapLine) → slice_get g.lines i ≡ Some (Some l) → line_at g i ≡ Some l
there g i l e = ap (option_and_then (λ (k : Option MapLine). k)) e

name_of : (g : Map) (i : ℕ) (l : MapLine) (left : Bool) → slice_get g.lines i ≡ Some (Some l) → named g (record { line = i; left = left }) ≡ sector_on l left
name_of g i l left e = ap (option_and_then (λ (k : MapLine). sector_on k left)) (there g i l e)

pub one_named : (m : Map) (ts : List Triangle) (groups : List (List ℕ)) (ls : List (Option ℕ)) (g h : Map) → NamesTheLabels m ts groups ls g → NamesTheLabels m ts groups ls h → g ≡ h
unfolding SameNames
one_named m ts groups ls g h a b = λ i. record { sectors = count i; lines = all i }
  where
    count : g.sectors ≡ h.sectors
    count = a.sectors ∙ sym b.sectors

    side : (s : Side) (l : MapLine) → line_at m s.line ≡ Some l → named g s ≡ named h s
    side s l is = a.names s l is ∙ sym (b.names s l is)

    names : (i : ℕ) (l k : MapLine) → slice_get g.lines i ≡ Some (Some l) → slice_get h.lines i ≡ Some (Some k) → (l.right ≡ k.right) × (l.left ≡ k.left)
    names i l k el ek =
        let n = line_of g m (same_lines_sym m g (lines_alike m g a.lines)) i l (there g i l el) in (
          sym (name_of g i l false el) ∙ side (record { line = i; left = false }) n.0 n.1 ∙ name_of h i k false ek,
          sym (name_of g i l true el) ∙ side (record { line = i; left = true }) n.0 n.1 ∙ name_of h i k true ek,
        )

    all : g.lines ≡ h.lines
    all = lists_same g.lines h.lines (a.lines ∙ sym b.lines) names
