-- Two maps with the same lines, whatever their sides name: paths, touches and misses are the same.
use Rattle.std.proofs.Common.{◌≡◌, ℕ, refl, sym, ap, ◌∙◌, subst, List, [], ◌∷◌, slice_get, map, Option, Some, None, option_and_then, option_map, IsTrue, Bool, pos, ◌≤ℤ◌}
use Rattle.std.proofs.lemmas.Option.{slice_get-map, same_Some, none-some}
use Rattle.sight_names.specs.declared.names.Pt.{Pt}
use Rattle.sight_names.specs.declared.names.Side.{Side}
use Rattle.sight_names.specs.Point.{Point, point_of, value_at, InsideSegment, OnSide}
use Rattle.sight_names.specs.Map.{Map, MapLine, line_at}
use Rattle.sight_names.specs.Path.{OnLine, MissesAll, MissesSolid, OnNoLine, IsPath, Leads, Touches}
use Rattle.sight_names.specs.Sound.{MeetAtEnds, LinesMeetAtEnds, IsOutside}
use Rattle.sight_names.specs.Groups.{unnamed}

-- the same ends and the same solid flag
pub record IsSameLine (l k : MapLine) : Type 0 where
  pub first : l.first ≡ k.first
  pub second : l.second ≡ k.second
  pub solid : l.solid ≡ k.solid

pub same_line_sym : (l k : MapLine) → IsSameLine l k → IsSameLine k l
same_line_sym l k h = record { first = sym h.first; second = sym h.second; solid = sym h.solid }

abbrev pub HaveSameLines : Map → Map → Type 0
HaveSameLines m g = (i : ℕ) → unnamed (line_at m i) ≡ unnamed (line_at g i)

pub same_lines_sym : (m g : Map) → HaveSameLines m g → HaveSameLines g m
same_lines_sym m g h i = sym (h i)

abbrev inner : Option (Option MapLine) → Option MapLine
inner o = option_and_then (λ l. l) o

unnamed_inner : (o : Option (Option MapLine)) → unnamed (inner o) ≡ inner (option_map unnamed o)
unnamed_inner None = refl
unnamed_inner (Some l) = refl

unnamed_at : (m : Map) (i : ℕ) → unnamed (line_at m i) ≡ inner (slice_get (map unnamed m.lines) i)
unnamed_at m i = unnamed_inner (slice_get m.lines i) ∙ ap inner (sym (slice_get-map unnamed m.lines i))

-- from the lists of lines without names
pub lines_alike : (m g : Map) → map unnamed g.lines ≡ map unnamed m.lines → HaveSameLines m g
lines_alike m g e i = unnamed_at m i ∙ ap (λ (ls : List (Option MapLine)). inner (slice_get ls i)) (sym e) ∙ sym (unnamed_at g i)

abbrev pub bare : MapLine → MapLine
bare l = record { first = l.first; second = l.second; solid = l.solid; right = None; left = None }

pub line_of : (m g : Map) → HaveSameLines m g → (i : ℕ) (l : MapLine) → line_at m i ≡ Some l → (k : MapLine) × (line_at g i ≡ Some k) × IsSameLine l k
line_of m g h i l e = go (line_at g i) refl (ap unnamed (sym e) ∙ h i)
  where
    go : (o : Option MapLine) → line_at g i ≡ o → unnamed (Some l) ≡ unnamed o → (k : MapLine) × (line_at g i ≡ Some k) × IsSameLine l k
    go None is same = absurd (none-some (bare l) (sym same))
    go (Some k) is same =
        let r : bare l ≡ bare k = same_Some (bare l) (bare k) same in
        (k, is, record { first = ap (λ (x : MapLine). x.first) r; second = ap (λ (x : MapLine). x.second) r; solid = ap (λ (x : MapLine). x.solid) r })

on_line_same : (l k : MapLine) → IsSameLine l k → (r : Point) → OnLine l r → OnLine k r
on_line_same l k h r on = subst (λ (a : Pt). OnLine (record { first = a; second = k.second; solid = k.solid; right = k.right; left = k.left }) r) h.first (subst (λ (b : Pt). OnLine (record { first = l.first; second = b; solid = k.solid; right = k.right; left = k.left }) r) h.second on)

pub free_alike : (m g : Map) → HaveSameLines m g → (p : Point) → OnNoLine m p → OnNoLine g p
free_alike m g h p free i k is on = let l = line_of g m (same_lines_sym m g h) i k is in free i l.0 l.1 (on_line_same k l.0 l.2 p on)

pub misses_alike : (m g : Map) → HaveSameLines m g → (p q : Point) → MissesAll m p q → MissesAll g p q
misses_alike m g h p q miss i k is r on_segment on = let l = line_of g m (same_lines_sym m g h) i k is in miss i l.0 l.1 r on_segment (on_line_same k l.0 l.2 r on)

pub misses_solid_alike : (m g : Map) → HaveSameLines m g → (p q : Point) → MissesSolid m p q → MissesSolid g p q
misses_solid_alike m g h p q miss i k is solid r on_segment on =
    let l = line_of g m (same_lines_sym m g h) i k is in
    miss i l.0 l.1 (subst (λ (b : Bool). IsTrue b) l.2.solid solid) r on_segment (on_line_same k l.0 l.2 r on)

path_alike : (m g : Map) → HaveSameLines m g → (p : Point) (rs : List Point) (q : Point) → IsPath m p rs q → IsPath g p rs q
path_alike m g h p [] q path = (free_alike m g h p path.0, path.1)
path_alike m g h p (r ∷ rs) q path = (free_alike m g h p path.0, misses_alike m g h p r path.1, path_alike m g h r rs q path.2)

pub leads_alike : (m g : Map) → HaveSameLines m g → (p q : Point) → Leads m p q → Leads g p q
leads_alike m g h p q leads = (leads.0, path_alike m g h p leads.0 q leads.1)

pub touches_alike : (m g : Map) → HaveSameLines m g → (p : Point) (s : Side) → Touches m p s → Touches g p s
touches_alike m g h p s t =
    let k = line_of m g h s.line t.line t.is in record {
      line = k.0;
      is = k.1;
      q = t.q;
      path = leads_alike m g h p t.q t.path;
      side = subst (λ (a : Pt). OnSide a k.0.second s.left t.q) k.2.first (subst (λ (b : Pt). OnSide t.line.first b s.left t.q) k.2.second t.side);
      foot = t.foot;
      inside = subst (λ (a : Pt). InsideSegment (point_of a) (point_of k.0.second) t.foot) k.2.first (subst (λ (b : Pt). InsideSegment (point_of t.line.first) (point_of b) t.foot) k.2.second t.inside);
      clear = λ i j r is on_segment on. let l = line_of g m (same_lines_sym m g h) i j is in t.clear i l.0 r l.1 on_segment (on_line_same j l.0 l.2 r on);
    }

pub outside_alike : (m g : Map) → HaveSameLines m g → (p : Point) → IsOutside m p → IsOutside g p
outside_alike m g h p o = record {
  a = o.a;
  b = o.b;
  c = o.c;
  beyond = o.beyond;
  first = λ i k is. let l = line_of g m (same_lines_sym m g h) i k is in first_end i k l.0 l.2 l.1;
  second = λ i k is. let l = line_of g m (same_lines_sym m g h) i k is in second_end i k l.0 l.2 l.1;
}
  where
    first_end : (i : ℕ) (k l : MapLine) → IsSameLine k l → line_at m i ≡ Some l → value_at o.a o.b o.c (point_of k.first) ≤ℤ pos 0
    first_end i k l s is = subst (λ (e : Pt). value_at o.a o.b o.c (point_of e) ≤ℤ pos 0) (sym s.first) (o.first i l is)

    second_end : (i : ℕ) (k l : MapLine) → IsSameLine k l → line_at m i ≡ Some l → value_at o.a o.b o.c (point_of k.second) ≤ℤ pos 0
    second_end i k l s is = subst (λ (e : Pt). value_at o.a o.b o.c (point_of e) ≤ℤ pos 0) (sym s.second) (o.second i l is)

meet_alike : (j k l n : MapLine) → IsSameLine j k → IsSameLine l n → MeetAtEnds j.first j.second l.first l.second → MeetAtEnds k.first k.second n.first n.second
meet_alike j k l n a b h =
    subst (λ (x : Pt). MeetAtEnds x k.second n.first n.second) a.first (subst (λ (x : Pt). MeetAtEnds j.first x n.first n.second) a.second
    (subst (λ (x : Pt). MeetAtEnds j.first j.second x n.second) b.first (subst (λ (x : Pt). MeetAtEnds j.first j.second l.first x) b.second h)))

pub meets_alike : (m g : Map) → HaveSameLines m g → LinesMeetAtEnds m → LinesMeetAtEnds g
meets_alike m g h meets i j k l differ is is_too =
    let back = same_lines_sym m g h in
    let a = line_of g m back i k is in let b = line_of g m back j l is_too in
    meet_alike a.0 k b.0 l (same_line_sym k a.0 a.2) (same_line_sym l b.0 b.2) (meets i j a.0 b.0 differ a.1 b.1)
