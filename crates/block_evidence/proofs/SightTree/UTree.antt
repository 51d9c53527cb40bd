-- U: the tree of source 0 is whole, and keeps from sector 2.
use Rattle.std.proofs.Common.{◌≡◌, ◌≢◌, ℕ, inl, List, [], ◌∷◌, Option, Some, None, true, false, refl, lit<, IsTrue, Bool, ◌==◌, ◌&&◌, ◌||◌, true≢false, sym, ◌∙◌, subst, eq-eqb}
use Rattle.sight_names.specs.Map.{MapLine}
use Rattle.sight_names.specs.Point.{point_of}
use Rattle.sight_names.specs.Points.{points_of, Edge}
use Rattle.sight_names.specs.Mesh.{side_edge}
use Rattle.sight_names.specs.Sequence.{Portal, IsSolidLine, entry_edge}
use Rattle.sight_names.proofs.Laws.{EachLine, each_line}
use Rattle.sight_names.proofs.WorkedMaps.{pt, u_map}
use Rattle.sight_names.proofs.URows.{mesh, labels, portal}
use Rattle.block_evidence.specs.declared.Evidence.{Evidence}
use Rattle.block_evidence.specs.declared.sight_tree.Node.TheVariants.{Open, Blocked}
use Rattle.block_evidence.specs.declared.sight_tree.Tree.{Tree}
use Rattle.block_evidence.specs.Stuck.{BlocksSequence}
use Rattle.block_evidence.specs.SightTree.WholeTree.{NodesAnswer, no_node, blocked, open_node}
use Rattle.math_base.proofs.Options.{some_is_same}

abbrev pub evidence : Evidence
evidence = record { count = 3; ends = 0 ∷ 4 ∷ 32768 ∷ 0 ∷ [] }

abbrev pub tree : Tree
tree = record { source = 0; nodes = Open ∷ Open ∷ Open ∷ Open ∷ Blocked evidence ∷ [] }

-- a test for the edge of a solid line
abbrev pub same_edge : Edge → Edge → Bool
same_edge e f = e.from == f.from && e.to == f.to

abbrev pub some_solid : Edge → List (Option MapLine) → Bool
some_solid e [] = false
some_solid e (None ∷ ls) = some_solid e ls
some_solid e (Some l ∷ ls) = (l.solid && (same_edge (side_edge u_map l true) e || same_edge (side_edge u_map l false) e)) || some_solid e ls

abbrev pub IsNotSolid : Edge → MapLine → Type 0
IsNotSolid e l = IsTrue l.solid → (left : Bool) → side_edge u_map l left ≡ e → ⊥

same_is_true : (e f : Edge) → e ≡ f → same_edge e f ≡ true
same_is_true e f h = subst (λ (g : Edge). same_edge e g ≡ true) h (both e.from e.to)
  where
    both : (x y : ℕ) → ((x == x) && (y == y)) ≡ true
    both x y = rw (self x, self y) refl
      where
        self : (x : ℕ) → (x == x) ≡ true
        self x = eq-eqb x x refl

or_false : (a b : Bool) → (a || b) ≡ false → (a ≡ false) × (b ≡ false)
or_false true b h = absurd (true≢false h)
or_false false b h = (refl, h)

and_false : (a b : Bool) → a ≡ true → (a && b) ≡ false → b ≡ false
and_false true b t h = h
and_false false b t h = absurd (true≢false (sym t))

one_not : (e : Edge) (l : MapLine) → (l.solid && (same_edge (side_edge u_map l true) e || same_edge (side_edge u_map l false) e)) ≡ false → IsNotSolid e l
one_not e l h solid true k = true≢false (sym (same_is_true _ _ k) ∙ (or_false _ _ (and_false _ _ solid h)).0)
one_not e l h solid false k = true≢false (sym (same_is_true _ _ k) ∙ (or_false _ _ (and_false _ _ solid h)).1)

none_solid : (e : Edge) (ls : List (Option MapLine)) → some_solid e ls ≡ false → EachLine (IsNotSolid e) ls
none_solid e [] h = tt
none_solid e (None ∷ ls) h = none_solid e ls h
none_solid e (Some l ∷ ls) h = (one_not e l (or_false _ _ h).0, none_solid e ls (or_false _ _ h).1)

not_solid : (p : Portal) → some_solid (entry_edge p) u_map.lines ≡ false → ¬ IsSolidLine u_map p
not_solid p h (i, l, left, e, s, k) = each_line (IsNotSolid (entry_edge p)) u_map.lines (none_solid (entry_edge p) u_map.lines h) i l e s left k

abbrev pub wall_line : ℕ → ℕ → ℕ → ℕ → ℕ → MapLine
wall_line x y z w right = record { first = pt x y; second = pt z w; solid = true; right = Some right; left = None }

not_same : (j k : ℕ) → j ≡ k → (j == k) ≡ false → ⊥
not_same j k h t = true≢false (sym (eq-eqb j k h) ∙ t)

outside_one : ◌≢◌ {A = Option ℕ} (Some 1) (Some 0)
outside_one h = not_same 1 0 (some_is_same 1 0 h) refl

outside_two : ◌≢◌ {A = Option ℕ} (Some 2) (Some 0)
outside_two h = not_same 2 0 (some_is_same 2 0 h) refl

abbrev pub p0 : List Portal
p0 = portal 1 4 ∷ []

abbrev pub p4 : List Portal
p4 = portal 1 4 ∷ portal 2 4 ∷ portal 2 6 ∷ portal 9 6 ∷ portal 8 6 ∷ []

-- (64,64) is two parts (0,64) and one part (192,64)
stuck : BlocksSequence u_map p4 evidence
unfolding points_of
stuck = record {
  ends = (refl, (refl, (refl, tt)));
  stuck = (point_of (pt 64 64), record { weights = 2 ∷ 1 ∷ []; one_each = refl; weighed = lit< tt; x = refl; y = refl }, record { weights = 1 ∷ []; one_each = refl; weighed = lit< tt; x = refl; y = refl });
}

pub answers : NodesAnswer u_map mesh labels 0 p0 tree.nodes (2 ∷ 3 ∷ 4 ∷ 7 ∷ [])
unfolding points_of
answers =
    open_node (portal 1 4) 2 2 [] _ [] _ (record { last = refl; no_wall = not_solid (portal 1 4) refl; entered = refl; outside = outside_one }) refl
    (no_node (portal 1 2) refl (inl (0, wall_line 0 64 0 128 1, true, refl, refl, refl)) refl refl)
    (open_node (portal 2 4) 3 6 (Open ∷ Open ∷ Blocked evidence ∷ []) [] (4 ∷ 7 ∷ []) [] (record { last = refl; no_wall = not_solid (portal 2 4) refl; entered = refl; outside = outside_one }) refl
    (open_node (portal 2 6) 4 9 [] (Open ∷ Blocked evidence ∷ []) [] (7 ∷ []) (record { last = refl; no_wall = not_solid (portal 2 6) refl; entered = refl; outside = outside_one }) refl
    (no_node (portal 2 9) refl (inl (1, wall_line 0 128 192 128 1, true, refl, refl, refl)) refl refl)
    (open_node (portal 9 6) 7 8 [] (Blocked evidence ∷ []) [] [] (record { last = refl; no_wall = not_solid (portal 9 6) refl; entered = refl; outside = outside_one }) refl
    (no_node (portal 9 8) refl (inl (2, wall_line 192 128 192 64 1, true, refl, refl, refl)) refl refl)
    (blocked (portal 8 6) 6 evidence (record { last = refl; no_wall = not_solid (portal 8 6) refl; entered = refl; outside = outside_two }) stuck refl refl)
    refl refl)
    refl refl)
    (no_node (portal 6 4) refl (inl (4, wall_line 128 64 64 64 1, true, refl, refl, refl)) refl refl)
    refl refl)
    refl refl
