-- The roots of the sources, each with the place of the next one of its source.
use Rattle.std.specs.Prelude.{◌≡◌, ℕ, ◌<◌, ◌≤◌, List, [], ◌∷◌, ◌++◌, Option, Some, None, option_and_then, slice_get, slice_set, length, not, ◌&&◌, filter_map, if◌then◌else◌}
use Rattle.sight_names.specs.declared.names.Side.{Side}
use Rattle.sight_names.specs.declared.names.Triangle.{Triangle}
use Rattle.sight_names.specs.declared.plan.Line.{Line}
use Rattle.sight_names.specs.Points.{Edge}
use Rattle.sight_names.specs.Map.{Map}
use Rattle.sight_names.specs.Sequence.{Portal, entry_edge, names_it, root_portal, roots as roots_of}
use Rattle.cert_checker.specs.declared.tree_judge.roots.Root.{Root}
use Rattle.mesh_shape.specs.declared.half_edges.table.HalfEdge.{HalfEdge}
use Rattle.mesh_shape.specs.HalfEdges.Numbers.{edge}
use Rattle.mesh_shape.specs.HalfEdges.HalfEdges.{entering, way_outside}
use Rattle.cert_checker.specs.TreeJudge.Path.{IsRootChain, list_of}

-- the place of the source's first root
abbrev pub first_at : List (Option ℕ) → ℕ → Option ℕ
first_at firsts source = option_and_then (λ (o : Option ℕ). o) (slice_get firsts source)

-- a half-edge put before the roots of its source that are there; nothing for a source that has no place
pub record PutsFirst (source number : ℕ) (roots : List Root) (firsts : List (Option ℕ)) (roots_new : List Root) (firsts_new : List (Option ℕ)) : Type 0 where
  pub put : source < length firsts → roots_new ≡ roots ++ record { edge = number; next = option_and_then (λ (o : Option ℕ). o) (slice_get firsts source) } ∷ []
  pub first : source < length firsts → firsts_new ≡ slice_set firsts source (Some (length roots))
  pub no_place : length firsts ≤ source → (roots_new ≡ roots) × (firsts_new ≡ firsts)

-- each source has these half-edges before the roots that were there
pub record PutsBefore (edges : ℕ → List ℕ) (roots : List Root) (firsts : List (Option ℕ)) (roots_new : List Root) (firsts_new : List (Option ℕ)) : Type 0 where
  pub len : length firsts_new ≡ length firsts
  pub chains : (source : ℕ) → source < length firsts → (es : List ℕ) → IsRootChain roots (first_at firsts source) es → IsRootChain roots_new (first_at firsts_new source) (edges source ++ es)

module _ (ts : List Triangle) (xs : List HalfEdge) where
  -- the half-edge through the edge, as far as it leads out of the source
  abbrev pub way_out_of : ℕ → Edge → Option ℕ
  way_out_of source e = way_outside xs source (entering ts xs e)

  -- the half-edge through the edge for the source that the side names
  abbrev pub side_edges : Option ℕ → Edge → ℕ → List ℕ
  side_edges side e source = if names_it side source then list_of (way_out_of source e) else []

  -- the half-edges of a line: none where it is solid; else that of the right side, and that of the left side, as far as
  -- they name the source and the other side doesn't
  abbrev pub half_edges_of_line : Option Line → ℕ → List ℕ
  half_edges_of_line None source = []
  half_edges_of_line (Some l) source = if l.solid then [] else (if names_it l.right source && not (names_it l.left source) then list_of (way_out_of source (edge l.a l.b)) else [])
      ++ (if names_it l.left source && not (names_it l.right source) then list_of (way_out_of source (edge l.b l.a)) else [])

  -- the half-edge through a root's portal
  abbrev pub root_edge : Map → ℕ → Side → Option ℕ
  root_edge m source s = option_and_then (λ (p : Portal). way_out_of source (entry_edge p)) (root_portal m s)

  -- the half-edges through the portals of the source's roots, in order
  abbrev pub root_edges : Map → ℕ → List ℕ
  root_edges m source = filter_map (root_edge m source) (roots_of m source)

-- for each source its roots in order: the half-edge through the portal of each, as far as it leads out of the source
pub record AreRootChains (m : Map) (ts : List Triangle) (xs : List HalfEdge) (roots : List Root) (firsts : List (Option ℕ)) : Type 0 where
  pub chains : (source : ℕ) → source < m.sectors → IsRootChain roots (first_at firsts source) (root_edges ts xs m source)
