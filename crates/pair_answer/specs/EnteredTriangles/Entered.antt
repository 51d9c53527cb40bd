-- The triangles that sight out of sources enters, over a mesh ts with labels ls.
use Rattle.std.specs.Prelude.{◌≡◌, ℕ, ◌⊎◌, List, Option, Some, None, Contains}
use Rattle.std.specs.List.{last_or}
use Rattle.sight_names.specs.declared.names.Triangle.{Triangle}
use Rattle.sight_names.specs.Map.{Map}
use Rattle.sight_names.specs.Mesh.{triangle_at, label_of}
use Rattle.sight_names.specs.Sequence.{Portal, Sequence, IsSequence, IsStabbable, entry_edge}

-- the last of these portals leads into triangle k
pub record PortalsLeadInto (ts : List Triangle) (ps : List Portal) (k : ℕ) : Type 0 where
  pub last : Portal
  pub is_last : last_or None ps ≡ Some last
  pub triangle : triangle_at ts (entry_edge last) ≡ Some k

-- a line passes through this sequence of source a into triangle k
pub record EntersBySequence (m : Map) (ts : List Triangle) (ls : List (Option ℕ)) (a k : ℕ) (s : Sequence) : Type 0 where
  pub portals : List Portal
  pub is : IsSequence m ts ls a s portals
  pub line : IsStabbable m portals
  pub into : PortalsLeadInto ts portals k

-- sight out of a enters triangle k
abbrev pub Enters : Map → List Triangle → List (Option ℕ) → ℕ → ℕ → Type 0
Enters m ts ls a k = (s : Sequence) × EntersBySequence m ts ls a k s

-- sight out of one of the sources does
abbrev pub IsEntered : Map → List Triangle → List (Option ℕ) → List ℕ → ℕ → Type 0
IsEntered m ts ls sources k = (a : ℕ) × Contains sources a × Enters m ts ls a k

-- the triangle is one of a source
abbrev pub IsOfSource : List (Option ℕ) → List ℕ → ℕ → Type 0
IsOfSource ls sources k = (a : ℕ) × Contains sources a × (label_of ls k ≡ Some a)

-- the triangle is one of a source, or sight out of a source enters it
abbrev pub IsInSight : Map → List Triangle → List (Option ℕ) → List ℕ → ℕ → Type 0
IsInSight m ts ls sources k = IsOfSource ls sources k ⊎ IsEntered m ts ls sources k
