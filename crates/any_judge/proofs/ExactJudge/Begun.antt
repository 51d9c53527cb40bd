-- Trees that begin one after another: how many there are, and which nodes.
use Rattle.std.proofs.Common.{◌≡◌, ℕ, zero, suc, ◌+◌, ◌-◌, ◌<◌, ◌≤◌, ◌^◌, List, [], ◌∷◌, ◌++◌, Option, Some, None, length, refl, sym, ◌∙◌, ap, subst, arith}
use Rattle.std.specs.List.{AllByRecursion}
use Rattle.std.specs.Prelude.{option_map}
use Rattle.std.proofs.lemmas.List.{append-nil, length-append}
use Rattle.block_evidence.specs.declared.sight_tree.Node.{Node}
use Rattle.any_judge.specs.declared.exact_judge.ground.Ground.{Ground}
use Rattle.any_judge.specs.ExactJudge.Trees.{Begun, all_begun, one_node, next_begun, many_begun, begun_all, AreTreesCountable}

-- ---- how many

pub one_more : (b : Begun) → length (all_begun (next_begun b)) ≡ length (all_begun b) + 1
one_more b = length-append (all_begun b) ([] ∷ [])

pub many_more : (k : ℕ) (b : Begun) → length (all_begun (many_begun k b)) ≡ length (all_begun b) + k
many_more zero b = omega arith
many_more (suc k) b = omega (arith, many_more k (next_begun b), one_more b)

pub last_begun : (k : ℕ) (b : Begun) → many_begun (suc k) b ≡ next_begun (many_begun k b)
last_begun zero b = refl
last_begun (suc k) b = last_begun k (next_begun b)

-- one more than begin from a number on
pub one_on : (i from : ℕ) (b : Begun) → from ≤ i → many_begun (i + 1 - from) b ≡ next_begun (many_begun (i - from) b)
one_on i from b le = let k : i + 1 - from ≡ suc (i - from) = omega (arith, le) in ap (λ (n : ℕ). many_begun n b) k ∙ last_begun (i - from) b

pub as_many : (count : ℕ) (b : Begun) → count ≤ length (all_begun (begun_all count b))
as_many count b = omega (arith, many_more (count - length (all_begun b)) b)

-- ---- counted

abbrev AreShort : List (List Node) → Type 0
AreShort trees = AllByRecursion (λ (ns : List Node). length ns < 2 ^ 64) trees

short_front : (trees more : List (List Node)) → AreShort (trees ++ more) → AreShort trees
short_front [] more h = tt
short_front (ns ∷ trees) more h = (h.0, short_front trees more h.1)

short_last : (front : List (List Node)) (ns : List Node) → AreShort (front ++ ns ∷ []) → length ns < 2 ^ 64
short_last [] ns h = h.0
short_last (x ∷ front) ns h = short_last front ns h.1

short_less : (front : List (List Node)) (ns : List Node) (n : Node) → AreShort (front ++ (ns ++ n ∷ []) ∷ []) → AreShort (front ++ ns ∷ [])
short_less [] ns n h = (omega (arith, h.0, length-append ns (n ∷ [])), tt)
short_less (x ∷ front) ns n h = (h.0, short_less front ns n h.1)

module _ (g : Ground) where
  pub counted_before : (b : Begun) → AreTreesCountable g (next_begun b) → AreTreesCountable g b
  counted_before b c = record { few = omega (arith, c.few, one_more b); nodes = short_front (all_begun b) ([] ∷ []) c.nodes }

  pub counted_none : (b : Begun) → AreTreesCountable g (next_begun b) → AreTreesCountable g (all_begun b, None)
  counted_none b c =
      let h = counted_before b c in
      record { few = omega (arith, h.few, ap length (append-nil (all_begun b))); nodes = subst AreShort (sym (append-nil (all_begun b))) h.nodes }

  pub counted_many : (k : ℕ) (b : Begun) → AreTreesCountable g (many_begun k b) → AreTreesCountable g b
  counted_many zero b c = c
  counted_many (suc k) b c = counted_before b (counted_many k (next_begun b) c)

  pub counted_ended : (b : Begun) → AreTreesCountable g (all_begun b, None) → AreTreesCountable g b
  counted_ended b c = record { few = omega (arith, c.few, ap length (append-nil (all_begun b))); nodes = subst AreShort (append-nil (all_begun b)) c.nodes }

  pub counted_less : (front : List (List Node)) (o : Option (List Node)) (n : Node) → AreTreesCountable g (front, option_map (one_node n) o) → AreTreesCountable g (front, o)
  counted_less front None n c = c
  counted_less front (Some ns) n c = record { few = omega (arith, c.few, length-append front ((ns ++ n ∷ []) ∷ []), length-append front (ns ∷ [])); nodes = short_less front ns n c.nodes }

  pub last_counted : (front : List (List Node)) (ns : List Node) → AreTreesCountable g (front, Some ns) → length ns < 2 ^ 64
  last_counted front ns c = short_last front ns c.nodes
