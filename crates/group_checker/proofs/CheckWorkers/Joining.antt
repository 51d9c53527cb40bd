-- What parts of the trees tell, put together in order: of all trees, or of the first one that isn't whole.
use Rattle.std.proofs.Common.{◌≡◌, ℕ, zero, suc, ◌+◌, ◌<◌, ◌≤◌, min, ◌⊎◌, inl, inr, List, [], ◌∷◌, ◌++◌, Some, length, drop, get_or, Contains, Bool, refl, sym, ◌∙◌, ap, subst, arith, append_assoc}
use Rattle.std.specs.List.{slice_get, flat_map, AllZip}
use Rattle.std.proofs.lemmas.Bool.{cases_lt}
use Rattle.std.proofs.lemmas.Grind.{flat_map-append}
use Rattle.std.proofs.lemmas.List.{append-nil, drop_more}
use Rattle.std.proofs.lemmas.List.Elements.{Contains-append_left, Contains-append_right, Contains-append_cases}
use Rattle.std.proofs.lemmas.Option.{slice_get_within, get_or_from_slice_get}
use Rattle.sight_names.specs.declared.names.Triangle.{Triangle}
use Rattle.sight_names.specs.Map.{Map}
use Rattle.block_evidence.specs.declared.sight_tree.Tree.{Tree}
use Rattle.reject_bits.specs.Parts.{TableParts, Rejects}
use Rattle.mesh_shape.specs.declared.half_edges.table.HalfEdge.{HalfEdge}
use Rattle.cert_checker.specs.declared.tree_judge.judge.Reach.{Reach}
use Rattle.cert_checker.specs.declared.tree_judge.judge.TreeVerdict.{TreeVerdict}
use Rattle.cert_checker.specs.declared.tree_judge.judge.TreeVerdict.TheVariants.{Whole, Wrong}
use Rattle.cert_checker.specs.TreeJudge.Heard.{AreTreesNoted}
use Rattle.cert_checker.specs.TreeJudge.Marks.{IsFlagSet}
use Rattle.cert_checker.specs.TreeJudge.Part.{TellsPart}
use Rattle.cert_checker.specs.TreeJudge.Whole.{IsFirstWrongTree, IsWholeOver, HasTreeAway, HasTreeInto}
use Rattle.group_checker.specs.CheckWorkers.Joined.{TakesIn}
use Rattle.mesh_shape.proofs.HalfEdges.EachTriangle.{get_front, get_back as get_behind}

-- ---- places in two lists, one behind the other

split_at : (n i : ℕ) → n ≤ i → (j : ℕ) × (i ≡ n + j)
split_at zero i l = (i, omega arith)
split_at (suc n) zero l = absurd (omega (arith, l))
split_at (suc n) (suc i) l = let h = split_at n i (omega (arith, l)) in (h.0, let e : i ≡ n + h.0 = h.1 in omega (arith, e))

module _ (m : Map) (ts : List Triangle) (xs : List HalfEdge) where
  -- ---- two parts

  pub noted_both : (front part : List Tree) (w pw w_new : List Bool) (r pr r_new : TableParts) → AreTreesNoted m ts xs front w r → AreTreesNoted m ts xs part pw pr → TakesIn (min r.n pr.n) pw pr w w_new r r_new → AreTreesNoted m ts xs (front ++ part) w_new r_new
  noted_both front part w pw w_new r pr r_new f g t = record {
    unmarked = f.unmarked;
    clear = f.clear;
    none = f.none;
    unset = f.unset;
    size = f.size;
    marks = t.len ∙ f.marks;
    sectors = t.size ∙ f.sectors;
    over = record { each = λ u there. each u (Contains-append_cases front part u there); away = away; marked = λ u there l. marked u (Contains-append_cases front part u there) l; entered = entered };
  }
    where
      each : (u : Tree) → Contains front u ⊎ Contains part u → (sectors : List ℕ) × IsWholeOver m ts xs u sectors
      each u (inl h) = f.over.each u h
      each u (inr h) = g.over.each u h

      marked : (u : Tree) → Contains front u ⊎ Contains part u → u.source < length f.unmarked → IsFlagSet w_new u.source
      marked u (inl h) l = (t.flags u.source (omega (arith, l, f.marks, f.none.len))).1 (inl (f.over.marked u h l))
      marked u (inr h) l = (t.flags u.source (omega (arith, l, f.marks, f.none.len))).1 (inr (omega (arith, l, f.none.len, f.sectors, g.sectors), g.over.marked u h (omega (arith, l, f.none.len, g.none.len))))

      within : (a : ℕ) → a < f.clear.n → a < r.n
      within a l = omega (arith, l, f.size, f.sectors)

      there : (a : ℕ) → a < f.clear.n → a < g.clear.n
      there a l = omega (arith, l, f.size, g.size)

      left_into : (a b : ℕ) → HasTreeInto m ts xs front a b → HasTreeInto m ts xs (front ++ part) a b
      left_into a b (u, others, has, of, whole, enters) = (u, others, Contains-append_left front part u has, of, whole, enters)

      right_into : (a b : ℕ) → HasTreeInto m ts xs part a b → HasTreeInto m ts xs (front ++ part) a b
      right_into a b (u, others, has, of, whole, enters) = (u, others, Contains-append_right front part u has, of, whole, enters)

      left_apart : (a b : ℕ) → HasTreeAway m ts xs front a b → HasTreeAway m ts xs (front ++ part) a b
      left_apart a b (u, others, has, of, whole, keeps) = (u, others, Contains-append_left front part u has, of, whole, keeps)

      right_apart : (a b : ℕ) → HasTreeAway m ts xs part a b → HasTreeAway m ts xs (front ++ part) a b
      right_apart a b (u, others, has, of, whole, keeps) = (u, others, Contains-append_right front part u has, of, whole, keeps)

      entered : (a b : ℕ) → a < f.clear.n → b < f.clear.n → Rejects r_new a b → Rejects f.clear a b ⊎ HasTreeInto m ts xs (front ++ part) a b
      entered a b la lb set = by ((t.bits a b (within a la) (within b lb)).0 set)
        where
          by : Rejects r a b ⊎ ((a < min r.n pr.n) × IsFlagSet pw a × (b < pr.n) × Rejects pr a b) → Rejects f.clear a b ⊎ HasTreeInto m ts xs (front ++ part) a b
          by (inl h) = elim (f.over.entered a b la lb h) as (λ _. Rejects f.clear a b ⊎ HasTreeInto m ts xs (front ++ part) a b) [ inl s ↦ inl s | inr s ↦ inr (left_into a b s) ]
          by (inr h) = elim (g.over.entered a b (there a la) (there b lb) h.3) as (λ _. Rejects f.clear a b ⊎ HasTreeInto m ts xs (front ++ part) a b) [ inl s ↦ absurd (g.unset a b s) | inr s ↦ inr (right_into a b s) ]

      away : (a b : ℕ) → a < f.clear.n → b < f.clear.n → IsFlagSet w_new a → ¬ Rejects r_new a b → IsFlagSet f.unmarked a ⊎ HasTreeAway m ts xs (front ++ part) a b
      away a b la lb n clear = by ((t.flags a (omega (arith, la, f.size, f.marks))).0 n)
        where
          bits : (Rejects r_new a b → Rejects r a b ⊎ ((a < min r.n pr.n) × IsFlagSet pw a × (b < pr.n) × Rejects pr a b)) × (Rejects r a b ⊎ ((a < min r.n pr.n) × IsFlagSet pw a × (b < pr.n) × Rejects pr a b) → Rejects r_new a b)
          bits = t.bits a b (within a la) (within b lb)

          by : IsFlagSet w a ⊎ ((a < min r.n pr.n) × IsFlagSet pw a) → IsFlagSet f.unmarked a ⊎ HasTreeAway m ts xs (front ++ part) a b
          by (inl h) = elim (f.over.away a b la lb h (λ s. clear (bits.1 (inl s)))) as (λ _. IsFlagSet f.unmarked a ⊎ HasTreeAway m ts xs (front ++ part) a b) [ inl s ↦ inl s | inr s ↦ inr (left_apart a b s) ]
          by (inr h) = elim (g.over.away a b (there a la) (there b lb) h.1 (λ s. clear (bits.1 (inr (h.0, h.1, omega (arith, lb, f.size, g.sectors), s))))) as (λ _. IsFlagSet f.unmarked a ⊎ HasTreeAway m ts xs (front ++ part) a b) [
            | inl s ↦ absurd (g.none.none a (omega (arith, la, f.size)) s)
            | inr s ↦ inr (right_apart a b s)
          ]

  -- the first wrong tree of a part behind whole ones
  pub wrong_behind : (front part rest : List Tree) (w : List Bool) (r : TableParts) (s k : ℕ) → AreTreesNoted m ts xs front w r → IsFirstWrongTree m ts xs part s k → IsFirstWrongTree m ts xs (front ++ (part ++ rest)) s k
  wrong_behind front part rest w r s k f v = record {
    place = length front + v.place;
    tree = v.tree;
    is = get_behind front (part ++ rest) v.place (length front + v.place) refl ∙ get_front part rest v.place few ∙ v.is;
    of = v.of;
    wrong = v.wrong;
    before = λ i u l e. at i u l e (cases_lt i (length front));
  }
    where
      few : v.place < length part
      few = slice_get_within part v.place v.tree v.is

      at : (i : ℕ) (u : Tree) → i < length front + v.place → slice_get (front ++ (part ++ rest)) i ≡ Some u → (i < length front) ⊎ (length front ≤ i) → (sectors : List ℕ) × IsWholeOver m ts xs u sectors
      at i u l e (inl h) = f.over.each u (i, h, get_or_from_slice_get front i u u (sym (get_front front (part ++ rest) i h) ∙ e))
      at i u l e (inr h) = go (split_at (length front) i h)
        where
          go : (j : ℕ) × (i ≡ length front + j) → (sectors : List ℕ) × IsWholeOver m ts xs u sectors
          go (j, is) = v.before j u (omega (arith, l, is)) (sym (get_front part rest j (omega (arith, l, is, few))) ∙ sym (get_behind front (part ++ rest) j i is) ∙ e)

  -- ---- all parts

  -- some of the parts in front are taken in, and these are left
  abbrev pub AreJoined : List (List Tree) → List TreeVerdict → List Bool → TableParts → Type 0
  AreJoined lists left w r = (front rest : List (List Tree)) × (lists ≡ front ++ rest) × AllZip (TellsPart m ts xs) rest left × AreTreesNoted m ts xs (flat_map (λ l. l) front) w r

  pub none_joined : (lists : List (List Tree)) (left : List TreeVerdict) (w : List Bool) (r : TableParts) → AllZip (TellsPart m ts xs) lists left → AreTreesNoted m ts xs [] w r → AreJoined lists left w r
  none_joined lists left w r told noted = ([], lists, refl, told, noted)

  pub one_joined : (lists : List (List Tree)) (part : Reach) (left : List TreeVerdict) (w w_new : List Bool) (r r_new : TableParts) → AreJoined lists (Whole part ∷ left) w r
      → TakesIn (min r.n part.reached.n) part.walked.items part.reached w w_new r r_new → AreJoined lists left w_new r_new
  one_joined lists part left w w_new r r_new (front, [], is, told, noted) t = absurd told
  one_joined lists part left w w_new r r_new (front, l ∷ rest, is, told, noted) t = (
    front ++ l ∷ [],
    rest,
    is ∙ sym (append_assoc front (l ∷ []) rest),
    told.1,
    subst (λ (us : List Tree). AreTreesNoted m ts xs us w_new r_new) (sym (flat_map-append (λ (k : List Tree). k) front (l ∷ []) ∙ ap (λ (us : List Tree). flat_map (λ k. k) front ++ us) (append-nil l)))
        (noted_both (flat_map (λ k. k) front) l w part.walked.items w_new r part.reached r_new noted told.0 t),
  )

  pub all_joined : (lists : List (List Tree)) (w : List Bool) (r : TableParts) → AreJoined lists [] w r → AreTreesNoted m ts xs (flat_map (λ l. l) lists) w r
  all_joined lists w r (front, l ∷ rest, is, told, noted) = absurd told
  all_joined lists w r (front, [], is, told, noted) = subst (λ (ls : List (List Tree)). AreTreesNoted m ts xs (flat_map (λ l. l) ls) w r) (sym (is ∙ append-nil front)) noted

  pub wrong_joined : (lists : List (List Tree)) (s k : ℕ) (left : List TreeVerdict) (w : List Bool) (r : TableParts) → AreJoined lists (Wrong s k ∷ left) w r → IsFirstWrongTree m ts xs (flat_map (λ l. l) lists) s k
  wrong_joined lists s k left w r (front, [], is, told, noted) = absurd told
  wrong_joined lists s k left w r (front, l ∷ rest, is, told, noted) =
      subst (λ (us : List Tree). IsFirstWrongTree m ts xs us s k) (sym (ap (flat_map (λ (k : List Tree). k)) is ∙ flat_map-append (λ (k : List Tree). k) front (l ∷ rest)))
      (wrong_behind (flat_map (λ k. k) front) l (flat_map (λ k. k) rest) w r s k noted told.0)

-- the parts that are left, the next one first
pub next_left : (parts : List TreeVerdict) (k : ℕ) (item part : TreeVerdict) → k < length parts → item ≡ get_or parts k item → item ≡ part → drop k parts ≡ part ∷ drop (k + 1) parts
next_left parts k item part l at is = drop_more parts k item l ∙ ap (λ (v : TreeVerdict). v ∷ drop (k + 1) parts) (sym at ∙ is)
