-- A judge of trees that come node by node: what it says of the trees so far when one begins, goes on or ends.
use Rattle.std.proofs.Common.{◌≡◌, ℕ, ◌+◌, ◌-◌, ◌<◌, ◌^◌, ◌⊎◌, inl, inr, List, [], ◌∷◌, ◌++◌, Option, Some, None, length, map, Contains, Bool, true, false, refl, sym, ◌∙◌, ap, subst, arith}
use Rattle.std.specs.List.{slice_get}
use Rattle.std.specs.Option.{is_some, option_to_list}
use Rattle.std.specs.Prelude.{option_map}
use Rattle.std.proofs.lemmas.List.{append-nil, append_assoc, length-append, take-append-le}
use Rattle.std.proofs.lemmas.List.Elements.{Contains-append_left, Contains-push, Contains-push_cases}
use Rattle.std.proofs.lemmas.Option.{slice_get_within, get_or_from_slice_get, same_Some}
use Rattle.sight_names.specs.declared.names.Triangle.{Triangle}
use Rattle.sight_names.specs.Map.{Map}
use Rattle.block_evidence.specs.declared.sight_tree.Node.{Node}
use Rattle.block_evidence.specs.declared.sight_tree.Tree.{Tree}
use Rattle.reject_bits.specs.Parts.{TableParts, Rejects}
use Rattle.mesh_shape.specs.declared.half_edges.table.HalfEdge.{HalfEdge}
use Rattle.math_base.proofs.Lists.{contains_none, length_pushed, get_pushed, get_before_pushed, pushed_at}
use Rattle.cert_checker.specs.declared.tree_judge.hearing.TreeJudge.{TreeJudge}
use Rattle.cert_checker.specs.declared.tree_judge.roots.Root.{Root}
use Rattle.cert_checker.specs.declared.tree_judge.roots.Roots.{Roots}
use Rattle.cert_checker.specs.TreeJudge.Heard.{IsTreeCounted, AreTreesCounted, AreTreesNoted, IsTreeUnderWay, IsOpenWrong, IsTreeJudged, HasHeardTrees}
use Rattle.cert_checker.specs.TreeJudge.Marks.{IsFlagSet, Marks, HasNoMark}
use Rattle.cert_checker.specs.TreeJudge.Path.{Pending, root_pending}
use Rattle.cert_checker.specs.TreeJudge.Roots.{first_at, root_edges, AreRootChains}
use Rattle.cert_checker.specs.TreeJudge.Steps.{AreSteps}
use Rattle.cert_checker.specs.TreeJudge.Walked.{begun, with_nodes, IsTreeWalked}
use Rattle.cert_checker.specs.TreeJudge.Whole.{AnswersFirst, AreAnswered, IsFirstWrongNode, Notes, IsFirstWrongFrom, IsFirstWrongTree, IsWholeFrom, IsWholeOver, HasTreeAway, HasTreeInto, HasNoBit}

-- ---- trees that can be counted

pub counted_front : (n : ℕ) (front : List Tree) (t : Tree) → AreTreesCounted n (front ++ t ∷ []) → AreTreesCounted n front
counted_front n front t all u there = all u (Contains-append_left front (t ∷ []) u there)

pub counted_last : (n : ℕ) (front : List Tree) (t : Tree) → AreTreesCounted n (front ++ t ∷ []) → IsTreeCounted n t
counted_last n front t all = all t (Contains-push front t)

-- fewer nodes
pub counted_less : (n : ℕ) (front : List Tree) (ks : List Node) (o : Option Tree) → AreTreesCounted n (front ++ option_to_list (option_map (with_nodes ks) o)) → AreTreesCounted n (front ++ option_to_list o)
counted_less n front ks None all u there = all u there
counted_less n front ks (Some t) all u there = elim (Contains-push_cases front t u there) as (λ _. IsTreeCounted n u) [
  | inl h ↦ counted_front n front (with_nodes ks t) all u h
  | inr e ↦ subst (IsTreeCounted n) e (record { source = (counted_last n front (with_nodes ks t) all).source; nodes = let h : length (t.nodes ++ ks) ≡ length t.nodes + length ks = length-append t.nodes ks in let l : length (t.nodes ++ ks) < 2 ^ 64 = (counted_last n front (with_nodes ks t) all).nodes in omega (arith, h, l) })
]

pub counted_ended : (n : ℕ) (front : List Tree) (o : Option Tree) → AreTreesCounted n ((front ++ option_to_list o) ++ []) → AreTreesCounted n (front ++ option_to_list o)
counted_ended n front o all = subst (AreTreesCounted n) (append-nil (front ++ option_to_list o)) all

-- ---- a first wrong node stays the first

-- whatever node comes behind it
pub still_first : (xs : List HalfEdge) (source : ℕ) (ps : List Pending) (ns : List Node) (n : Node) (k : ℕ) → k < length ns → IsFirstWrongNode xs source ps ns k → IsFirstWrongNode xs source ps (ns ++ n ∷ []) k
still_first xs source ps ns n k l w = record {
  left = w.left;
  sectors = w.sectors;
  within = omega (arith, long, l);
  before = subst (λ (us : List Node). AreAnswered xs source ps us w.left w.sectors) (sym (take-append-le k ns (n ∷ []) (omega (arith, l)))) w.before;
  wrong = λ x e qs here answer. there x (pushed_at ns n x k e) qs here answer;
  missing = λ e. absurd (omega (arith, e, long, l));
}
  where
    long : length (ns ++ n ∷ []) ≡ length ns + 1
    long = length_pushed ns n

    there : (x : Node) → (slice_get ns k ≡ Some x) ⊎ ((k ≡ length ns) × (n ≡ x)) → (qs : List Pending) (here : List ℕ) → ¬ AnswersFirst xs source w.left x qs here
    there x (inl e) qs here answer = w.wrong x e qs here answer
    there x (inr h) qs here answer = let e : k ≡ length ns = h.0 in omega (arith, e, l)

pub still_first_of : (xs : List HalfEdge) (source : ℕ) (ps : List Pending) (ns more : List Node) (k : ℕ) → k < length ns → IsFirstWrongNode xs source ps ns k → IsFirstWrongNode xs source ps (ns ++ more) k
still_first_of xs source ps ns [] k l w = subst (λ (us : List Node). IsFirstWrongNode xs source ps us k) (sym (append-nil ns)) w
still_first_of xs source ps ns (n ∷ more) k l w =
    let long : length (ns ++ n ∷ []) ≡ length ns + 1 = length_pushed ns n in
    subst (λ (us : List Node). IsFirstWrongNode xs source ps us k) (append_assoc ns (n ∷ []) more) (still_first_of xs source ps (ns ++ n ∷ []) more k (omega (arith, long, l)) (still_first xs source ps ns n k l w))

module _ (m : Map) (ts : List Triangle) (xs : List HalfEdge) where
  -- whatever tree comes behind it
  pub tree_still_first : (front : List Tree) (o : Option Tree) (s k : ℕ) → IsFirstWrongTree m ts xs front s k → IsFirstWrongTree m ts xs (front ++ option_to_list o) s k
  tree_still_first front None s k w = subst (λ (us : List Tree). IsFirstWrongTree m ts xs us s k) (sym (append-nil front)) w
  tree_still_first front (Some t) s k w = record {
    place = w.place;
    tree = w.tree;
    is = get_before_pushed front t w.tree w.place w.is;
    of = w.of;
    wrong = w.wrong;
    before = λ i u l e. at i u l (pushed_at front t u i e);
  }
    where
      at : (i : ℕ) (u : Tree) → i < w.place → (slice_get front i ≡ Some u) ⊎ ((i ≡ length front) × (t ≡ u)) → (sectors : List ℕ) × IsWholeOver m ts xs u sectors
      at i u l (inl e) = w.before i u l e
      at i u l (inr h) = let e : i ≡ length front = h.0 in let g : w.place < length front = slice_get_within front w.place w.tree w.is in absurd (omega (arith, l, e, g))

  -- the open tree has a wrong node, and all before it are whole
  pub last_is_first : (front : List Tree) (t : Tree) (k : ℕ) → ((u : Tree) → Contains front u → (sectors : List ℕ) × IsWholeOver m ts xs u sectors)
      → IsFirstWrongNode xs t.source (map root_pending (root_edges ts xs m t.source)) t.nodes k → IsFirstWrongTree m ts xs (front ++ t ∷ []) t.source k
  last_is_first front t k whole wrong = record {
    place = length front;
    tree = t;
    is = get_pushed front t;
    of = refl;
    wrong = wrong;
    before = λ i u l e. at i u l (pushed_at front t u i e);
  }
    where
      at : (i : ℕ) (u : Tree) → i < length front → (slice_get front i ≡ Some u) ⊎ ((i ≡ length front) × (t ≡ u)) → (sectors : List ℕ) × IsWholeOver m ts xs u sectors
      at i u l (inl e) = whole u (i, l, get_or_from_slice_get front i u u e)
      at i u l (inr h) = let e : i ≡ length front = h.0 in absurd (omega (arith, l, e))

  pub open_is_first : (front : List Tree) (o : Option Tree) (s k : ℕ) → IsOpenWrong m ts xs front o s k → IsFirstWrongTree m ts xs (front ++ option_to_list o) s k
  open_is_first front o s k w = subst (λ (p : Option Tree). IsFirstWrongTree m ts xs (front ++ option_to_list p) s k) (sym w.is) (subst (λ (a : ℕ). IsFirstWrongTree m ts xs (front ++ w.tree ∷ []) a k) w.of (last_is_first front w.tree k w.before w.wrong))

  pub wrong_with_nodes : (front : List Tree) (o : Option Tree) (ns : List Node) (s k : ℕ) → IsOpenWrong m ts xs front o s k → IsOpenWrong m ts xs front (option_map (with_nodes ns) o) s k
  wrong_with_nodes front o ns s k w = record {
    tree = with_nodes ns w.tree;
    is = ap (option_map (with_nodes ns)) w.is;
    of = w.of;
    there = let h : length (w.tree.nodes ++ ns) ≡ length w.tree.nodes + length ns = length-append w.tree.nodes ns in omega (arith, h, w.there);
    wrong = still_first_of xs w.tree.source (map root_pending (root_edges ts xs m w.tree.source)) w.tree.nodes ns k w.there w.wrong;
    before = w.before;
  }

  -- ---- trees that are whole

  pub none_noted : (walked : List Bool) (reached : TableParts) → HasNoMark m.sectors walked → HasNoBit reached → reached.n ≡ m.sectors → AreTreesNoted m ts xs [] walked reached
  none_noted walked reached none unset size = record {
    unmarked = walked;
    clear = reached;
    none = none;
    unset = unset;
    size = size;
    marks = none.len;
    sectors = size;
    over = record { each = λ t there. absurd (contains_none t there); away = λ a b la lb k r. inl k; marked = λ t there l. absurd (contains_none t there); entered = λ a b la lb s. inl s };
  }

  -- one more is whole
  pub one_more_noted : (front : List Tree) (t : Tree) (roots : List Root) (firsts : List (Option ℕ)) (w w_new : List Bool) (r r_new : TableParts) → AreRootChains m ts xs roots firsts → t.source < m.sectors
      → AreTreesNoted m ts xs front w r → IsWholeFrom xs roots (first_at firsts t.source) t r r_new → Marks (Some t.source) w w_new → AreTreesNoted m ts xs (front ++ t ∷ []) w_new r_new
  one_more_noted front t roots firsts w w_new r r_new are low f g marks = go (g.whole (root_edges ts xs m t.source) (are.chains t.source low))
    where
      go : (sectors : List ℕ) × AreAnswered xs t.source (map root_pending (root_edges ts xs m t.source)) t.nodes [] sectors × Notes t.source sectors r r_new → AreTreesNoted m ts xs (front ++ t ∷ []) w_new r_new
      go (sectors, answered, notes) = record {
        unmarked = f.unmarked;
        clear = f.clear;
        none = f.none;
        unset = f.unset;
        size = f.size;
        marks = marks.len ∙ f.marks;
        sectors = notes.size ∙ f.sectors;
        over = record { each = λ u there. each u (Contains-push_cases front t u there); away = away; marked = λ u there l. marked u (Contains-push_cases front t u there) l; entered = entered };
      }
        where
          each : (u : Tree) → Contains front u ⊎ (t ≡ u) → (sectors : List ℕ) × IsWholeOver m ts xs u sectors
          each u (inl h) = f.over.each u h
          each u (inr e) = subst (λ (v : Tree). (sectors : List ℕ) × IsWholeOver m ts xs v sectors) e (sectors, answered)

          marked : (u : Tree) → Contains front u ⊎ (t ≡ u) → u.source < length f.unmarked → IsFlagSet w_new u.source
          marked u (inl h) l = (marks.flags u.source (omega (arith, l, f.marks, f.none.len))).1 (inl (f.over.marked u h l))
          marked u (inr e) l = (marks.flags u.source (omega (arith, l, f.marks, f.none.len))).1 (inr (ap (λ (v : Tree). let o : Option ℕ = Some v.source in o) e))

          within : (a : ℕ) → a < f.clear.n → a < r.n
          within a l = omega (arith, l, f.size, f.sectors)

          into : (a b : ℕ) → HasTreeInto m ts xs front a b → HasTreeInto m ts xs (front ++ t ∷ []) a b
          into a b (u, others, there, of, whole, has) = (u, others, Contains-append_left front (t ∷ []) u there, of, whole, has)

          apart : (a b : ℕ) → HasTreeAway m ts xs front a b → HasTreeAway m ts xs (front ++ t ∷ []) a b
          apart a b (u, others, there, of, whole, keeps) = (u, others, Contains-append_left front (t ∷ []) u there, of, whole, keeps)

          entered : (a b : ℕ) → a < f.clear.n → b < f.clear.n → Rejects r_new a b → Rejects f.clear a b ⊎ HasTreeInto m ts xs (front ++ t ∷ []) a b
          entered a b la lb set = by ((notes.bits a b (within a la) (within b lb)).0 set)
            where
              by : Rejects r a b ⊎ ((a ≡ t.source) × Contains sectors b) → Rejects f.clear a b ⊎ HasTreeInto m ts xs (front ++ t ∷ []) a b
              by (inl h) = elim (f.over.entered a b la lb h) as (λ _. Rejects f.clear a b ⊎ HasTreeInto m ts xs (front ++ t ∷ []) a b) [ inl s ↦ inl s | inr s ↦ inr (into a b s) ]
              by (inr h) = inr (t, sectors, Contains-push front t, sym h.0, answered, h.1)

          away : (a b : ℕ) → a < f.clear.n → b < f.clear.n → IsFlagSet w_new a → ¬ Rejects r_new a b → IsFlagSet f.unmarked a ⊎ HasTreeAway m ts xs (front ++ t ∷ []) a b
          away a b la lb n clear = by ((marks.flags a (let l : a < length w_new = slice_get_within w_new a true n in omega (arith, l, marks.len))).0 n)
            where
              bits : (Rejects r_new a b → Rejects r a b ⊎ ((a ≡ t.source) × Contains sectors b)) × (Rejects r a b ⊎ ((a ≡ t.source) × Contains sectors b) → Rejects r_new a b)
              bits = notes.bits a b (within a la) (within b lb)

              by : IsFlagSet w a ⊎ (◌≡◌ {A = Option ℕ} (Some t.source) (Some a)) → IsFlagSet f.unmarked a ⊎ HasTreeAway m ts xs (front ++ t ∷ []) a b
              by (inl h) = elim (f.over.away a b la lb h (λ s. clear (bits.1 (inl s)))) as (λ _. IsFlagSet f.unmarked a ⊎ HasTreeAway m ts xs (front ++ t ∷ []) a b) [ inl s ↦ inl s | inr s ↦ inr (apart a b s) ]
              by (inr e) = inr (t, sectors, Contains-push front t, same_Some t.source a e, answered, λ c. clear (bits.1 (inr (sym (same_Some t.source a e), c))))

  -- ---- the judge

  -- a tree is under way, or none is
  pub is_under_way : (front : List Tree) (o : Option Tree) (j : TreeJudge) (w : Option (ℕ × ℕ)) → j.under_way ≡ true → IsTreeJudged m ts xs front o j w → (t : Tree) × (o ≡ Some t) × (w ≡ None) × IsTreeUnderWay m ts xs front t j
  is_under_way front o j (Some w) going h = absurd (let e : j.under_way ≡ false = h.0 in cc)
  is_under_way front None j None going h = absurd (let e : j.under_way ≡ false = h.0 in cc)
  is_under_way front (Some t) j None going h = (t, refl, refl, h)

  -- the first wrong node, where no tree is open any more
  pub ended_wrong : (front : List Tree) (o : Option Tree) (s k : ℕ) → IsFirstWrongTree m ts xs front s k ⊎ IsOpenWrong m ts xs front o s k → IsFirstWrongTree m ts xs (front ++ option_to_list o) s k
  ended_wrong front o s k (inl h) = tree_still_first front o s k h
  ended_wrong front o s k (inr h) = open_is_first front o s k h

  -- nothing was under way, and nothing is when the tree has ended
  pub stays_ended : (front : List Tree) (o : Option Tree) (j : TreeJudge) (w : Option (ℕ × ℕ)) → j.under_way ≡ false → IsTreeJudged m ts xs front o j w → IsTreeJudged m ts xs (front ++ option_to_list o) None j w
  stays_ended front o j (Some w) ended h = (h.0, inl (ended_wrong front o w.0 w.1 h.1))
  stays_ended front None j None ended h = (h.0, subst (λ (us : List Tree). AreTreesNoted m ts xs us j.walked.items j.reached) (sym (append-nil front)) h.1)
  stays_ended front (Some t) j None ended h = absurd (let e : j.under_way ≡ true = h.going in cc)

  -- nothing was under way, and nodes come
  stays_judged : (front : List Tree) (o : Option Tree) (ns : List Node) (j : TreeJudge) (w : Option (ℕ × ℕ)) → j.under_way ≡ false → IsTreeJudged m ts xs front o j w → IsTreeJudged m ts xs front (option_map (with_nodes ns) o) j w
  stays_judged front o ns j (Some w) ended h = (h.0, elim h.1 as (λ _. IsFirstWrongTree m ts xs front w.0 w.1 ⊎ IsOpenWrong m ts xs front (option_map (with_nodes ns) o) w.0 w.1) [ inl f ↦ inl f | inr f ↦ inr (wrong_with_nodes front o ns w.0 w.1 f) ])
  stays_judged front None ns j None ended h = h
  stays_judged front (Some t) ns j None ended h = absurd (let e : j.under_way ≡ true = h.going in cc)

  pub stays_with_nodes : (front : List Tree) (o : Option Tree) (ns : List Node) (j : TreeJudge) → j.under_way ≡ false → HasHeardTrees m ts xs front o j → HasHeardTrees m ts xs front (option_map (with_nodes ns) o) j
  stays_with_nodes front o ns j ended h = record { roots = h.roots; steps = h.steps; judged = λ all. stays_judged front o ns j j.wrong ended (h.judged (counted_less m.sectors front ns o all)) }

  -- nothing was under way, and a tree begins behind a wrong one
  pub begins_behind_wrong : (front : List Tree) (t : Tree) (j : TreeJudge) (w : ℕ × ℕ) → IsTreeJudged m ts xs front None j (Some w) → IsTreeJudged m ts xs front (Some t) j (Some w)
  begins_behind_wrong front t j w h = (h.0, inl (elim h.1 as (λ _. IsFirstWrongTree m ts xs front w.0 w.1) [ inl f ↦ f | inr f ↦ absurd (let e : ◌≡◌ {A = Option Tree} None (Some f.tree) = f.is in cc) ]))

  -- the open tree is whole
  pub ends_whole : (front : List Tree) (t : Tree) (j : TreeJudge) (source : ℕ) (walked_new : List Bool) → AreRootChains m ts xs j.roots.roots.items j.roots.first.items → t.source < m.sectors → IsTreeUnderWay m ts xs front t j
      → ((old : TableParts) → IsTreeWalked xs j.roots.roots.items j.roots.first.items t old j.reached j.walk → IsWholeFrom xs j.roots.roots.items (first_at j.roots.first.items t.source) t old j.reached)
      → source ≡ j.walk.source → Marks (Some source) j.walked.items walked_new → AreTreesNoted m ts xs (front ++ t ∷ []) walked_new j.reached
  ends_whole front t j source walked_new are low u whole e marks = one_more_noted front t j.roots.roots.items j.roots.first.items j.walked.items walked_new u.begun j.reached are low u.noted (whole u.begun u.walked)
      (subst (λ (s : ℕ). Marks (Some s) j.walked.items walked_new) (e ∙ u.walked.source_is) marks)

  -- or a node of it is missing
  pub ends_wrong : (front : List Tree) (t : Tree) (j : TreeJudge) (source number : ℕ) → AreRootChains m ts xs j.roots.roots.items j.roots.first.items → t.source < m.sectors → IsTreeUnderWay m ts xs front t j
      → ((old : TableParts) → IsTreeWalked xs j.roots.roots.items j.roots.first.items t old j.reached j.walk → IsFirstWrongFrom xs j.roots.roots.items (first_at j.roots.first.items t.source) t (length t.nodes))
      → source ≡ j.walk.source → number ≡ j.number → IsFirstWrongTree m ts xs (front ++ t ∷ []) source number
  ends_wrong front t j source number are low u wrong e f = subst (λ (s : ℕ). IsFirstWrongTree m ts xs (front ++ t ∷ []) s number) (sym (e ∙ u.walked.source_is)) (subst (IsFirstWrongTree m ts xs (front ++ t ∷ []) t.source) (sym (f ∙ u.number))
      (last_is_first front t (length t.nodes) u.noted.over.each ((wrong u.begun u.walked).wrong (root_edges ts xs m t.source) (are.chains t.source low))))

  -- the last of the next nodes of the open tree is wrong
  pub hears_wrong : (front : List Tree) (t : Tree) (ns : List Node) (j : TreeJudge) (source number : ℕ) → AreRootChains m ts xs j.roots.roots.items j.roots.first.items → t.source < m.sectors → IsTreeUnderWay m ts xs front t j → 0 < length ns
      → ((old : TableParts) → IsTreeWalked xs j.roots.roots.items j.roots.first.items t old j.reached j.walk → IsFirstWrongFrom xs j.roots.roots.items (first_at j.roots.first.items t.source) (with_nodes ns t) (length t.nodes + length ns - 1))
      → source ≡ j.walk.source → number ≡ length t.nodes + length ns - 1 → IsOpenWrong m ts xs front (Some (with_nodes ns t)) source number
  hears_wrong front t ns j source number are low u some wrong e f = record {
    tree = with_nodes ns t;
    is = refl;
    of = sym (e ∙ u.walked.source_is);
    there = let h : length (t.nodes ++ ns) ≡ length t.nodes + length ns = length-append t.nodes ns in omega (arith, h, f, some);
    wrong = subst (IsFirstWrongNode xs t.source (map root_pending (root_edges ts xs m t.source)) (t.nodes ++ ns)) (sym f) ((wrong u.begun u.walked).wrong (root_edges ts xs m t.source) (are.chains t.source low));
    before = u.noted.over.each;
  }

  -- all of them answer
  pub hears_right : (front : List Tree) (t : Tree) (ns : List Node) (j k : TreeJudge) → IsTreeUnderWay m ts xs front t j → k.under_way ≡ true → k.walked.items ≡ j.walked.items
      → ((old : TableParts) → IsTreeWalked xs j.roots.roots.items j.roots.first.items t old j.reached j.walk → IsTreeWalked xs k.roots.roots.items k.roots.first.items (with_nodes ns t) old k.reached k.walk)
      → k.number ≡ length (t.nodes ++ ns) → IsTreeUnderWay m ts xs front (with_nodes ns t) k
  hears_right front t ns j k u going marks walked count = record {
    going = going;
    begun = u.begun;
    noted = subst (λ (ws : List Bool). AreTreesNoted m ts xs front ws u.begun) (sym marks) u.noted;
    walked = walked u.begun u.walked;
    number = count;
  }

  -- a tree begins, where a tree that has ended was wrong
  pub begins_where_wrong : (front : List Tree) (t : Tree) (j : TreeJudge) (w : Option (ℕ × ℕ)) → true ≡ is_some w → IsTreeJudged m ts xs front None j w → IsTreeJudged m ts xs front (Some t) j w
  begins_where_wrong front t j (Some w) some h = begins_behind_wrong front t j w h
  begins_where_wrong front t j None some h = absurd (cc)

  -- where none was
  pub judged_under_way : (front : List Tree) (t : Tree) (k : TreeJudge) (w : Option (ℕ × ℕ)) → w ≡ None → IsTreeUnderWay m ts xs front t k → IsTreeJudged m ts xs front (Some t) k w
  judged_under_way front t k w e u = subst (λ (o : Option (ℕ × ℕ)). IsTreeJudged m ts xs front (Some t) k o) (sym e) u

  pub noted_where_none : (front : List Tree) (j : TreeJudge) (w : Option (ℕ × ℕ)) → w ≡ None → IsTreeJudged m ts xs front None j w → AreTreesNoted m ts xs front j.walked.items j.reached
  noted_where_none front j w e h = (subst (λ (o : Option (ℕ × ℕ)). IsTreeJudged m ts xs front None j o) e h).1

  -- ---- from what was heard to what is heard then

  under_way_now : (front : List Tree) (o : Option Tree) (j : TreeJudge) → HasHeardTrees m ts xs front o j → j.under_way ≡ true → AreTreesCounted m.sectors (front ++ option_to_list o)
      → (t : Tree) × (o ≡ Some t) × (j.wrong ≡ None) × IsTreeUnderWay m ts xs front t j × IsTreeCounted m.sectors t
  under_way_now front o j h going all = go (is_under_way front o j j.wrong going (h.judged all))
    where
      go : (t : Tree) × (o ≡ Some t) × (j.wrong ≡ None) × IsTreeUnderWay m ts xs front t j → (t : Tree) × (o ≡ Some t) × (j.wrong ≡ None) × IsTreeUnderWay m ts xs front t j × IsTreeCounted m.sectors t
      go (t, e, w, u) = (t, e, w, u, counted_last m.sectors front t (subst (λ (p : Option Tree). AreTreesCounted m.sectors (front ++ option_to_list p)) e all))

  -- the open tree ends, and it is whole
  pub end_whole : (front : List Tree) (o : Option Tree) (j k : TreeJudge) (source : ℕ) (now flags : List Bool) → HasHeardTrees m ts xs front o j → j.under_way ≡ true
      → ((t : Tree) (old : TableParts) → IsTreeWalked xs j.roots.roots.items j.roots.first.items t old j.reached j.walk → IsWholeFrom xs j.roots.roots.items (first_at j.roots.first.items t.source) t old j.reached)
      → source ≡ j.walk.source → now ≡ j.walked.items → Marks (Some source) now flags
      → k.roots ≡ j.roots → k.steps.items ≡ j.steps.items → k.walked.items ≡ flags → k.reached ≡ j.reached → k.under_way ≡ false → k.wrong ≡ j.wrong → HasHeardTrees m ts xs (front ++ option_to_list o) None k
  end_whole front o j k source now flags h going whole e f marks same_roots same_steps same_flags same_bits ended same_wrong = record {
    roots = subst (λ (r : Roots). AreRootChains m ts xs r.roots.items r.first.items) (sym same_roots) h.roots;
    steps = subst (AreSteps xs) (sym same_steps) h.steps;
    judged = λ all. go (under_way_now front o j h going (counted_ended m.sectors front o all));
  }
    where
      go : (t : Tree) × (o ≡ Some t) × (j.wrong ≡ None) × IsTreeUnderWay m ts xs front t j × IsTreeCounted m.sectors t → IsTreeJudged m ts xs (front ++ option_to_list o) None k k.wrong
      go (t, is, none, u, counted) = subst (λ (w : Option (ℕ × ℕ)). IsTreeJudged m ts xs (front ++ option_to_list o) None k w) (sym (same_wrong ∙ none)) (ended, noted)
        where
          noted : AreTreesNoted m ts xs (front ++ option_to_list o) k.walked.items k.reached
          noted = subst (λ (p : Option Tree). AreTreesNoted m ts xs (front ++ option_to_list p) k.walked.items k.reached) (sym is) (subst (λ (ws : List Bool). AreTreesNoted m ts xs (front ++ t ∷ []) ws k.reached) (sym same_flags) (subst (AreTreesNoted m ts xs (front ++ t ∷ []) flags) (sym same_bits)
              (ends_whole front t j source flags h.roots counted.source u (whole t) e (subst (λ (ws : List Bool). Marks (Some source) ws flags) f marks))))

  -- a node of it is missing
  pub end_wrong : (front : List Tree) (o : Option Tree) (j k : TreeJudge) (source number : ℕ) → HasHeardTrees m ts xs front o j → j.under_way ≡ true
      → ((t : Tree) (old : TableParts) → IsTreeWalked xs j.roots.roots.items j.roots.first.items t old j.reached j.walk → IsFirstWrongFrom xs j.roots.roots.items (first_at j.roots.first.items t.source) t (length t.nodes))
      → source ≡ j.walk.source → number ≡ j.number → k.roots ≡ j.roots → k.steps.items ≡ j.steps.items → k.under_way ≡ false → k.wrong ≡ Some (source, number) → HasHeardTrees m ts xs (front ++ option_to_list o) None k
  end_wrong front o j k source number h going wrong e f same_roots same_steps ended is_wrong = record {
    roots = subst (λ (r : Roots). AreRootChains m ts xs r.roots.items r.first.items) (sym same_roots) h.roots;
    steps = subst (AreSteps xs) (sym same_steps) h.steps;
    judged = λ all. go (under_way_now front o j h going (counted_ended m.sectors front o all));
  }
    where
      go : (t : Tree) × (o ≡ Some t) × (j.wrong ≡ None) × IsTreeUnderWay m ts xs front t j × IsTreeCounted m.sectors t → IsTreeJudged m ts xs (front ++ option_to_list o) None k k.wrong
      go (t, is, none, u, counted) = subst (λ (w : Option (ℕ × ℕ)). IsTreeJudged m ts xs (front ++ option_to_list o) None k w) (sym is_wrong) (ended, inl first)
        where
          first : IsFirstWrongTree m ts xs (front ++ option_to_list o) source number
          first = subst (λ (p : Option Tree). IsFirstWrongTree m ts xs (front ++ option_to_list p) source number) (sym is) (ends_wrong front t j source number h.roots counted.source u (wrong t) e f)

  -- the next nodes answer
  pub hear_right : (front : List Tree) (o : Option Tree) (ns : List Node) (j k : TreeJudge) → HasHeardTrees m ts xs front o j → j.under_way ≡ true
      → ((t : Tree) (old : TableParts) → IsTreeWalked xs j.roots.roots.items j.roots.first.items t old j.reached j.walk → IsTreeWalked xs j.roots.roots.items j.roots.first.items (with_nodes ns t) old k.reached k.walk)
      → ((n : ℕ) → j.number ≡ n → n + length ns < 2 ^ 64 → k.number ≡ n + length ns) → k.roots ≡ j.roots → k.steps.items ≡ j.steps.items → k.walked.items ≡ j.walked.items → k.under_way ≡ true → k.wrong ≡ j.wrong → HasHeardTrees m ts xs front (option_map (with_nodes ns) o) k
  hear_right front o ns j k h going walked count same_roots same_steps marks goes same_wrong = record {
    roots = subst (λ (r : Roots). AreRootChains m ts xs r.roots.items r.first.items) (sym same_roots) h.roots;
    steps = subst (AreSteps xs) (sym same_steps) h.steps;
    judged = λ all. go all (under_way_now front o j h going (counted_less m.sectors front ns o all));
  }
    where
      go : AreTreesCounted m.sectors (front ++ option_to_list (option_map (with_nodes ns) o)) → (t : Tree) × (o ≡ Some t) × (j.wrong ≡ None) × IsTreeUnderWay m ts xs front t j × IsTreeCounted m.sectors t → IsTreeJudged m ts xs front (option_map (with_nodes ns) o) k k.wrong
      go all (t, is, none, u, counted) = subst (λ (p : Option Tree). IsTreeJudged m ts xs front (option_map (with_nodes ns) p) k k.wrong) (sym is) (judged_under_way front (with_nodes ns t) k k.wrong (same_wrong ∙ none)
          (hears_right front t ns j k u goes marks (λ old w. subst (λ (r : Roots). IsTreeWalked xs r.roots.items r.first.items (with_nodes ns t) old k.reached k.walk) (sym same_roots) (walked t old w)) number))
        where
          long : length (t.nodes ++ ns) ≡ length t.nodes + length ns
          long = length-append t.nodes ns

          few : length (t.nodes ++ ns) < 2 ^ 64
          few = (counted_last m.sectors front (with_nodes ns t) (subst (λ (p : Option Tree). AreTreesCounted m.sectors (front ++ option_to_list (option_map (with_nodes ns) p))) is all)).nodes

          number : k.number ≡ length (t.nodes ++ ns)
          number = count (length t.nodes) u.number (omega (arith, long, few)) ∙ sym long

  -- the last of them doesn't
  pub hear_wrong : (front : List Tree) (o : Option Tree) (ns : List Node) (j k : TreeJudge) (source number : ℕ) → HasHeardTrees m ts xs front o j → j.under_way ≡ true → 0 < length ns
      → ((t : Tree) (old : TableParts) → IsTreeWalked xs j.roots.roots.items j.roots.first.items t old j.reached j.walk → IsFirstWrongFrom xs j.roots.roots.items (first_at j.roots.first.items t.source) (with_nodes ns t) (length t.nodes + length ns - 1))
      → source ≡ j.walk.source → ((n : ℕ) → j.number ≡ n → n + length ns < 2 ^ 64 → number ≡ n + length ns - 1) → k.roots ≡ j.roots → k.steps.items ≡ j.steps.items → k.under_way ≡ false → k.wrong ≡ Some (source, number) → HasHeardTrees m ts xs front (option_map (with_nodes ns) o) k
  hear_wrong front o ns j k source number h going some wrong e f same_roots same_steps ended is_wrong = record {
    roots = subst (λ (r : Roots). AreRootChains m ts xs r.roots.items r.first.items) (sym same_roots) h.roots;
    steps = subst (AreSteps xs) (sym same_steps) h.steps;
    judged = λ all. go all (under_way_now front o j h going (counted_less m.sectors front ns o all));
  }
    where
      go : AreTreesCounted m.sectors (front ++ option_to_list (option_map (with_nodes ns) o)) → (t : Tree) × (o ≡ Some t) × (j.wrong ≡ None) × IsTreeUnderWay m ts xs front t j × IsTreeCounted m.sectors t → IsTreeJudged m ts xs front (option_map (with_nodes ns) o) k k.wrong
      go all (t, is, none, u, counted) = subst (λ (w : Option (ℕ × ℕ)). IsTreeJudged m ts xs front (option_map (with_nodes ns) o) k w) (sym is_wrong)
          (ended, inr (subst (λ (p : Option Tree). IsOpenWrong m ts xs front (option_map (with_nodes ns) p) source number) (sym is) (hears_wrong front t ns j source number h.roots counted.source u some (wrong t) e (f (length t.nodes) u.number few))))
        where
          few : length t.nodes + length ns < 2 ^ 64
          few =
              let long : length (t.nodes ++ ns) ≡ length t.nodes + length ns = length-append t.nodes ns in
              let all_few : length (t.nodes ++ ns) < 2 ^ 64 = (counted_last m.sectors front (with_nodes ns t) (subst (λ (p : Option Tree). AreTreesCounted m.sectors (front ++ option_to_list (option_map (with_nodes ns) p))) is all)).nodes in
              omega (arith, long, all_few)

  -- a tree begins behind trees none of which is wrong
  pub begin_right : (front : List Tree) (source : ℕ) (j k : TreeJudge) → HasHeardTrees m ts xs front None j → j.wrong ≡ None
      → ((old : TableParts) → IsTreeWalked xs j.roots.roots.items j.roots.first.items (begun source) old old k.walk)
      → k.number ≡ 0 → k.roots ≡ j.roots → k.steps.items ≡ j.steps.items → k.walked.items ≡ j.walked.items → k.reached ≡ j.reached → k.under_way ≡ true → k.wrong ≡ j.wrong → HasHeardTrees m ts xs front (Some (begun source)) k
  begin_right front source j k h none walked zero same_roots same_steps marks bits goes same_wrong = record {
    roots = subst (λ (r : Roots). AreRootChains m ts xs r.roots.items r.first.items) (sym same_roots) h.roots;
    steps = subst (AreSteps xs) (sym same_steps) h.steps;
    judged = λ all. judged_under_way front (begun source) k k.wrong (same_wrong ∙ none) (record {
      going = goes;
      begun = j.reached;
      noted = subst (λ (ws : List Bool). AreTreesNoted m ts xs front ws j.reached) (sym marks) (noted_where_none front j j.wrong none (h.judged (before all)));
      walked = subst (λ (r : Roots). IsTreeWalked xs r.roots.items r.first.items (begun source) j.reached k.reached k.walk) (sym same_roots) (subst (λ (t : TableParts). IsTreeWalked xs j.roots.roots.items j.roots.first.items (begun source) j.reached t k.walk) (sym bits) (walked j.reached));
      number = zero;
    });
  }
    where
      before : AreTreesCounted m.sectors (front ++ begun source ∷ []) → AreTreesCounted m.sectors (front ++ [])
      before all = subst (AreTreesCounted m.sectors) (sym (append-nil front)) (counted_front m.sectors front (begun source) all)

  -- behind a wrong one
  pub begin_wrong : (front : List Tree) (source : ℕ) (j : TreeJudge) → HasHeardTrees m ts xs front None j → true ≡ is_some j.wrong → HasHeardTrees m ts xs front (Some (begun source)) j
  begin_wrong front source j h some = record {
    roots = h.roots;
    steps = h.steps;
    judged = λ all. begins_where_wrong front (begun source) j j.wrong some (h.judged (subst (AreTreesCounted m.sectors) (sym (append-nil front)) (counted_front m.sectors front (begun source) all)));
  }
