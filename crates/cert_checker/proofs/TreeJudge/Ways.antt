-- The right ways that wait, on a path whose first portals are as they were; and the longest tree.
use Rattle.std.proofs.Common.{◌≡◌, ℕ, zero, suc, ◌+◌, ◌<◌, ◌≤◌, List, [], ◌∷◌, ◌++◌, length, get_or, max, set, take, refl, sym, ◌∙◌, ap, subst, arith}
use Rattle.std.proofs.Common.{Some, map, min, get_or-set_same}
use Rattle.std.proofs.lemmas.List.{take_more, take_more_set, take-set, length-set, length-take, map-append}
use Rattle.std.proofs.lemmas.Option.{slice_get_within, slice_get-get_or}
use Rattle.std.specs.List.{slice_get}
use Rattle.sight_names.specs.Splitting.{EndPoints}
use Rattle.block_evidence.specs.declared.sight_tree.Tree.{Tree}
use Rattle.cert_checker.specs.declared.tree_judge.roots.Root.{Root}
use Rattle.cert_checker.specs.declared.tree_judge.trees.Frame.{Frame}
use Rattle.cert_checker.specs.declared.tree_judge.trees.Wait.{Wait}
use Rattle.cert_checker.specs.declared.tree_judge.trees.Follow.{Follow}
use Rattle.cert_checker.specs.TreeJudge.Path.{portal_ends, path_ends, PutsAt, IsWaiting, Pending, pending_way, root_pending, IsWalkAt, longest_of}

-- ---- the first portals alone count

take_in : (xs : List Frame) (d e : ℕ) → d ≤ e → take d (take e xs) ≡ take d xs
take_in [] zero zero l = refl
take_in [] zero (suc e) l = refl
take_in [] (suc d) zero l = absurd (omega (arith, l))
take_in [] (suc d) (suc e) l = refl
take_in (x ∷ xs) zero zero l = refl
take_in (x ∷ xs) zero (suc e) l = refl
take_in (x ∷ xs) (suc d) zero l = absurd (omega (arith, l))
take_in (x ∷ xs) (suc d) (suc e) l = ap (λ (fs : List Frame). x ∷ fs) (take_in xs d e (omega (arith, l)))

get_in : (xs : List Wait) (k d : ℕ) → k < d → slice_get (take d xs) k ≡ slice_get xs k
get_in [] k zero l = absurd (omega (arith, l))
get_in [] k (suc d) l = refl
get_in (x ∷ xs) k zero l = absurd (omega (arith, l))
get_in (x ∷ xs) zero (suc d) l = refl
get_in (x ∷ xs) (suc k) (suc d) l = get_in xs k d (omega (arith, l))

still_leads : (path other : List Frame) (d count : ℕ) → take d other ≡ take d path → count ≤ d → count ≤ length path → count ≤ length other
still_leads path other d count e l n = omega (arith, h, f, g, l, n)
  where
    h : length (take d other) ≡ length (take d path)
    h = ap length e

    f : length (take d other) ≡ min d (length other)
    f = length-take d other

    g : length (take d path) ≡ min d (length path)
    g = length-take d path

pub waiting_same : (path other : List Frame) (waits others : List Wait) (d count : ℕ) (ws : List Pending) → take d other ≡ take d path → take d others ≡ take d waits → count ≤ d → IsWaiting path waits count ws → IsWaiting other others count ws
waiting_same path other waits others d count [] e i l h = h
waiting_same path other waits others d count (p ∷ ws) e i l (w, (k, q, is), leads, this, less, more) =
    (w, (k, q, there), still_leads path other d count e l leads, this ∙ ends, less, waiting_same path other waits others d w.before ws e i (omega (arith, l, less)) more)
  where
    near : k < d
    near = omega (arith, q, l)

    there : slice_get others k ≡ Some w
    there = sym (get_in others k d near) ∙ ap (λ (us : List Wait). slice_get us k) i ∙ get_in waits k d near ∙ is

    ends : ◌≡◌ {A = Pending} (record { path = path_ends (take count path); edge = w.way }) (record { path = path_ends (take count other); edge = w.way })
    ends = ap (λ (fs : List Frame). let r : Pending = record { path = path_ends fs; edge = w.way } in r) (sym (take_in path count d l) ∙ ap (take count) (sym e) ∙ take_in other count d l)

-- what is still to be asked depends on the places of the open portals alone
pub at_same : (roots : List Root) (path other : List Frame) (waits others : List Wait) (f : Follow) (ps : List Pending) → take f.depth other ≡ take f.depth path → take f.depth others ≡ take f.depth waits → IsWalkAt roots path waits f ps → IsWalkAt roots other others f ps
at_same roots path other waits others f ps e i a = record {
  es = a.es;
  ways = a.ways;
  chain = a.chain;
  waiting = waiting_same path other waits others f.depth f.waiting a.ways e i a.nested a.waiting;
  nested = a.nested;
  all = subst (λ (fs : List Frame). ps ≡ pending_way (path_ends fs) f.asked ++ (a.ways ++ map root_pending a.es)) (sym e) a.all;
  last = a.last;
}

-- ---- none waits

pub none_waits : (path : List Frame) (waits : List Wait) (count : ℕ) (ws : List Pending) → count ≡ 0 → IsWaiting path waits count ws → ws ≡ []
none_waits path waits count [] e h = refl
none_waits path waits count (p ∷ ws) e (w, (k, q, is), leads, first, less, more) = absurd (omega (arith, e, q))

pub none_stands : (path : List Frame) (waits : List Wait) (count : ℕ) (ws : List Pending) → length waits < count → IsWaiting path waits count ws → ws ≡ []
none_stands path waits count [] l h = refl
none_stands path waits count (p ∷ ws) l (w, (k, q, is), leads, first, less, more) = absurd (let n : k < length waits = slice_get_within waits k w is in omega (arith, l, q, n))

pub none_leads : (path : List Frame) (waits : List Wait) (count : ℕ) (ws : List Pending) → length path < count → IsWaiting path waits count ws → ws ≡ []
none_leads path waits count [] l h = refl
none_leads path waits count (p ∷ ws) l (w, at, leads, first, less, more) = absurd (omega (arith, l, leads))

-- ---- a portal that is put, and a way that waits behind one

pub put_at : (path : List Frame) (d : ℕ) (f : Frame) (ends : EndPoints) → d < length path → portal_ends f ≡ ends → PutsAt path d ends (set path d f)
put_at path d f ends l e = record {
  kept = take-set path d f;
  put = ap path_ends (take_more_set path d f l) ∙ map-append portal_ends (take d path) (f ∷ []) ∙ ap (λ (es : EndPoints). path_ends (take d path) ++ es ∷ []) e;
}

pub waits_at : (waits : List Wait) (d : ℕ) (w : Wait) → d < length waits → slice_get (set waits d w) d ≡ Some w
waits_at waits d w l = slice_get-get_or (set waits d w) d w (let h : length (set waits d w) ≡ length waits = length-set waits d w in omega (arith, h, l)) ∙ ap Some (get_or-set_same waits d w w l)

-- ---- the longest tree

longest_more : (ts : List Tree) (t : Tree) → longest_of (ts ++ t ∷ []) ≡ max (longest_of ts) (length t.nodes)
longest_more [] t = omega arith
longest_more (u ∷ ts) t = let h : longest_of (ts ++ t ∷ []) ≡ max (longest_of ts) (length t.nodes) = longest_more ts t in omega (arith, h)

pub longest_step : (ts : List Tree) (i : ℕ) (t : Tree) → i < length ts → t ≡ get_or ts i t → longest_of (take (i + 1) ts) ≡ max (longest_of (take i ts)) (length t.nodes)
longest_step ts i t l e = ap longest_of (take_more ts i t l ∙ ap (λ (u : Tree). take i ts ++ u ∷ []) (sym e)) ∙ longest_more (take i ts) t
