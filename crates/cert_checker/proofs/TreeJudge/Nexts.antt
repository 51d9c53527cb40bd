-- What is asked next: a way that waits, or a root.
use Rattle.std.proofs.Common.{◌≡◌, ℕ, ◌<◌, List, [], ◌∷◌, ◌++◌, Option, Some, None, map, take, refl, sym, ◌∙◌, ap, subst, arith}
use Rattle.std.specs.List.{slice_get}
use Rattle.std.specs.Prelude.{option_and_then}
use Rattle.cert_checker.specs.declared.tree_judge.roots.Root.{Root}
use Rattle.cert_checker.specs.declared.tree_judge.trees.Frame.{Frame}
use Rattle.cert_checker.specs.declared.tree_judge.trees.Wait.{Wait}
use Rattle.cert_checker.specs.declared.tree_judge.trees.Follow.{Follow}
use Rattle.cert_checker.specs.TreeJudge.Path.{AsksRoot, path_ends, WaitsBehind, IsWaiting, Pending, IsRootChain, root_pending, IsWalkAt, with_asked, TakesNext}
use Rattle.math_base.proofs.Options.{one_value, some_is_not_none}

-- ---- a way is asked

abbrev pub on_way : Follow → Wait → Follow
on_way old w = record { depth = old.waiting; root = old.root; asked = old.asked; waiting = w.before }

pub takes_way : (roots : List Root) (path : List Frame) (waits : List Wait) (old : Follow) (w : Wait) → WaitsBehind waits old.waiting w → TakesNext roots path waits old (on_way old w) (Some w.way)
takes_way roots path waits old w (k, q, is) = record { next = λ es ws c h. go es ws c h; depth = omega arith }
  where
    go : (es : List ℕ) (ws : List Pending) → IsRootChain roots old.root es → IsWaiting path waits old.waiting ws → IsWalkAt roots path waits (with_asked (on_way old w) (Some w.way)) (ws ++ map root_pending es)
    go es [] c h = absurd (omega (arith, h, q))
    go es (p ∷ ws) c (v, (j, r, this), leads, first, less, more) = record {
      es = es;
      ways = ws;
      chain = c;
      waiting = subst (λ (u : Wait). IsWaiting path waits u.before ws) same more;
      nested = let l : w.before < old.waiting = subst (λ (u : Wait). u.before < old.waiting) same less in omega (arith, l);
      all = ap (λ (u : Pending). u ∷ (ws ++ map root_pending es)) (first ∙ ap (λ (e : Wait). let u : Pending = record { path = path_ends (take old.waiting path); edge = e.way } in u) same);
      last = λ n. absurd (some_is_not_none w.way n);
    }
      where
        at : k ≡ j
        at = omega (arith, q, r)

        same : v ≡ w
        same = one_value (slice_get waits j) v w this (ap (slice_get waits) (sym at) ∙ is)

-- ---- no way waits, and a root is asked, if there is one

abbrev pub on_root : Follow → Option ℕ → Follow
on_root old next = record { depth = 0; root = next; asked = old.asked; waiting = 0 }

pub takes_from_root : (roots : List Root) (path : List Frame) (waits : List Wait) (old : Follow) (asked next : Option ℕ) → ((ws : List Pending) → IsWaiting path waits old.waiting ws → ws ≡ []) → AsksRoot roots old.root asked next → TakesNext roots path waits old (on_root old next) asked
takes_from_root roots path waits old asked next none a = record { next = λ es ws c h. go es ws c (none ws h); depth = omega arith }
  where
    by_root : (r : Root) → option_and_then (slice_get roots) old.root ≡ Some r → (es : List ℕ) → IsRootChain roots old.root es → IsWalkAt roots path waits (with_asked (on_root old r.next) (Some r.edge)) (map root_pending es)
    by_root r at [] c = absurd (some_is_not_none r (sym at ∙ ap (λ (o : Option ℕ). option_and_then (slice_get roots) o) c))
    by_root r at (e ∷ es) (k, s, o, h, g, c) = record {
      es = es;
      ways = [];
      chain = subst (λ (x : Root). IsRootChain roots x.next es) is c;
      waiting = refl;
      nested = omega arith;
      all = ap (λ (n : ℕ). root_pending n ∷ map root_pending es) (sym g ∙ ap (λ (x : Root). x.edge) is);
      last = λ n. absurd (some_is_not_none r.edge n);
    }
      where
        is : s ≡ r
        is = one_value (option_and_then (slice_get roots) old.root) s r (ap (λ (u : Option ℕ). option_and_then (slice_get roots) u) o ∙ h) at

    by_none : option_and_then (slice_get roots) old.root ≡ None → (es : List ℕ) → IsRootChain roots old.root es → IsWalkAt roots path waits (with_asked (on_root old old.root) None) (map root_pending es)
    by_none at [] c = record { es = []; ways = []; chain = c; waiting = refl; nested = omega arith; all = refl; last = λ n. refl }
    by_none at (e ∷ es) (k, s, o, h, g, c) = absurd (some_is_not_none s (sym h ∙ ap (λ (u : Option ℕ). option_and_then (slice_get roots) u) (sym o) ∙ at))

    by : (o : Option Root) → option_and_then (slice_get roots) old.root ≡ o → (es : List ℕ) → IsRootChain roots old.root es → IsWalkAt roots path waits (with_asked (on_root old next) asked) (map root_pending es)
    by (Some r) h es c = let k = a.some r h in subst (λ (n : Option ℕ). IsWalkAt roots path waits (with_asked (on_root old n) asked) (map root_pending es)) (sym k.1) (subst (λ (u : Option ℕ). IsWalkAt roots path waits (with_asked (on_root old r.next) u) (map root_pending es)) (sym k.0) (by_root r h es c))
    by None h es c = let k = a.none h in subst (λ (n : Option ℕ). IsWalkAt roots path waits (with_asked (on_root old n) asked) (map root_pending es)) (sym k.1) (subst (λ (u : Option ℕ). IsWalkAt roots path waits (with_asked (on_root old old.root) u) (map root_pending es)) (sym k.0) (by_none h es c))

    go : (es : List ℕ) (ws : List Pending) → IsRootChain roots old.root es → ws ≡ [] → IsWalkAt roots path waits (with_asked (on_root old next) asked) (ws ++ map root_pending es)
    go es ws c e = subst (λ (us : List Pending). IsWalkAt roots path waits (with_asked (on_root old next) asked) (us ++ map root_pending es)) (sym e) (by (option_and_then (slice_get roots) old.root) refl es c)
