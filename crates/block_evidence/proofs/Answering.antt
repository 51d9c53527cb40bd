-- What an answer on ends tells.
use Rattle.std.proofs.Common.{◌≡◌, ℕ, ◌-◌, List, [], ◌∷◌, Option, Some, None, Bool, true, false, refl, sym, ap, ◌∙◌, subst, ℤ, pos, ◌<ℤ◌, IsTrue, ◌↔◌}
use Rattle.std.specs.Prelude.{slice_get, MatchOption, filter_map, is_some, not, option_map, nat_lt, if◌then◌else◌}
use Rattle.std.specs.List.{cons_option}
use Rattle.sight_names.specs.declared.limits.TheConstants.{RIGHT_END}
use Rattle.sight_names.specs.declared.names.Pt.{Pt}
use Rattle.sight_names.specs.declared.names.EndAt.{EndAt}
use Rattle.sight_names.specs.Point.{point_of, value_at}
use Rattle.sight_names.specs.Splitting.{EndPoints, SplitsEnds, IsSplittable, end_of}
use Rattle.geom_exact.specs.declared.extreme_lines.cut.Cut.{Cut}
use Rattle.geom_exact.proofs.ExtremeLines.EndsLemmas.{left_place, right_place}
use Rattle.block_evidence.specs.declared.Evidence.{Evidence}
use Rattle.block_evidence.specs.Stuck.{AreStuck, BlocksEnds, end_codes}
use Rattle.block_evidence.specs.Parted.{PartsEnd, PartsEnds}
use Rattle.block_evidence.proofs.Means.{parted_not_stuck}
use Rattle.math_base.proofs.Options.{some_is_same, none_is_not_some}
use Rattle.sight_names.proofs.Portals.{parted_at}

is_true : (b : Bool) → false ≡ not b → b ≡ true
is_true true h = refl
is_true false h = absurd (wrong h)
  where
    wrong : false ≡ true → ⊥
    wrong h = cc

both : (b : Bool) → true ≡ not b → b ≡ true → ⊥
both true h k = wrong h
  where
    wrong : true ≡ false → ⊥
    wrong h = cc
both false h k = wrong k
  where
    wrong : false ≡ true → ⊥
    wrong h = cc

pub stuck_answer : (ends : List EndAt) (o : Option Cut) (b : Bool) → is_some o ≡ not b → MatchOption o (AreStuck ends) (λ cut. PartsEnds ends cut.a cut.b cut.c) → IsTrue b ↔ AreStuck ends
stuck_answer ends None b e h = (λ _. h, λ _. is_true b e)
stuck_answer ends (Some cut) b e h = (λ t. absurd (both b e t), λ s. absurd (parted_not_stuck ends (cut.a, cut.b, cut.c, h) s))

-- ---- a line that splits portals parts their ends

pub end_parted : (a b c : ℤ) (es : List EndPoints) (e : EndAt) → SplitsEnds es a b c → end_of es e.code ≡ Some e → PartsEnd a b c e
end_parted a b c es e h k = record {
  left = λ n. let t = left_place es e n k in subst (λ (q : Pt). pos 0 <ℤ value_at a b c (point_of q)) t.3 (parted_at a b c es t.0 t.1 h t.2).0;
  right = λ n. let t = right_place es e n k in subst (λ (q : Pt). value_at a b c (point_of q) <ℤ pos 0) t.3 (parted_at a b c es t.0 t.1 h t.2).1;
}

code_by : (code : ℕ) (o : Option Pt) (e : EndAt) → ◌≡◌ {A = Option EndAt} (option_map (λ (p : Pt). record { code = code; at = p }) o) (Some e) → e.code ≡ code
code_by code None e h = absurd (none_is_not_some e h)
code_by code (Some p) e h = sym (ap (λ (v : EndAt). v.code) (some_is_same (record { code = code; at = p }) e h))

code_is : (es : List EndPoints) (code : ℕ) (e : EndAt) → end_of es code ≡ Some e → e.code ≡ code
code_is es code e h = code_by code (if nat_lt code RIGHT_END then option_map (λ (q : EndPoints). q.left) (slice_get es code) else option_map (λ (q : EndPoints). q.right) (slice_get es (code - RIGHT_END))) e h

parted_by : (a b c : ℤ) (es : List EndPoints) (code : ℕ) (ds : List EndAt) (o : Option EndAt) → SplitsEnds es a b c → end_of es code ≡ o → PartsEnds ds a b c → PartsEnds (cons_option o ds) a b c
parted_by a b c es code ds None h e k = k
parted_by a b c es code ds (Some d) h e k = (end_parted a b c es d h (ap (end_of es) (code_is es code d e) ∙ e), k)

pub ends_parted : (a b c : ℤ) (es : List EndPoints) (codes : List ℕ) → SplitsEnds es a b c → PartsEnds (filter_map (end_of es) codes) a b c
ends_parted a b c es [] h = tt
ends_parted a b c es (code ∷ codes) h = parted_by a b c es code (filter_map (end_of es) codes) (end_of es code) h refl (ends_parted a b c es codes h)

-- stuck ends of portals show that no line splits the portals
pub blocked_no_line : (es : List EndPoints) (e : Evidence) → BlocksEnds es e → ¬ IsSplittable es
blocked_no_line es e b (x, y, z, h) = parted_not_stuck (filter_map (end_of es) (end_codes e)) (x, y, z, ends_parted x y z es (end_codes e) h) b.stuck
