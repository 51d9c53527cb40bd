-- Points that are looked up by their hashes, as the lists that the lumps are made of.
use Rattle.std.proofs.Common.{◌≡◌, ℕ, ◌+◌, ◌<◌, ◌≤◌, ◌++◌, List, [], Bool, true, false, Some, None, length, drop, get_or, nat_lt, refl, sym, ap, ◌∙◌, arith, if◌then◌else◌}
use Rattle.std.proofs.lemmas.Bool.{ltb-false}
use Rattle.std.proofs.lemmas.List.{append_assoc, drop_more}
use Rattle.std.proofs.lemmas.List.Recursion.{is_position_or_len}
use Rattle.std.proofs.lemmas.List.Sums.{prefix_len-le-length}
use Rattle.std.proofs.lemmas.Option.{cond_some}
use Rattle.std.specs.List.{position, position_or_len}
use Rattle.std.specs.Prelude.{not}
use Rattle.map_maker.specs.declared.lines.Spot.{Spot}
use Rattle.map_maker.specs.declared.lines.Line.{Line}
use Rattle.map_maker.specs.Lumps.{same_spot, with_point, points_after, spot_place, short, linedef, flags_of, left_side_number}

place_of_is : (p : Spot) (ps : List Spot) → spot_place p ps ≡ position_or_len (same_spot p) ps
place_of_is p ps = is_position_or_len (spot_place p) (same_spot p) refl (λ x xs. refl) ps

pub place_found : (p : Spot) (ps : List Spot) (k : ℕ) → position (same_spot p) ps ≡ Some k → k ≡ spot_place p ps
place_found p ps k e = sym (cond_some (nat_lt (position_or_len (same_spot p) ps) (length ps)) (position_or_len (same_spot p) ps) k e).1 ∙ sym (place_of_is p ps)

pub place_missing : (p : Spot) (ps : List Spot) (n : ℕ) → position (same_spot p) ps ≡ None → n ≡ length ps → n ≡ spot_place p ps
place_missing p ps n e same = same ∙ (sym (by_test (nat_lt (position_or_len (same_spot p) ps) (length ps)) (position_or_len (same_spot p) ps) (length ps) refl e (prefix_len-le-length (λ q. not (same_spot p q)) ps)) ∙ sym (place_of_is p ps))
  where
    by_test : (b : Bool) (m len : ℕ) → nat_lt m len ≡ b → (if b then Some m else None) ≡ None → m ≤ len → m ≡ len
    by_test true m len t e le = absurd cc
    by_test false m len t e le = let h = ltb-false m len t in omega (arith, h, le)

-- the points after one more line
pub after_line : (ls : List Line) (i : ℕ) (d : Line) (ks k1 k2 : List Spot) → i < length ls → points_after [] ls ≡ points_after ks (drop i ls) → k1 ≡ with_point ks (get_or ls i d).from → k2 ≡ with_point k1 (get_or ls i d).to → points_after [] ls ≡ points_after k2 (drop (i + 1) ls)
after_line ls i d ks k1 k2 lt before e f =
    before ∙ (ap (points_after ks) (drop_more ls i d lt) ∙ (ap (λ (k : List Spot). points_after (with_point k (get_or ls i d).to) (drop (i + 1) ls)) (sym e) ∙ ap (λ (k : List Spot). points_after k (drop (i + 1) ls)) (sym f)))

-- seven numbers, one behind the other
joined : (o a b c d e f g : List ℕ) → ((((((o ++ a) ++ b) ++ c) ++ d) ++ e) ++ f) ++ g ≡ o ++ (a ++ (b ++ (c ++ (d ++ (e ++ (f ++ g))))))
joined o a b c d e f g =
    append_assoc (((((o ++ a) ++ b) ++ c) ++ d) ++ e) f g ∙ (append_assoc ((((o ++ a) ++ b) ++ c) ++ d) e (f ++ g) ∙ (append_assoc (((o ++ a) ++ b) ++ c) d (e ++ (f ++ g))
    ∙ (append_assoc ((o ++ a) ++ b) c (d ++ (e ++ (f ++ g))) ∙ (append_assoc (o ++ a) b (c ++ (d ++ (e ++ (f ++ g)))) ∙ append_assoc o a (b ++ (c ++ (d ++ (e ++ (f ++ g)))))))))

pub linedef_written : (points : List Spot) (side : ℕ) (l : Line) (o a b c d e f g : List ℕ) → a ≡ o ++ short (spot_place l.from points) → b ≡ a ++ short (spot_place l.to points) → c ≡ b ++ short (flags_of l.left) → d ≡ c ++ short 0 → e ≡ d ++ short 0
    → f ≡ e ++ short side → g ≡ f ++ short (left_side_number side l.left) → g ≡ o ++ linedef points side l
unfolding linedef
linedef_written points side l o a b c d e f g ha hb hc hd he hf hg = rw (hg, hf, he, hd, hc, hb, ha) (joined o (short (spot_place l.from points)) (short (spot_place l.to points)) (short (flags_of l.left)) (short 0) (short 0) (short side) (short (left_side_number side l.left)))
