-- Four ends that stand there whole and ascend are the ends of a node, whatever bytes come behind them.
use Rattle.std.proofs.Common.{◌≡◌, ℕ, ◌-◌, ◌<◌, ◌≤◌, ltb, true, false, List, [], ◌∷◌, length, get_or, take, drop, Option, Some, None, Ok, refl, ap, ◌∙◌, subst, sym, arith}
use Rattle.std.specs.Int.{w16, byte_len, from_le_bytes}
use Rattle.std.proofs.lemmas.Bool.{le-ltb, lt-ltb}
use Rattle.std.proofs.lemmas.List.{take_all}
use Rattle.block_evidence.specs.declared.sight_tree.Node.{Node}
use Rattle.block_evidence.specs.declared.sight_tree.Node.TheVariants.{Blocked}
use Rattle.cert_format.specs.Reading.{comes_after, end_at, four_ends_at}

-- the end whose two bytes stand here
abbrev end_there : List ℕ → ℕ → ℕ → ℕ
end_there bytes low high = from_le_bytes w16 (get_or bytes low 0 ∷ get_or bytes high 0 ∷ [])

end_first : (total : ℕ) (before : Option ℕ) (low high e : ℕ) (rest : List ℕ) → e ≡ from_le_bytes w16 (low ∷ high ∷ []) → comes_after before e ≡ true → end_at total before (low ∷ high ∷ rest) ≡ Ok (e, rest)
unfolding end_at
end_first total before low high e rest is above =
    let long : ltb (length (low ∷ high ∷ rest)) (byte_len w16) ≡ false = le-ltb _ _ (omega arith) in
    subst (λ (n : ℕ). end_at total before (low ∷ high ∷ rest) ≡ Ok (n, rest)) (sym is) (rw (long, ap (comes_after before) (sym is) ∙ above) refl)

module _ (total a b c d : ℕ) where
  abbrev four : Node
  four = Blocked (record { count = 4; ends = a ∷ b ∷ c ∷ d ∷ [] })

  abbrev Reads : List ℕ → Type 0
  Reads bytes = four_ends_at total bytes ≡ Ok (four, take (length bytes - 8) (drop 8 bytes))

  pub four_read : (bytes : List ℕ) → 8 ≤ length bytes → a ≡ end_there bytes 0 1 → b ≡ end_there bytes 2 3 → c ≡ end_there bytes 4 5 → d ≡ end_there bytes 6 7 → a < b → b < c → c < d → Reads bytes
  unfolding four_ends_at
  four_read (a1 ∷ a2 ∷ b1 ∷ b2 ∷ c1 ∷ c2 ∷ d1 ∷ d2 ∷ rest) le p q r s ab bc cd =
      let first = end_first total None a1 a2 a (b1 ∷ b2 ∷ c1 ∷ c2 ∷ d1 ∷ d2 ∷ rest) p refl in
      let second = end_first total (Some a) b1 b2 b (c1 ∷ c2 ∷ d1 ∷ d2 ∷ rest) q (lt-ltb _ _ ab) in
      let third = end_first total (Some b) c1 c2 c (d1 ∷ d2 ∷ rest) r (lt-ltb _ _ bc) in
      let fourth = end_first total (Some c) d1 d2 d rest s (lt-ltb _ _ cd) in
      let all : take (length (a1 ∷ a2 ∷ b1 ∷ b2 ∷ c1 ∷ c2 ∷ d1 ∷ d2 ∷ rest) - 8) rest ≡ rest = take_all _ rest (omega arith) in
      rw (first, second, third, fourth, all) refl
  four_read [] le p q r s ab bc cd = absurd (omega (arith, le))
  four_read (x1 ∷ []) le p q r s ab bc cd = absurd (omega (arith, le))
  four_read (x1 ∷ x2 ∷ []) le p q r s ab bc cd = absurd (omega (arith, le))
  four_read (x1 ∷ x2 ∷ x3 ∷ []) le p q r s ab bc cd = absurd (omega (arith, le))
  four_read (x1 ∷ x2 ∷ x3 ∷ x4 ∷ []) le p q r s ab bc cd = absurd (omega (arith, le))
  four_read (x1 ∷ x2 ∷ x3 ∷ x4 ∷ x5 ∷ []) le p q r s ab bc cd = absurd (omega (arith, le))
  four_read (x1 ∷ x2 ∷ x3 ∷ x4 ∷ x5 ∷ x6 ∷ []) le p q r s ab bc cd = absurd (omega (arith, le))
  four_read (x1 ∷ x2 ∷ x3 ∷ x4 ∷ x5 ∷ x6 ∷ x7 ∷ []) le p q r s ab bc cd = absurd (omega (arith, le))
