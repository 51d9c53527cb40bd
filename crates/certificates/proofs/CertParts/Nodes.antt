-- A node that is there whole is read the same whatever bytes come behind it; its first byte says how many it takes.
use Rattle.std.proofs.Common.{◌≡◌, ℕ, suc, ◌+◌, ◌≤◌, Bool, true, false, cond, eqb, List, [], ◌∷◌, ◌++◌, length, Option, Some, None, Result, Ok, Err, refl, ap, arith}
use Rattle.std.specs.Int.{w16}
use Rattle.sight_names.specs.declared.faults.CertFault.{CertFault}
use Rattle.sight_names.specs.declared.faults.CertFault.TheVariants as faults
use Rattle.block_evidence.specs.declared.sight_tree.Node.{Node}
use Rattle.block_evidence.specs.declared.sight_tree.Node.TheVariants.{Open, Blocked}
use Rattle.cert_format.specs.Reading.{◌>>=◌, begins_at, comes_after, end_at, two_ends_at, three_ends_at, four_ends_at, node_at}
use Rattle.cert_format.proofs.FieldLaws.{ok_is}
use Rattle.cert_format.proofs.CertGroups.MoreBytes.{place_stays}
use Rattle.certificates.specs.CertParts.Steps.{first_width}
use Rattle.certificates.proofs.CertParts.Whole.{longer, value, IsWhole, whole_then, whole_value, whole_field}

abbrev Reader : Type 0
Reader = ℕ → ℕ → List ℕ → Result (Node × List ℕ) CertFault

end_whole : (before : Option ℕ) → IsWhole (λ start total bytes. end_at total before bytes) 2
unfolding end_at
end_whole before = whole_field w16 (λ n. comes_after before n) (λ at. faults.NotSorted at) (λ n. n)

-- an end, and then what comes behind it
end_then : (before : Option ℕ) (q : ℕ → Reader) (v : ℕ) → ((n : ℕ) → IsWhole (q n) v) → IsWhole (λ start total bytes. end_at total before bytes >>= λ n. q n.0 start total n.1) (2 + v)
end_then before q v whole = whole_then (λ start total bytes. end_at total before bytes) q 2 v (end_whole before) whole

abbrev last_end : Option ℕ → (ℕ → Node) → Reader
last_end before made start total bytes = end_at total before bytes >>= λ n. Ok (made n.0, n.1)

last_whole : (before : Option ℕ) (made : ℕ → Node) → IsWhole (last_end before made) 2
last_whole before made = end_then before (λ n start total bytes. value (made n) bytes) 0 (λ n. whole_value (made n))

abbrev two : ℕ → ℕ → Node
two a b = Blocked (record { count = 2; ends = a ∷ b ∷ 0 ∷ 0 ∷ [] })

abbrev three : ℕ → ℕ → ℕ → Node
three a b c = Blocked (record { count = 3; ends = a ∷ b ∷ c ∷ 0 ∷ [] })

abbrev four : ℕ → ℕ → ℕ → ℕ → Node
four a b c d = Blocked (record { count = 4; ends = a ∷ b ∷ c ∷ d ∷ [] })

two_whole : IsWhole (λ start total bytes. two_ends_at total bytes) 4
unfolding two_ends_at
two_whole = end_then None (λ a. last_end (Some a) (two a)) 2 (λ a. last_whole (Some a) (two a))

abbrev last_two : ℕ → Reader
last_two a start total bytes = end_at total (Some a) bytes >>= λ b. last_end (Some b.0) (three a b.0) start total b.1

three_whole : IsWhole (λ start total bytes. three_ends_at total bytes) 6
unfolding three_ends_at
three_whole = end_then None last_two 4 (λ a. end_then (Some a) (λ b. last_end (Some b) (three a b)) 2 (λ b. last_whole (Some b) (three a b)))

abbrev last_of_four : ℕ → ℕ → Reader
last_of_four a b start total bytes = end_at total (Some b) bytes >>= λ c. last_end (Some c.0) (four a b c.0) start total c.1

abbrev last_three : ℕ → Reader
last_three a start total bytes = end_at total (Some a) bytes >>= λ b. last_of_four a b.0 start total b.1

four_whole : IsWhole (λ start total bytes. four_ends_at total bytes) 8
unfolding four_ends_at
four_whole =
    end_then None last_three 6 (λ a. end_then (Some a) (last_of_four a) 4 (λ b. end_then (Some b) (λ c. last_end (Some c) (four a b c)) 2 (λ c. last_whole (Some c) (four a b c))))

-- ---- by the first byte

-- what is read behind the first byte k, by the tests of it
abbrev chosen : ℕ → ℕ → List ℕ → Bool → Bool → Bool → Bool → Result (Node × List ℕ) CertFault
chosen k total bytes zero two three four =
    cond zero (Ok (Open, bytes)) (cond two (two_ends_at total bytes) (cond three (three_ends_at total bytes) (cond four (four_ends_at total bytes) (Err (faults.OutOfRange (begins_at total (k ∷ bytes)))))))

abbrev width : Bool → Bool → Bool → Bool → ℕ
width zero two three four = cond zero 1 (cond two 5 (cond three 7 (cond four 9 1)))

chosen_grows : (k total : ℕ) (bytes more : List ℕ) (zero two three four : Bool) → width zero two three four ≤ suc (length bytes)
    → chosen k (total + length more) (bytes ++ more) zero two three four ≡ longer more (chosen k total bytes zero two three four)
chosen_grows k total bytes more true two three four le = refl
chosen_grows k total bytes more false true three four le = two_whole.grows 0 total bytes more (omega (arith, le))
chosen_grows k total bytes more false false true four le = three_whole.grows 0 total bytes more (omega (arith, le))
chosen_grows k total bytes more false false false true le = four_whole.grows 0 total bytes more (omega (arith, le))
chosen_grows k total bytes more false false false false le = ap (λ (n : ℕ). Err (faults.OutOfRange n)) (place_stays total (k ∷ bytes) more)

pub node_grows : (total : ℕ) (bytes more : List ℕ) → first_width bytes ≤ length bytes → node_at (total + length more) (bytes ++ more) ≡ longer more (node_at total bytes)
unfolding node_at
node_grows total [] more le = absurd (omega (arith, le))
node_grows total (k ∷ bytes) more le = chosen_grows k total bytes more (eqb k 0) (eqb k 2) (eqb k 3) (eqb k 4) le

chosen_takes : (k total : ℕ) (bytes : List ℕ) (zero two three four : Bool) (x : Node × List ℕ) → chosen k total bytes zero two three four ≡ Ok x → suc (length bytes) ≡ width zero two three four + length x.1
chosen_takes k total bytes true two three four x e = let made : Node × List ℕ = (Open, bytes) in omega (arith, ap (λ (y : Node × List ℕ). length y.1) (ok_is made x e))
chosen_takes k total bytes false true three four x e = omega (arith, two_whole.takes 0 total bytes x e)
chosen_takes k total bytes false false true four x e = omega (arith, three_whole.takes 0 total bytes x e)
chosen_takes k total bytes false false false true x e = omega (arith, four_whole.takes 0 total bytes x e)
chosen_takes k total bytes false false false false x e = absurd cc

pub node_takes : (total : ℕ) (bytes : List ℕ) (x : Node × List ℕ) → node_at total bytes ≡ Ok x → length bytes ≡ first_width bytes + length x.1
unfolding node_at
node_takes total [] x e = absurd cc
node_takes total (k ∷ bytes) x e = chosen_takes k total bytes (eqb k 0) (eqb k 2) (eqb k 3) (eqb k 4) x e
