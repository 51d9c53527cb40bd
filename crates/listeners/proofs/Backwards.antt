-- Lines put together from their ends to their beginnings.
use Rattle.std.proofs.Common.{◌≡◌, ◌∙◌, ℕ, List, [], ◌++◌, ap, codes, decimal, sym, append_assoc}
use Rattle.std.proofs.lemmas.List.{append-nil}
use Rattle.listeners.specs.Texts.{line_of_sectors, total_line}

-- the next part of what is left
more : (whole front left part rest : List ℕ) → whole ≡ front ++ left → left ≡ part ++ rest → whole ≡ (front ++ part) ++ rest
more whole front left part rest e next = e ∙ ap (λ (t : List ℕ). front ++ t) next ∙ sym (append_assoc front part rest)

done : (whole front left : List ℕ) → whole ≡ front ++ left → left ≡ [] → whole ≡ front
done whole front left e none = e ∙ ap (λ (t : List ℕ). front ++ t) none ∙ append-nil front

pub pair_line_made : (word : List ℕ) (a b x y : ℕ) (p0 p1 p2 p3 p4 p5 : List ℕ) → x ≡ a → y ≡ b → p5 ≡ word ++ p4 → p4 ≡ decimal x ++ p3 → p3 ≡ codes " " ++ p2 → p2 ≡ decimal y ++ p1 → p1 ≡ codes "\n" ++ p0 → p0 ≡ [] → p5 ≡ line_of_sectors word a b
pair_line_made word a b x y p0 p1 p2 p3 p4 p5 at_a at_b e5 e4 e3 e2 e1 e0 =
    let s4 : p5 ≡ (word ++ decimal x) ++ p3 = more p5 word p4 (decimal x) p3 e5 e4 in
    let s3 : p5 ≡ ((word ++ decimal x) ++ codes " ") ++ p2 = more p5 (word ++ decimal x) p3 (codes " ") p2 s4 e3 in
    let s2 : p5 ≡ (((word ++ decimal x) ++ codes " ") ++ decimal y) ++ p1 = more p5 ((word ++ decimal x) ++ codes " ") p2 (decimal y) p1 s3 e2 in
    let s1 : p5 ≡ ((((word ++ decimal x) ++ codes " ") ++ decimal y) ++ codes "\n") ++ p0 = more p5 (((word ++ decimal x) ++ codes " ") ++ decimal y) p1 (codes "\n") p0 s2 e1 in
    done p5 ((((word ++ decimal x) ++ codes " ") ++ decimal y) ++ codes "\n") p0 s1 e0
    ∙ ap (λ (n : ℕ). word ++ decimal n ++ codes " " ++ decimal y ++ codes "\n") at_a
    ∙ ap (λ (n : ℕ). word ++ decimal a ++ codes " " ++ decimal n ++ codes "\n") at_b

pub total_line_made : (set clear listed : ℕ) (p0 p1 p2 p3 p4 p5 p6 p7 : List ℕ) → p7 ≡ codes "total set " ++ p6 → p6 ≡ decimal set ++ p5 → p5 ≡ codes " clear " ++ p4 → p4 ≡ decimal clear ++ p3
    → p3 ≡ codes " listed " ++ p2 → p2 ≡ decimal listed ++ p1 → p1 ≡ codes "\n" ++ p0 → p0 ≡ [] → p7 ≡ total_line set clear listed
unfolding total_line
total_line_made set clear listed p0 p1 p2 p3 p4 p5 p6 p7 e7 e6 e5 e4 e3 e2 e1 e0 =
    let f6 = codes "total set " ++ decimal set in
    let f5 = f6 ++ codes " clear " in
    let f4 = f5 ++ decimal clear in
    let f3 = f4 ++ codes " listed " in
    let f2 = f3 ++ decimal listed in
    let s6 : p7 ≡ f6 ++ p5 = more p7 (codes "total set ") p6 (decimal set) p5 e7 e6 in
    let s5 : p7 ≡ f5 ++ p4 = more p7 f6 p5 (codes " clear ") p4 s6 e5 in
    let s4 : p7 ≡ f4 ++ p3 = more p7 f5 p4 (decimal clear) p3 s5 e4 in
    let s3 : p7 ≡ f3 ++ p2 = more p7 f4 p3 (codes " listed ") p2 s4 e3 in
    let s2 : p7 ≡ f2 ++ p1 = more p7 f3 p2 (decimal listed) p1 s3 e2 in
    done p7 (f2 ++ codes "\n") p0 (more p7 f2 p1 (codes "\n") p0 s2 e1) e0
