-- What listeners write of what they heard.
use Rattle.std.specs.Prelude.{ℕ, List, [], ◌++◌, codes, flat_map}
use Rattle.std.specs.Fmt.{decimal}
use Rattle.listeners.specs.declared.finding.Finding.{Finding}
use Rattle.listeners.specs.declared.finding.Kind.{Kind}
use Rattle.listeners.specs.declared.finding.Kind.TheVariants as kind
use Rattle.listeners.specs.Listening.{clears_in, lists_in, sets_in}

-- two sectors behind a word, as in `set 0 2`, on a line
abbrev pub line_of_sectors : List ℕ → ℕ → ℕ → List ℕ
line_of_sectors word a b = word ++ decimal a ++ codes " " ++ decimal b ++ codes "\n"

-- the line of a set pair; none of another one
abbrev pub set_line : ℕ → ℕ → Kind → List ℕ
set_line a b kind.Set = line_of_sectors (codes "set ") a b
set_line a b kind = []

-- the line of a set or of a listed pair; none of a clear one
abbrev pub finding_line : ℕ → ℕ → Kind → List ℕ
finding_line a b kind.Set = line_of_sectors (codes "set ") a b
finding_line a b kind.Listed = line_of_sectors (codes "listed ") a b
finding_line a b kind.Clear = []

-- the lines of all set pairs in order
abbrev pub set_lines : List Finding → List ℕ
set_lines fs = flat_map (λ f. set_line f.a f.b f.kind) fs

-- the lines of all set and listed pairs in order
abbrev pub finding_lines : List Finding → List ℕ
finding_lines fs = flat_map (λ f. finding_line f.a f.b f.kind) fs

-- the line of three counts
unfoldable pub total_line : ℕ → ℕ → ℕ → List ℕ
total_line set clear listed = codes "total set " ++ decimal set ++ codes " clear " ++ decimal clear ++ codes " listed " ++ decimal listed ++ codes "\n"

-- how many pairs are set, clear and listed, on a line
abbrev pub totals_line : List Finding → List ℕ
totals_line fs = total_line (sets_in fs) (clears_in fs) (lists_in fs)
