-- What a printer still has to give of a certificate of any version.
use Rattle.std.specs.Prelude.{ℕ, List}
use Rattle.certificates.specs.declared.printer.Pieces.{Pieces}
use Rattle.certificates.specs.declared.printer.Pieces.TheVariants.{Listing, Exact}

-- the bytes that the printer of its version has left
abbrev pub left : Pieces → List ℕ
left (Listing bytes) = bytes
left (Exact bytes) = bytes
