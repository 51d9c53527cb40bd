-- The lines of answers for two sectors.
use Rattle.std.specs.Prelude.{ℕ, List, ◌++◌, codes}
use Rattle.std.specs.Fmt.{signed_decimal}
use Rattle.sight_names.specs.declared.names.Pair.{Pair}
use Rattle.sight_names.specs.declared.names.Ray.{Ray}
use Rattle.sight_names.specs.Texts.{side_text}
use Rattle.map_answers.specs.SightStatus.Texts.{two}

abbrev pub two_sides_words : Ray → List ℕ
two_sides_words ray = side_text ray.first ++ codes "," ++ side_text ray.last

abbrev pub number_words : Ray → List ℕ
number_words ray = codes "," ++ signed_decimal ray.a ++ codes "," ++ signed_decimal ray.b ++ codes "," ++ signed_decimal ray.c

-- a ray as a word of the command line spells it: two sides and three numbers between commas, as 2R,5L,0,1,-32
abbrev pub ray_as_words : Ray → List ℕ
ray_as_words ray = two_sides_words ray ++ number_words ray

abbrev pub sight_line_by : Pair → Ray → List ℕ
sight_line_by pair ray = codes "sight " ++ two pair.a pair.b ++ codes " by " ++ ray_as_words ray ++ codes "\n"

abbrev pub blind_line : Pair → List ℕ
blind_line pair = codes "blind " ++ two pair.a pair.b ++ codes "\n"

abbrev pub touch_line : Pair → List ℕ
touch_line pair = codes "touch " ++ two pair.a pair.b ++ codes "\n"

abbrev pub listed_line : Pair → List ℕ
listed_line pair = codes "listed " ++ two pair.a pair.b ++ codes "\n"
