use Rattle.udmf_map.proofs.Exact.{coordinates_are_exact as lemma_coordinates_are_exact}
use Rattle.udmf_map.proofs.laws.coordinates_are_exact.Goals as goal

pub returns : goal.returns
returns c = lemma_coordinates_are_exact
