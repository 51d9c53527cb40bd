use Rattle.std.proofs.Common.{arith}
use Rattle.std.proofs.lemmas.Int.{ints}
use Rattle.geom_exact.proofs.RelationLemmas.{apart_before, apart_after, ends_at_first, ends_at_last, overlap_inside}
use Rattle.geom_exact.proofs.relation_on_line.Goals as goal

pub returns-then-far-lt0 : goal.returns-then-far-lt0
returns-then-far-lt0 c = apart_before _ _ _ _ c.requires (omega (arith, ints))

pub returns-then-whole-near : goal.returns-then-whole-near
returns-then-whole-near c = apart_after _ _ _ _ c.requires (omega (arith, ints))

pub returns-then-far-eq0 : goal.returns-then-far-eq0
returns-then-far-eq0 c = ends_at_first _ _ _ _ c.requires (omega (arith, ints))

pub returns-then-near-whole : goal.returns-then-near-whole
returns-then-near-whole c = ends_at_last _ _ _ _ c.requires (omega (arith, ints))

pub returns : goal.returns
returns c = overlap_inside _ _ _ _ c.requires (omega (arith, ints)) (omega (arith, ints))
