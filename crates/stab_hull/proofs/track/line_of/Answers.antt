use Rattle.std.proofs.Common.{sym, to_z-of_z}
use Rattle.stab_hull.proofs.Lines.{line_splits, has_corner, fits_a, fits_c, line_is}
use Rattle.stab_hull.proofs.track.line_of.Goals as goal

pub cut-cut-requires : goal.cut-cut-requires
cut-cut-requires c = has_corner c.requires.0 c.args.cone.now c.requires.1

pub returns-clause-splits : goal.returns-clause-splits
returns-clause-splits c = λ es h. (line_is es c.cut-cut.result.a c.cut-cut.result.b c.cut-cut.result.c _ _ _ (sym (to_z-of_z (fits_a c.cut-cut.result.a c.cut-cut.ensures.a_in))) (sym (to_z-of_z (fits_a c.cut-cut.result.b c.cut-cut.ensures.b_in))) (sym (to_z-of_z (fits_c c.cut-cut.result.c c.cut-cut.ensures.c_in)))
    (line_splits es c.args.cone.now c.cut-cut.result.a c.cut-cut.result.b c.cut-cut.result.c h c.cut-cut.ensures, record { a_in = c.cut-cut.ensures.a_in; b_in = c.cut-cut.ensures.b_in; c_in = c.cut-cut.ensures.c_in })).0
