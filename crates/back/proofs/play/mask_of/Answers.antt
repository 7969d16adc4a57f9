use Rattle.back.specs.PlayMasks.{mask_of_three}
use Rattle.back.proofs.play.mask_of.Goals as goal

pub returns : goal.returns
returns c =
    let a = c.args in
    rw (mask_of_three a.plan a.s.degree a.s.first a.s.second a.s.third) (cc)
