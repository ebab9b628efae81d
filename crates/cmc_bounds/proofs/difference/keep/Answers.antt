use Rattle.lab_parts.proofs.Ranges.{chroma_of_square}
use Rattle.cmc_bounds.proofs.TermCalls.{standard_is}
use Rattle.cmc_bounds.proofs.difference.keep.Goals as goal

pub chroma_weight-sc-requires : goal.chroma_weight-sc-requires
chroma_weight-sc-requires g c =
    let s = c.args.standard.now in
    (chroma_of_square g.S.Scale.unit s.a s.b c.chroma_square-square.result c.sqrt_iv-c1.result g.S.Scale.least s.a_range s.b_range c.chroma_square-square.ensures.is c.sqrt_iv-c1.ensures.is).1.range

pub hue_factor-t-requires-clause-chroma : goal.hue_factor-t-requires-clause-chroma
hue_factor-t-requires-clause-chroma g c =
    let s = c.args.standard.now in
    (chroma_of_square g.S.Scale.unit s.a s.b c.chroma_square-square.result c.sqrt_iv-c1.result g.S.Scale.least s.a_range s.b_range c.chroma_square-square.ensures.is c.sqrt_iv-c1.ensures.is).1

pub hue_share-requires : goal.hue_share-requires
hue_share-requires g c = let s = c.args.standard.now in c.chroma_square-square.ensures.narrow s.a_range s.b_range

pub invariant_of-result : goal.invariant_of-result
invariant_of-result g c =
    let s = c.args.standard.now in
    record {
      l1_range = s.l_range;
      a1_range = s.a_range;
      b1_range = s.b_range;
      c1_range = (chroma_of_square g.S.Scale.unit s.a s.b c.chroma_square-square.result c.sqrt_iv-c1.result g.S.Scale.least s.a_range s.b_range c.chroma_square-square.ensures.is c.sqrt_iv-c1.ensures.is).1.range;
      sl_range = c.lightness_weight.ensures.range;
      sl_least = c.lightness_weight.ensures.least;
      sc_range = c.chroma_weight-sc.ensures.range;
      sc_least = c.chroma_weight-sc.ensures.least;
      sh_range = c.hue_weight.ensures.range;
      sh_least = c.hue_weight.ensures.least;
    }

pub returns : goal.returns
returns g c =
    let s = c.args.standard.now in
    let known = chroma_of_square g.S.Scale.unit s.a s.b c.chroma_square-square.result c.sqrt_iv-c1.result g.S.Scale.least s.a_range s.b_range c.chroma_square-square.ensures.is c.sqrt_iv-c1.ensures.is in
    standard_is g.S.Scale.unit (record { l = s.l; a = s.a; b = s.b }) c.chroma_square-square.result c.sqrt_iv-c1.result c.lightness_weight.result c.chroma_weight-sc.result c.hue_share.result c.hue_factor-t.result c.hue_weight.result
    c.chroma_square-square.ensures.is known.0 c.lightness_weight.ensures.is c.chroma_weight-sc.ensures.is c.hue_share.ensures.is c.hue_factor-t.ensures.is c.hue_weight.ensures.is
