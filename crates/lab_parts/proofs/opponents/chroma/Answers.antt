use Rattle.lab_parts.proofs.Ranges.{chroma_of_square}
use Rattle.lab_parts.proofs.opponents.chroma.Goals as goal

pub returns-clause-is : goal.returns-clause-is
returns-clause-is g c =
    (chroma_of_square g.S.Scale.unit c.args.a c.args.b c.chroma_square.result c.sqrt_iv.result g.S.Scale.least c.requires.a c.requires.b c.chroma_square.ensures.is c.sqrt_iv.ensures.is).0

pub returns-clause-range : goal.returns-clause-range
returns-clause-range g c =
    (chroma_of_square g.S.Scale.unit c.args.a c.args.b c.chroma_square.result c.sqrt_iv.result g.S.Scale.least c.requires.a c.requires.b c.chroma_square.ensures.is c.sqrt_iv.ensures.is).1
