use Rattle.box_cert.proofs.OneLine.{line_found, line_none}
use Rattle.box_cert.proofs.line.read_line.Goals as goal

pub returns-clause-found : goal.returns-clause-found
returns-clause-found c = line_found c.args.line.now c.tree_line.result c.tree_line.ensures.is

pub returns-clause-none : goal.returns-clause-none
returns-clause-none c = line_none c.args.line.now c.tree_line.result c.tree_line.ensures.is
