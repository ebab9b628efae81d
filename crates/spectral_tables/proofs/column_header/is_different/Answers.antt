use Rattle.std.proofs.Common.{refl}
use Rattle.std.proofs.lemmas.List.{length-map}
use Rattle.spectral_tables.proofs.NameFacts.{list_any_now}
use Rattle.spectral_tables.proofs.column_header.is_different.Goals as goal

pub returns : goal.returns
returns c =
    rw (c.ensure.ensures, c.cell_after.ensures.row, c.cell_after.ensures.column, c.is_among.ensures, list_any_now c.args.name.now c.args.earlier.now, length-map) refl
