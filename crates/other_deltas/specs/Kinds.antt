-- The constants of CIE94 for each kind of application.
use Rattle.delta_specs.specs.Cie94.{Application, graphic, textile}
use Rattle.other_deltas.specs.declared.kind.Kind94.{Kind94}
use Rattle.other_deltas.specs.declared.kind.Kind94.TheVariants.{Graphic, Textile}

abbrev pub application_of : Kind94 → Application
application_of Textile = textile
application_of Graphic = graphic
