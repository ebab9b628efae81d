-- The refusal that a command stops with is its outcome.
use Rattle.std.proofs.Common.{◌≡◌, Option, Some, IfSome, sym, subst}
use Rattle.shelf_io.specs.View.{ShelfView}
use Rattle.shade_report.specs.declared.refusal.Refusal.{Refusal}
use Rattle.run_core.specs.Asking.{Asking}
use Rattle.run_core.specs.Endings.{Reaches}
use Rattle.run_core.specs.Judging.{Stops, stop_outcome}
use Rattle.run_core.specs.Outcome.{Outcome, refusal_outcome}
use Rattle.run_core.specs.declared.stop.Stop.{Stop}

pub reached_by : (asking : Asking) (before after : ShelfView) (why : Stop) (refusal : Refusal) → Some (refusal_outcome refusal) ≡ stop_outcome why → Stops asking before after why → Reaches asking before after (refusal_outcome refusal)
reached_by asking before after why refusal is stops =
    let P : Option Outcome → Type 0 = λ w. IfSome w (λ o. Reaches asking before after o) in subst P (sym is) stops
