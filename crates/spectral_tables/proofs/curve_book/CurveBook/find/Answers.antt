use Rattle.std.proofs.Common.{◌≡◌, length, List, ℕ, option_map, Bor, sym, ap, ◌∙◌, subst}
use Rattle.spectral_tables.specs.Curve.{IsCurve}
use Rattle.spectral_tables.specs.CurveBook.{curve_named, wave_count, IsBook}
use Rattle.spectral_tables.proofs.BookFacts.{named-book_of, holds-found}
use Rattle.spectral_tables.proofs.curve_book.CurveBook.find.Goals as goal

found : (c : goal.After-get) → option_map (λ (c : Bor (List ℕ)). c.now) c.get.result ≡ curve_named c.args.name.now c.args.self.now
found c =
    rw c.as_bytes.ensures.value at c.get.ensures.value
    ∙ sym (named-book_of c.args.name.now c.self.inside.curves.entries)
    ∙ ap (curve_named c.args.name.now) c.self.view_is

kept : (c : goal.After-get) → IsBook c.args.self.now
kept c = subst IsBook c.self.view_is c.self.invariant

pub returns-clause-is : goal.returns-clause-is
returns-clause-is c = found c

pub returns-clause-curve : goal.returns-clause-curve
returns-clause-curve c = holds-found IsCurve c.args.name.now c.args.self.now c.get.result (found c) (kept c).curves

pub returns-clause-waves : goal.returns-clause-waves
returns-clause-waves c = holds-found (λ m. length m ≡ wave_count c.args.self.now) c.args.name.now c.args.self.now c.get.result (found c) (kept c).equal
