use Rattle.std.proofs.Common.{sym, subst, rules}
use Rattle.ks_curves.specs.declared.shape.Shape.{Shape}
use Rattle.ks_curves.specs.Dye.{CanJoin}
use Rattle.ks_curves.specs.Shape.{KeepsDye, kind_of}
use Rattle.ks_curves.proofs.dye.Dye.of.Goals as goal
use Rattle.ks_curves.proofs.dye.Dye.of.Goals.{in-Line, in-Broken}

pub invariant_of-result : goal.invariant_of-result
invariant_of-result c =
    let K : Shape → Type 0 = λ s. KeepsDye (record { kind = kind_of s; step = c.args.step; substrate = c.args.substrate; dyeings = c.args.dyeings.items }) s in
    elim c.match-kind.branch [
      | in-Line w ↦ subst K (sym w.shape-is) (record {
        is_dye = record {
          calibrates = record { step = c.requires.step; some = c.requires.some; dyeings = c.requires.dyeings; joins = tt };
          few = search rules;
          substrate = w.of.ensures.substrate;
          curves = search rules;
        };
        keeps = search rules;
      })
      | in-Broken w ↦ subst K (sym w.shape-is) (record {
        is_dye = record {
          calibrates = record { step = c.requires.step; some = c.requires.some; dyeings = c.requires.dyeings; joins = subst (λ k. CanJoin k c.args.dyeings.items) w.in-Broken.is c.requires.joins };
          few = search rules;
          substrate = w.of-in-Broken.ensures.substrate;
          curves = search rules;
        };
        keeps = search rules;
      })
    ]

pub returns-clause-held : goal.returns-clause-held
returns-clause-held c = (invariant_of-result c).is_dye
