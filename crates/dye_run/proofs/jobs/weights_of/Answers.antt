use Rattle.std.proofs.Common.{◌≡◌, length, rules, arith}
use Rattle.std.proofs.lemmas.List.Elements.{All-push}
use Rattle.spectral_tables.specs.declared.grid.WaveGrid.TheVariants.{Ten}
use Rattle.spectral_tables.specs.Grid.{count_of}
use Rattle.spectral_tables.specs.WeightTable.{WeightTable}
use Rattle.run_core.specs.Judging.{stop_outcome}
use Rattle.dye_run.proofs.JobTables.{weights_all, weights_fault, weights_more}
use Rattle.dye_run.proofs.jobs.weights_of.Goals as goal

pub returns-in_err-table-clause-is : goal.returns-in_err-table-clause-is
returns-in_err-table-clause-is c =
    let refused = weights_fault c.args.lights.now c.args.bytes_read.now c.loop-i.i c.loop-i.weights.items c.index-lights-i.result c.index-bytes_read-i.result (omega arith) (omega (arith, c.requires.count)) c.index-lights-i.is c.index-bytes_read-i.is (stop_outcome c.in_err-table.field-0.0)
    (rw (c.as_str.ensures, c.as_deref.ensures.value) at c.in_err-table.ensures.is) c.loop-i.invariant.so_far in
    search rules

pub loop-i-preserved : goal.loop-i-preserved
loop-i-preserved c =
    record {
      so_far = weights_more c.args.lights.now c.args.bytes_read.now c.loop-i.i c.loop-i.weights.items c.index-lights-i.result c.index-bytes_read-i.result (omega arith) (omega (arith, c.requires.count)) c.index-lights-i.is c.index-bytes_read-i.is c.in_ok-table.table c.push.new.self.items
          (rw (c.as_str.ensures, c.as_deref.ensures.value) at c.in_ok-table.ensures.is) c.in_ok-push.ensures.items c.loop-i.invariant.so_far;
      count = search rules;
      waves = rw c.in_ok-push.ensures.items (All-push (λ (w : WeightTable). length w.weights ≡ count_of Ten) c.loop-i.weights.items c.in_ok-table.table c.loop-i.invariant.waves c.in_ok-table.ensures.waves);
    }

pub returns-clause-is : goal.returns-clause-is
returns-clause-is c = weights_all c.args.lights.now _ c.loop-i.i c.loop-i.weights.items (omega arith) c.loop-i.invariant.so_far
