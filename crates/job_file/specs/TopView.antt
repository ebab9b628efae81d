-- The tables that the code finds in a job.
use Rattle.std.specs.Prelude.{map, option_map}
use Rattle.toml.specs.View.{table_view}
use Rattle.job_file.specs.declared.top.Inner.{Inner as Found}
use Rattle.job_file.specs.Top.{Inner}

abbrev pub inner_view : Found → Inner
inner_view i = record {
  light = map (λ t. table_view t.now) i.light.items;
  dye = map (λ t. table_view t.now) i.dye.items;
  pair = map (λ t. table_view t.now) i.pair.items;
  batch = option_map (λ t. table_view t.now) i.batch;
}
