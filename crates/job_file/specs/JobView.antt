-- The values of a job that the code holds.
use Rattle.job_file.specs.declared.job.Job.{Job}
use Rattle.job_file.specs.Job.{Values}

abbrev pub job_view : Job → Values
job_view j = record {
  head = record {
    curves = j.curves;
    substrate = j.substrate;
    standard = j.standard;
    load = j.load;
    max_dyes = j.max_dyes;
    max_total = j.max_total;
    max_cost = j.max_cost;
    budget = j.budget;
  };
  light = j.light.items;
  dye = j.dye.items;
  pair = j.pair.items;
  batch = j.batch;
}
