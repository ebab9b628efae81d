-- The results of reading and resolving the texts of a generated job.
use Rattle.std.specs.Prelude.{ℕ, ◌*◌, pos, None, List, [], ◌∷◌, codes, map}
use Rattle.job_file.specs.Job.{Values}
use Rattle.job_file.specs.Resolve.{ResolvedJob, cost_of_dye, limits_of}
use Rattle.job_file.specs.declared.dye.JobDye.{JobDye}
use Rattle.spectral_tables.specs.WeightTable.{WeightTable}
use Rattle.demo_jobs.specs.declared.dyes.DrawnDye.{DrawnDye}
use Rattle.demo_jobs.specs.declared.weights.Light.{Light}
use Rattle.demo_jobs.specs.declared.weights.Light.TheVariants.{First, Second}
use Rattle.demo_jobs.specs.Cloths.{indices, substrate}
use Rattle.demo_jobs.specs.CurveText.{dye_name, dyeing_name}
use Rattle.demo_jobs.specs.Dyes.{drawn_dyes, hidden_recipe}
use Rattle.demo_jobs.specs.Standard.{dye_data, dyeing_units, standard}
use Rattle.demo_jobs.specs.WeightsText.{weights_at, white_of}

-- one unit in the last decimal place of a light's weights, as a number of hundred-thousandths
abbrev pub unit_of : Light → ℕ
unit_of First = 100000
unit_of Second = 10000

-- the weights of a light, in hundred-thousandths
unfoldable pub weight_table : Light → WeightTable
weight_table light = record {
  weights = map (λ index. map (λ weight. pos (weight * unit_of light)) (weights_at light index)) indices;
  white = map (λ weight. pos (weight * unit_of light)) (white_of light);
}

-- the weights of both lights
abbrev pub both_weights : List WeightTable
both_weights = weight_table First ∷ weight_table Second ∷ []

-- a dye of a job
abbrev pub job_dye : DrawnDye → JobDye
job_dye d = record {
  name = dye_name d.number;
  price = d.price;
  fee = d.fee;
  step = 10;
  least = 1;
  most = 400;
  dyeing = record { items = map (λ p. record { units = p.1; curve = dyeing_name d.number p.0 }) dyeing_units };
}

-- the job with these dyes
abbrev pub job_values : List DrawnDye → Values
job_values dyes = record {
  head = record {
    curves = codes "demo.csv";
    substrate = codes "sub";
    standard = codes "std";
    load = 1;
    max_dyes = 3;
    max_total = 8000;
    max_cost = None;
    budget = 20000;
  };
  light =
      record { weights = codes "demo1.csv"; tolerance = 1000; l10 = 20; c10 = 10 }
      ∷ record { weights = codes "demo2.csv"; tolerance = 1500; l10 = 20; c10 = 10 } ∷ [];
  dye = map job_dye dyes;
  pair = [];
  batch = None;
}

-- the resolved job of these draws
abbrev pub resolved_of : List ℕ → ResolvedJob
resolved_of draws = record {
  job = job_values (drawn_dyes draws);
  substrate = substrate;
  standard = standard (drawn_dyes draws) (hidden_recipe draws);
  dyes = map dye_data (drawn_dyes draws);
  grid = map cost_of_dye (map job_dye (drawn_dyes draws));
  limits = limits_of (job_values (drawn_dyes draws));
  weights = both_weights;
  batch = None;
}
