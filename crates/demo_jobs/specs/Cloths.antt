-- The curves of the undyed cloth and of the dyeings. Wavelength index k stands for 400 + 10 * k nm.
use Rattle.std.specs.Prelude.{ℕ, ◌+◌, ◌-◌, ◌*◌, ◌/◌, max, List, map}
use Rattle.std.specs.Int.{abs_diff}
use Rattle.std.specs.List.{range_with_len}
use Rattle.demo_jobs.specs.declared.dyes.DrawnDye.{DrawnDye}

-- the height of a triangle at an index: h at the index top, one less with each step away from it,
-- and never below 0
abbrev pub triangle : ℕ → ℕ → ℕ → ℕ
triangle h top index = h - abs_diff index top

-- the wavelength indices of a curve
unfoldable pub indices : List ℕ
indices = range_with_len 0 31

-- the reflectance of the undyed cloth, in millionths
abbrev pub substrate_at : ℕ → ℕ
substrate_at index = 750000 + 3000 * index

unfoldable pub substrate : List ℕ
substrate = map substrate_at indices

-- how strongly a dye absorbs light at a wavelength index
abbrev pub strength : DrawnDye → ℕ → ℕ
strength dye index = dye.height * triangle 9 dye.centre index / 9 + 5

-- the reflectance of the cloth with a dye, by its units, in millionths: at least 100
abbrev pub dyed_at : DrawnDye → ℕ → ℕ → ℕ
dyed_at dye units index = max 100 (substrate_at index * 1000 / (1000 + strength dye index * units / 100))

unfoldable pub dyed : DrawnDye → ℕ → List ℕ
dyed dye units = map (dyed_at dye units) indices
